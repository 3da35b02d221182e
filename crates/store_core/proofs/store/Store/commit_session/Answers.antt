use Rattle.std.proofs.Common.{rules, ◌≡◌, ◌++◌, ◌≤◌, arith, inl, ap, subst, sym, ◌∙◌, length}
use Rattle.std.specs.List.{All}
use Rattle.container_pack.specs.Packer.{IsUnflushed}
use Rattle.container_pack.proofs.PackerLemmas.{on_err}
use Rattle.sd_base.specs.Books.{chunks_in, places_in, BookState, MayIngest}
use Rattle.sd_base.specs.Records.{IsIngestWithinLimits}
use Rattle.sd_base.specs.declared.record.IngestRecord.{IngestRecord}
use Rattle.sd_base.specs.declared.record.NewChunk.{NewChunk}
use Rattle.store_core.specs.StoreFields.{ArePlaced, AreUnflushed}
use Rattle.store_core.specs.Commits.{AreFlushed}
use Rattle.store_core.specs.Counting.{AreCounted}
use Rattle.store_core.specs.Recipes.{IsInOrder}
use Rattle.store_core.specs.StoreStates.{StoreState, chunks_of_store}
use Rattle.store_core.proofs.CommitLemmas.{room-in}
use Rattle.store_core.proofs.CountLemmas.{committed-counted, counted-room, reserved-counted, reserved-known}
use Rattle.store_core.proofs.Passing.{counts-as, counts-none, edge-failed, memory-fails, memory-unfailed, none-ok}
use Rattle.store_core.proofs.SessionLemmas.{nothing-committed, placed-committed, session-follows, session-within, committed-unflushed, offered-flushed}
use Rattle.store_core.proofs.store.Store.commit_session.Goals as goal

pub encode_record-requires : goal.encode_record-requires
encode_record-requires g c =
    let inside = c.self.inside in
    let placed = subst (λ (s : StoreState). ArePlaced (chunks_of_store s) s.opened.head.generation inside.spots.items inside.packer inside.index)
    c.self.view_is c.self.invariant.1 in
    subst IsIngestWithinLimits (sym c.in_ok-session_record.ensures)
    (session-within c.args.self.now _ _ _ _ placed c.args.name.now c.args.length c.args.recipe.now c.requires.room)

pub add-requires-clause-follows : goal.add-requires-clause-follows
add-requires-clause-follows g c =
    let inside = c.self.inside in
    let now = c.args.self.now in
    let placed = subst (λ (s : StoreState). ArePlaced (chunks_of_store s) s.opened.head.generation inside.spots.items inside.packer inside.index)
    c.self.view_is c.self.invariant.1 in
    let max : inside.book.max ≡ now.opened.head.params.max =
    c.self.invariant.0 ∙ ap (λ (s : StoreState). s.opened.head.params.max) c.self.view_is in
    subst (λ (s : StoreState). MayIngest inside.book.max s.opened.book.sessions c.in_ok-session_record.field-0) (sym c.self.view_is)
    (subst (λ (entry : IngestRecord). MayIngest inside.book.max now.opened.book.sessions entry) (sym c.in_ok-session_record.ensures)
    (session-follows now _ _ _ _ placed c.args.name.now c.args.length c.args.recipe.now c.requires.room inside.book.max
    (subst (λ n. All (λ (chunk : NewChunk). chunk.length ≤ n) now.offered) (sym max) c.requires.short)))

-- the book is as it was, and there are counts for the chunks that were offered
pub invariant_of-self-in_err-add : goal.invariant_of-self-in_err-add
invariant_of-self-in_err-add g c =
    let inside = c.self.inside in
    let counts = c.reserve.new.self in
    subst (λ (book : BookState). (book.max ≡ inside.params.max)
    × ArePlaced (chunks_in book.sessions ++ inside.offered.items) inside.generation inside.spots.items inside.packer inside.index
    × AreUnflushed (length (chunks_in book.sessions)) inside.spots.items inside.packer × AreCounted book.sessions counts)
    (sym c.in_err-add.ensures.unchanged) (
      c.self.invariant.0,
      c.self.invariant.1,
      c.self.invariant.2,
      reserved-counted inside.book.sessions inside.counts counts c.count-chunks.result c.self.invariant.3
          c.in_ok-reserve.ensures.reserved,
    )

pub add-requires-2-clause-known : goal.add-requires-2-clause-known
add-requires-2-clause-known g c =
    let now = c.args.self.now in
    let order = subst (λ n. IsInOrder (length (chunks_in now.opened.book.sessions)) c.args.recipe.now n)
    (sym c.count-chunks.ensures.count) c.requires.in_order in
    reserved-known (length (chunks_in now.opened.book.sessions)) c.count-chunks.result c.args.recipe.now c.self.inside.counts
    c.reserve.new.self order c.in_ok-reserve.ensures.reserved

pub add-requires-2-clause-room : goal.add-requires-2-clause-room
add-requires-2-clause-room g c =
    let inside = c.self.inside in
    let now = c.args.self.now in
    let few = (room-in now.opened.book c.args.name.now (length c.args.recipe.now) c.requires.room).few_places in
    let same = ap (λ (s : StoreState). places_in s.opened.book.sessions) c.self.view_is in
    counted-room inside.book.sessions c.reserve.new.self (length c.args.recipe.now)
    (reserved-counted inside.book.sessions inside.counts c.reserve.new.self c.count-chunks.result c.self.invariant.3
    c.in_ok-reserve.ensures.reserved) (omega (arith, few, same))

pub invariant_of-self-in_err-commit_bytes : goal.invariant_of-self-in_err-commit_bytes
invariant_of-self-in_err-commit_bytes g c =
    let inside = c.self.inside in
    let added = c.in_ok-add.ensures.added in
    let fresh = ap (λ (entry : IngestRecord). entry.fresh) c.in_ok-session_record.ensures
    ∙ ap (λ (s : StoreState). s.offered) (sym c.self.view_is) in
    let placed = placed-committed inside.book.sessions c.add.new.self.sessions c.in_ok-session_record.field-0
    inside.offered.items c.clear.new.self.items inside.generation inside.spots.items inside.packer
    c.commit_bytes.new.packer inside.index c.self.invariant.1 (ap (λ (book : BookState). book.sessions) added) fresh
    c.clear.ensures.items c.commit_bytes.ensures.generation c.commit_bytes.ensures.behind in (
      ap (λ (book : BookState). book.max) added ∙ c.self.invariant.0,
      placed,
      committed-unflushed (chunks_in c.add.new.self.sessions) c.clear.new.self.items inside.generation inside.spots.items
          c.commit_bytes.new.packer inside.index placed c.clear.ensures.items,
      committed-counted inside.book.sessions c.add.new.self.sessions c.in_ok-session_record.field-0 inside.offered.items
          c.args.recipe.now inside.counts c.reserve.new.self c.add-2.new.self _ c.count-chunks.result c.self.invariant.3
          (ap (λ (book : BookState). book.sessions) added) fresh
          (ap (λ (entry : IngestRecord). entry.recipe) c.in_ok-session_record.ensures)
          (c.count-chunks.ensures.count ∙ ap (λ (s : StoreState). length (chunks_of_store s)) (sym c.self.view_is))
          c.in_ok-reserve.ensures.reserved
          (subst (λ n. IsInOrder (length (chunks_in c.args.self.now.opened.book.sessions)) c.args.recipe.now n)
          (sym c.count-chunks.ensures.count) c.requires.in_order)
          c.add-2.ensures.added c.add-2.ensures.chunks c.add-2.ensures.total,
    )

pub invariant_of-self-2 : goal.invariant_of-self-2
invariant_of-self-2 g c =
    let inside = c.self.inside in
    let added = c.in_ok-add.ensures.added in
    let fresh = ap (λ (entry : IngestRecord). entry.fresh) c.in_ok-session_record.ensures
    ∙ ap (λ (s : StoreState). s.offered) (sym c.self.view_is) in
    let placed = placed-committed inside.book.sessions c.add.new.self.sessions c.in_ok-session_record.field-0
    inside.offered.items c.clear.new.self.items inside.generation inside.spots.items inside.packer
    c.commit_bytes.new.packer inside.index c.self.invariant.1 (ap (λ (book : BookState). book.sessions) added) fresh
    c.clear.ensures.items c.commit_bytes.ensures.generation c.commit_bytes.ensures.behind in (
      ap (λ (book : BookState). book.max) added ∙ c.self.invariant.0,
      placed,
      committed-unflushed (chunks_in c.add.new.self.sessions) c.clear.new.self.items inside.generation inside.spots.items
          c.commit_bytes.new.packer inside.index placed c.clear.ensures.items,
      committed-counted inside.book.sessions c.add.new.self.sessions c.in_ok-session_record.field-0 inside.offered.items
          c.args.recipe.now inside.counts c.reserve.new.self c.add-2.new.self _ c.count-chunks.result c.self.invariant.3
          (ap (λ (book : BookState). book.sessions) added) fresh
          (ap (λ (entry : IngestRecord). entry.recipe) c.in_ok-session_record.ensures)
          (c.count-chunks.ensures.count ∙ ap (λ (s : StoreState). length (chunks_of_store s)) (sym c.self.view_is))
          c.in_ok-reserve.ensures.reserved
          (subst (λ n. IsInOrder (length (chunks_in c.args.self.now.opened.book.sessions)) c.args.recipe.now n)
          (sym c.count-chunks.ensures.count) c.requires.in_order)
          c.add-2.ensures.added c.add-2.ensures.chunks c.add-2.ensures.total,
    )

pub returns-clause-flushed : goal.returns-clause-flushed
returns-clause-flushed g c =
    let inside = c.self.inside in
    let now = c.args.self.now in
    let loose = g.F.Shelf.loose c.commit_bytes.new.shelf in
    offered-flushed now now.opened.head.generation inside.spots.items inside.packer inside.index loose
    (subst (λ (s : StoreState). ArePlaced (chunks_of_store s) s.opened.head.generation inside.spots.items inside.packer inside.index)
    c.self.view_is c.self.invariant.1)
    (subst (λ (s : StoreState). AreUnflushed (length (chunks_in s.opened.book.sessions)) inside.spots.items inside.packer)
    c.self.view_is c.self.invariant.2)
    (subst (λ (s : StoreState). AreFlushed s.opened.head.generation (IsUnflushed inside.packer) loose)
    c.self.view_is c.in_ok-commit_bytes.ensures.flushed)

pub returns-in_err-commit_bytes-clause-counts : goal.returns-in_err-commit_bytes-clause-counts
returns-in_err-commit_bytes-clause-counts g c = counts-as
    (edge-failed c.in_err-commit_bytes.field-0.0 c.from_residual-in_err-commit_bytes.result c.from_residual-in_err-commit_bytes.ensures.1)
    c.in_err-commit_bytes.ensures.counts

pub returns-clause-counts : goal.returns-clause-counts
returns-clause-counts g c = counts-as (λ is. absurd cc) c.commit_bytes.ensures.counts

pub returns-in_err-session_record : goal.returns-in_err-session_record
returns-in_err-session_record g c = record {
  number = none-ok _ c.from_residual.result c.from_residual.ensures.0;
  committed = none-ok _ c.from_residual.result c.from_residual.ensures.0;
  written = none-ok _ c.from_residual.result c.from_residual.ensures.0;
  flushed = none-ok _ c.from_residual.result c.from_residual.ensures.0;
  sealed = none-ok _ c.from_residual.result c.from_residual.ensures.0;
  lawful = none-ok _ c.from_residual.result c.from_residual.ensures.0;
  refused = memory-fails c.from_residual.result c.from_residual.ensures.1;
  not_written = on_err c.from_residual.result (inl (nothing-committed _ _ _));
  head = search rules;
  limit = search rules;
  counts = counts-none (memory-unfailed c.from_residual.result c.from_residual.ensures.1);
}

pub returns-in_err-bytes : goal.returns-in_err-bytes
returns-in_err-bytes g c = record {
  number = none-ok _ c.from_residual-in_err-bytes.result c.from_residual-in_err-bytes.ensures.0;
  committed = none-ok _ c.from_residual-in_err-bytes.result c.from_residual-in_err-bytes.ensures.0;
  written = none-ok _ c.from_residual-in_err-bytes.result c.from_residual-in_err-bytes.ensures.0;
  flushed = none-ok _ c.from_residual-in_err-bytes.result c.from_residual-in_err-bytes.ensures.0;
  sealed = none-ok _ c.from_residual-in_err-bytes.result c.from_residual-in_err-bytes.ensures.0;
  lawful = none-ok _ c.from_residual-in_err-bytes.result c.from_residual-in_err-bytes.ensures.0;
  refused = memory-fails c.from_residual-in_err-bytes.result c.from_residual-in_err-bytes.ensures.1;
  not_written = on_err c.from_residual-in_err-bytes.result (inl (nothing-committed _ _ _));
  head = search rules;
  limit = search rules;
  counts = counts-none (memory-unfailed c.from_residual-in_err-bytes.result c.from_residual-in_err-bytes.ensures.1);
}

pub returns-in_err-add : goal.returns-in_err-add
returns-in_err-add g c = record {
  number = none-ok _ c.from_residual-in_err-add.result c.from_residual-in_err-add.ensures.0;
  committed = none-ok _ c.from_residual-in_err-add.result c.from_residual-in_err-add.ensures.0;
  written = none-ok _ c.from_residual-in_err-add.result c.from_residual-in_err-add.ensures.0;
  flushed = none-ok _ c.from_residual-in_err-add.result c.from_residual-in_err-add.ensures.0;
  sealed = none-ok _ c.from_residual-in_err-add.result c.from_residual-in_err-add.ensures.0;
  lawful = none-ok _ c.from_residual-in_err-add.result c.from_residual-in_err-add.ensures.0;
  refused = memory-fails c.from_residual-in_err-add.result c.from_residual-in_err-add.ensures.1;
  not_written = on_err c.from_residual-in_err-add.result (inl (nothing-committed _ _ _));
  head = search rules;
  limit = search rules;
  counts = counts-none (memory-unfailed c.from_residual-in_err-add.result c.from_residual-in_err-add.ensures.1);
}

pub returns-in_err-reserve : goal.returns-in_err-reserve
returns-in_err-reserve g c = record {
  number = none-ok _ c.from_residual-in_err-reserve.result c.from_residual-in_err-reserve.ensures.0;
  committed = none-ok _ c.from_residual-in_err-reserve.result c.from_residual-in_err-reserve.ensures.0;
  written = none-ok _ c.from_residual-in_err-reserve.result c.from_residual-in_err-reserve.ensures.0;
  flushed = none-ok _ c.from_residual-in_err-reserve.result c.from_residual-in_err-reserve.ensures.0;
  sealed = none-ok _ c.from_residual-in_err-reserve.result c.from_residual-in_err-reserve.ensures.0;
  lawful = none-ok _ c.from_residual-in_err-reserve.result c.from_residual-in_err-reserve.ensures.0;
  refused = memory-fails c.from_residual-in_err-reserve.result c.from_residual-in_err-reserve.ensures.1;
  not_written = on_err c.from_residual-in_err-reserve.result (inl (nothing-committed _ _ _));
  head = search rules;
  limit = search rules;
  counts = counts-none (memory-unfailed c.from_residual-in_err-reserve.result c.from_residual-in_err-reserve.ensures.1);
}
