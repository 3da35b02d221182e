use Rattle.std.proofs.Common.{◌≡◌, [], ap, inl, subst, sym, ◌∙◌}
use Rattle.std.specs.Prelude.{IsTrue}
use Rattle.container_pack.proofs.PackerLemmas.{on_err}
use Rattle.sd_base.specs.Books.{BookState, chunks_in, is_live}
use Rattle.store_core.specs.Counting.{AreCounted}
use Rattle.store_core.specs.StoreStates.{StoreState}
use Rattle.store_core.proofs.DropLemmas.{placed-left}
use Rattle.store_core.proofs.Passing.{counts-as, counts-none, edge-failed, memory-unfailed}
use Rattle.store_core.proofs.SessionLemmas.{committed-unflushed, nothing-committed}
use Rattle.store_core.proofs.store.Store.drop_live.Goals as goal

pub returns-in_err-bytes-clause-not_written : goal.returns-in_err-bytes-clause-not_written
returns-in_err-bytes-clause-not_written g c = on_err c.from_residual.result (inl (nothing-committed _ _ _))

pub invariant_of-self-in_err-commit_bytes : goal.invariant_of-self-in_err-commit_bytes
invariant_of-self-in_err-commit_bytes g c =
    let inside = c.self.inside in
    let added = c.in_ok-add.ensures.added in
    let sessions = ap (λ (book : BookState). book.sessions) added in
    let none : inside.offered.items ≡ [] = ap (λ (s : StoreState). s.offered) c.self.view_is ∙ c.requires.none_offered in
    let live = subst (λ (s : StoreState). IsTrue (is_live s.opened.book.sessions c.args.session)) (sym c.self.view_is) c.requires.live in
    let placed = placed-left inside.book.sessions c.add.new.self.sessions c.args.session inside.offered.items
    inside.generation inside.spots.items inside.packer c.commit_bytes.new.packer inside.index live sessions
    c.self.invariant.1 c.commit_bytes.ensures.generation c.commit_bytes.ensures.behind in (
      ap (λ (book : BookState). book.max) added ∙ c.self.invariant.0,
      placed,
      committed-unflushed (chunks_in c.add.new.self.sessions) inside.offered.items inside.generation inside.spots.items
          c.commit_bytes.new.packer inside.index placed none,
      subst (λ own. AreCounted own c.uncount-places.new.counts) (sym sessions) c.uncount-places.ensures.counted,
    )

pub invariant_of-self-2 : goal.invariant_of-self-2
invariant_of-self-2 g c =
    let inside = c.self.inside in
    let added = c.in_ok-add.ensures.added in
    let sessions = ap (λ (book : BookState). book.sessions) added in
    let none : inside.offered.items ≡ [] = ap (λ (s : StoreState). s.offered) c.self.view_is ∙ c.requires.none_offered in
    let live = subst (λ (s : StoreState). IsTrue (is_live s.opened.book.sessions c.args.session)) (sym c.self.view_is) c.requires.live in
    let placed = placed-left inside.book.sessions c.add.new.self.sessions c.args.session inside.offered.items
    inside.generation inside.spots.items inside.packer c.commit_bytes.new.packer inside.index live sessions
    c.self.invariant.1 c.commit_bytes.ensures.generation c.commit_bytes.ensures.behind in (
      ap (λ (book : BookState). book.max) added ∙ c.self.invariant.0,
      placed,
      committed-unflushed (chunks_in c.add.new.self.sessions) inside.offered.items inside.generation inside.spots.items
          c.commit_bytes.new.packer inside.index placed none,
      subst (λ own. AreCounted own c.uncount-places.new.counts) (sym sessions) c.uncount-places.ensures.counted,
    )

pub returns-in_err-bytes-clause-counts : goal.returns-in_err-bytes-clause-counts
returns-in_err-bytes-clause-counts g c = counts-none (memory-unfailed c.from_residual.result c.from_residual.ensures.1)

pub returns-in_err-add-clause-counts : goal.returns-in_err-add-clause-counts
returns-in_err-add-clause-counts g c = counts-none (memory-unfailed c.from_residual-in_err-add.result c.from_residual-in_err-add.ensures.1)

pub returns-in_err-commit_bytes-clause-counts : goal.returns-in_err-commit_bytes-clause-counts
returns-in_err-commit_bytes-clause-counts g c = counts-as
    (edge-failed c.in_err-commit_bytes.field-0.0 c.from_residual-in_err-commit_bytes.result c.from_residual-in_err-commit_bytes.ensures.1)
    c.in_err-commit_bytes.ensures.counts

pub returns-clause-counts : goal.returns-clause-counts
returns-clause-counts g c = counts-as (λ is. absurd cc) c.commit_bytes.ensures.counts
