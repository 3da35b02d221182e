use Rattle.std.proofs.Common.{length, rules, subst}
use Rattle.edge_traits.specs.Sink.{Appends, AppendsPrefix}
use Rattle.store_core.specs.StoreStates.{chunks_of_store}
use Rattle.store_core.proofs.Passing.{counts-as, counts-none, counts-then, fault-passed, memory-unfailed, memory-unsunk, reads-as, reads-none, reads-then, sink-unfailed}
use Rattle.store_core.proofs.RestoreLemmas.{all-below, at-err, end-part, end-restored, none-part, on-err, on-ok, place-damaged, place-held, place-part, restores-passed}
use Rattle.store_core.proofs.StoreLemmas.{damaged-passed, same-told}
use Rattle.store_core.proofs.store.Store.restore_places.Goals as goal

pub hold_back-requires-clause-within : goal.hold_back-requires-clause-within
hold_back-requires-clause-within g c κs within =
    all-below (length (chunks_of_store c.args.self.now)) c.args.recipe.now c.loop-number.number-index c.requires.known
    c.loop-number-test.true

pub returns-in_err-held-clause-prefix : goal.returns-in_err-held-clause-prefix
returns-in_err-held-clause-prefix g c =
    at-err c.from_residual.result
    (none-part g.N.Namer.name_of (g.F.Shelf.files c.args.shelf.now) c.args.self.now c.args.recipe.now
    (g.K.Sink.written c.args.sink.now))

pub returns-in_err-hold_back-clause-damaged : goal.returns-in_err-hold_back-clause-damaged
returns-in_err-hold_back-clause-damaged g c = λ damage is.
    let told = g.F.Shelf.files c.args.shelf.now in
    let now = g.F.Shelf.files c.loop-number.shelf in
    place-damaged g.N.Namer.name_of c.args.self.now c.args.recipe.now c.loop-number.number-index c.loop-number-test.true
    c.loop-number.held.items (g.K.Sink.written c.args.sink.now) (g.K.Sink.written c.loop-number.sink)
    (g.K.Sink.written c.hold_back.new.sink) damage told now
    (same-told told now c.loop-number.invariant.reads.same_files) c.loop-number.invariant.held
    (c.in_err-hold_back.ensures.damaged damage
    (damaged-passed c.in_err-hold_back.field-0.0 c.from_residual-in_err-hold_back.result damage is
    c.from_residual-in_err-hold_back.ensures.1))

pub returns-in_err-hold_back-clause-prefix : goal.returns-in_err-hold_back-clause-prefix
returns-in_err-hold_back-clause-prefix g c =
    let told = g.F.Shelf.files c.args.shelf.now in
    let now = g.F.Shelf.files c.loop-number.shelf in
    at-err c.from_residual-in_err-hold_back.result
    (place-part g.N.Namer.name_of c.args.self.now c.args.recipe.now c.loop-number.number-index c.loop-number-test.true
    c.loop-number.held.items (g.K.Sink.written c.args.sink.now) (g.K.Sink.written c.loop-number.sink)
    (g.K.Sink.written c.hold_back.new.sink) told now
    (same-told told now c.loop-number.invariant.reads.same_files) c.loop-number.invariant.held
    c.in_err-hold_back.ensures.prefix)

pub returns-in_err-hold_back-clause-refused : goal.returns-in_err-hold_back-clause-refused
returns-in_err-hold_back-clause-refused g c =
    restores-passed c.in_err-hold_back.field-0.0 c.from_residual-in_err-hold_back.result c.in_err-hold_back.ensures.refused
    c.from_residual-in_err-hold_back.ensures.1

pub loop-number-preserved : goal.loop-number-preserved
loop-number-preserved g c = record {
  unchanged = search rules;
  nothing = search rules;
  reads = reads-then c.loop-number.invariant.reads (reads-as (λ never. absurd never) c.hold_back.ensures.reads);
  counts = counts-then c.loop-number.invariant.counts (counts-as (λ never. absurd never) c.hold_back.ensures.counts);
  held =
      let told = g.F.Shelf.files c.args.shelf.now in
      let now = g.F.Shelf.files c.loop-number.shelf in
      place-held g.N.Namer.name_of c.args.self.now c.args.recipe.now c.loop-number.number-index c.loop-number-test.true
      c.loop-number.held.items (g.K.Sink.written c.args.sink.now) (g.K.Sink.written c.loop-number.sink)
      (g.K.Sink.written c.hold_back.new.sink) c.hold_back.new.held.items told now
      (same-told told now c.loop-number.invariant.reads.same_files) c.loop-number.invariant.held
      c.in_ok-hold_back.ensures.held;
}

pub returns-clause-restored : goal.returns-clause-restored
returns-clause-restored g c =
    let before = g.K.Sink.written c.loop-number.sink in
    let after = g.K.Sink.written c.write_piece.new.sink in
    on-ok c.write_piece.result
    (λ written. end-restored g.N.Namer.name_of (g.F.Shelf.files c.args.shelf.now) c.args.self.now c.args.recipe.now
    c.loop-number.held.items c.loop-number.number-index (g.K.Sink.written c.args.sink.now) before after
    c.loop-number-test.false c.loop-number.invariant.held (subst (Appends before after) c.deref.ensures.value written))
    c.write_piece.ensures.written

pub returns-clause-prefix : goal.returns-clause-prefix
returns-clause-prefix g c =
    let before = g.K.Sink.written c.loop-number.sink in
    let after = g.K.Sink.written c.write_piece.new.sink in
    on-err c.write_piece.result
    (λ prefix. end-part g.N.Namer.name_of (g.F.Shelf.files c.args.shelf.now) c.args.self.now c.args.recipe.now
    c.loop-number.held.items c.loop-number.number-index (g.K.Sink.written c.args.sink.now) before after
    c.loop-number-test.false c.loop-number.invariant.held (subst (AppendsPrefix before after) c.deref.ensures.value prefix))
    c.write_piece.ensures.prefix

pub returns-in_err-held-clause-reads : goal.returns-in_err-held-clause-reads
returns-in_err-held-clause-reads g c = reads-none (memory-unfailed c.from_residual.result c.from_residual.ensures.1)

pub returns-in_err-held-clause-counts : goal.returns-in_err-held-clause-counts
returns-in_err-held-clause-counts g c = counts-none (memory-unsunk c.from_residual.result c.from_residual.ensures.1)

pub returns-in_err-hold_back-clause-reads : goal.returns-in_err-hold_back-clause-reads
returns-in_err-hold_back-clause-reads g c = reads-then c.loop-number.invariant.reads
    (reads-as (fault-passed c.in_err-hold_back.field-0.0 c.from_residual-in_err-hold_back.result c.from_residual-in_err-hold_back.ensures.1)
    c.in_err-hold_back.ensures.reads)

pub returns-in_err-hold_back-clause-counts : goal.returns-in_err-hold_back-clause-counts
returns-in_err-hold_back-clause-counts g c = counts-then c.loop-number.invariant.counts
    (counts-as (fault-passed c.in_err-hold_back.field-0.0 c.from_residual-in_err-hold_back.result c.from_residual-in_err-hold_back.ensures.1)
    c.in_err-hold_back.ensures.counts)

pub returns-in_err-hold_back-clause-kind : goal.returns-in_err-hold_back-clause-kind
returns-in_err-hold_back-clause-kind g c = λ damage is.
    c.in_err-hold_back.ensures.kind damage
    (fault-passed c.in_err-hold_back.field-0.0 c.from_residual-in_err-hold_back.result c.from_residual-in_err-hold_back.ensures.1 is)

pub returns-clause-reads : goal.returns-clause-reads
returns-clause-reads g c = reads-as (sink-unfailed c.write_piece.result c.write_piece.ensures.refused) c.loop-number.invariant.reads

pub returns-clause-counts : goal.returns-clause-counts
returns-clause-counts g c = counts-then c.loop-number.invariant.counts c.write_piece.ensures.counts
