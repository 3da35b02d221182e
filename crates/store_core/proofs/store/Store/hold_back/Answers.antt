use Rattle.std.proofs.Common.{ap, subst, refl, ◌++◌, ◌∙◌}
use Rattle.std.specs.Prelude.{Err}
use Rattle.edge_traits.specs.Sink.{Appends, AppendsPrefix}
use Rattle.store_core.proofs.Passing.{counts-as, counts-none, fault-passed, memory-unfailed, memory-unsunk, reads-as, sink-unfailed}
use Rattle.store_core.proofs.RestoreLemmas.{at-err, damaged-before, nothing-before, one-part, part-before}
use Rattle.store_core.proofs.StoreLemmas.{damaged-passed}
use Rattle.store_core.proofs.store.Store.hold_back.Goals as goal

pub returns-in_err-write_piece-in-Err-clause-prefix : goal.returns-in_err-write_piece-in-Err-clause-prefix
returns-in_err-write_piece-in-Err-clause-prefix g c =
    let before = g.K.Sink.written c.args.sink.now in
    let after = g.K.Sink.written c.write_piece.new.sink in
    at-err c.from_residual.result
    (part-before g.N.Namer.name_of (g.F.Shelf.files c.args.shelf.now) c.args.self.now c.args.number c.args.held.now.items
    before after (subst (AppendsPrefix before after) c.deref.ensures.value c.in_err-write_piece-in-Err.ensures.prefix))

pub returns-in-Err-clause-damaged : goal.returns-in-Err-clause-damaged
returns-in-Err-clause-damaged g c = λ damage is.
    let before = g.K.Sink.written c.args.sink.now in
    let after = g.K.Sink.written c.write_piece.new.sink in
    damaged-before g.N.Namer.name_of (g.F.Shelf.files c.args.shelf.now) c.args.self.now c.args.number damage
    c.args.held.now.items before after
    (c.in-Err.ensures.damaged damage (damaged-passed c.in-Err.fault (Err c.in-Err.fault) damage is refl))
    (subst (Appends before after) c.deref.ensures.value c.in_ok-write_piece-in-Err.ensures.written)

pub returns-in_err-extend_from_slice-clause-prefix : goal.returns-in_err-extend_from_slice-clause-prefix
returns-in_err-extend_from_slice-clause-prefix g c =
    at-err c.from_residual-in_err-extend_from_slice.result
    (nothing-before g.N.Namer.name_of (g.F.Shelf.files c.args.shelf.now) c.args.self.now c.args.number
    c.args.held.now.items (g.K.Sink.written c.args.sink.now))

pub returns-in_err-write_piece-clause-prefix : goal.returns-in_err-write_piece-clause-prefix
returns-in_err-write_piece-clause-prefix g c =
    let before = g.K.Sink.written c.args.sink.now in
    let after = g.K.Sink.written c.write_piece-then-len-ge-PIECE_LEN.new.sink in
    let held = c.args.held.now.items in
    let all = c.deref-then-len-ge-PIECE_LEN.ensures.value ∙ c.in_ok-extend_from_slice.ensures.items
    ∙ ap (λ bytes. held ++ bytes) c.deref-2.ensures.value in
    at-err c.from_residual-in_err-write_piece.result
    (one-part g.N.Namer.name_of (g.F.Shelf.files c.args.shelf.now) c.args.self.now c.args.number c.in-Ok.chunk.items
    held before after c.in-Ok.ensures.bytes c.in-Ok.ensures.intact
    (subst (AppendsPrefix before after) all c.in_err-write_piece.ensures.prefix))

pub returns-in_err-write_piece-in-Err-clause-reads : goal.returns-in_err-write_piece-in-Err-clause-reads
returns-in_err-write_piece-in-Err-clause-reads g c = reads-as (λ is. absurd (sink-unfailed (Err c.in_err-write_piece-in-Err.field-0.0) c.in_err-write_piece-in-Err.ensures.refused
    (fault-passed c.in_err-write_piece-in-Err.field-0.0 c.from_residual.result c.from_residual.ensures.1 is)))
    c.in-Err.ensures.reads

pub returns-in_err-write_piece-in-Err-clause-counts : goal.returns-in_err-write_piece-in-Err-clause-counts
returns-in_err-write_piece-in-Err-clause-counts g c = counts-as (fault-passed c.in_err-write_piece-in-Err.field-0.0 c.from_residual.result c.from_residual.ensures.1)
    c.in_err-write_piece-in-Err.ensures.counts

pub returns-in-Err-clause-reads : goal.returns-in-Err-clause-reads
returns-in-Err-clause-reads g c = reads-as (fault-passed c.in-Err.fault (Err c.in-Err.fault) refl) c.in-Err.ensures.reads

pub returns-in_err-extend_from_slice-clause-reads : goal.returns-in_err-extend_from_slice-clause-reads
returns-in_err-extend_from_slice-clause-reads g c = reads-as
    (λ is. absurd (memory-unfailed c.from_residual-in_err-extend_from_slice.result c.from_residual-in_err-extend_from_slice.ensures.1 is))
    c.in-Ok.ensures.reads

pub returns-in_err-extend_from_slice-clause-counts : goal.returns-in_err-extend_from_slice-clause-counts
returns-in_err-extend_from_slice-clause-counts g c = counts-none
    (memory-unsunk c.from_residual-in_err-extend_from_slice.result c.from_residual-in_err-extend_from_slice.ensures.1)

pub returns-in_err-write_piece-clause-reads : goal.returns-in_err-write_piece-clause-reads
returns-in_err-write_piece-clause-reads g c = reads-as (λ is. absurd (sink-unfailed (Err c.in_err-write_piece.field-0.0) c.in_err-write_piece.ensures.refused
    (fault-passed c.in_err-write_piece.field-0.0 c.from_residual-in_err-write_piece.result c.from_residual-in_err-write_piece.ensures.1 is)))
    c.in-Ok.ensures.reads

pub returns-in_err-write_piece-clause-counts : goal.returns-in_err-write_piece-clause-counts
returns-in_err-write_piece-clause-counts g c = counts-as (fault-passed c.in_err-write_piece.field-0.0 c.from_residual-in_err-write_piece.result c.from_residual-in_err-write_piece.ensures.1)
    c.in_err-write_piece.ensures.counts
