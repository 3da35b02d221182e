use Rattle.std.proofs.Common.{rules, ap, sym, ◌∙◌}
use Rattle.store_core.proofs.RestoreLemmas.{read-damaged}
use Rattle.store_core.proofs.store.Store.intact_chunk.Goals as goal

pub returns-then-ne : goal.returns-then-ne
returns-then-ne g c = record {
  bytes = search rules;
  intact = search rules;
  damaged = λ damage is.
      read-damaged g.N.Namer.name_of (g.F.Shelf.files c.args.shelf.now) c.args.self.now c.args.number c.in_ok-chunk.chunk.items
      c.name-found.result c.chunk.result damage c.chunk.ensures.chunk
      (c.name-found.ensures.name ∙ ap g.N.Namer.name_of c.deref.ensures.value) (sym c.ne.ensures ∙ c.if-ne.true) (cc)
      c.in_ok-chunk.ensures.read;
  kind = search rules;
  refused = search rules;
  reads = search rules;
}

pub returns : goal.returns
returns g c = search rules

pub returns-in_err-chunk : goal.returns-in_err-chunk
returns-in_err-chunk g c = search rules
