use Rattle.std.proofs.Common.{rules, sym, ◌∙◌}
use Rattle.store_core.proofs.FindLemmas.{none-named}
use Rattle.store_core.proofs.StoreLemmas.{if_told}
use Rattle.store_core.proofs.store.Store.find_chunk.Goals as goal

pub returns-in-None : goal.returns-in-None
returns-in-None g c = record {
  unchanged = search rules;
  some = search rules;
  kept = search rules;
  least = if_told (g.F.Shelf.files c.args.shelf.now) (λ files.
      none-named g.N.Namer.name_of files c.args.self.now c.args.chunk.now c.args.name.now c.requires.named
      (sym c.in_ok-first.ensures.first ∙ c.in-None.is));
  damage = search rules;
  damaged = search rules;
  refused = search rules;
  reads = search rules;
}

pub returns-in-Some : goal.returns-in-Some
returns-in-Some g c = search rules

pub returns-in_err-first : goal.returns-in_err-first
returns-in_err-first g c = search rules
