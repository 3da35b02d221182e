use Rattle.std.proofs.Common.{◌∙◌}
use Rattle.sd_base.specs.Params.{numbers_of}
use Rattle.store_core.proofs.NewStoreLemmas.{new-clean}
use Rattle.store_core.proofs.new_store.init.Goals as goal

pub returns-clause-clean : goal.returns-clause-clean
returns-clause-clean g c = λ name_of.
    new-clean (numbers_of c.args.params.now) name_of (g.F.Shelf.files c.args.shelf.now) (g.F.Shelf.files c.write_head.new.shelf)
    c.in_ok-write_head.ensures.head c.in_ok-write_head.ensures.seal
    (λ f apart_head apart_seal. c.write_head.ensures.other_files f apart_head apart_seal ∙ c.len.ensures.same_files f)
