-- The store was made, it was not, or there was no memory for the text.
use Rattle.std.proofs.Common.{Err, inl, inr, refl, subst, sym}
use Rattle.ingest_core.specs.Faults.{outcome_of_store}
use Rattle.sd_base.proofs.Ranges.{IsValid-numbers_of, bad_parameter-none}
use Rattle.sd_base.specs.OnePass.{pass_of_valid_init}
use Rattle.sd_base.specs.Params.{numbers_of}
use Rattle.sd_base.specs.declared.outcome.Outcome.{Outcome}
use Rattle.sd_base.specs.declared.words.Command.TheVariants.{Quiet as quiet}
use Rattle.sd_base.specs.declared.words.Quiet.TheVariants.{Init}
use Rattle.std.specs.Prelude.{Ok}
use Rattle.sha2.specs.Sha256.{sha256}
use Rattle.store_core.specs.declared.fault.StoreFault.TheVariants.{ShelfFault, StoreThere}
use Rattle.backup_top.specs.Steps.{MakesText}
use Rattle.backup_top.proofs.Inits.{init_made, init_of, init_refused, none_still, same-stays, stays_of}
use Rattle.backup_top.proofs.Openings.{fault_is, refused_with, told_at}
use Rattle.backup_top.proofs.Runs.{counted_as, uncalled}
use Rattle.backup_top.proofs.init.init_valid.Goals as goal

pub returns-in-Ok-init : goal.returns-in-Ok-init
returns-in-Ok-init g c =
    let raw = numbers_of c.args.params.now in
    let made = c.in-Ok-init.ensures in
    init_made raw (bad_parameter-none raw (IsValid-numbers_of c.args.params.now)) _ _ _ _ _ _ c.in-Ok.text
    c.in-Ok.ensures made.absent
    (told_at _ (g.F.Shelf.files c.init.new.shelf) sha256 made.held)
    (made.other_files, made.other_loose) made.flushed (made.clean sha256) (stays_of g.F.Shelf.files g.F.Shelf.loose c.args.shelf.now c.init.new.shelf made.kept)
    (counted_as _ _ _ _ _ _ (λ never. absurd never) made.counts)

pub returns-in-Err : goal.returns-in-Err
returns-in-Err g c =
    let raw = numbers_of c.args.params.now in
    let fault = c.in-Err.fault in
    let made = c.in-Err.ensures in
    subst
    (λ (ending : Outcome). MakesText (pass_of_valid_init raw) (Ok (quiet (Init raw))) (Err ending)
    g.F.Shelf.files g.F.Shelf.loose g.F.Shelf.faults g.F.Shelf.faultless c.args.shelf.now c.init.new.shelf)
    (sym c.outcome_of.ensures)
    (init_refused raw (bad_parameter-none raw (IsValid-numbers_of c.args.params.now)) _ _ _ _ _ _ (outcome_of_store fault)
    (init_of fault made.refused)
    (λ is. made.there (refused_with _ (fault_is fault StoreThere is)))
    (λ is. let same = made.unchanged (refused_with _ (fault_is fault StoreThere is)) in
    record { same_files = same.0; same_loose = same.1 })
    (made.other_files, made.other_loose) made.not_made (stays_of g.F.Shelf.files g.F.Shelf.loose c.args.shelf.now c.init.new.shelf made.kept)
    (counted_as _ _ _ _ _ _ (λ is. refused_with _ (fault_is fault ShelfFault is)) made.counts))

pub returns-in_default : goal.returns-in_default
returns-in_default g c =
    let raw = numbers_of c.args.params.now in
    init_refused raw (bad_parameter-none raw (IsValid-numbers_of c.args.params.now)) _ _ _ _ _ _ _
    (inl (inr refl)) (λ clash. absurd cc) (λ clash. absurd cc)
    (λ f not_head not_seal. refl, λ f not_head not_seal. refl)
    (none_still raw (g.F.Shelf.files c.args.shelf.now)) (same-stays _ (record { same_files = λ f. refl; same_loose = λ f. refl }))
    (uncalled _ _ _ _ (λ clash. absurd cc))
