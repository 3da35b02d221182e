-- Commands that read nothing do not end as a failed read.
use Rattle.std.proofs.Common.{◌≡◌, inl, inr, ℕ, List, [], ◌∷◌, sym, subst, ◌∙◌}
use Rattle.std.specs.List.{AllByRecursion}
use Rattle.std.specs.Prelude.{MatchOption, None, Ok, Option, Some}
use Rattle.sd_base.specs.Parameters.{bad_parameter}
use Rattle.sd_base.specs.declared.damage.Damage.{Damage}
use Rattle.sd_base.specs.declared.how.How.{How}
use Rattle.sd_base.specs.declared.outcome.Outcome.{Outcome}
use Rattle.sd_base.specs.declared.outcome.Outcome.TheVariants.{Done, BadParams, NoStore, StoreThere, NameTaken, NoSession, Damaged, TooManySessions, TooManyPlaces, TooManyChunks, SourceFault, SinkFault, ShelfFault, OutOfMemory}
use Rattle.sd_base.specs.declared.params.BadParams.{BadParams as BadParameter}
use Rattle.sd_base.specs.declared.raw_params.RawParams.{RawParams}
use Rattle.sd_base.specs.declared.words.Command.TheVariants.{Quiet as quiet, Bulk}
use Rattle.sd_base.specs.declared.words.Quiet.TheVariants.{Init, List as ListSessions, Restore, Drop, Refs, Audit}
use Rattle.backup_top.specs.Outcomes.{IsDamage, IsOneOf}
use Rattle.backup_top.specs.Run.{MayReturn}

abbrev IsNoRead : Outcome → Type 0
IsNoRead outcome = outcome ≡ SourceFault → ⊥

one_of : (outcomes : List Outcome) → AllByRecursion IsNoRead outcomes → (outcome : Outcome) → IsOneOf outcomes outcome
    → IsNoRead outcome
one_of [] all outcome among = absurd among
one_of (first ∷ others) all outcome (inl is) = subst IsNoRead (sym is) all.0
one_of (first ∷ others) all outcome (inr later) = one_of others all.1 outcome later

damaged : (outcome : Outcome) (IsKind : Damage → Type 0) → IsDamage IsKind outcome → IsNoRead outcome
damaged outcome IsKind found is = let clash : Damaged found.0 ≡ SourceFault = sym found.2 ∙ is in absurd cc

init-unread : (flaw : Option BadParameter) (outcome : Outcome)
    → MatchOption flaw (IsOneOf (Done ∷ SinkFault ∷ OutOfMemory ∷ StoreThere ∷ ShelfFault ∷ []) outcome)
    (λ kind. outcome ≡ BadParams kind) → IsNoRead outcome
init-unread None outcome among = one_of (Done ∷ SinkFault ∷ OutOfMemory ∷ StoreThere ∷ ShelfFault ∷ [])
    (λ clash. absurd cc, (λ clash. absurd cc, (λ clash. absurd cc, (λ clash. absurd cc, (λ clash. absurd cc, tt)))))
    outcome among
init-unread (Some kind) outcome is = subst IsNoRead (sym is) (λ clash. absurd cc)

pub init_unread : (raw : RawParams) (outcome : Outcome) → MayReturn (Ok (quiet (Init raw))) outcome → outcome ≡ SourceFault → ⊥
init_unread raw outcome among = init-unread (bad_parameter raw) outcome among

pub list_unread : (outcome : Outcome) → MayReturn (Ok (quiet ListSessions)) outcome → outcome ≡ SourceFault → ⊥
list_unread outcome (inl among) = one_of (Done ∷ SinkFault ∷ OutOfMemory ∷ NoStore ∷ ShelfFault ∷ [])
    (λ clash. absurd cc, (λ clash. absurd cc, (λ clash. absurd cc, (λ clash. absurd cc, (λ clash. absurd cc, tt)))))
    outcome among
list_unread outcome (inr found) = damaged outcome _ found

pub restore_unread : (name : List ℕ) (outcome : Outcome) → MayReturn (Ok (quiet (Restore name))) outcome → outcome ≡ SourceFault → ⊥
restore_unread name outcome (inl among) = one_of (Done ∷ SinkFault ∷ OutOfMemory ∷ NoStore ∷ ShelfFault ∷ NoSession ∷ [])
    (λ clash. absurd cc, (λ clash. absurd cc, (λ clash. absurd cc, (λ clash. absurd cc, (λ clash. absurd cc, (λ clash. absurd cc, tt))))))
    outcome among
restore_unread name outcome (inr found) = damaged outcome _ found

pub drop_unread : (name : List ℕ) (outcome : Outcome) → MayReturn (Ok (quiet (Drop name))) outcome → outcome ≡ SourceFault → ⊥
drop_unread name outcome (inl among) = one_of (Done ∷ SinkFault ∷ OutOfMemory ∷ NoStore ∷ ShelfFault ∷ NoSession ∷ [])
    (λ clash. absurd cc, (λ clash. absurd cc, (λ clash. absurd cc, (λ clash. absurd cc, (λ clash. absurd cc, (λ clash. absurd cc, tt))))))
    outcome among
drop_unread name outcome (inr found) = damaged outcome _ found

pub refs_unread : (outcome : Outcome) → MayReturn (Ok (quiet Refs)) outcome → outcome ≡ SourceFault → ⊥
refs_unread = list_unread

pub audit_unread : (outcome : Outcome) → MayReturn (Ok (quiet Audit)) outcome → outcome ≡ SourceFault → ⊥
audit_unread outcome (inl among) = list_unread outcome (inl among)
audit_unread outcome (inr found) = damaged outcome _ found

pub bulk_unread : (seed blocks : ℕ) (how : How) (outcome : Outcome) → MayReturn (Ok (Bulk seed blocks how)) outcome
    → outcome ≡ SourceFault → ⊥
bulk_unread seed blocks how outcome (inl among) = one_of (Done ∷ SinkFault ∷ OutOfMemory ∷ NoStore ∷ ShelfFault ∷ NameTaken ∷ TooManySessions ∷ TooManyPlaces ∷ TooManyChunks ∷ [])
    (λ clash. absurd cc, (λ clash. absurd cc, (λ clash. absurd cc, (λ clash. absurd cc, (λ clash. absurd cc, (λ clash. absurd cc, (λ clash. absurd cc, (λ clash. absurd cc, (λ clash. absurd cc, tt)))))))))
    outcome among
bulk_unread seed blocks how outcome (inr found) = damaged outcome _ found
