use Rattle.std.proofs.Common.{◌≡◌, inl, inr, ℕ, zero, suc, List, [], ◌∷◌, ◌++◌, ap, refl, ◌∙◌, arith}
use Rattle.std.specs.Prelude.{◌⊎◌, Err, None, Option, Some, option_map}
use Rattle.std.proofs.lemmas.List.{append-nil}
use Rattle.container_pack.proofs.PackerLemmas.{on_err}
use Rattle.edge_traits.specs.Shelf.{Appended, AppendedPrefix, SameFiles, content}
use Rattle.edge_traits.specs.declared.fault.EdgeFault.{EdgeFault}
use Rattle.edge_traits.specs.declared.fault.EdgeFault.TheVariants.{Failed, OutOfMemory}
use Rattle.sd_base.specs.declared.file.File.{File}
use Rattle.sd_base.specs.declared.limits.TheConstants.{COMMIT_BYTE}
use Rattle.store_core.proofs.commit_byte.append_commit_byte.Goals as goal

nothing_appended : (held : Option (List ℕ)) → option_map (λ had. had ++ []) held ≡ held
nothing_appended None = refl
nothing_appended (Some had) = ap (λ (l : List ℕ). let o : Option (List ℕ) = Some l in o) (append-nil had)

-- a prefix of one byte is nothing or the byte
of_one : (file : File) (b : ℕ) (before after : Option (File → List ℕ)) → AppendedPrefix file (b ∷ []) before after →
    (content after file ≡ content before file) ⊎ Appended file (b ∷ []) before after
of_one file b before after (zero, few, appended) = inl (appended ∙ nothing_appended (content before file))
of_one file b before after (suc zero, few, appended) = inr appended
of_one file b before after (suc (suc k), few, appended) = absurd (omega (arith, few))

refused : (file : File) (b : ℕ) (before after : Option (File → List ℕ)) (fault : EdgeFault) →
    (fault ≡ Failed → AppendedPrefix file (b ∷ []) before after) → (fault ≡ OutOfMemory → SameFiles before after) →
    (content after file ≡ content before file) ⊎ Appended file (b ∷ []) before after
refused file b before after Failed prefix same = of_one file b before after (prefix refl)
refused file b before after OutOfMemory prefix same = inl (same refl file)

pub returns-in_err-append-clause-refused : goal.returns-in_err-append-clause-refused
returns-in_err-append-clause-refused g c = on_err c.from_residual.result
    (refused c.args.file COMMIT_BYTE (g.F.Shelf.files c.args.shelf.now) (g.F.Shelf.files c.append.new.self)
    c.in_err-append.field-0.0 (λ failed. c.in_err-append.ensures.prefix (ap Err failed))
    (λ none. c.in_err-append.ensures.out_of_memory (ap Err none)))
