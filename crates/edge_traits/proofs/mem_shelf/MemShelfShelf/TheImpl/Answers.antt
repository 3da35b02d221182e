use Rattle.std.proofs.Common.{◌≡◌, ◌≤◌, ◌++◌, ℕ, List, length, take, min, ap, ◌∙◌, sym, rules, arith}
use Rattle.std.specs.Prelude.{Option, Some, None, IsSome, IfSome}
use Rattle.std.proofs.lemmas.List.{take_min}
use Rattle.edge_traits.proofs.mem_shelf.MemShelfShelf.TheImpl.Goals as goal

-- what a failing append keeps is a prefix of the piece
kept-prefix : (kept : Option ℕ) (had piece now : List ℕ) → IsSome kept → IfSome kept (λ k. now ≡ had ++ take k piece)
    → (k : ℕ) × (k ≤ length piece) × (Some now ≡ Some (had ++ take k piece))
kept-prefix None had piece now some is = absurd (search (rules, some))
kept-prefix (Some k) had piece now some is = (min k (length piece), omega arith, ap Some is ∙ ap (λ (l : List ℕ). Some (had ++ l)) (sym (take_min k piece)))

pub append-tells : goal.append-tells
append-tells c = record {
  appended = search rules;
  prefix = λ failed. kept-prefix _ _ _ _ (c.ensures.counted.fails failed) (c.ensures.kept failed);
  out_of_memory = search rules;
  other_files = search rules;
  may_loosen = search rules;
  failed = search rules;
  never_falls = search rules;
  faultless_serves = c.ensures.counted.faultless_serves;
  faultless_counts_none = c.ensures.counted.faultless_counts_none;
  stays_faultless = c.ensures.counted.stays_faultless;
}
