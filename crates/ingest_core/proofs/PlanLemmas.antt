-- The lines of chunks, from where the chunks end and their names.
use Rattle.std.proofs.Common.{◌≡◌, ℕ, ◌+◌, ◌-◌, ◌≤◌, List, [], ◌∷◌, ◌++◌, drop, length, length-append, map, slice_index_or, refl, ap, sym, ◌∙◌, arith, slice_range}
use Rattle.std.proofs.lemmas.List.{append_assoc, drop_more}
use Rattle.sd_base.proofs.Covering.{length-slice_range}
use Rattle.sd_base.specs.Cutting.{RiseWithin, chunks_between}
use Rattle.ingest_core.specs.Plans.{lines_of, lines_to}
use Rattle.ingest_core.specs.declared.line.Line.{Line}

-- what rises within a number rises within a greater one
pub rise_higher : (s high higher : ℕ) (cuts : List ℕ) → high ≤ higher → RiseWithin s high cuts → RiseWithin s higher cuts
rise_higher s high higher [] up rise = tt
rise_higher s high higher (cut ∷ cuts) up rise =
    let within = rise.1 in
    (rise.0, omega (arith, within), rise_higher cut high higher cuts up rise.2)

-- the lines from the ends and the names of chunks are the lines of the chunks
pub lines-are : (name_of : List ℕ → List ℕ) (text : List ℕ) (offset : ℕ) (cuts : List ℕ) → RiseWithin offset (length text) cuts →
    lines_to offset cuts (map name_of (chunks_between text offset cuts)) ≡ lines_of name_of offset (chunks_between text offset cuts)
lines-are name_of text offset [] rise = refl
lines-are name_of text offset (cut ∷ cuts) rise =
    let chunk = slice_range text offset cut in
    let size : length chunk ≡ cut - offset = length-slice_range text offset cut rise.1 in
    let on = rise.0 in
    let end : cut ≡ offset + length chunk = omega (arith, size, on) in
    let first : ℕ → Line = λ n. record { offset = offset; length = n; name = name_of chunk } in
    ap (λ n. first n ∷ lines_to cut cuts (map name_of (chunks_between text cut cuts))) (sym size)
    ∙ ap (λ rest. first (length chunk) ∷ rest) (lines-are name_of text cut cuts rise.2)
    ∙ ap (λ n. first (length chunk) ∷ lines_of name_of n (chunks_between text cut cuts)) end

-- The lines of the first chunks are written, and these cuts and names are left.
pub record AreLines (cuts : List ℕ) (names : List (List ℕ)) (offset : ℕ) (left : List ℕ) (lines : List Line) : Type 0 where
  pub written : lines ++ lines_to offset left (drop (length lines) names) ≡ lines_to 0 cuts names
  pub rise : (high : ℕ) → RiseWithin 0 high cuts → RiseWithin offset high left
  pub count : length lines + length left ≡ length cuts

-- one line more
pub lines-next : (cuts : List ℕ) (names : List (List ℕ)) (offset cut : ℕ) (left : List ℕ) (lines : List Line) →
    length names ≡ length cuts → AreLines cuts names offset (cut ∷ left) lines →
    AreLines cuts names cut left (lines ++ record { offset = offset; length = cut - offset; name = slice_index_or names (length lines) [] } ∷ [])
lines-next cuts names offset cut left lines named are =
    let line : Line = record { offset = offset; length = cut - offset; name = slice_index_or names (length lines) [] } in
    let long : length (lines ++ line ∷ []) ≡ length lines + 1 = length-append lines (line ∷ []) in
    let count = are.count in
    record {
      written = ap (λ n. (lines ++ line ∷ []) ++ lines_to cut left (drop n names)) long
          ∙ append_assoc lines (line ∷ []) (lines_to cut left (drop (length lines + 1) names))
          ∙ ap (λ rest. lines ++ lines_to offset (cut ∷ left) rest) (sym (drop_more names (length lines) [] (omega (arith, count, named))))
          ∙ are.written;
      rise = λ high rise. (are.rise high rise).2;
      count = omega (arith, long, count);
    }
