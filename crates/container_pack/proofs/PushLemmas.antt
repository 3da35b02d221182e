-- What one more chunk does to the containers.
use Rattle.std.proofs.Common.{◌≡◌, inl, inr, ℕ, ◌+◌, ◌<◌, ◌≤◌, List, [], ◌∷◌, ◌++◌, length, map, get_or, refl, sym, ap, ◌∙◌, subst, append_assoc, arith, length-append}
use Rattle.std.specs.Prelude.{All}
use Rattle.std.proofs.lemmas.List.{get_or_append_left, get_or_at, get_or_past}
use Rattle.std.proofs.lemmas.Bool.Decides.{leb_tells}
use Rattle.sd_base.specs.Packing.{header_of, packed_on, packing}
use Rattle.sd_base.specs.declared.limits.TheConstants.{MAX_CONTAINER, CONTAINER_HEADER}
use Rattle.container_pack.specs.declared.fill.Fill.{Fill}
use Rattle.container_pack.specs.declared.spot.Spot.{Spot}
use Rattle.container_pack.specs.Spots.{nothing_filled, filled_by, filled_on, last_spot}
use Rattle.container_pack.proofs.PackingLemmas.{Chunks, fill_at, packed_on-fits, packed_on-opens, filled_by-fits, filled_by-opens, reach}
use Rattle.container_pack.proofs.SpotLemmas.{filled_by-first}

-- The chunk is at the end of the container of the spot, after what was there or after the header of
-- a new container, and nothing else has changed.
pub record Pushed (before after : Chunks) (spot : Spot) (chunk : List ℕ) : Type 0 where
  pub near : spot.container ≤ length before
  pub no_more : length before ≤ spot.container + 1
  pub count : length after ≡ spot.container + 1
  pub grown : get_or after spot.container [] ≡ get_or before spot.container (header_of spot.container) ++ chunk
  pub others : (k : ℕ) → k < spot.container → get_or after k [] ≡ get_or before k []
  pub offset : length (get_or before spot.container (header_of spot.container)) ≡ spot.offset

Pushed-fits : (full : Chunks) (last chunk : List ℕ) (spot : Spot) → spot.container ≡ length full → spot.offset ≡ length last
    → Pushed (full ++ last ∷ []) (full ++ (last ++ chunk) ∷ []) spot chunk
Pushed-fits full last chunk spot at offset =
    let was : get_or (full ++ last ∷ []) spot.container (header_of spot.container) ≡ last = get_or_at full last [] (header_of spot.container) spot.container (sym at) in
    record {
      near = omega (arith, at, length-append full (last ∷ []));
      no_more = omega (arith, at, length-append full (last ∷ []));
      count = omega (arith, at, length-append full ((last ++ chunk) ∷ []));
      grown = get_or_at full (last ++ chunk) [] [] spot.container (sym at) ∙ ap (λ (l : List ℕ). l ++ chunk) (sym was);
      others = λ k below.
          get_or_append_left full ((last ++ chunk) ∷ []) [] k (omega (arith, at)) ∙ sym (get_or_append_left full (last ∷ []) [] k (omega (arith, at)));
      offset = ap (λ (l : List ℕ). length l) was ∙ sym offset;
    }

Pushed-opens : (before : Chunks) (chunk : List ℕ) (spot : Spot) → spot.container ≡ length before → spot.offset ≡ CONTAINER_HEADER
    → Pushed before (before ++ (header_of spot.container ++ chunk) ∷ []) spot chunk
Pushed-opens before chunk spot at offset =
    let was : get_or before spot.container (header_of spot.container) ≡ header_of spot.container = get_or_past before spot.container (header_of spot.container) (omega (arith, at)) in
    record {
      near = omega (arith, at);
      no_more = omega (arith, at);
      count = omega (arith, at, length-append before ((header_of spot.container ++ chunk) ∷ []));
      grown = get_or_at before (header_of spot.container ++ chunk) [] [] spot.container (sym at) ∙ ap (λ (l : List ℕ). l ++ chunk) (sym was);
      others = λ k below. get_or_append_left before ((header_of spot.container ++ chunk) ∷ []) [] k (omega (arith, at));
      offset = ap (λ (l : List ℕ). length l) was ∙ sym offset;
    }

Pushed-on : (full : Chunks) (last chunk : List ℕ)
    → Pushed (full ++ last ∷ []) (full ++ packed_on (length full) last (chunk ∷ [])) (last_spot (filled_by (fill_at (length full) last) (length chunk)) (length chunk)) chunk
Pushed-on full last chunk = elim (leb_tells (length last + length chunk) MAX_CONTAINER) [
  | inl fits ↦
      let fill : Fill = record { containers = length full + 1; used = length last + length chunk } in
      let filled : filled_by (fill_at (length full) last) (length chunk) ≡ fill = filled_by-fits (fill_at (length full) last) (length chunk) fits.1 in
      subst (λ (f : Fill). Pushed (full ++ last ∷ []) (full ++ packed_on (length full) last (chunk ∷ [])) (last_spot f (length chunk)) chunk) (sym filled)
      (subst (λ (l : Chunks). Pushed (full ++ last ∷ []) (full ++ l) (last_spot fill (length chunk)) chunk) (sym (packed_on-fits (length full) last chunk [] fits.1))
      (Pushed-fits full last chunk (last_spot fill (length chunk)) (omega arith) (omega arith)))
  | inr none ↦
      let fill : Fill = record { containers = length full + 1 + 1; used = CONTAINER_HEADER + length chunk } in
      let filled : filled_by (fill_at (length full) last) (length chunk) ≡ fill = filled_by-opens (fill_at (length full) last) (length chunk) none.1 in
      let spot : Spot = last_spot fill (length chunk) in
      let number : spot.container ≡ length full + 1 = omega arith in
      let after : full ++ packed_on (length full) last (chunk ∷ []) ≡ (full ++ last ∷ []) ++ (header_of spot.container ++ chunk) ∷ [] =
      ap (λ (l : Chunks). full ++ l) (packed_on-opens (length full) last chunk [] none.1)
      ∙ ap (λ (n : ℕ). full ++ last ∷ (header_of n ++ chunk) ∷ []) (sym number)
      ∙ simp append_assoc in
      subst (λ (f : Fill). Pushed (full ++ last ∷ []) (full ++ packed_on (length full) last (chunk ∷ [])) (last_spot f (length chunk)) chunk) (sym filled)
      (subst (λ (l : Chunks). Pushed (full ++ last ∷ []) l spot chunk) (sym after)
      (Pushed-opens (full ++ last ∷ []) chunk spot (omega (arith, length-append full (last ∷ []))) (omega arith)))
]

-- what a fill says of the containers
pub record Filled (chunks : Chunks) (fill : Fill) : Type 0 where
  pub containers : fill.containers ≡ length (packing chunks)
  pub pushed : (chunk : List ℕ) → 1 ≤ length chunk
      → Pushed (packing chunks) (packing (chunks ++ chunk ∷ [])) (last_spot (filled_by fill (length chunk)) (length chunk)) chunk

Filled-reach : (first : List ℕ) (chunks : Chunks) → 1 ≤ length first → Filled (first ∷ chunks) (filled_on (fill_at 0 (header_of 0 ++ first)) (map length chunks))
Filled-reach first chunks some =
    let r = reach 0 (header_of 0 ++ first) chunks in
    let from_zero : 0 + length r.full ≡ length r.full = omega arith in
    let fill : filled_on (fill_at 0 (header_of 0 ++ first)) (map length chunks) ≡ fill_at (length r.full) r.last = r.fill ∙ ap (λ (n : ℕ). fill_at n r.last) from_zero in
    subst (λ (f : Fill). Filled (first ∷ chunks) f) (sym fill) (record {
      containers = sym (ap (λ (l : Chunks). length l) r.containers ∙ length-append r.full (r.last ∷ []));
      pushed = λ chunk filled.
          let spot : Spot = last_spot (filled_by (fill_at (length r.full) r.last) (length chunk)) (length chunk) in
          let after : packing (first ∷ (chunks ++ chunk ∷ [])) ≡ r.full ++ packed_on (length r.full) r.last (chunk ∷ []) =
          r.goes_on (chunk ∷ []) ∙ ap (λ (n : ℕ). r.full ++ packed_on n r.last (chunk ∷ [])) from_zero in
          subst (λ (l : Chunks). Pushed l (packing (first ∷ (chunks ++ chunk ∷ []))) spot chunk) (sym r.containers)
          (subst (λ (l : Chunks). Pushed (r.full ++ r.last ∷ []) l spot chunk) (sym after) (Pushed-on r.full r.last chunk));
    })

Filled-nothing : Filled [] nothing_filled
Filled-nothing = record {
  containers = refl;
  pushed = λ chunk some.
      let fill : Fill = record { containers = 1; used = CONTAINER_HEADER + length chunk } in
      let filled : filled_by nothing_filled (length chunk) ≡ fill = filled_by-opens nothing_filled (length chunk) (omega arith) in
      subst (λ (f : Fill). Pushed [] (packing (chunk ∷ [])) (last_spot f (length chunk)) chunk) (sym filled)
      (Pushed-opens [] chunk (last_spot fill (length chunk)) refl (omega arith));
}

-- the fill after chunks, none of them empty
pub filled : (chunks : Chunks) → All (λ n. 1 ≤ n) (map length chunks) → Filled chunks (filled_on nothing_filled (map length chunks))
filled [] some = Filled-nothing
filled (first ∷ chunks) some =
    subst (λ (f : Fill). Filled (first ∷ chunks) (filled_on f (map length chunks))) (sym (filled_by-first first (some 0 0 (omega arith)))) (Filled-reach first chunks (some 0 0 (omega arith)))
