-- Chunks packed one after another, and what `packing` comes to: full containers and an open one.
use Rattle.std.proofs.Common.{◌≡◌, inl, inr, ℕ, zero, suc, ◌+◌, ◌<◌, ◌≤◌, List, [], ◌∷◌, ◌++◌, length, map, get_or, refl, sym, ap, ◌∙◌, subst, append_assoc, arith, length-append}
use Rattle.std.proofs.lemmas.List.{append-nil}
use Rattle.std.proofs.lemmas.Bool.Decides.{leb_tells, nat_tests}
use Rattle.sd_base.specs.Packing.{header_of, packed_on, packing, ArePrefixes}
use Rattle.sd_base.specs.declared.limits.TheConstants.{MAX_CONTAINER, CONTAINER_HEADER}
use Rattle.container_pack.specs.declared.fill.Fill.{Fill}
use Rattle.container_pack.specs.Spots.{filled_by, filled_on}

abbrev pub Chunks : Type 0
Chunks = List (List ℕ)

abbrev pub fill_at : ℕ → List ℕ → Fill
fill_at number open_one = record { containers = number + 1; used = length open_one }

-- a chunk that fits, and one that opens the next container
pub packed_on-fits : (number : ℕ) (open_one chunk : List ℕ) (chunks : Chunks) → length open_one + length chunk ≤ MAX_CONTAINER
    → packed_on number open_one (chunk ∷ chunks) ≡ packed_on number (open_one ++ chunk) chunks
packed_on-fits number open_one chunk chunks fits = grind (arith, nat_tests)

pub packed_on-opens : (number : ℕ) (open_one chunk : List ℕ) (chunks : Chunks) → MAX_CONTAINER < length open_one + length chunk
    → packed_on number open_one (chunk ∷ chunks) ≡ open_one ∷ packed_on (number + 1) (header_of (number + 1) ++ chunk) chunks
packed_on-opens number open_one chunk chunks full = grind (arith, nat_tests)

pub filled_by-fits : (fill : Fill) (n : ℕ) → fill.used + n ≤ MAX_CONTAINER
    → filled_by fill n ≡ record { containers = fill.containers; used = fill.used + n }
filled_by-fits fill n fits = grind (arith, nat_tests)

pub filled_by-opens : (fill : Fill) (n : ℕ) → MAX_CONTAINER < fill.used + n
    → filled_by fill n ≡ record { containers = fill.containers + 1; used = CONTAINER_HEADER + n }
filled_by-opens fill n full = grind (arith, nat_tests)

-- What packing comes to: the containers that are full, and the last one, to which more is packed.
pub record Reach (number : ℕ) (open_one : List ℕ) (chunks : Chunks) : Type 0 where
  pub full : Chunks
  pub last : List ℕ
  pub containers : packed_on number open_one chunks ≡ full ++ last ∷ []
  pub fill : filled_on (fill_at number open_one) (map length chunks) ≡ fill_at (number + length full) last
  pub goes_on : (more : Chunks) → packed_on number open_one (chunks ++ more) ≡ full ++ packed_on (number + length full) last more

pub reach : (number : ℕ) (open_one : List ℕ) (chunks : Chunks) → Reach number open_one chunks
reach number open_one [] = record {
  full = [];
  last = open_one;
  containers = refl;
  fill = let same : number + 0 ≡ number = omega arith in ap (λ (n : ℕ). fill_at n open_one) (sym same);
  goes_on = λ more. let same : number + 0 ≡ number = omega arith in ap (λ (n : ℕ). packed_on n open_one more) (sym same);
}
reach number open_one (chunk ∷ chunks) = elim (leb_tells (length open_one + length chunk) MAX_CONTAINER) [
  | inl fits ↦
      let there = reach number (open_one ++ chunk) chunks in
      let more_used : length (open_one ++ chunk) ≡ length open_one + length chunk = length-append open_one chunk in
      let filled : filled_by (fill_at number open_one) (length chunk) ≡ fill_at number (open_one ++ chunk) =
      filled_by-fits (fill_at number open_one) (length chunk) fits.1
      ∙ ap (λ (n : ℕ). let f : Fill = record { containers = number + 1; used = n } in f) (sym more_used) in
      record {
        full = there.full;
        last = there.last;
        containers = packed_on-fits number open_one chunk chunks fits.1 ∙ there.containers;
        fill = ap (λ (f : Fill). filled_on f (map length chunks)) filled ∙ there.fill;
        goes_on = λ more. packed_on-fits number open_one chunk (chunks ++ more) fits.1 ∙ there.goes_on more;
      }
  | inr none ↦
      let there = reach (number + 1) (header_of (number + 1) ++ chunk) chunks in
      let filled : filled_by (fill_at number open_one) (length chunk) ≡ fill_at (number + 1) (header_of (number + 1) ++ chunk) =
      filled_by-opens (fill_at number open_one) (length chunk) none.1
      ∙ ap (λ (n : ℕ). let f : Fill = record { containers = number + 1 + 1; used = n } in f) (sym (length-append (header_of (number + 1)) chunk)) in
      let one_more : number + 1 + length there.full ≡ number + length (open_one ∷ there.full) = omega arith in
      record {
        full = open_one ∷ there.full;
        last = there.last;
        containers = packed_on-opens number open_one chunk chunks none.1 ∙ ap (λ (l : Chunks). open_one ∷ l) there.containers;
        fill = ap (λ (f : Fill). filled_on f (map length chunks)) filled ∙ there.fill ∙ ap (λ (n : ℕ). fill_at n there.last) one_more;
        goes_on = λ more. packed_on-opens number open_one chunk (chunks ++ more) none.1
            ∙ ap (λ (l : Chunks). open_one ∷ l) (there.goes_on more ∙ ap (λ (n : ℕ). there.full ++ packed_on n there.last more) one_more);
      }
]

-- what is packed begins with the container that was open
pub record Extends (open_one : List ℕ) (containers : Chunks) : Type 0 where
  pub rest : List ℕ
  pub others : Chunks
  pub split : containers ≡ (open_one ++ rest) ∷ others

pub extends : (number : ℕ) (open_one : List ℕ) (chunks : Chunks) → Extends open_one (packed_on number open_one chunks)
extends number open_one [] = record { rest = []; others = []; split = ap (λ (l : List ℕ). l ∷ []) (sym (append-nil open_one)) }
extends number open_one (chunk ∷ chunks) = elim (leb_tells (length open_one + length chunk) MAX_CONTAINER) [
  | inl fits ↦
      let there = extends number (open_one ++ chunk) chunks in
      record {
        rest = chunk ++ there.rest;
        others = there.others;
        split = packed_on-fits number open_one chunk chunks fits.1 ∙ there.split ∙ ap (λ (l : List ℕ). l ∷ there.others) (append_assoc open_one chunk there.rest);
      }
  | inr none ↦
      record {
        rest = [];
        others = packed_on (number + 1) (header_of (number + 1) ++ chunk) chunks;
        split = packed_on-opens number open_one chunk chunks none.1
            ∙ ap (λ (l : List ℕ). l ∷ packed_on (number + 1) (header_of (number + 1) ++ chunk) chunks) (sym (append-nil open_one));
      }
]

-- the same list, except that its last container may be longer and that others may follow it
pub ArePrefixes-same_front : (full : Chunks) (last rest : List ℕ) (others : Chunks) → ArePrefixes (full ++ last ∷ []) (full ++ (last ++ rest) ∷ others)
ArePrefixes-same_front [] last rest others = record {
  no_fewer = omega arith;
  prefix = λ k. elim k as (λ n. n < 1 → (tail : List ℕ) × (get_or ((last ++ rest) ∷ others) n [] ≡ get_or (last ∷ []) n [] ++ tail)) [
    | zero ↦ λ inside. (rest, refl)
    | suc n ↦ λ inside. absurd (omega arith)
  ];
}
ArePrefixes-same_front (first ∷ full) last rest others =
    let there = ArePrefixes-same_front full last rest others in
    record {
      no_fewer = omega (arith, there.no_fewer);
      prefix = λ k. elim k as (λ n. n < length (first ∷ full ++ last ∷ []) → (tail : List ℕ) × (get_or (first ∷ full ++ (last ++ rest) ∷ others) n [] ≡ get_or (first ∷ full ++ last ∷ []) n [] ++ tail)) [
        | zero ↦ λ inside. ([], sym (append-nil first))
        | suc n ↦ λ inside. there.prefix n (omega arith)
      ];
    }

pub ArePrefixes-nothing : (containers : Chunks) → ArePrefixes [] containers
ArePrefixes-nothing containers = record { no_fewer = omega arith; prefix = λ k inside. absurd (omega arith) }

-- the containers of a longer list only extend those of a shorter one
pub packing-grows : (chunks more : Chunks) → ArePrefixes (packing chunks) (packing (chunks ++ more))
packing-grows [] more = ArePrefixes-nothing (packing more)
packing-grows (chunk ∷ chunks) more =
    let r = reach 0 (header_of 0 ++ chunk) chunks in
    let e = extends (0 + length r.full) r.last more in
    let later : packing (chunk ∷ (chunks ++ more)) ≡ r.full ++ (r.last ++ e.rest) ∷ e.others = r.goes_on more ∙ ap (λ (l : Chunks). r.full ++ l) e.split in
    subst (λ (l : Chunks). ArePrefixes l (packing (chunk ∷ (chunks ++ more)))) (sym r.containers)
    (subst (λ (l : Chunks). ArePrefixes (r.full ++ r.last ∷ []) l) (sym later) (ArePrefixes-same_front r.full r.last e.rest e.others))
