-- Segments of a text, and which of them a worker scans.
use Rattle.std.proofs.Common.{◌≡◌, ℕ, ◌+◌, ◌-◌, ◌*◌, ◌/◌, ◌%◌, ◌<◌, ◌≤◌, min, Bool, true, false, ◌||◌, ◌&&◌, List, ◌++◌, eqb, ltb, leb, length, replicate, refl, sym, ap, ap₂, ◌∙◌, inl, inr, ◌⊎◌, arith}
use Rattle.std.proofs.lemmas.Bool.{cases_lt, cases_eq, lt-ltb, le-ltb, le-leb, lt-leb, eq-eqb, ne_eqb, and_left, and_right, or_right}
use Rattle.std.proofs.lemmas.List.{length-replicate}
use Rattle.std.proofs.lemmas.Nat.{div-add-mod', mod_below, div-mul-add, mod-mul-add, div_below, row_fits}
use Rattle.std.proofs.Math.Nat.{mul-le-mul_right}
use Rattle.candidate_map.specs.Candidates.{HoldsCandidates}
use Rattle.candidate_map.specs.Positions.{has}
use Rattle.candidate_map.proofs.CandidateLemmas.{HoldsCandidates-append}
use Rattle.candidate_map.proofs.SetLemmas.{has-replicate}
use Rattle.sd_base.specs.Cutting.{is_candidate}
use Rattle.sd_base.specs.declared.limits.TheConstants.{WINDOW}
use Rattle.sd_base.specs.declared.raw_params.RawParams.{RawParams}
use Rattle.segment_scan.specs.Scan.{AddsCandidates, HoldsShares, segment_of, is_candidate_within}
use Rattle.segment_scan.proofs.Adding.{or-false}

-- a candidate is a position of the text above 0
real_or_none : (params : RawParams) (text : List ℕ) (p : ℕ) → ((0 < p) × (p ≤ length text)) ⊎ (is_candidate params text p ≡ false)
real_or_none params text p =
    elim (cases_lt p WINDOW) [
      | inl early ↦ inr (and_left _ _ (and_left _ _ (lt-leb WINDOW p early)))
      | inr whole ↦ elim (cases_lt (length text) p) [
        | inl past ↦ inr (and_left _ _ (and_right (leb WINDOW p) _ (lt-leb p (length text) past)))
        | inr within ↦ inl (omega arith, within)
      ]
    ]

-- ---- one segment

-- a position is within the range of segment k if k is its segment, and only then
range_of_segment : (segment k p end : ℕ) → 0 < segment → 0 < p → p ≤ end
    → (ltb (k * segment) p && leb p (min (k * segment + segment) end)) ≡ eqb (segment_of segment p) k
range_of_segment segment k p end some above within =
    let q = (p - 1) / segment in
    let split : q * segment + (p - 1) % segment ≡ p - 1 = div-add-mod' (p - 1) segment in
    let small : (p - 1) % segment < segment = mod_below (p - 1) segment some in
    elim (cases_eq q k) [
      | inl same ↦
          let product : q * segment ≡ k * segment = ap (λ n. n * segment) same in
          ap₂ (λ a b. a && b) (lt-ltb (k * segment) p (omega (arith, split, small, product)))
          (le-leb p (min (k * segment + segment) end) (omega (arith, split, small, product)))
          ∙ sym (eq-eqb q k same)
      | inr apart ↦ elim (cases_lt (k * segment) p) [
        | inr below ↦ and_left _ _ (le-ltb (k * segment) p below) ∙ sym (ne_eqb q k apart)
        | inl past_start ↦ elim (cases_lt (k * segment + segment) p) [
          | inl past_end ↦ and_right (ltb (k * segment) p) _ (lt-leb p (min (k * segment + segment) end) (omega arith)) ∙ sym (ne_eqb q k apart)
          | inr upto_end ↦
              let rest : ℕ = p - 1 - k * segment in
              let sum : p - 1 ≡ k * segment + rest = omega arith in
              absurd (apart (ap (λ n. n / segment) sum ∙ div-mul-add k segment rest (omega arith)))
        ]
      ]
    ]

pub within_segment : (params : RawParams) (text : List ℕ) (segment k p : ℕ) → 0 < segment
    → is_candidate_within params text (k * segment) (min (k * segment + segment) (length text)) p
    ≡ (eqb (segment_of segment p) k && is_candidate params text p)
within_segment params text segment k p some =
    elim (real_or_none params text p) [
      | inl real ↦ ap (λ b. b && is_candidate params text p) (range_of_segment segment k p (length text) some real.0 real.1)
      | inr none ↦ and_right (ltb (k * segment) p && leb p (min (k * segment + segment) (length text))) _ none ∙ sym (and_right (eqb (segment_of segment p) k) _ none)
    ]

-- ---- the turns of a worker: in turn t worker w of W scans segment t * W + w

-- whether a segment is one of the first turns of a worker
abbrev pub in_turns : ℕ → ℕ → ℕ → ℕ → Bool
in_turns workers w turns s = eqb (s % workers) w && ltb (s / workers) turns

no_turn : (workers w s : ℕ) → in_turns workers w 0 s ≡ false
no_turn workers w s = and_right (eqb (s % workers) w) _ (le-ltb (s / workers) 0 (omega arith))

turn_more : (workers w t s : ℕ) → w < workers
    → (in_turns workers w t s || eqb s (t * workers + w)) ≡ in_turns workers w (t + 1) s
turn_more workers w t s within =
    elim (cases_eq s (t * workers + w)) [
      | inl here ↦
          let place : s % workers ≡ w = ap (λ n. n % workers) here ∙ mod-mul-add t workers w within in
          let row : s / workers ≡ t = ap (λ n. n / workers) here ∙ div-mul-add t workers w within in
          or_right (in_turns workers w t s) _ (eq-eqb s (t * workers + w) here)
          ∙ sym (ap₂ (λ a b. a && b) (eq-eqb (s % workers) w place) (lt-ltb (s / workers) (t + 1) (omega (arith, row))))
      | inr apart ↦
          ap (λ b. in_turns workers w t s || b) (ne_eqb s (t * workers + w) apart) ∙ or-false (in_turns workers w t s)
          ∙ elim (cases_eq (s % workers) w) [
            | inr other ↦ and_left _ _ (ne_eqb (s % workers) w other) ∙ sym (and_left _ _ (ne_eqb (s % workers) w other))
            | inl place ↦
                let row_apart : s / workers ≡ t → ⊥ = λ row. apart (sym (div-add-mod' s workers) ∙ ap₂ (λ a b. a * workers + b) row place) in
                ap (λ b. eqb (s % workers) w && b) (same_rows row_apart)
          ]
    ]
  where
    same_rows : (s / workers ≡ t → ⊥) → ltb (s / workers) t ≡ ltb (s / workers) (t + 1)
    same_rows row_apart =
        elim (cases_lt (s / workers) t) [
          | inl below ↦ lt-ltb (s / workers) t below ∙ sym (lt-ltb (s / workers) (t + 1) (omega arith))
          | inr above ↦ le-ltb (s / workers) t above ∙ sym (le-ltb (s / workers) (t + 1) (omega arith))
        ]

-- after all turns each segment of the worker was scanned
all_turns : (workers w segments turns s : ℕ) → segments - w ≤ turns * workers → s < segments
    → in_turns workers w turns s ≡ eqb (s % workers) w
all_turns workers w segments turns s enough inside =
    elim (cases_eq (s % workers) w) [
      | inr other ↦ and_left _ _ (ne_eqb (s % workers) w other) ∙ sym (ne_eqb (s % workers) w other)
      | inl place ↦ elim (cases_lt (s / workers) turns) [
        | inl below ↦ ap₂ (λ a b. a && b) (eq-eqb (s % workers) w place) (lt-ltb (s / workers) turns below) ∙ sym (eq-eqb (s % workers) w place)
        | inr above ↦
            let product : turns * workers ≤ s / workers * workers = mul-le-mul_right workers above in
            absurd (omega (arith, product, div-add-mod' s workers))
      ]
    ]

-- a turn is a segment of the text
pub turn_inside : (workers w segments turns t : ℕ) → turns * workers < segments - w + workers → t < turns → t * workers + w < segments
turn_inside workers w segments turns t enough turn =
    let row : t * workers + workers ≤ turns * workers = row_fits t workers turns workers turn (omega arith) in
    omega (arith, row)

-- a segment begins in the text
pub segment_inside : (segment segments k end : ℕ) → segments * segment < end + segment → k < segments → k * segment < end
segment_inside segment segments k end enough inside =
    let row : k * segment + segment ≤ segments * segment = row_fits k segment segments segment inside (omega arith) in
    omega (arith, row)

-- ---- the map of a worker, turn by turn

pub record HoldsTurns (params : RawParams) (text : List ℕ) (segment workers w turns : ℕ) (positions : List Bool) : Type 0 where
  pub bits : length positions ≡ length text + 1
  pub same : (p : ℕ) → has positions p ≡ (in_turns workers w turns (segment_of segment p) && is_candidate params text p)

module _ (params : RawParams) (text : List ℕ) (segment workers w : ℕ) where
  pub holds_no_turn : (positions : List Bool) → positions ≡ replicate (length text + 1) false → HoldsTurns params text segment workers w 0 positions
  holds_no_turn positions empty = record {
    bits = ap length empty ∙ length-replicate (length text + 1) false;
    same = λ p.
        ap (λ s. has s p) empty ∙ has-replicate (length text + 1) p
        ∙ sym (and_left _ _ (no_turn workers w (segment_of segment p)));
  }

  pub holds_more_turns : (t : ℕ) (before after : List Bool) → 0 < segment → w < workers
      → AddsCandidates params text ((t * workers + w) * segment) (min ((t * workers + w) * segment + segment) (length text)) before after
      → HoldsTurns params text segment workers w t before → HoldsTurns params text segment workers w (t + 1) after
  holds_more_turns t before after some within adds so_far = record {
    bits = adds.bits ∙ so_far.bits;
    same = λ p.
        let s = segment_of segment p in
        let c = is_candidate params text p in
        adds.added p
        ∙ ap₂ (λ a b. a || b) (so_far.same p) (within_segment params text segment (t * workers + w) p some)
        ∙ or_of_ands (in_turns workers w t s) (eqb s (t * workers + w)) c
        ∙ ap (λ b. b && c) (turn_more workers w t s within);
  }
    where
      or_of_ands : (a b c : Bool) → ((a && c) || (b && c)) ≡ ((a || b) && c)
      or_of_ands true true true = refl
      or_of_ands true true false = refl
      or_of_ands true false true = refl
      or_of_ands true false false = refl
      or_of_ands false b c = refl

  pub holds_share : (segments turns : ℕ) (positions : List Bool) → 0 < segment
      → length text ≤ segments * segment → segments - w ≤ turns * workers
      → HoldsTurns params text segment workers w turns positions → HoldsShares params text segment workers w (w + 1) positions
  holds_share segments turns positions some covered enough so_far = record {
    bits = so_far.bits;
    same = λ p.
        let s = segment_of segment p in
        let c = is_candidate params text p in
        so_far.same p
        ∙ elim (real_or_none params text p) [
          | inr none ↦ and_right (in_turns workers w turns s) c none ∙ sym (and_right (leb w (s % workers) && ltb (s % workers) (w + 1)) c none)
          | inl real ↦
              let inside : s < segments = div_below (p - 1) segment segments some (omega (arith, real.0, real.1)) in
              ap (λ b. b && c) (all_turns workers w segments turns s enough inside ∙ sym (one_worker (s % workers)))
        ];
  }
    where
      one_worker : (x : ℕ) → (leb w x && ltb x (w + 1)) ≡ eqb x w
      one_worker x =
          elim (cases_eq x w) [
            | inl same ↦ ap₂ (λ a b. a && b) (le-leb w x (omega arith)) (lt-ltb x (w + 1) (omega arith)) ∙ sym (eq-eqb x w same)
            | inr apart ↦ elim (cases_lt x w) [
              | inl below ↦ and_left _ _ (lt-leb w x below) ∙ sym (ne_eqb x w apart)
              | inr above ↦ and_right (leb w x) _ (le-ltb x (w + 1) (omega arith)) ∙ sym (ne_eqb x w apart)
            ]
          ]

-- ---- the maps of several workers

pub holds_both : (params : RawParams) (text : List ℕ) (segment workers low middle high : ℕ) (first second both : List Bool)
    → low ≤ middle → middle ≤ high
    → HoldsShares params text segment workers low middle first → HoldsShares params text segment workers middle high second
    → length both ≡ length first → ((p : ℕ) → has both p ≡ (has first p || has second p))
    → HoldsShares params text segment workers low high both
holds_both params text segment workers low middle high first second both under over of_first of_second bits joined = record {
  bits = bits ∙ of_first.bits;
  same = λ p.
      let x = segment_of segment p % workers in
      let c = is_candidate params text p in
      joined p ∙ ap₂ (λ a b. a || b) (of_first.same p) (of_second.same p)
      ∙ or_of_ands (leb low x && ltb x middle) (leb middle x && ltb x high) c
      ∙ ap (λ b. b && c) (ranges_meet x);
}
  where
    or_of_ands : (a b c : Bool) → ((a && c) || (b && c)) ≡ ((a || b) && c)
    or_of_ands true true true = refl
    or_of_ands true true false = refl
    or_of_ands true false true = refl
    or_of_ands true false false = refl
    or_of_ands false b c = refl

    ranges_meet : (x : ℕ) → ((leb low x && ltb x middle) || (leb middle x && ltb x high)) ≡ (leb low x && ltb x high)
    ranges_meet x =
        elim (cases_lt x middle) [
          | inl before ↦
              let other : (leb middle x && ltb x high) ≡ false = and_left _ _ (lt-leb middle x before) in
              ap (λ b. (leb low x && ltb x middle) || b) other ∙ or-false (leb low x && ltb x middle)
              ∙ ap (λ b. leb low x && b) (lt-ltb x middle before ∙ sym (lt-ltb x high (omega arith)))
          | inr after ↦
              let other : (leb low x && ltb x middle) ≡ false = and_right (leb low x) _ (le-ltb x middle after) in
              ap (λ b. b || (leb middle x && ltb x high)) other
              ∙ ap (λ b. b && ltb x high) (le-leb middle x after ∙ sym (le-leb low x (omega arith)))
        ]

-- all workers have all candidates
pub holds_all : (params : RawParams) (text rest : List ℕ) (segment workers : ℕ) (positions : List Bool) → 0 < workers
    → HoldsShares params text segment workers 0 workers positions
    → HoldsCandidates params (text ++ rest) positions (length text)
holds_all params text rest segment workers positions some shares =
    HoldsCandidates-append params text rest positions (length text) (omega arith) (record {
      same = λ p upto.
          let x = segment_of segment p % workers in
          shares.same p
          ∙ ap (λ b. b && is_candidate params text p)
          (ap₂ (λ a b. a && b) (le-leb 0 x (omega arith)) (lt-ltb x workers (mod_below (segment_of segment p) workers some)));
    })
