-- What is written of a session, chunk after chunk, and what it is in a store that stands for a state.
use Rattle.std.proofs.Common.{◌≡◌, inl, inr, ℕ, zero, suc, ◌+◌, ◌<◌, ◌≤◌, List, [], ◌∷◌, ◌++◌, length, map, take, drop, refl, ap, sym, subst, ◌∙◌, arith, true, false, append-nil, length-append}
use Rattle.std.specs.List.{All, AllByRecursion, concat, position, position_or_len, slice_get}
use Rattle.std.specs.Option.{option_and_then}
use Rattle.std.specs.Prelude.{Err, IfSome, IsErrAnd, None, Ok, OnErr, OnOk, Option, Result, Some, cond, nat_le, nat_lt, not, option_map, slice_index_or, unwrap_or, ◌&&◌, ◌↔◌}
use Rattle.std.specs.Str.{bytes_eq}
use Rattle.std.proofs.Math.ListN.{get_or-append}
use Rattle.std.proofs.Math.Seq.{split_at, take-append-add}
use Rattle.std.proofs.lemmas.Bool.{cases_lt, leb-false, lt-leb, lt-ltb}
use Rattle.std.proofs.lemmas.Grind.{flat_map-append}
use Rattle.std.proofs.lemmas.List.{append_assoc, take-append-drop, take-append-le, take_all, take_more}
use Rattle.std.proofs.lemmas.List.Concat.{flat_map-cons}
use Rattle.std.proofs.lemmas.List.Elements.{All-append, All-from_recursion, All-get_or, recursion_from_All}
use Rattle.std.proofs.lemmas.List.Quantifiers.{position-Some}
use Rattle.std.proofs.lemmas.List.Sums.{fails_before_first, position_or_len_is, sum_by-cons}
use Rattle.std.proofs.lemmas.Slice.Eq.{bytes_eq-Decides}
use Rattle.container_pack.specs.declared.packer.Packer.{Packer}
use Rattle.container_pack.specs.declared.spot.Spot.{Spot}
use Rattle.edge_traits.specs.Sink.{Appends, AppendsPrefix}
use Rattle.sd_base.specs.Books.{BookState, chunks_in, flaw_at, live_session, or_else, places_in, recipe_damage, recipe_flaw}
use Rattle.sd_base.specs.Cutting.{chunks_of, cuts_within}
use Rattle.sd_base.specs.Distinct.{first_index, is_among}
use Rattle.sd_base.specs.Opening.{OpenAs, Opened}
use Rattle.sd_base.specs.StateBooks.{book_of_state, book_sessions}
use Rattle.sd_base.specs.States.{IsCutting, IsLawful, State, StoredSession, bytes_of_session, live_session_named, placed_chunks, sessions_in, stored_chunks}
use Rattle.sd_base.specs.declared.damage.Damage.{Damage}
use Rattle.sd_base.specs.declared.damage.Damage.TheVariants.{Chunk as BadChunk}
use Rattle.sd_base.specs.declared.file.File.{File}
use Rattle.sd_base.specs.declared.record.IngestRecord.{IngestRecord}
use Rattle.sd_base.specs.declared.record.NewChunk.{NewChunk}
use Rattle.sd_base.specs.declared.record.Session.{Session}
use Rattle.sd_base.proofs.HeldStates.{sessions-book}
use Rattle.sd_base.proofs.Recipes.{ArePlaced as AreAllPlaced, chunk_at-first_index, sessions_are_placed}
use Rattle.sd_base.proofs.StateBooks.{first_index-below}
use Rattle.sd_base.proofs.States.{among_later, among_own, placed-stored}
use Rattle.store_core.specs.Offers.{IsReadDamaged}
use Rattle.store_core.specs.Restores.{FindsDamage, HoldsBack, HoldsBackPart, IsIntact, OnlyRestores, RestoresAll, RestoresPart, RestoresState, bytes_as_read, recipe_named, session_bytes, unknown_place}
use Rattle.store_core.specs.StoreFields.{ArePlaced, lengths_of}
use Rattle.store_core.specs.StoreStates.{StandsFor, StoreState, chunk_as_read, chunks_of_store, kept_chunk}
use Rattle.store_core.specs.declared.fault.StoreFault.{StoreFault}
use Rattle.store_core.specs.declared.fault.StoreFault.TheVariants.{Damaged, NoSession}
use Rattle.store_core.specs.declared.name_index.NameIndex.{NameIndex}
use Rattle.store_core.proofs.IngestLemmas.{book-live_session}
use Rattle.store_core.proofs.OfferLemmas.{stands-count, stands-kept, stands-read}
use Rattle.store_core.proofs.StoreLemmas.{Told}

-- ---- one chunk

-- what was read has another name than the one that is kept
pub read-damaged : (name_of : List ℕ → List ℕ) (told : Told) (store : StoreState) (i : ℕ) (read found : List ℕ)
    (kept : NewChunk) (damage : Damage) → kept ≡ kept_chunk store i → found ≡ name_of read →
    not (bytes_eq found kept.name) ≡ true → BadChunk i kept.name found ≡ damage →
    IfSome told (λ files. read ≡ chunk_as_read files store i) →
    IfSome told (λ files. IsReadDamaged name_of files store i damage)
read-damaged name_of None store i read found kept damage is named other equal as_read = tt
read-damaged name_of (Some files) store i read found kept damage is named other equal as_read =
    let kept_is = ap (λ (c : NewChunk). c.name) is in
    let found_is = named ∙ ap name_of as_read in
    record {
      differs = λ same.
          let equal_names = (bytes_eq-Decides found kept.name).1 (found_is ∙ same ∙ sym kept_is) in
          let clash : false ≡ true = sym (ap not equal_names) ∙ other in absurd cc;
      equals = sym equal ∙ ap (λ name. BadChunk i name found) kept_is
          ∙ ap (BadChunk i (kept_chunk store i).name) found_is;
    }

-- ---- what is written, one piece after another

-- what was not changed has nothing appended
appends-nothing : (written : Option (List ℕ)) → Appends written written []
appends-nothing None = refl
appends-nothing (Some had) = ap (λ bytes. let o : Option (List ℕ) = Some bytes in o) (sym (append-nil had))

-- two pieces in turn
appends_on : (a b c : Option (List ℕ)) (x y : List ℕ) → Appends a b x → Appends b c y → Appends a c (x ++ y)
appends_on None b c x y first next = next ∙ ap (option_map (λ (had : List ℕ). had ++ y)) first
appends_on (Some had) b c x y first next =
    next ∙ ap (option_map (λ (had : List ℕ). had ++ y)) first
    ∙ ap (λ bytes. let o : Option (List ℕ) = Some bytes in o) (append_assoc had x y)

-- after a whole piece a prefix of the next
prefix-on : (a b c : Option (List ℕ)) (x y : List ℕ) → Appends a b x → AppendsPrefix b c y → AppendsPrefix a c (x ++ y)
prefix-on a b c x y first next =
    let sum = length-append x y in (
      length x + next.0,
      omega (arith, next.1, sum),
      subst (Appends a c) (sym (take-append-add x y next.0)) (appends_on a b c x (take next.0 y) first next.2),
    )

-- a whole piece is a prefix of it
prefix-whole : (a b : Option (List ℕ)) (x : List ℕ) → Appends a b x → AppendsPrefix a b x
prefix-whole a b x whole = (length x, omega arith, subst (Appends a b) (sym (take_all (length x) x (omega arith))) whole)

-- what holds at all holds after a refusal
pub at-err : {T P : Type 0} (result : Result T StoreFault) → P → OnErr result P
at-err (Ok value) holds = tt
at-err (Err fault) holds = holds

pub on-ok : {T P Q : Type 0} (result : Result T StoreFault) → (P → Q) → OnOk result P → OnOk result Q
on-ok (Ok value) step before = step before
on-ok (Err fault) step before = tt

-- a refusal that is passed on is one of those of restoring
pub restores-passed : {T : Type 0} (fault : StoreFault) (r : Result T StoreFault) →
    (let refused : Result T StoreFault = Err fault in OnlyRestores refused) → IsErrAnd r (λ e. e ≡ fault) → OnErr r (OnlyRestores r)
restores-passed fault (Ok value) only same = tt
restores-passed {T = T} fault (Err e) only same =
    subst (λ f. let refused : Result T StoreFault = Err f in OnlyRestores refused) (sym same) only

pub on-err : {T P Q : Type 0} (result : Result T StoreFault) → (P → Q) → OnErr result P → OnErr result Q
on-err (Ok value) step before = tt
on-err (Err fault) step before = step before

module _ (name_of : List ℕ → List ℕ) (files : File → List ℕ) (store : StoreState) where
  abbrev Bytes : List ℕ → List ℕ
  Bytes recipe = bytes_as_read files store recipe

  abbrev Intact : List ℕ → Type 0
  Intact recipe = All (IsIntact name_of files store) recipe

  one-intact : (n : ℕ) → IsIntact name_of files store n → Intact (n ∷ [])
  one-intact n is = All-from_recursion (IsIntact name_of files store) (n ∷ []) (is, tt)

  bytes-one : (n : ℕ) → Bytes (n ∷ []) ≡ chunk_as_read files store n
  bytes-one n = append-nil (chunk_as_read files store n)

  -- some places are held back, and then some more
  held-on : (xs ys held now : List ℕ) (a b c : Option (List ℕ)) → HoldsBack name_of files store xs [] a b held →
      HoldsBack name_of files store ys held b c now → HoldsBack name_of files store (xs ++ ys) [] a c now
  held-on xs ys held now a b c first next = record {
    intact = All-append (IsIntact name_of files store) xs ys first.intact next.intact;
    piece = first.piece ++ next.piece;
    written = appends_on a b c first.piece next.piece first.written next.written;
    rest = append_assoc first.piece next.piece now ∙ ap (λ bytes. first.piece ++ bytes) next.rest
        ∙ sym (append_assoc first.piece held (Bytes ys)) ∙ ap (λ bytes. bytes ++ Bytes ys) first.rest
        ∙ sym (flat_map-append (chunk_as_read files store) xs ys);
  }

  part-on : (xs ys rest held : List ℕ) (a b c : Option (List ℕ)) → HoldsBack name_of files store xs [] a b held →
      HoldsBackPart name_of files store ys held b c → RestoresPart name_of files store (xs ++ (ys ++ rest)) a c
  part-on xs ys rest held a b c first next =
      let some = take-append-add xs (ys ++ rest) next.places
      ∙ ap (λ places. xs ++ places) (take-append-le next.places ys rest next.within) in
      let sum = length-append xs (ys ++ rest) in
      let more = length-append ys rest in
      let last = Bytes (take next.places ys) in
      let all : first.piece ++ (held ++ last) ≡ Bytes (xs ++ take next.places ys) =
      sym (append_assoc first.piece held last) ∙ ap (λ bytes. bytes ++ last) first.rest
      ∙ sym (flat_map-append (chunk_as_read files store) xs (take next.places ys)) in
      record {
        places = length xs + next.places;
        within = omega (arith, sum, more, next.within);
        intact = subst Intact (sym some)
            (All-append (IsIntact name_of files store) xs (take next.places ys) first.intact next.intact);
        written = subst (λ recipe. AppendsPrefix a c (Bytes recipe)) (sym some)
            (subst (AppendsPrefix a c) all (prefix-on a b c first.piece (held ++ last) first.written next.written));
      }

  -- what is held back is written
  held-written : (recipe held : List ℕ) (a b c : Option (List ℕ)) → HoldsBack name_of files store recipe [] a b held →
      Appends b c held → RestoresAll name_of files store recipe a c
  held-written recipe held a b c first last = record {
    intact = first.intact;
    written = subst (Appends a c) first.rest (appends_on a b c first.piece held first.written last);
  }

  held-cut : (recipe held : List ℕ) (a b c : Option (List ℕ)) → HoldsBack name_of files store recipe [] a b held →
      AppendsPrefix b c held → RestoresPart name_of files store recipe a c
  held-cut recipe held a b c first last =
      let all = sym (take_all (length recipe) recipe (omega arith)) in
      record {
        places = length recipe;
        within = omega arith;
        intact = subst Intact all first.intact;
        written = subst (λ places. AppendsPrefix a c (Bytes places)) all
            (subst (AppendsPrefix a c) first.rest (prefix-on a b c first.piece held first.written last));
      }

  -- what was written of some first places is a prefix of all
  part-whole : (recipe : List ℕ) (a b : Option (List ℕ)) → RestoresPart name_of files store recipe a b →
      AppendsPrefix a b (Bytes recipe)
  part-whole recipe a b part =
      let front = Bytes (take part.places recipe) in
      let rest = Bytes (drop part.places recipe) in
      let all : Bytes recipe ≡ front ++ rest =
      ap Bytes (sym (take-append-drop part.places recipe))
      ∙ flat_map-append (chunk_as_read files store) (take part.places recipe) (drop part.places recipe) in
      let sum = length-append front rest in
      subst (AppendsPrefix a b) (sym all) (
        part.written.0,
        omega (arith, part.written.1, sum),
        subst (Appends a b) (sym (take-append-le part.written.0 front rest part.written.1)) part.written.2,
      )

-- ---- one chunk is restored

-- a prefix of no place was written
pub none-part : (name_of : List ℕ → List ℕ) (told : Told) (store : StoreState) (recipe : List ℕ)
    (written : Option (List ℕ)) → IfSome told (λ files. RestoresPart name_of files store recipe written written)
none-part name_of None store recipe written = tt
none-part name_of (Some files) store recipe written = record {
  places = 0;
  within = omega arith;
  intact = λ k d lt. absurd (omega (arith, lt));
  written = prefix-whole written written [] (appends-nothing written);
}

-- nothing is held back before the first place
pub none-held : (name_of : List ℕ → List ℕ) (told : Told) (store : StoreState) (recipe : List ℕ)
    (written : Option (List ℕ)) → IfSome told (λ files. HoldsBack name_of files store (take 0 recipe) [] written written [])
none-held name_of None store recipe written = tt
none-held name_of (Some files) store recipe written = record {
  intact = λ k d lt. absurd (omega (arith, lt));
  piece = [];
  written = appends-nothing written;
  rest = refl;
}

-- a piece of what was held back and the chunk is written, and the rest is held back
pub one-held : (name_of : List ℕ → List ℕ) (told : Told) (store : StoreState) (n : ℕ)
    (chunk held piece now : List ℕ) (a b : Option (List ℕ)) → IfSome told (λ files. chunk ≡ chunk_as_read files store n) →
    name_of chunk ≡ (kept_chunk store n).name → Appends a b piece → piece ++ now ≡ held ++ chunk →
    IfSome told (λ files. HoldsBack name_of files store (n ∷ []) held a b now)
one-held name_of None store n chunk held piece now a b read intact written all = tt
one-held name_of (Some files) store n chunk held piece now a b read intact written all = record {
  intact = one-intact name_of files store n (ap name_of (sym read) ∙ intact);
  piece = piece;
  written = written;
  rest = all ∙ ap (λ bytes. held ++ bytes) (read ∙ sym (bytes-one name_of files store n));
}

pub one-part : (name_of : List ℕ → List ℕ) (told : Told) (store : StoreState) (n : ℕ) (chunk held : List ℕ)
    (a b : Option (List ℕ)) → IfSome told (λ files. chunk ≡ chunk_as_read files store n) →
    name_of chunk ≡ (kept_chunk store n).name → AppendsPrefix a b (held ++ chunk) →
    IfSome told (λ files. HoldsBackPart name_of files store (n ∷ []) held a b)
one-part name_of None store n chunk held a b read intact prefix = tt
one-part name_of (Some files) store n chunk held a b read intact prefix = record {
  places = 1;
  within = omega arith;
  intact = one-intact name_of files store n (ap name_of (sym read) ∙ intact);
  written = subst (λ bytes. AppendsPrefix a b (held ++ bytes)) (read ∙ sym (bytes-one name_of files store n)) prefix;
}

-- a prefix of what was held back was written, and nothing of the chunk
pub part-before : (name_of : List ℕ → List ℕ) (told : Told) (store : StoreState) (n : ℕ) (held : List ℕ)
    (a b : Option (List ℕ)) → AppendsPrefix a b held →
    IfSome told (λ files. HoldsBackPart name_of files store (n ∷ []) held a b)
part-before name_of None store n held a b prefix = tt
part-before name_of (Some files) store n held a b prefix = record {
  places = 0;
  within = omega arith;
  intact = λ k d lt. absurd (omega (arith, lt));
  written = subst (AppendsPrefix a b) (sym (append-nil held)) prefix;
}

-- all of it was written
pub whole-before : (name_of : List ℕ → List ℕ) (told : Told) (store : StoreState) (n : ℕ) (held : List ℕ)
    (a b : Option (List ℕ)) → Appends a b held →
    IfSome told (λ files. HoldsBackPart name_of files store (n ∷ []) held a b)
whole-before name_of told store n held a b written =
    part-before name_of told store n held a b (prefix-whole a b held written)

-- none of it was written
pub nothing-before : (name_of : List ℕ → List ℕ) (told : Told) (store : StoreState) (n : ℕ) (held : List ℕ)
    (written : Option (List ℕ)) → IfSome told (λ files. HoldsBackPart name_of files store (n ∷ []) held written written)
nothing-before name_of told store n held written =
    part-before name_of told store n held written written (0, omega arith, appends-nothing written)

-- the damage is that of the chunk, and all that was held back was written
pub damaged-before : (name_of : List ℕ → List ℕ) (told : Told) (store : StoreState) (n : ℕ) (damage : Damage)
    (held : List ℕ) (a b : Option (List ℕ)) → IfSome told (λ files. IsReadDamaged name_of files store n damage) →
    Appends a b held → IfSome told (λ files. IsReadDamaged name_of files store n damage × Appends a b held)
damaged-before name_of None store n damage held a b found written = tt
damaged-before name_of (Some files) store n damage held a b found written = (found, written)

-- ---- one more place of a recipe

module _ (name_of : List ℕ → List ℕ) (store : StoreState) (recipe : List ℕ) (i : ℕ) (within : i < length recipe)
    (held : List ℕ) (a b c : Option (List ℕ)) where
  abbrev here : List ℕ
  here = slice_index_or recipe i 0 ∷ []

  pub place-held : (after : List ℕ) (told now : Told) → now ≡ told →
      IfSome told (λ files. HoldsBack name_of files store (take i recipe) [] a b held) →
      IfSome now (λ files. HoldsBack name_of files store here held b c after) →
      IfSome told (λ files. HoldsBack name_of files store (take (i + 1) recipe) [] a c after)
  place-held after None now same first next = tt
  place-held after (Some files) now same first next =
      let found = subst (λ (t : Told). IfSome t (λ f. HoldsBack name_of f store here held b c after)) same next in
      subst (λ places. HoldsBack name_of files store places [] a c after) (sym (take_more recipe i 0 within))
      (held-on name_of files store (take i recipe) here held after a b c first found)

  pub place-damaged : (damage : Damage) (told now : Told) → now ≡ told →
      IfSome told (λ files. HoldsBack name_of files store (take i recipe) [] a b held) →
      IfSome now (λ files. IsReadDamaged name_of files store (slice_index_or recipe i 0) damage × Appends b c held) →
      IfSome told (λ files. FindsDamage name_of files store recipe damage a c)
  place-damaged damage None now same first next = tt
  place-damaged damage (Some files) now same first next =
      let found = subst (λ (t : Told). IfSome t (λ f.
      IsReadDamaged name_of f store (slice_index_or recipe i 0) damage × Appends b c held)) same next in
      record {
        place = i;
        within = within;
        restored = held-written name_of files store (take i recipe) held a b c first found.1;
        damaged = found.0;
      }

  pub place-part : (told now : Told) → now ≡ told →
      IfSome told (λ files. HoldsBack name_of files store (take i recipe) [] a b held) →
      IfSome now (λ files. HoldsBackPart name_of files store here held b c) →
      IfSome told (λ files. RestoresPart name_of files store recipe a c)
  place-part None now same first next = tt
  place-part (Some files) now same first next =
      let found = subst (λ (t : Told). IfSome t (λ f. HoldsBackPart name_of f store here held b c)) same next in
      subst (λ places. RestoresPart name_of files store places a c) (sym (split_at recipe i 0 within))
      (part-on name_of files store (take i recipe) here (drop (suc i) recipe) held a b c first found)

-- ---- the end of a recipe

pub end-restored : (name_of : List ℕ → List ℕ) (told : Told) (store : StoreState) (recipe held : List ℕ) (i : ℕ)
    (a b c : Option (List ℕ)) → length recipe ≤ i →
    IfSome told (λ files. HoldsBack name_of files store (take i recipe) [] a b held) → Appends b c held →
    IfSome told (λ files. RestoresAll name_of files store recipe a c)
end-restored name_of None store recipe held i a b c all first last = tt
end-restored name_of (Some files) store recipe held i a b c all first last =
    subst (λ places. RestoresAll name_of files store places a c) (take_all i recipe all)
    (held-written name_of files store (take i recipe) held a b c first last)

pub end-part : (name_of : List ℕ → List ℕ) (told : Told) (store : StoreState) (recipe held : List ℕ) (i : ℕ)
    (a b c : Option (List ℕ)) → length recipe ≤ i →
    IfSome told (λ files. HoldsBack name_of files store (take i recipe) [] a b held) → AppendsPrefix b c held →
    IfSome told (λ files. RestoresPart name_of files store recipe a c)
end-part name_of None store recipe held i a b c all first last = tt
end-part name_of (Some files) store recipe held i a b c all first last =
    subst (λ places. RestoresPart name_of files store places a c) (take_all i recipe all)
    (held-cut name_of files store (take i recipe) held a b c first last)

-- if no number of a list is the first of at least `count`, each is below it
pub all-below : (count : ℕ) (numbers : List ℕ) (i : ℕ) → position (nat_le count) numbers ≡ None → i < length numbers →
    slice_index_or numbers i 0 < count
all-below count numbers i none within =
    let first = position_or_len (nat_le count) numbers in
    elim (cases_lt first (length numbers)) [
      | inl lt ↦
          let clash : Some first ≡ None =
          ap (λ b. cond b (Some first) None) (sym (lt-ltb first (length numbers) lt)) ∙ none in absurd cc
      | inr le ↦
          leb-false count (slice_index_or numbers i 0)
          (fails_before_first (nat_le count) numbers i 0 (omega (arith, le, within)))
    ]

-- and the other way round
none-first : (count : ℕ) (numbers : List ℕ) → ((i : ℕ) → i < length numbers → slice_index_or numbers i 0 < count) →
    position (nat_le count) numbers ≡ None
none-first count numbers below =
    let all = position_or_len_is (nat_le count) numbers (length numbers) 0 (omega arith)
    (λ i within. lt-leb count (slice_index_or numbers i 0) (below i within)) (λ more. absurd (omega (arith, more))) in
    ap (λ first. cond (nat_lt first (length numbers)) (Some first) None) all
    ∙ ap (λ b. cond b (Some (length numbers)) None) (lt-leb (suc (length numbers)) (length numbers) (omega arith))

-- ---- the live session of a name

present : (sessions : List Session) (k : ℕ) → k < length sessions →
    option_map (λ (s : Session). s.entry) (slice_get sessions k) ≡ None → ⊥
present [] k within missing = absurd (omega (arith, within))
present (s ∷ sessions) zero within missing = absurd cc
present (s ∷ sessions) (suc k) within missing = present sessions k (omega (arith, within)) missing

-- a session that was found by its name is there
pub found-there : (sessions : List Session) (name : List ℕ) (k : ℕ) → live_session sessions name ≡ Some k →
    option_map (λ (s : Session). s.entry) (slice_get sessions k) ≡ None → ⊥
found-there sessions name k found missing =
    let none : Session = record {
      entry = record { name = []; length = 0; fresh = []; recipe = [] };
      live = false;
    } in
    let first = position-Some (λ (s : Session). s.live && bytes_eq s.entry.name name) sessions k none found in
    present sessions k first.0 missing

-- its recipe has no more places than all sessions
pub places-of : (sessions : List Session) (k : ℕ) (entry : IngestRecord) →
    option_map (λ (s : Session). s.entry) (slice_get sessions k) ≡ Some entry → length entry.recipe ≤ places_in sessions
places-of [] k entry is = absurd cc
places-of (s ∷ sessions) zero entry is =
    let same : s.entry ≡ entry = cc in
    let sum = sum_by-cons (λ (t : Session). length t.entry.recipe) s sessions in
    let count = ap (λ (e : IngestRecord). length e.recipe) same in
    omega (arith, sum, count)
places-of (s ∷ sessions) (suc k) entry is =
    let sum = sum_by-cons (λ (t : Session). length t.entry.recipe) s sessions in
    let rest = places-of sessions k entry is in
    omega (arith, sum, rest)

abbrev pub recipe_in : List Session → Option ℕ → List ℕ
recipe_in sessions found = unwrap_or (option_map (λ (s : Session). s.entry.recipe) (option_and_then (slice_get sessions) found)) []

recipe-entry : (session : Option Session) (entry : IngestRecord) → option_map (λ (s : Session). s.entry) session ≡ Some entry →
    unwrap_or (option_map (λ (s : Session). s.entry.recipe) session) [] ≡ entry.recipe
recipe-entry None entry is = absurd cc
recipe-entry (Some session) entry is =
    let same : session.entry ≡ entry = cc in ap (λ (e : IngestRecord). e.recipe) same

-- its recipe is that of its entry
pub recipe-named : (own store : StoreState) (name : List ℕ) (k : ℕ) (entry : IngestRecord) → own ≡ store →
    live_session own.opened.book.sessions name ≡ Some k →
    option_map (λ (s : Session). s.entry) (slice_get own.opened.book.sessions k) ≡ Some entry →
    recipe_named store name ≡ entry.recipe
recipe-named own store name k entry same found is =
    ap (λ (s : StoreState). recipe_named s name) (sym same) ∙ ap (recipe_in own.opened.book.sessions) found
    ∙ recipe-entry (slice_get own.opened.book.sessions k) entry is

-- a session of the book of a state has the recipe that the state gives it
recipe-book : (name_of : List ℕ → List ℕ) (stored before : List (List ℕ)) (sessions : List StoredSession) (k : ℕ) →
    option_map (λ (s : Session). s.entry.recipe) (slice_get (book_sessions name_of stored before sessions) k)
    ≡ option_map (λ (s : StoredSession). map (first_index stored) s.chunks) (slice_get sessions k)
recipe-book name_of stored before [] k = refl
recipe-book name_of stored before (s ∷ sessions) zero = refl
recipe-book name_of stored before (s ∷ sessions) (suc k) =
    recipe-book name_of stored (before ++ s.chunks) sessions k

-- the chunks of a session of a number, or none if there is no such session
abbrev pub chunks_at : List StoredSession → Option ℕ → List (List ℕ)
chunks_at sessions found = unwrap_or (option_map (λ (s : StoredSession). s.chunks) (option_and_then (slice_get sessions) found)) []

-- they are placed
chunks-placed : (placed : List (List ℕ)) (sessions : List StoredSession) (k : ℕ) → AreAllPlaced placed sessions →
    (chunk : List ℕ) → is_among (chunks_at sessions (Some k)) chunk ≡ true → is_among placed chunk ≡ true
chunks-placed placed [] k all chunk among = absurd cc
chunks-placed placed (s ∷ sessions) zero all chunk among = all.0 chunk among
chunks-placed placed (s ∷ sessions) (suc k) all chunk among = chunks-placed placed sessions k all.1 chunk among

bytes-at : (sessions : List StoredSession) (k : ℕ) →
    unwrap_or (option_map bytes_of_session (slice_get sessions k)) [] ≡ concat (chunks_at sessions (Some k))
bytes-at [] k = refl
bytes-at (s ∷ sessions) zero = refl
bytes-at (s ∷ sessions) (suc k) = bytes-at sessions k

recipe-at : (stored : List (List ℕ)) (sessions : List StoredSession) (k : ℕ) →
    unwrap_or (option_map (λ (s : StoredSession). map (first_index stored) s.chunks) (slice_get sessions k)) []
    ≡ map (first_index stored) (chunks_at sessions (Some k))
recipe-at stored [] k = refl
recipe-at stored (s ∷ sessions) zero = refl
recipe-at stored (s ∷ sessions) (suc k) = recipe-at stored sessions k

-- ---- a store that stands for a state

module _ (name_of : List ℕ → List ℕ) (store : StoreState) (files : File → List ℕ) (state : State)
    (offered : List (List ℕ)) (stands : StandsFor name_of store files state offered)
    (some : All (λ n. 1 ≤ n) (lengths_of (chunks_of_store store))) where
  abbrev stored : List (List ℕ)
  stored = stored_chunks state

  -- the number names a chunk of the store that is intact
  pub record IsSound (n : ℕ) : Type 0 where
    pub known : n < length (chunks_of_store store)
    pub intact : IsIntact name_of files store n

  -- a stored chunk is read as it is
  stored-read : (chunk : List ℕ) → is_among stored chunk ≡ true → chunk_as_read files store (first_index stored chunk) ≡ chunk
  stored-read chunk among =
      let n = first_index stored chunk in
      let below = first_index-below stored chunk among in
      let sum = length-append stored offered in
      stands-read name_of store files state offered stands some n (omega (arith, below, sum))
      ∙ get_or-append stored offered [] n below ∙ chunk_at-first_index stored chunk among

  stored-sound : (chunk : List ℕ) → is_among stored chunk ≡ true → IsSound (first_index stored chunk)
  stored-sound chunk among =
      let n = first_index stored chunk in
      let below = first_index-below stored chunk among in
      let sum = length-append stored offered in
      let count = stands-count name_of store files state offered stands in
      let within : n < length (stored ++ offered) = omega (arith, below, sum) in
      record {
        known = omega (arith, within, count);
        intact = ap name_of (stands-read name_of store files state offered stands some n within)
            ∙ ap (λ (c : NewChunk). c.name) (sym (stands-kept name_of store files state offered stands n within));
      }

  stored-bytes : (chunks : List (List ℕ)) →
      ((chunk : List ℕ) → is_among chunks chunk ≡ true → is_among stored chunk ≡ true) →
      bytes_as_read files store (map (first_index stored) chunks) ≡ concat chunks
  stored-bytes [] among = refl
  stored-bytes (chunk ∷ chunks) among =
      let n = first_index stored chunk in
      flat_map-cons (chunk_as_read files store) n (map (first_index stored) chunks)
      ∙ ap (λ bytes. bytes ++ bytes_as_read files store (map (first_index stored) chunks))
      (stored-read chunk (among chunk (among_own chunk chunks)))
      ∙ ap (λ bytes. chunk ++ bytes)
      (stored-bytes chunks (λ c later. among c (among_later c chunk chunks later)))

  all-sound : (chunks : List (List ℕ)) →
      ((chunk : List ℕ) → is_among chunks chunk ≡ true → is_among stored chunk ≡ true) →
      AllByRecursion IsSound (map (first_index stored) chunks)
  all-sound [] among = tt
  all-sound (chunk ∷ chunks) among = (
    stored-sound chunk (among chunk (among_own chunk chunks)),
    all-sound chunks (λ c later. among c (among_later c chunk chunks later)),
  )

  module _ (name : List ℕ) where
    abbrev found : Option ℕ
    found = live_session_named (sessions_in state) name

    abbrev mine : List (List ℕ)
    mine = chunks_at (sessions_in state) found

    own-among : (k : Option ℕ) (chunk : List ℕ) → is_among (chunks_at (sessions_in state) k) chunk ≡ true → is_among stored chunk ≡ true
    own-among None chunk among = absurd cc
    own-among (Some k) chunk among =
        placed-stored state chunk
        (chunks-placed (placed_chunks state.events) (sessions_in state) k (sessions_are_placed state) chunk among)

    own-bytes : (k : Option ℕ) →
        unwrap_or (option_map bytes_of_session (option_and_then (slice_get (sessions_in state)) k)) [] ≡ concat (chunks_at (sessions_in state) k)
    own-bytes None = refl
    own-bytes (Some k) = bytes-at (sessions_in state) k

    own-recipe : (k : Option ℕ) →
        recipe_in (book_sessions name_of stored [] (sessions_in state)) k ≡ map (first_index stored) (chunks_at (sessions_in state) k)
    own-recipe None = refl
    own-recipe (Some k) =
        ap (λ (o : Option (List ℕ)). unwrap_or o []) (recipe-book name_of stored [] (sessions_in state) k)
        ∙ recipe-at stored (sessions_in state) k

    -- the live session of the name has the same number
    pub stands-found : live_session store.opened.book.sessions name ≡ found
    stands-found =
        ap (λ (o : Opened). live_session o.book.sessions name) stands.opened ∙ book-live_session name_of state name

    pub recipe-is : recipe_named store name ≡ map (first_index stored) mine
    recipe-is =
        ap (recipe_in store.opened.book.sessions) stands-found
        ∙ ap (λ (o : Opened). recipe_in o.book.sessions found) stands.opened
        ∙ ap (λ sessions. recipe_in sessions found) (sessions-book name_of state)
        ∙ own-recipe found

    -- the chunks of its recipe, as they are read, are its bytes
    stands-bytes : bytes_as_read files store (recipe_named store name) ≡ session_bytes state name
    stands-bytes =
        ap (bytes_as_read files store) recipe-is ∙ stored-bytes mine (own-among found) ∙ sym (own-bytes found)

    stands-sound : (i : ℕ) → i < length (recipe_named store name) → IsSound (slice_index_or (recipe_named store name) i 0)
    stands-sound i within =
        All-get_or IsSound (recipe_named store name) i 0 within
        (subst (All IsSound) (sym recipe-is) (All-from_recursion IsSound (map (first_index stored) mine) (all-sound mine (own-among found))))

    -- each of its places names a chunk
    pub stands-known : unknown_place store (recipe_named store name) ≡ None
    stands-known =
        none-first (length (chunks_of_store store)) (recipe_named store name) (λ i within. (stands-sound i within).known)

    -- what is restored are the bytes of the session
    pub stands-restored : {T : Type 0} (result : Result T StoreFault) (before after : Option (List ℕ)) →
        ((result ≡ Err NoSession) ↔ (live_session store.opened.book.sessions name ≡ None)) →
        OnOk result (RestoresAll name_of files store (recipe_named store name) before after) →
        ((damage : Damage) → result ≡ Err (Damaged damage) →
        FindsDamage name_of files store (recipe_named store name) damage before after) →
        OnErr result (RestoresPart name_of files store (recipe_named store name) before after) →
        RestoresState state name result before after
    stands-restored result before after no_session restored damaged prefix = record {
      no_session = (λ is. sym stands-found ∙ no_session.0 is, λ none. no_session.1 (stands-found ∙ none));
      undamaged = λ damage is.
          let bad = damaged damage is in bad.damaged.differs (stands-sound bad.place bad.within).intact;
      restored = on-ok result (λ all. subst (Appends before after) stands-bytes all.written) restored;
      prefix = on-err result
          (λ part. subst (AppendsPrefix before after) stands-bytes
          (part-whole name_of files store (recipe_named store name) before after part)) prefix;
    }

-- no chunk of a store is empty
pub some-stored : (own store : StoreState) (lie : List Spot) (packer : Packer) (index : NameIndex) → own ≡ store →
    ArePlaced (chunks_of_store own) own.opened.head.generation lie packer index →
    All (λ n. 1 ≤ n) (lengths_of (chunks_of_store store))
some-stored own store lie packer index same placed =
    subst (λ (s : StoreState). All (λ n. 1 ≤ n) (lengths_of (chunks_of_store s))) same placed.behind.none_empty

-- the same over a shelf that may not be observable
pub told-restored : {T : Type 0} (name_of : List ℕ → List ℕ) (told : Told) (store : StoreState)
    (some : All (λ n. 1 ≤ n) (lengths_of (chunks_of_store store))) (name : List ℕ) (result : Result T StoreFault)
    (before after : Option (List ℕ)) → ((result ≡ Err NoSession) ↔ (live_session store.opened.book.sessions name ≡ None)) →
    OnOk result (IfSome told (λ files. RestoresAll name_of files store (recipe_named store name) before after)) →
    ((damage : Damage) → result ≡ Err (Damaged damage) →
    IfSome told (λ files. FindsDamage name_of files store (recipe_named store name) damage before after)) →
    OnErr result (IfSome told (λ files. RestoresPart name_of files store (recipe_named store name) before after)) →
    (state : State) (offered : List (List ℕ)) → IfSome told (λ files. StandsFor name_of store files state offered →
    RestoresState state name result before after)
told-restored name_of None store some name result before after no_session restored damaged prefix state offered = tt
told-restored name_of (Some files) store some name result before after no_session restored damaged prefix state offered =
    λ stands. stands-restored name_of store files state offered stands some name result before after no_session
    restored damaged prefix

-- no recipe of a store that stands for a state has a place that names no chunk
pub told-known : {T : Type 0} (name_of : List ℕ → List ℕ) (told : Told) (store : StoreState)
    (some : All (λ n. 1 ≤ n) (lengths_of (chunks_of_store store))) (name : List ℕ) (place : ℕ) (result : Result T StoreFault)
    (before after : Option (List ℕ)) → unknown_place store (recipe_named store name) ≡ Some place →
    (state : State) (offered : List (List ℕ)) → IfSome told (λ files. StandsFor name_of store files state offered →
    RestoresState state name result before after)
told-known name_of None store some name place result before after unknown state offered = tt
told-known name_of (Some files) store some name place result before after unknown state offered = λ stands.
    let clash : Some place ≡ None =
    sym unknown ∙ stands-known name_of store files state offered stands some name in absurd cc

-- ---- a session that has no bytes

abbrev Cut : State → StoredSession → Type 0
Cut state session = IsCutting state.params session.chunks

no-chunks-at : (state : State) (sessions : List StoredSession) (k : ℕ) → AllByRecursion (Cut state) sessions →
    unwrap_or (option_map bytes_of_session (slice_get sessions k)) [] ≡ [] → chunks_at sessions (Some k) ≡ []
unfolding cuts_within
no-chunks-at state [] k cut none = refl
no-chunks-at state (s ∷ sessions) zero cut none = cut.0 ∙ ap (chunks_of state.params) none
no-chunks-at state (s ∷ sessions) (suc k) cut none = no-chunks-at state sessions k cut.1 none

no-recipe-at : (name_of : List ℕ → List ℕ) (state : State) → IsLawful state → (k : Option ℕ) →
    unwrap_or (option_map bytes_of_session (option_and_then (slice_get (sessions_in state)) k)) [] ≡ [] →
    recipe_in (book_sessions name_of (stored_chunks state) [] (sessions_in state)) k ≡ []
no-recipe-at name_of state lawful None none = refl
no-recipe-at name_of state lawful (Some k) none =
    ap (λ (o : Option (List ℕ)). unwrap_or o []) (recipe-book name_of (stored_chunks state) [] (sessions_in state) k)
    ∙ recipe-at (stored_chunks state) (sessions_in state) k
    ∙ ap (map (first_index (stored_chunks state)))
    (no-chunks-at state (sessions_in state) k (recursion_from_All (Cut state) (sessions_in state) lawful.cut) none)

-- it has no places in a store that stands for the state
pub no-places : (name_of : List ℕ → List ℕ) (store : StoreState) (files : File → List ℕ) (state : State)
    (offered : List (List ℕ)) → StandsFor name_of store files state offered → (name : List ℕ) →
    session_bytes state name ≡ [] → recipe_named store name ≡ []
no-places name_of store files state offered stands name none =
    let found = live_session_named (sessions_in state) name in
    ap (λ (o : Opened). recipe_in o.book.sessions (live_session o.book.sessions name)) stands.opened
    ∙ ap (recipe_in (book_of_state name_of state).sessions) (book-live_session name_of state name)
    ∙ ap (λ sessions. recipe_in sessions found) (sessions-book name_of state)
    ∙ no-recipe-at name_of state stands.lawful found none

-- ---- a book of which no recipe fails

no-flaw : (place : Option ℕ) (sum : Option ℕ) → or_else place sum ≡ None → place ≡ None
no-flaw None sum none = refl
no-flaw (Some place) sum none = absurd cc

no-flaw_at : (k : ℕ) (flaw : Option ℕ) (later : Option Damage) → flaw_at k flaw later ≡ None → (flaw ≡ None) × (later ≡ None)
no-flaw_at k None later none = (refl, none)
no-flaw_at k (Some place) later none = absurd cc

-- the recipes of such sessions name chunks alone
undamaged-below : (before : List NewChunk) (j : ℕ) (sessions : List Session) (k : ℕ) (i : ℕ) →
    recipe_damage before j sessions ≡ None → i < length (recipe_in sessions (Some k)) →
    slice_index_or (recipe_in sessions (Some k)) i 0 < length before + length (chunks_in sessions)
undamaged-below before j [] k i none within = absurd (omega (arith, within))
undamaged-below before j (s ∷ sessions) zero i none within =
    let known = before ++ s.entry.fresh in
    let parts = no-flaw_at j (recipe_flaw known s.entry) (recipe_damage known (j + 1) sessions) none in
    let below = all-below (length known) s.entry.recipe i (no-flaw _ _ parts.0) within in
    let sum = length-append before s.entry.fresh in
    let all = ap length (flat_map-cons (λ (t : Session). t.entry.fresh) s sessions)
    ∙ length-append s.entry.fresh (chunks_in sessions) in
    omega (arith, below, sum, all)
undamaged-below before j (s ∷ sessions) (suc k) i none within =
    let known = before ++ s.entry.fresh in
    let parts = no-flaw_at j (recipe_flaw known s.entry) (recipe_damage known (j + 1) sessions) none in
    let below = undamaged-below known (j + 1) sessions k i parts.1 within in
    let sum = length-append before s.entry.fresh in
    let all = ap length (flat_map-cons (λ (t : Session). t.entry.fresh) s sessions)
    ∙ length-append s.entry.fresh (chunks_in sessions) in
    omega (arith, below, sum, all)

pub recipe-below : (sessions : List Session) (found : Option ℕ) (i : ℕ) → recipe_damage [] 0 sessions ≡ None →
    i < length (recipe_in sessions found) → slice_index_or (recipe_in sessions found) i 0 < length (chunks_in sessions)
recipe-below sessions None i none within = absurd (omega (arith, within))
recipe-below sessions (Some k) i none within =
    let below = undamaged-below [] 0 sessions k i none within in omega (arith, below)

-- so a store of such a book has no place that names no chunk
pub undamaged-known : (store : StoreState) (name : List ℕ) → recipe_damage [] 0 store.opened.book.sessions ≡ None →
    unknown_place store (recipe_named store name) ≡ None
undamaged-known store name none =
    let sessions = store.opened.book.sessions in
    let sum = length-append (chunks_in sessions) store.offered in
    none-first (length (chunks_of_store store)) (recipe_named store name)
    (λ i within. let below = recipe-below sessions (live_session sessions name) i none within in omega (arith, below, sum))

-- files that open have such a book: over them no recipe of the store has a place that names no chunk
pub recipes-known : (files : File → List ℕ) (opened : Opened) (name : List ℕ) → OpenAs files opened →
    unknown_place (record { opened = opened; offered = []; sound = true })
    (recipe_named (record { opened = opened; offered = []; sound = true }) name) ≡ None
recipes-known files opened name opens =
    undamaged-known (record { opened = opened; offered = []; sound = true }) name
    (ap (λ (book : BookState). recipe_damage [] 0 book.sessions) opens.committed.equals ∙ opens.committed.recipes)
