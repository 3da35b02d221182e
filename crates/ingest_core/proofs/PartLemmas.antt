-- The first chunks of an input were offered to a store or repeat earlier ones: what is known of the
-- store and its files.
use Rattle.std.proofs.Common.{◌≡◌, ℕ, ◌+◌, ◌<◌, ◌≤◌, true, drop, List, [], ◌∷◌, ◌++◌, Some, None, IfSome, OnErr, length, refl, ap, sym, subst, ◌∙◌, inl, inr, false, arith, map, slice_index_or, slice_range, append-nil, length-append}
use Rattle.std.proofs.lemmas.List.{append_assoc, drop_more, get_or-map, get_or_append_left, length-map, map-append}
use Rattle.std.proofs.lemmas.List.Sums.{passes_at_first}
use Rattle.std.proofs.lemmas.Slice.Eq.{bytes_eq-Decides}
use Rattle.std.proofs.Math.Seq.{get_or-append_seam}
use Rattle.std.specs.List.{All}
use Rattle.std.specs.Str.{bytes_eq}
use Rattle.std.specs.Prelude.{Err, Ok, Result}
use Rattle.edge_traits.specs.Shelf.{content}
use Rattle.sd_base.specs.Books.{chunks_in}
use Rattle.sd_base.specs.Cutting.{RiseWithin, chunks_between, chunks_of, cuts_of}
use Rattle.sd_base.specs.declared.raw_params.RawParams.{RawParams}
use Rattle.sd_base.specs.declared.record.NewChunk.{NewChunk}
use Rattle.sd_base.proofs.Covering.{chunk_sizes}
use Rattle.sd_base.proofs.Rising.{RiseWithin-cuts_of}
use Rattle.std.proofs.lemmas.List.Elements.{All-from_recursion, recursion_from_All}
use Rattle.sd_base.specs.Distinct.{distinct, first_index, is_among, new_chunks, not_among}
use Rattle.sd_base.specs.Opening.{Opened}
use Rattle.sd_base.specs.Stores.{HoldState, named}
use Rattle.sd_base.specs.declared.damage.Damage.{Damage}
use Rattle.store_core.specs.Faults.{IsOfChunk}
use Rattle.sd_base.specs.Parameters.{IsValid}
use Rattle.sd_base.specs.States.{State, placed_chunks, stored_chunks}
use Rattle.sd_base.specs.declared.file.File.{File}
use Rattle.sd_base.specs.declared.file.File.TheVariants.{Head}
use Rattle.sd_base.specs.declared.limits.TheConstants.{MAX_CHUNKS}
use Rattle.sd_base.proofs.Distinct.{distinct-append, is_among-distinct}
use Rattle.store_core.specs.CleanFiles.{AreCleanWith}
use Rattle.store_core.specs.Commits.{OnlyFails}
use Rattle.store_core.specs.Offers.{IsNamedDamage, IsOffered, IsRefused, OffersAt, OnlyOffers}
use Rattle.store_core.specs.Recipes.{IsInOrder}
use Rattle.store_core.specs.StoreStates.{StandsFor, StoreState, chunks_of_store}
use Rattle.store_core.specs.declared.fault.StoreFault.{StoreFault}
use Rattle.store_core.specs.declared.fault.StoreFault.TheVariants.{Damaged}
use Rattle.store_core.proofs.IngestLemmas.{book-chunks, ingest-new_chunks}
use Rattle.store_core.proofs.OfferLemmas.{stands-count}
use Rattle.store_core.proofs.StoreLemmas.{Told, if_told, told_map}
use Rattle.ingest_core.specs.Offering.{AreOffered, AreRefused, OnlyRefuses, StandsWith}
use Rattle.ingest_core.proofs.FaultLemmas.{at-error, err-is, err-of}
use Rattle.ingest_core.proofs.OfferLemmas.{Fit, HaveLengths, at-place, lengths-known, lengths-offered, one_known, one_more, stands-known, stands-more}
use Rattle.ingest_core.proofs.RecipeLemmas.{in_order-below, length_at}
use Rattle.shard_plan.specs.Leaders.{leaders_of}

-- The chunks of an input up to a position were offered or repeat earlier ones, and these cuts are left.
pub record IsPart (name_of : List ℕ → List ℕ) (input : List ℕ) (chunks : List (List ℕ)) (start : ℕ) (left : List ℕ)
    (recipe : List ℕ) (first now : StoreState) (before after : Told) : Type 0 where
  pub done : List (List ℕ)
  pub split : done ++ chunks_between input start left ≡ chunks
  pub fit : Fit first.opened.head.params.max (chunks_between input start left)
  pub rise : RiseWithin start (length input) left
  pub offered : AreOffered first done recipe now
  pub lengths : HaveLengths now recipe done
  pub head : content after Head ≡ content before Head
  pub stands : (state : State) → IfSome before (λ files. StandsFor name_of first files state [] →
      IfSome after (λ then. StandsWith name_of files now then state done recipe))

-- the cuts that are left begin with the next one
pub part-here : {name_of : List ℕ → List ℕ} {input : List ℕ} {chunks : List (List ℕ)} {start : ℕ} {recipe : List ℕ}
    {first now : StoreState} {before after : Told} (cuts : List ℕ) (k : ℕ) → k < length cuts →
    IsPart name_of input chunks start (drop k cuts) recipe first now before after →
    IsPart name_of input chunks start (slice_index_or cuts k 0 ∷ drop (k + 1) cuts) recipe first now before after
part-here {name_of} {input} {chunks} {start} {recipe} {first} {now} {before} {after} cuts k inside part =
    subst (λ (cs : List ℕ). IsPart name_of input chunks start cs recipe first now before after) (drop_more cuts k 0 inside) part

-- the same of an equal recipe, store and shelf
pub part-same : (name_of : List ℕ → List ℕ) (input : List ℕ) (chunks : List (List ℕ)) (start : ℕ) (left recipe : List ℕ)
    (first now : StoreState) (before after : Told) → IsPart name_of input chunks start left recipe first now before after →
    (entries : List ℕ) (store : StoreState) (told : Told) → entries ≡ recipe → store ≡ now → told ≡ after →
    IsPart name_of input chunks start left entries first store before told
part-same name_of input chunks start left recipe first now before after part entries store told recipes stores tolds =
    subst (λ r. IsPart name_of input chunks start left r first store before told) (sym recipes)
    (subst (λ (s : StoreState). IsPart name_of input chunks start left recipe first s before told) (sym stores)
    (subst (λ (t : Told). IsPart name_of input chunks start left recipe first now before t) (sym tolds) part))

-- what holds if a shelf is observable holds of one that is
at_told : (P : (File → List ℕ) → Type 0) (told : Told) (files : File → List ℕ) → told ≡ Some files → IfSome told P → P files
at_told P told files is holds = subst (λ (t : Told). IfSome t P) is holds

-- what leads from a shelf to a second and from there to a third leads to the third
through : (P : (File → List ℕ) → Type 0) (Q R : (File → List ℕ) → (File → List ℕ) → Type 0) (before mid after : Told) →
    content mid Head ≡ content before Head → IfSome before (λ files. P files → IfSome mid (Q files)) →
    ((first files : File → List ℕ) → mid ≡ Some files → Q first files → IfSome after (R first)) →
    IfSome before (λ files. P files → IfSome after (R files))
through P Q R None mid after head one two = tt
through P Q R (Some files) None after head one two = absurd cc
through P Q R (Some files) (Some then) after head one two = λ p. two files then refl (one p)

module _ (name_of : List ℕ → List ℕ) (input : List ℕ) (chunks : List (List ℕ)) (start cut : ℕ) (left : List ℕ)
    (recipe : List ℕ) (first now : StoreState) (before mid : Told)
    (part : IsPart name_of input chunks start (cut ∷ left) recipe first now before mid) where
  abbrev chunk : List ℕ
  chunk = slice_range input start cut

  abbrev known : ℕ
  known = length (chunks_in first.opened.book.sessions)

  -- one more chunk was offered
  pub part-next : (next : StoreState) (after : Told) (name : List ℕ) (i : ℕ) →
      OffersAt now (record { length = length chunk; name = name }) i next → content after Head ≡ content mid Head →
      ((state : State) (offered : List (List ℕ)) → IfSome mid (λ files. StandsFor name_of now files state offered →
      IsOffered name_of state offered chunk i next after)) →
      ((state : State) (offered : List (List ℕ)) → IfSome mid (λ files. StandsFor name_of now files state offered →
      AreCleanWith name_of files state offered → IfSome after (λ then. AreCleanWith name_of then state
      (offered ++ new_chunks (stored_chunks state ++ offered) (chunk ∷ []))))) →
      IsPart name_of input chunks cut left (recipe ++ i ∷ []) first next before after
  part-next next after name i offers head stands clean = record {
    done = part.done ++ chunk ∷ [];
    split = append_assoc part.done (chunk ∷ []) (chunks_between input cut left) ∙ part.split;
    fit = part.fit.1;
    rise = part.rise.2;
    offered = one_more first now next part.done recipe chunk name i part.offered part.fit.0.1 offers;
    lengths = lengths-offered first now next part.done recipe chunk name i part.offered offers part.lengths;
    head = head ∙ part.head;
    stands = λ state. through (λ files. StandsFor name_of first files state [])
        (λ origin files. StandsWith name_of origin now files state part.done recipe)
        (λ origin files. StandsWith name_of origin next files state (part.done ++ chunk ∷ []) (recipe ++ i ∷ []))
        before mid after part.head (part.stands state) (λ origin files is had.
        stands-more name_of origin now files state part.done recipe known part.offered.in_order chunk next after i name offers had
        (at_told (λ f. StandsFor name_of now f state had.offered → IsOffered name_of state had.offered chunk i next after)
        mid files is (stands state had.offered) had.stands)
        (at_told (λ f. StandsFor name_of now f state had.offered → AreCleanWith name_of f state had.offered →
        IfSome after (λ then. AreCleanWith name_of then state
        (had.offered ++ new_chunks (stored_chunks state ++ had.offered) (chunk ∷ []))))
        mid files is (clean state had.offered) had.stands));
  }

  -- of a list that has an item for each chunk, the one at the end of the recipe is that of the next
  pub part-at : {T : Type 0} (f : List ℕ → T) (other : T) (all : List T) → all ≡ map f chunks →
      (length recipe < length all) × (slice_index_or all (length recipe) other ≡ f chunk)
  part-at f other all are =
      let rest = map f (chunks_between input cut left) in
      let done = map f part.done in
      let split : all ≡ done ++ f chunk ∷ rest =
      are ∙ ap (map f) (sym part.split) ∙ map-append f part.done (chunk ∷ chunks_between input cut left) in
      let here : length recipe ≡ length done = part.offered.count ∙ sym (length-map part.done f) in (
        omega (arith, ap length split, length-append done (f chunk ∷ rest), here),
        ap (λ ts. slice_index_or ts (length recipe) other) split ∙ ap (λ n. slice_index_or (done ++ f chunk ∷ rest) n other) here
            ∙ get_or-append_seam done (f chunk) rest other,
      )

  -- the leader of the next chunk, if it was before it, has its bytes
  leader-same : (leader : ℕ) → leader ≡ first_index chunks chunk → leader < length recipe →
      slice_index_or part.done leader [] ≡ chunk
  leader-same leader is inside =
      let rest = chunk ∷ chunks_between input cut left in
      let before : leader < length part.done = omega (arith, inside, part.offered.count) in
      let there : first_index chunks chunk < length chunks =
      omega (arith, is, before, ap length part.split, length-append part.done rest) in
      sym (get_or_append_left part.done rest [] leader before) ∙ ap (λ cs. slice_index_or cs leader []) part.split
      ∙ ap (λ n. slice_index_or chunks n []) is
      ∙ sym ((bytes_eq-Decides chunk (slice_index_or chunks (first_index chunks chunk) [])).0
      (passes_at_first (bytes_eq chunk) chunks [] there))

  -- the next chunk has an earlier leader: it is not offered, and its entry is that of the leader
  pub part-repeat : (leaders : List ℕ) (leader : ℕ) → leaders ≡ leaders_of chunks →
      leader ≡ slice_index_or leaders (length recipe) 0 → leader < length recipe →
      IsPart name_of input chunks cut left (recipe ++ slice_index_or recipe leader 0 ∷ []) first now before mid
  part-repeat leaders leader are at inside =
      let same = leader-same leader (at ∙ (part-at (first_index chunks) 0 leaders are).1) inside in
      let kept = chunks_of_store now in
      let size : length_at kept (slice_index_or recipe leader 0) ≡ length chunk =
      at-place (length_at kept) 0 recipe (map length part.done) leader part.lengths inside
      ∙ get_or-map length part.done leader [] 0 (omega (arith, inside, part.offered.count)) ∙ ap length same in
      let below = in_order-below known (length kept) recipe leader part.offered.in_order inside in
      record {
        done = part.done ++ chunk ∷ [];
        split = append_assoc part.done (chunk ∷ []) (chunks_between input cut left) ∙ part.split;
        fit = part.fit.1;
        rise = part.rise.2;
        offered = one_known first now part.done recipe chunk (slice_index_or recipe leader 0) part.offered below size;
        lengths = lengths-known now recipe part.done (slice_index_or recipe leader 0) chunk part.lengths size;
        head = part.head;
        stands = λ state. told_map before (λ files with stands. told_map mid (λ then had.
            stands-known name_of files now then state part.done recipe chunk leader inside same had) (with stands))
            (part.stands state);
      }

-- a store with no chunk offered names none
none_stands : (name_of : List ℕ → List ℕ) (store : StoreState) (told : Told) (state : State) →
    IfSome told (λ files. StandsFor name_of store files state [] →
    IfSome told (λ then. StandsWith name_of files store then state [] []))
none_stands name_of store None state = tt
none_stands name_of store (Some files) state = λ stands. record {
  offered = [];
  stands = stands;
  names = refl;
  few = let stored = ap length (append-nil (stored_chunks state)) in omega (arith, stored, stands.lawful.chunks);
  clean = λ alone. alone;
}

-- no chunk was offered yet
pub part-none : (name_of : List ℕ → List ℕ) (params : RawParams) (input cuts : List ℕ) (store : StoreState) (told : Told) →
    params ≡ store.opened.head.params → IsValid params → cuts ≡ cuts_of params input → store.offered ≡ [] → store.sound ≡ true →
    IsPart name_of input (chunks_of params input) 0 cuts [] store store told told
part-none name_of params input cuts store told same valid are none sound =
    let min = valid.min in
    let some : 1 ≤ params.min = omega (arith, min) in
    let bound : (p : RawParams) → p ≡ params → Fit p.max (chunks_between input 0 cuts) = λ p is.
    subst (λ (raw : RawParams). Fit raw.max (chunks_between input 0 cuts)) (sym is)
    (subst (λ cs. Fit params.max (chunks_between input 0 cs)) (sym are)
    (recursion_from_All (λ chunk. (1 ≤ length chunk) × (length chunk ≤ params.max)) (chunks_of params input)
    (chunk_sizes params input some valid.max.0))) in
    record {
      done = [];
      split = ap (chunks_between input 0) are;
      fit = bound store.opened.head.params (sym same);
      rise = subst (RiseWithin 0 (length input)) (sym are) (RiseWithin-cuts_of params input some valid.max.0);
      offered = record {
        opened = refl;
        sound = sound;
        count = refl;
        in_order = sym (ap (λ new. length (chunks_in store.opened.book.sessions ++ new)) none
            ∙ ap length (append-nil (chunks_in store.opened.book.sessions)));
        sums = refl;
        short = subst (All (λ (chunk : NewChunk). chunk.length ≤ store.opened.head.params.max)) (sym none)
            (All-from_recursion (λ (chunk : NewChunk). chunk.length ≤ store.opened.head.params.max) [] tt);
      };
      lengths = refl;
      head = refl;
      stands = none_stands name_of store told;
    }

-- the whole input was offered
pub part-all : (name_of : List ℕ → List ℕ) (input : List ℕ) (chunks : List (List ℕ)) (start : ℕ) (left recipe : List ℕ)
    (first now : StoreState) (before after : Told) → left ≡ [] →
    IsPart name_of input chunks start left recipe first now before after →
    IsPart name_of input chunks start [] recipe first now before after × AreOffered first chunks recipe now
    × ((state : State) → IfSome before (λ files. StandsFor name_of first files state [] →
    IfSome after (λ then. StandsWith name_of files now then state chunks recipe)))
part-all name_of input chunks start left recipe first now before after none part =
    let whole = subst (λ cs. IsPart name_of input chunks start cs recipe first now before after) none part in
    let all : whole.done ≡ chunks = sym (append-nil whole.done) ∙ whole.split in (
      whole,
      subst (λ done. AreOffered first done recipe now) all whole.offered,
      subst (λ done. (state : State) → IfSome before (λ files. StandsFor name_of first files state [] →
          IfSome after (λ then. StandsWith name_of files now then state done recipe))) all whole.stands,
    )

-- ---- a chunk that is refused

-- the damage of a stored chunk is that of a chunk
pub named-damage : (store : StoreState) (name : List ℕ) (damage : Damage) → IsNamedDamage store name damage → IsOfChunk damage
named-damage store name damage named = subst IsOfChunk (sym named.equals) tt

-- an offer is refused so, and with it the chunks of an input
pub offer-refuses : (T : Type 0) (store : StoreState) (name : List ℕ) (r : Result ℕ StoreFault) (fault : StoreFault) →
    r ≡ Err fault → OnErr r (OnlyOffers r) →
    ((damage : Damage) → r ≡ Err (Damaged damage) → IsNamedDamage store name damage) →
    OnlyRefuses (let q : Result T StoreFault = Err fault in q)
offer-refuses T store name r fault is only damages =
    let refused : OnErr (let e : Result ℕ StoreFault = Err fault in e) (OnlyOffers (let e : Result ℕ StoreFault = Err fault in e)) =
    subst (λ (e : Result ℕ StoreFault). OnErr e (OnlyOffers e)) is only in
    elim refused [
      | inl found ↦ inl (found.0, err-of T (err-is found.1), named-damage store name found.0 (damages found.0 (is ∙ found.1)))
      | inr (inl many) ↦ inr (inl (err-of T (err-is many)))
      | inr (inr (inl failed)) ↦ inr (inr (inl (err-of T (err-is failed))))
      | inr (inr (inr memory)) ↦ inr (inr (inr (err-of T (err-is memory))))
    ]

-- chunks of which a new one is not among the first, which are as many as there may be, are too many
too-many : (placed done rest : List (List ℕ)) (chunk : List ℕ) (count : ℕ) → length (distinct (placed ++ done)) ≡ count →
    is_among (distinct (placed ++ done)) chunk ≡ false → count < length (distinct (placed ++ (done ++ chunk ∷ rest)))
too-many placed done rest chunk count full alone =
    let front = placed ++ done in
    let not_there : is_among front chunk ≡ false = sym (is_among-distinct front chunk) ∙ alone in
    let whole : distinct (placed ++ (done ++ chunk ∷ rest)) ≡ distinct front ++ new_chunks front (chunk ∷ rest) =
    ap distinct (sym (append_assoc placed done (chunk ∷ rest))) ∙ distinct-append front (chunk ∷ rest) in
    let new : new_chunks front (chunk ∷ rest) ≡ chunk ∷ not_among front (not_among (chunk ∷ []) (distinct rest)) =
    rw not_there refl in
    let count_new = ap length new in
    let sum = ap length whole ∙ length-append (distinct front) (new_chunks front (chunk ∷ rest)) in
    omega (arith, sum, count_new, full)

-- the chunks of the book are those that the state stores
pub known-is : (name_of : List ℕ → List ℕ) (now : StoreState) (files : File → List ℕ) (state : State) (offered : List (List ℕ)) →
    StandsFor name_of now files state offered → (first : StoreState) → now.opened ≡ first.opened →
    length (chunks_in first.opened.book.sessions) ≡ length (stored_chunks state)
known-is name_of now files state offered stands first same =
    ap (λ (opened : Opened). length (chunks_in opened.book.sessions)) (sym same ∙ stands.opened)
    ∙ ap length (book-chunks name_of state) ∙ length-map (stored_chunks state) (named name_of)

-- what follows of the second shelf follows of the first
through_all : (name_of : List ℕ → List ℕ) (first now : StoreState) (state : State) (done : List (List ℕ)) (recipe : List ℕ)
    (R : Type 0) (before mid : Told) → content mid Head ≡ content before Head →
    IfSome before (λ files. StandsFor name_of first files state [] →
    IfSome mid (λ then. StandsWith name_of files now then state done recipe)) →
    ((origin files : File → List ℕ) → mid ≡ Some files → StandsWith name_of origin now files state done recipe → R) →
    IfSome before (λ files. StandsFor name_of first files state [] → R)
through_all name_of first now state done recipe R None mid head one two = tt
through_all name_of first now state done recipe R (Some files) None head one two = absurd cc
through_all name_of first now state done recipe R (Some files) (Some then) head one two = λ stands. two files then refl (one stands)

module _ (name_of : List ℕ → List ℕ) (input : List ℕ) (chunks : List (List ℕ)) (start cut : ℕ) (left : List ℕ)
    (recipe : List ℕ) (first now : StoreState) (before mid : Told)
    (part : IsPart name_of input chunks start (cut ∷ left) recipe first now before mid) (after : Told) (T : Type 0)
    (r : Result ℕ StoreFault) (fault : StoreFault) (is : r ≡ Err fault)
    (still : (state : State) (offered : List (List ℕ)) → IfSome mid (λ files. StandsFor name_of now files state offered →
    IfSome after (λ then. HoldState name_of then state)))
    (refused : (state : State) (offered : List (List ℕ)) → IfSome mid (λ files. StandsFor name_of now files state offered →
    OnErr r (IsRefused state offered (slice_range input start cut) r))) where
  abbrev answer : Result T StoreFault
  answer = Err fault

  -- over files of which the store stands for a state
  refused-over : (state : State) (origin files : File → List ℕ) → mid ≡ Some files →
      StandsWith name_of origin now files state part.done recipe → AreRefused name_of state chunks after answer
  refused-over state origin files told had =
      let all = stored_chunks state ++ had.offered in
      let next = slice_range input start cut in
      let why : IsRefused state had.offered next r =
      at-error (λ _. IsRefused state had.offered next r) r fault is (at_told
      (λ f. StandsFor name_of now f state had.offered → OnErr r (IsRefused state had.offered next r)) mid files told
      (refused state had.offered) had.stands) in
      let held : IfSome after (λ then. HoldState name_of then state) =
      at_told (λ f. StandsFor name_of now f state had.offered → IfSome after (λ then. HoldState name_of then state)) mid
      files told (still state had.offered) had.stands in
      elim why [
        | inl many ↦
            let order = subst (λ n. IsInOrder n recipe (length all)) (known-is name_of now files state had.offered had.stands
            first part.offered.opened)
            (subst (λ n. IsInOrder (length (chunks_in first.opened.book.sessions)) recipe n)
            (stands-count name_of now files state had.offered had.stands) part.offered.in_order) in
            let new : new_chunks (placed_chunks state.events) part.done ≡ had.offered =
            ingest-new_chunks state had.offered part.done recipe had.stands.different order (sym had.names) in
            let stored : distinct (placed_chunks state.events ++ part.done) ≡ all =
            distinct-append (placed_chunks state.events) part.done ∙ ap (λ more. stored_chunks state ++ more) new in
            record {
              why = inl (
                err-of T (err-is (sym is ∙ many.0)),
                subst (λ cs. MAX_CHUNKS < length (distinct (placed_chunks state.events ++ cs))) part.split
                    (too-many (placed_chunks state.events) part.done (chunks_between input cut left) next MAX_CHUNKS
                    (ap length stored ∙ many.1) (ap (λ cs. is_among cs next) stored ∙ many.2)),
              );
              held = held;
            }
        | inr (inl failed) ↦ record { why = inr (inl (err-of T (err-is (sym is ∙ failed)))); held = held }
        | inr (inr memory) ↦ record { why = inr (inr (err-of T (err-is (sym is ∙ memory)))); held = held }
      ]

  pub part-refused : (state : State) → IfSome before (λ files. StandsFor name_of first files state [] →
      AreRefused name_of state chunks after answer)
  part-refused state =
      through_all name_of first now state part.done recipe (AreRefused name_of state chunks after answer) before mid part.head
      (part.stands state) (refused-over state)

-- if memory runs out between two chunks, the files hold the state
pub part-stopped : (name_of : List ℕ → List ℕ) (input : List ℕ) (chunks : List (List ℕ)) (start : ℕ) (left : List ℕ)
    (recipe : List ℕ) (first now : StoreState) (before after : Told) → IsPart name_of input chunks start left recipe first now before after →
    (all : List (List ℕ)) (T : Type 0) (r : Result T StoreFault) → OnErr r (OnlyFails r) → (state : State) →
    IfSome before (λ files. StandsFor name_of first files state [] → OnErr r (AreRefused name_of state all after r))
part-stopped name_of input chunks start left recipe first now before after part all T (Ok x) fails state =
    if_told before (λ files stands. tt)
part-stopped name_of input chunks start left recipe first now before after part all T (Err fault) fails state =
    told_map before (λ files with stands. record {
      why = inr fails;
      held = told_map after (λ then had. had.stands.held) (with stands);
    }) (part.stands state)
