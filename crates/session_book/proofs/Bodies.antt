-- Bodies of records: what is read is spelled so, what is spelled so is read, and how long they are.
use Rattle.std.proofs.Common.{◌≡◌, ℕ, zero, suc, ◌+◌, ◌*◌, ◌^◌, ◌<◌, ◌≤◌, Bool, true, false, cond, leb, eqb, List, [], ◌∷◌, ◌++◌, length, All, Option, Some, None, refl, sym, ap, subst, ◌∙◌, append_assoc, length-append, arith, lit<}
use Rattle.std.specs.List.{flat_map, AllByRecursion}
use Rattle.std.proofs.lemmas.Bool.{leb-true, le-leb, eqb-true}
use Rattle.std.proofs.lemmas.List.{append-nil, nil_from_length}
use Rattle.std.proofs.lemmas.List.Elements.{All-from_recursion, recursion_from_All}
use Rattle.std.proofs.lemmas.List.Concat.{flat_map-cons}
use Rattle.sd_base.specs.Records.{u32_bytes, new_chunk, ingest_body, kind_of, body_of, IsNewChunk, IsIngest, IsRecord}
use Rattle.sd_base.specs.declared.limits.TheConstants.{MAX_CHUNKS, MAX_PLACES}
use Rattle.sd_base.specs.declared.record.NewChunk.{NewChunk}
use Rattle.sd_base.specs.declared.record.IngestRecord.{IngestRecord}
use Rattle.sd_base.specs.declared.record.Record.{Record}
use Rattle.sd_base.specs.declared.record.Record.TheVariants.{Ingest, Drop}
use Rattle.session_book.specs.Reading.{◌>>=◌, number_at, name_at, chunk_at, list_at, counted_at, chunks_at, entries_at, ingest_at, ingest_after_name, ended, record_of}
use Rattle.session_book.proofs.Fields.{IsBytes, bind_some, some_is, when_some, StartsWith, StartsWith-then, IsReader, number_reader, name_reader, chunk_reader}
use Rattle.session_book.proofs.Sizes.{length_entries, length_ingest_body}

-- ---- lists

list_takes : {A : Type 0} (item : List ℕ → Option (A × List ℕ)) (spell : A → List ℕ) (Fits : A → Type 0) → IsReader item spell Fits → (n : ℕ) (bytes : List ℕ) (x : List A × List ℕ) → IsBytes bytes → list_at item n bytes ≡ Some x → StartsWith bytes (flat_map spell x.0) x.1 × (length x.0 ≡ n) × AllByRecursion Fits x.0
unfolding list_at
list_takes {A} item spell Fits reader zero bytes x fits e =
    subst (λ (y : List A × List ℕ). StartsWith bytes (flat_map spell y.0) y.1 × (length y.0 ≡ 0) × AllByRecursion Fits y.0) (some_is ([], bytes) x e) (record { parts = refl; rest_fits = fits }, refl, tt)
list_takes {A} item spell Fits reader (suc n) bytes x fits e =
    let a = bind_some (item bytes) (λ first. list_at item n first.1 >>= λ others. Some (first.0 ∷ others.0, others.1)) x e in
    let b = bind_some (list_at item n a.0.1) (λ others. Some (a.0.0 ∷ others.0, others.1)) x a.2 in
    let first = reader.takes bytes a.0 fits a.1 in
    let second = list_takes item spell Fits reader n a.0.1 b.0 first.0.rest_fits b.1 in
    let both = StartsWith-then bytes (spell a.0.0) a.0.1 (flat_map spell b.0.0) b.0.1 first.0 second.0 in
    let made : List A × List ℕ = (a.0.0 ∷ b.0.0, b.0.1) in
    subst (λ (y : List A × List ℕ). StartsWith bytes (flat_map spell y.0) y.1 × (length y.0 ≡ suc n) × AllByRecursion Fits y.0) (some_is made x b.2) (rw flat_map-cons both, ap suc second.1, (first.1, second.2))

list_again : {A : Type 0} (item : List ℕ → Option (A × List ℕ)) (spell : A → List ℕ) (Fits : A → Type 0) → IsReader item spell Fits → (ns : List A) (rest : List ℕ) → AllByRecursion Fits ns → list_at item (length ns) (flat_map spell ns ++ rest) ≡ Some (ns, rest)
unfolding list_at
list_again item spell Fits reader [] rest fits = refl
list_again item spell Fits reader (n ∷ ns) rest fits =
    let regrouped : flat_map spell (n ∷ ns) ++ rest ≡ spell n ++ (flat_map spell ns ++ rest) = ap (λ (x : List ℕ). x ++ rest) (flat_map-cons spell n ns) ∙ append_assoc (spell n) (flat_map spell ns) rest in
    ap (list_at item (suc (length ns))) regrouped ∙ rw (reader.again n (flat_map spell ns ++ rest) fits.0, list_again item spell Fits reader ns rest fits.1) refl

-- the number of items, and the items
abbrev counted : {A : Type 0} → (A → List ℕ) → List A → List ℕ
counted spell ns = u32_bytes (length ns) ++ flat_map spell ns

counted_takes : {A : Type 0} (item : List ℕ → Option (A × List ℕ)) (spell : A → List ℕ) (Fits : A → Type 0) → IsReader item spell Fits → (limit : ℕ) (bytes : List ℕ) (x : List A × List ℕ) → IsBytes bytes → counted_at limit item bytes ≡ Some x → StartsWith bytes (counted spell x.0) x.1 × (length x.0 ≤ limit) × All Fits x.0
counted_takes {A} item spell Fits reader limit bytes x fits e =
    let a = bind_some (number_at bytes) (λ n. cond (leb n.0 limit) (list_at item n.0 n.1) None) x e in
    let g = when_some (leb a.0.0 limit) (list_at item a.0.0 a.0.1) x a.2 in
    let first = number_reader.takes bytes a.0 fits a.1 in
    let second = list_takes item spell Fits reader a.0.0 a.0.1 x first.0.rest_fits g.1 in
    let both = StartsWith-then bytes (u32_bytes a.0.0) a.0.1 (flat_map spell x.0) x.1 first.0 second.0 in
    (subst (λ (k : ℕ). StartsWith bytes (u32_bytes k ++ flat_map spell x.0) x.1) (sym second.1) both, subst (λ (k : ℕ). k ≤ limit) (sym second.1) (leb-true _ _ g.0), All-from_recursion Fits x.0 second.2)

counted_again : {A : Type 0} (item : List ℕ → Option (A × List ℕ)) (spell : A → List ℕ) (Fits : A → Type 0) → IsReader item spell Fits → (limit : ℕ) → limit < 2 ^ 32 → (ns : List A) (rest : List ℕ) → length ns ≤ limit → All Fits ns → counted_at limit item (counted spell ns ++ rest) ≡ Some (ns, rest)
counted_again {A} item spell Fits reader limit small ns rest few fits =
    let regrouped : counted spell ns ++ rest ≡ u32_bytes (length ns) ++ (flat_map spell ns ++ rest) = append_assoc (u32_bytes (length ns)) (flat_map spell ns) rest in
    let lt : length ns < 2 ^ 32 = omega arith in
    ap (counted_at limit item) regrouped
    ∙ ap (λ (r : Option (ℕ × List ℕ)). r >>= λ n. cond (leb n.0 limit) (list_at item n.0 n.1) None) (number_reader.again (length ns) (flat_map spell ns ++ rest) lt)
    ∙ ap (λ (b : Bool). cond b (list_at item (length ns) (flat_map spell ns ++ rest)) None) (le-leb _ _ few)
    ∙ list_again item spell Fits reader ns rest (recursion_from_All Fits ns fits)

-- ---- ingests

abbrev Fresh : List NewChunk → Type 0
Fresh fresh = (length fresh ≤ MAX_CHUNKS) × All IsNewChunk fresh

abbrev Entries : List ℕ → Type 0
Entries recipe = (length recipe ≤ MAX_PLACES) × All (λ n. n < 2 ^ 32) recipe

chunks_reader : IsReader chunks_at (counted new_chunk) Fresh
unfolding chunks_at
chunks_reader = record {
  takes = λ bytes x fits e. let t = counted_takes chunk_at new_chunk IsNewChunk chunk_reader MAX_CHUNKS bytes x fits e in (t.0, (t.1, t.2));
  again = λ ns rest fits. counted_again chunk_at new_chunk IsNewChunk chunk_reader MAX_CHUNKS (lit< tt) ns rest fits.0 fits.1;
}

entries_reader : IsReader entries_at (counted u32_bytes) Entries
unfolding entries_at
entries_reader = record {
  takes = λ bytes x fits e. let t = counted_takes number_at u32_bytes (λ n. n < 2 ^ 32) number_reader MAX_PLACES bytes x fits e in (t.0, (t.1, t.2));
  again = λ ns rest fits. counted_again number_at u32_bytes (λ n. n < 2 ^ 32) number_reader MAX_PLACES (lit< tt) ns rest fits.0 fits.1;
}

-- the spelling of an ingest's body by its parts
spelled_body : (entry : IngestRecord) → ingest_body entry ≡ (length entry.name ∷ entry.name) ++ (u32_bytes entry.length ++ (counted new_chunk entry.fresh ++ counted u32_bytes entry.recipe))
unfolding ingest_body
spelled_body entry =
    ap (λ (t : List ℕ). (length entry.name ∷ entry.name) ++ (u32_bytes entry.length ++ t))
    (sym (append_assoc (u32_bytes (length entry.fresh)) (flat_map new_chunk entry.fresh) (counted u32_bytes entry.recipe)))

ingest_takes : (bytes : List ℕ) (x : IngestRecord × List ℕ) → IsBytes bytes → ingest_at bytes ≡ Some x → StartsWith bytes (ingest_body x.0) x.1 × IsIngest x.0
unfolding ingest_at
ingest_takes bytes x fits e =
    let a = bind_some (name_at bytes) (λ name. ingest_after_name name.0 name.1) x e in
    let b = bind_some (number_at a.0.1) (λ size. chunks_at size.1 >>= λ fresh. entries_at fresh.1 >>= λ recipe. Some (record { name = a.0.0; length = size.0; fresh = fresh.0; recipe = recipe.0 }, recipe.1)) x a.2 in
    let c = bind_some (chunks_at b.0.1) (λ fresh. entries_at fresh.1 >>= λ recipe. Some (record { name = a.0.0; length = b.0.0; fresh = fresh.0; recipe = recipe.0 }, recipe.1)) x b.2 in
    let d = bind_some (entries_at c.0.1) (λ recipe. Some (record { name = a.0.0; length = b.0.0; fresh = c.0.0; recipe = recipe.0 }, recipe.1)) x c.2 in
    let made : IngestRecord × List ℕ = (record { name = a.0.0; length = b.0.0; fresh = c.0.0; recipe = d.0.0 }, d.0.1) in
    let t0 = name_reader.takes bytes a.0 fits a.1 in
    let t1 = number_reader.takes a.0.1 b.0 t0.0.rest_fits b.1 in
    let t2 = chunks_reader.takes b.0.1 c.0 t1.0.rest_fits c.1 in
    let t3 = entries_reader.takes c.0.1 d.0 t2.0.rest_fits d.1 in
    let e23 = StartsWith-then b.0.1 (counted new_chunk c.0.0) c.0.1 (counted u32_bytes d.0.0) d.0.1 t2.0 t3.0 in
    let e13 = StartsWith-then a.0.1 (u32_bytes b.0.0) b.0.1 (counted new_chunk c.0.0 ++ counted u32_bytes d.0.0) d.0.1 t1.0 e23 in
    let e03 = StartsWith-then bytes (length a.0.0 ∷ a.0.0) a.0.1 (u32_bytes b.0.0 ++ (counted new_chunk c.0.0 ++ counted u32_bytes d.0.0)) d.0.1 t0.0 e13 in
    let spelled : StartsWith bytes (ingest_body made.0) made.1 = subst (λ (t : List ℕ). StartsWith bytes t d.0.1) (sym (spelled_body made.0)) e03 in
    let lawful : IsIngest made.0 = record { name = t0.1; size = t1.1; chunk_limit = t2.1.0; chunks = t2.1.1; place_limit = t3.1.0; entries = t3.1.1 } in
    subst (λ (y : IngestRecord × List ℕ). StartsWith bytes (ingest_body y.0) y.1 × IsIngest y.0) (some_is made x d.2) (spelled, lawful)

ingest_again : (entry : IngestRecord) (rest : List ℕ) → IsIngest entry → ingest_at (ingest_body entry ++ rest) ≡ Some (entry, rest)
unfolding ingest_at
ingest_again entry rest fits =
    let name = length entry.name ∷ entry.name in
    let size = u32_bytes entry.length in
    let fresh = counted new_chunk entry.fresh in
    let recipe = counted u32_bytes entry.recipe in
    let regrouped : ingest_body entry ++ rest ≡ name ++ (size ++ (fresh ++ (recipe ++ rest))) =
    ap (λ (t : List ℕ). t ++ rest) (spelled_body entry) ∙ append_assoc name (size ++ (fresh ++ recipe)) rest
    ∙ ap (λ (t : List ℕ). name ++ t) (append_assoc size (fresh ++ recipe) rest ∙ ap (λ (t : List ℕ). size ++ t) (append_assoc fresh recipe rest)) in
    ap ingest_at regrouped
    ∙ ap (λ (r : Option (List ℕ × List ℕ)). r >>= λ name. ingest_after_name name.0 name.1) (name_reader.again entry.name (size ++ (fresh ++ (recipe ++ rest))) fits.name)
    ∙ ap (λ (r : Option (ℕ × List ℕ)). r >>= λ size. chunks_at size.1 >>= λ fresh. entries_at fresh.1 >>= λ recipe. Some (record { name = entry.name; length = size.0; fresh = fresh.0; recipe = recipe.0 }, recipe.1)) (number_reader.again entry.length (fresh ++ (recipe ++ rest)) fits.size)
    ∙ ap (λ (r : Option (List NewChunk × List ℕ)). r >>= λ fresh. entries_at fresh.1 >>= λ recipe. Some (record { name = entry.name; length = entry.length; fresh = fresh.0; recipe = recipe.0 }, recipe.1)) (chunks_reader.again entry.fresh (recipe ++ rest) (fits.chunk_limit, fits.chunks))
    ∙ ap (λ (r : Option (List ℕ × List ℕ)). r >>= λ recipe. Some (record { name = entry.name; length = entry.length; fresh = entry.fresh; recipe = recipe.0 }, recipe.1)) (entries_reader.again entry.recipe rest (fits.place_limit, fits.entries))

-- ---- bodies

-- what a body of a kind is
pub record IsBody (kind : ℕ) (body : List ℕ) (entry : Record) : Type 0 where
  pub kind_is : kind ≡ kind_of entry
  pub body_is : body ≡ body_of entry
  pub lawful : IsRecord entry

ended_some : {A : Type 0} (made : A → Record) (x : A × List ℕ) (entry : Record) → ended made x ≡ Some entry → (x.1 ≡ []) × (made x.0 ≡ entry)
ended_some made x entry e =
    let g = when_some (eqb (length x.1) 0) (Some (made x.0)) entry e in
    (nil_from_length x.1 (eqb-true _ _ g.0), some_is (made x.0) entry g.1)

ends_there : (body text rest : List ℕ) → body ≡ text ++ rest → rest ≡ [] → body ≡ text
ends_there body text rest e nothing = e ∙ ap (λ (r : List ℕ). text ++ r) nothing ∙ append-nil text

ingest_is : (kind : ℕ) (body : List ℕ) (entry : Record) → IsBytes body → kind ≡ 73 → (ingest_at body >>= ended Ingest) ≡ Some entry → IsBody kind body entry
ingest_is kind body entry fits k e =
    let a = bind_some (ingest_at body) (ended Ingest) entry e in
    let t = ingest_takes body a.0 fits a.1 in
    let g = ended_some Ingest a.0 entry a.2 in
    subst (IsBody kind body) g.1 (record { kind_is = k; body_is = ends_there body (ingest_body a.0.0) a.0.1 t.0.parts g.0; lawful = t.1 })

drop_is : (kind : ℕ) (body : List ℕ) (entry : Record) → IsBytes body → kind ≡ 68 → (number_at body >>= ended Drop) ≡ Some entry → IsBody kind body entry
drop_is kind body entry fits k e =
    let a = bind_some (number_at body) (ended Drop) entry e in
    let t = number_reader.takes body a.0 fits a.1 in
    let g = ended_some Drop a.0 entry a.2 in
    subst (IsBody kind body) g.1 (record { kind_is = k; body_is = ends_there body (u32_bytes a.0.0) a.0.1 t.0.parts g.0; lawful = t.1 })

-- the body by the test of its kind
by_kind : (is_ingest is_drop : Bool) → List ℕ → Option Record
by_kind is_ingest is_drop body = cond is_ingest (ingest_at body >>= ended Ingest) (cond is_drop (number_at body >>= ended Drop) None)

by_kind_takes : (kind : ℕ) (is_ingest is_drop : Bool) (body : List ℕ) (entry : Record) → IsBytes body → (is_ingest ≡ true → kind ≡ 73) → (is_drop ≡ true → kind ≡ 68) → by_kind is_ingest is_drop body ≡ Some entry → IsBody kind body entry
unfolding by_kind
by_kind_takes kind true is_drop body entry fits i d e = ingest_is kind body entry fits (i refl) e
by_kind_takes kind false true body entry fits i d e = drop_is kind body entry fits (d refl) e
by_kind_takes kind false false body entry fits i d e = absurd cc

pub record_takes : (kind : ℕ) (body : List ℕ) (entry : Record) → IsBytes body → record_of kind body ≡ Some entry → IsBody kind body entry
unfolding record_of by_kind
record_takes kind body entry fits e = by_kind_takes kind (eqb kind 73) (eqb kind 68) body entry fits (eqb-true _ _) (eqb-true _ _) e

pub record_again : (entry : Record) → IsRecord entry → record_of (kind_of entry) (body_of entry) ≡ Some entry
unfolding record_of
record_again (Ingest entry) fits =
    ap (λ (t : List ℕ). ingest_at t >>= ended Ingest) (sym (append-nil (ingest_body entry)))
    ∙ ap (λ (r : Option (IngestRecord × List ℕ)). r >>= ended Ingest) (ingest_again entry [] fits)
record_again (Drop session) fits =
    ap (λ (r : Option (ℕ × List ℕ)). r >>= ended Drop) (number_reader.again session [] fits)

-- ---- lengths

chunk_lengths : (chunks : List NewChunk) → AllByRecursion IsNewChunk chunks → length (flat_map new_chunk chunks) ≡ 36 * length chunks
chunk_lengths [] fits = omega arith
chunk_lengths (chunk ∷ chunks) fits =
    ap length (flat_map-cons new_chunk chunk chunks) ∙ omega (arith, chunk_lengths chunks fits.1, length-append (new_chunk chunk) (flat_map new_chunk chunks), length-append (u32_bytes chunk.length) chunk.name, fits.0.name)

-- a record of the grammar, with its drop, is far shorter than a number of four bytes can say
pub body_is_short : (entry : Record) → IsRecord entry → 37 + (length (body_of entry) + 41) ≤ 2 ^ 30
body_is_short (Ingest entry) fits =
    omega (arith, length_ingest_body entry, length_entries entry.recipe, chunk_lengths entry.fresh (recursion_from_All IsNewChunk entry.fresh fits.chunks), fits.name.within_limit, fits.chunk_limit, fits.place_limit)
body_is_short (Drop session) fits = omega arith
