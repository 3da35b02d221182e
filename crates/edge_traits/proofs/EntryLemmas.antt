-- Looking up, changing and adding the entries of a shelf in memory.
use Rattle.std.proofs.Common.{◌≡◌, ◌≢◌, ◌⊎◌, inl, inr, ℕ, zero, suc, Bool, true, false, List, [], ◌∷◌, ◌++◌, get_or, set, cond, refl, sym, ap, ◌∙◌, subst, arith}
use Rattle.std.specs.Prelude.{Result, Ok, Err, OnErr, Option, Some, None, option_map, unwrap_or, All}
use Rattle.std.proofs.lemmas.Bool.{eq-eqb, ne_eqb, and_left, and_right, and_from, cases_eq}
use Rattle.sd_base.specs.declared.file.File.{File}
use Rattle.sd_base.specs.declared.file.File.TheVariants.{Head, Seal, Book, Container}
use Rattle.edge_traits.specs.declared.entries.Entry.{Entry}
use Rattle.edge_traits.specs.Entries.{is_same_file, entry_of_file, bytes_of_file, is_loose_file, IsIndexOf, SameEntries, ChangesEntry}

abbrev pub Tells : Bool → Type 0 → Type 0
Tells b P = ((b ≡ true) × P) ⊎ ((b ≡ false) × (P → ⊥))

pub is_same_file-tells : (a b : File) → Tells (is_same_file a b) (a ≡ b)
is_same_file-tells Head Head = inl (refl, refl)
is_same_file-tells Head (Seal h) = inr (refl, λ same. cc same)
is_same_file-tells Head (Book h) = inr (refl, λ same. cc same)
is_same_file-tells Head (Container h l) = inr (refl, λ same. cc same)
is_same_file-tells (Seal g) Head = inr (refl, λ same. cc same)
is_same_file-tells (Seal g) (Seal h) = elim (cases_eq g h) [
  | inl same ↦ inl (eq-eqb g h same, ap Seal same)
  | inr apart ↦ inr (ne_eqb g h apart, λ same. apart (cc same))
]
is_same_file-tells (Seal g) (Book h) = inr (refl, λ same. cc same)
is_same_file-tells (Seal g) (Container h l) = inr (refl, λ same. cc same)
is_same_file-tells (Book g) Head = inr (refl, λ same. cc same)
is_same_file-tells (Book g) (Seal h) = inr (refl, λ same. cc same)
is_same_file-tells (Book g) (Book h) = elim (cases_eq g h) [
  | inl same ↦ inl (eq-eqb g h same, ap Book same)
  | inr apart ↦ inr (ne_eqb g h apart, λ same. apart (cc same))
]
is_same_file-tells (Book g) (Container h l) = inr (refl, λ same. cc same)
is_same_file-tells (Container g k) Head = inr (refl, λ same. cc same)
is_same_file-tells (Container g k) (Seal h) = inr (refl, λ same. cc same)
is_same_file-tells (Container g k) (Book h) = inr (refl, λ same. cc same)
is_same_file-tells (Container g k) (Container h l) = elim (cases_eq g h) [
  | inl one ↦ elim (cases_eq k l) [
    | inl other ↦ inl (and_from _ _ (eq-eqb g h one) (eq-eqb k l other), cc (one, other))
    | inr apart ↦ inr (and_right _ _ (ne_eqb k l apart), λ same. apart (cc same))
  ]
  | inr apart ↦ inr (and_left _ _ (ne_eqb g h apart), λ same. apart (cc same))
]

here : (entry : Entry) (entries : List Entry) (file : File) → entry.file ≡ file → entry_of_file (entry ∷ entries) file ≡ Some entry
here entry entries file same = elim (is_same_file-tells entry.file file) [
  | inl is ↦ ap (λ (b : Bool). cond b (Some entry) (entry_of_file entries file)) is.0
  | inr other ↦ absurd (other.1 same)
]

further : (entry : Entry) (entries : List Entry) (file : File) → entry.file ≢ file → entry_of_file (entry ∷ entries) file ≡ entry_of_file entries file
further entry entries file apart = elim (is_same_file-tells entry.file file) [
  | inl is ↦ absurd (apart is.1)
  | inr other ↦ ap (λ (b : Bool). cond b (Some entry) (entry_of_file entries file)) other.0
]

next_index : (entry : Entry) (entries : List Entry) (file : File) (k : ℕ) → IsIndexOf (entry ∷ entries) file (suc k) → IsIndexOf entries file k
next_index entry entries file k index = record {
  inside = omega (arith, index.inside);
  here = index.here;
  first = λ j d below. index.first (suc j) d (omega arith);
}

-- the entry at the index of the file
pub entry_of_file-at : (entries : List Entry) (file : File) (k : ℕ) (d : Entry) → IsIndexOf entries file k → entry_of_file entries file ≡ Some (get_or entries k d)
entry_of_file-at [] file k d index = absurd (omega (arith, index.inside))
entry_of_file-at (entry ∷ entries) file zero d index = here entry entries file (index.here d)
entry_of_file-at (entry ∷ entries) file (suc k) d index =
    further entry entries file (index.first 0 d (omega arith)) ∙ entry_of_file-at entries file k d (next_index entry entries file k index)

-- the entry at that index is replaced by another entry of the file
pub entry_of_file-set : (entries : List Entry) (file : File) (k : ℕ) (entry : Entry) → IsIndexOf entries file k → entry.file ≡ file → entry_of_file (set entries k entry) file ≡ Some entry
entry_of_file-set [] file k entry index same = absurd (omega (arith, index.inside))
entry_of_file-set (first ∷ entries) file zero entry index same = here entry entries file same
entry_of_file-set (first ∷ entries) file (suc k) entry index same =
    further first (set entries k entry) file (index.first 0 entry (omega arith)) ∙ entry_of_file-set entries file k entry (next_index first entries file k index) same

-- this leaves each other file as it was
pub entry_of_file-set_other : (entries : List Entry) (file : File) (k : ℕ) (entry : Entry) (f : File) → IsIndexOf entries file k → entry.file ≡ file → f ≢ file
    → entry_of_file (set entries k entry) f ≡ entry_of_file entries f
entry_of_file-set_other [] file k entry f index same apart = refl
entry_of_file-set_other (first ∷ entries) file zero entry f index same apart =
    further entry entries f (λ is. apart (sym is ∙ same)) ∙ sym (further first entries f (λ is. apart (sym is ∙ index.here entry)))
entry_of_file-set_other (first ∷ entries) file (suc k) entry f index same apart =
    ap (λ (o : Option Entry). cond (is_same_file first.file f) (Some first) o)
    (entry_of_file-set_other entries file k entry f (next_index first entries file k index) same apart)

-- a file that no entry has
pub entry_of_file-none : (entries : List Entry) (file : File) → All (λ entry. entry.file ≢ file) entries → entry_of_file entries file ≡ None
entry_of_file-none [] file none = refl
entry_of_file-none (entry ∷ entries) file none =
    further entry entries file (none 0 entry (omega arith)) ∙ entry_of_file-none entries file (λ k d inside. none (suc k) d (omega arith))

pub bytes_of_file-none : (entries : List Entry) (file : File) → All (λ entry. entry.file ≢ file) entries → bytes_of_file entries file ≡ []
bytes_of_file-none entries file none = ap (λ (o : Option Entry). unwrap_or (option_map (λ (e : Entry). e.bytes.items) o) []) (entry_of_file-none entries file none)

pub is_loose_file-none : (entries : List Entry) (file : File) → All (λ entry. entry.file ≢ file) entries → is_loose_file entries file ≡ false
is_loose_file-none entries file none = ap (λ (o : Option Entry). unwrap_or (option_map (λ (e : Entry). e.is_loose) o) false) (entry_of_file-none entries file none)

pub bytes_of_file-at : (entries : List Entry) (file : File) (k : ℕ) (d : Entry) → IsIndexOf entries file k → bytes_of_file entries file ≡ (get_or entries k d).bytes.items
bytes_of_file-at entries file k d index = ap (λ (o : Option Entry). unwrap_or (option_map (λ (e : Entry). e.bytes.items) o) []) (entry_of_file-at entries file k d index)

pub is_loose_file-at : (entries : List Entry) (file : File) (k : ℕ) (d : Entry) → IsIndexOf entries file k → is_loose_file entries file ≡ (get_or entries k d).is_loose
is_loose_file-at entries file k d index = ap (λ (o : Option Entry). unwrap_or (option_map (λ (e : Entry). e.is_loose) o) false) (entry_of_file-at entries file k d index)

-- an empty entry is added after the others
entry_push : {X : Type 0} (read : Entry → X) (empty : X) (entries : List Entry) (entry : Entry) (f : File) → read entry ≡ empty
    → unwrap_or (option_map read (entry_of_file (entries ++ entry ∷ []) f)) empty ≡ unwrap_or (option_map read (entry_of_file entries f)) empty
entry_push read empty [] entry f none = elim (is_same_file entry.file f) as (λ b. unwrap_or (option_map read (cond b (Some entry) None)) empty ≡ empty) [ true ↦ none | false ↦ refl ]
entry_push read empty (first ∷ entries) entry f none =
    elim (is_same_file first.file f) as (λ b. unwrap_or (option_map read (cond b (Some first) (entry_of_file (entries ++ entry ∷ []) f))) empty ≡ unwrap_or (option_map read (cond b (Some first) (entry_of_file entries f))) empty) [
      | true ↦ refl
      | false ↦ entry_push read empty entries entry f none
    ]

pub SameEntries-push : (entries : List Entry) (entry : Entry) → entry.bytes.items ≡ [] → entry.is_loose ≡ false → SameEntries entries (entries ++ entry ∷ [])
SameEntries-push entries entry nothing firm = record {
  bytes = λ f. entry_push (λ (e : Entry). e.bytes.items) [] entries entry f nothing;
  loose = λ f. entry_push (λ (e : Entry). e.is_loose) false entries entry f firm;
}

-- the entry at the index of a file is changed, and no file had changed before
module _ (was entries : List Entry) (same : SameEntries was entries) (file : File) (k : ℕ) (index : IsIndexOf entries file k)
    (had entry : Entry) (had_is : had ≡ get_or entries k had) (of_file : entry.file ≡ had.file) where
  file_is : entry.file ≡ file
  file_is = of_file ∙ ap (λ (e : Entry). e.file) had_is ∙ index.here had

  pub bytes_was : bytes_of_file was file ≡ had.bytes.items
  bytes_was = sym (same.bytes file) ∙ bytes_of_file-at entries file k had index ∙ ap (λ (e : Entry). e.bytes.items) (sym had_is)

  loose_was : is_loose_file was file ≡ had.is_loose
  loose_was = sym (same.loose file) ∙ is_loose_file-at entries file k had index ∙ ap (λ (e : Entry). e.is_loose) (sym had_is)

  pub bytes_of_file-changed : bytes_of_file (set entries k entry) file ≡ entry.bytes.items
  bytes_of_file-changed = ap (λ (o : Option Entry). unwrap_or (option_map (λ (e : Entry). e.bytes.items) o) []) (entry_of_file-set entries file k entry index file_is)

  pub is_loose_file-changed : is_loose_file (set entries k entry) file ≡ entry.is_loose
  is_loose_file-changed = ap (λ (o : Option Entry). unwrap_or (option_map (λ (e : Entry). e.is_loose) o) false) (entry_of_file-set entries file k entry index file_is)

  pub ChangesEntry-changed : ChangesEntry file was (set entries k entry)
  ChangesEntry-changed = record {
    bytes = λ f apart. ap (λ (o : Option Entry). unwrap_or (option_map (λ (e : Entry). e.bytes.items) o) []) (entry_of_file-set_other entries file k entry f index file_is apart) ∙ same.bytes f;
    loose = λ f apart. ap (λ (o : Option Entry). unwrap_or (option_map (λ (e : Entry). e.is_loose) o) false) (entry_of_file-set_other entries file k entry f index file_is apart) ∙ same.loose f;
  }

  pub SameEntries-kept : entry.bytes.items ≡ had.bytes.items → entry.is_loose ≡ had.is_loose → SameEntries was (set entries k entry)
  SameEntries-kept bytes loose = record {
    bytes = λ f. elim (is_same_file-tells f file) [
      | inl is ↦ subst (λ (g : File). bytes_of_file (set entries k entry) g ≡ bytes_of_file was g) (sym is.1) (bytes_of_file-changed ∙ bytes ∙ sym bytes_was)
      | inr other ↦ ChangesEntry-changed.bytes f other.1
    ];
    loose = λ f. elim (is_same_file-tells f file) [
      | inl is ↦ subst (λ (g : File). is_loose_file (set entries k entry) g ≡ is_loose_file was g) (sym is.1) (is_loose_file-changed ∙ loose ∙ sym loose_was)
      | inr other ↦ ChangesEntry-changed.loose f other.1
    ];
  }

pub SameEntries-itself : (entries : List Entry) → SameEntries entries entries
SameEntries-itself entries = record { bytes = λ f. refl; loose = λ f. refl }

-- if only one file may have changed, and it has its old bytes, then no bytes have changed
pub bytes_of_file-kept : (was entries : List Entry) (file : File) → bytes_of_file entries file ≡ bytes_of_file was file → ChangesEntry file was entries
    → (f : File) → bytes_of_file entries f ≡ bytes_of_file was f
bytes_of_file-kept was entries file same others f = elim (is_same_file-tells f file) [
  | inl is ↦ subst (λ (g : File). bytes_of_file entries g ≡ bytes_of_file was g) (sym is.1) same
  | inr other ↦ others.bytes f other.1
]

pub on_err : {T E P : Type 0} (r : Result T E) → P → OnErr r P
on_err (Ok x) p = tt
on_err (Err e) p = p
