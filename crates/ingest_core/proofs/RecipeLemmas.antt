-- A recipe in order, and one entry more.
use Rattle.std.proofs.Common.{◌≡◌, inl, inr, ℕ, zero, suc, ◌+◌, ◌<◌, ◌≤◌, List, [], ◌∷◌, ◌++◌, length, map, refl, ap, sym, ◌∙◌, arith}
use Rattle.std.proofs.lemmas.List.{get_or_append_left}
use Rattle.std.proofs.lemmas.List.Sums.{sum_by-cons, sum_by_push}
use Rattle.std.specs.Prelude.{slice_index_or}
use Rattle.sd_base.specs.Books.{bytes_named}
use Rattle.sd_base.specs.StateLaws.{chunk_at}
use Rattle.sd_base.specs.declared.record.NewChunk.{NewChunk}
use Rattle.store_core.specs.Recipes.{IsInOrder}

-- no more chunks occurred before a recipe than after it, and each entry that is new is one of it
pub in_order-limit : (known total : ℕ) (recipe : List ℕ) → IsInOrder known recipe total → known ≤ total
in_order-limit known total [] order = omega (arith, order)
in_order-limit known total (n ∷ recipe) (inl old) = in_order-limit known total recipe old.1
in_order-limit known total (n ∷ recipe) (inr new) =
    let limit = in_order-limit (known + 1) total recipe new.1 in omega (arith, limit)

pub in_order-few : (known total : ℕ) (recipe : List ℕ) → IsInOrder known recipe total → total ≤ known + length recipe
in_order-few known total [] order = omega (arith, order)
in_order-few known total (n ∷ recipe) (inl old) =
    let few = in_order-few known total recipe old.1 in omega (arith, few)
in_order-few known total (n ∷ recipe) (inr new) =
    let few = in_order-few (known + 1) total recipe new.1 in omega (arith, few)

-- each entry is of a chunk that has occurred
pub in_order-below : (known total : ℕ) (recipe : List ℕ) (i : ℕ) → IsInOrder known recipe total → i < length recipe →
    slice_index_or recipe i 0 < total
in_order-below known total [] i order inside = absurd omega (arith, inside)
in_order-below known total (n ∷ recipe) zero (inl old) inside =
    let limit = in_order-limit known total recipe old.1 in omega (arith, old.0, limit)
in_order-below known total (n ∷ recipe) zero (inr new) inside =
    let limit = in_order-limit (known + 1) total recipe new.1 in omega (arith, new.0, limit)
in_order-below known total (n ∷ recipe) (suc i) (inl old) inside =
    in_order-below known total recipe i old.1 (omega (arith, inside))
in_order-below known total (n ∷ recipe) (suc i) (inr new) inside =
    in_order-below (known + 1) total recipe i new.1 (omega (arith, inside))

-- one more entry of a chunk that has occurred
pub in_order-old : (known total n : ℕ) (recipe : List ℕ) → IsInOrder known recipe total → n < total →
    IsInOrder known (recipe ++ n ∷ []) total
in_order-old known total n [] order below = inl (omega (arith, order, below), order)
in_order-old known total n (m ∷ recipe) (inl old) below = inl (old.0, in_order-old known total n recipe old.1 below)
in_order-old known total n (m ∷ recipe) (inr new) below =
    inr (new.0, in_order-old (known + 1) total n recipe new.1 below)

-- one more entry of the next chunk
pub in_order-new : (known total : ℕ) (recipe : List ℕ) → IsInOrder known recipe total →
    IsInOrder known (recipe ++ total ∷ []) (total + 1)
in_order-new known total [] order = inr (sym order, omega (arith, order))
in_order-new known total (m ∷ recipe) (inl old) = inl (old.0, in_order-new known total recipe old.1)
in_order-new known total (m ∷ recipe) (inr new) = inr (new.0, in_order-new (known + 1) total recipe new.1)

-- a recipe in order names the same chunks if more chunks follow
pub recipe-more : (chunks more : List (List ℕ)) (known : ℕ) (recipe : List ℕ) → IsInOrder known recipe (length chunks) →
    map (chunk_at (chunks ++ more)) recipe ≡ map (chunk_at chunks) recipe
recipe-more chunks more known [] order = refl
recipe-more chunks more known (n ∷ recipe) (inl old) =
    let limit = in_order-limit known (length chunks) recipe old.1 in
    rw (get_or_append_left chunks more [] n (omega (arith, old.0, limit)))
    (ap (λ rest. chunk_at chunks n ∷ rest) (recipe-more chunks more known recipe old.1))
recipe-more chunks more known (n ∷ recipe) (inr new) =
    let limit = in_order-limit (known + 1) (length chunks) recipe new.1 in
    rw (get_or_append_left chunks more [] n (omega (arith, new.0, limit)))
    (ap (λ rest. chunk_at chunks n ∷ rest) (recipe-more chunks more (known + 1) recipe new.1))

-- the length of chunk n
abbrev pub length_at : List NewChunk → ℕ → ℕ
length_at chunks n = (slice_index_or chunks n (record { length = 0; name = [] })).length

-- it names chunks of the same lengths if more chunks follow
pub lengths-more : (chunks more : List NewChunk) (known : ℕ) (recipe : List ℕ) → IsInOrder known recipe (length chunks) →
    map (length_at (chunks ++ more)) recipe ≡ map (length_at chunks) recipe
lengths-more chunks more known [] order = refl
lengths-more chunks more known (n ∷ recipe) (inl old) =
    let limit = in_order-limit known (length chunks) recipe old.1 in
    let same : length_at (chunks ++ more) n ≡ length_at chunks n =
    ap (λ (c : NewChunk). c.length)
    (get_or_append_left chunks more (record { length = 0; name = [] }) n (omega (arith, old.0, limit))) in
    ap (λ size. size ∷ map (length_at (chunks ++ more)) recipe) same
    ∙ ap (λ rest. length_at chunks n ∷ rest) (lengths-more chunks more known recipe old.1)
lengths-more chunks more known (n ∷ recipe) (inr new) =
    let limit = in_order-limit (known + 1) (length chunks) recipe new.1 in
    let same : length_at (chunks ++ more) n ≡ length_at chunks n =
    ap (λ (c : NewChunk). c.length)
    (get_or_append_left chunks more (record { length = 0; name = [] }) n (omega (arith, new.0, limit))) in
    ap (λ size. size ∷ map (length_at (chunks ++ more)) recipe) same
    ∙ ap (λ rest. length_at chunks n ∷ rest) (lengths-more chunks more (known + 1) recipe new.1)

-- and so it counts the same bytes
pub bytes-more : (chunks more : List NewChunk) (known : ℕ) (recipe : List ℕ) → IsInOrder known recipe (length chunks) →
    bytes_named (chunks ++ more) recipe ≡ bytes_named chunks recipe
bytes-more chunks more known [] order = refl
bytes-more chunks more known (n ∷ recipe) (inl old) =
    let limit = in_order-limit known (length chunks) recipe old.1 in
    let same : length_at (chunks ++ more) n ≡ length_at chunks n =
    ap (λ (c : NewChunk). c.length)
    (get_or_append_left chunks more (record { length = 0; name = [] }) n (omega (arith, old.0, limit))) in
    sum_by-cons (length_at (chunks ++ more)) n recipe
    ∙ rw (same, bytes-more chunks more known recipe old.1) (sym (sum_by-cons (length_at chunks) n recipe))
bytes-more chunks more known (n ∷ recipe) (inr new) =
    let limit = in_order-limit (known + 1) (length chunks) recipe new.1 in
    let same : length_at (chunks ++ more) n ≡ length_at chunks n =
    ap (λ (c : NewChunk). c.length)
    (get_or_append_left chunks more (record { length = 0; name = [] }) n (omega (arith, new.0, limit))) in
    sum_by-cons (length_at (chunks ++ more)) n recipe
    ∙ rw (same, bytes-more chunks more (known + 1) recipe new.1) (sym (sum_by-cons (length_at chunks) n recipe))

pub bytes-push : (chunks : List NewChunk) (recipe : List ℕ) (n : ℕ) →
    bytes_named chunks (recipe ++ n ∷ []) ≡ bytes_named chunks recipe + length_at chunks n
bytes-push chunks recipe n = sum_by_push (length_at chunks) recipe n
