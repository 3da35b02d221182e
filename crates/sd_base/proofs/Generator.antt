-- The bytes of the generator, joined and counted, and the name of the session of `bulk`.
use Rattle.std.proofs.Common.{◌≡◌, ℕ, suc, zero, ◌+◌, ◌*◌, ◌^◌, ◌<◌, ◌≤◌, List, [], ◌∷◌, ◌++◌, length, refl, ap, sym, ◌∙◌, add-one, append_assoc, arith, length-append, codes}
use Rattle.std.specs.Prelude.{◌%◌, IsTrue, slice_index}
use Rattle.std.specs.Char.{is_ascii_alphanumeric}
use Rattle.std.specs.Fmt.{decimal}
use Rattle.std.specs.Fn.{iterate}
use Rattle.std.specs.List.{All, flat_map, range_with_len}
use Rattle.std.proofs.lemmas.Fmt.{decimal_by_steps, length-decimal-le}
use Rattle.std.proofs.lemmas.List.Elements.{All-append, All-from_recursion}
use Rattle.sd_base.specs.Commands.{AreBlocks, IsSeed}
use Rattle.sd_base.specs.Generator.{block_of, blocks_from, bulk_input, bulk_name, bytes_after, bytes_of_state, first_state, next_state, origin_of}
use Rattle.sd_base.specs.Names.{IsName, name_byte}
use Rattle.sd_base.specs.declared.limits.TheConstants.{BLOCK_LEN, BLOCK_STATES, MAX_INPUT, STATE_BYTES}

-- ---- the states that follow a state

iterate-suc : (n x : ℕ) → iterate next_state (suc n) x ≡ next_state (iterate next_state n x)
iterate-suc zero x = refl
iterate-suc (suc n) x = iterate-suc n (next_state x)

-- the state after n and one more
pub iterate-more : (n x : ℕ) → iterate next_state (n + 1) x ≡ next_state (iterate next_state n x)
iterate-more n x = ap (λ m. iterate next_state m x) (add-one n) ∙ iterate-suc n x

-- pieces that are numbered from one number on, or from the one before
renumbered : (f g : ℕ → List ℕ) → ((i : ℕ) → f (i + 1) ≡ g i) → (a n : ℕ)
    → flat_map f (range_with_len (a + 1) n) ≡ flat_map g (range_with_len a n)
renumbered f g same a zero = refl
renumbered f g same a (suc n) =
    ap (λ (piece : List ℕ). piece ++ flat_map f (range_with_len (a + 1 + 1) n)) (same a)
    ∙ ap (λ (rest : List ℕ). g a ++ rest) (renumbered f g same (a + 1) n)

pub bytes_after-zero : (x : ℕ) → bytes_after x 0 ≡ []
unfolding bytes_after
bytes_after-zero x = refl

-- the first of the states that follow, and the others
pub bytes_after-suc : (x n : ℕ) → bytes_after x (suc n) ≡ bytes_of_state (next_state x) ++ bytes_after (next_state x) n
unfolding bytes_after
bytes_after-suc x n =
    ap (λ (rest : List ℕ). bytes_of_state (next_state x) ++ rest)
    (renumbered (λ i. bytes_of_state (iterate next_state i x)) (λ i. bytes_of_state (iterate next_state i (next_state x)))
    (λ i. ap (λ m. bytes_of_state (iterate next_state m x)) (add-one i)) 1 n)

-- the first m of the states that follow, and the others
pub bytes_after-append : (m n x : ℕ)
    → bytes_after x (m + n) ≡ bytes_after x m ++ bytes_after (iterate next_state m x) n
bytes_after-append zero n x =
    let none : 0 + n ≡ n = omega arith in
    ap (bytes_after x) none ∙ sym (ap (λ (front : List ℕ). front ++ bytes_after x n) (bytes_after-zero x))
bytes_after-append (suc m) n x =
    let one_more : suc m + n ≡ suc (m + n) = omega arith in
    ap (bytes_after x) one_more ∙ bytes_after-suc x (m + n)
    ∙ ap (λ (rest : List ℕ). bytes_of_state (next_state x) ++ rest) (bytes_after-append m n (next_state x))
    ∙ sym (append_assoc (bytes_of_state (next_state x)) (bytes_after (next_state x) m) (bytes_after (iterate next_state m (next_state x)) n))
    ∙ sym (ap (λ (front : List ℕ). front ++ bytes_after (iterate next_state (suc m) x) n) (bytes_after-suc x m))

pub length-bytes_after : (n x : ℕ) → length (bytes_after x n) ≡ STATE_BYTES * n
length-bytes_after zero x = ap length (bytes_after-zero x)
length-bytes_after (suc n) x =
    ap length (bytes_after-suc x n) ∙ omega (arith, length-bytes_after n (next_state x), length-append (bytes_of_state (next_state x)) (bytes_after (next_state x) n))

-- ---- blocks

pub block_of-is : (seed origin : ℕ) → block_of seed origin ≡ bytes_after (first_state seed origin) BLOCK_STATES
unfolding block_of
block_of-is seed origin = refl

length-block_of : (seed origin : ℕ) → length (block_of seed origin) ≡ BLOCK_LEN
length-block_of seed origin =
    ap length (block_of-is seed origin) ∙ length-bytes_after BLOCK_STATES (first_state seed origin)

pub blocks_from-zero : (seed k : ℕ) → blocks_from seed k 0 ≡ []
unfolding blocks_from
blocks_from-zero seed k = refl

-- the first block, and the others
pub blocks_from-suc : (seed k n : ℕ)
    → blocks_from seed k (suc n) ≡ block_of seed (origin_of k) ++ blocks_from seed (k + 1) n
unfolding blocks_from
blocks_from-suc seed k n = refl

length-blocks_from : (seed k n : ℕ) → length (blocks_from seed k n) ≡ BLOCK_LEN * n
length-blocks_from seed k zero = ap length (blocks_from-zero seed k)
length-blocks_from seed k (suc n) =
    ap length (blocks_from-suc seed k n)
    ∙ omega (arith, length-block_of seed (origin_of k), length-blocks_from seed (k + 1) n, length-append (block_of seed (origin_of k)) (blocks_from seed (k + 1) n))

pub bulk_input-is : (seed blocks : ℕ) → bulk_input seed blocks ≡ blocks_from seed 0 blocks
unfolding bulk_input
bulk_input-is seed blocks = refl

pub length-bulk_input : (seed blocks : ℕ) → length (bulk_input seed blocks) ≡ BLOCK_LEN * blocks
length-bulk_input seed blocks = ap length (bulk_input-is seed blocks) ∙ length-blocks_from seed 0 blocks

-- it is not too long
pub bulk_input-fits : (seed blocks : ℕ) → AreBlocks blocks → length (bulk_input seed blocks) ≤ MAX_INPUT
bulk_input-fits seed blocks are = omega (arith, length-bulk_input seed blocks, are.1)

-- ---- the name of the session

IsNameByte : ℕ → Type 0
IsNameByte c = IsTrue (name_byte c)

digit-is : (d : ℕ) → d < 10 → IsNameByte (48 + d)
unfolding IsNameByte
digit-is d below = grind arith

digit-alone : (d : ℕ) → d < 10 → All IsNameByte ((48 + d) ∷ [])
digit-alone d below = All-from_recursion IsNameByte ((48 + d) ∷ []) (digit-is d below, tt)

decimal-is : (n : ℕ) → n < 2 ^ 64 → All IsNameByte (decimal n)
decimal-is = decimal_by_steps (λ n digits. All IsNameByte digits) digit-alone
    (λ n digits above those. All-append IsNameByte digits ((48 + n % 10) ∷ []) those (digit-alone (n % 10) (omega arith)))

prefix-is : All IsNameByte (codes "bulk.")
unfolding IsNameByte
prefix-is = All-from_recursion IsNameByte (codes "bulk.") (refl, (refl, (refl, (refl, (refl, tt)))))

dot-is : All IsNameByte (codes ".")
unfolding IsNameByte
dot-is = All-from_recursion IsNameByte (codes ".") (refl, tt)

bytes-are : (seed blocks : ℕ) → IsSeed seed → blocks < 2 ^ 64 → All IsNameByte (bulk_name seed blocks)
unfolding bulk_name
bytes-are seed blocks fits few =
    All-append IsNameByte (codes "bulk." ++ decimal seed ++ codes ".") (decimal blocks)
    (All-append IsNameByte (codes "bulk." ++ decimal seed) (codes ".")
    (All-append IsNameByte (codes "bulk.") (decimal seed) prefix-is (decimal-is seed fits)) dot-is)
    (decimal-is blocks few)

length-bulk_name : (seed blocks : ℕ) → length (bulk_name seed blocks) ≡ 6 + length (decimal seed) + length (decimal blocks)
unfolding bulk_name
length-bulk_name seed blocks =
    omega (
      arith,
      length-append (codes "bulk." ++ decimal seed ++ codes ".") (decimal blocks),
      length-append (codes "bulk." ++ decimal seed) (codes "."),
      length-append (codes "bulk.") (decimal seed),
    )

first-is : (seed blocks : ℕ) → IsTrue (is_ascii_alphanumeric (slice_index (bulk_name seed blocks) 0))
unfolding bulk_name
first-is seed blocks = refl

pub bulk_name-is_name : (seed blocks : ℕ) → IsSeed seed → AreBlocks blocks → IsName (bulk_name seed blocks)
unfolding IsNameByte
bulk_name-is_name seed blocks fits are =
    let few : blocks < 2 ^ 64 = omega (arith, are.1) in
    let one : length (decimal seed) ≤ 20 = length-decimal-le 20 seed (omega arith) (omega arith) fits in
    let other : length (decimal blocks) ≤ 20 = length-decimal-le 20 blocks (omega arith) (omega arith) few in
    record {
      not_empty = omega (arith, length-bulk_name seed blocks);
      within_limit = omega (arith, length-bulk_name seed blocks);
      first = first-is seed blocks;
      letters = bytes-are seed blocks fits few;
    }
