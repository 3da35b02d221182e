-- What is left of generated blocks, read after read.
use Rattle.std.proofs.Common.{◌≡◌, ℕ, suc, ◌+◌, ◌-◌, ◌*◌, ◌<◌, ◌≤◌, List, [], ◌++◌, length, take, drop, min, ap, sym, ◌∙◌, append_assoc, arith, take-append-drop}
use Rattle.std.specs.Fn.{iterate}
use Rattle.std.proofs.lemmas.List.{drop-append-le, drop-drop, drop_at, length-drop, length-take, nil_from_length, take-append-le, take_rest}
use Rattle.std.proofs.lemmas.Slice.{take-put_mid}
use borrow.Rule.Slice.PartMut.{put_mid}
use Rattle.sd_base.specs.Generator.{blocks_from, bulk_input, bytes_after, bytes_of_state, first_state, next_state, origin_of}
use Rattle.sd_base.specs.declared.limits.TheConstants.{BLOCK_STATES, STATE_BYTES}
use Rattle.sd_base.proofs.Generator.{block_of-is, blocks_from-suc, blocks_from-zero, bulk_input-is, bytes_after-append, bytes_after-suc, bytes_after-zero}

-- nothing was read yet
pub none_read : (seed blocks x : ℕ) → bytes_after x 0 ++ blocks_from seed 0 blocks ≡ bulk_input seed blocks
none_read seed blocks x =
    ap (λ (front : List ℕ). front ++ blocks_from seed 0 blocks) (bytes_after-zero x) ∙ sym (bulk_input-is seed blocks)

-- a block is at its end, and the next one begins
next_begins : (seed k m x y : ℕ) → y ≡ first_state seed (origin_of k)
    → bytes_after y BLOCK_STATES ++ blocks_from seed (k + 1) m ≡ bytes_after x 0 ++ blocks_from seed k (suc m)
next_begins seed k m x y first =
    ap (λ (z : ℕ). bytes_after z BLOCK_STATES ++ blocks_from seed (k + 1) m) first
    ∙ ap (λ (front : List ℕ). front ++ blocks_from seed (k + 1) m) (sym (block_of-is seed (origin_of k)))
    ∙ sym (blocks_from-suc seed k m)
    ∙ ap (λ (front : List ℕ). front ++ blocks_from seed k (suc m)) (sym (bytes_after-zero x))

pub block_begins : (seed k n x y states used : ℕ) → states ≡ 0 → (0 < used → 0 < states) → 0 < n
    → y ≡ first_state seed (origin_of k)
    → drop used (bytes_after y BLOCK_STATES) ++ blocks_from seed (k + 1) (n - 1)
    ≡ drop used (bytes_after x states) ++ blocks_from seed k n
block_begins seed k n x y states used at_end in_block more first =
    let whole : used ≡ 0 = grind arith in
    let one_more : n ≡ suc (n - 1) = omega arith in
    ap (λ (j : ℕ). drop j (bytes_after y BLOCK_STATES) ++ blocks_from seed (k + 1) (n - 1)) whole
    ∙ next_begins seed k (n - 1) x y first
    ∙ sym (ap (λ (j : ℕ). bytes_after x 0 ++ blocks_from seed k j) one_more)
    ∙ sym (ap (λ (j : ℕ). bytes_after x j ++ blocks_from seed k n) at_end)
    ∙ sym (ap (λ (j : ℕ). drop j (bytes_after x states) ++ blocks_from seed k n) whole)

-- the bytes of one more state are put after those of the states before it
pub one_more_filled : (x i last next : ℕ) (into bytes : List ℕ) (k : ℕ) → last ≡ iterate next_state i x
    → next ≡ next_state last → bytes ≡ bytes_of_state next → STATE_BYTES * i + STATE_BYTES ≤ length into
    → take (STATE_BYTES * i) into ≡ bytes_after x i
    → take (STATE_BYTES * (i + 1)) (put_mid (STATE_BYTES * i) k into bytes) ≡ bytes_after x (i + 1)
one_more_filled x i last next into bytes k at steps are room before =
    let same : bytes ≡ bytes_of_state (next_state (iterate next_state i x)) =
    are ∙ ap (λ (y : ℕ). bytes_of_state y) (steps ∙ ap next_state at) in
    let one : bytes_after (iterate next_state i x) 1 ≡ bytes =
    bytes_after-suc (iterate next_state i x) 0
    ∙ ap (λ (l : List ℕ). bytes_of_state (next_state (iterate next_state i x)) ++ l) (bytes_after-zero (next_state (iterate next_state i x)))
    ∙ sym same in
    take-put_mid (STATE_BYTES * i) k into bytes (STATE_BYTES * (i + 1)) (omega (arith, ap length same)) (omega arith)
    ∙ ap (λ (l : List ℕ). l ++ bytes) before
    ∙ ap (λ (l : List ℕ). bytes_after x i ++ l) (sym one)
    ∙ sym (bytes_after-append i 1 x)

-- the front of what is left is taken
front_taken : (bytes more into : List ℕ) (used count : ℕ) → take count into ≡ take count (drop used bytes)
    → drop used bytes ++ more ≡ take count into ++ (drop (used + count) bytes ++ more)
front_taken bytes more into used count given =
    ap (λ (l : List ℕ). l ++ more)
    (sym (ap (λ (l : List ℕ). l ++ drop (used + count) bytes) given
    ∙ ap (λ (l : List ℕ). take count (drop used bytes) ++ l) (sym (drop-drop count used bytes))
    ∙ take-append-drop count (drop used bytes)))
    ∙ append_assoc (take count into) (drop (used + count) bytes) more

-- the bytes of a state are the first of those after the state before it
first_of : (x y states : ℕ) (bytes : List ℕ) → y ≡ next_state x → bytes ≡ bytes_of_state y → 0 < states
    → bytes_after x states ≡ bytes ++ bytes_after y (states - 1)
first_of x y states bytes next are some =
    let one_more : states ≡ suc (states - 1) = omega arith in
    ap (bytes_after x) one_more ∙ bytes_after-suc x (states - 1)
    ∙ ap (λ (z : ℕ). bytes_of_state z ++ bytes_after z (states - 1)) (sym next)
    ∙ ap (λ (l : List ℕ). l ++ bytes_after y (states - 1)) (sym are)

-- a part of the bytes of the next state is read
pub part_read : (x y states used count : ℕ) (bytes more into : List ℕ) → y ≡ next_state x → bytes ≡ bytes_of_state y
    → 0 < states → used + count ≤ STATE_BYTES
    → take count into ≡ take count (take (STATE_BYTES - used) (drop used bytes))
    → drop used (bytes_after x states) ++ more ≡ take count into ++ (drop (used + count) (bytes_after x states) ++ more)
part_read x y states used count bytes more into next are some fits given =
    let rest = bytes_after y (states - 1) in
    let four : STATE_BYTES ≡ length bytes = sym (ap length are) in
    let here : take count (drop used (bytes_after x states)) ≡ take count (drop used bytes) =
    ap (λ (l : List ℕ). take count (drop used l)) (first_of x y states bytes next are some)
    ∙ ap (take count) (drop-append-le used bytes rest (omega arith))
    ∙ take-append-le count (drop used bytes) rest (omega (arith, length-drop used bytes)) in
    let there : take (STATE_BYTES - used) (drop used bytes) ≡ drop used bytes =
    ap (λ (n : ℕ). take (n - used) (drop used bytes)) four ∙ take_rest bytes used in
    front_taken (bytes_after x states) more into used count (given ∙ ap (take count) there ∙ sym here)

-- the last of these bytes are read, and the next state comes
pub part_ends : (x y states used count room : ℕ) (bytes more into : List ℕ) → y ≡ next_state x → bytes ≡ bytes_of_state y
    → 0 < states → used < STATE_BYTES → STATE_BYTES ≤ used + count
    → count ≡ min (length (take (STATE_BYTES - used) (drop used bytes))) room
    → take count into ≡ take count (take (STATE_BYTES - used) (drop used bytes))
    → drop used (bytes_after x states) ++ more ≡ take count into ++ (bytes_after y (states - 1) ++ more)
part_ends x y states used count room bytes more into next are some in_state past counted given =
    let rest = bytes_after y (states - 1) in
    let most : length (take (STATE_BYTES - used) (drop used bytes)) ≤ STATE_BYTES - used =
    omega (arith, length-take (STATE_BYTES - used) (drop used bytes)) in
    let whole : used + count ≡ STATE_BYTES = omega arith in
    let four : length bytes ≡ used + count = ap length are ∙ sym whole in
    let gone : drop (used + count) (bytes_after x states) ≡ rest =
    ap (drop (used + count)) (first_of x y states bytes next are some) ∙ drop_at bytes rest (used + count) four in
    part_read x y states used count bytes more into next are some (omega arith) given
    ∙ ap (λ (l : List ℕ). take count into ++ (l ++ more)) gone

-- whole states are read
pub states_read : (x y states count used : ℕ) (more into : List ℕ) → used ≡ 0 → y ≡ iterate next_state count x
    → count ≤ states → take (STATE_BYTES * count) into ≡ bytes_after x count
    → drop used (bytes_after x states) ++ more
    ≡ take (STATE_BYTES * count) into ++ (drop used (bytes_after y (states - count)) ++ more)
states_read x y states count used more into whole last there given =
    let parts : states ≡ count + (states - count) = omega arith in
    let rest = bytes_after y (states - count) in
    let split : bytes_after x states ≡ take (STATE_BYTES * count) into ++ rest =
    ap (bytes_after x) parts ∙ bytes_after-append count (states - count) x
    ∙ ap (λ (z : ℕ). bytes_after x count ++ bytes_after z (states - count)) (sym last)
    ∙ ap (λ (l : List ℕ). l ++ rest) (sym given) in
    ap (λ (j : ℕ). drop j (bytes_after x states) ++ more) whole
    ∙ ap (λ (l : List ℕ). l ++ more) split
    ∙ append_assoc (take (STATE_BYTES * count) into) rest more
    ∙ sym (ap (λ (j : ℕ). take (STATE_BYTES * count) into ++ (drop j rest ++ more)) whole)

-- after the last block nothing is left
pub all_read : (seed k n x states used : ℕ) → states ≡ 0 → n ≡ 0
    → drop used (bytes_after x states) ++ blocks_from seed k n ≡ []
all_read seed k n x states used none last =
    ap (λ (j : ℕ). drop used (bytes_after x j) ++ blocks_from seed k n) none
    ∙ ap (λ (l : List ℕ). drop used l ++ blocks_from seed k n) (bytes_after-zero x)
    ∙ ap (λ (l : List ℕ). l ++ blocks_from seed k n) (nil_from_length (drop used []) (omega (arith, length-drop {A = ℕ} used [])))
    ∙ ap (blocks_from seed k) last ∙ blocks_from-zero seed k
