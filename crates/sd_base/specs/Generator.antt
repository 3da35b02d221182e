-- The input of `bulk`: blocks of bytes that follow from a seed. A state leads to the next by a linear
-- congruential step, whose multiplier is one of the table in D. E. Knuth, The Art of Computer
-- Programming, volume 2, section 3.3.4. All else here is this project's own.
use Rattle.std.specs.Prelude.{ℕ, ◌+◌, ◌-◌, ◌*◌, ◌/◌, ◌%◌, ◌^◌, ◌==◌, if◌then◌else◌, List, ◌++◌, codes}
use Rattle.std.specs.Fmt.{decimal}
use Rattle.std.specs.Fn.{iterate}
use Rattle.std.specs.Int.{w32, to_be_bytes}
use Rattle.std.specs.List.{flat_map, range_with_len}
use Rattle.sd_base.specs.declared.limits.TheConstants.{BLOCK_STATES}

-- the state after this one
abbrev pub next_state : ℕ → ℕ
next_state x = (x * 6364136223846793005 + 1442695040888963407) % 2 ^ 64

-- the bytes of a state: its high half, the most significant byte first
abbrev pub bytes_of_state : ℕ → List ℕ
bytes_of_state x = to_be_bytes w32 (x / 2 ^ 32)

-- the bytes of the n states after this one, in order
unfoldable pub bytes_after : ℕ → ℕ → List ℕ
bytes_after x n = flat_map (λ i. bytes_of_state (iterate next_state i x)) (range_with_len 1 n)

-- the state before the first one of a block, from the seed and the block's origin
abbrev pub first_state : ℕ → ℕ → ℕ
first_state seed origin = (seed + 0x9E3779B97F4A7C15 * (origin + 1)) % 2 ^ 64

-- a block, from the seed and its origin
unfoldable pub block_of : ℕ → ℕ → List ℕ
block_of seed origin = bytes_after (first_state seed origin) BLOCK_STATES

-- the origin of the block of a number: every fourth block is the one three before it
abbrev pub origin_of : ℕ → ℕ
origin_of k = if k % 4 == 3 then k - 3 else k

-- n blocks, from that of a number on
unfoldable pub blocks_from : ℕ → ℕ → ℕ → List ℕ
blocks_from seed k n = flat_map (λ i. block_of seed (origin_of i)) (range_with_len k n)

-- the input of `bulk`
unfoldable pub bulk_input : ℕ → ℕ → List ℕ
bulk_input seed blocks = blocks_from seed 0 blocks

-- the name of its session
unfoldable pub bulk_name : ℕ → ℕ → List ℕ
bulk_name seed blocks = codes "bulk." ++ decimal seed ++ codes "." ++ decimal blocks
