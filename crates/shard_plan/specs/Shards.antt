-- The shards of names, and how many items each has. All rules here are this project's own.
use Rattle.std.specs.Prelude.{◌≡◌, ℕ, ◌%◌, ◌==◌, ◌≤◌, List, length, map, take}
use Rattle.std.specs.Int.{w32, from_be_bytes}
use Rattle.std.specs.List.{count_by, range_with_len}
use Rattle.sd_base.specs.declared.limits.TheConstants.{MAX_SHARDS}

-- how many shards there may be
abbrev pub AreShards : ℕ → Type 0
AreShards shards = (1 ≤ shards) × (shards ≤ MAX_SHARDS)

-- the shard of a name: its first four bytes, the high byte first, modulo the number of shards
abbrev pub shard_of : ℕ → List ℕ → ℕ
shard_of shards name = from_be_bytes w32 (take 4 name) % shards

-- how many of these names are in a shard
abbrev pub size_of : ℕ → List (List ℕ) → ℕ → ℕ
size_of shards names shard = count_by (λ name. shard_of shards name == shard) names

-- how many of these names are in each shard
abbrev pub shard_sizes : ℕ → List (List ℕ) → List ℕ
shard_sizes shards names = map (size_of shards names) (range_with_len 0 shards)

-- a plan, as the list of the sizes of its shards, is that of these names
abbrev pub IsPlanOf : List ℕ → List (List ℕ) → Type 0
IsPlanOf plan names = plan ≡ shard_sizes (length plan) names
