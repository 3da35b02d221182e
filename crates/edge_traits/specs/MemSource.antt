-- What contracts know of a source in memory.
use Rattle.std.specs.Prelude.{ℕ, ◌<◌, List, drop, All}
use Rattle.edge_traits.specs.declared.mem_source.MemSource.{MemSource}

-- the bytes still to come
abbrev pub left_of : MemSource → List ℕ
left_of source = drop source.at source.bytes.items

-- the sizes of the reads to come
abbrev pub sizes_of : MemSource → List ℕ
sizes_of source = drop source.read_count source.sizes.items

-- the numbers of the reads that fail
abbrev pub failing_reads : MemSource → List ℕ
failing_reads source = source.plan.failing.items

-- how many reads there have been, at most 2^64 - 1
abbrev pub read_calls : MemSource → ℕ
read_calls source = source.plan.tally.calls

-- how many of them have failed
abbrev pub read_faults : MemSource → ℕ
read_faults source = source.plan.tally.faults

-- It will never fail again: each read that is to fail has been made.
abbrev pub IsFaultlessSource : MemSource → Type 0
IsFaultlessSource source = All (λ number. number < read_calls source) (failing_reads source)
