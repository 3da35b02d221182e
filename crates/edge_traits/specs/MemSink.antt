-- What contracts know of a sink in memory.
use Rattle.std.specs.Prelude.{ℕ, ◌<◌, List, All}
use Rattle.edge_traits.specs.declared.mem_sink.MemSink.{MemSink}

-- the bytes that were written
abbrev pub written_of : MemSink → List ℕ
written_of sink = sink.bytes.items

-- the numbers of the writes that fail
abbrev pub failing_writes : MemSink → List ℕ
failing_writes sink = sink.plan.failing.items

-- how many writes there have been, at most 2^64 - 1
abbrev pub write_calls : MemSink → ℕ
write_calls sink = sink.plan.tally.calls

-- how many of them have failed
abbrev pub write_faults : MemSink → ℕ
write_faults sink = sink.plan.tally.faults

-- It will never fail again: each write that is to fail has been made.
abbrev pub IsFaultlessSink : MemSink → Type 0
IsFaultlessSink sink = All (λ number. number < write_calls sink) (failing_writes sink)
