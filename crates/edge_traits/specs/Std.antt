-- The counts of the adapters to the standard streams.
use Rattle.std.specs.Prelude.{ℕ}
use Rattle.edge_traits.specs.declared.std_source.StdSource.{StdSource}
use Rattle.edge_traits.specs.declared.std_sink.StdSink.{StdSink}

-- how many reads of it have failed, at most 2^64 - 1
abbrev pub std_source_faults : {T : Type 0} → StdSource T → ℕ
std_source_faults source = source.faults

-- how many writes to it have failed, at most 2^64 - 1
abbrev pub std_sink_faults : {T : Type 0} → StdSink T → ℕ
std_sink_faults sink = sink.faults
