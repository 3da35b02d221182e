use Rattle.std.proofs.Common.{◌≡◌, ◌++◌, length, take}
use Rattle.std.specs.List.{flat_map}
use Rattle.sd_base.specs.Records.{u32_bytes}
use Rattle.session_book.proofs.record_writer.append_entries.Given as goal

abbrev pub invariant-loop-entry : goal.invariant-loop-entry
invariant-loop-entry l = l.out.items ≡ l.fn.out.items ++ (u32_bytes (length l.entries) ++ flat_map u32_bytes (take l.entry-index l.entries))
