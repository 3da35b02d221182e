use Rattle.std.proofs.Common.{sym}
use Rattle.edge_traits.proofs.EntryLemmas.{is_loose_file-at, is_loose_file-none}
use Rattle.edge_traits.proofs.entries.is_loose.Goals as goal

pub returns-in-Some : goal.returns-in-Some
returns-in-Some c = sym (is_loose_file-at c.args.entries.now c.args.file c.in-Some.index c.index-entries-index.result c.in-Some.ensures.found)

pub returns-in-None : goal.returns-in-None
returns-in-None c = sym (is_loose_file-none c.args.entries.now c.args.file c.in-None.ensures.none)
