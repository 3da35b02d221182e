use Rattle.std.proofs.Common.{◌∙◌, sym}
use Rattle.edge_traits.proofs.EntryLemmas.{bytes_of_file-at, bytes_of_file-none}
use Rattle.edge_traits.proofs.entries.bytes_of.Goals as goal

pub returns-in-Some : goal.returns-in-Some
returns-in-Some c = c.deref.ensures.value ∙ sym (bytes_of_file-at c.args.entries.now c.args.file c.in-Some.index c.index-entries-index.result c.in-Some.ensures.found)

pub returns-in-None : goal.returns-in-None
returns-in-None c = sym (bytes_of_file-none c.args.entries.now c.args.file c.in-None.ensures.none)
