use Rattle.std.proofs.Common.{◌∙◌, refl}
use Rattle.edge_traits.proofs.EntryLemmas.{bytes_of_file-changed, is_loose_file-changed, ChangesEntry-changed}
use Rattle.edge_traits.proofs.entries.set_bytes.Goals as goal

pub returns-clause-bytes : goal.returns-clause-bytes
returns-clause-bytes c = bytes_of_file-changed c.args.entries.now.items c.add_if_absent.new.entries.items c.add_if_absent.ensures.same c.args.file c.in_ok-index.index c.in_ok-index.ensures.index c.index_mut-entry.result.now _ c.index_mut-entry.ensures.value refl ∙ c.in_ok-bytes.ensures.items

pub returns-clause-loose : goal.returns-clause-loose
returns-clause-loose c = is_loose_file-changed c.args.entries.now.items c.add_if_absent.new.entries.items c.add_if_absent.ensures.same c.args.file c.in_ok-index.index c.in_ok-index.ensures.index c.index_mut-entry.result.now _ c.index_mut-entry.ensures.value refl

pub returns-clause-others : goal.returns-clause-others
returns-clause-others c = ChangesEntry-changed c.args.entries.now.items c.add_if_absent.new.entries.items c.add_if_absent.ensures.same c.args.file c.in_ok-index.index c.in_ok-index.ensures.index c.index_mut-entry.result.now _ c.index_mut-entry.ensures.value refl
