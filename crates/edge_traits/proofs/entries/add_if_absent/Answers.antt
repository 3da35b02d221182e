use Rattle.std.proofs.Common.{◌≢◌, sym, subst, refl, List}
use Rattle.std.specs.Prelude.{All}
use Rattle.edge_traits.specs.declared.entries.Entry.{Entry}
use Rattle.edge_traits.specs.Entries.{SameEntries}
use Rattle.edge_traits.proofs.EntryLemmas.{SameEntries-push, bytes_of_file-none, on_err}
use Rattle.edge_traits.proofs.entries.add_if_absent.Goals as goal

pub returns-clause-same : goal.returns-clause-same
returns-clause-same c =
    subst (λ (l : List Entry). SameEntries c.args.entries.now.items l) (sym c.in_ok-push.ensures.items)
    (SameEntries-push c.args.entries.now.items _ c.new.ensures.items refl)

pub returns-in_err-push-clause-needs_no_memory : goal.returns-in_err-push-clause-needs_no_memory
returns-in_err-push-clause-needs_no_memory c = on_err _
    (bytes_of_file-none c.args.entries.now.items c.args.file
    (subst (λ (l : List Entry). All (λ entry. entry.file ≢ c.args.file) l) c.deref.ensures.value c.in_default.ensures.none))
