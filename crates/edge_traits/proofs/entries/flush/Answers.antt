use Rattle.std.proofs.Common.{◌≡◌, ◌∙◌, get_or, refl, sym}
use Rattle.std.proofs.lemmas.List.{get_or_default}
use Rattle.edge_traits.specs.declared.entries.Entry.{Entry}
use Rattle.edge_traits.proofs.EntryLemmas.{SameEntries-itself, bytes_was, bytes_of_file-changed, bytes_of_file-kept, is_loose_file-changed, ChangesEntry-changed, is_loose_file-none}
use Rattle.edge_traits.proofs.entries.flush.Goals as goal

pub returns-in-Some-clause-bytes : goal.returns-in-Some-clause-bytes
returns-in-Some-clause-bytes c =
    let was = c.args.entries.now in
    let index = c.in-Some.ensures.found in
    let had : Entry = get_or was c.in-Some.index c.index-entries-index.result in
    let had_is : had ≡ get_or was c.in-Some.index had = get_or_default was c.in-Some.index c.index-entries-index.result had index.inside in
    bytes_of_file-kept was _ c.args.file
    (bytes_of_file-changed was was (SameEntries-itself was) c.args.file c.in-Some.index index had _ had_is refl
    ∙ sym (bytes_was was was (SameEntries-itself was) c.args.file c.in-Some.index index had had had_is refl))
    (ChangesEntry-changed was was (SameEntries-itself was) c.args.file c.in-Some.index index had _ had_is refl)

pub returns-in-Some-clause-loose : goal.returns-in-Some-clause-loose
returns-in-Some-clause-loose c =
    let was = c.args.entries.now in
    let index = c.in-Some.ensures.found in
    let had : Entry = get_or was c.in-Some.index c.index-entries-index.result in
    let had_is : had ≡ get_or was c.in-Some.index had = get_or_default was c.in-Some.index c.index-entries-index.result had index.inside in
    is_loose_file-changed was was (SameEntries-itself was) c.args.file c.in-Some.index index had _ had_is refl

pub returns-in-Some-clause-other_loose : goal.returns-in-Some-clause-other_loose
returns-in-Some-clause-other_loose c =
    let was = c.args.entries.now in
    let index = c.in-Some.ensures.found in
    let had : Entry = get_or was c.in-Some.index c.index-entries-index.result in
    let had_is : had ≡ get_or was c.in-Some.index had = get_or_default was c.in-Some.index c.index-entries-index.result had index.inside in
    (ChangesEntry-changed was was (SameEntries-itself was) c.args.file c.in-Some.index index had _ had_is refl).loose

pub returns-in_default-clause-loose : goal.returns-in_default-clause-loose
returns-in_default-clause-loose c = is_loose_file-none c.args.entries.now c.args.file c.in_default.ensures.none
