-- The source and the sink are fresh and no call of theirs is planned to fail, so neither fails.
use Rattle.std.proofs.Common.{◌≡◌, List, ℕ, Some, ◌∙◌, subst}
use Rattle.edge_traits.specs.MemShelf.{IsFaultlessShelf, files_of_shelf}
use Rattle.edge_traits.specs.MemSink.{written_of}
use Rattle.sd_base.specs.Words.{command_of}
use Rattle.sd_base.specs.OnePass.{one_pass}
use Rattle.backup_top.specs.InMemory.{EndsInMemory, WritesPrefix}
use Rattle.backup_top.specs.Outcomes.{Writes}
use Rattle.backup_top.specs.Words.{texts_of}
use Rattle.backup_top.proofs.InMemory.{ends_in_memory, needs_held, stays_of, writes_prefix}
use Rattle.backup_top.proofs.in_memory.run_in_memory.Goals as goal

pub returns-clause-pass : goal.returns-clause-pass
returns-clause-pass g c = λ state held.
    let run = c.run-outcome.ensures.run in
    let input = run.on_some_input.0 in
    let same : input ≡ c.args.input.items = run.on_some_input.1 ∙ c.new-source.ensures.left in
    let carried = run.on_some_input.2 in
    let words = texts_of c.args.words.now in
    let ending = c.run-outcome.result in
    let written = written_of c.run-outcome.new.sink in
    let files = files_of_shelf c.run-outcome.new.shelf in
    let on = carried.on_state state (needs_held (command_of words) (Some (files_of_shelf c.args.shelf.now)) state held) in
    subst
    (λ (bytes : List ℕ). EndsInMemory (one_pass words state bytes) ending written files (IsFaultlessShelf c.args.shelf.now))
    same
    (ends_in_memory (one_pass words state input) state written files (IsFaultlessShelf c.args.shelf.now)
    (stays_of (command_of words) state input) ending on.answer
    (λ is. run.source_counts.faultless_serves (c.new-source.ensures.faultless c.new-2.ensures.items) is)
    (λ is. carried.sink_counts.faultless_serves (c.new-sink.ensures.faultless c.new-3.ensures.items) is)
    (λ is faultless. carried.shelf_counts.faultless_serves faultless is)
    (subst
    (λ (had : List ℕ). Writes ending (one_pass words state input).text (Some had) (Some written))
    c.new-sink.ensures.written on.written)
    (carried.held state held))

pub returns-clause-prefix : goal.returns-clause-prefix
returns-clause-prefix g c = λ state held.
    let run = c.run-outcome.ensures.run in
    let input = run.on_some_input.0 in
    let same : input ≡ c.args.input.items = run.on_some_input.1 ∙ c.new-source.ensures.left in
    let carried = run.on_some_input.2 in
    let words = texts_of c.args.words.now in
    let ending = c.run-outcome.result in
    let written = written_of c.run-outcome.new.sink in
    let files = files_of_shelf c.run-outcome.new.shelf in
    let on = carried.on_state state (needs_held (command_of words) (Some (files_of_shelf c.args.shelf.now)) state held) in
    subst
    (λ (bytes : List ℕ). WritesPrefix (one_pass words state bytes) written)
    same
    (writes_prefix (one_pass words state input) state written files (IsFaultlessShelf c.args.shelf.now)
    (stays_of (command_of words) state input) ending
    (subst
    (λ (had : List ℕ). Writes ending (one_pass words state input).text (Some had) (Some written))
    c.new-sink.ensures.written on.written))
