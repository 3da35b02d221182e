use Rattle.std.proofs.Common.{◌≡◌, ◌∙◌, ◌↔◌, ℕ, List, [], IsTrue, slice_index_or, sym}
use Rattle.ingest_core.proofs.AuditTwins.{AreEqual, bytes-tell, names-differ, there-before, there-both, there-bytes}
use Rattle.ingest_core.proofs.auditing.twins.are_twins.Goals as goal

pub returns-then-ne-clause-twins : goal.returns-then-ne-clause-twins
returns-then-ne-clause-twins g c name_of stored =
    names-differ name_of c.args.generation c.args.spots.now c.args.kept.now stored (g.F.Shelf.files c.args.shelf.now)
    c.args.first c.args.second c.requires.first c.requires.second (sym c.if-ne.true ∙ c.ne.ensures)

pub returns-clause-twins : goal.returns-clause-twins
returns-clause-twins g c name_of stored =
    let told = g.F.Shelf.files c.args.shelf.now in
    let later = g.F.Shelf.files c.read_stored.new.shelf in
    let generation = c.args.generation in
    let spots = c.args.spots.now in
    let kept = c.args.kept.now in
    let first : List ℕ = c.in_ok-bytes.bytes.items in
    let second : List ℕ = c.in_ok-others.others.items in
    let i = c.args.first in
    let j = c.args.second in
    let One : Type 0 = first ≡ slice_index_or stored i [] in
    let Other : Type 0 = second ≡ slice_index_or stored j [] in
    there-both name_of generation spots kept stored told One Other (IsTrue c.eq.result ↔ AreEqual stored i j)
    (λ lengths one other. bytes-tell stored i j first second c.eq.result c.eq.ensures one other)
    (there-bytes name_of generation spots kept stored told One (c.in_ok-bytes.ensures.bytes stored))
    (there-before name_of generation spots kept stored told later c.in_ok-bytes.ensures.reads.same_files Other
    (there-bytes name_of generation spots kept stored later Other (c.in_ok-others.ensures.bytes stored)))
