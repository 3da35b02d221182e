use Rattle.std.proofs.Common.{◌≡◌, ◌++◌, List, ℕ, sym, ap, ◌∙◌}
use Rattle.std.proofs.lemmas.List.{append-nil, drop_all}
use Rattle.container_pack.specs.Spots.{spots_on, spots_of}
use Rattle.container_pack.proofs.SpotLemmas.{spots_of-lie_by_lengths}
use Rattle.container_pack.proofs.placing.places.Goals as goal

pub returns-clause-in_packing : goal.returns-clause-in_packing
returns-clause-in_packing c = λ chunks same.
    let spots = c.loop-length.spots.items in
    let placed : spots ≡ spots_of c.args.lengths.now =
    sym (append-nil spots)
    ∙ ap (λ (l : List ℕ). spots ++ spots_on c.loop-length.fill l) (sym (drop_all c.loop-length.length-index c.args.lengths.now c.loop-length-test.false))
    ∙ c.loop-length.invariant.spots in
    spots_of-lie_by_lengths c.args.lengths.now chunks c.requires.none_empty same spots placed
