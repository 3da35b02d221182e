-- The map has the candidates of the whole text, so the walk gives its cuts.
use Rattle.std.proofs.Common.{List, ℕ, [], length, refl, subst}
use Rattle.std.proofs.lemmas.List.{append-nil}
use Rattle.candidate_map.specs.Candidates.{HoldsCandidates}
use Rattle.sd_base.specs.Params.{numbers_of}
use Rattle.ingest_core.proofs.cuts.cuts_of_text.Goals as goal

pub returns : goal.returns
returns g c =
    let text = c.args.text.now in
    let holds = subst (λ (t : List ℕ). HoldsCandidates (numbers_of c.args.params.now) t c.in_ok-map.map (length text))
    (append-nil text) (c.in_ok-map.ensures.candidates []) in
    record { cuts = c.cuts_from.ensures.of_whole_input text holds refl refl }
