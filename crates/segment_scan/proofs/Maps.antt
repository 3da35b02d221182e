-- A map that was empty and was scanned from position 0 on has the candidates of the text.
use Rattle.std.proofs.Common.{◌≡◌, ℕ, zero, suc, ◌≤◌, Bool, false, ◌||◌, List, ◌++◌, length, replicate, refl, ap, ◌∙◌, arith}
use Rattle.std.proofs.lemmas.Bool.{le-leb, lt-ltb}
use Rattle.candidate_map.specs.Candidates.{HoldsCandidates}
use Rattle.candidate_map.proofs.CandidateLemmas.{HoldsCandidates-append}
use Rattle.candidate_map.proofs.SetLemmas.{has-replicate}
use Rattle.sd_base.specs.Cutting.{is_candidate}
use Rattle.sd_base.specs.declared.raw_params.RawParams.{RawParams}
use Rattle.segment_scan.specs.Scan.{AddsCandidates, is_candidate_within}

-- every candidate of a text lies above 0 and is no further than the text's end
all_within : (params : RawParams) (text : List ℕ) (end p : ℕ) → p ≤ end
    → is_candidate_within params text 0 end p ≡ is_candidate params text p
all_within params text end zero upto = refl
all_within params text end (suc p) upto = rw (lt-ltb 0 (suc p) (omega arith), le-leb (suc p) end upto)

pub holds_candidates : (params : RawParams) (text rest : List ℕ) (bits end : ℕ) (map : List Bool) → end ≤ length text
    → AddsCandidates params text 0 end (replicate bits false) map
    → HoldsCandidates params (text ++ rest) map end
holds_candidates params text rest bits end map inside adds =
    HoldsCandidates-append params text rest map end inside (record {
      same = λ p upto. adds.added p ∙ ap (λ b. b || is_candidate_within params text 0 end p) (has-replicate bits p) ∙ all_within params text end p upto;
    })
