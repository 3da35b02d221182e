use Rattle.std.proofs.Common.{◌+◌, ap, sym, ◌∙◌, arith, rules, Some}
use Rattle.std.proofs.lemmas.Bool.{true≢false}
use Rattle.sd_base.specs.Params.{numbers_of}
use Rattle.cut_walk.specs.Walk.{IsCutOn}
use Rattle.cut_walk.proofs.WalkLemmas.{cut_is_next}
use Rattle.cut_walk.proofs.next.next_cut.Goals as goal

-- a candidate that the map has is the next cut
by_candidate : (c : goal.In-Some) → IsCutOn (numbers_of c.args.params.now) c.args.map.now c.args.known c.args.at_end c.args.start c.in-Some.candidate
by_candidate c = search rules

pub returns-in-Some-clause-of_whole_input : goal.returns-in-Some-clause-of_whole_input
returns-in-Some-clause-of_whole_input c input holds end all =
    ap (λ cut. Some cut) (cut_is_next (numbers_of c.args.params.now) c.args.map.now c.args.known c.args.at_end input holds (omega arith) (λ _. all) c.args.start c.in-Some.candidate (by_candidate c))

pub returns-in-Some-clause-of_longer_input : goal.returns-in-Some-clause-of_longer_input
returns-in-Some-clause-of_longer_input c input holds more part =
    cut_is_next (numbers_of c.args.params.now) c.args.map.now c.args.known c.args.at_end input holds part (λ end. absurd (true≢false (sym end ∙ more))) c.args.start c.in-Some.candidate (by_candidate c)

-- if there is no such candidate, the next cut is the longest chunk's end, or that of the input
by_length : (c : goal.Then-params-left) → IsCutOn (numbers_of c.args.params.now) c.args.map.now c.args.known c.args.at_end c.args.start (c.args.start + c.min.result)
by_length c = search rules

pub returns-then-params-left-clause-of_whole_input : goal.returns-then-params-left-clause-of_whole_input
returns-then-params-left-clause-of_whole_input c input holds end all =
    ap (λ cut. Some cut) (cut_is_next (numbers_of c.args.params.now) c.args.map.now c.args.known c.args.at_end input holds (omega arith) (λ _. all) c.args.start (c.args.start + c.min.result) (by_length c))

pub returns-then-params-left-clause-of_longer_input : goal.returns-then-params-left-clause-of_longer_input
returns-then-params-left-clause-of_longer_input c input holds more part =
    cut_is_next (numbers_of c.args.params.now) c.args.map.now c.args.known c.args.at_end input holds part (λ end. absurd (true≢false (sym end ∙ more))) c.args.start (c.args.start + c.min.result) (by_length c)
