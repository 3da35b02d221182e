use Rattle.std.proofs.Common.{[], ◌∷◌, length, subst, sym, ap, ◌∙◌, refl, arith}
use Rattle.std.proofs.lemmas.Bool.{true≢false}
use Rattle.std.proofs.lemmas.Slice.{pushed}
use Rattle.sd_base.specs.Params.{numbers_of}
use Rattle.cut_walk.specs.Walk.{IsCutOn, AreCutsOn, last_cut}
use Rattle.cut_walk.proofs.WalkLemmas.{cuts_are_first, cuts_are_all, last_cut-push, AreCutsOn-push, AreCutsOn-rise, AreCutsOn-within}
use Rattle.cut_walk.proofs.cuts.cuts_from.Goals as goal

pub loop-from-preserved : goal.loop-from-preserved
loop-from-preserved c =
    let params = numbers_of c.args.params.now in
    let map = c.args.map.now in
    let walk = c.loop-from.invariant in
    let items = pushed (c.in-Some.cut ∷ []) refl c.in_ok-push-in-Some.was c.push.ensures.items in
    let next = subst (λ s. IsCutOn params map c.args.known c.args.at_end s c.in-Some.cut) (sym walk.at_last) c.in-Some.ensures.cut in
    record {
      inside = omega (arith, c.in-Some.ensures.cut.within);
      at_last = ap (last_cut c.args.start) items ∙ last_cut-push c.loop-from.cuts.items c.args.start c.in-Some.cut;
      cuts = subst (λ cs. AreCutsOn params map c.args.known c.args.at_end c.args.start cs) (sym items)
          (AreCutsOn-push params map c.args.known c.args.at_end c.loop-from.cuts.items c.args.start c.in-Some.cut walk.cuts next);
    }

pub returns-in-None-clause-of_longer_input : goal.returns-in-None-clause-of_longer_input
returns-in-None-clause-of_longer_input c input holds more part =
    cuts_are_first (numbers_of c.args.params.now) c.args.map.now c.args.known c.args.at_end input holds part
    (λ end. absurd (true≢false (sym end ∙ more))) c.loop-from.cuts.items c.args.start c.loop-from.invariant.cuts

pub returns-clause-of_whole_input : goal.returns-clause-of_whole_input
returns-clause-of_whole_input c input holds end all =
    cuts_are_all (numbers_of c.args.params.now) c.args.map.now c.args.known c.args.at_end input holds (omega arith) (λ _. all)
    c.loop-from.cuts.items c.args.start (length input) c.loop-from.invariant.cuts
    (omega (arith, c.loop-from.invariant.at_last)) (omega arith)

pub returns-clause-of_longer_input : goal.returns-clause-of_longer_input
returns-clause-of_longer_input c input holds more part =
    cuts_are_first (numbers_of c.args.params.now) c.args.map.now c.args.known c.args.at_end input holds part
    (λ end. absurd (true≢false (sym end ∙ more))) c.loop-from.cuts.items c.args.start c.loop-from.invariant.cuts

pub returns-in-None-clause-rising : goal.returns-in-None-clause-rising
returns-in-None-clause-rising c =
    AreCutsOn-rise (numbers_of c.args.params.now) c.args.map.now c.args.known c.args.at_end c.loop-from.cuts.items c.args.start c.loop-from.invariant.cuts

pub returns-in-None-clause-within : goal.returns-in-None-clause-within
returns-in-None-clause-within c =
    AreCutsOn-within (numbers_of c.args.params.now) c.args.map.now c.args.known c.args.at_end c.loop-from.cuts.items c.args.start c.loop-from.invariant.cuts

pub returns-clause-rising : goal.returns-clause-rising
returns-clause-rising c =
    AreCutsOn-rise (numbers_of c.args.params.now) c.args.map.now c.args.known c.args.at_end c.loop-from.cuts.items c.args.start c.loop-from.invariant.cuts

pub returns-clause-within : goal.returns-clause-within
returns-clause-within c =
    AreCutsOn-within (numbers_of c.args.params.now) c.args.map.now c.args.known c.args.at_end c.loop-from.cuts.items c.args.start c.loop-from.invariant.cuts
