use Rattle.std.proofs.Common.{sym, subst}
use Rattle.sd_base.specs.Cutting.{IsNextCut}
use Rattle.sd_base.proofs.Cutting.{IsNextCut-next_cut, next_cut_is}
use Rattle.sd_base.proofs.laws.next_cut_is_the_least.Goals as goal

pub returns : goal.returns
returns c = λ params input s cut.
    (next_cut_is params input s cut, λ e. subst (IsNextCut params input s) (sym e) (IsNextCut-next_cut params input s))
