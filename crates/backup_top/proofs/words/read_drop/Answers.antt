use Rattle.std.proofs.Common.{sym, rules}
use Rattle.sd_base.specs.declared.words.Command.TheVariants.{Quiet}
use Rattle.sd_base.specs.declared.words.Quiet.TheVariants.{Drop}
use Rattle.backup_top.proofs.words.read_drop.Goals as goal

pub returns-in_err-name : goal.returns-in_err-name
returns-in_err-name c = let refused = c.in_err-name.ensures (λ name. Quiet (Drop name)) in search rules

pub returns : goal.returns
returns c = sym (c.in_ok-name.ensures (λ name. Quiet (Drop name)))
