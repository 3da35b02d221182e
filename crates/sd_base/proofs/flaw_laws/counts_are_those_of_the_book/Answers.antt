use Rattle.sd_base.proofs.Flawless.{counts-book}
use Rattle.sd_base.proofs.flaw_laws.counts_are_those_of_the_book.Goals as goal

pub returns : goal.returns
returns c = counts-book
