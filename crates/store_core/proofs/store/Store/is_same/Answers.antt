use Rattle.std.proofs.Common.{rules}
use Rattle.store_core.proofs.store.Store.is_same.Goals as goal

pub returns-then-ne : goal.returns-then-ne
returns-then-ne g c = search rules

pub returns-in_err-read : goal.returns-in_err-read
returns-in_err-read g c = search rules

pub returns-then-eq : goal.returns-then-eq
returns-then-eq g c = search rules

pub returns-then-eq-2 : goal.returns-then-eq-2
returns-then-eq-2 g c = search rules

pub returns : goal.returns
returns g c = search rules
