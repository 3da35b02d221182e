-- The recipe gets shorter.
use Rattle.std.specs.Prelude.{length}
use Rattle.store_tests.proofs.steps.+is_in_order.Given as goal

abbrev pub decreases-is_in_order : goal.decreases-is_in_order
decreases-is_in_order l = length l.recipe.now
