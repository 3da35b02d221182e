-- The recipe gets shorter.
use Rattle.std.specs.Prelude.{length}
use Rattle.store_tests.proofs.steps.+length_of.Given as goal

abbrev pub decreases-length_of : goal.decreases-length_of
decreases-length_of l = length l.recipe.now
