use Rattle.std.proofs.Common.{◌≡◌, [], length, take, drop}
use Rattle.sd_base.specs.Books.{chunks_in, recipe_damage}
use Rattle.session_book.proofs.recipes.first_damage.Given as goal

abbrev pub invariant-loop-k : goal.invariant-loop-k
invariant-loop-k l = record {
  count : l.count ≡ length (chunks_in (take l.k l.sessions));
  so_far : recipe_damage (chunks_in (take l.k l.sessions)) l.k (drop l.k l.sessions) ≡ recipe_damage [] 0 l.sessions;
}
