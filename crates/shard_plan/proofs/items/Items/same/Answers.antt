use Rattle.std.proofs.Common.{◌≡◌, ◌∙◌, false, true, subst, sym}
use Rattle.std.specs.Str.{bytes_eq}
use Rattle.shard_plan.proofs.Chunks.{other_names}
use Rattle.shard_plan.specs.Items.{AreNamed, name_of}
use Rattle.shard_plan.proofs.items.Items.same.Goals as goal

pub returns-else-eq : goal.returns-else-eq
returns-else-eq c =
    let items = c.args.self.now in
    let i = c.args.i in
    let j = c.args.j in
    let named = subst (λ it. AreNamed it.chunks it.names) c.self.view_is c.self.invariant.named in
    let differ =
    subst (λ it. bytes_eq (name_of it i) (name_of it j) ≡ false) c.self.view_is (sym c.if-eq.ensures)
    in record {
      same = (
        λ yes. let clash : false ≡ true = sym c.if-eq.false ∙ yes in absurd cc,
        λ bytes. absurd (other_names items i j named c.requires.first c.requires.second differ bytes),
      );
    }
