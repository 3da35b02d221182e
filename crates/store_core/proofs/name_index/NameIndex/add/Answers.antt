use Rattle.std.proofs.Common.{◌∷◌, ◌++◌, [], ◌+◌, ℕ, length-append, arith, subst, Some, sym, ◌∙◌}
use Rattle.std.specs.HashMap.{Updates}
use Rattle.std.specs.Str.{bytes_eq}
use Rattle.store_core.specs.NameIndex.{Covers}
use Rattle.store_core.specs.declared.name_index.NameIndex.{NameIndex}
use Rattle.store_core.proofs.NameIndexLemmas.{HasFirsts-known, HasFirsts-new}
use Rattle.store_core.proofs.name_index.NameIndex.add.Goals as goal
use Rattle.store_core.proofs.name_index.NameIndex.add.Goals.{then-not-contains_key+in_ok-insert, else-not-contains_key}

pub returns-clause-added : goal.returns-clause-added
returns-clause-added g names covers =
    let map = g.args.self.now.first in
    let name = g.args.name.now in
    elim g.if-not-contains_key.branch [
      | then-not-contains_key+in_ok-insert w ↦
          subst (λ (s : NameIndex). Covers (record { first = s.first; chunks = s.chunks + 1 }) (names ++ name ∷ [])) (sym w.self-is) (record {
            firsts = HasFirsts-new map names name covers.firsts w.insert.new.self
                (sym g.contains_key.ensures ∙ w.if-not-contains_key.true)
                (subst (λ (k : ℕ). Updates bytes_eq map w.insert.new.self name (Some k)) covers.count w.in_ok-insert.ensures.updates);
            count = omega (arith, covers.count, length-append names (name ∷ []));
          })
      | else-not-contains_key w ↦
          subst (λ (s : NameIndex). Covers (record { first = s.first; chunks = s.chunks + 1 }) (names ++ name ∷ [])) (sym w.self-is) (record {
            firsts = HasFirsts-known map names name covers.firsts (sym g.contains_key.ensures ∙ w.if-not-contains_key.false);
            count = omega (arith, covers.count, length-append names (name ∷ []));
          })
    ]
