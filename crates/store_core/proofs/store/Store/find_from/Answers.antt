use Rattle.std.proofs.Common.{rules, ◌+◌, arith, sym, subst, ◌∙◌}
use Rattle.std.specs.Prelude.{IfSome}
use Rattle.store_core.specs.Offers.{IsFoundDamaged, IsIntactIfNamed, IsLeastSame, IsNewBelow, IsReadDamaged, IsSame}
use Rattle.store_core.proofs.FindLemmas.{none-below, none-next}
use Rattle.store_core.proofs.StoreLemmas.{Told, damaged-passed, if_told, same-told, told_map, told_map2}
use Rattle.store_core.proofs.store.Store.find_from.Goals as goal

pub loop-number-init : goal.loop-number-init
loop-number-init g c = record {
  reads = search rules;
  new = if_told (g.F.Shelf.files c.args.shelf.now) (λ files.
      none-below g.N.Namer.name_of files c.args.self.now c.args.chunk.now c.args.name.now c.requires.named c.args.first
      (sym c.requires.first));
}

pub returns-in_err-is_same : goal.returns-in_err-is_same
returns-in_err-is_same g c = record {
  kept = search rules;
  least = search rules;
  damage = λ damage is.
      c.in_err-is_same.ensures.damage damage
      (damaged-passed c.in_err-is_same.field-0.0 c.from_residual.result damage is c.from_residual.ensures.1);
  damaged = λ damage is.
      let old = g.F.Shelf.files c.args.shelf.now in
      let now = g.F.Shelf.files c.loop-number.shelf in
      let store = c.args.self.now in
      let k = c.loop-number.number in
      let found = c.in_err-is_same.ensures.damaged damage
      (damaged-passed c.in_err-is_same.field-0.0 c.from_residual.result damage is c.from_residual.ensures.1) in
      told_map2 {P = λ files. IsNewBelow g.N.Namer.name_of files store c.args.chunk.now k}
      {Q = λ files. IsReadDamaged g.N.Namer.name_of files store k damage}
      {R = λ files. IsFoundDamaged g.N.Namer.name_of files store c.args.chunk.now damage}
      old (λ files new damaged. record {
        number = k;
        within = omega (arith, c.loop-number-test.true, c.count-number-end.ensures.count);
        name = found.0 ∙ c.requires.named;
        damaged = damaged;
        before = new.none;
        intact = new.intact;
      }) c.loop-number.invariant.new
      (subst (λ (t : Told). IfSome t (λ files. IsReadDamaged g.N.Namer.name_of files store k damage))
      (same-told old now c.loop-number.invariant.reads.same_files) found.1);
  refused = search rules;
  reads = search rules;
}

pub returns-then-branch : goal.returns-then-branch
returns-then-branch g c = record {
  kept = search rules;
  least =
      let old = g.F.Shelf.files c.args.shelf.now in
      let now = g.F.Shelf.files c.loop-number.shelf in
      let store = c.args.self.now in
      let k = c.loop-number.number in
      told_map2 {P = λ files. IsNewBelow g.N.Namer.name_of files store c.args.chunk.now k}
      {Q = λ files. IsSame g.N.Namer.name_of files store c.args.chunk.now k}
      {R = λ files. IsLeastSame g.N.Namer.name_of files store c.args.chunk.now k}
      old (λ files new is. record { same = is; least = new.none; intact = new.intact }) c.loop-number.invariant.new
      (subst (λ (t : Told). IfSome t (λ files. IsSame g.N.Namer.name_of files store c.args.chunk.now k))
      (same-told old now c.loop-number.invariant.reads.same_files)
      (told_map now (λ files is. is c.if-branch.true) c.in_ok-is_same.ensures.same));
  damage = search rules;
  damaged = search rules;
  refused = search rules;
  reads = search rules;
}

pub loop-number-preserved : goal.loop-number-preserved
loop-number-preserved g c =
    let old = g.F.Shelf.files c.args.shelf.now in
    let now = g.F.Shelf.files c.loop-number.shelf in
    let store = c.args.self.now in
    let k = c.loop-number.number in
    record {
      reads = search rules;
      new = told_map2 {P = λ files. IsNewBelow g.N.Namer.name_of files store c.args.chunk.now k}
          {Q = λ files. (IsSame g.N.Namer.name_of files store c.args.chunk.now k → ⊥) × IsIntactIfNamed g.N.Namer.name_of files store c.args.chunk.now k}
          {R = λ files. IsNewBelow g.N.Namer.name_of files store c.args.chunk.now (k + 1)}
          old (λ files new this. none-next g.N.Namer.name_of files store c.args.chunk.now c.args.name.now c.requires.named k new this.0 this.1)
          c.loop-number.invariant.new
          (subst (λ (t : Told). IfSome t (λ files. (IsSame g.N.Namer.name_of files store c.args.chunk.now k → ⊥)
          × IsIntactIfNamed g.N.Namer.name_of files store c.args.chunk.now k))
          (same-told old now c.loop-number.invariant.reads.same_files)
          (told_map2 {P = λ files. IsSame g.N.Namer.name_of files store c.args.chunk.now k → ⊥}
          {Q = λ files. IsIntactIfNamed g.N.Namer.name_of files store c.args.chunk.now k}
          now (λ files other intact. (other, intact))
          (told_map now (λ files is. is c.if-branch.false) c.in_ok-is_same.ensures.other)
          (told_map now (λ files is. is c.if-branch.false) c.in_ok-is_same.ensures.intact)));
    }

pub returns : goal.returns
returns g c = search rules
