use Rattle.std.proofs.Common.{◌≡◌, ◌^◌, ◌<◌, [], ◌∷◌, ◌++◌, length, get_or, drop, set, arith, sym, ap, ◌∙◌, subst, inl, inr}
use Rattle.sd_base.specs.Polynomial.{degree, fingerprint}
use Rattle.rabin_window.specs.Window.{WindowView, oldest_first}
use Rattle.rabin_window.proofs.Ring.{length-oldest_first, oldest_first-set}
use Rattle.rabin_window.proofs.window.Window.slide.Goals as goal
use Rattle.rabin_window.proofs.window.Window.slide.Goals.{then-self-eq-WINDOW_SIZE, else-self-eq-WINDOW_SIZE}

-- the ring's bytes before, as the model shows them
bytes_are : (c : goal.After-self-2-1) → oldest_first c.self.inside.oldest c.self.inside.ring ≡ c.args.self.now.bytes
bytes_are c = ap (λ (r : WindowView). r.bytes) c.self.view_is

polynomial_is : (c : goal.After-self-2-1) → c.self.inside.polynomial ≡ c.args.self.now.polynomial
polynomial_is c = ap (λ (r : WindowView). r.polynomial) c.self.view_is

-- the ring's bytes after
moved : (c : goal.After-self-2-1) → oldest_first c.if-self-eq-WINDOW_SIZE.self (set c.self.inside.ring c.self.inside.oldest c.args.inn)
    ≡ drop 1 (oldest_first c.self.inside.oldest c.self.inside.ring) ++ c.args.inn ∷ []
moved c =
    let place = c.self.inside.oldest in
    let ring = c.self.inside.ring in
    let within : place < length ring = omega (arith, c.self.invariant.in_ring, c.self.told) in
    oldest_first-set place c.if-self-eq-WINDOW_SIZE.self ring c.args.inn within
    (elim c.if-self-eq-WINDOW_SIZE.branch [
      | then-self-eq-WINDOW_SIZE w ↦ inl (w.if-self-eq-WINDOW_SIZE.true ∙ sym c.self.told, w.self-is)
      | else-self-eq-WINDOW_SIZE w ↦ inr w.self-is
    ])

pub returns-clause-bytes : goal.returns-clause-bytes
returns-clause-bytes c = moved c ∙ ap (λ bytes. drop 1 bytes ++ c.args.inn ∷ []) (bytes_are c)

pub invariant_of-self : goal.invariant_of-self
invariant_of-self c =
    let p = c.self.inside.polynomial in
    let window = oldest_first c.self.inside.oldest c.self.inside.ring in
    let tables_are : p ≡ c.args.tables.now.polynomial = polynomial_is c ∙ sym c.requires.same_tables in
    let size = length-oldest_first c.self.inside.oldest c.self.inside.ring (omega (arith, c.self.invariant.in_ring, c.self.told)) ∙ c.self.told in
    let oldest = ap (λ bytes. get_or bytes 0 0) (bytes_are c) ∙ c.requires.oldest in
    let value_is = c.self.invariant.fingerprinted ∙ ap (λ q. fingerprint q window) tables_are in
    let after = c.roll-self-inside.ensures.rolled window size oldest value_is in
    record {
      in_ring = elim c.if-self-eq-WINDOW_SIZE.branch [
        | then-self-eq-WINDOW_SIZE w ↦ omega arith
        | else-self-eq-WINDOW_SIZE w ↦ omega (arith, c.self.invariant.in_ring)
      ];
      fingerprinted = after ∙ ap (λ q. fingerprint q (drop 1 window ++ c.args.inn ∷ [])) (sym tables_are) ∙ ap (fingerprint p) (sym (moved c));
      reduced = subst (λ q. c.roll-self-inside.result < 2 ^ degree q) (sym tables_are) c.roll-self-inside.ensures.reduced;
    }
