use Rattle.std.proofs.Common.{◌≡◌, ◌+◌, ◌-◌, ◌≤◌, ℕ, List, ap, arith, length, subst, sym, ◌∙◌}
use Rattle.std.specs.List.{sum}
use Rattle.std.specs.Option.{option_copied}
use Rattle.ref_ledger.specs.Counts.{count_at}
use Rattle.sd_base.specs.References.{occurrences}
use Rattle.store_core.specs.Counting.{recipe_at}
use Rattle.store_core.proofs.CountLemmas.{dropped-counted, dropped-few, entry-recipe}
use Rattle.store_core.proofs.RestoreLemmas.{places-of}
use Rattle.store_core.proofs.store.counting.uncount.Goals as goal

pub drop_places-requires : goal.drop_places-requires
drop_places-requires c =
    let sessions = c.args.book.now.sessions in
    let own : recipe_at sessions c.args.session ≡ c.as_slice-places.result.now =
    entry-recipe sessions c.args.session c.in-Some.entry.now (sym c.session.ensures ∙ ap option_copied c.in-Some.is)
    ∙ sym c.as_slice-places.ensures in
    record {
      counted = λ i.
          subst (λ places. occurrences i places ≤ count_at c.args.counts.now i) own
          (dropped-few sessions c.args.session c.requires.live c.args.counts.now c.requires.counted i);
    }

pub prove-unreachable-requires : goal.prove-unreachable-requires
prove-unreachable-requires c =
    let few = places-of c.args.book.now.sessions c.args.session c.in-Some.entry.now
    (sym c.session.ensures ∙ ap option_copied c.in-Some.is) in
    let count = ap length c.as_slice-places.ensures in
    absurd (omega (arith, few, count, c.places.ensures, c.if-prove.true))

pub returns-clause-counted : goal.returns-clause-counted
returns-clause-counted c =
    let sessions = c.args.book.now.sessions in
    let old = c.args.counts.now in
    let new = c.drop_places.new.self in
    let own : c.as_slice-places.result.now ≡ recipe_at sessions c.args.session =
    c.as_slice-places.ensures
    ∙ sym (entry-recipe sessions c.args.session c.in-Some.entry.now (sym c.session.ensures ∙ ap option_copied c.in-Some.is)) in
    dropped-counted sessions c.args.session c.requires.live old c.requires.counted new
    (subst (λ places. (i : ℕ) → count_at new i ≡ count_at old i - occurrences i places) own c.drop_places.ensures.dropped)
    c.drop_places.ensures.chunks
    (subst (λ (places : List ℕ). sum new + length places ≡ sum old) own c.drop_places.ensures.total)
