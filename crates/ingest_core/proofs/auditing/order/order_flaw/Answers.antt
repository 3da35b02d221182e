use Rattle.std.proofs.Common.{◌≡◌, ◌+◌, ℕ, suc, ap, arith, length, refl, subst, sym, ◌∙◌}
use Rattle.std.specs.Option.{option_copied}
use Rattle.sd_base.specs.Firsts.{HoldsBelow}
use Rattle.sd_base.specs.Flaws.{IsInOrder, chunks_before, places_and_end}
use Rattle.store_core.proofs.RestoreLemmas.{places-of}
use Rattle.ingest_core.proofs.OrderLemmas.{IsEntry, below-one_more, chunks-few, entries-named, entry-chunks, session-flaw, session-found, session-in_order}
use Rattle.ingest_core.proofs.auditing.order.order_flaw.Goals as goal

pub prove-unreachable-requires : goal.prove-unreachable-requires
prove-unreachable-requires c =
    let sessions = c.args.book.now.sessions in
    let is : IsEntry sessions c.loop-session.session c.in_ok-entry.entry.now = sym c.session.ensures ∙ ap option_copied c.in_ok-entry.was in
    let few = places-of sessions c.loop-session.session c.in_ok-entry.entry.now is in
    let count = ap length c.as_slice-recipe.ensures in
    absurd (omega (arith, few, count, c.places.ensures, c.if-prove.true))

pub prove-unreachable-requires-in-loop-session : goal.prove-unreachable-requires-in-loop-session
prove-unreachable-requires-in-loop-session c =
    let sessions = c.args.book.now.sessions in
    let is : IsEntry sessions c.loop-session.session c.in_ok-entry.entry.now = sym c.session.ensures ∙ ap option_copied c.in_ok-entry.was in
    let more = entry-chunks sessions c.loop-session.session c.in_ok-entry.entry.now is in
    let few = chunks-few sessions (suc c.loop-session.session) in
    let count = ap length c.as_slice-fresh.ensures in
    absurd (omega (arith, few, more, count, c.loop-session.invariant.counted, c.chunk_count.ensures, c.if-prove-2.true))

pub place_out_of_order-requires-clause-named : goal.place_out_of_order-requires-clause-named
place_out_of_order-requires-clause-named c =
    let sessions = c.args.book.now.sessions in
    let entry = c.in_ok-entry.entry.now in
    let is : IsEntry sessions c.loop-session.session entry = sym c.session.ensures ∙ ap option_copied c.in_ok-entry.was in
    let more = entry-chunks sessions c.loop-session.session entry is in
    let count = ap length c.as_slice-fresh.ensures in
    entries-named sessions c.loop-session.session entry c.as_slice-recipe.result.now (c.loop-session.known + length c.as_slice-fresh.result.now)
    c.requires.recipes is c.as_slice-recipe.ensures (omega (arith, more, count, c.loop-session.invariant.counted))

pub returns-in-Some-clause-first : goal.returns-in-Some-clause-first
returns-in-Some-clause-first c =
    let book = c.args.book.now in
    let l = c.loop-session in
    let recipe = c.as_slice-recipe.result.now in
    let own = session-found book l.session c.in_ok-entry.entry.now recipe c.as_slice-fresh.result.now l.known
    (sym c.session.ensures ∙ ap option_copied c.in_ok-entry.was) c.as_slice-recipe.ensures c.as_slice-fresh.ensures l.invariant.counted in
    record {
      session = l.session;
      place = c.in-Some.place;
      first = record {
        within = omega (arith, c.loop-session-test.true, c.sessions-session-end.ensures);
        before = l.invariant.in_order;
        first = session-flaw book l.session recipe l.known (l.known + length c.as_slice-fresh.result.now) c.in-Some.place own
            c.in-Some.ensures.first;
      };
      equals = refl;
    }

pub loop-session-preserved : goal.loop-session-preserved
loop-session-preserved c =
    let book = c.args.book.now in
    let l = c.loop-session in
    let recipe = c.as_slice-recipe.result.now in
    let total = l.known + length c.as_slice-fresh.result.now in
    let own = session-found book l.session c.in_ok-entry.entry.now recipe c.as_slice-fresh.result.now l.known
    (sym c.session.ensures ∙ ap option_copied c.in_ok-entry.was) c.as_slice-recipe.ensures c.as_slice-fresh.ensures l.invariant.counted in
    let one : suc l.session ≡ l.session + 1 = omega arith in
    record {
      counted = subst (λ (n : ℕ). total ≡ chunks_before book n) one own.total_is;
      in_order = below-one_more (λ k. HoldsBelow (places_and_end book k) (IsInOrder book k)) l.session (l.session + 1) (omega arith)
          l.invariant.in_order
          (session-in_order book l.session recipe l.known total own (c.in_default.ensures.none refl));
    }
