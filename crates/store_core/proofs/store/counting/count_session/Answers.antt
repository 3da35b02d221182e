use Rattle.std.proofs.Common.{◌≡◌, ◌<◌, ◌++◌, ap, length, subst, sym, ◌∙◌}
use Rattle.std.specs.List.{All}
use Rattle.std.specs.Option.{option_copied}
use Rattle.store_core.specs.Counting.{CountPlaces, places_at}
use Rattle.store_core.proofs.CountLemmas.{live-recipe, places-added}
use Rattle.store_core.proofs.store.counting.count_session.Goals as goal

pub returns-in-Some-clause-counted : goal.returns-in-Some-clause-counted
returns-in-Some-clause-counted c = λ places before.
    let sessions = c.args.book.now.sessions in
    let old = c.args.counts.now in
    let recipe = c.as_slice.result.now in
    let own : places_at sessions c.args.session ≡ recipe =
    live-recipe sessions c.args.session c.in-Some.entry.now (sym c.live.ensures ∙ c.if-live.true)
    (sym c.session.ensures ∙ ap option_copied c.in-Some.is) ∙ sym c.as_slice.ensures in
    subst (λ more. CountPlaces (places ++ more) c.add.new.self) (sym own)
    (places-added places recipe old c.add.new.self before
    (subst (λ more. All (λ p. p < length old) more) own c.requires.known)
    c.add.ensures.added c.add.ensures.chunks c.add.ensures.total)
