use Rattle.std.proofs.Common.{ap, sym, ◌∙◌}
use Rattle.sd_base.specs.Books.{live_session}
use Rattle.store_core.specs.StoreStates.{StoreState}
use Rattle.store_core.proofs.DropLemmas.{drop-clean, drop-places, drop-stands, dropped-sound, found-is_live, some-live}
use Rattle.store_core.proofs.store.Store.drop_session.Goals as goal

pub drop_live-outcome-requires-clause-live : goal.drop_live-outcome-requires-clause-live
drop_live-outcome-requires-clause-live g c κs within =
    found-is_live c.args.self.now.opened.book.sessions c.args.name.now c.in-Some.session
    (ap (λ (s : StoreState). live_session s.opened.book.sessions c.args.name.now) (sym c.self.view_is)
    ∙ sym c.find.ensures ∙ c.in-Some.is)

pub returns-clause-stands : goal.returns-clause-stands
returns-clause-stands g c =
    let old : StoreState = c.args.self.now in
    let outcome = c.drop_live-outcome in
    let there = ap (λ (s : StoreState). live_session s.opened.book.sessions c.args.name.now) (sym c.self.view_is)
    ∙ sym c.find.ensures ∙ c.in-Some.is in
    drop-stands g.N.Namer.name_of old c.args.name.now c.in-Some.session there outcome.result
    (g.F.Shelf.files c.args.shelf.now) (g.F.Shelf.files outcome.new.shelf) outcome.ensures.written _
    outcome.ensures.not_written
    (dropped-sound outcome.new.self old _ c.in-Some.session outcome.result c.is_ok-self-inside.result
    c.self-2.view_is outcome.ensures.dropped c.is_ok-self-inside.ensures.value)

pub returns-clause-places_dropped : goal.returns-clause-places_dropped
returns-clause-places_dropped g c =
    let old : StoreState = c.args.self.now in
    let outcome = c.drop_live-outcome in
    let there = ap (λ (s : StoreState). live_session s.opened.book.sessions c.args.name.now) (sym c.self.view_is)
    ∙ sym c.find.ensures ∙ c.in-Some.is in
    drop-places g.N.Namer.name_of old c.args.name.now c.in-Some.session there (g.F.Shelf.files c.args.shelf.now)
    outcome.result outcome.ensures.places

pub returns-clause-unknown : goal.returns-clause-unknown
returns-clause-unknown g c =
    let old : StoreState = c.args.self.now in
    let there = ap (λ (s : StoreState). live_session s.opened.book.sessions c.args.name.now) (sym c.self.view_is)
    ∙ sym c.find.ensures ∙ c.in-Some.is in
    some-live _ g.N.Namer.name_of old c.args.name.now c.in-Some.session (g.F.Shelf.files c.args.shelf.now) there

pub returns-clause-clean : goal.returns-clause-clean
returns-clause-clean g c =
    let old : StoreState = c.args.self.now in
    let outcome = c.drop_live-outcome in
    let there = ap (λ (s : StoreState). live_session s.opened.book.sessions c.args.name.now) (sym c.self.view_is)
    ∙ sym c.find.ensures ∙ c.in-Some.is in
    drop-clean g.N.Namer.name_of old c.args.name.now c.in-Some.session there outcome.result
    (g.F.Shelf.files c.args.shelf.now) (g.F.Shelf.files outcome.new.shelf) outcome.ensures.written
