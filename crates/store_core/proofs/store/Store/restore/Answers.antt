use Rattle.std.proofs.Common.{◌≡◌, ℕ, List, refl, ap, arith, length, sym, subst, ◌∙◌}
use Rattle.std.specs.Option.{option_copied}
use Rattle.std.specs.Prelude.{IfSome, OnErr, OnOk}
use Rattle.sd_base.specs.Books.{live_session}
use Rattle.store_core.specs.Restores.{FindsDamage, RestoresAll, RestoresPart, recipe_named, unknown_place}
use Rattle.store_core.specs.StoreStates.{StoreState}
use Rattle.store_core.proofs.RestoreLemmas.{found-there, none-part, places-of, recipe-named, some-stored, told-known, told-restored}
use Rattle.store_core.proofs.store.Store.restore.Goals as goal

pub returns-in_default-clause-stands : goal.returns-in_default-clause-stands
returns-in_default-clause-stands g c =
    let told = g.F.Shelf.files c.args.shelf.now in
    let store : StoreState = c.args.self.now in
    let written = g.K.Sink.written c.args.sink.now in
    let none = ap (λ (s : StoreState). live_session s.opened.book.sessions c.args.name.now) (sym c.self.view_is)
    ∙ sym c.find.ensures ∙ c.in_default.is in
    told-restored g.N.Namer.name_of told store (some-stored _ store _ _ _ c.self.view_is c.self.invariant.1)
    c.args.name.now _ written written (λ is. none, λ is. refl) tt (λ damage is. absurd cc)
    (none-part g.N.Namer.name_of told store _ written)

pub returns-in_default-session-clause-no_session : goal.returns-in_default-session-clause-no_session
returns-in_default-session-clause-no_session g c =
    absurd (found-there c.self.inside.book.sessions c.args.name.now c.in-Some.session (sym c.find.ensures ∙ c.in-Some.is)
    (sym c.session.ensures ∙ ap option_copied c.in_default-session.is))

pub returns-in_default-session-clause-stands : goal.returns-in_default-session-clause-stands
returns-in_default-session-clause-stands g c =
    absurd (found-there c.self.inside.book.sessions c.args.name.now c.in-Some.session (sym c.find.ensures ∙ c.in-Some.is)
    (sym c.session.ensures ∙ ap option_copied c.in_default-session.is))

pub prove-unreachable-requires : goal.prove-unreachable-requires
prove-unreachable-requires g c =
    let few = places-of c.self.inside.book.sessions c.in-Some.session c.in-Some-session.entry.now
    (sym c.session.ensures ∙ ap option_copied c.in-Some-session.is) in
    let count = ap length c.as_slice-recipe.ensures in
    absurd (omega (arith, few, count, c.places.ensures, c.if-prove.true))

pub returns-in-Some-unknown_place-clause-prefix : goal.returns-in-Some-unknown_place-clause-prefix
returns-in-Some-unknown_place-clause-prefix g c =
    none-part g.N.Namer.name_of (g.F.Shelf.files c.args.shelf.now) c.args.self.now _ (g.K.Sink.written c.args.sink.now)

pub returns-in-Some-unknown_place-clause-stands : goal.returns-in-Some-unknown_place-clause-stands
returns-in-Some-unknown_place-clause-stands g c =
    let store : StoreState = c.args.self.now in
    let recipe = recipe-named _ store c.args.name.now c.in-Some.session c.in-Some-session.entry.now c.self.view_is
    (sym c.find.ensures ∙ c.in-Some.is) (sym c.session.ensures ∙ ap option_copied c.in-Some-session.is) in
    told-known g.N.Namer.name_of (g.F.Shelf.files c.args.shelf.now) store
    (some-stored _ store _ _ _ c.self.view_is c.self.invariant.1) c.args.name.now c.in-Some-unknown_place.place _ _ _
    (ap (unknown_place store) (recipe ∙ sym c.as_slice-recipe.ensures) ∙ sym c.unknown_place.ensures
    ∙ c.in-Some-unknown_place.is)

pub returns-clause-stands : goal.returns-clause-stands
returns-clause-stands g c =
    let told = g.F.Shelf.files c.args.shelf.now in
    let store : StoreState = c.args.self.now in
    let before = g.K.Sink.written c.args.sink.now in
    let after = g.K.Sink.written c.restore_places.new.sink in
    let there = sym c.find.ensures ∙ c.in-Some.is in
    let recipe : c.as_slice-recipe.result.now ≡ recipe_named store c.args.name.now =
    c.as_slice-recipe.ensures ∙ sym (recipe-named _ store c.args.name.now c.in-Some.session c.in-Some-session.entry.now
    c.self.view_is there (sym c.session.ensures ∙ ap option_copied c.in-Some-session.is)) in
    let live = ap (λ (s : StoreState). live_session s.opened.book.sessions c.args.name.now) (sym c.self.view_is) ∙ there in
    told-restored g.N.Namer.name_of told store (some-stored _ store _ _ _ c.self.view_is c.self.invariant.1)
    c.args.name.now c.restore_places.result before after
    (λ is. absurd (c.restore_places.ensures.session is), λ none. let clash = sym live ∙ none in absurd cc)
    (subst (λ (places : List ℕ). OnOk c.restore_places.result
    (IfSome told (λ files. RestoresAll g.N.Namer.name_of files store places before after))) recipe c.restore_places.ensures.restored)
    (λ damage is. subst (λ (places : List ℕ).
    IfSome told (λ files. FindsDamage g.N.Namer.name_of files store places damage before after)) recipe
    (c.restore_places.ensures.damaged damage is))
    (subst (λ (places : List ℕ). OnErr c.restore_places.result
    (IfSome told (λ files. RestoresPart g.N.Namer.name_of files store places before after))) recipe c.restore_places.ensures.prefix)
