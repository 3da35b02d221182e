use Rattle.std.proofs.Common.{◌≡◌, ◌∙◌, ℕ, None, List, [], IfSome, ap, arith, length, subst, sym}
use Rattle.std.specs.Option.{option_copied}
use Rattle.sd_base.specs.Firsts.{HoldsBelow, IsFirstFailing}
use Rattle.sd_base.specs.Flaws.{recipe_in_book}
use Rattle.store_core.proofs.RestoreLemmas.{places-of}
use Rattle.ingest_core.specs.AuditCuts.{PassesAt}
use Rattle.ingest_core.proofs.SessionCuts.{named-entries, no-recipe, recipe-of_entry}
use Rattle.ingest_core.proofs.auditing.cuts.place_of_session.Goals as goal

pub returns-in_default-clause-all : goal.returns-in_default-clause-all
returns-in_default-clause-all c same =
    let none : recipe_in_book c.args.book.now c.args.session ≡ [] =
    no-recipe c.args.book.now.sessions c.args.session (sym c.session.ensures ∙ ap option_copied c.in_default.is) in
    λ place within. let count = ap length none in absurd (omega (arith, count, within))

pub prove-unreachable-requires : goal.prove-unreachable-requires
prove-unreachable-requires c =
    let few = places-of c.args.book.now.sessions c.args.session c.in-Some.entry.now
    (sym c.session.ensures ∙ ap option_copied c.in-Some.is) in
    let count = ap length c.as_slice-recipe.ensures in
    absurd (omega (arith, few, count, c.places.ensures, c.if-prove.true))

pub place_not_cut-requires-clause-named : goal.place_not_cut-requires-clause-named
place_not_cut-requires-clause-named c =
    named-entries c.args.book.now.sessions c.args.session (length c.args.cuts.now) c.as_slice-recipe.result.now c.requires.recipes
    (recipe-of_entry c.args.book.now.sessions c.args.session c.in-Some.entry.now (sym c.session.ensures ∙ ap option_copied c.in-Some.is)
    ∙ sym c.as_slice-recipe.ensures)
    c.requires.one_each

pub returns-clause-all : goal.returns-clause-all
returns-clause-all c =
    let own : c.as_slice-recipe.result.now ≡ recipe_in_book c.args.book.now c.args.session =
    c.as_slice-recipe.ensures
    ∙ sym (recipe-of_entry c.args.book.now.sessions c.args.session c.in-Some.entry.now (sym c.session.ensures ∙ ap option_copied c.in-Some.is)) in
    subst (λ (recipe : List ℕ). c.place_not_cut.result ≡ None → HoldsBelow (length recipe) (PassesAt c.args.cuts.now recipe)) own
    c.place_not_cut.ensures.all

pub returns-clause-first : goal.returns-clause-first
returns-clause-first c =
    let own : c.as_slice-recipe.result.now ≡ recipe_in_book c.args.book.now c.args.session =
    c.as_slice-recipe.ensures
    ∙ sym (recipe-of_entry c.args.book.now.sessions c.args.session c.in-Some.entry.now (sym c.session.ensures ∙ ap option_copied c.in-Some.is)) in
    subst (λ (recipe : List ℕ). IfSome c.place_not_cut.result (λ place. IsFirstFailing (length recipe) (PassesAt c.args.cuts.now recipe) place)) own
    c.place_not_cut.ensures.first
