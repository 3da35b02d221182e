use Rattle.std.proofs.Common.{◌≡◌, ℕ, List, arith, ap, subst, sym, Some, ◌∙◌, ◌+◌, length}
use Rattle.sd_base.specs.Books.{without, chunks_in, places_in, BookState}
use Rattle.sd_base.specs.declared.record.Record.TheVariants.{Drop}
use Rattle.sd_base.specs.declared.record.Session.{Session}
use Rattle.session_book.proofs.Adding.{drop_leaves, live_count}
use Rattle.session_book.specs.BookFields.{live_name, IsByName}
use Rattle.session_book.proofs.ByName.{live_named, index_dropped}
use Rattle.session_book.proofs.Steps.{length_spelling}
use Rattle.session_book.proofs.book.Book.drop_session.Goals as goal

pub invariant_of-self : goal.invariant_of-self
invariant_of-self c =
    let old = c.self.inside.sessions.items in
    let marked : c.mark_dropped.new.sessions.items ≡ without c.args.session old = c.mark_dropped.ensures in
    let live = rw (← c.self.view_is) at c.requires in
    let named : live_name old c.args.session ≡ Some c.index.result.now.entry.name = live_named old c.args.session c.index.result.now live ∙ ap (λ (session : Session). Some session.entry.name) (sym c.index.ensures) in
    let left = drop_leaves old c.args.session live in
    let count : length c.mark_dropped.new.sessions.items ≡ length old = ap length marked ∙ left.count in
    let alive : live_count c.mark_dropped.new.sessions.items + 1 ≡ live_count old = ap (λ (xs : List Session). live_count xs + 1) marked ∙ left.live in
    record {
      by_name = subst (IsByName c.remove.new.self) (sym marked) (index_dropped c.self.inside.by_name c.remove.new.self old c.args.session c.index.result.now.entry.name c.self.invariant.by_name named c.remove.ensures.updates);
      chunks = c.self.invariant.chunks ∙ sym (ap chunks_in marked ∙ left.chunks);
      places = c.self.invariant.places ∙ sym (ap places_in marked ∙ left.places);
      session_limit = omega (arith, count, c.self.invariant.session_limit);
      place_limit = c.self.invariant.place_limit;
      chunk_limit = c.self.invariant.chunk_limit;
      short = omega (arith, count, alive, c.self.invariant.short);
    }

pub returns-clause-dropped : goal.returns-clause-dropped
returns-clause-dropped c =
    let old = c.self.inside.sessions.items in
    let marked : c.mark_dropped.new.sessions.items ≡ without c.args.session old = c.mark_dropped.ensures in
    let made : List Session → ℕ → BookState = λ sessions n. record { sessions = sessions; used = c.self.inside.used + n; max = c.self.inside.max } in
    rw (← c.self.view_is) (ap (λ (sessions : List Session). made sessions 41) marked ∙ ap (made (without c.args.session old)) (sym (length_spelling (Drop c.args.session))))
