use Rattle.std.proofs.Common.{rules, ◌≡◌, ◌+◌, List, [], ◌∷◌, ◌++◌, Some, true, length, sym, ap, subst, ◌∙◌, arith, length-append}
use Rattle.std.specs.BTreeMap.{Updates}
use Rattle.sd_base.specs.Books.{chunks_in, places_in, MayIngest}
use Rattle.sd_base.specs.declared.record.NewChunk.{NewChunk}
use Rattle.sd_base.specs.declared.record.Session.{Session}
use Rattle.session_book.specs.BookFields.{name_cmp, IsByName}
use Rattle.session_book.proofs.Adding.{live_count, push_adds}
use Rattle.session_book.proofs.ByName.{index_pushed}
use Rattle.session_book.proofs.book.Book.ingest.Goals as goal

pub invariant_of-self-2 : goal.invariant_of-self-2
invariant_of-self-2 c =
    let old = c.self.inside.sessions.items in
    let session : Session = record { entry = c.args.entry; live = true } in
    let all : c.append_session.new.sessions.items ≡ old ++ session ∷ [] = c.in_ok-append_session.ensures.sessions ∙ ap (λ (xs : List Session). xs ++ session ∷ []) c.make_room.ensures.sessions in
    let added = push_adds old session in
    let follows : MayIngest c.self.inside.max old c.args.entry = rw (← c.self.view_is) at c.requires.follows in
    let count : length c.append_session.new.sessions.items ≡ length old + 1 = ap length all ∙ added.count in
    let place : c.len-session.result ≡ length old = search rules in
    let chunks : c.append_session.new.chunks.items ≡ chunks_in old ++ c.args.entry.fresh =
    c.in_ok-append_session.ensures.chunks
    ∙ ap (λ (xs : List NewChunk). xs ++ c.args.entry.fresh) (c.make_room.ensures.chunks ∙ c.self.invariant.chunks) in
    record {
      by_name = subst (IsByName c.insert.new.self) (sym all) (index_pushed c.self.inside.by_name c.insert.new.self old c.args.entry c.self.invariant.by_name follows.free_name (subst (λ n. Updates name_cmp c.self.inside.by_name c.insert.new.self c.args.entry.name (Some n)) place c.in_ok-insert.ensures.updates));
      chunks = chunks ∙ sym (ap chunks_in all ∙ added.chunks);
      places = omega (arith, c.self.invariant.places, ap places_in all, added.places, ap length c.as_slice.ensures);
      session_limit = omega (arith, count, follows.session_limit);
      place_limit = omega (arith, c.self.invariant.places, ap length c.as_slice.ensures, follows.place_limit);
      chunk_limit = omega (arith, ap length chunks, length-append (chunks_in old) c.args.entry.fresh, follows.chunk_limit);
      short = omega (arith, count, ap live_count all, added.live, c.self.invariant.short, c.ingest_len-size.ensures.small);
    }

pub returns : goal.returns
returns c = search rules

pub returns-in_err-insert : goal.returns-in_err-insert
returns-in_err-insert c = search rules

pub returns-in_err-make_room : goal.returns-in_err-make_room
returns-in_err-make_room c = search rules

pub returns-in_err-append_session : goal.returns-in_err-append_session
returns-in_err-append_session c = search rules
