use Rattle.std.proofs.Common.{Err, List, ℕ, Ok, Result, ◌+◌, ◌++◌, ◌∙◌, ap, append_assoc, drop, string_bytes}
use Rattle.std.specs.Prelude.{OnOk}
use Rattle.sd_base.specs.Books.{BookState, chunks_in}
use Rattle.sd_base.specs.References.{live_book_places}
use Rattle.sd_base.specs.Rows.{book_chunk_rows}
use Rattle.sd_base.specs.Texts.{refs_text}
use Rattle.backup_top.proofs.ReferenceRows.{count_is, count_there, row_added}
use Rattle.backup_top.proofs.refs_text.push_chunk.Goals as goal

on-ok : {T E : Type 0} (P Q : Type 0) (result : Result T E) → (P → Q) → OnOk result P → OnOk result Q
on-ok P Q (Ok value) step before = step before
on-ok P Q (Err fault) step before = tt

pub returns-in-Some : goal.returns-in-Some
returns-in-Some c =
    let sessions = c.args.store.now.opened.book.sessions in
    let places = live_book_places sessions in
    let number = c.args.number in
    let rest = refs_text (book_chunk_rows places (number + 1) (drop (number + 1) (chunks_in sessions))) in
    let had = string_bytes c.args.lines.now in
    let chunks = c.chunks.ensures ∙ ap (λ (b : BookState). chunks_in b.sessions) c.book.ensures.book in
    on-ok _ _ c.push_line.result
    (λ appended. ap (λ (text : List ℕ). text ++ rest) appended ∙ append_assoc had _ rest
    ∙ ap (λ (more : List ℕ). had ++ more)
    (row_added places c.chunks.result.now (chunks_in sessions) number c.in-Some.count _ chunks
    (count_is sessions number c.in-Some.count c.requires c.in-Some.ensures.counted) c.requires))
    c.push_line.ensures

pub returns-in-None : goal.returns-in-None
returns-in-None c = absurd (count_there c.args.store.now.opened.book.sessions c.args.number c.requires c.in-None.ensures.counted)
