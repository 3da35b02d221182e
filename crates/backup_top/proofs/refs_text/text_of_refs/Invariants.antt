use Rattle.std.proofs.Common.{◌≡◌, ◌++◌, drop, string_bytes}
use Rattle.sd_base.specs.Books.{chunks_in}
use Rattle.sd_base.specs.References.{live_book_places}
use Rattle.sd_base.specs.Rows.{book_chunk_rows, reference_rows_of_book}
use Rattle.sd_base.specs.Texts.{refs_text}
use Rattle.backup_top.proofs.refs_text.text_of_refs.Given as goal

abbrev pub invariant-loop-number : goal.invariant-loop-number
invariant-loop-number l =
    let sessions = l.store.opened.book.sessions in
    string_bytes l.lines ++ refs_text (book_chunk_rows (live_book_places sessions) l.number (drop l.number (chunks_in sessions)))
    ≡ refs_text (reference_rows_of_book l.store.opened.book)
