use Rattle.std.proofs.Common.{◌≡◌, ◌++◌, drop, string_bytes}
use Rattle.sd_base.specs.Rows.{live_book_rows, rows_of_book}
use Rattle.sd_base.specs.Texts.{list_text}
use Rattle.backup_top.proofs.list_text.text_of_list.Given as goal

abbrev pub invariant-loop-number : goal.invariant-loop-number
invariant-loop-number l =
    string_bytes l.lines ++ list_text (live_book_rows l.number (drop l.number l.book.sessions))
    ≡ list_text (rows_of_book l.book)
