use Rattle.std.proofs.Common.{Err, List, ℕ, Ok, Result, ◌+◌, ◌++◌, ◌∙◌, ap, append_assoc, drop, string_bytes, sym}
use Rattle.std.specs.Option.{option_copied}
use Rattle.std.specs.Prelude.{OnOk}
use Rattle.sd_base.specs.Rows.{live_book_rows}
use Rattle.sd_base.specs.Texts.{list_line, list_text}
use Rattle.backup_top.proofs.Rows.{row_added, row_of_entry, row_skipped}
use Rattle.backup_top.proofs.list_text.push_session.Goals as goal

on-ok : {T E : Type 0} (P Q : Type 0) (result : Result T E) → (P → Q) → OnOk result P → OnOk result Q
on-ok P Q (Ok value) step before = step before
on-ok P Q (Err fault) step before = tt

pub returns-then-not-live : goal.returns-then-not-live
returns-then-not-live c =
    ap (λ rest. string_bytes c.args.lines.now ++ rest)
    (row_skipped c.args.book.now.sessions c.args.number c.requires (sym c.live.ensures ∙ c.if-not-live.true))

pub returns-in-Some : goal.returns-in-Some
returns-in-Some c =
    let sessions = c.args.book.now.sessions in
    let number = c.args.number in
    let entry = c.in-Some.session.now in
    let rest = list_text (live_book_rows (number + 1) (drop (number + 1) sessions)) in
    let had = string_bytes c.args.lines.now in
    on-ok _ _ c.push_line.result
    (λ appended. ap (λ (text : List ℕ). text ++ rest) appended
    ∙ append_assoc had (list_line (row_of_entry number entry)) rest
    ∙ ap (λ (more : List ℕ). had ++ more)
    (row_added sessions number c.requires entry (sym c.live.ensures ∙ c.if-not-live.false)
    (ap option_copied (sym c.in-Some.is) ∙ c.session.ensures)))
    c.push_line.ensures
