use Rattle.std.proofs.Common.{refl, ◌≡◌, ℕ, List, subst, sym, take}
use Rattle.std.specs.Prelude.{IfSome}
use Rattle.edge_traits.specs.Shelf.{content}
use Rattle.sd_base.specs.Books.{IsBookDamage}
use Rattle.store_core.specs.BookFiles.{whole_len}
use Rattle.sd_base.specs.declared.file.File.TheVariants.{Book as BookFile}
use Rattle.store_core.proofs.OpeningLemmas.{book-kind, damage-files, damage-of_fault, replay-files}
use Rattle.store_core.proofs.book_file.read_book.Goals as goal

pub returns-in_err-replay-clause-damaged : goal.returns-in_err-replay-clause-damaged
returns-in_err-replay-clause-damaged g c = λ damage is.
    let front = subst (λ (read : List ℕ). IfSome (content (g.F.Shelf.files c.len.new.self) (BookFile c.args.generation)) (λ bytes. read ≡ take (whole_len c.in_ok-records.records bytes) bytes))
    (sym c.deref.ensures.value) c.in_ok-bytes.ensures.front in
    damage-files c.args.generation c.args.max c.in_ok-records.records c.deref.result.now
    (g.F.Shelf.files c.args.shelf.now) (g.F.Shelf.files c.len.new.self) damage c.in_ok-records.ensures.length
    (c.in_ok-records.ensures.same_files (BookFile c.args.generation)) front
    (damage-of_fault _ c.in_err-replay.field-0.0 c.from_residual-in_err-replay.result damage (IsBookDamage c.args.max c.deref.result.now c.in_ok-records.records) is
    c.from_residual-in_err-replay.ensures.1 c.in_err-replay.ensures.damaged)

pub returns-clause-committed : goal.returns-clause-committed
returns-clause-committed g c =
    let front = subst (λ (read : List ℕ). IfSome (content (g.F.Shelf.files c.len.new.self) (BookFile c.args.generation)) (λ bytes. read ≡ take (whole_len c.in_ok-records.records bytes) bytes))
    (sym c.deref.ensures.value) c.in_ok-bytes.ensures.front in
    replay-files c.args.generation c.args.max c.in_ok-records.records c.deref.result.now
    (g.F.Shelf.files c.args.shelf.now) (g.F.Shelf.files c.len.new.self) c.in_ok-replay.field-0 c.in_ok-records.ensures.length
    (c.in_ok-records.ensures.same_files (BookFile c.args.generation)) front
    ((c.in_ok-replay.ensures.whole c.in_ok-replay.field-0).0 refl)

pub returns-in_err-replay-clause-kind : goal.returns-in_err-replay-clause-kind
returns-in_err-replay-clause-kind g c = λ damage is.
    book-kind c.args.max c.deref.result.now c.in_ok-records.records damage
    (damage-of_fault _ c.in_err-replay.field-0.0 c.from_residual-in_err-replay.result damage (IsBookDamage c.args.max c.deref.result.now c.in_ok-records.records) is
    c.from_residual-in_err-replay.ensures.1 c.in_err-replay.ensures.damaged)
