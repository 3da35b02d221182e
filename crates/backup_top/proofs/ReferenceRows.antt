-- The rows of `refs`, chunk after chunk.
use Rattle.std.proofs.Common.{◌≡◌, ℕ, suc, ◌+◌, ◌<◌, List, ◌++◌, length, get_or, drop, refl, ap, sym, ◌∙◌, add-one}
use Rattle.std.proofs.Math.Seq.{drop-cons}
use Rattle.std.proofs.lemmas.Bool.{lt-ltb}
use Rattle.std.proofs.lemmas.List.Concat.{flat_map-cons}
use Rattle.std.specs.Prelude.{None, Some}
use Rattle.sd_base.specs.Books.{chunks_in}
use Rattle.sd_base.specs.References.{live_book_places, occurrences, references_in_book}
use Rattle.sd_base.specs.Rows.{book_chunk_rows, row_of_book_chunk}
use Rattle.sd_base.specs.Texts.{refs_line, refs_text}
use Rattle.sd_base.specs.declared.record.NewChunk.{NewChunk}
use Rattle.sd_base.specs.declared.record.Session.{Session}
use Rattle.backup_top.proofs.Rows.{some-is}

-- a chunk of a book has its count
counted : (sessions : List Session) (k : ℕ) → k < length (chunks_in sessions)
    → references_in_book sessions k ≡ Some (occurrences k (live_book_places sessions))
counted sessions k within = rw (lt-ltb k (length (chunks_in sessions)) within) refl

pub count_is : (sessions : List Session) (k count : ℕ) → k < length (chunks_in sessions)
    → Some count ≡ references_in_book sessions k → count ≡ occurrences k (live_book_places sessions)
count_is sessions k count within is = some-is (is ∙ counted sessions k within)

pub count_there : (sessions : List Session) (k : ℕ) → k < length (chunks_in sessions)
    → None ≡ references_in_book sessions k → ⊥
count_there sessions k within is =
    let clash : None ≡ Some (occurrences k (live_book_places sessions)) = is ∙ counted sessions k within in absurd cc

own_row : (places : List ℕ) (chunks : List NewChunk) (k : ℕ) (none : NewChunk) → k < length chunks
    → refs_line (row_of_book_chunk places k (get_or chunks k none))
    ++ refs_text (book_chunk_rows places (k + 1) (drop (k + 1) chunks))
    ≡ refs_text (book_chunk_rows places k (drop k chunks))
own_row places chunks k none within =
    rw (drop-cons chunks k none within, add-one k)
    (sym (flat_map-cons refs_line (row_of_book_chunk places k (get_or chunks k none)) (book_chunk_rows places (suc k) (drop (suc k) chunks))))

-- a chunk has its row
pub row_added : (places : List ℕ) (own chunks : List NewChunk) (k count : ℕ) (none : NewChunk) → own ≡ chunks
    → count ≡ occurrences k places → k < length chunks
    → refs_line (record { number = k; count = count; length = (get_or own k none).length; name = (get_or own k none).name })
    ++ refs_text (book_chunk_rows places (k + 1) (drop (k + 1) chunks))
    ≡ refs_text (book_chunk_rows places k (drop k chunks))
row_added places own chunks k count none same is within =
    ap (λ (line : List ℕ). line ++ refs_text (book_chunk_rows places (k + 1) (drop (k + 1) chunks)))
    (ap (λ (n : ℕ). refs_line (record { number = k; count = n; length = (get_or own k none).length; name = (get_or own k none).name })) is
    ∙ ap (λ (list : List NewChunk). refs_line (row_of_book_chunk places k (get_or list k none))) same)
    ∙ own_row places chunks k none within
