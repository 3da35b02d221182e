-- The rows of `list`, session after session, and the names in them.
use Rattle.std.proofs.Common.{◌≡◌, ℕ, suc, ◌+◌, ◌<◌, List, [], ◌++◌, length, get_or, drop, true, false, refl, ap, sym, ◌∙◌, add-one}
use Rattle.std.proofs.Math.Seq.{drop-cons}
use Rattle.std.proofs.lemmas.List.Concat.{flat_map-cons}
use Rattle.std.proofs.lemmas.Option.{slice_get-get_or}
use Rattle.std.specs.List.{slice_get}
use Rattle.std.specs.Prelude.{None, Option, Some, option_map, unwrap_or}
use Rattle.sd_base.specs.Books.{is_live}
use Rattle.sd_base.specs.Rows.{live_book_rows, row_of_book_session}
use Rattle.sd_base.specs.Texts.{SessionRow, list_line, list_text}
use Rattle.sd_base.specs.declared.record.IngestRecord.{IngestRecord}
use Rattle.sd_base.specs.declared.record.Session.{Session}

-- the row of an ingest
abbrev pub row_of_entry : ℕ → IngestRecord → SessionRow
row_of_entry k entry = record { number = k; name = entry.name; bytes = entry.length; places = length entry.recipe }

no_session : Session
no_session = record { entry = record { name = []; length = 0; fresh = []; recipe = [] }; live = false }

in-some : {A : Type 0} → A → Option A → A
in-some x None = x
in-some x (Some y) = y

pub some-is : {A : Type 0} {x y : A} → ◌≡◌ {A = Option A} (Some x) (Some y) → x ≡ y
unfolding in-some
some-is {x = x} same = ap (in-some x) same

module _ (sessions : List Session) (k : ℕ) (within : k < length sessions) where
  abbrev here : Session
  here = get_or sessions k no_session

  got : slice_get sessions k ≡ Some here
  got = slice_get-get_or sessions k no_session within

  live-here : here.live ≡ is_live sessions k
  live-here = sym (ap (λ (s : Option Session). unwrap_or (option_map (λ (t : Session). t.live) s) false) got)

  -- a session that is not live has no row
  pub row_skipped : is_live sessions k ≡ false
      → list_text (live_book_rows (k + 1) (drop (k + 1) sessions)) ≡ list_text (live_book_rows k (drop k sessions))
  row_skipped dropped =
      let off : here.live ≡ false = live-here ∙ dropped in
      rw (drop-cons sessions k no_session within, off, add-one k) refl

  -- a live session has its row
  pub row_added : (entry : IngestRecord) → is_live sessions k ≡ true
      → Some entry ≡ option_map (λ (s : Session). s.entry) (slice_get sessions k)
      → list_line (row_of_entry k entry) ++ list_text (live_book_rows (k + 1) (drop (k + 1) sessions))
      ≡ list_text (live_book_rows k (drop k sessions))
  row_added entry live is =
      let on : here.live ≡ true = live-here ∙ live in
      let same : entry ≡ here.entry = some-is (is ∙ ap (option_map (λ (s : Session). s.entry)) got) in
      rw (drop-cons sessions k no_session within, on, add-one k, same)
      (sym (flat_map-cons list_line (row_of_book_session k here) (live_book_rows (suc k) (drop (suc k) sessions))))

  -- there is a session
  pub row_there : None ≡ option_map (λ (s : Session). s.entry) (slice_get sessions k) → ⊥
  row_there missing =
      let clash : None ≡ Some here.entry = missing ∙ ap (option_map (λ (s : Session). s.entry)) got in absurd cc
