-- What an audit keeps of the cuts of stored chunks, and what it finds of the sessions by that.
use Rattle.std.specs.Prelude.{◌≡◌, ◌↔◌, ℕ, ◌+◌, ◌<◌, ◌≤◌, IsTrue, false, List, [], length, slice_index_or}
use Rattle.ingest_core.specs.declared.auditing.chunk_cuts.ChunkCuts.{ChunkCuts}
use Rattle.sd_base.specs.Books.{BookState}
use Rattle.sd_base.specs.Cutting.{IsCandidate}
use Rattle.sd_base.specs.Cuttings.{HasNoCutInside, MayBeFollowed}
use Rattle.sd_base.specs.Firsts.{HoldsAtPlaces, IsFirstFailingPlace}
use Rattle.sd_base.specs.Flaws.{IsCutAt, places_of_session, recipe_in_book}
use Rattle.sd_base.specs.declared.damage.Damage.{Damage}
use Rattle.sd_base.specs.declared.damage.Damage.TheVariants.{Cut}
use Rattle.sd_base.specs.declared.raw_params.RawParams.{RawParams}

-- no position before the end of a chunk at which it might end is a candidate
abbrev pub HasNoCandidate : RawParams → List ℕ → Type 0
HasNoCandidate params chunk = (p : ℕ) → params.min ≤ p → p < length chunk → IsCandidate params chunk p → ⊥

-- what is kept of a chunk is true of it
pub record AreCutsOf (params : RawParams) (chunk : List ℕ) (cuts : ChunkCuts) : Type 0 where
  pub uncut : IsTrue cuts.is_uncut ↔ HasNoCutInside params chunk
  pub followed : IsTrue cuts.may_be_followed ↔ MayBeFollowed params chunk

-- what is kept of chunk n
abbrev pub cuts_at : List ChunkCuts → ℕ → ChunkCuts
cuts_at cuts n = slice_index_or cuts n (record { is_uncut = false; may_be_followed = false })

-- what is kept of each of these chunks is true of it
pub record AreCutsOfAll (params : RawParams) (chunks : List (List ℕ)) (cuts : List ChunkCuts) : Type 0 where
  pub one_each : length cuts ≡ length chunks
  pub each : (n : ℕ) → n < length chunks → AreCutsOf params (slice_index_or chunks n []) (cuts_at cuts n)

-- the first place of a book whose chunk is not the one of the cutting
pub record IsFirstNotCut (params : RawParams) (book : BookState) (chunks : List (List ℕ)) (damage : Damage) : Type 0 where
  pub session : ℕ
  pub place : ℕ
  pub first : IsFirstFailingPlace (length book.sessions) (places_of_session book) (IsCutAt params book chunks) session place
  pub equals : damage ≡ Cut session place

-- the chunk at a place of a recipe is uncut, and may be followed if another place follows
pub record PassesAt (cuts : List ChunkCuts) (recipe : List ℕ) (place : ℕ) : Type 0 where
  pub uncut : IsTrue (cuts_at cuts (slice_index_or recipe place 0)).is_uncut
  pub followed : place + 1 < length recipe → IsTrue (cuts_at cuts (slice_index_or recipe place 0)).may_be_followed

-- the place of session k passes
abbrev pub PassesIn : List ChunkCuts → BookState → ℕ → ℕ → Type 0
PassesIn cuts book k place = PassesAt cuts (recipe_in_book book k) place

-- each place of each session passes
abbrev pub AllPass : List ChunkCuts → BookState → Type 0
AllPass cuts book = HoldsAtPlaces (length book.sessions) (places_of_session book) (PassesIn cuts book)

-- the first place of a book that does not pass
pub record IsFirstNotPassed (cuts : List ChunkCuts) (book : BookState) (damage : Damage) : Type 0 where
  pub session : ℕ
  pub place : ℕ
  pub first : IsFirstFailingPlace (length book.sessions) (places_of_session book) (PassesIn cuts book) session place
  pub equals : damage ≡ Cut session place
