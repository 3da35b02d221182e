-- The places of the sessions of a book, by what is kept of the cuts of its chunks.
use Rattle.std.proofs.Common.{◌≡◌, ◌↔◌, ℕ, zero, suc, ◌<◌, ◌≤◌, List, [], ◌∷◌, length, map, slice_index_or, Some, None, refl, sym, ap, subst, arith}
use Rattle.std.specs.List.{All, slice_get}
use Rattle.std.specs.Option.{option_map}
use Rattle.std.proofs.lemmas.Grind.{get_or_default_zero}
use Rattle.std.proofs.lemmas.List.{get_or-map, length-map}
use Rattle.std.proofs.lemmas.List.Elements.{All-get_or, All-map}
use Rattle.sd_base.specs.Books.{BookState, chunks_in, recipe_damage}
use Rattle.sd_base.specs.CuttingLaws.{AreFilled}
use Rattle.sd_base.specs.Cuttings.{FollowsTheRule, IsOfTheCutting}
use Rattle.sd_base.specs.Firsts.{HoldsBelow}
use Rattle.sd_base.specs.Flaws.{AreCut, IsCutAt, places_of_session, recipe_in_book}
use Rattle.sd_base.specs.Parameters.{IsValid}
use Rattle.sd_base.specs.declared.damage.Damage.{Damage}
use Rattle.sd_base.specs.declared.raw_params.RawParams.{RawParams}
use Rattle.sd_base.specs.declared.record.IngestRecord.{IngestRecord}
use Rattle.sd_base.specs.declared.record.Session.{Session}
use Rattle.sd_base.proofs.Cuttings.{follows-of_cutting}
use Rattle.sd_base.proofs.Firsts.{below-same, first-same}
use Rattle.store_core.proofs.RestoreLemmas.{recipe-below, recipe_in}
use Rattle.ingest_core.specs.AuditCuts.{AllPass, AreCutsOf, AreCutsOfAll, IsFirstNotCut, IsFirstNotPassed, PassesAt, PassesIn, cuts_at}
use Rattle.ingest_core.specs.declared.auditing.chunk_cuts.ChunkCuts.{ChunkCuts}

abbrev RecipeOf : List Session → ℕ → List ℕ
RecipeOf sessions k = slice_index_or (map (λ (s : Session). s.entry.recipe) sessions) k []

-- the recipe of the entry of a session
pub recipe-of_entry : (sessions : List Session) (k : ℕ) (entry : IngestRecord) →
    option_map (λ (s : Session). s.entry) (slice_get sessions k) ≡ Some entry → RecipeOf sessions k ≡ entry.recipe
recipe-of_entry [] k entry is = absurd cc
recipe-of_entry (s ∷ sessions) zero entry is =
    let same : s.entry ≡ entry = cc in ap (λ (e : IngestRecord). e.recipe) same
recipe-of_entry (s ∷ sessions) (suc k) entry is = recipe-of_entry sessions k entry is

-- without an entry there are no places
pub no-recipe : (sessions : List Session) (k : ℕ) →
    option_map (λ (s : Session). s.entry) (slice_get sessions k) ≡ None → RecipeOf sessions k ≡ []
no-recipe [] k is = refl
no-recipe (s ∷ sessions) zero is = absurd cc
no-recipe (s ∷ sessions) (suc k) is = no-recipe sessions k is

same-recipe : (sessions : List Session) (k : ℕ) → recipe_in sessions (Some k) ≡ RecipeOf sessions k
same-recipe [] k = refl
same-recipe (s ∷ sessions) zero = refl
same-recipe (s ∷ sessions) (suc k) = same-recipe sessions k

-- if no recipe of a book fails, each entry of a session names a chunk
pub below-all : (sessions : List Session) (k i : ℕ) → recipe_damage [] 0 sessions ≡ None →
    i < length (RecipeOf sessions k) → slice_index_or (RecipeOf sessions k) i 0 < length (chunks_in sessions)
below-all sessions k i none =
    subst (λ recipe. i < length recipe → slice_index_or recipe i 0 < length (chunks_in sessions)) (same-recipe sessions k)
    (recipe-below sessions (Some k) i none)

pub named-entries : (sessions : List Session) (k n : ℕ) (recipe : List ℕ) → recipe_damage [] 0 sessions ≡ None →
    RecipeOf sessions k ≡ recipe → n ≡ length (chunks_in sessions) → All (λ entry. entry < n) recipe
named-entries sessions k n recipe none is count =
    subst (All (λ entry. entry < n)) is
    (λ i d within. subst (λ entry. entry < n) (sym (get_or_default_zero (RecipeOf sessions k) i d within))
    (omega (arith, count, below-all sessions k i none within)))

module _ (params : RawParams) (chunks : List (List ℕ)) (cuts : List ChunkCuts) (valid : IsValid params)
    (filled : AreFilled chunks) (kept : AreCutsOfAll params chunks cuts) where
  abbrev chunk_of : ℕ → List ℕ
  chunk_of n = slice_index_or chunks n []

  module _ (recipe : List ℕ) (named : (i : ℕ) → i < length recipe → slice_index_or recipe i 0 < length chunks) where
    -- a place passes exactly if its chunk follows the rule
    passes-rule : (i : ℕ) → i < length recipe → PassesAt cuts recipe i ↔ FollowsTheRule params (map chunk_of recipe) i
    passes-rule i within =
        let n = slice_index_or recipe i 0 in
        let there : slice_index_or (map chunk_of recipe) i [] ≡ chunk_of n = get_or-map chunk_of recipe i 0 [] within in
        let own : AreCutsOf params (slice_index_or (map chunk_of recipe) i []) (cuts_at cuts n) =
        subst (λ chunk. AreCutsOf params chunk (cuts_at cuts n)) (sym there) (kept.each n (named i within)) in
        let count = length-map recipe chunk_of in (
          λ passes. record {
            uncut = own.uncut.0 passes.uncut;
            followed = λ more. own.followed.0 (passes.followed (omega (arith, more, count)));
          },
          λ follows. record {
            uncut = own.uncut.1 follows.uncut;
            followed = λ more. own.followed.1 (follows.followed (omega (arith, more, count)));
          },
        )

    filled-places : AreFilled (map chunk_of recipe)
    filled-places = All-map (λ (chunk : List ℕ). 1 ≤ length chunk) chunk_of recipe (λ i d within.
        subst (λ n. 1 ≤ length (chunk_of n)) (sym (get_or_default_zero recipe i d within))
        (All-get_or (λ (chunk : List ℕ). 1 ≤ length chunk) chunks (slice_index_or recipe i 0) [] (named i within) filled))

    -- up to the first place that does not pass, places pass exactly if their chunks are those of the
    -- cutting
    pub passes-cut : (i : ℕ) → i < length recipe → HoldsBelow i (PassesAt cuts recipe) →
        PassesAt cuts recipe i ↔ IsOfTheCutting params (map chunk_of recipe) i
    passes-cut i within before =
        let count = length-map recipe chunk_of in
        let rule = passes-rule i within in
        let cut = follows-of_cutting params valid.min valid.max.0 (map chunk_of recipe) filled-places i (omega (arith, count, within))
        (λ j below. (passes-rule j (omega (arith, below, within))).0 (before j below)) in
        (λ passes. cut.0 (rule.0 passes), λ same. rule.1 (cut.1 same))

  module _ (book : BookState) (none : recipe_damage [] 0 book.sessions ≡ None) (one_each : length cuts ≡ length (chunks_in book.sessions)) where
    agree : (k i : ℕ) → i < places_of_session book k → HoldsBelow i (PassesIn cuts book k) →
        PassesIn cuts book k i ↔ IsCutAt params book chunks k i
    agree k = passes-cut (recipe_in_book book k)
        (λ i within. omega (arith, kept.one_each, one_each, below-all book.sessions k i none within))

    same-session : (k : ℕ) → HoldsBelow (places_of_session book k) (PassesIn cuts book k) ↔ HoldsBelow (places_of_session book k) (IsCutAt params book chunks k)
    same-session k = below-same (places_of_session book k) (PassesIn cuts book k) (IsCutAt params book chunks k) (agree k)

    pub all-cut : AllPass cuts book → AreCut params book chunks
    all-cut pass k within = (same-session k).0 (pass k within)

    pub first-not_cut : (damage : Damage) → IsFirstNotPassed cuts book damage → IsFirstNotCut params book chunks damage
    first-not_cut damage found = record {
      session = found.session;
      place = found.place;
      first = record {
        within = found.first.within;
        before = λ k earlier. (same-session k).0 (found.first.before k earlier);
        first = first-same (places_of_session book found.session) (PassesIn cuts book found.session)
            (IsCutAt params book chunks found.session) (agree found.session) found.place found.first.first;
      };
      equals = found.equals;
    }
