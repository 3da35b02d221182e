-- Worked examples of the verdict of opening: one for each kind of damage.
use Rattle.std.specs.Prelude.{◌≡◌, IsTrue, ℕ, ◌^◌, ◌<◌, ◌≤◌, List, [], ◌∷◌, ◌++◌, replicate, codes}
use Rattle.std.proofs.Common.{inl, inr, refl, sym, ◌∙◌, lit<, lit≤, arith}
use Rattle.std.proofs.Math.Seq.{take-nil}
use Rattle.std.proofs.lemmas.List.{append-nil}
use Rattle.sd_base.specs.Books.{book_of, book_after}
use Rattle.sd_base.specs.Examples.{small_params, IsValid-small_params, session_of}
use Rattle.sd_base.specs.Opening.{HeadState, HasHead, IsOpeningDamage}
use Rattle.std.proofs.lemmas.List.Elements.{All-from_recursion}
use Rattle.sd_base.specs.Names.{IsName, name_byte}
use Rattle.sd_base.specs.Books.{MayIngest}
use Rattle.sd_base.specs.Records.{spelling_of, IsIngest, IsNewChunk}
use Rattle.sd_base.specs.declared.record.NewChunk.{NewChunk}
use Rattle.sd_base.specs.Settings.{settings_of}
use Rattle.sd_base.specs.declared.damage.Damage.TheVariants as damage
use Rattle.sd_base.specs.declared.file.File.{File}
use Rattle.sd_base.specs.declared.file.File.TheVariants.{Head, Seal, Book, Container}
use Rattle.sd_base.specs.declared.record.IngestRecord.{IngestRecord}
use Rattle.sd_base.specs.declared.record.Record.{Record}
use Rattle.sd_base.specs.declared.record.Record.TheVariants.{Ingest}

-- a store of generation 0 with no containers
abbrev files_with : List ℕ → List ℕ → List ℕ → File → List ℕ
files_with head seal book Head = head
files_with head seal book (Seal g) = seal
files_with head seal book (Book g) = book
files_with head seal book (Container g k) = []

abbrev small_head : List ℕ
small_head = settings_of (small_params 0) ++ 0x53 ∷ []

abbrev first_head : HeadState
first_head = record { params = small_params 0; generation = 0 }

has_small_head : (seal book : List ℕ) → HasHead (files_with small_head seal book) first_head
has_small_head seal book = record { valid = IsValid-small_params; settings = refl; size = refl; within_limit = lit≤ tt }

-- 33 zeros are no head
pub damage-of_zeros_as_head : IsOpeningDamage (files_with (replicate 33 0) [] []) damage.Head
damage-of_zeros_as_head = inl (record {
  long_enough = lit≤ tt;
  none = λ head has. let clash = has.settings in absurd cc;
  equals = refl;
})

-- a seal of one byte, and no record
spelling-not_empty : (entry : Record) → [] ≡ spelling_of entry → ⊥
unfolding spelling_of
spelling-not_empty entry none = absurd cc

pub damage-of_a_seal_without_a_record : IsOpeningDamage (files_with small_head (0x53 ∷ []) []) (damage.Record 0)
damage-of_a_seal_without_a_record = inr (inl (record {
  head = first_head;
  has_head = has_small_head (0x53 ∷ []) [];
  first = inl (record {
    k = 0;
    within = lit< tt;
    first = record {
      before = [];
      count = refl;
      holds = record { lawful = tt; rest = []; spelled = refl };
      none = λ entry n begins follows. spelling-not_empty entry (sym (take-nil n) ∙ begins.spelled);
    };
    equals = refl;
  });
}))

-- a record of no new chunks whose recipe names chunk 0
letter_a : IsName (codes "a")
letter_a = record { not_empty = lit≤ tt; within_limit = lit≤ tt; first = refl; letters = All-from_recursion (λ c. IsTrue (name_byte c)) (codes "a") (refl, tt) }

abbrev unfounded : IngestRecord
unfounded = session_of [] 64 (0 ∷ [])

unfounded_lawful : IsIngest unfounded
unfounded_lawful = record {
  name = letter_a;
  size = lit< tt;
  chunk_limit = lit≤ tt;
  chunks = All-from_recursion IsNewChunk [] tt;
  place_limit = lit≤ tt;
  entries = All-from_recursion (λ n. n < 2 ^ 32) (0 ∷ []) (lit< tt, tt);
}

unfounded_may_follow : MayIngest 256 [] unfounded
unfounded_may_follow = record {
  short_chunks = All-from_recursion (λ chunk. chunk.length ≤ 256) [] tt;
  free_name = refl;
  session_limit = lit< tt;
  place_limit = lit≤ tt;
  chunk_limit = lit≤ tt;
}

pub damage-of_an_entry_that_names_no_chunk :
    IsOpeningDamage (files_with small_head (0x53 ∷ []) (book_of (Ingest unfounded ∷ []))) (damage.Recipe 0 0)
damage-of_an_entry_that_names_no_chunk = inr (inl (record {
  head = first_head;
  has_head = has_small_head (0x53 ∷ []) (book_of (Ingest unfounded ∷ []));
  first = inr (record {
    records = Ingest unfounded ∷ [];
    count = refl;
    holds = record { lawful = (unfounded_lawful, (unfounded_may_follow, tt)); rest = []; spelled = sym (append-nil (book_of (Ingest unfounded ∷ []))) };
    first = refl;
  });
}))

-- a record of one new chunk of 8 bytes, and no container
abbrev one_chunk : List NewChunk
one_chunk = record { length = 8; name = replicate 32 2 } ∷ []

abbrev of_one_chunk : IngestRecord
of_one_chunk = session_of one_chunk 8 (0 ∷ [])

of_one_chunk_lawful : IsIngest of_one_chunk
of_one_chunk_lawful = record {
  name = letter_a;
  size = lit< tt;
  chunk_limit = lit≤ tt;
  chunks = All-from_recursion IsNewChunk one_chunk (record { size = (lit≤ tt, lit≤ tt); name = refl }, tt);
  place_limit = lit≤ tt;
  entries = All-from_recursion (λ n. n < 2 ^ 32) (0 ∷ []) (lit< tt, tt);
}

of_one_chunk_may_follow : MayIngest 256 [] of_one_chunk
of_one_chunk_may_follow = record {
  short_chunks = All-from_recursion (λ chunk. chunk.length ≤ 256) one_chunk (lit≤ tt, tt);
  free_name = refl;
  session_limit = lit< tt;
  place_limit = lit≤ tt;
  chunk_limit = lit≤ tt;
}

pub damage-of_a_container_that_is_not_there :
    IsOpeningDamage (files_with small_head (0x53 ∷ []) (book_of (Ingest of_one_chunk ∷ []))) (damage.Container 0 16 0)
damage-of_a_container_that_is_not_there = inr (inr (record {
  opened = record { head = first_head; book = book_after 256 (Ingest of_one_chunk ∷ []) };
  number = 0;
  head = has_small_head (0x53 ∷ []) (book_of (Ingest of_one_chunk ∷ []));
  committed = record {
    records = Ingest of_one_chunk ∷ [];
    count = refl;
    holds = record { lawful = (of_one_chunk_lawful, (of_one_chunk_may_follow, tt)); rest = []; spelled = sym (append-nil (book_of (Ingest of_one_chunk ∷ []))) };
    recipes = refl;
    equals = refl;
  };
  within = lit< tt;
  before = λ k below. absurd (omega (arith, below));
  short = lit< tt;
  equals = refl;
}))
