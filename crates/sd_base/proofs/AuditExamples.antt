-- Worked examples of what an audit tells and of what it finds: some for each kind of flaw, files
-- with two flaws, and files with none. They are examples of flaws alone: the files have an empty
-- head and no records, and the books count 0 bytes of records as `used`, so no such files open.
-- Chunks are named by their first byte, so that the examples are short.
use Rattle.std.specs.Prelude.{◌≡◌, ◌≢◌, ℕ, ◌<◌, List, [], ◌∷◌, ◌++◌, length, map, replicate, slice_index_or, codes, Bool, false, Some, None}
use Rattle.std.specs.Int.Count.{count_leading_zeros}
use Rattle.std.proofs.Common.{inl, inr, zero, suc, refl, sym, ap, subst, ◌∙◌, append-nil, lit<, lit≤, true, arith}
use Rattle.std.specs.Fmt.{digits}
use Rattle.sd_base.specs.Audits.{audit_text, counts_of_state}
use Rattle.sd_base.specs.StoreExamples.{once_dropped, one_empty}
use Rattle.sd_base.specs.Cutting.{chunks_of, next_cut, cuts_within}
use Rattle.sd_base.specs.Examples.{small_params, session_of}
use Rattle.sd_base.proofs.Flawless.{new-different}
use Rattle.sd_base.specs.Flaws.{HasMark, HaveChunks, IsFlawOf, IsNamed, IsNew, IsInOrder, IsCutAt, places_and_end, places_of_session}
use Rattle.sd_base.specs.Firsts.{HoldsBelow}
use Rattle.sd_base.specs.Opening.{Opened, chunk_lengths}
use Rattle.sd_base.specs.Packing.{header_of, packing}
use Rattle.sd_base.specs.Stores.{IsFrontOf}
use Rattle.std.specs.List.{concat}
use Rattle.sd_base.specs.declared.damage.Damage.TheVariants as damage
use Rattle.sd_base.specs.declared.file.File.{File}
use Rattle.sd_base.specs.declared.file.File.TheVariants.{Head, Seal, Book, Container}
use Rattle.sd_base.specs.declared.record.NewChunk.{NewChunk}
use Rattle.sd_base.specs.declared.record.Session.{Session}

-- two sessions of the same two chunks, of which the first was dropped
pub text-audit_after_a_drop :
    audit_text (counts_of_state once_dropped) ≡ codes "ok 1 live 2 ingested 2 chunks 1 containers" ++ 10 ∷ []
unfolding digits
text-audit_after_a_drop = refl

-- an empty session has no chunk, and needs no container
pub text-audit_of_an_empty_session :
    audit_text (counts_of_state one_empty) ≡ codes "ok 1 live 1 ingested 0 chunks 0 containers" ++ 10 ∷ []
unfolding digits
text-audit_of_an_empty_session = refl

abbrev first_byte : List ℕ → ℕ
first_byte bytes = slice_index_or bytes 0 0

-- a name of 32 bytes, each of which is the first byte of the chunk
abbrev by_first_byte : List ℕ → List ℕ
by_first_byte bytes = replicate 32 (first_byte bytes)

abbrev kept : List ℕ → NewChunk
kept chunk = record { length = length chunk; name = by_first_byte chunk }

-- a session of this name, which has these new chunks, so many bytes and this recipe
abbrev session_as : List ℕ → Bool → List (List ℕ) → ℕ → List ℕ → Session
session_as name live chunks size recipe = record {
  entry = record (session_of (map kept chunks) size recipe) { name = name };
  live = live;
}

-- a store of these sessions
abbrev store_of : List Session → Opened
store_of sessions = record {
  head = record { params = small_params 0; generation = 0 };
  book = record { sessions = sessions; used = 0; max = 256 };
}

-- a store of one live session
abbrev one_session : List (List ℕ) → ℕ → List ℕ → Opened
one_session chunks size recipe = store_of (session_as (codes "a") true chunks size recipe ∷ [])

-- files with one container
abbrev one_container : List ℕ → File → List ℕ
one_container bytes Head = []
one_container bytes (Seal g) = []
one_container bytes (Book g) = []
one_container bytes (Container g zero) = bytes
one_container bytes (Container g (suc k)) = []

abbrev a_and_b : List (List ℕ)
a_and_b = codes "ab" ∷ codes "b" ∷ []

-- the container of these chunks
abbrev holding : List (List ℕ) → File → List ℕ
holding chunks = one_container (header_of 0 ++ concat chunks)

-- it has them and no others
have_them : (chunks : List (List ℕ)) (opened : Opened) → map length chunks ≡ chunk_lengths opened.book →
    packing chunks ≡ (header_of 0 ++ concat chunks) ∷ [] → HaveChunks (holding chunks) opened chunks
have_them chunks opened lengths packed = record {
  lengths = lengths;
  containers = λ k within.
      let below : k < 1 = subst (λ (containers : List (List ℕ)). k < length containers) packed within in
      let first : k ≡ 0 = omega (arith, below) in
      subst (λ n. IsFrontOf (slice_index_or (packing chunks) n []) (holding chunks (Container opened.head.generation n))) (sym first)
      ([], ap (λ (containers : List (List ℕ)). slice_index_or containers 0 []) (sym packed) ∙ sym (append-nil (slice_index_or (packing chunks) 0 [])));
}

one : (P : ℕ → Type 0) → P 0 → HoldsBelow 1 P
one P first zero below = first
one P first (suc k) below = absurd (omega (arith, below))

two : (P : ℕ → Type 0) → P 0 → P 1 → HoldsBelow 2 P
two P first second zero below = first
two P first second (suc zero) below = second
two P first second (suc (suc k)) below = absurd (omega (arith, below))

three : (P : ℕ → Type 0) → P 0 → P 1 → P 2 → HoldsBelow 3 P
three P first second third zero below = first
three P first second third (suc zero) below = second
three P first second third (suc (suc zero)) below = third
three P first second third (suc (suc (suc k))) below = absurd (omega (arith, below))

four : (P : ℕ → Type 0) → P 0 → P 1 → P 2 → P 3 → HoldsBelow 4 P
four P first second third fourth zero below = first
four P first second third fourth (suc zero) below = second
four P first second third fourth (suc (suc zero)) below = third
four P first second third fourth (suc (suc (suc zero))) below = fourth
four P first second third fourth (suc (suc (suc (suc k)))) below = absurd (omega (arith, below))

none : (P : ℕ → Type 0) → HoldsBelow 0 P
none P k below = absurd (omega (arith, below))

-- no chunk is before the first
first_is_new : (chunks : List (List ℕ)) → IsNew chunks 0
first_is_new chunks j below = absurd (omega (arith, below))

-- the first byte of the container is another
pub flaw-of_a_changed_mark :
    IsFlawOf by_first_byte (one_container (codes "TSCP" ++ replicate 4 0 ++ codes "abb")) (one_session a_and_b 3 (0 ∷ 1 ∷ []))
    (Some (damage.Mark 0 0x5453435000000000))
flaw-of_a_changed_mark = inl (record {
  number = 0;
  first = record { within = lit< tt; before = λ k below. absurd (omega (arith, below)); fails = λ has. let clash : 84 ≡ 83 = ap first_byte has in absurd (omega (arith, clash)) };
  equals = refl;
})

-- two chunks, of which the first is kept under the name of the second
abbrev misnamed : Opened
misnamed = one_session (codes "bb" ∷ codes "b" ∷ []) 3 (0 ∷ 1 ∷ [])

-- a changed mark and a chunk without its name: marks are tried before names
pub flaw-of_a_changed_mark_and_a_name :
    IsFlawOf by_first_byte (one_container (codes "TSCP" ++ replicate 4 0 ++ codes "abb")) misnamed
    (Some (damage.Mark 0 0x5453435000000000))
flaw-of_a_changed_mark_and_a_name = inl (record {
  number = 0;
  first = record {
    within = lit< tt;
    before = λ k below. absurd (omega (arith, below));
    fails = λ has. let clash : 84 ≡ 83 = ap first_byte has in absurd (omega (arith, clash));
  };
  equals = refl;
})

-- A book of four chunks of the maximum length: container 0 has room for three. Both containers
-- begin as container 0 does. Only these first bytes are written here.
abbrev long_chunk : ℕ → NewChunk
long_chunk k = record { length = 1048576; name = replicate 32 k }

abbrev four_long : Opened
four_long = record {
  head = record { params = record (small_params 0) { max = 1048576 }; generation = 0 };
  book = record {
    sessions = record {
      entry = session_of (map long_chunk (0 ∷ 1 ∷ 2 ∷ 3 ∷ [])) 4194304 (0 ∷ 1 ∷ 2 ∷ 3 ∷ []);
      live = true;
    } ∷ [];
    used = 0;
    max = 1048576;
  };
}

-- files whose two containers are the same
abbrev same_containers : List ℕ → File → List ℕ
same_containers bytes Head = []
same_containers bytes (Seal g) = []
same_containers bytes (Book g) = []
same_containers bytes (Container g zero) = bytes
same_containers bytes (Container g (suc zero)) = bytes
same_containers bytes (Container g (suc (suc k))) = []

pub header-of_container_1 : header_of 1 ≡ 0x53 ∷ 0x53 ∷ 0x43 ∷ 0x50 ∷ 0 ∷ 0 ∷ 0 ∷ 1 ∷ []
header-of_container_1 = refl

pub flaw-of_the_mark_of_container_1 :
    IsFlawOf by_first_byte (same_containers (codes "SSCP" ++ replicate 4 0)) four_long
    (Some (damage.Mark 1 0x5353435000000000))
flaw-of_the_mark_of_container_1 = inl (record {
  number = 1;
  first = record {
    within = lit< tt;
    before = one (HasMark (same_containers (codes "SSCP" ++ replicate 4 0)) four_long) refl;
    fails = λ has.
        let clash : 0 ≡ 1 = ap (λ bytes. slice_index_or bytes 7 0) has in
        absurd (omega (arith, clash));
  };
  equals = refl;
})

pub flaw-of_a_changed_chunk :
    IsFlawOf by_first_byte (holding a_and_b) misnamed
    (Some (damage.Chunk 0 (by_first_byte (codes "b")) (by_first_byte (codes "a"))))
flaw-of_a_changed_chunk = inr (
  a_and_b,
  have_them a_and_b misnamed refl refl,
  inl (record {
    number = 0;
    first = record { within = lit< tt; before = none (IsNamed by_first_byte misnamed.book a_and_b); fails = λ named. let clash : 97 ≡ 98 = ap first_byte named in absurd (omega (arith, clash)) };
    equals = refl;
  }),
)

-- a chunk that is stored twice
abbrev a_and_a : List (List ℕ)
a_and_a = codes "ab" ∷ codes "ab" ∷ []

-- The second chunk does not have the name that the book keeps, it equals the first, and the recipe
-- names it first. Names are tried before chunks are compared and before orders.
abbrev three_flaws : Opened
three_flaws = one_session (codes "ab" ∷ codes "cd" ∷ []) 4 (1 ∷ 0 ∷ [])

pub flaw-of_chunk_1 :
    IsFlawOf by_first_byte (holding a_and_a) three_flaws
    (Some (damage.Chunk 1 (by_first_byte (codes "c")) (by_first_byte (codes "a"))))
flaw-of_chunk_1 = inr (
  a_and_a,
  have_them a_and_a three_flaws refl refl,
  inl (record {
    number = 1;
    first = record {
      within = lit< tt;
      before = one (IsNamed by_first_byte three_flaws.book a_and_a) refl;
      fails = λ named. let clash : 97 ≡ 99 = ap first_byte named in absurd (omega (arith, clash));
    };
    equals = refl;
  }),
)

abbrev stored_twice : Opened
stored_twice = one_session a_and_a 4 (0 ∷ 1 ∷ [])

pub flaw-of_equal_chunks : IsFlawOf by_first_byte (holding a_and_a) stored_twice (Some (damage.Twin 0 1))
flaw-of_equal_chunks = inr (
  a_and_a,
  have_them a_and_a stored_twice refl refl,
  inr (inl (record {
    named = two (IsNamed by_first_byte stored_twice.book a_and_a) refl refl;
    number = 1;
    first = record {
      within = lit< tt;
      before = one (IsNew a_and_a) (first_is_new a_and_a);
      fails = λ new. new 0 (lit< tt) refl;
    };
    equals = refl;
  })),
)

-- equal chunks in a wrong order: chunks are compared before orders are tried
abbrev twins_second_first : Opened
twins_second_first = one_session a_and_a 4 (1 ∷ 0 ∷ [])

pub flaw-of_equal_chunks_out_of_order :
    IsFlawOf by_first_byte (holding a_and_a) twins_second_first (Some (damage.Twin 0 1))
flaw-of_equal_chunks_out_of_order = inr (
  a_and_a,
  have_them a_and_a twins_second_first refl refl,
  inr (inl (record {
    named = two (IsNamed by_first_byte twins_second_first.book a_and_a) refl refl;
    number = 1;
    first = record {
      within = lit< tt;
      before = one (IsNew a_and_a) (first_is_new a_and_a);
      fails = λ new. new 0 (lit< tt) refl;
    };
    equals = refl;
  })),
)

-- Three equal chunks after another: chunk 3 has equal ones below it too, but chunk 2 is the least
-- that has one, and chunk 1 the least that equals it.
abbrev three_equal : List (List ℕ)
three_equal = codes "b" ∷ codes "ab" ∷ codes "ab" ∷ codes "ab" ∷ []

abbrev stored_thrice : Opened
stored_thrice = one_session three_equal 7 (0 ∷ 1 ∷ 2 ∷ 3 ∷ [])

second_is_new : IsNew three_equal 1
second_is_new = one (λ j. slice_index_or three_equal j [] ≢ codes "ab") (λ same. absurd cc)

pub flaw-of_three_equal_chunks : IsFlawOf by_first_byte (holding three_equal) stored_thrice (Some (damage.Twin 1 2))
flaw-of_three_equal_chunks = inr (
  three_equal,
  have_them three_equal stored_thrice refl refl,
  inr (inl (record {
    named = four (IsNamed by_first_byte stored_thrice.book three_equal) refl refl refl refl;
    number = 2;
    first = record {
      within = lit< tt;
      before = two (IsNew three_equal) (first_is_new three_equal) second_is_new;
      fails = λ new. new 1 (lit< tt) refl;
    };
    equals = refl;
  })),
)

-- two pairs of equal chunks: the pair is named whose later chunk comes first
abbrev two_pairs : List (List ℕ)
two_pairs = codes "b" ∷ codes "ab" ∷ codes "ab" ∷ codes "b" ∷ []

abbrev pairs_stored : Opened
pairs_stored = one_session two_pairs 6 (0 ∷ 1 ∷ 2 ∷ 3 ∷ [])

second_of_pairs_is_new : IsNew two_pairs 1
second_of_pairs_is_new = one (λ j. slice_index_or two_pairs j [] ≢ codes "ab") (λ same. absurd cc)

pub flaw-of_two_pairs : IsFlawOf by_first_byte (holding two_pairs) pairs_stored (Some (damage.Twin 1 2))
flaw-of_two_pairs = inr (
  two_pairs,
  have_them two_pairs pairs_stored refl refl,
  inr (inl (record {
    named = four (IsNamed by_first_byte pairs_stored.book two_pairs) refl refl refl refl;
    number = 2;
    first = record {
      within = lit< tt;
      before = two (IsNew two_pairs) (first_is_new two_pairs) second_of_pairs_is_new;
      fails = λ new. new 1 (lit< tt) refl;
    };
    equals = refl;
  })),
)

-- a recipe that names the second chunk first
abbrev second_first : Opened
second_first = one_session a_and_b 3 (1 ∷ 0 ∷ [])

pub flaw-of_an_order : IsFlawOf by_first_byte (holding a_and_b) second_first (Some (damage.Order 0 0))
flaw-of_an_order = inr (
  a_and_b,
  have_them a_and_b second_first refl refl,
  inr (inr (inl (record {
    named = two (IsNamed by_first_byte second_first.book a_and_b) refl refl;
    different = new-different a_and_b (refl, (refl, tt));
    session = 0;
    place = 0;
    first = record {
      within = lit< tt;
      before = λ k below. absurd (omega (arith, below));
      first = record {
        within = lit< tt;
        before = none (IsInOrder second_first.book 0);
        fails = λ in_order. absurd (omega (arith, in_order));
      };
    };
    equals = refl;
  }))),
)

-- a recipe that does not name the second chunk: its end is out of order
abbrev first_alone : Opened
first_alone = one_session a_and_b 2 (0 ∷ [])

-- a recipe that begins with the first chunk is in order there
begins_with_the_first : IsInOrder first_alone.book 0 0
begins_with_the_first = lit≤ tt

second_is_missing : IsInOrder first_alone.book 0 1 → ⊥
second_is_missing in_order = absurd (omega (arith, in_order))

pub flaw-of_a_chunk_in_no_place : IsFlawOf by_first_byte (holding a_and_b) first_alone (Some (damage.Order 0 1))
flaw-of_a_chunk_in_no_place = inr (
  a_and_b,
  have_them a_and_b first_alone refl refl,
  inr (inr (inl (record {
    named = two (IsNamed by_first_byte first_alone.book a_and_b) refl refl;
    different = new-different a_and_b (refl, (refl, tt));
    session = 0;
    place = 1;
    first = record {
      within = lit< tt;
      before = λ k below. absurd (omega (arith, below));
      first = record { within = lit< tt; before = one (IsInOrder first_alone.book 0) begins_with_the_first; fails = second_is_missing };
    };
    equals = refl;
  }))),
)

-- Two sessions, each with two new chunks. In session 1 the chunks of session 0 have occurred, so it
-- may begin with chunk 1. Chunk 3 at its place 1 comes before chunk 2. Session 0 is not cut by the
-- parameters, but orders are tried before cuts.
abbrev a_to_d : List (List ℕ)
a_to_d = codes "ab" ∷ codes "b" ∷ codes "c" ∷ codes "d" ∷ []

abbrev third_late : Opened
third_late = store_of (
    session_as (codes "a") true a_and_b 3 (0 ∷ 1 ∷ [])
    ∷ session_as (codes "b") true (codes "c" ∷ codes "d" ∷ []) 3 (1 ∷ 3 ∷ 2 ∷ [])
    ∷ [])

orders_of_a : HoldsBelow 3 (IsInOrder third_late.book 0)
orders_of_a = three (IsInOrder third_late.book 0) (lit≤ tt) (lit≤ tt) (lit≤ tt)

third_is_late : IsInOrder third_late.book 1 1 → ⊥
third_is_late in_order = absurd (omega (arith, in_order))

pub flaw-of_an_order_in_session_1 : IsFlawOf by_first_byte (holding a_to_d) third_late (Some (damage.Order 1 1))
flaw-of_an_order_in_session_1 = inr (
  a_to_d,
  have_them a_to_d third_late refl refl,
  inr (inr (inl (record {
    named = four (IsNamed by_first_byte third_late.book a_to_d) refl refl refl refl;
    different = new-different a_to_d (refl, (refl, (refl, (refl, tt))));
    session = 1;
    place = 1;
    first = record {
      within = lit< tt;
      before = one (λ k. HoldsBelow (places_and_end third_late.book k) (IsInOrder third_late.book k)) orders_of_a;
      first = record { within = lit< tt; before = one (IsInOrder third_late.book 1) (lit≤ tt); fails = third_is_late };
    };
    equals = refl;
  }))),
)

-- a dropped session that names its second chunk first: dropped sessions are looked at too
abbrev dropped_order : Opened
dropped_order = store_of (session_as (codes "a") false a_and_b 3 (1 ∷ 0 ∷ []) ∷ [])

pub flaw-of_a_dropped_order : IsFlawOf by_first_byte (holding a_and_b) dropped_order (Some (damage.Order 0 0))
flaw-of_a_dropped_order = inr (
  a_and_b,
  have_them a_and_b dropped_order refl refl,
  inr (inr (inl (record {
    named = two (IsNamed by_first_byte dropped_order.book a_and_b) refl refl;
    different = new-different a_and_b (refl, (refl, tt));
    session = 0;
    place = 0;
    first = record {
      within = lit< tt;
      before = none (λ k. HoldsBelow (places_and_end dropped_order.book k) (IsInOrder dropped_order.book k));
      first = record {
        within = lit< tt;
        before = none (IsInOrder dropped_order.book 0);
        fails = λ in_order. absurd (omega (arith, in_order));
      };
    };
    equals = refl;
  }))),
)

-- a session of no bytes with a new chunk: place 0 is the end of its recipe
abbrev b_alone : List (List ℕ)
b_alone = codes "b" ∷ []

abbrev named_nowhere : Opened
named_nowhere = one_session b_alone 0 []

pub flaw-of_a_chunk_in_an_empty_recipe :
    IsFlawOf by_first_byte (holding b_alone) named_nowhere (Some (damage.Order 0 0))
flaw-of_a_chunk_in_an_empty_recipe = inr (
  b_alone,
  have_them b_alone named_nowhere refl refl,
  inr (inr (inl (record {
    named = one (IsNamed by_first_byte named_nowhere.book b_alone) refl;
    different = new-different b_alone (refl, tt);
    session = 0;
    place = 0;
    first = record {
      within = lit< tt;
      before = none (λ k. HoldsBelow (places_and_end named_nowhere.book k) (IsInOrder named_nowhere.book k));
      first = record {
        within = lit< tt;
        before = none (IsInOrder named_nowhere.book 0);
        fails = λ in_order. absurd (omega (arith, in_order));
      };
    };
    equals = refl;
  }))),
)

-- one chunk of 128 zeros: the cutting has two of 64
abbrev uncut : List (List ℕ)
uncut = replicate 128 0 ∷ []

abbrev not_cut : Opened
not_cut = one_session uncut 128 (0 ∷ [])

cut_earlier : slice_index_or (chunks_of (small_params 0) (replicate 128 0)) 0 [] ≡ replicate 64 0
unfolding count_leading_zeros next_cut cuts_within
cut_earlier = refl

in_order_alone : (place : ℕ) → place < 2 → IsInOrder not_cut.book 0 place
in_order_alone zero within = lit≤ tt
in_order_alone (suc zero) within = lit≤ tt
in_order_alone (suc (suc place)) within = absurd (omega (arith, within))

pub flaw-of_a_cut : IsFlawOf by_first_byte (holding uncut) not_cut (Some (damage.Cut 0 0))
flaw-of_a_cut = inr (
  uncut,
  have_them uncut not_cut refl refl,
  inr (inr (inr (record {
    named = one (IsNamed by_first_byte not_cut.book uncut) refl;
    different = one (IsNew uncut) (first_is_new uncut);
    in_order = one (λ k. HoldsBelow (places_and_end not_cut.book k) (IsInOrder not_cut.book k)) in_order_alone;
    session = 0;
    place = 0;
    first = record {
      within = lit< tt;
      before = λ k below. absurd (omega (arith, below));
      first = record {
        within = lit< tt;
        before = none (IsCutAt (small_params 0) not_cut.book uncut 0);
        fails = λ same.
            let clash : 128 ≡ 64 = ap length (same ∙ cut_earlier) in
            absurd (omega (arith, clash));
      };
    };
    equals = refl;
  }))),
)

-- 64 zeros, then 8 zeros twice: the cutting of these 80 bytes has 16 zeros at place 1
abbrev long_and_short : List (List ℕ)
long_and_short = replicate 64 0 ∷ replicate 8 0 ∷ []

abbrev cut_too_often : Opened
cut_too_often = one_session long_and_short 80 (0 ∷ 1 ∷ 1 ∷ [])

cutting_of_80 : chunks_of (small_params 0) (replicate 80 0) ≡ replicate 64 0 ∷ replicate 16 0 ∷ []
unfolding count_leading_zeros next_cut cuts_within
cutting_of_80 = refl

orders_of_80 : HoldsBelow 4 (IsInOrder cut_too_often.book 0)
orders_of_80 = four (IsInOrder cut_too_often.book 0) (lit≤ tt) (lit≤ tt) (lit≤ tt) (lit≤ tt)

pub flaw-of_a_cut_at_place_1 : IsFlawOf by_first_byte (holding long_and_short) cut_too_often (Some (damage.Cut 0 1))
flaw-of_a_cut_at_place_1 = inr (
  long_and_short,
  have_them long_and_short cut_too_often refl refl,
  inr (inr (inr (record {
    named = two (IsNamed by_first_byte cut_too_often.book long_and_short) refl refl;
    different = new-different long_and_short (refl, (refl, tt));
    in_order = one (λ k. HoldsBelow (places_and_end cut_too_often.book k) (IsInOrder cut_too_often.book k)) orders_of_80;
    session = 0;
    place = 1;
    first = record {
      within = lit< tt;
      before = λ k below. absurd (omega (arith, below));
      first = record {
        within = lit< tt;
        before = one (IsCutAt (small_params 0) cut_too_often.book long_and_short 0)
            (sym (ap (λ chunks. slice_index_or chunks 0 []) cutting_of_80));
        fails = λ same.
            let clash : 8 ≡ 16 = ap length (same ∙ ap (λ chunks. slice_index_or chunks 1 []) cutting_of_80) in
            absurd (omega (arith, clash));
      };
    };
    equals = refl;
  }))),
)

-- an empty session, which is in order and cut, and a session of 3 bytes in two chunks: an input of
-- fewer bytes than the minimum is one chunk
abbrev short_cut : Opened
short_cut = store_of (
    session_as (codes "a") true [] 0 [] ∷ session_as (codes "b") true a_and_b 3 (0 ∷ 1 ∷ []) ∷ [])

short_uncut : chunks_of (small_params 0) (codes "abb") ≡ codes "abb" ∷ []
unfolding count_leading_zeros next_cut cuts_within
short_uncut = refl

orders_of_none : HoldsBelow 1 (IsInOrder short_cut.book 0)
orders_of_none = one (IsInOrder short_cut.book 0) (lit≤ tt)

orders_of_short : HoldsBelow 3 (IsInOrder short_cut.book 1)
orders_of_short = three (IsInOrder short_cut.book 1) (lit≤ tt) (lit≤ tt) (lit≤ tt)

pub flaw-of_a_cut_in_session_1 : IsFlawOf by_first_byte (holding a_and_b) short_cut (Some (damage.Cut 1 0))
flaw-of_a_cut_in_session_1 = inr (
  a_and_b,
  have_them a_and_b short_cut refl refl,
  inr (inr (inr (record {
    named = two (IsNamed by_first_byte short_cut.book a_and_b) refl refl;
    different = new-different a_and_b (refl, (refl, tt));
    in_order = two (λ k. HoldsBelow (places_and_end short_cut.book k) (IsInOrder short_cut.book k)) orders_of_none orders_of_short;
    session = 1;
    place = 0;
    first = record {
      within = lit< tt;
      before = one (λ k. HoldsBelow (places_of_session short_cut.book k) (IsCutAt (small_params 0) short_cut.book a_and_b k))
          (none (IsCutAt (small_params 0) short_cut.book a_and_b 0));
      first = record {
        within = lit< tt;
        before = none (IsCutAt (small_params 0) short_cut.book a_and_b 1);
        fails = λ same.
            let clash : 2 ≡ 3 = ap length (same ∙ ap (λ chunks. slice_index_or chunks 0 []) short_uncut) in
            absurd (omega (arith, clash));
      };
    };
    equals = refl;
  }))),
)

-- files without a session, and so without a container
abbrev no_files : File → List ℕ
no_files file = []

pub flawless-of_no_session : IsFlawOf by_first_byte no_files (store_of []) None
flawless-of_no_session = (
  [],
  record { lengths = refl; containers = λ k below. absurd (omega (arith, below)) },
  record {
    named = none (IsNamed by_first_byte (store_of []).book []);
    different = none (IsNew []);
    in_order = none (λ k. HoldsBelow (places_and_end (store_of []).book k) (IsInOrder (store_of []).book k));
    cut = none (λ k. HoldsBelow (places_of_session (store_of []).book k) (IsCutAt (small_params 0) (store_of []).book [] k));
  },
)

-- Sessions of 136 zeros, of 8 zeros, which was dropped, and of none. Both chunks have one name,
-- which is no flaw.
abbrev all_well : Opened
all_well = store_of (
    session_as (codes "a") true long_and_short 136 (0 ∷ 0 ∷ 1 ∷ [])
    ∷ session_as (codes "b") false [] 8 (1 ∷ [])
    ∷ session_as (codes "c") true [] 0 []
    ∷ [])

cutting_of_136 :
    chunks_of (small_params 0) (replicate 136 0) ≡ replicate 64 0 ∷ replicate 64 0 ∷ replicate 8 0 ∷ []
unfolding count_leading_zeros next_cut cuts_within
cutting_of_136 = refl

cutting_of_8 : chunks_of (small_params 0) (replicate 8 0) ≡ replicate 8 0 ∷ []
unfolding count_leading_zeros next_cut cuts_within
cutting_of_8 = refl

orders_of_136 : HoldsBelow 4 (IsInOrder all_well.book 0)
orders_of_136 = four (IsInOrder all_well.book 0) (lit≤ tt) (lit≤ tt) (lit≤ tt) (lit≤ tt)

orders_of_8 : HoldsBelow 2 (IsInOrder all_well.book 1)
orders_of_8 = two (IsInOrder all_well.book 1) (lit≤ tt) (lit≤ tt)

orders_of_nothing : HoldsBelow 1 (IsInOrder all_well.book 2)
orders_of_nothing = one (IsInOrder all_well.book 2) (lit≤ tt)

cuts_of_136 : HoldsBelow 3 (IsCutAt (small_params 0) all_well.book long_and_short 0)
cuts_of_136 = three (IsCutAt (small_params 0) all_well.book long_and_short 0)
    (sym (ap (λ chunks. slice_index_or chunks 0 []) cutting_of_136))
    (sym (ap (λ chunks. slice_index_or chunks 1 []) cutting_of_136))
    (sym (ap (λ chunks. slice_index_or chunks 2 []) cutting_of_136))

cuts_of_8 : HoldsBelow 1 (IsCutAt (small_params 0) all_well.book long_and_short 1)
cuts_of_8 = one (IsCutAt (small_params 0) all_well.book long_and_short 1)
    (sym (ap (λ chunks. slice_index_or chunks 0 []) cutting_of_8))

pub flawless-of_three_sessions : IsFlawOf by_first_byte (holding long_and_short) all_well None
flawless-of_three_sessions = (
  long_and_short,
  have_them long_and_short all_well refl refl,
  record {
    named = two (IsNamed by_first_byte all_well.book long_and_short) refl refl;
    different = new-different long_and_short (refl, (refl, tt));
    in_order = three (λ k. HoldsBelow (places_and_end all_well.book k) (IsInOrder all_well.book k)) orders_of_136 orders_of_8 orders_of_nothing;
    cut = three (λ k. HoldsBelow (places_of_session all_well.book k) (IsCutAt (small_params 0) all_well.book long_and_short k))
        cuts_of_136
        cuts_of_8
        (none (IsCutAt (small_params 0) all_well.book long_and_short 2));
  },
)
