-- A field that is read is the field that was written, and what was written is read again.
use Rattle.std.proofs.Common.{◌≡◌, ℕ, suc, ◌+◌, ◌^◌, ◌<◌, ◌≤◌, Bool, true, false, cond, ltb, leb, List, [], ◌∷◌, ◌++◌, length, get_or, take, drop, Option, Some, None, refl, sym, ap, subst, ◌∙◌, append_assoc, arith, inl, inr}
use Rattle.std.specs.Prelude.{is_some, ◌&&◌}
use Rattle.std.specs.Int.{w32, from_be_bytes, to_be_bytes}
use Rattle.std.proofs.lemmas.Bool.{cases_lt, ltb-false, le-ltb, leb-true, le-leb, and_parts, and_from}
use Rattle.std.proofs.lemmas.List.{take_at, drop_at, take-append-drop, length-append, length-take, get_or-drop, get_or-take, get_or_past}
use Rattle.std.proofs.lemmas.Nat.{be_bytes_4, from_be_bytes-to_be_bytes_4}
use Rattle.sd_base.specs.Names.{IsName, bad_name}
use Rattle.sd_base.specs.Records.{u32_bytes, new_chunk, IsNewChunk}
use Rattle.sd_base.specs.declared.limits.TheConstants.{MAX_CHUNK_LEN}
use Rattle.sd_base.specs.declared.name.BadName.{BadName}
use Rattle.sd_base.specs.declared.record.NewChunk.{NewChunk}
use Rattle.sd_base.proofs.Names.{IsName_is_no_refusal}
use Rattle.session_book.specs.Reading.{◌>>=◌, number_at, bytes_at, checked_name, name_at, checked_chunk, chunk_at}

-- every number is that of a byte
abbrev pub IsBytes : List ℕ → Type 0
IsBytes bytes = (i : ℕ) → get_or bytes i 0 < 256

pub IsBytes-drop : (n : ℕ) (bytes : List ℕ) → IsBytes bytes → IsBytes (drop n bytes)
IsBytes-drop n bytes h i = rw get_or-drop (h (n + i))

pub IsBytes-take : (n : ℕ) (bytes : List ℕ) → IsBytes bytes → IsBytes (take n bytes)
IsBytes-take n bytes h i =
    elim (cases_lt i n) [
      | inl lt ↦ rw (get_or-take n bytes i 0 lt) (h i)
      | inr le ↦ rw (get_or_past (take n bytes) i 0 (omega (arith, length-take n bytes))) (omega arith)
    ]

pub IsBytes-rest : (b : ℕ) (bytes : List ℕ) → IsBytes (b ∷ bytes) → IsBytes bytes
IsBytes-rest b bytes h i = h (suc i)

-- the value of a step that found one
pub bind_some : {A B : Type 0} (r : Option A) (f : A → Option B) (y : B) → (r >>= f) ≡ Some y → (x : A) × (r ≡ Some x) × (f x ≡ Some y)
bind_some (Some x) f y e = (x, refl, e)
bind_some None f y e = absurd cc

abbrev just : {A : Type 0} → A → Option A
just x = Some x

pub some_is : {A : Type 0} (x y : A) → just x ≡ just y → x ≡ y
some_is x y e = cc

-- a value that a test let through
pub unless_some : {A : Type 0} (b : Bool) (x y : A) → cond b None (Some x) ≡ just y → (b ≡ false) × (x ≡ y)
unless_some true x y e = absurd cc
unless_some false x y e = (refl, cc)

pub when_some : {A : Type 0} (b : Bool) (r : Option A) (y : A) → cond b r None ≡ Some y → (b ≡ true) × (r ≡ Some y)
when_some true r y e = (refl, e)
when_some false r y e = absurd cc

none_from_is_some : {A : Type 0} (o : Option A) → is_some o ≡ false → o ≡ None
none_from_is_some None _ = refl
none_from_is_some (Some x) h = absurd cc

-- bytes begin with a text, and only bytes follow it
pub record StartsWith (bytes text rest : List ℕ) : Type 0 where
  pub parts : bytes ≡ text ++ rest
  pub rest_fits : IsBytes rest

pub StartsWith-then : (a x b y c : List ℕ) → StartsWith a x b → StartsWith b y c → StartsWith a (x ++ y) c
StartsWith-then a x b y c p q = record { parts = p.parts ∙ ap (λ (t : List ℕ). x ++ t) q.parts ∙ sym (append_assoc x y c); rest_fits = q.rest_fits }

-- a reader, and how what it reads is spelled
pub record IsReader {A : Type 0} (item : List ℕ → Option (A × List ℕ)) (spell : A → List ℕ) (Fits : A → Type 0) : Type 0 where
  pub takes : (bytes : List ℕ) (x : A × List ℕ) → IsBytes bytes → item bytes ≡ Some x → StartsWith bytes (spell x.0) x.1 × Fits x.0
  pub again : (n : A) (rest : List ℕ) → Fits n → item (spell n ++ rest) ≡ Some (n, rest)

-- ---- numbers

number_takes : (bytes : List ℕ) (x : ℕ × List ℕ) → IsBytes bytes → number_at bytes ≡ Some x → StartsWith bytes (u32_bytes x.0) x.1 × (x.0 < 2 ^ 32)
number_takes bytes x fits e =
    let g = unless_some (ltb (length bytes) 4) (from_be_bytes w32 (take 4 bytes), drop 4 bytes) x e in
    let long : 4 ≤ length bytes = ltb-false _ _ g.0 in
    let front = IsBytes-take 4 bytes fits in
    let spelled : to_be_bytes w32 (from_be_bytes w32 (take 4 bytes)) ≡ take 4 bytes = be_bytes_4 (take 4 bytes) _ (omega (arith, length-take 4 bytes)) front refl in
    let below : from_be_bytes w32 (take 4 bytes) < 2 ^ 32 = omega (arith, front 0, front 1, front 2, front 3) in
    let parts : bytes ≡ u32_bytes (from_be_bytes w32 (take 4 bytes)) ++ drop 4 bytes = sym (ap (λ (t : List ℕ). t ++ drop 4 bytes) spelled ∙ take-append-drop 4 bytes) in
    subst (λ (p : ℕ × List ℕ). StartsWith bytes (u32_bytes p.0) p.1 × (p.0 < 2 ^ 32)) g.1 (record { parts = parts; rest_fits = IsBytes-drop 4 bytes fits }, below)

number_again : (n : ℕ) (rest : List ℕ) → n < 2 ^ 32 → number_at (u32_bytes n ++ rest) ≡ Some (n, rest)
number_again n rest lt =
    let long : ltb (length (u32_bytes n ++ rest)) 4 ≡ false = le-ltb _ _ (omega (arith, length-append (u32_bytes n) rest)) in
    rw long (ap (λ (k : ℕ). just (k, rest)) (from_be_bytes-to_be_bytes_4 n lt))

pub number_reader : IsReader number_at u32_bytes (λ n. n < 2 ^ 32)
number_reader = record { takes = number_takes; again = number_again }

-- ---- bytes

pub bytes_take : (n : ℕ) (bytes : List ℕ) (x : List ℕ × List ℕ) → IsBytes bytes → bytes_at n bytes ≡ Some x → StartsWith bytes x.0 x.1 × (length x.0 ≡ n) × IsBytes x.0
bytes_take n bytes x fits e =
    let g = unless_some (ltb (length bytes) n) (take n bytes, drop n bytes) x e in
    let long : n ≤ length bytes = ltb-false _ _ g.0 in
    subst (λ (p : List ℕ × List ℕ). StartsWith bytes p.0 p.1 × (length p.0 ≡ n) × IsBytes p.0) g.1 (record { parts = sym (take-append-drop n bytes); rest_fits = IsBytes-drop n bytes fits }, omega (arith, length-take n bytes), IsBytes-take n bytes fits)

pub bytes_again : (n : ℕ) (text rest : List ℕ) → length text ≡ n → bytes_at n (text ++ rest) ≡ Some (text, rest)
bytes_again n text rest len =
    let long : ltb (length (text ++ rest)) n ≡ false = le-ltb _ _ (omega (arith, length-append text rest)) in
    rw (long, take_at text rest n len, drop_at text rest n len) refl

-- ---- names of sessions

name_takes : (bytes : List ℕ) (x : List ℕ × List ℕ) → IsBytes bytes → name_at bytes ≡ Some x → StartsWith bytes (length x.0 ∷ x.0) x.1 × IsName x.0
unfolding name_at
name_takes [] x fits e = absurd cc
name_takes (n ∷ bytes) x fits e =
    let b = bind_some (bytes_at n bytes) checked_name x e in
    let t = bytes_take n bytes b.0 (IsBytes-rest n bytes fits) b.1 in
    let g = unless_some (is_some (bad_name b.0.0)) b.0 x b.2 in
    let lawful : IsName b.0.0 = (IsName_is_no_refusal b.0.0).1 (none_from_is_some (bad_name b.0.0) g.0) in
    let parts : (n ∷ bytes) ≡ (length b.0.0 ∷ b.0.0) ++ b.0.1 = rw t.1 (ap (λ (w : List ℕ). n ∷ w) t.0.parts) in
    subst (λ (p : List ℕ × List ℕ). StartsWith (n ∷ bytes) (length p.0 ∷ p.0) p.1 × IsName p.0) g.1 (record { parts = parts; rest_fits = t.0.rest_fits }, lawful)

name_again : (name rest : List ℕ) → IsName name → name_at ((length name ∷ name) ++ rest) ≡ Some (name, rest)
unfolding name_at
name_again name rest lawful =
    let none : bad_name name ≡ None = (IsName_is_no_refusal name).0 lawful in
    rw (bytes_again (length name) name rest refl) (ap (λ (o : Option BadName). cond (is_some o) None (just (name, rest))) none)

pub name_reader : IsReader name_at (λ name. length name ∷ name) IsName
name_reader = record { takes = name_takes; again = name_again }

-- ---- new chunks

chunk_takes : (bytes : List ℕ) (x : NewChunk × List ℕ) → IsBytes bytes → chunk_at bytes ≡ Some x → StartsWith bytes (new_chunk x.0) x.1 × IsNewChunk x.0
unfolding chunk_at
chunk_takes bytes x fits e =
    let a = bind_some (number_at bytes) (λ size. bytes_at 32 size.1 >>= λ name. checked_chunk (record { length = size.0; name = name.0 }, name.1)) x e in
    let b = bind_some (bytes_at 32 a.0.1) (λ name. checked_chunk (record { length = a.0.0; name = name.0 }, name.1)) x a.2 in
    let made : NewChunk × List ℕ = (record { length = a.0.0; name = b.0.0 }, b.0.1) in
    let g = when_some (leb 1 a.0.0 && leb a.0.0 MAX_CHUNK_LEN) (Some made) x b.2 in
    let tests = and_parts (leb 1 a.0.0) (leb a.0.0 MAX_CHUNK_LEN) g.0 in
    let t0 = number_takes bytes a.0 fits a.1 in
    let t1 = bytes_take 32 a.0.1 b.0 t0.0.rest_fits b.1 in
    let both = StartsWith-then bytes (u32_bytes a.0.0) a.0.1 b.0.0 b.0.1 t0.0 t1.0 in
    subst (λ (p : NewChunk × List ℕ). StartsWith bytes (new_chunk p.0) p.1 × IsNewChunk p.0) (some_is made x g.1) (both, record { size = (leb-true _ _ tests.0, leb-true _ _ tests.1); name = t1.1 })

chunk_again : (chunk : NewChunk) (rest : List ℕ) → IsNewChunk chunk → chunk_at (new_chunk chunk ++ rest) ≡ Some (chunk, rest)
unfolding chunk_at
chunk_again chunk rest fits =
    let lt : chunk.length < 2 ^ 32 = omega (arith, fits.size) in
    let tests : (leb 1 chunk.length && leb chunk.length MAX_CHUNK_LEN) ≡ true = and_from _ _ (le-leb _ _ fits.size.0) (le-leb _ _ fits.size.1) in
    ap chunk_at (append_assoc (u32_bytes chunk.length) chunk.name rest) ∙ rw (number_again chunk.length (chunk.name ++ rest) lt, bytes_again 32 chunk.name rest fits.name, tests) refl

pub chunk_reader : IsReader chunk_at new_chunk IsNewChunk
chunk_reader = record { takes = chunk_takes; again = chunk_again }
