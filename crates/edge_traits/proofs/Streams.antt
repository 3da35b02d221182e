-- Bytes that are taken from a source or written to a sink, call after call.
use Rattle.std.proofs.Common.{◌≡◌, ℕ, ◌+◌, ◌-◌, ◌<◌, List, [], ◌++◌, length, take, drop, sym, ◌∙◌, ap, append_assoc, subst, arith, min, take-append-drop}
use Rattle.std.specs.Prelude.{◌≤◌, Option, Some, None, IfSome, option_map}
use Rattle.std.proofs.lemmas.List.{append-nil, drop-drop, length-append, nil_from_length, take_rest}
use Rattle.std.proofs.Math.Seq.{drop-append_seam, take-add}
use Rattle.std.specs.Io.KnownBytes as known
use Rattle.std.proofs.KnownBytes.{Appends-trans, Consumes-trans}
use Rattle.edge_traits.specs.Sink.{Appends}
use Rattle.edge_traits.specs.Source.{Consumes, IsAtEnd, LosesAtMost}

-- two pieces are appended in turn
pub appends_on : (a b c : Option (List ℕ)) (x y : List ℕ) → Appends a b x → Appends b c y → Appends a c (x ++ y)
appends_on None b c x y p q = q ∙ ap (λ (o : Option (List ℕ)). option_map (λ had. had ++ y) o) p
appends_on (Some had) b c x y p q = q ∙ ap (λ (o : Option (List ℕ)). option_map (λ had. had ++ y) o) p ∙ ap Some (append_assoc had x y)

-- two parts of one piece are appended in turn
pub appends_more : (a b c : Option (List ℕ)) (n k : ℕ) (piece : List ℕ) → Appends a b (take n piece) → Appends b c (take k (take (length piece - n) (drop n piece))) → Appends a c (take (n + k) piece)
appends_more a b c n k piece p q =
    let rest : Appends b c (take k (drop n piece)) = subst (λ (l : List ℕ). Appends b c (take k l)) (take_rest piece n) q in
    rw (take-add n k piece) (appends_on a b c (take n piece) (take k (drop n piece)) p rest)

-- two pieces are taken in turn
pub consumes_on : (a b c : Option (List ℕ)) (x y : List ℕ) → Consumes a b x → Consumes b c y → Consumes a c (x ++ y)
consumes_on a b None x y p q = p ∙ ap (λ (o : Option (List ℕ)). option_map (λ rest. x ++ rest) o) q
consumes_on a b (Some rest) x y p q = p ∙ ap (λ (o : Option (List ℕ)). option_map (λ rest. x ++ rest) o) q ∙ ap Some (sym (append_assoc x y rest))

-- a call that puts bytes after the front of a buffer keeps this front
pub consumes_more : (a b c : Option (List ℕ)) (n k : ℕ) (before after : List ℕ) → take n after ≡ take n before → Consumes a b (take n before) → Consumes b c (take k (drop n after)) → Consumes a c (take (n + k) after)
consumes_more a b c n k before after kept p q =
    let first : Consumes a b (take n after) = subst (λ (l : List ℕ). Consumes a b l) (sym kept) p in
    rw (take-add n k after) (consumes_on a b c (take n after) (take k (drop n after)) first q)

-- a read takes the front of what is left
pub front_given : (bytes all into : List ℕ) (at k : ℕ) → all ≡ bytes → take k into ≡ take k (take (length all - at) (drop at all)) → drop at bytes ≡ take k into ++ drop (at + k) bytes
front_given bytes all into at k same given =
    let here : take k into ≡ take k (take (length bytes - at) (drop at bytes)) =
    given ∙ ap (λ (l : List ℕ). take k (take (length l - at) (drop at l))) same in
    let front : take k into ≡ take k (drop at bytes) = here ∙ ap (λ (l : List ℕ). take k l) (take_rest bytes at) in
    sym (ap (λ (l : List ℕ). l ++ drop (at + k) bytes) front ∙ ap (λ (l : List ℕ). take k (drop at bytes) ++ l) (sym (drop-drop k at bytes)) ∙ take-append-drop k (drop at bytes))

-- nothing is left if there was room and no byte was taken
pub none_left : (bytes all : List ℕ) (at room k : ℕ) → all ≡ bytes → k ≡ min (length (take (length all - at) (drop at all))) room → 0 < room → k ≡ 0 → drop at bytes ≡ []
none_left bytes all at room k same count some none =
    nil_from_length (drop at bytes)
    (omega (arith, count, none, some, ap length (take_rest all at), ap (λ (l : List ℕ). length (drop at l)) same))

-- two parts of one piece are written in turn to a writer of std
pub writes_more : (a b c : Option (List ℕ)) (n k : ℕ) (piece : List ℕ) → known.Appends a b (take n piece) → known.Appends b c (take k (take (length piece - n) (drop n piece))) → known.Appends a c (take (n + k) piece)
writes_more a b c n k piece p q =
    let rest : known.Appends b c (take k (drop n piece)) = subst (λ (l : List ℕ). known.Appends b c (take k l)) (take_rest piece n) q in
    rw (take-add n k piece) (Appends-trans a b c (take n piece) (take k (drop n piece)) p rest)

-- a read of a reader of std that puts bytes after the front of a piece keeps this front
pub reads_more : (a b c : Option (List ℕ)) (n k : ℕ) (before after : List ℕ) → take n after ≡ take n before → known.Consumes a b (take n before) → known.Consumes b c (take k (drop n after)) → known.Consumes a c (take (n + k) after)
reads_more a b c n k before after kept p q =
    let first : known.Consumes a b (take n after) = subst (λ (l : List ℕ). known.Consumes a b l) (sym kept) p in
    rw (take-add n k after) (Consumes-trans a b c (take n after) (take k (drop n after)) first q)

-- the bytes that were taken are gone
pub gone : (before after : Option (List ℕ)) (front : List ℕ) → Consumes before after front → after ≡ option_map (λ rest. drop (length front) rest) before
gone before None front taken = sym (ap (λ (o : Option (List ℕ)). option_map (λ rest. drop (length front) rest) o) taken)
gone before (Some rest) front taken =
    sym (ap (λ (o : Option (List ℕ)). option_map (λ had. drop (length front) had) o) taken ∙ ap Some (drop-append_seam front rest))

pub lost : (most : ℕ) (before after : Option (List ℕ)) (front : List ℕ) → length front ≤ most → Consumes before after front → LosesAtMost most before after
lost most before after front few taken = (length front, few, gone before after front taken)

-- a source from which so many bytes were taken had them
pub longer : (limit : ℕ) (before after : Option (List ℕ)) (front : List ℕ) → limit < length front → Consumes before after front → IfSome before (λ bytes. limit < length bytes)
longer limit None after front many taken = tt
longer limit (Some bytes) None front many taken = absurd cc
longer limit (Some bytes) (Some rest) front many taken =
    let is : bytes ≡ front ++ rest = cc in omega (arith, many, ap length is, length-append front rest)

-- all bytes were taken if nothing is left
pub all_taken : (before after : Option (List ℕ)) (front : List ℕ) → IsAtEnd after → Consumes before after front → IfSome before (λ bytes. front ≡ bytes)
all_taken None after front ended taken = tt
all_taken (Some bytes) None front ended taken = absurd cc
all_taken (Some bytes) (Some rest) front ended taken =
    let is : bytes ≡ front ++ rest = cc in sym (is ∙ ap (λ r. front ++ r) ended ∙ append-nil front)

pub all_few : (limit : ℕ) (before : Option (List ℕ)) (front : List ℕ) → length front ≤ limit → IfSome before (λ bytes. front ≡ bytes) → IfSome before (λ bytes. length bytes ≤ limit)
all_few limit None front few are = tt
all_few limit (Some bytes) front few are = subst (λ (l : List ℕ). length l ≤ limit) are few

-- a read at the end leaves nothing of what there was
pub ends : (before mid after : Option (List ℕ)) (front : List ℕ) → IsAtEnd mid → Consumes before mid front → Consumes mid after [] → after ≡ option_map (λ _. []) before
ends before None None front ended taken none = sym (ap (λ (o : Option (List ℕ)). option_map (λ _. []) o) taken)
ends before None (Some r) front ended taken none = absurd cc
ends before (Some rest) None front ended taken none = absurd cc
ends before (Some rest) (Some r) front ended taken none =
    let same : rest ≡ r = cc in
    let empty : r ≡ [] = sym same ∙ ended in
    ap Some empty ∙ sym (ap (λ (o : Option (List ℕ)). option_map (λ _. []) o) taken)
