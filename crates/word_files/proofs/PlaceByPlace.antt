-- How bytes are given place by place: those of each number of a sequence, or of each list.
use Rattle.std.proofs.Common.{◌≡◌, refl, sym, ap, ◌∙◌, subst, ℕ, ◌+◌, ◌<◌, ◌≤◌, List, [], ◌∷◌, ◌++◌, length, take, drop, get_or, flat_map, Ok, Err, append_assoc, append-nil}
use Rattle.std.proofs.lemmas.List.{take_all, take_more, take-append-drop}
use Rattle.std.proofs.lemmas.List.Concat.{flat_map-append}
use Rattle.collection_model.specs.Bytes.{le32, number_sequence}
use Rattle.collection_model.specs.Spelling.{head_bytes}
use Rattle.io_traits.specs.declared.fail.IoFail.{IoFail}
use Rattle.io_traits.specs.DepotState.{DepotState}
use Rattle.word_files.specs.Given.{Gives}
use Rattle.word_files.proofs.Given.{none-given, given-then, given-refused}

-- what comes first, and then what is given of the places before one
abbrev pub before : {A : Type 0} → List ℕ → (A → List ℕ) → List A → ℕ → List ℕ
before first f xs p = first ++ flat_map f (take p xs)

-- that of one place more
one-more : {A : Type 0} (f : A → List ℕ) (xs : List A) (p : ℕ) (d : A) → p < length xs → flat_map f (take (p + 1) xs) ≡ flat_map f (take p xs) ++ f (get_or xs p d)
one-more f xs p d lt =
    ap (flat_map f) (take_more xs p d lt) ∙ flat_map-append f (take p xs) (get_or xs p d ∷ []) ∙ ap (λ bs. flat_map f (take p xs) ++ bs) (append-nil (f (get_or xs p d)))

-- and that of all behind it
one-place : {A : Type 0} (f : A → List ℕ) (xs : List A) (p : ℕ) (d : A) → p < length xs
    → flat_map f xs ≡ flat_map f (take p xs) ++ (f (get_or xs p d) ++ flat_map f (drop (p + 1) xs))
one-place f xs p d lt =
    ap (flat_map f) (sym (take-append-drop (p + 1) xs))
    ∙ flat_map-append f (take (p + 1) xs) (drop (p + 1) xs)
    ∙ ap (λ bs. bs ++ flat_map f (drop (p + 1) xs)) (one-more f xs p d lt)
    ∙ append_assoc (flat_map f (take p xs)) (f (get_or xs p d)) (flat_map f (drop (p + 1) xs))

-- what comes first is refused
pub front-refused : (all ys zs h k m : List ℕ) (e : IoFail) (a b : DepotState) → all ≡ ys ++ zs → Gives ys h k a b (Err e) → Gives all h m a b (Err e)
front-refused all ys zs h k m e a b is v = given-refused all [] ys zs h h k m e a a b is (none-given h a) v

-- before the first place
pub first-given : {A : Type 0} (f : A → List ℕ) (xs : List A) (first h k : List ℕ) (p : ℕ) (a b : DepotState) → p ≡ 0 → Gives first h k a b (Ok tt) → Gives (before first f xs p) h k a b (Ok tt)
first-given f xs first h k p a b at v =
    let P : List ℕ → Type 0 = λ bs. Gives bs h k a b (Ok tt) in
    subst P (sym (ap (before first f xs) at ∙ append-nil first)) v

-- behind a place
pub more-given : {A : Type 0} (f : A → List ℕ) (xs : List A) (first piece h k l : List ℕ) (p next : ℕ) (d : A) (a b c : DepotState) → p < length xs → next ≡ p + 1 → piece ≡ f (get_or xs p d)
    → Gives (before first f xs p) h k a b (Ok tt) → Gives piece k l b c (Ok tt) → Gives (before first f xs next) h l a c (Ok tt)
more-given f xs first piece h k l p next d a b c lt on is v w =
    let P : List ℕ → Type 0 = λ bs. Gives bs h l a c (Ok tt) in
    subst P
    (append_assoc first (flat_map f (take p xs)) piece ∙ ap (λ bs. first ++ (flat_map f (take p xs) ++ bs)) is ∙ ap (λ bs. first ++ bs) (sym (one-more f xs p d lt)) ∙ sym (ap (before first f xs) on))
    (given-then (before first f xs p) piece h k l a b c v w)

-- a place is refused
pub place-refused : {A : Type 0} (f : A → List ℕ) (xs : List A) (first piece h k l m : List ℕ) (p : ℕ) (d : A) (e : IoFail) (a b c : DepotState) → p < length xs → piece ≡ f (get_or xs p d)
    → Gives (before first f xs p) h k a b (Ok tt) → Gives piece k l b c (Err e) → Gives (first ++ flat_map f xs) h m a c (Err e)
place-refused f xs first piece h k l m p d e a b c lt is v w =
    given-refused (first ++ flat_map f xs) (before first f xs p) piece (flat_map f (drop (p + 1) xs)) h k l m e a b c
    (ap (λ bs. first ++ bs) (one-place f xs p d lt)
    ∙ sym (append_assoc first (flat_map f (take p xs)) (f (get_or xs p d) ++ flat_map f (drop (p + 1) xs)))
    ∙ ap (λ bs. before first f xs p ++ (bs ++ flat_map f (drop (p + 1) xs))) (sym is))
    v w

-- behind the last place
pub all-given : {A : Type 0} (f : A → List ℕ) (xs : List A) (first h k : List ℕ) (p : ℕ) (a b : DepotState) → length xs ≤ p → Gives (before first f xs p) h k a b (Ok tt) → Gives (first ++ flat_map f xs) h k a b (Ok tt)
all-given f xs first h k p a b past v =
    let P : List ℕ → Type 0 = λ bs. Gives bs h k a b (Ok tt) in
    subst P (ap (λ ys. first ++ flat_map f ys) (take_all p xs past)) v

-- how many numbers there are comes first
pub number-counted : (xs : List ℕ) (m n : ℕ) → length xs ≡ m → n ≡ m → number_sequence xs ≡ le32 n ++ flat_map le32 xs
number-counted xs m n count is = ap (λ k. le32 k ++ flat_map le32 xs) (count ∙ sym is)

-- ---- the files

-- the head of the file of documents
pub head-given : (n m : ℕ) (h k l : List ℕ) (a b c : DepotState) → m ≡ n → Gives (le32 1) h k a b (Ok tt) → Gives (le32 m) k l b c (Ok tt) → Gives (head_bytes n) h l a c (Ok tt)
head-given n m h k l a b c is v w =
    let P : ℕ → Type 0 = λ x. Gives (head_bytes x) h l a c (Ok tt) in
    subst P is (given-then (le32 1) (le32 m) h k l a b c v w)

-- its second number is refused
pub head-refused : (rest : List ℕ) (n m : ℕ) (h k l j : List ℕ) (e : IoFail) (a b c : DepotState) → m ≡ n → Gives (le32 1) h k a b (Ok tt) → Gives (le32 m) k l b c (Err e)
    → Gives (head_bytes n ++ rest) h j a c (Err e)
head-refused rest n m h k l j e a b c is v w =
    let P : ℕ → Type 0 = λ x. Gives (head_bytes x ++ rest) h j a c (Err e) in
    subst P is (given-refused (head_bytes m ++ rest) (le32 1) (le32 m) rest h k l j e a b c refl v w)
