-- Lemmas on texts that are written from their end on.
use Rattle.std.proofs.Common.{◌≡◌, refl, sym, ap, ◌∙◌, ℕ, ◌+◌, ◌*◌, ◌^◌, ◌<◌, ◌≤◌, List, ◌∷◌, ◌++◌, [], length, get_or, take, drop, decimal, append_assoc, add-one, suc-mul, drop-cons, arith}
use Rattle.std.specs.List.{flat_map}
use Rattle.std.proofs.lemmas.Fmt.{length-decimal-le}
use Rattle.std.proofs.lemmas.Grind.{flat_map-append}
use Rattle.std.proofs.lemmas.List.{drop_all, take-append-drop}
use Rattle.std.proofs.lemmas.List.Concat.{flat_map-cons}

-- how many digits a number of 64 bits has, and one of 32
pub digits-of_64 : (n : ℕ) → n < 2 ^ 64 → length (decimal n) ≤ 20
digits-of_64 n fits = length-decimal-le 20 n (omega arith) (omega arith) fits

pub digits-of_32 : (n : ℕ) → n < 2 ^ 32 → length (decimal n) ≤ 10
digits-of_32 n fits = length-decimal-le 10 n (omega arith) (omega arith) (omega arith)

-- the room for so many, and for one less
pub one-less : (i left each : ℕ) → i + 1 ≡ left → left * each ≡ i * each + each
one-less i left each is = ap (λ (n : ℕ). n * each) (sym is ∙ add-one i) ∙ suc-mul i each

-- one element more, before those that were written
pub written-more : {A : Type 0} (f : A → List ℕ) (xs : List A) (d : A) (i left : ℕ) (new rest tail : List ℕ) → i + 1 ≡ left → i < length xs → new ≡ f (get_or xs i d) ++ rest → rest ≡ flat_map f (drop left xs) ++ tail → new ≡ flat_map f (drop i xs) ++ tail
written-more {A} f xs d i left new rest tail next within is so_far =
    let x : A = get_or xs i d in
    let later : drop (i + 1) xs ≡ drop left xs = ap (λ (n : ℕ). drop n xs) next in
    let split : drop i xs ≡ x ∷ drop (i + 1) xs = rw (add-one, drop-cons xs i d) refl in
    let whole : flat_map f (drop i xs) ≡ f x ++ flat_map f (drop left xs) = ap (flat_map f) (split ∙ ap (λ (l : List A). x ∷ l) later) ∙ flat_map-cons f x (drop left xs) in
    is ∙ ap (λ (r : List ℕ). f x ++ r) so_far ∙ sym (append_assoc (f x) (flat_map f (drop left xs)) tail) ∙ ap (λ (l : List ℕ). l ++ tail) (sym whole)

-- before the first one nothing is written
pub written-none : {A : Type 0} (f : A → List ℕ) (xs : List A) (room : List ℕ) → drop (length room) room ≡ flat_map f (drop (length xs) xs) ++ []
written-none {A} f xs room = drop_all (length room) room (omega arith) ∙ sym (ap (λ (l : List A). flat_map f l ++ []) (drop_all (length xs) xs (omega arith)))

-- a group more, behind those that were written
pub group-more : {A : Type 0} (f : A → List ℕ) (m : ℕ) (rest : List A) (old new part whole : List ℕ) → old ++ flat_map f rest ≡ whole → new ≡ old ++ part → part ≡ flat_map f (take m rest) → new ++ flat_map f (drop m rest) ≡ whole
group-more {A} f m rest old new part whole so_far is written =
    ap (λ (l : List ℕ). l ++ flat_map f (drop m rest)) (is ∙ ap (λ (l : List ℕ). old ++ l) written)
    ∙ append_assoc old (flat_map f (take m rest)) (flat_map f (drop m rest))
    ∙ ap (λ (l : List ℕ). old ++ l) (sym (flat_map-append f (take m rest) (drop m rest)) ∙ ap (flat_map f) (take-append-drop m rest))
    ∙ so_far
