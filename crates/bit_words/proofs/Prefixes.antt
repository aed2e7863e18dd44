use Rattle.std.proofs.Common.{◌≡◌, ℕ, ◌+◌, ◌<◌, List, ◌++◌, length, take, drop, get_or, refl, sym, ap, ◌∙◌, arith, append_assoc}
use Rattle.std.specs.List.{flat_map}
use Rattle.std.proofs.lemmas.List.{length-append, take-append-le, take_more, take_at, take-append-drop, flat_map_more}
use Rattle.std.proofs.lemmas.List.Concat.{flat_map-append}
use Rattle.std.proofs.Math.Seq.{take-append-add}
use Rattle.bit_words.specs.Bits.{AppendsBits}

-- a prefix of a piece is a prefix of it with another behind it
pub appends-prefix : (old new a b : List ℕ) → AppendsBits old new a → AppendsBits old new (a ++ b)
appends-prefix old new a b h = (h.0, omega (arith, h.1, length-append a b), h.2 ∙ ap (λ xs. old ++ xs) (sym (take-append-le h.0 a b h.1)))

-- and with one before it that was appended whole
pub appends-behind : (old mid new a b : List ℕ) → mid ≡ old ++ a → AppendsBits mid new b → AppendsBits old new (a ++ b)
appends-behind old mid new a b e h = (
  length a + h.0,
  omega (arith, h.1, length-append a b),
  h.2 ∙ ap (λ xs. xs ++ take h.0 b) e ∙ append_assoc old a (take h.0 b) ∙ ap (λ xs. old ++ xs) (sym (take-append-add a b h.0)),
)

-- two pieces, one behind the other, both appended whole
pub appends-both : (old mid new a b : List ℕ) → mid ≡ old ++ a → new ≡ mid ++ b → new ≡ old ++ (a ++ b)
appends-both old mid new a b e f = f ∙ ap (λ xs. xs ++ b) e ∙ append_assoc old a b

-- pieces, one for each element
pub pieces-more : {X : Type 0} (f : X → List ℕ) (old to : List ℕ) (xs : List X) (i : ℕ) (d : X) → i < length xs
    → to ≡ old ++ flat_map f (take i xs) → to ++ f (get_or xs i d) ≡ old ++ flat_map f (take (i + 1) xs)
pieces-more f old to xs i d lt e =
    ap (λ ys. ys ++ f (get_or xs i d)) e ∙ flat_map_more f old (take i xs) (get_or xs i d)
    ∙ ap (λ ys. old ++ flat_map f ys) (sym (take_more xs i d lt))

-- the pieces of the first elements are a prefix of all
pub pieces-prefix : {X : Type 0} (f : X → List ℕ) (old to : List ℕ) (xs : List X) (i : ℕ) → to ≡ old ++ flat_map f (take i xs) → AppendsBits old to (flat_map f xs)
pieces-prefix f old to xs i e =
    let prefix = flat_map f (take i xs) in
    let back = flat_map f (drop i xs) in
    let whole : flat_map f xs ≡ prefix ++ back = sym (ap (flat_map f) (take-append-drop i xs)) ∙ flat_map-append f (take i xs) (drop i xs) in (
      length prefix,
      omega (arith, ap length whole, length-append prefix back),
      e ∙ ap (λ ys. old ++ ys) (sym (ap (take (length prefix)) whole ∙ take_at prefix back (length prefix) refl)),
    )
