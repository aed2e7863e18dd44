use Rattle.std.proofs.Common.{◌≡◌, ℕ, zero, suc, ◌+◌, ◌<◌, ◌≤◌, List, [], ◌∷◌, ◌++◌, length, take, drop, replicate, get_or, sym, ap, subst, ◌∙◌, arith, append_assoc}
use Rattle.std.proofs.lemmas.List.{append-nil, length-append, length-take, replicate_more, take_more, take_all, take-append-drop}
use Rattle.bit_words.specs.Bits.{AppendsBits, one_after}
use Rattle.bit_words.proofs.Prefixes.{appends-prefix, appends-behind}

-- bits that are 0 are zeros
zeros-behind : (bits : List ℕ) (p gap : ℕ) → p + gap ≤ length bits → ((q : ℕ) → p ≤ q → q < p + gap → get_or bits q 0 ≡ 0)
    → take p bits ++ replicate gap 0 ≡ take (p + gap) bits
zeros-behind bits p zero fit clear = append-nil (take p bits) ∙ ap (λ n. take n bits) (let e : p ≡ p + 0 = omega arith in e)
zeros-behind bits p (suc g) fit clear =
    let prefix : List ℕ = take p bits in
    let zeros : List ℕ = replicate g 0 in
    let more : replicate {A = ℕ} (suc g) 0 ≡ zeros ++ 0 ∷ [] = ap (λ n. replicate {A = ℕ} n 0) (let e : suc g ≡ g + 1 = omega arith in e) ∙ sym (replicate_more {X = ℕ} g 0) in
    let before : prefix ++ zeros ≡ take (p + g) bits = zeros-behind bits p g (omega arith) (λ q h lt. clear q h (omega arith)) in
    ap (λ xs. prefix ++ xs) more ∙ sym (append_assoc prefix zeros (0 ∷ [])) ∙ ap (λ xs. xs ++ 0 ∷ []) before
    ∙ ap (λ b. take (p + g) bits ++ b ∷ []) (sym (clear (p + g) (omega arith) (omega arith)))
    ∙ sym (take_more bits (p + g) 0 (omega arith))
    ∙ ap (λ n. take n bits) (let e : p + g + 1 ≡ p + suc g = omega arith in e)

-- Behind the bits before one place stands, as far as another, nothing but a one at that other.
pub record IsOneNext (bits : List ℕ) (p gap : ℕ) : Type 0 where
  pub within : p + gap < length bits
  pub clear : (q : ℕ) → p ≤ q → q < p + gap → get_or bits q 0 ≡ 0
  pub one : get_or bits (p + gap) 0 ≡ 1

next-one : (bits : List ℕ) (p gap : ℕ) → IsOneNext bits p gap → take p bits ++ one_after gap ≡ take (p + gap + 1) bits
next-one bits p gap h =
    sym (append_assoc (take p bits) (replicate gap 0) (1 ∷ []))
    ∙ ap (λ xs. xs ++ 1 ∷ []) (zeros-behind bits p gap (omega (arith, h.within)) h.clear)
    ∙ ap (λ b. take (p + gap) bits ++ b ∷ []) (sym h.one)
    ∙ sym (take_more bits (p + gap) 0 h.within)

-- bits that are written one after one
pub ones-more : (old to new bits : List ℕ) (p gap : ℕ) → IsOneNext bits p gap → to ≡ old ++ take p bits → new ≡ to ++ one_after gap → new ≡ old ++ take (p + gap + 1) bits
ones-more old to new bits p gap h e step =
    step ∙ ap (λ xs. xs ++ one_after gap) e ∙ append_assoc old (take p bits) (one_after gap) ∙ ap (λ xs. old ++ xs) (next-one bits p gap h)

pub ones-prefix : (old to new bits : List ℕ) (p gap : ℕ) → IsOneNext bits p gap → to ≡ old ++ take p bits → AppendsBits to new (one_after gap) → AppendsBits old new bits
ones-prefix old to new bits p gap h e prefix =
    let end : ℕ = p + gap + 1 in
    let whole : (take p bits ++ one_after gap) ++ drop end bits ≡ bits = ap (λ xs. xs ++ drop end bits) (next-one bits p gap h) ∙ take-append-drop end bits in
    subst (λ xs. AppendsBits old new xs) whole
    (appends-prefix old new (take p bits ++ one_after gap) (drop end bits) (appends-behind old to new (take p bits) (one_after gap) e prefix))

pub ones-room : (old to bits : List ℕ) (p gap most : ℕ) → IsOneNext bits p gap → to ≡ old ++ take p bits → length old + length bits < most → length to + gap + 1 < most
ones-room old to bits p gap most h e room = omega (arith, h.within, ap length e, length-append old (take p bits), length-take p bits)

pub ones-all : (old to bits : List ℕ) (p : ℕ) → p ≡ length bits → to ≡ old ++ take p bits → to ≡ old ++ bits
ones-all old to bits p all e = e ∙ ap (λ xs. old ++ xs) (take_all p bits (omega arith))
