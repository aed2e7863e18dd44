use Rattle.std.proofs.Common.{◌≡◌, ℕ, zero, suc, ◌+◌, ◌*◌, ◌^◌, ◌%◌, ◌<◌, ◌≤◌, List, [], ◌∷◌, ◌++◌, length, take, drop, get_or, refl, sym, ap, ◌∙◌, subst, arith}
use Rattle.std.specs.List.{flat_map}
use Rattle.std.proofs.lemmas.List.{length-append, length-take, length-drop, take-take, take_at, drop_at, drop-drop, drop-take, take-append-drop, get_or-take, get_or-drop, ext_get_or}
use Rattle.std.proofs.lemmas.Nat.{pow_pos, mod_below}
use Rattle.std.proofs.Math.Nat.{mod-mod}
use Rattle.bit_words.specs.Bits.{field_bits, bits_value, field_at}
use Rattle.bit_words.proofs.Value.{EachBit, value-field_bits, value-take, bits-take, bits-drop, bits-field_bits, length-field_bits, same_bits}

-- These bits stand at a place of others.
abbrev pub StandAt : List ℕ → ℕ → List ℕ → Type 0
StandAt bits at piece = take (length piece) (drop at bits) ≡ piece

-- two pieces, one behind the other
pub stands-first : (bits : List ℕ) (at : ℕ) (a b : List ℕ) → StandAt bits at (a ++ b) → StandAt bits at a
stands-first bits at a b h =
    sym (take-take (length a) (length (a ++ b)) (drop at bits) (omega (arith, length-append a b)))
    ∙ ap (take (length a)) h ∙ take_at a b (length a) refl

pub stands-second : (bits : List ℕ) (at : ℕ) (a b : List ℕ) → StandAt bits at (a ++ b) → StandAt bits (at + length a) b
stands-second bits at a b h =
    ap (take (length b)) (sym (drop-drop (length a) at bits))
    ∙ sym (drop-take (length a) (length b) (drop at bits))
    ∙ ap (λ n. drop (length a) (take n (drop at bits))) (sym (length-append a b))
    ∙ ap (drop (length a)) h ∙ drop_at a b (length a) refl

pub stands-both : (bits : List ℕ) (at : ℕ) (a b : List ℕ) → StandAt bits at a → StandAt bits (at + length a) b → StandAt bits at (a ++ b)
stands-both bits at a b h k =
    let whole : List ℕ = take (length a + length b) (drop at bits) in
    let prefix : take (length a) whole ≡ a = take-take (length a) (length a + length b) (drop at bits) (omega arith) ∙ h in
    let back : drop (length a) whole ≡ b = drop-take (length a) (length b) (drop at bits) ∙ ap (take (length b)) (drop-drop (length a) at bits) ∙ k in
    ap (λ n. take n (drop at bits)) (length-append a b)
    ∙ sym (take-append-drop (length a) whole)
    ∙ ap (λ xs. xs ++ drop (length a) whole) prefix ∙ ap (λ xs. a ++ xs) back

-- a piece with others before and behind it
pub stands-between : (before piece behind : List ℕ) (at : ℕ) → length before ≡ at → StandAt (before ++ (piece ++ behind)) at piece
stands-between before piece behind at e = ap (take (length piece)) (drop_at before (piece ++ behind) at e) ∙ take_at piece behind (length piece) refl

-- a bit of a piece
pub stands-at : (bits : List ℕ) (at : ℕ) (piece : List ℕ) (i : ℕ) → StandAt bits at piece → i < length piece → get_or bits (at + i) 0 ≡ get_or piece i 0
stands-at bits at piece i h lt =
    sym (get_or-drop at bits i 0) ∙ sym (get_or-take (length piece) (drop at bits) i 0 lt) ∙ ap (λ xs. get_or xs i 0) h

pub stands-from : (bits : List ℕ) (at : ℕ) (piece : List ℕ) → at + length piece ≤ length bits
    → ((i : ℕ) → i < length piece → get_or bits (at + i) 0 ≡ get_or piece i 0) → StandAt bits at piece
stands-from bits at piece fit same =
    let count : length (take (length piece) (drop at bits)) ≡ length piece = omega (arith, length-take (length piece) (drop at bits), length-drop at bits) in
    ext_get_or 0 (take (length piece) (drop at bits)) piece count
    (λ i h. let lt : i < length piece = omega arith in get_or-take (length piece) (drop at bits) i 0 lt ∙ get_or-drop at bits i 0 ∙ same i lt)

-- a piece lies within the bits
pub stands-within : (bits : List ℕ) (at : ℕ) (piece : List ℕ) → StandAt bits at piece → at ≤ length bits → at + length piece ≤ length bits
stands-within bits at piece h fit = omega (arith, ap length h, length-take (length piece) (drop at bits), length-drop at bits)

-- one field
pub field-stands : (bits : List ℕ) (at width value : ℕ) → StandAt bits at (field_bits width value) → field_at bits at width ≡ value % 2 ^ width
field-stands bits at width value h =
    ap (λ n. bits_value (take n (drop at bits))) (sym (length-field_bits width value)) ∙ ap bits_value h ∙ value-field_bits width value

pub stands-field : (bits : List ℕ) (at width value : ℕ) → EachBit bits → at + width ≤ length bits → field_at bits at width ≡ value % 2 ^ width
    → StandAt bits at (field_bits width value)
stands-field bits at width value each fit same =
    let field : List ℕ = field_bits width value in
    let here : List ℕ = take width (drop at bits) in
    ap (λ n. take n (drop at bits)) (length-field_bits width value)
    ∙ same_bits here field (bits-take width (drop at bits) (bits-drop at bits each)) (bits-field_bits width value)
    (omega (arith, length-take width (drop at bits), length-drop at bits, length-field_bits width value))
    (same ∙ sym (value-field_bits width value))

-- a field is below the power of its width
pub field-fits : (bits : List ℕ) (at width : ℕ) → EachBit bits → field_at bits at width % 2 ^ width ≡ field_at bits at width
field-fits bits at width each =
    let v : ℕ = bits_value (drop at bits) in
    let is : field_at bits at width ≡ v % 2 ^ width = value-take width (drop at bits) (bits-drop at bits each) in
    ap (λ n. n % 2 ^ width) is ∙ mod-mod v (2 ^ width) ∙ sym is

pub field-below : (bits : List ℕ) (at width : ℕ) → EachBit bits → field_at bits at width < 2 ^ width
field-below bits at width each = subst (λ n. n < 2 ^ width) (field-fits bits at width each) (mod_below (field_at bits at width) (2 ^ width) (pow_pos width))

-- fields of one width, one behind the other
pub length-fields : (width : ℕ) (xs : List ℕ) → length (flat_map (field_bits width) xs) ≡ width * length xs
length-fields width [] = omega arith
length-fields width (x ∷ xs) =
    omega (arith, length-append (field_bits width x) (flat_map (field_bits width) xs), length-field_bits width x, length-fields width xs)

pub fields-stand : (bits : List ℕ) (at width : ℕ) (xs : List ℕ) → StandAt bits at (flat_map (field_bits width) xs)
    → (i : ℕ) → i < length xs → field_at bits (at + width * i) width ≡ get_or xs i 0 % 2 ^ width
fields-stand bits at width [] h i lt = absurd (omega arith)
fields-stand bits at width (x ∷ xs) h zero lt =
    ap (λ p. field_at bits p width) (let e : at + width * 0 ≡ at = omega arith in e)
    ∙ field-stands bits at width x (stands-first bits at (field_bits width x) (flat_map (field_bits width) xs) h)
fields-stand bits at width (x ∷ xs) h (suc i) lt =
    ap (λ p. field_at bits p width) (let e : at + width * suc i ≡ at + length (field_bits width x) + width * i = omega (arith, length-field_bits width x) in e)
    ∙ fields-stand bits (at + length (field_bits width x)) width xs (stands-second bits at (field_bits width x) (flat_map (field_bits width) xs) h) i (omega arith)

pub stands-fields : (bits : List ℕ) (at width : ℕ) (xs : List ℕ) → EachBit bits → at + width * length xs ≤ length bits
    → ((i : ℕ) → i < length xs → field_at bits (at + width * i) width ≡ get_or xs i 0 % 2 ^ width) → StandAt bits at (flat_map (field_bits width) xs)
stands-fields bits at width [] each fit same = refl
stands-fields bits at width (x ∷ xs) each fit same =
    let first : field_at bits at width ≡ x % 2 ^ width = ap (λ p. field_at bits p width) (let e : at ≡ at + width * 0 = omega arith in e) ∙ same 0 (omega arith) in
    let place : at + length (field_bits width x) ≡ at + width = omega (arith, length-field_bits width x) in
    stands-both bits at (field_bits width x) (flat_map (field_bits width) xs)
    (stands-field bits at width x each (omega arith) first)
    (ap (λ p. take (length (flat_map (field_bits width) xs)) (drop p bits)) place
    ∙ stands-fields bits (at + width) width xs each (omega arith)
    (λ i lt. ap (λ p. field_at bits p width) (let e : at + width + width * i ≡ at + width * suc i = omega arith in e) ∙ same (suc i) (omega arith)))
