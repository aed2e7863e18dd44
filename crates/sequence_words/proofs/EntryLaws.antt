use Rattle.std.proofs.Common.{◌≡◌, refl, sym, ap, ◌∙◌, subst, ℕ, suc, ◌+◌, ◌*◌, ◌/◌, ◌%◌, ◌^◌, ◌<◌, ◌≤◌, List, [], ◌∷◌, ◌++◌, length, drop, slice_index, get_or, arith}
use Rattle.std.specs.List.{All}
use Rattle.std.proofs.lemmas.List.{get_or-drop}
use Rattle.std.proofs.lemmas.List.Elements.{All-from_recursion}
use Rattle.std.proofs.lemmas.Nat.{div-mul-add, mod-mul-add}
use Rattle.std.proofs.Math.Nat.{mod-add-div}
use Rattle.std.proofs.Math.Seq.{drop-cons}
use Rattle.collection_model.specs.FormatNumbers.{EntryShape, EndBesideLast, EachApart, EndInTwo, words_of_shape}
use Rattle.part_cost.specs.declared.formats.Format.TheVariants.{One, Two, Three}
use Rattle.sequence_words.specs.EntryWords.{ends_beside, beside_unit, entry_in, last_in, end_in, offset_in}
use Rattle.sequence_words.specs.EntryFacts.{EntryIsWhole, EntryReadsBack, EntryIsOfWords, EntryFits}

whole : (shape : EntryShape) (unit last end offset : ℕ) → length (entry_in shape unit last end offset) ≡ words_of_shape shape
whole EndBesideLast unit last end offset = refl
whole EachApart unit last end offset = refl
whole EndInTwo unit last end offset = refl

pub entry-is-whole : EntryIsWhole
entry-is-whole format last end offset = whole format.shape format.most_sum last end offset

-- word k behind word p
word : (words xs : List ℕ) (p k : ℕ) → drop p words ≡ xs → slice_index words (p + k) ≡ get_or xs k 0
word words xs p k h = sym (get_or-drop p words k 0) ∙ ap (λ ys. get_or ys k 0) h

first : (words xs : List ℕ) (p : ℕ) → drop p words ≡ xs → slice_index words p ≡ get_or xs 0 0
first words xs p h = subst (λ i. slice_index words i ≡ get_or xs 0 0) (let e : p + 0 ≡ p = omega arith in e) (word words xs p 0 h)

low : (unit last end : ℕ) → last < unit → (last + unit * end) % unit ≡ last
low unit last end lt = ap (λ x. x % unit) (let e : last + unit * end ≡ end * unit + last = omega arith in e) ∙ mod-mul-add end unit last lt

high : (unit last end : ℕ) → last < unit → (last + unit * end) / unit ≡ end
high unit last end lt = ap (λ x. x / unit) (let e : last + unit * end ≡ end * unit + last = omega arith in e) ∙ div-mul-add end unit last lt

-- an end in two parts
joined : (end : ℕ) → end % ends_beside + ends_beside * (end / ends_beside) ≡ end
joined end = omega arith

back : (shape : EntryShape) (unit : ℕ) (words behind : List ℕ) (p last end offset : ℕ) → last < unit → last < beside_unit → offset < beside_unit → drop p words ≡ entry_in shape unit last end offset ++ behind
    → (last_in shape unit words p ≡ last) × (end_in shape unit words p ≡ end) × (offset_in shape unit words p ≡ offset)
back EndBesideLast unit words behind p last end offset lt small few h =
    let w = first words _ p h in
    (ap (λ x. x % unit) w ∙ low unit last end lt, ap (λ x. x / unit) w ∙ high unit last end lt, word words _ p 1 h)
back EachApart unit words behind p last end offset lt small few h = (first words _ p h, word words _ p 1 h, word words _ p 2 h)
back EndInTwo unit words behind p last end offset lt small few h =
    let w = first words _ p h in
    let v = word words _ p 1 h in
    let lower : slice_index words p / beside_unit ≡ end % ends_beside = ap (λ x. x / beside_unit) w ∙ high beside_unit last (end % ends_beside) small in
    let upper : slice_index words (p + 1) / beside_unit ≡ end / ends_beside = ap (λ x. x / beside_unit) v ∙ high beside_unit offset (end / ends_beside) few in (
      ap (λ x. x % beside_unit) w ∙ low beside_unit last (end % ends_beside) small,
      ap (λ x. x + ends_beside * (slice_index words (p + 1) / beside_unit)) lower ∙ ap (λ x. end % ends_beside + ends_beside * x) upper ∙ joined end,
      ap (λ x. x % beside_unit) v ∙ low beside_unit offset (end / ends_beside) few,
    )

pub entry-reads-back : EntryReadsBack
entry-reads-back format room words behind p last end offset lt few h =
    let b = back format.shape format.most_sum words behind p last end offset lt (omega (arith, lt, room.sums)) (omega (arith, few)) h in
    record { last_is = b.0; end_is = b.1; offset_is = b.2 }

-- one word more
one-more : (words : List ℕ) (p : ℕ) → p < length words → drop p words ≡ slice_index words p ∷ drop (p + 1) words
one-more words p lt = drop-cons words p 0 lt ∙ ap (λ n. slice_index words p ∷ drop n words) (let e : suc p ≡ p + 1 = omega arith in e)

two-more : (words : List ℕ) (p : ℕ) → p + 2 ≤ length words → drop p words ≡ slice_index words p ∷ slice_index words (p + 1) ∷ drop (p + 2) words
two-more words p fit =
    one-more words p (omega (arith, fit)) ∙ ap (λ xs. slice_index words p ∷ xs) (one-more words (p + 1) (omega (arith, fit)))
    ∙ ap (λ n. slice_index words p ∷ slice_index words (p + 1) ∷ drop n words) (let e : p + 1 + 1 ≡ p + 2 = omega arith in e)

three-more : (words : List ℕ) (p : ℕ) → p + 3 ≤ length words → drop p words ≡ slice_index words p ∷ slice_index words (p + 1) ∷ slice_index words (p + 2) ∷ drop (p + 3) words
three-more words p fit =
    two-more words p (omega (arith, fit)) ∙ ap (λ xs. slice_index words p ∷ slice_index words (p + 1) ∷ xs) (one-more words (p + 2) (omega (arith, fit)))
    ∙ ap (λ n. slice_index words p ∷ slice_index words (p + 1) ∷ slice_index words (p + 2) ∷ drop n words) (let e : p + 2 + 1 ≡ p + 3 = omega arith in e)

-- a word of two numbers, the upper of 16 bits
pub lower-of-two : (w v : ℕ) → w < 2 ^ 64 → (w / 2 ^ 48 + 2 ^ 16 * v) % 2 ^ 16 ≡ w / 2 ^ 48
lower-of-two w v fit = omega (arith, fit)

pub upper-of-two : (w v : ℕ) → w < 2 ^ 64 → (w / 2 ^ 48 + 2 ^ 16 * v) / 2 ^ 16 ≡ v
upper-of-two w v fit = omega (arith, fit)

of-two : (w v : ℕ) → w < 2 ^ 64 → (w % 2 ^ 48 + 2 ^ 48 * ((w / 2 ^ 48 + ends_beside * (v / 2 ^ 48)) % ends_beside)) ∷ (v % 2 ^ 48 + 2 ^ 48 * ((w / 2 ^ 48 + ends_beside * (v / 2 ^ 48)) / ends_beside)) ∷ [] ≡ w ∷ v ∷ []
of-two w v fit =
    ap (λ n. (w % 2 ^ 48 + 2 ^ 48 * n) ∷ (v % 2 ^ 48 + 2 ^ 48 * ((w / 2 ^ 48 + ends_beside * (v / 2 ^ 48)) / ends_beside)) ∷ []) (lower-of-two w (v / 2 ^ 48) fit)
    ∙ ap (λ n. (w % 2 ^ 48 + 2 ^ 48 * (w / 2 ^ 48)) ∷ (v % 2 ^ 48 + 2 ^ 48 * n) ∷ []) (upper-of-two w (v / 2 ^ 48) fit)
    ∙ ap (λ n. n ∷ (v % 2 ^ 48 + 2 ^ 48 * (v / 2 ^ 48)) ∷ []) (let e : w % 2 ^ 48 + 2 ^ 48 * (w / 2 ^ 48) ≡ w = omega arith in e)
    ∙ ap (λ n. w ∷ n ∷ []) (let e : v % 2 ^ 48 + 2 ^ 48 * (v / 2 ^ 48) ≡ v = omega arith in e)

of-words : (shape : EntryShape) (unit : ℕ) (words : List ℕ) (p : ℕ) → All (λ w. w < 2 ^ 64) words → p + words_of_shape shape ≤ length words
    → drop p words ≡ entry_in shape unit (last_in shape unit words p) (end_in shape unit words p) (offset_in shape unit words p) ++ drop (p + words_of_shape shape) words
of-words EndBesideLast unit words p small fit = two-more words p fit ∙ ap (λ w. w ∷ slice_index words (p + 1) ∷ drop (p + 2) words) (sym (mod-add-div (slice_index words p) unit))
of-words EachApart unit words p small fit = three-more words p fit
of-words EndInTwo unit words p small fit =
    two-more words p fit
    ∙ ap (λ ws. ws ++ drop (p + 2) words) (sym (of-two (slice_index words p) (slice_index words (p + 1)) (small p 0 (omega (arith, fit)))))

pub entry-is-of-words : EntryIsOfWords
entry-is-of-words format words p small fit = of-words format.shape format.most_sum words p small fit

pub entry-fits : EntryFits
entry-fits One last end offset small few fits =
    All-from_recursion (λ w. w < 2 ^ 64) ((last + 2 ^ 36 * end) ∷ offset ∷ [])
    (let first : last + 2 ^ 36 * end < 2 ^ 64 = omega (arith, small, few) in first, (let next : offset < 2 ^ 64 = omega (arith, fits) in next, tt))
entry-fits Two last end offset small few fits =
    All-from_recursion (λ w. w < 2 ^ 64) (last ∷ end ∷ offset ∷ [])
    (let low : last < 2 ^ 64 = omega (arith, small) in low, (let next : end < 2 ^ 64 = omega (arith, few) in next, (let rest : offset < 2 ^ 64 = omega (arith, fits) in rest, tt)))
entry-fits Three last end offset small few fits =
    All-from_recursion (λ w. w < 2 ^ 64) ((last + 2 ^ 48 * (end % ends_beside)) ∷ (offset + 2 ^ 48 * (end / ends_beside)) ∷ [])
    (let low : last + 2 ^ 48 * (end % ends_beside) < 2 ^ 64 = omega (arith, small) in low, (let next : offset + 2 ^ 48 * (end / ends_beside) < 2 ^ 64 = omega (arith, few, fits) in next, tt))
