-- Lemmas on bytes in pairs.
use Rattle.std.proofs.Common.{◌≡◌, refl, sym, ap, inl, inr, ◌∙◌, ℕ, zero, suc, ◌+◌, ◌*◌, ◌/◌, ◌%◌, ◌<◌, ◌≤◌, Bool, true, false, cond, eqb, List, [], ◌∷◌, ◌++◌, take, drop, length, length-append, get_or, mul-add, mul-le-mul_left, arith}
use Rattle.std.proofs.lemmas.Bool.{cases_eq, cases_Bool, ne_eqb, eqb-false}
use Rattle.std.proofs.lemmas.List.{take_more, get_or-take, get_or-drop}
use Rattle.std.proofs.lemmas.List.Sums.{sum_by_push, sum_by_more, sum_by-cons}
use Rattle.std.specs.Simd.{first_chunks}
use Rattle.interval_max.specs.Bytes.{ArePairs, paired_byte, pairs_in, reach}

pub eqb-same : (a b : ℕ) → a ≡ b → eqb a b ≡ true
eqb-same a b e = elim (cases_Bool (eqb a b)) as (λ _. eqb a b ≡ true) [ inl is ↦ is | inr not ↦ absurd (eqb-false a b not e) ]

-- one pair more
pub paired-push : (from : ℕ) (pairs : List (ℕ × ℕ)) (p : ℕ × ℕ) (v : ℕ) → paired_byte from (pairs ++ p ∷ []) v ≡ paired_byte from pairs v + cond (eqb (from + (reach pairs + p.0)) v) p.1 0
paired-push from [] p v = let e : from + p.0 ≡ from + (0 + p.0) = omega arith in omega (arith, ap (λ (n : ℕ). cond (eqb n v) p.1 0) e)
paired-push from (q ∷ pairs) p v =
    let e : from + q.0 + 1 + (reach pairs + p.0) ≡ from + (reach (q ∷ pairs) + p.0) = omega (arith, sum_by-cons (λ (p : ℕ × ℕ). p.0 + 1) q pairs) in
    omega (arith, paired-push (from + q.0 + 1) pairs p v, ap (λ (n : ℕ). cond (eqb n v) p.1 0) e)

-- of a front that is one longer
pub paired-more : (pairs : List (ℕ × ℕ)) (j v : ℕ) (d : ℕ × ℕ) → j < length pairs → paired_byte 0 (take (j + 1) pairs) v ≡ paired_byte 0 (take j pairs) v + cond (eqb (reach (take j pairs) + (get_or pairs j d).0) v) (get_or pairs j d).1 0
paired-more pairs j v d within =
    let e : 0 + (reach (take j pairs) + (get_or pairs j d).0) ≡ reach (take j pairs) + (get_or pairs j d).0 = omega arith in
    ap (λ (ps : List (ℕ × ℕ)). paired_byte 0 ps v) (take_more pairs j d within) ∙ paired-push 0 (take j pairs) (get_or pairs j d) v
    ∙ ap (λ (n : ℕ). paired_byte 0 (take j pairs) v + cond (eqb n v) (get_or pairs j d).1 0) e

-- a front has no more
pub paired-front : (from : ℕ) (pairs : List (ℕ × ℕ)) (j v : ℕ) → paired_byte from (take j pairs) v ≤ paired_byte from pairs v
paired-front from [] zero v = omega arith
paired-front from [] (suc j) v = omega arith
paired-front from (p ∷ pairs) zero v = omega arith
paired-front from (p ∷ pairs) (suc j) v = omega (arith, paired-front (from + p.0 + 1) pairs j v)

pub reach-push : (pairs : List (ℕ × ℕ)) (p : ℕ × ℕ) → reach (pairs ++ p ∷ []) ≡ reach pairs + (p.0 + 1)
reach-push pairs p = sum_by_push (λ (p : ℕ × ℕ). p.0 + 1) pairs p

pub reach-more : (pairs : List (ℕ × ℕ)) (j : ℕ) (d : ℕ × ℕ) → j < length pairs → reach (take (j + 1) pairs) ≡ reach (take j pairs) + ((get_or pairs j d).0 + 1)
reach-more pairs j d within = sum_by_more (λ (p : ℕ × ℕ). p.0 + 1) pairs j d within

-- ---- bytes two by two

pub pairs-count : (bytes : List ℕ) → length bytes / 2 ≡ length (pairs_in bytes)
pairs-count [] = omega arith
pairs-count (far ∷ []) = omega arith
pairs-count (far ∷ byte ∷ bytes) = omega (arith, pairs-count bytes)

-- the numbers of a pair stand behind those of the pairs before it
pub pair-far : (bytes : List ℕ) (i : ℕ) → i < length (pairs_in bytes) → (get_or (pairs_in bytes) i (0, 0)).0 ≡ get_or bytes (2 * i) 0
pair-far [] i within = absurd (omega arith)
pair-far (far ∷ []) i within = absurd (omega arith)
pair-far (far ∷ byte ∷ bytes) zero within = refl
pair-far (far ∷ byte ∷ bytes) (suc i) within = let e : suc (suc (2 * i)) ≡ 2 * suc i = omega arith in pair-far bytes i (omega (arith, within)) ∙ ap (λ (n : ℕ). get_or (far ∷ byte ∷ bytes) n 0) e

pub pair-byte : (bytes : List ℕ) (i : ℕ) → i < length (pairs_in bytes) → (get_or (pairs_in bytes) i (0, 0)).1 ≡ get_or bytes (2 * i + 1) 0
pair-byte [] i within = absurd (omega arith)
pair-byte (far ∷ []) i within = absurd (omega arith)
pair-byte (far ∷ byte ∷ bytes) zero within = refl
pair-byte (far ∷ byte ∷ bytes) (suc i) within = let e : suc (suc (2 * i + 1)) ≡ 2 * suc i + 1 = omega arith in pair-byte bytes i (omega (arith, within)) ∙ ap (λ (n : ℕ). get_or (far ∷ byte ∷ bytes) n 0) e

-- bytes by fours
four-byte : (count : ℕ) (bytes : List ℕ) (j m : ℕ) → j < count → m < 4 → get_or (get_or (first_chunks 4 count bytes) j []) m 0 ≡ get_or bytes (4 * j + m) 0
four-byte zero bytes j m within small = absurd (omega (arith, within))
four-byte (suc count) bytes zero m within small = let e : m ≡ 4 * 0 + m = omega arith in get_or-take 4 bytes m 0 small ∙ ap (λ (n : ℕ). get_or bytes n 0) e
four-byte (suc count) bytes (suc j) m within small =
    let e : 4 + (4 * j + m) ≡ 4 * suc j + m = omega arith in
    four-byte count (drop 4 bytes) j m (omega (arith, within)) small ∙ get_or-drop 4 bytes (4 * j + m) 0 ∙ ap (λ (n : ℕ). get_or bytes n 0) e

-- a four has two pairs
module _ (bytes : List ℕ) (fours : List (List ℕ)) (j : ℕ) (are : fours ≡ first_chunks 4 (length bytes / 4) bytes) (inside : j < length bytes / 4) where
  at-byte : (m : ℕ) → m < 4 → get_or (get_or fours j []) m 0 ≡ get_or bytes (4 * j + m) 0
  at-byte m small = ap (λ (cs : List (List ℕ)). get_or (get_or cs j []) m 0) are ∙ four-byte (length bytes / 4) bytes j m inside small

  pub second-inside : 2 * j + 1 < length (pairs_in bytes)
  second-inside = omega (arith, pairs-count bytes, inside)

  pub first-far : get_or (get_or fours j []) 0 0 ≡ (get_or (pairs_in bytes) (2 * j) (0, 0)).0
  first-far = let e : 4 * j + 0 ≡ 2 * (2 * j) = omega arith in at-byte 0 (omega arith) ∙ ap (λ (n : ℕ). get_or bytes n 0) e ∙ sym (pair-far bytes (2 * j) (omega (arith, second-inside)))

  pub first-byte : get_or (get_or fours j []) 1 0 ≡ (get_or (pairs_in bytes) (2 * j) (0, 0)).1
  first-byte = let e : 4 * j + 1 ≡ 2 * (2 * j) + 1 = omega arith in at-byte 1 (omega arith) ∙ ap (λ (n : ℕ). get_or bytes n 0) e ∙ sym (pair-byte bytes (2 * j) (omega (arith, second-inside)))

  pub second-far : get_or (get_or fours j []) 2 0 ≡ (get_or (pairs_in bytes) (2 * j + 1) (0, 0)).0
  second-far = let e : 4 * j + 2 ≡ 2 * (2 * j + 1) = omega arith in at-byte 2 (omega arith) ∙ ap (λ (n : ℕ). get_or bytes n 0) e ∙ sym (pair-far bytes (2 * j + 1) second-inside)

  pub second-byte : get_or (get_or fours j []) 3 0 ≡ (get_or (pairs_in bytes) (2 * j + 1) (0, 0)).1
  second-byte = let e : 4 * j + 3 ≡ 2 * (2 * j + 1) + 1 = omega arith in at-byte 3 (omega arith) ∙ ap (λ (n : ℕ). get_or bytes n 0) e ∙ sym (pair-byte bytes (2 * j + 1) second-inside)

-- a pair behind the fours
module _ (bytes rest : List ℕ) (j : ℕ) (are : rest ≡ drop (length bytes / 4 * 4) bytes) (end : j ≡ length bytes / 4) where
  pub last-inside : 2 ≤ length bytes % 4 → length (pairs_in bytes) ≡ 2 * j + 1
  last-inside some = omega (arith, pairs-count bytes, end, some)

  pub none-left : length bytes % 4 < 2 → length (pairs_in bytes) ≡ 2 * j
  none-left few = omega (arith, pairs-count bytes, end, few)

  rest-byte : (m : ℕ) → get_or rest m 0 ≡ get_or bytes (4 * j + m) 0
  rest-byte m = let e : length bytes / 4 * 4 + m ≡ 4 * j + m = omega (arith, end) in ap (λ (l : List ℕ). get_or l m 0) are ∙ get_or-drop (length bytes / 4 * 4) bytes m 0 ∙ ap (λ (n : ℕ). get_or bytes n 0) e

  pub last-far : 2 ≤ length bytes % 4 → get_or rest 0 0 ≡ (get_or (pairs_in bytes) (2 * j) (0, 0)).0
  last-far some = let e : 4 * j + 0 ≡ 2 * (2 * j) = omega arith in rest-byte 0 ∙ ap (λ (n : ℕ). get_or bytes n 0) e ∙ sym (pair-far bytes (2 * j) (omega (arith, last-inside some)))

  pub last-byte : 2 ≤ length bytes % 4 → get_or rest 1 0 ≡ (get_or (pairs_in bytes) (2 * j) (0, 0)).1
  last-byte some = let e : 4 * j + 1 ≡ 2 * (2 * j) + 1 = omega arith in rest-byte 1 ∙ ap (λ (n : ℕ). get_or bytes n 0) e ∙ sym (pair-byte bytes (2 * j) (omega (arith, last-inside some)))

-- two bytes more
pub pairs-push : (bytes : List ℕ) (far byte : ℕ) → ArePairs bytes → pairs_in (bytes ++ far ∷ byte ∷ []) ≡ pairs_in bytes ++ (far, byte) ∷ []
pairs-push [] far byte are = refl
pairs-push (a ∷ []) far byte are = absurd (omega arith)
pairs-push (a ∷ b ∷ bytes) far byte are = ap (λ (ps : List (ℕ × ℕ)). (a, b) ∷ ps) (pairs-push bytes far byte (omega arith))

pub pairs-stay : (bytes more : List ℕ) (far byte : ℕ) → ArePairs bytes → more ≡ bytes ++ far ∷ byte ∷ [] → ArePairs more
pairs-stay bytes more far byte are is = omega (arith, ap length is, ap (λ (bs : List ℕ). length (pairs_in bs)) is, ap length (pairs-push bytes far byte are), length-append bytes (far ∷ byte ∷ []), length-append (pairs_in bytes) ((far, byte) ∷ []))

-- what lies before the first interval that is left has no byte
paired-none : (from : ℕ) (pairs : List (ℕ × ℕ)) (v : ℕ) → v < from → paired_byte from pairs v ≡ 0
paired-none from [] v before = refl
paired-none from (p ∷ pairs) v before =
    let other : cond (eqb (from + p.0) v) p.1 0 ≡ 0 = ap (λ (b : Bool). cond b p.1 0) (ne_eqb (from + p.0) v (λ e. omega (arith, e, before))) in
    omega (arith, other, paired-none (from + p.0 + 1) pairs v (omega (arith, before)))

-- pairs from one on do not matter before its interval
pub paired-before : (from : ℕ) (pairs : List (ℕ × ℕ)) (j v : ℕ) → j < length pairs → v < from + reach (take j pairs) + (get_or pairs j (0, 0)).0 → paired_byte from pairs v ≡ paired_byte from (take j pairs) v
paired-before from [] j v within before = absurd (omega arith)
paired-before from (p ∷ pairs) zero v within before =
    let other : cond (eqb (from + p.0) v) p.1 0 ≡ 0 = ap (λ (b : Bool). cond b p.1 0) (ne_eqb (from + p.0) v (λ e. omega (arith, e, before))) in
    omega (arith, other, paired-none (from + p.0 + 1) pairs v (omega (arith, before)))
paired-before from (p ∷ pairs) (suc j) v within before =
    ap (λ (n : ℕ). cond (eqb (from + p.0) v) p.1 0 + n) (paired-before (from + p.0 + 1) pairs j v (omega (arith, within)) (omega (arith, before, sum_by-cons (λ (p : ℕ × ℕ). p.0 + 1) p (take j pairs))))

-- bytes are small
pub small-each : (bytes : List ℕ) → ((i d : ℕ) → i < length bytes → get_or bytes i d < 256) → (i : ℕ) → get_or bytes i 0 ≤ 255
small-each [] all i = omega arith
small-each (b ∷ bytes) all zero = omega (arith, all 0 0 (omega arith))
small-each (b ∷ bytes) all (suc i) = small-each bytes (λ j d lt. all (suc j) d (omega (arith, lt))) i

-- no interval has more than a byte
pub paired-le : (from : ℕ) (bytes : List ℕ) (v : ℕ) → ((i : ℕ) → get_or bytes i 0 ≤ 255) → paired_byte from (pairs_in bytes) v ≤ 255
paired-le from [] v small = omega arith
paired-le from (far ∷ []) v small = omega arith
paired-le from (far ∷ byte ∷ bytes) v small = elim (cases_eq (from + far) v) as (λ _. paired_byte from (pairs_in (far ∷ byte ∷ bytes)) v ≤ 255) [
  | inl here ↦
      (let one : cond (eqb (from + far) v) byte 0 ≡ byte = ap (λ (b : Bool). cond b byte 0) (eqb-same (from + far) v here) in
      omega (arith, one, small 1, paired-none (from + far + 1) (pairs_in bytes) v (omega (arith, here))))
  | inr other ↦
      (let none : cond (eqb (from + far) v) byte 0 ≡ 0 = ap (λ (b : Bool). cond b byte 0) (ne_eqb (from + far) v other) in
      omega (arith, none, paired-le (from + far + 1) bytes v (λ i. small (suc (suc i)))))
]

-- nothing or nothing
pub nothing : (b : Bool) (n : ℕ) → n ≡ 0 → cond b n 0 ≡ n
nothing true n none = refl
nothing false n none = sym none

-- so many times something or nothing
pub times-cond : (times n : ℕ) (b : Bool) → times * cond b n 0 ≡ cond b (times * n) 0
times-cond times n true = refl
times-cond times n false = omega arith

module _ (pairs : List (ℕ × ℕ)) (j times : ℕ) (within : j < length pairs) where
  abbrev pair : ℕ × ℕ
  pair = get_or pairs j (0, 0)

  abbrev front : ℕ → ℕ
  front k = paired_byte 0 (take j pairs) k

  more : (k : ℕ) → times * paired_byte 0 (take (j + 1) pairs) k ≡ times * front k + cond (eqb (reach (take j pairs) + pair.0) k) (times * pair.1) 0
  more k =
      let b : Bool = eqb (reach (take j pairs) + pair.0) k in
      ap (λ (n : ℕ). times * n) (paired-more pairs j k (0, 0) within) ∙ mul-add times (front k) (cond b pair.1 0) ∙ ap (λ (n : ℕ). times * front k + n) (times-cond times pair.1 b)

  -- there is room for the byte of the next pair
  pub pair-room : (n at old now : ℕ) → at ≡ reach (take j pairs) + pair.0 → now ≡ old + times * front at → old + times * paired_byte 0 pairs at < n → now + times * pair.1 < n
  pair-room n at old now is so_far room =
      let here : eqb (reach (take j pairs) + pair.0) at ≡ true = eqb-same (reach (take j pairs) + pair.0) at (sym is) in
      let one : cond (eqb (reach (take j pairs) + pair.0) at) (times * pair.1) 0 ≡ times * pair.1 = ap (λ (b : Bool). cond b (times * pair.1) 0) here in
      let product : times * paired_byte 0 (take (j + 1) pairs) at ≤ times * paired_byte 0 pairs at = mul-le-mul_left times (paired-front 0 pairs (j + 1) at) in
      omega (arith, more at)

  -- what the bounds are once it was added
  pub pair-step : (at k old now new : ℕ) → at ≡ reach (take j pairs) + pair.0 → now ≡ old + times * front k → new ≡ now + cond (eqb at k) (times * pair.1) 0 → new ≡ old + times * paired_byte 0 (take (j + 1) pairs) k
  pair-step at k old now new is so_far adds = let same = ap (λ (m : ℕ). cond (eqb m k) (times * pair.1) 0) is in omega (arith, more k, same, so_far, adds)
