-- Lemmas on the places of a window that are taken back, one marked place after another.
use Rattle.std.proofs.Common.{◌≡◌, refl, sym, ap, inl, inr, ◌∙◌, subst, ℕ, ◌+◌, ◌-◌, ◌*◌, ◌/◌, ◌%◌, ◌^◌, ◌<◌, ◌≤◌, ◌≢◌, true, false, eqb, List, length, get_or, set, bit_and, arith}
use Rattle.std.specs.Int.{w64, bit_at, bit_not, trailing_zeros}
use Rattle.std.proofs.lemmas.Bool.{cases_lt, cases_eq, eq-eqb, ne_eqb, false≢true}
use Rattle.std.proofs.lemmas.List.{length-set, get_or-set_same, get_or-set_other, set-set}
use Rattle.std.proofs.lemmas.Nat.Bits.{bit_at_clear_same, bit_at_clear_other, bit_at-trailing_zeros, bit_at-zero}
use Rattle.scan_plans.specs.Window.{is_marked, AreTakenBack, IsFirstCandidate}
use Rattle.scan_plans.proofs.Marks.{marked-at, rest-all, rest-less}

-- ---- a mark that is taken back
abbrev pub without : ℕ → ℕ → ℕ
without word one = bit_and word (bit_not w64 (1 * 2 ^ one % 2 ^ 64))

module _ (marks : List ℕ) (i one : ℕ) (short : one < 64) (within : i < length marks) where
  abbrev pub unmarked : List ℕ
  unmarked = set marks i (without (get_or marks i 0) one)

  pub unmark-same : is_marked unmarked (64 * i + one) ≡ false
  unmark-same =
      marked-at unmarked i one short ∙ ap (λ (w : ℕ). eqb (bit_at w one) 1) (get_or-set_same marks i (without (get_or marks i 0) one) 0 within)
      ∙ ne_eqb _ 1 (λ e. let zero = bit_at_clear_same w64 (get_or marks i 0) one short in absurd (omega arith))

  pub unmark-other : (k : ℕ) → k ≢ 64 * i + one → is_marked unmarked k ≡ is_marked marks k
  unmark-other k other = elim (cases_eq (k / 64) i) as (λ _. is_marked unmarked k ≡ is_marked marks k) [
    | inl same ↦ (let apart : k % 64 ≢ one = omega arith in
        ap (λ (j : ℕ). eqb (bit_at (get_or unmarked j 0) (k % 64)) 1) same
        ∙ ap (λ (w : ℕ). eqb (bit_at w (k % 64)) 1) (get_or-set_same marks i (without (get_or marks i 0) one) 0 within)
        ∙ ap (λ (b : ℕ). eqb b 1) (bit_at_clear_other w64 (get_or marks i 0) one short (k % 64) (omega arith) apart)
        ∙ ap (λ (j : ℕ). eqb (bit_at (get_or marks j 0) (k % 64)) 1) (sym same))
    | inr apart ↦ ap (λ (w : ℕ). eqb (bit_at w (k % 64)) 1) (get_or-set_other marks i (k / 64) (without (get_or marks i 0) one) 0 apart)
  ]

-- ---- the lowest mark of a word
-- bit k - 64 i of word i
bit-of : (marks : List ℕ) (i k : ℕ) → 64 * i ≤ k → k < 64 * (i + 1) → is_marked marks k ≡ eqb (bit_at (get_or marks i 0) (k - 64 * i)) 1
bit-of marks i k from before =
    let at : 64 * i + (k - 64 * i) ≡ k = omega arith in
    ap (is_marked marks) (sym at) ∙ marked-at marks i (k - 64 * i) (omega arith)

pub word-none : (marks : List ℕ) (i : ℕ) → get_or marks i 0 ≡ 0 → (k : ℕ) → 64 * i ≤ k → k < 64 * (i + 1) → is_marked marks k ≡ false
word-none marks i none k from before =
    bit-of marks i k from before ∙ ap (λ (w : ℕ). eqb (bit_at w (k - 64 * i)) 1) none ∙ ne_eqb _ 1 (λ e. let zero = bit_at-zero (k - 64 * i) in absurd (omega arith))

module _ (marks : List ℕ) (i : ℕ) (some : 0 < get_or marks i 0) (fits : get_or marks i 0 < 2 ^ 64) where
  abbrev pub lowest-at : ℕ
  lowest-at = trailing_zeros w64 (get_or marks i 0)

  lowest-is : (lowest-at < 64) × (bit_at (get_or marks i 0) lowest-at ≡ 1) × ((j : ℕ) → j < lowest-at → bit_at (get_or marks i 0) j ≡ 0)
  lowest-is = bit_at-trailing_zeros w64 (get_or marks i 0) some fits

  pub lowest-short : lowest-at < 64
  lowest-short = lowest-is.0

  pub lowest-marked : is_marked marks (64 * i + lowest-at) ≡ true
  lowest-marked = marked-at marks i lowest-at lowest-is.0 ∙ eq-eqb _ 1 lowest-is.1

  pub none-before : (k : ℕ) → 64 * i ≤ k → k < 64 * i + lowest-at → is_marked marks k ≡ false
  none-before k from before =
      let short = lowest-is.0 in
      bit-of marks i k from (omega arith) ∙ ne_eqb _ 1 (λ e. let zero = lowest-is.2 (k - 64 * i) (omega arith) in absurd (omega arith))

  pub lowest-less : without (get_or marks i 0) lowest-at < get_or marks i 0
  lowest-less = rest-less (get_or marks i 0) 0 (get_or marks i 0) some fits (rest-all (get_or marks i 0))

-- ---- what was taken back
module _ (scores marks : List ℕ) (wide : length scores ≤ 64 * length marks) (unscored : (k : ℕ) → k < length scores → is_marked marks k ≡ false → get_or scores k 0 ≡ 0) where
  pub taken-none : (from : ℕ) → ((k : ℕ) → k < from → is_marked marks k ≡ false) → AreTakenBack from scores marks scores marks
  taken-none from none = record {
    count = refl;
    marks_count = refl;
    unmarked = λ k lt within. none k lt;
    clear = λ k lt within. unscored k within (none k lt);
    marked = λ k after within. refl;
    scored = λ k after within. refl;
  }

  -- places at which nothing is marked
  pub taken-skip : (low high : ℕ) (ns nm : List ℕ) → low ≤ high → ((k : ℕ) → low ≤ k → k < high → k < 64 * length marks → is_marked nm k ≡ false) → AreTakenBack low scores marks ns nm → AreTakenBack high scores marks ns nm
  taken-skip low high ns nm le none t = record {
    count = t.count;
    marks_count = t.marks_count;
    unmarked = λ k lt within. elim (cases_lt k low) as (λ _. is_marked nm k ≡ false) [ inl before ↦ t.unmarked k before within | inr after ↦ none k after lt within ];
    clear = λ k lt within. elim (cases_lt k low) as (λ _. get_or ns k 0 ≡ 0) [ inl before ↦ t.clear k before within | inr after ↦ t.scored k after within ∙ unscored k within (sym (t.marked k after (omega arith)) ∙ none k after lt (omega arith)) ];
    marked = λ k after within. t.marked k (omega arith) within;
    scored = λ k after within. t.scored k (omega arith) within;
  }

  -- a marked place
  pub taken-one : (i one at : ℕ) (ns nm : List ℕ) → one < 64 → i < length marks → at ≡ 64 * i + one → at < length scores → AreTakenBack at scores marks ns nm → AreTakenBack (at + 1) scores marks (set ns at 0) (set nm i (without (get_or nm i 0) one))
  taken-one i one at ns nm short word is within t =
      let count = t.count in
      let words = t.marks_count in
      let inside : i < length nm = omega arith in
      record {
        count = length-set ns at 0 ∙ count;
        marks_count = length-set nm i (without (get_or nm i 0) one) ∙ words;
        unmarked = λ k lt room. elim (cases_lt k at) as (λ _. is_marked (set nm i (without (get_or nm i 0) one)) k ≡ false) [
          | inl before ↦ unmark-other nm i one short inside k (omega arith) ∙ t.unmarked k before room
          | inr here ↦ (let same : 64 * i + one ≡ k = omega arith in subst (λ (j : ℕ). is_marked (set nm i (without (get_or nm i 0) one)) j ≡ false) same (unmark-same nm i one short inside))
        ];
        clear = λ k lt room. elim (cases_lt k at) as (λ _. get_or (set ns at 0) k 0 ≡ 0) [
          | inl before ↦ (let other : k ≢ at = omega arith in get_or-set_other ns at k 0 0 other ∙ t.clear k before room)
          | inr here ↦ (let same : at ≡ k = omega arith in subst (λ (j : ℕ). get_or (set ns at 0) j 0 ≡ 0) same (get_or-set_same ns at 0 0 (omega arith)))
        ];
        marked = λ k after room. unmark-other nm i one short inside k (omega arith) ∙ t.marked k (omega arith) room;
        scored = λ k after room. let other : k ≢ at = omega arith in get_or-set_other ns at k 0 0 other ∙ t.scored k (omega arith) room;
      }

  -- behind the last marked place nothing is left
  pub taken-all : (low : ℕ) (ns nm : List ℕ) → ((k : ℕ) → low ≤ k → k < 64 * length marks → is_marked marks k ≡ false) → ((k : ℕ) → length scores ≤ k → k < 64 * length marks → is_marked marks k ≡ false) → AreTakenBack low scores marks ns nm → AreTakenBack (length scores) scores marks ns nm
  taken-all low ns nm none beyond t = record {
    count = t.count;
    marks_count = t.marks_count;
    unmarked = λ k lt within. elim (cases_lt k low) as (λ _. is_marked nm k ≡ false) [ inl before ↦ t.unmarked k before within | inr after ↦ t.marked k after within ∙ none k after within ];
    clear = λ k lt within. elim (cases_lt k low) as (λ _. get_or ns k 0 ≡ 0) [ inl before ↦ t.clear k before within | inr after ↦ t.scored k after within ∙ unscored k within (none k after (omega arith)) ];
    marked = λ k after within. elim (cases_lt k low) as (λ _. is_marked nm k ≡ is_marked marks k) [ inl before ↦ t.unmarked k before within ∙ sym (beyond k after within) | inr behind ↦ t.marked k behind within ];
    scored = λ k after within. absurd (omega arith);
  }

  -- the lowest mark of a word of which what is below a place was taken does not stand before it
  pub lowest-from : (i low : ℕ) (ns nm : List ℕ) → i < length marks → (some : 0 < get_or nm i 0) → (fits : get_or nm i 0 < 2 ^ 64) → AreTakenBack low scores marks ns nm → low ≤ 64 * i + lowest-at nm i some fits
  lowest-from i low ns nm word some fits t =
      let at : ℕ = 64 * i + lowest-at nm i some fits in
      let short = lowest-short nm i some fits in
      elim (cases_lt at low) as (λ _. low ≤ at) [
        | inl before ↦ absurd (false≢true (sym (t.unmarked at before (omega arith)) ∙ lowest-marked nm i some fits))
        | inr ge ↦ ge
      ]

-- ---- no candidate so far
-- a place that is not marked
pub passed-skip : (scores marks : List ℕ) (least low high : ℕ) → ((k : ℕ) → low ≤ k → k < high → is_marked marks k ≡ false) → ((k : ℕ) → k < low → is_marked marks k ≡ true → get_or scores k 0 < least) → (k : ℕ) → k < high → is_marked marks k ≡ true → get_or scores k 0 < least
passed-skip scores marks least low high none so_far k lt is = elim (cases_lt k low) as (λ _. get_or scores k 0 < least) [
  | inl before ↦ so_far k before is
  | inr after ↦ absurd (false≢true (sym (none k after lt) ∙ is))
]

pub passed-one : (scores marks : List ℕ) (least at score : ℕ) → score ≡ get_or scores at 0 → score < least → ((k : ℕ) → k < at → is_marked marks k ≡ true → get_or scores k 0 < least) → (k : ℕ) → k < at + 1 → is_marked marks k ≡ true → get_or scores k 0 < least
passed-one scores marks least at score is low so_far k lt marked = elim (cases_lt k at) as (λ _. get_or scores k 0 < least) [
  | inl before ↦ so_far k before marked
  | inr after ↦ (let same : at ≡ k = omega arith in subst (λ (j : ℕ). get_or scores j 0 < least) same (omega arith))
]

-- ---- one step: the lowest mark of a word is taken, of a word that is held beside the marks
pub record IsStep (least at : ℕ) (scores marks ns nm news newm : List ℕ) : Type 0 where
  pub within : at < length scores
  pub marked : is_marked marks at ≡ true
  pub scored : get_or ns at 0 ≡ get_or scores at 0
  pub passed : (k : ℕ) → k < at → is_marked marks k ≡ true → get_or scores k 0 < least
  pub taken : AreTakenBack (at + 1) scores marks news newm

pub word-step : (scores marks : List ℕ) → length scores ≤ 64 * length marks → ((k : ℕ) → k < length scores → is_marked marks k ≡ false → get_or scores k 0 ≡ 0) → (least i low rest : ℕ) (ns : List ℕ) → i < length marks
    → ((k : ℕ) → k < 64 * (i + 1) → is_marked marks k ≡ true → k < length scores) → 64 * i ≤ low → 0 < rest → rest < 2 ^ 64 → ((k : ℕ) → k < low → is_marked marks k ≡ true → get_or scores k 0 < least) → AreTakenBack low scores marks ns (set marks i rest)
    → (one : ℕ) → one ≡ trailing_zeros w64 rest → IsStep least (64 * i + one) scores marks ns (set marks i rest) (set ns (64 * i + one) 0) (set marks i (without rest one)) × (one < 64) × (without rest one < rest)
word-step scores marks wide unscored least i low rest ns word inside start more fits so_far t one is =
    let nm : List ℕ = set marks i rest in
    let read : get_or nm i 0 ≡ rest = get_or-set_same marks i rest 0 word in
    let some : 0 < get_or nm i 0 = omega arith in
    let small : get_or nm i 0 < 2 ^ 64 = omega arith in
    let lowest : ℕ = lowest-at nm i some small in
    let same : lowest ≡ one = ap (trailing_zeros w64) read ∙ sym is in
    let count : length nm ≡ length marks = length-set marks i rest in
    let short = lowest-short nm i some small in
    let at : ℕ = 64 * i + lowest in
    let from : low ≤ at = lowest-from scores marks wide unscored i low ns nm word some small t in
    let marked : is_marked marks at ≡ true = sym (t.marked at from (omega arith)) ∙ lowest-marked nm i some small in
    let here : at < length scores = inside at (omega arith) marked in
    let none : (k : ℕ) → low ≤ k → k < at → is_marked nm k ≡ false = λ k after before. none-before nm i some small k (omega arith) before in
    let before : AreTakenBack at scores marks ns nm = taken-skip scores marks wide unscored low at ns nm from (λ k after lt room. none k after lt) t in
    let step : IsStep least at scores marks ns nm (set ns at 0) (set nm i (without (get_or nm i 0) lowest)) = record {
      within = here;
      marked = marked;
      scored = t.scored at from here;
      passed = passed-skip scores marks least low at (λ k after lt. sym (t.marked k after (omega arith)) ∙ none k after lt) so_far;
      taken = taken-one scores marks wide unscored i lowest at ns nm short word refl here before;
    } in
    let less = lowest-less nm i some small in
    let moved = subst (λ (ms : List ℕ). IsStep least at scores marks ns nm (set ns at 0) ms) (set-set marks i rest (without (get_or nm i 0) lowest)) step in
    let held = subst (λ (w : ℕ). IsStep least at scores marks ns nm (set ns at 0) (set marks i (without w lowest)) × (lowest < 64) × (without w lowest < w)) read (moved, short, less) in
    subst (λ (o : ℕ). IsStep least (64 * i + o) scores marks ns nm (set ns (64 * i + o) 0) (set marks i (without rest o)) × (o < 64) × (without rest o < rest)) same held

-- ---- the candidates of what is left
module _ (scores marks ns nm : List ℕ) (low : ℕ) (wide : length scores ≤ 64 * length marks) (taken : AreTakenBack low scores marks ns nm) where
  -- where nothing is marked the score is 0
  pub left-unscored : ((k : ℕ) → k < length scores → is_marked marks k ≡ false → get_or scores k 0 ≡ 0) → (k : ℕ) → k < length ns → is_marked nm k ≡ false → get_or ns k 0 ≡ 0
  left-unscored unscored k within is =
      let count = taken.count in
      elim (cases_lt k low) as (λ _. get_or ns k 0 ≡ 0) [
        | inl before ↦ taken.clear k before (omega arith)
        | inr after ↦ taken.scored k after (omega arith) ∙ unscored k (omega arith) (sym (taken.marked k after (omega arith)) ∙ is)
      ]

  -- what is marked lies in the window
  pub left-inside : (reached to : ℕ) → reached ≤ length scores → to ≤ 64 * length marks → ((k : ℕ) → reached ≤ k → k < 64 * length marks → is_marked marks k ≡ false) → (k : ℕ) → k < to → is_marked nm k ≡ true → k < length ns
  left-inside reached to within room behind k lt is =
      let count = taken.count in
      elim (cases_lt k reached) as (λ _. k < length ns) [
        | inl inside ↦ omega arith
        | inr past ↦ absurd (elim (cases_lt k low) as (λ _. ⊥) [
          | inl before ↦ false≢true (sym (taken.unmarked k before (omega arith)) ∙ is)
          | inr after ↦ false≢true (sym (behind k past (omega arith)) ∙ sym (taken.marked k after (omega arith)) ∙ is)
        ])
      ]

  -- a place that is marked was not taken
  pub left-after : (k : ℕ) → k < 64 * length marks → is_marked nm k ≡ true → low ≤ k
  left-after k room is = elim (cases_lt k low) as (λ _. low ≤ k) [
    | inl before ↦ absurd (false≢true (sym (taken.unmarked k before room) ∙ is))
    | inr after ↦ after
  ]

  -- no candidate up to a place
  pub left-passed : (least to : ℕ) → to ≤ 64 * length marks → ((k : ℕ) → k < to → is_marked nm k ≡ true → k < length ns) → ((k : ℕ) → k < low → is_marked marks k ≡ true → get_or scores k 0 < least) → ((k : ℕ) → k < to → is_marked nm k ≡ true → get_or ns k 0 < least)
      → (k : ℕ) → k < to → is_marked marks k ≡ true → get_or scores k 0 < least
  left-passed least to room inside passed none k lt is = elim (cases_lt k low) as (λ _. get_or scores k 0 < least) [
    | inl before ↦ passed k before is
    | inr after ↦ (let count = taken.count in
        let now : is_marked nm k ≡ true = taken.marked k after (omega arith) ∙ is in
        let here = inside k lt now in
        let read = taken.scored k after (omega arith) in
        let less = none k lt now in
        omega arith)
  ]

  -- the first candidate of what is left is that of all
  pub left-first : (least place score : ℕ) → ((k : ℕ) → k < low → is_marked marks k ≡ true → get_or scores k 0 < least) → IsFirstCandidate least ns nm place score → IsFirstCandidate least scores marks place score
  left-first least place score passed first =
      let count = taken.count in
      let within = first.within in
      let after = left-after place (omega arith) first.marked in
      record {
        within = omega arith;
        marked = sym (taken.marked place after (omega arith)) ∙ first.marked;
        scored = sym (taken.scored place after (omega arith)) ∙ first.scored;
        enough = first.enough;
        others = left-passed least place (omega arith) (λ k lt is. omega arith) passed first.others;
      }
