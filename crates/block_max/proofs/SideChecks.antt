-- Lemmas on the first check of a side file that breaks.
use Rattle.std.proofs.Common.{◌≡◌, ◌≢◌, refl, sym, ap, subst, ◌∙◌, inl, inr, ℕ, ◌+◌, ◌-◌, ◌<◌, Bool, true, false, List, length, get_or, arith}
use Rattle.std.specs.Prelude.{MatchBool, not, ◌&&◌, ◌==◌, nat_lt}
use Rattle.std.proofs.lemmas.Bool.{MatchBool-at_false, cases_order, eq-eqb, ne_eqb, le-ltb, and_from, and_left, and_right}
use Rattle.block_max.specs.declared.fault.SideCheck.{SideCheck}
use Rattle.block_max.specs.declared.fault.SideCheck.TheVariants.{S1, S2, S3, S4, S5, S6}
use Rattle.block_max.specs.declared.fault.SideFault.{SideFault}
use Rattle.block_max.specs.Blocks.{BlockList, nth_list, nth_block}
use Rattle.block_max.specs.SideFaults.{HasFrame, IsFirstSideFault, IsFirstWrong, IsFirstWrongOf, AllRight}
use Rattle.block_max.specs.SideWords.{block_freqs, first_word, side_end, side_opening, side_words}
use Rattle.block_max.proofs.Words.{blocks-length, count-at, end-at, side-at, side-length}

match-yes : (b : Bool) (P Q : Type 0) → b ≡ true → P → MatchBool b P Q
match-yes true P Q is here = here
match-yes false P Q is here = cc

match-no : (b : Bool) (P Q : Type 0) → b ≡ false → Q → MatchBool b P Q
match-no true P Q is later = cc
match-no false P Q is later = later

same-no : (a b : ℕ) → a ≡ b → not (a == b) ≡ false
same-no a b is = ap not (eq-eqb a b is)

other-yes : (a b : ℕ) → (a ≡ b → ⊥) → not (a == b) ≡ true
other-yes a b is = ap not (ne_eqb a b is)

both-no : (a b c d : ℕ) → a ≡ b → c ≡ d → not (a == b && c == d) ≡ false
both-no a b c d first second = ap not (and_from (a == b) (c == d) (eq-eqb a b first) (eq-eqb c d second))

module _ (cs : List BlockList) (words : List ℕ) (stated : ℕ) (frame : HasFrame words stated) where
  abbrev total : ℕ
  total = length (block_freqs cs)

  -- a later check is the first where the first four do not break
  behind-frame : (f : SideFault)
      → MatchBool (not (get_or words (length words - 2) 0 == total && length words == total + 4)) (f ≡ record { check = S5; term = 0; part = 0 }) ((t : ℕ) × (q : ℕ) × IsFirstWrong cs words t q × (f ≡ record { check = S6; term = t; part = q }))
      → IsFirstSideFault cs words f
  behind-frame f rest =
      match-no _ _ _ (le-ltb (length words) 4 frame.long)
      (match-no _ _ _ (same-no (get_or words 0 0) side_opening frame.opening)
      (match-no _ _ _ (same-no (get_or words 1 0) 1 frame.version)
      (match-no _ _ _ (same-no (get_or words (length words - 1) 0) side_end frame.end) rest)))

  pub count-broken : (stated ≢ total) → IsFirstSideFault cs words (record { check = S5; term = 0; part = 0 })
  count-broken other = behind-frame _ (match-yes _ _ _ (ap not (and_left (get_or words (length words - 2) 0 == total) (length words == total + 4) (ne_eqb _ _ (λ is. other (sym frame.count ∙ is))))) refl)

  pub length-broken : (length words ≡ total + 4 → ⊥) → IsFirstSideFault cs words (record { check = S5; term = 0; part = 0 })
  length-broken other = behind-frame _ (match-yes _ _ _ (ap not (and_right (get_or words (length words - 2) 0 == total) (length words == total + 4) (ne_eqb _ _ other))) refl)

  pub block-broken : (t q : ℕ) → stated ≡ total → length words ≡ total + 4 → IsFirstWrong cs words t q → IsFirstSideFault cs words (record { check = S6; term = t; part = q })
  block-broken t q count long is = behind-frame _ (match-no _ _ _ (both-no _ _ _ _ (frame.count ∙ count) long) (t, q, is, refl))

-- words with a wrong block are not the side words
other-block : (cs : List BlockList) (words : List ℕ) (t q : ℕ) → IsFirstWrong cs words t q → words ≢ side_words cs
other-block cs words t q first = λ is.
    let n = blocks-length (nth_list cs t).list 0 (nth_list cs t).ends in
    let block = first.block.block in
    first.wrong (ap (λ (ws : List ℕ). get_or ws (first_word cs t + q) 0) is ∙ side-at cs t q first.block.term (omega arith))

-- the first wrong block of all, behind lists that are right
pub first-of-all : (cs : List BlockList) (words : List ℕ) (t q : ℕ) → t < length cs → AllRight cs words t → IsFirstWrongOf cs words t q → IsFirstWrong cs words t q
first-of-all cs words t q term before of = record {
  block = record { term = term; block = (let n = blocks-length (nth_list cs t).list 0 (nth_list cs t).ends in let within = of.within in omega arith) };
  wrong = of.wrong;
  first = λ s r has stands. elim stands as (λ _. get_or words (first_word cs s + r) 0 ≡ (nth_block cs s r).greatest) [
    | inl lower ↦ before s lower r (let n = blocks-length (nth_list cs s).list 0 (nth_list cs s).ends in let within = has.block in omega arith)
    | inr same ↦ (let e = same.0 in let lt = same.1 in
        ap (λ (i : ℕ). get_or words (first_word cs i + r) 0) e ∙ of.before r lt ∙ sym (ap (λ (i : ℕ). (nth_block cs i r).greatest) e))
  ];
}

-- a fault of no block
abbrev of_no_block : SideCheck → SideFault
of_no_block k = record { check = k; term = 0; part = 0 }

-- the tests of the first five checks
abbrev is_short : List ℕ → Bool
is_short words = nat_lt (length words) 4

abbrev opens_otherwise : List ℕ → Bool
opens_otherwise words = not (get_or words 0 0 == side_opening)

abbrev has_other_version : List ℕ → Bool
has_other_version words = not (get_or words 1 0 == 1)

abbrev ends_otherwise : List ℕ → Bool
ends_otherwise words = not (get_or words (length words - 1) 0 == side_end)

abbrev counts_otherwise : List BlockList → List ℕ → Bool
counts_otherwise cs words = not (get_or words (length words - 2) 0 == length (block_freqs cs) && length words == length (block_freqs cs) + 4)

later : (b : Bool) (P Q : Type 0) → b ≡ false → MatchBool b P Q → Q
later b P Q is h = MatchBool-at_false P Q is h

-- side words break no check
pub none-breaks : (cs : List BlockList) (f : SideFault) → IsFirstSideFault cs (side_words cs) f → ⊥
none-breaks cs f h =
    let words : List ℕ = side_words cs in
    let long = side-length cs in
    let last : length words - 1 ≡ length (block_freqs cs) + 3 = omega arith in
    let next : length words - 2 ≡ length (block_freqs cs) + 2 = omega arith in
    let a = later (is_short words) (f ≡ of_no_block S1) _ (le-ltb (length words) 4 (omega arith)) h in
    let b = later (opens_otherwise words) (f ≡ of_no_block S2) _ (same-no (get_or words 0 0) side_opening refl) a in
    let c = later (has_other_version words) (f ≡ of_no_block S3) _ (same-no (get_or words 1 0) 1 refl) b in
    let d = later (ends_otherwise words) (f ≡ of_no_block S4) _ (same-no (get_or words (length words - 1) 0) side_end (ap (λ (i : ℕ). get_or words i 0) last ∙ end-at cs)) c in
    let e = later (counts_otherwise cs words) (f ≡ of_no_block S5) _
    (both-no (get_or words (length words - 2) 0) (length (block_freqs cs)) (length words) (length (block_freqs cs) + 4) (ap (λ (i : ℕ). get_or words i 0) next ∙ count-at cs) long) d in
    other-block cs words e.0 e.1 e.2 refl

one-step : (b : Bool) (c f g : SideFault) (Q R : Type 0) → (Q → R → f ≡ g) → MatchBool b (f ≡ c) Q → MatchBool b (g ≡ c) R → f ≡ g
one-step true c f g Q R more a b = a ∙ sym b
one-step false c f g Q R more a b = more a b

-- of two first wrong blocks none stands before the other
one-block : (cs : List BlockList) (words : List ℕ) (s r t q : ℕ) → IsFirstWrong cs words s r → IsFirstWrong cs words t q → (s ≡ t) × (r ≡ q)
one-block cs words s r t q a b =
    elim (cases_order s t) as (λ _. (s ≡ t) × (r ≡ q)) [
      | inl same ↦ elim (cases_order r q) as (λ _. (s ≡ t) × (r ≡ q)) [
        | inl equal ↦ (same, equal)
        | inr (inl lt) ↦ absurd (a.wrong (b.first s r a.block (inr (same, lt))))
        | inr (inr gt) ↦ absurd (b.wrong (a.first t q b.block (inr (sym same, gt))))
      ]
      | inr (inl lt) ↦ absurd (a.wrong (b.first s r a.block (inl lt)))
      | inr (inr gt) ↦ absurd (b.wrong (a.first t q b.block (inl gt)))
    ]

-- a fault of a block
abbrev IsBlockFault : List BlockList → List ℕ → SideFault → Type 0
IsBlockFault cs words f = (t : ℕ) × (q : ℕ) × IsFirstWrong cs words t q × (f ≡ record { check = S6; term = t; part = q })

one-block_fault : (cs : List BlockList) (words : List ℕ) (f g : SideFault) → IsBlockFault cs words f → IsBlockFault cs words g → f ≡ g
one-block_fault cs words f g a b =
    let same = one-block cs words a.0 a.1 b.0 b.1 a.2 b.2 in
    let at : ℕ → ℕ → SideFault = λ t q. record { check = S6; term = t; part = q } in
    a.3 ∙ ap (λ (t : ℕ). at t a.1) same.0 ∙ ap (λ (q : ℕ). at b.0 q) same.1 ∙ sym b.3

-- words have one first fault
pub one-fault : (cs : List BlockList) (words : List ℕ) (f g : SideFault) → IsFirstSideFault cs words f → IsFirstSideFault cs words g → f ≡ g
one-fault cs words f g =
    one-step (is_short words) (of_no_block S1) f g _ _
    (one-step (opens_otherwise words) (of_no_block S2) f g _ _
    (one-step (has_other_version words) (of_no_block S3) f g _ _
    (one-step (ends_otherwise words) (of_no_block S4) f g _ _
    (one-step (counts_otherwise cs words) (of_no_block S5) f g _ _ (one-block_fault cs words f g)))))

-- words of which a check breaks are not the side words
pub fault-differs : (cs : List BlockList) (words : List ℕ) (f : SideFault) → IsFirstSideFault cs words f → words ≢ side_words cs
fault-differs cs words f h = λ is. none-breaks cs f (subst (λ (ws : List ℕ). IsFirstSideFault cs ws f) is h)
