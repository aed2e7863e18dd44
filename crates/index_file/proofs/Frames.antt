-- Lemmas on the frame of a file.
use Rattle.std.proofs.Common.{◌≡◌, ℕ, ◌+◌, ◌-◌, ◌*◌, ◌/◌, Bool, true, false, List, length, slice_index, refl, sym, subst}
use Rattle.std.proofs.lemmas.Bool.{or_parts, or_from, ltb-false, le-ltb, eqb-true, eq-eqb, not-false, not_from_true}
use Rattle.std.specs.Prelude.{Option, Some, None, not, ◌==◌, ◌||◌, nat_lt, if◌then◌else◌, MatchOption, MatchBool}
use Rattle.collection_model.specs.FormatNumbers.{FormatNumbers, most_terms}
use Rattle.sequence_words.specs.declared.check.Check.{Check}
use Rattle.sequence_words.specs.declared.check.Check.TheVariants.{K1, K2, K3, K4, K5}
use Rattle.index_file.specs.declared.fault.OpenFault.{OpenFault}
use Rattle.index_file.specs.FileWords.{CutList, opening_magic, end_magic, lists_words}
use Rattle.index_file.specs.FirstBroken.{stated_documents, stated_terms, stated_sizes, numbers_break, frame_broken, IsLongestFilePrefix, IsTermFault, IsClosingFault, IsFirstBrokenPlain}
use Rattle.index_file.specs.ListAt.{HasFrame}

-- no check breaks
pub if-none : (b : Bool) (k : Check) (o : Option Check) → (if b then Some k else o) ≡ None → (b ≡ false) × (o ≡ None)
if-none true k o h = absurd (cc)
if-none false k o h = (refl, h)

pub none-if : (b : Bool) (k : Check) (o : Option Check) → b ≡ false → o ≡ None → (if b then Some k else o) ≡ None
none-if true k o h e = absurd (cc)
none-if false k o h e = e

pub frame-stands : (format : FormatNumbers) (words : List ℕ) → frame_broken format words ≡ None → HasFrame format words
frame-stands format words h =
    let n : ℕ = stated_documents words in
    let t : ℕ = stated_terms words in
    let s : ℕ = stated_sizes words in
    let count : ℕ = length words in
    let five : Option Check = if numbers_break format n t s count then Some K5 else None in
    let four : Option Check = if not (slice_index words (count - 1) == end_magic) then Some K4 else five in
    let three : Option Check = if not (slice_index words 1 == format.version) then Some K3 else four in
    let two : Option Check = if not (slice_index words 0 == opening_magic) then Some K2 else three in
    let g1 = if-none (nat_lt count 6) K1 two h in
    let g2 = if-none (not (slice_index words 0 == opening_magic)) K2 three g1.1 in
    let g3 = if-none (not (slice_index words 1 == format.version)) K3 four g2.1 in
    let g4 = if-none (not (slice_index words (count - 1) == end_magic)) K4 five g3.1 in
    let g5 = if-none (numbers_break format n t s count) K5 None g4.1 in
    let a = nat_lt format.most_documents n in
    let b = nat_lt most_terms t in
    let d = nat_lt s 2 in
    let e = not (s + (n + 1) / 2 + 4 * t + 4 == count) in
    let k3 = or_parts (a || b || d) e g5.0 in
    let k2 = or_parts (a || b) d k3.0 in
    let k1 = or_parts a b k2.0 in
    record {
      some = ltb-false count 6 g1.0;
      opening = eqb-true (slice_index words 0) opening_magic (not-false (slice_index words 0 == opening_magic) g2.0);
      version = eqb-true (slice_index words 1) format.version (not-false (slice_index words 1 == format.version) g3.0);
      closing = eqb-true (slice_index words (count - 1)) end_magic (not-false (slice_index words (count - 1) == end_magic) g4.0);
      documents = ltb-false format.most_documents n k1.0;
      terms = ltb-false most_terms t k1.1;
      sizes = ltb-false s 2 k2.1;
      whole = eqb-true (s + (n + 1) / 2 + 4 * t + 4) count (not-false (s + (n + 1) / 2 + 4 * t + 4 == count) k3.1);
    }

pub frame-none : (format : FormatNumbers) (words : List ℕ) → HasFrame format words → frame_broken format words ≡ None
frame-none format words h =
    let n : ℕ = stated_documents words in
    let t : ℕ = stated_terms words in
    let s : ℕ = stated_sizes words in
    let count : ℕ = length words in
    let five : Option Check = if numbers_break format n t s count then Some K5 else None in
    let four : Option Check = if not (slice_index words (count - 1) == end_magic) then Some K4 else five in
    let three : Option Check = if not (slice_index words 1 == format.version) then Some K3 else four in
    let two : Option Check = if not (slice_index words 0 == opening_magic) then Some K2 else three in
    let a = nat_lt format.most_documents n in
    let b = nat_lt most_terms t in
    let d = nat_lt s 2 in
    let e = not (s + (n + 1) / 2 + 4 * t + 4 == count) in
    none-if (nat_lt count 6) K1 two (le-ltb count 6 h.some)
    (none-if (not (slice_index words 0 == opening_magic)) K2 three (not_from_true (slice_index words 0 == opening_magic) (eq-eqb (slice_index words 0) opening_magic h.opening))
    (none-if (not (slice_index words 1 == format.version)) K3 four (not_from_true (slice_index words 1 == format.version) (eq-eqb (slice_index words 1) format.version h.version))
    (none-if (not (slice_index words (count - 1) == end_magic)) K4 five
    (not_from_true (slice_index words (count - 1) == end_magic) (eq-eqb (slice_index words (count - 1)) end_magic h.closing))
    (none-if (numbers_break format n t s count) K5 None
    (or_from (a || b || d) e
    (or_from (a || b) d (or_from a b (le-ltb format.most_documents n h.documents) (le-ltb most_terms t h.terms)) (le-ltb s 2 h.sizes))
    (not_from_true (s + (n + 1) / 2 + 4 * t + 4 == count) (eq-eqb (s + (n + 1) / 2 + 4 * t + 4) count h.whole)))
    refl))))

-- behind the longest prefix a list or the end breaks
abbrev pub BreaksBehind : FormatNumbers → List ℕ → OpenFault → Type 0
BreaksBehind format words fault =
    (cs : List CutList) × IsLongestFilePrefix format words cs
    × MatchBool (nat_lt (length cs) (stated_terms words))
    (IsTermFault format words (length cs) (2 + length (lists_words format cs)) fault)
    (IsClosingFault words (2 + length (lists_words format cs)) fault)

pub match-option-none : (o : Option Check) (P : Type 0) (Q : Check → Type 0) → o ≡ None → P → MatchOption o P Q
match-option-none o P Q e p = subst (λ x. MatchOption x P Q) (sym e) p

pub match-option-some : (o : Option Check) (k : Check) (P : Type 0) (Q : Check → Type 0) → o ≡ Some k → Q k → MatchOption o P Q
match-option-some o k P Q e q = subst (λ x. MatchOption x P Q) (sym e) q

pub frame-breaks : (format : FormatNumbers) (words : List ℕ) (k : Check) (f : OpenFault) → frame_broken format words ≡ Some k → f ≡ record { check = k; term = 0; part = 0 } → IsFirstBrokenPlain format words f
frame-breaks format words k f e h = match-option-some (frame_broken format words) k (BreaksBehind format words f) (λ check. f ≡ record { check = check; term = 0; part = 0 }) e h

pub behind-frame : (format : FormatNumbers) (words : List ℕ) (f : OpenFault) → HasFrame format words → BreaksBehind format words f → IsFirstBrokenPlain format words f
behind-frame format words f frame h = match-option-none (frame_broken format words) (BreaksBehind format words f) (λ check. f ≡ record { check = check; term = 0; part = 0 }) (frame-none format words frame) h

pub breaks-behind : (format : FormatNumbers) (words : List ℕ) (f : OpenFault) → HasFrame format words → IsFirstBrokenPlain format words f → BreaksBehind format words f
breaks-behind format words f frame h = subst (λ x. MatchOption x (BreaksBehind format words f) (λ check. f ≡ record { check = check; term = 0; part = 0 })) (frame-none format words frame) h
