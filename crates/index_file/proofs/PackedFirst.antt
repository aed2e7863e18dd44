-- The first check of a packed file that breaks.
use Rattle.std.proofs.Common.{◌≡◌, ℕ, ◌+◌, ◌*◌, List, inl, inr, sym, ◌∙◌}
use Rattle.std.specs.Prelude.{Some}
use Rattle.bit_words.specs.Bits.{bits_of, HasNoOne}
use Rattle.sequence_words.specs.declared.check.Check.{Check}
use Rattle.sequence_words.specs.declared.check.Check.TheVariants.{K9, K11, K12, K13}
use Rattle.two_level.specs.SequenceFault.{OrElse, FirstOf}
use Rattle.index_file.specs.declared.fault.OpenFault.{OpenFault}
use Rattle.index_file.specs.PackedWords.{first_list_bit}
use Rattle.index_file.specs.PackedAt.{packed_terms, packed_bits, packed_sizes, HasStarts, IsListStored, HasPackedFrame, AreListsStored, PassesPacked}
use Rattle.index_file.specs.PackedFaults.{packed_frame_broken, IsPackedClosingFault, IsFirstBrokenPacked, IsFirstPackedListFault}
use Rattle.index_file.proofs.Agree.{first-of-agree, or-else-agree}
use Rattle.index_file.proofs.Frames.{match-option-none, match-option-some}
use Rattle.index_file.proofs.OneFault.{cases-option, match-at-none, match-at-some}
use Rattle.index_file.proofs.PackedFrames.{packed-frame-none}

abbrev IsFaultAt : OpenFault → Check → ℕ → Type 0
IsFaultAt f check t = f ≡ record { check = check; term = t; part = 0 }

abbrev IsFaultOf : OpenFault → Check → Type 0
IsFaultOf f check = f ≡ record { check = check; term = 0; part = 0 }

-- behind the frame
abbrev Behind : List ℕ → OpenFault → Type 0
Behind words f =
    OrElse (¬ HasStarts words) (IsFaultAt f K12 0) (FirstOf (λ t. ¬ IsListStored words t) (packed_terms words) (IsFaultAt f K13) (IsPackedClosingFault words f))

pub packed-frame-breaks : (words : List ℕ) (k : Check) (f : OpenFault) → packed_frame_broken words ≡ Some k → IsFaultOf f k → IsFirstBrokenPacked words f
packed-frame-breaks words k f e h = match-option-some (packed_frame_broken words) k (Behind words f) (IsFaultOf f) e h

behind : (words : List ℕ) (f : OpenFault) → HasPackedFrame words → Behind words f → IsFirstBrokenPacked words f
behind words f frame h = match-option-none (packed_frame_broken words) (Behind words f) (IsFaultOf f) (packed-frame-none words frame) h

pub starts-break : (words : List ℕ) (f : OpenFault) → HasPackedFrame words → (¬ HasStarts words) → IsFaultOf f K12 → IsFirstBrokenPacked words f
starts-break words f frame none e = behind words f frame (inl (none, e))

pub list-breaks : (words : List ℕ) (f : OpenFault) → HasPackedFrame words → HasStarts words → IsFirstPackedListFault words f → IsFirstBrokenPacked words f
list-breaks words f frame starts (t, h) = behind words f frame (inr ((λ none. none starts), inl (t, h.within, h.unstored, (λ r lt none. none (h.before r lt)), h.found)))

pub closing-breaks : (words : List ℕ) (f : OpenFault) → HasPackedFrame words → HasStarts words → AreListsStored words (packed_terms words) → IsPackedClosingFault words f
    → IsFirstBrokenPacked words f
closing-breaks words f frame starts lists h = behind words f frame (inr ((λ none. none starts), inr ((λ t lt none. none (lists t lt)), h)))

-- where no check breaks, none is the first
pub passes-packed : (words : List ℕ) (f : OpenFault) → PassesPacked words → IsFirstBrokenPacked words f → ⊥
passes-packed words f pass h =
    elim (match-at-none (packed_frame_broken words) (Behind words f) (IsFaultOf f) (packed-frame-none words pass.frame) h) [
      | inl (none, e) ↦ none pass.starts
      | inr (some, later) ↦
          elim later [
            | inl (t, lt, unstored, before, e) ↦ unstored (pass.lists t lt)
            | inr (all, closing) ↦ elim closing [ inl (set, e) ↦ set pass.closing.lists | inr (filled, (odd, high, e)) ↦ high (pass.closing.sizes odd) ]
          ]
    ]

-- and there is one first
same-fault : (f g : OpenFault) (k : Check) (t : ℕ) → IsFaultAt f k t → IsFaultAt g k t → f ≡ g
same-fault f g k t a b = a ∙ sym b

closing-one : (words : List ℕ) (f g : OpenFault) → IsPackedClosingFault words f → IsPackedClosingFault words g → f ≡ g
closing-one words f g h k =
    elim (or-else-agree (¬ HasNoOne (bits_of words) (first_list_bit + packed_bits words) (64 * packed_sizes words)) _ _ _ _ h k) [
      | inl (a, b) ↦ same-fault f g K9 (packed_terms words) a b
      | inr (a, b) ↦ same-fault f g K11 0 a.2 b.2
    ]

behind-one : (words : List ℕ) (f g : OpenFault) → Behind words f → Behind words g → f ≡ g
behind-one words f g h k =
    elim (or-else-agree (¬ HasStarts words) _ _ _ _ h k) [
      | inl (a, b) ↦ same-fault f g K12 0 a b
      | inr (a, b) ↦
          elim (first-of-agree (λ t. ¬ IsListStored words t) (IsFaultAt f K13) (IsFaultAt g K13) (packed_terms words) (IsPackedClosingFault words f) (IsPackedClosingFault words g) a b) [
            | inl (t, x, y) ↦ same-fault f g K13 t x y
            | inr (x, y) ↦ closing-one words f g x y
          ]
    ]

pub one-packed-fault : (words : List ℕ) (f g : OpenFault) → IsFirstBrokenPacked words f → IsFirstBrokenPacked words g → f ≡ g
one-packed-fault words f g h k =
    elim (cases-option (packed_frame_broken words)) [
      | inl e ↦
          behind-one words f g (match-at-none (packed_frame_broken words) (Behind words f) (IsFaultOf f) e h)
          (match-at-none (packed_frame_broken words) (Behind words g) (IsFaultOf g) e k)
      | inr (check, e) ↦
          same-fault f g check 0 (match-at-some (packed_frame_broken words) check (Behind words f) (IsFaultOf f) e h)
          (match-at-some (packed_frame_broken words) check (Behind words g) (IsFaultOf g) e k)
    ]
