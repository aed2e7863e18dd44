-- What the checks of a packed file find.
use Rattle.std.proofs.Common.{◌≡◌, ℕ, ◌+◌, ◌-◌, ◌*◌, ◌/◌, ◌≤◌, ◌<◌, Bool, true, false, List, length, slice_index, sym, ap, ◌∙◌, arith}
use Rattle.bit_words.specs.Bits.{HasNoOne, IsFirstOne}
use Rattle.part_cost.specs.Payload.{payload}
use Rattle.part_codec.specs.declared.views.PartView.{PartView}
use Rattle.part_codec.specs.PartView.{Holds}
use Rattle.part_codec.specs.Laws.{ValuesStandAt}
use Rattle.part_codec.proofs.Relative.{one_list-held}
use Rattle.sequence_words.specs.declared.check.Check.{Check}
use Rattle.index_file.specs.declared.fault.OpenFault.{OpenFault}
use Rattle.index_file.specs.declared.packed_frame.PackedFrame.{PackedFrame}
use Rattle.index_file.specs.PackedWords.{first_list_bit}
use Rattle.index_file.specs.PackedAt.{packed_terms, packed_bits, packed_directory, starts_universe, starts_stated, start_stated, HasPackedFrame, HasStarts}
use Rattle.index_file.specs.PackedFaults.{StatesPackedFrame}
use Rattle.index_file.proofs.PackedStarts.{start-lies, next-lies, lists-within}

-- a place whose bit is set is none of a range without ones
pub one-set : (bits : List ℕ) (from to p : ℕ) → IsFirstOne bits from to p → HasNoOne bits from to → ⊥
one-set bits from to p first none = omega (arith, first.one, none p first.at_or_after first.before_end)

-- no test has both answers
pub not-both : (b : Bool) → b ≡ true → b ≡ false → ⊥
not-both b t f = let e : ◌≡◌ {A = Bool} true false = sym t ∙ f in cc

-- a range without ones at other names of its ends
pub none-at : (bits : List ℕ) (a b c d : ℕ) → a ≡ b → c ≡ d → HasNoOne bits a c → HasNoOne bits b d
none-at bits a b c d e f none q ge lt = none q (omega (arith, ge, e)) (omega (arith, lt, f))

-- the place behind the directory's bits
pub place-behind : (words : List ℕ) (frame : PackedFrame) (p taken : ℕ) → StatesPackedFrame words frame → p ≡ 2 + (frame.bits + 63) / 64 + (frame.documents + 1) / 2
    → taken ≡ payload (frame.bits + frame.terms + 1) (frame.terms + 1)
    → 64 * p + taken ≡ 64 * packed_directory words + payload (starts_universe (packed_bits words) (packed_terms words)) (packed_terms words + 1)
place-behind words frame p taken numbers e f =
    let u : frame.bits + frame.terms + 1 ≡ starts_universe (packed_bits words) (packed_terms words) = omega (arith, numbers.bits, numbers.terms) in
    let m : frame.terms + 1 ≡ packed_terms words + 1 = omega (arith, numbers.terms) in
    let same : payload (frame.bits + frame.terms + 1) (frame.terms + 1) ≡ payload (starts_universe (packed_bits words) (packed_terms words)) (packed_terms words + 1) =
    ap (λ k. payload k (frame.terms + 1)) u ∙ ap (payload (starts_universe (packed_bits words) (packed_terms words))) m in
    omega (arith, e, f, same, numbers.bits, numbers.documents)

-- a fault at another name of its term
pub term-as : (check : Check) (t u : ℕ) → t ≡ u → ◌≡◌ {A = OpenFault} (record { check = check; term = t; part = 0 }) (record { check = check; term = u; part = 0 })
term-as check t u e = ap (λ (k : ℕ). record { check = check; term = k; part = 0 }) e

-- a number of the directory, by a view of it
pub number-held : (starts : PartView) (xs : List ℕ) (number t : ℕ) → Holds starts xs → number ≡ slice_index xs t → (ys : List ℕ) → Holds starts ys → number ≡ slice_index ys t
number-held starts xs number t held e ys h = e ∙ ap (λ zs. slice_index zs t) (one_list-held starts xs ys held h)

-- where the bits of a list stand, by two numbers of the directory
pub record AreBetween (words : List ℕ) (t number next : ℕ) : Type 0 where
  pub reached : t ≤ number
  pub few : number ≤ packed_bits words + t
  pub less : number < next
  pub next_few : next ≤ packed_bits words + t + 1
  pub from : first_list_bit + number - t ≡ first_list_bit + start_stated words t
  pub to : first_list_bit + next - 1 - t ≡ first_list_bit + start_stated words (t + 1)
  pub ordered : first_list_bit + number - t ≤ first_list_bit + next - 1 - t
  pub within : first_list_bit + next - 1 - t ≤ 64 * length words

pub are-between : ValuesStandAt → (words : List ℕ) → HasPackedFrame words → HasStarts words → (t number next : ℕ) → t < packed_terms words → number ≡ slice_index (starts_stated words) t
    → next ≡ slice_index (starts_stated words) (t + 1) → AreBetween words t number next
are-between values words frame starts t number next lt e f =
    let here = start-lies values words starts t (omega (arith, lt)) in
    let there = start-lies values words starts (t + 1) (omega (arith, lt)) in
    let rises = next-lies values words starts t lt in
    record {
      reached = omega (arith, here.at_least, e);
      few = omega (arith, here.at_most, e);
      less = omega (arith, rises, e, f);
      next_few = omega (arith, there.at_most, f);
      from = omega (arith, here.at_least, e);
      to = omega (arith, there.at_least, f);
      ordered = omega (arith, here.at_least, rises, e, f);
      within = omega (arith, there.at_most, f, lists-within words frame);
    }
