use Rattle.std.proofs.Common.{◌≡◌, ◌≢◌, ◌⊎◌, inl, inr, Bool, true, false, refl, Decides}
use denote.Enum.Bare.{same_true, true_same}
use Rattle.io_traits.specs.declared.fail.Slot.{Slot}
use Rattle.io_traits.specs.contracts.fail.Slot.{the_type}
use Rattle.io_traits.specs.contracts.fail.SlotPartialEq.TheImpl as slot

-- `==` of slots is equality
pub slot_eq : (a b : Slot) → Decides (slot.ghosts.eq a b) (a ≡ b)
slot_eq a b = (same_true the_type tt a b, true_same the_type a b)

pub same_or_other : (a b : Slot) → (a ≡ b) ⊎ (a ≢ b)
same_or_other a b = by_test (slot.ghosts.eq a b) (slot_eq a b)
  where
    by_test : (t : Bool) → Decides t (a ≡ b) → (a ≡ b) ⊎ (a ≢ b)
    by_test true d = inl (d.0 refl)
    by_test false d = inr (λ e. let h = d.1 e in cc)
