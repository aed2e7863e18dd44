-- Reading a slot, piece by piece, byte by byte and number by number.
use Rattle.std.specs.Prelude.{◌≡◌, ℕ, Bool, ◌^◌, ◌<◌, true, false, IsTrue, List, [], ◌∷◌, ◌++◌, length, Option, Some, None, Result, Ok, OnErr}
use Rattle.collection_model.specs.Bytes.{le32}
use Rattle.io_traits.specs.declared.fail.IoFail.{IoFail}
use Rattle.io_traits.specs.declared.fail.Slot.{Slot}
use Rattle.io_traits.specs.Calls.{CountsFaults, CountsRefusals}
use Rattle.io_traits.specs.DepotState.{DepotState, SameStarts, OnlyReads}

-- what is left of a file: the bytes held, and then those that its slot has left
abbrev pub rest_of : List ℕ → DepotState → Slot → List ℕ
rest_of held depot slot = held ++ depot.left slot

-- Only this slot is read, and the counts go on as in one call.
pub record ReadsOn {A : Type 0} (slot : Slot) (old new : DepotState) (result : Result A IoFail)
    : Type 0 where
  pub only : OnlyReads (λ s. s ≡ slot) old new
  pub counts : CountsFaults (old.faults slot) (new.faults slot) result
  pub refusals : CountsRefusals old.refusals new.refusals result
  pub starts : SameStarts old new

-- Whether a byte is left. What is left stays as it is, also where a read fails: it is read where
-- none is held.
pub record LooksAhead (slot : Slot) (held held_after : List ℕ) (old new : DepotState)
    (result : Result Bool IoFail) : Type 0 where
  pub same_rest : IsTrue old.tells → rest_of held_after new slot ≡ rest_of held old slot
  pub more : result ≡ Ok true → 0 < length held_after
  pub no_more : result ≡ Ok false → (held ≡ []) × (held_after ≡ [])
  pub refused : OnErr result ((held ≡ []) × (held_after ≡ []))
  pub at_end : IsTrue old.tells → result ≡ Ok false → rest_of held old slot ≡ []
  pub depot : ReadsOn slot old new result

-- The next byte, or that there is none. Where a read fails what is left stays as it is.
pub record TakesByte (slot : Slot) (held held_after : List ℕ) (old new : DepotState)
    (result : Result (Option ℕ) IoFail) : Type 0 where
  pub fits : (b : ℕ) → result ≡ Ok (Some b) → b < 256
  pub byte : IsTrue old.tells → (b : ℕ) → result ≡ Ok (Some b)
      → rest_of held old slot ≡ b ∷ rest_of held_after new slot
  pub at_end : IsTrue old.tells → result ≡ Ok None → rest_of held old slot ≡ []
  pub no_byte : result ≡ Ok None → (held ≡ []) × (held_after ≡ [])
  pub refused : OnErr result ((held ≡ []) × (held_after ≡ []))
  pub same_rest : IsTrue old.tells
      → OnErr result (rest_of held_after new slot ≡ rest_of held old slot)
  pub depot : ReadsOn slot old new result

-- These are left behind fewer than four others, the bytes of a number that was not whole.
abbrev pub LeftOfNumber : List ℕ → List ℕ → Type 0
LeftOfNumber left left_after = (gone : List ℕ) × (length gone < 4) × (left ≡ gone ++ left_after)

-- The next number, or that fewer than four bytes are left. Where a read fails the bytes before it
-- are gone.
pub record TakesNumber (slot : Slot) (held held_after : List ℕ) (old new : DepotState)
    (result : Result (Option ℕ) IoFail) : Type 0 where
  pub fits : (n : ℕ) → result ≡ Ok (Some n) → n < 2 ^ 32
  pub number : IsTrue old.tells → (n : ℕ) → result ≡ Ok (Some n)
      → rest_of held old slot ≡ le32 n ++ rest_of held_after new slot
  pub too_short : IsTrue old.tells → result ≡ Ok None → length (rest_of held old slot) < 4
  pub no_number : result ≡ Ok None → (length held < 4) × (held_after ≡ [])
  pub refused : OnErr result ((length held < 4) × (held_after ≡ []))
  pub left_at_refusal : IsTrue old.tells
      → OnErr result (LeftOfNumber (rest_of held old slot) (rest_of held_after new slot))
  pub depot : ReadsOn slot old new result
