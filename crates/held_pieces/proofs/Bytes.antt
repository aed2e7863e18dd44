-- Lemmas on the bytes held of a slot, and on the bytes and numbers that are taken from them.
use Rattle.std.proofs.Common.{refl, ◌≡◌, ◌∙◌, sym, ap, ℕ, suc, ◌+◌, ◌-◌, ◌<◌, ◌≤◌, ◌∷◌, ◌++◌, List, [], length, take, drop, get_or, arith, add-one, Ok, Err, Some, None, true, false, IsTrue, drop-cons}
use Rattle.std.proofs.lemmas.List.{length-append, length-take}
use Rattle.io_traits.specs.declared.fail.IoFail.{IoFail}
use Rattle.io_traits.specs.declared.fail.Slot.{Slot}
use Rattle.io_traits.specs.DepotState.{DepotState}
use Rattle.held_pieces.specs.Pieces.{LooksAhead, TakesByte, TakesNumber, ReadsOn, rest_of}
use Rattle.held_pieces.proofs.SlotReads.{reads-ok, reads-err, reads-on}

-- where a look ahead fails no byte is taken
pub byte_refused : (slot : Slot) (held held_after : List ℕ) (old new : DepotState) (e : IoFail) → LooksAhead slot held held_after old new (Err e) → TakesByte slot held held_after old new (Err e)
byte_refused slot held held_after old new e look = record {
  fits = λ b h. absurd cc;
  byte = λ t b h. absurd cc;
  at_end = λ t h. absurd cc;
  no_byte = λ h. absurd cc;
  refused = look.refused;
  same_rest = look.same_rest;
  depot = reads-err e look.depot;
}

-- where there is no byte
pub no_byte : (slot : Slot) (held held_after : List ℕ) (old new : DepotState) → LooksAhead slot held held_after old new (Ok false) → TakesByte slot held held_after old new (Ok None)
no_byte slot held held_after old new look = record {
  fits = λ b h. absurd cc;
  byte = λ t b h. absurd cc;
  at_end = λ t h. look.at_end t refl;
  no_byte = λ h. look.no_more refl;
  refused = tt;
  same_rest = λ t. tt;
  depot = reads-ok None look.depot;
}

-- the first byte of those held is taken
pub byte_taken : (slot : Slot) (held mid held_after : List ℕ) (old new : DepotState) (b : ℕ) → b < 256 → LooksAhead slot held mid old new (Ok true) → mid ≡ b ∷ held_after → TakesByte slot held held_after old new (Ok (Some b))
byte_taken slot held mid held_after old new b fits look e = record {
  fits = λ c h. (let same : b ≡ c = cc in omega arith);
  byte = λ t c h. (let same : b ≡ c = cc in sym (look.same_rest t) ∙ ap (λ h. h ++ new.left slot) e ∙ ap (λ (c : ℕ). c ∷ rest_of held_after new slot) same);
  at_end = λ t h. absurd cc;
  no_byte = λ h. absurd cc;
  refused = tt;
  same_rest = λ t. tt;
  depot = reads-ok (Some b) look.depot;
}

-- the bytes held, the first of them apart
pub first_held : (piece : List ℕ) (used end : ℕ) → used < end → end ≤ length piece → take (end - used) (drop used piece) ≡ get_or piece used 0 ∷ take (end - (used + 1)) (drop (used + 1) piece)
first_held piece used end lt within =
    let l : used < length piece = omega arith in
    let e : end - used ≡ suc (end - suc used) = omega arith in
    rw (add-one, drop-cons piece used 0) (ap (λ n. take n (get_or piece used 0 ∷ drop (suc used) piece)) e)

-- where a byte is refused, after k bytes of a number, the number is refused
pub number_refused : (slot : Slot) (first mid last : List ℕ) (a b c : DepotState) (k : ℕ) (bytes : List ℕ) (e : IoFail) → k < 4 → length first < 4
    → (IsTrue a.tells → rest_of first a slot ≡ take k bytes ++ rest_of mid b slot) → ReadsOn slot a b (Ok k) → TakesByte slot mid last b c (Err e) → TakesNumber slot first last a c (Err e)
number_refused slot first mid last a b c k bytes e lt few rest reads byte = record {
  fits = λ n h. absurd cc;
  number = λ t n h. absurd cc;
  too_short = λ t h. absurd cc;
  no_number = λ h. absurd cc;
  refused = (few, byte.refused.1);
  left_at_refusal = λ t. (take k bytes, omega (arith, length-take k bytes), rest t ∙ ap (λ xs. take k bytes ++ xs) (sym (byte.same_rest (reads.only.tells ∙ t))));
  depot = reads-on reads (reads-err e byte.depot);
}

-- where there is no byte after k bytes of a number, there is no number
pub no_number : (slot : Slot) (first mid last : List ℕ) (a b c : DepotState) (k : ℕ) (bytes : List ℕ) → k < 4 → length first < 4
    → (IsTrue a.tells → rest_of first a slot ≡ take k bytes ++ rest_of mid b slot) → ReadsOn slot a b (Ok k) → TakesByte slot mid last b c (Ok None) → TakesNumber slot first last a c (Ok None)
no_number slot first mid last a b c k bytes lt few rest reads byte = record {
  fits = λ n h. absurd cc;
  number = λ t n h. absurd cc;
  too_short = λ t h.
      let none = byte.at_end (reads.only.tells ∙ t) refl in
      rw (rest t, none) (omega (arith, length-append (take k bytes) [], length-take k bytes));
  no_number = λ h. (few, (byte.no_byte refl).1);
  refused = tt;
  left_at_refusal = λ t. tt;
  depot = reads-on reads byte.depot;
}
