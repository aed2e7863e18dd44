use Rattle.std.proofs.Common.{◌≡◌, ℕ, ◌+◌, ◌-◌, ◌<◌, ◌≤◌, ◌^◌, List, length, take, drop, slice_index, inl, inr, sym, ap, ◌∙◌, arith}
use Rattle.std.proofs.lemmas.Bool.{cases_lt}
use Rattle.std.proofs.lemmas.List.{get_or-take, length-take-le}
use Rattle.collection_model.specs.NextBelow.{AreNextBelow}
use Rattle.std.specs.List.{slice_range}
use Rattle.std.proofs.lemmas.List.{length-drop, get_or-drop, ext_get_or}
use Rattle.part_cost.specs.Payload.{widest_low}
use Rattle.part_cost.specs.Span.{past}
use Rattle.part_cost.proofs.Parts.{past-at}
use Rattle.sequence_words.specs.SequenceParts.{counted_from}
use Rattle.part_directory.specs.HeldParts.{HoldsValues}
use Rattle.part_directory.specs.declared.held.HeldPart.{HeldPart}
use Rattle.part_directory.proofs.HeldParts.{relative-count}

-- the numbers of a part below x, raised by what stands before the part, are its values below x
pub restored-below : (held : HeldPart) (xs : List ℕ) → HoldsValues held xs → (place x least n : ℕ) (numbers given : List ℕ) → held.part.from ≤ place → place < held.part.to → least ≡ x - held.past
    → AreNextBelow (counted_from held.past xs held.part.from held.part.to) (place - held.part.from) least numbers n → length given ≡ length numbers
    → ((j : ℕ) → j < n → slice_index given j ≡ slice_index numbers j + held.past) → AreNextBelow (take held.part.to xs) place x given n
restored-below held xs h place x least n numbers given after before l r room raised =
    let from : ℕ = held.part.from in
    let ys : List ℕ = counted_from held.past xs from held.part.to in
    let few : length ys ≡ held.part.to - from = relative-count held xs h in
    let count : length (take held.part.to xs) ≡ held.part.to = length-take-le held.part.to xs h.within in
    let value : (j : ℕ) → place + j < held.part.to → slice_index ys (place - from + j) + held.past ≡ slice_index (take held.part.to xs) (place + j) =
    λ j lt.
    h.restored (place - from + j) (omega (arith, after, lt))
    ∙ ap (slice_index xs) (let e : from + (place - from + j) ≡ place + j = omega (arith, after) in e)
    ∙ sym (get_or-take held.part.to xs (place + j) 0 lt) in
    let fits : place + n ≤ held.part.to = omega (arith, r.within, few, after, before) in
    record {
      room = omega (arith, r.room, room);
      within = omega (arith, fits, count);
      same = λ j lt. omega (arith, raised j lt, r.same j lt, value j (omega (arith, lt, fits)));
      below = λ j lt. omega (arith, r.below j lt, value j (omega (arith, lt, fits)), l);
      full = λ short lt. let most = r.full (omega (arith, short, room)) (omega (arith, lt, count, few, after)) in omega (arith, most, value n (omega (arith, lt, count)), l);
    }

-- a number of a part that is given, raised so, is still a value
pub value-fits : (held : HeldPart) (xs : List ℕ) → HoldsValues held xs → (place x n : ℕ) (numbers : List ℕ) → held.part.from ≤ place → place < held.part.to
    → AreNextBelow (counted_from held.past xs held.part.from held.part.to) (place - held.part.from) x numbers n → (j : ℕ) → j < n → slice_index numbers j + held.past < 2 ^ 64
value-fits held xs h place x n numbers after before r j lt =
    let few = relative-count held xs h in
    let at : ℕ = place - held.part.from + j in
    let here = h.restored at (omega (arith, r.within, few, after, before, lt)) in
    omega (arith, r.same j lt, here, h.in_range (held.part.from + at) 0 (omega (arith, r.within, few, after, before, lt, h.within)))

-- values that are given are all those of a part from a place on, as many as have room
pub all-given : (xs given : List ℕ) (to place n : ℕ) → to ≤ length xs → place + length given ≤ to → ((k : ℕ) → k < length xs → slice_index xs k < 2 ^ 63) → AreNextBelow (take to xs) place (2 ^ 64 - 1) given n
    → given ≡ slice_range xs place (place + length given)
all-given xs given to place n fit within small h =
    let most : length (take to xs) ≡ to = length-take-le to xs fit in
    let n_is : n ≡ length given =
    elim (cases_lt n (length given)) [
      | inl less ↦
          (let high = h.full less (omega (arith, less, within, most)) in
          let same : slice_index (take to xs) (place + n) ≡ slice_index xs (place + n) = get_or-take to xs (place + n) 0 (omega (arith, less, within)) in
          let low = small (place + n) (omega (arith, less, within, fit)) in
          absurd (omega (arith, high, same, low)))
      | inr more ↦ omega (arith, more, h.room)
    ] in
    let size : place + length given - place ≡ length given = omega arith in
    let range : length (slice_range xs place (place + length given)) ≡ length given =
    length-take-le (place + length given - place) (drop place xs) (omega (arith, length-drop place xs, within, fit)) ∙ size in
    ext_get_or 0 given (slice_range xs place (place + length given)) (sym range)
    (λ k lt.
    h.same k (omega (arith, lt, n_is)) ∙ get_or-take to xs (place + k) 0 (omega (arith, lt, within))
    ∙ sym (get_or-take (place + length given - place) (drop place xs) k 0 (omega (arith, lt)) ∙ get_or-drop place xs k 0))

-- the next values of a part, as many as have room
pub record IsBlock (xs : List ℕ) (place : ℕ) (given : List ℕ) : Type 0 where
  pub all : given ≡ slice_range xs place (place + length given)
  pub small : (k : ℕ) → k < length given → slice_index given k < 2 ^ widest_low
  pub last : slice_index given (length given - 1) + 1 ≡ past xs (place + length given)

pub is-block : (held : HeldPart) (xs given : List ℕ) (place n : ℕ) → HoldsValues held xs → 0 < length given → place + length given ≤ held.part.to
    → AreNextBelow (take held.part.to xs) place (2 ^ 64 - 1) given n → IsBlock xs place given
is-block held xs given place n h some fit below =
    let all = all-given xs given held.part.to place n h.within fit (λ k lt. omega (arith, h.in_range k 0 lt)) below in
    let at : (k : ℕ) → k < length given → slice_index given k ≡ slice_index xs (place + k) =
    λ k lt.
    ap (λ zs. slice_index zs k) all
    ∙ get_or-take (place + length given - place) (drop place xs) k 0 (omega (arith, lt)) ∙ get_or-drop place xs k 0 in
    record {
      all = all;
      small = λ k lt. omega (arith, at k lt, h.in_range (place + k) 0 (omega (arith, lt, fit, h.within)));
      last =
          (let here : place + (length given - 1) ≡ place + length given - 1 = omega (arith, some) in
          omega (arith, at (length given - 1) (omega (arith, some)), ap (slice_index xs) here, past-at xs (place + length given) (omega (arith, some))));
    }
