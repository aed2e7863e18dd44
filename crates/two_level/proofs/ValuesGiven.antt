-- Values of a part that are given one after another.
use Rattle.std.proofs.Common.{◌≡◌, ℕ, zero, suc, ◌+◌, ◌-◌, ◌<◌, ◌≤◌, ◌++◌, List, length, take, slice_index, inl, inr, sym, ap, ◌∙◌, arith}
use Rattle.std.proofs.lemmas.Bool.{cases_lt}
use Rattle.std.proofs.lemmas.List.{get_or_append_left, get_or-append_right, get_or-take, length-take-le, ext_get_or}
use Rattle.collection_model.specs.NextBelow.{AreNextBelow}
use Rattle.collection_model.proofs.NextBelow.{AreGiven}

-- what is given behind those that were
pub given-behind : (numbers given rest after : List ℕ) (from x count more : ℕ) → count ≤ length given → more ≤ length rest → AreGiven numbers from x given count → AreGiven numbers (from + count) x rest more
    → take (count + length rest) after ≡ take count given ++ rest → AreGiven numbers from x after (count + more)
given-behind numbers given rest after from x count more room fits h r is =
    let prefix : length (take count given) ≡ count = length-take-le count given room in
    let at : (j : ℕ) → j < count + more → slice_index after j ≡ slice_index (take count given ++ rest) j =
    λ j less. sym (get_or-take (count + length rest) after j 0 (omega (arith, less, fits))) ∙ ap (λ zs. slice_index zs j) is in
    record {
      same =
          λ j less.
          elim (cases_lt j count) as (λ _. slice_index after j ≡ slice_index numbers (from + j)) [
            | inl before ↦ at j less ∙ get_or_append_left (take count given) rest 0 j (omega (arith, before, prefix)) ∙ get_or-take count given j 0 before ∙ h.same j before
            | inr behind ↦ (let f : from + count + (j - count) ≡ from + j = omega (arith, behind) in
                at j less ∙ get_or-append_right (take count given) rest count j 0 prefix behind ∙ r.same (j - count) (omega (arith, less, behind)) ∙ ap (slice_index numbers) f)
          ];
      below =
          λ j less.
          elim (cases_lt j count) as (λ _. slice_index numbers (from + j) < x) [
            | inl before ↦ h.below j before
            | inr behind ↦ (let e : from + count + (j - count) ≡ from + j = omega (arith, behind) in
                omega (arith, r.below (j - count) (omega (arith, less, behind)), ap (slice_index numbers) e))
          ];
    }

-- the values up to the end of a part are among all
pub of-part : (xs given : List ℕ) (to place x n : ℕ) → to ≤ length xs → AreNextBelow (take to xs) place x given n → AreGiven xs place x given n
of-part xs given to place x n fit h =
    let count : length (take to xs) ≡ to = length-take-le to xs fit in
    let same : (j : ℕ) → j < n → slice_index (take to xs) (place + j) ≡ slice_index xs (place + j) = λ j lt. get_or-take to xs (place + j) 0 (omega (arith, lt, count, h.within)) in
    record {
      same = λ j lt. h.same j lt ∙ same j lt;
      below = λ j lt. omega (arith, h.below j lt, same j lt);
    }

-- where the first of them is below x, there is one
pub some-of-part : (xs given : List ℕ) (to place x n : ℕ) → to ≤ length xs → place < to → 0 < length given → slice_index xs place < x → AreNextBelow (take to xs) place x given n → 0 < n
some-of-part xs given to place x zero fit lt room small h =
    let count : length (take to xs) ≡ to = length-take-le to xs fit in
    let most = h.full room (omega (arith, lt, count)) in
    let same : slice_index (take to xs) (place + 0) ≡ slice_index xs (place + 0) = get_or-take to xs (place + 0) 0 (omega (arith, lt)) in
    absurd (omega (arith, most, same, small, ap (slice_index xs) (let e : place + 0 ≡ place = omega arith in e)))
some-of-part xs given to place x (suc n) fit lt room small h = omega arith

-- they are all those up to the last of them
pub up-to : (xs given : List ℕ) (to place x n : ℕ) → to ≤ length xs → AreNextBelow (take to xs) place x given n → AreNextBelow (take (place + n) xs) place x given n
up-to xs given to place x n fit h =
    let most : length (take to xs) ≡ to = length-take-le to xs fit in
    let count : length (take (place + n) xs) ≡ place + n = length-take-le (place + n) xs (omega (arith, h.within, most, fit)) in
    let same : (j : ℕ) → j < n → slice_index (take to xs) (place + j) ≡ slice_index (take (place + n) xs) (place + j) =
    λ j lt. get_or-take to xs (place + j) 0 (omega (arith, lt, most, h.within)) ∙ sym (get_or-take (place + n) xs (place + j) 0 (omega (arith, lt))) in
    record {
      room = h.room;
      within = omega (arith, count);
      same = λ j lt. h.same j lt ∙ same j lt;
      below = λ j lt. omega (arith, h.below j lt, same j lt);
      full = λ short lt. absurd (omega (arith, lt, count));
    }

-- where there is room for all numbers of a part, and these are the values, the values are given
pub all-of-part : (xs ys given : List ℕ) (n : ℕ) → length ys ≡ length xs → length given ≡ length xs → ((j : ℕ) → j < length xs → slice_index ys j ≡ slice_index xs j) → ((j : ℕ) → j < length xs → slice_index xs j < 18446744073709551615)
    → AreNextBelow ys 0 18446744073709551615 given n → given ≡ xs
all-of-part xs ys given n count room same small h =
    let all : n ≡ length xs =
    elim (cases_lt n (length xs)) [
      | inl less ↦ absurd (omega (arith, h.full (omega (arith, less, room)) (omega (arith, less, count)), same n less, small n less))
      | inr more ↦ omega (arith, more, h.room, room)
    ] in
    ext_get_or 0 given xs room (λ j lt. h.same j (omega (arith, lt, all, room)) ∙ ap (slice_index ys) (let e : 0 + j ≡ j = omega arith in e) ∙ same j (omega (arith, lt, room)))
