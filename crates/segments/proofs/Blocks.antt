-- Lemmas on postings of several parts that are given one part after the other.
use Rattle.std.proofs.Common.{◌≡◌, sym, ap, ◌∙◌, subst, ℕ, ◌+◌, ◌-◌, ◌<◌, ◌≤◌, List, ◌++◌, length, get_or, take, drop, inl, inr, arith, length-append, length-drop}
use Rattle.std.specs.Prelude.{slice_index}
use borrow.Rule.Slice.PartMut.{put_mid}
use Rattle.std.proofs.lemmas.Bool.{cases_lt}
use Rattle.std.proofs.lemmas.List.{get_or_append_left, get_or-append_right, get_or-take, length-take-le}
use Rattle.std.proofs.lemmas.Slice.{take-put_mid}
use Rattle.collection_model.specs.Collection.{Posting, docs_of, freqs_of}
use Rattle.collection_model.specs.NextBelow.{AreNextBelow}
use Rattle.collection_model.proofs.Lists.{docs_of-length}
use Rattle.collection_model.proofs.NextBelow.{AreGiven, given-all}
use Rattle.segments.specs.Joined.{ListPart, shifted, joined_list}
use Rattle.segments.specs.JoinedCursor.{no_part, places_of, start_of, joined_place}
use Rattle.segments.specs.CursorPlaces.{part-within}
use Rattle.segments.proofs.Shifts.{shifted-many}
use Rattle.segments.proofs.Joins.{doc-at, freq-at, IsMoved}

-- So many of the numbers from a place on stand at the head of others.
pub record AreCopied (numbers : List ℕ) (from : ℕ) (given : List ℕ) (count : ℕ) : Type 0 where
  pub same : (j : ℕ) → j < count → slice_index given j ≡ slice_index numbers (from + j)

pub copied-none : (numbers : List ℕ) (from : ℕ) (given : List ℕ) → AreCopied numbers from given 0
copied-none numbers from given = record { same = λ j lt. absurd (omega arith) }

-- the numbers behind those that were copied
pub copied-behind : (numbers given rest after : List ℕ) (from count more : ℕ) → count ≤ length given → more ≤ length rest → AreCopied numbers from given count → AreCopied numbers (from + count) rest more
    → take (count + length rest) after ≡ take count given ++ rest → AreCopied numbers from after (count + more)
copied-behind numbers given rest after from count more room fits h r is =
    let prefix : length (take count given) ≡ count = length-take-le count given room in
    let at : (j : ℕ) → j < count + more → slice_index after j ≡ slice_index (take count given ++ rest) j =
    λ j less. sym (get_or-take (count + length rest) after j 0 (omega (arith, less, fits))) ∙ ap (λ zs. slice_index zs j) is in
    record {
      same =
          λ j less.
          elim (cases_lt j count) as (λ _. slice_index after j ≡ slice_index numbers (from + j)) [
            | inl before ↦ at j less ∙ get_or_append_left (take count given) rest 0 j (omega (arith, before, prefix)) ∙ get_or-take count given j 0 before ∙ h.same j before
            | inr behind ↦ (let f : from + count + (j - count) ≡ from + j = omega (arith, behind) in
                at j less ∙ get_or-append_right (take count given) rest count j 0 prefix behind ∙ r.same (j - count) (omega (arith, less, behind)) ∙ ap (slice_index numbers) f)
          ];
    }

-- the documents that a part gives, as documents of the joined list
part-docs : (parts : List ListPart) (at from place end n : ℕ) (rest : List ℕ) → at < length parts → from ≡ start_of parts at + place
    → AreNextBelow (docs_of (shifted (get_or parts at no_part).first (get_or parts at no_part).list)) place end rest n
    → AreGiven (docs_of (joined_list parts)) from end rest n
part-docs parts at from place end n rest within here is =
    let p : ListPart = get_or parts at no_part in
    let read : (j : ℕ) → j < n → slice_index (docs_of (joined_list parts)) (from + j) ≡ slice_index (docs_of (shifted p.first p.list)) (place + j) = λ j lt.
    let e : from + j ≡ start_of parts at + (place + j) = omega arith in
    ap (slice_index (docs_of (joined_list parts))) e ∙ doc-at parts at (place + j) within (omega (arith, lt, is.within, shifted-many p.first p.list)) in
    record {
      same = λ j lt. is.same j lt ∙ sym (read j lt);
      below = λ j lt. omega (arith, is.below j lt, read j lt);
    }

-- those of the next part stand behind those that were given
pub given-more : (parts : List ListPart) (at from place end count n : ℕ) (given rest after : List ℕ) → at < length parts → start_of parts at + place ≡ from + count
    → count ≤ length given → AreGiven (docs_of (joined_list parts)) from end given count
    → AreNextBelow (docs_of (shifted (get_or parts at no_part).first (get_or parts at no_part).list)) place end rest n
    → take (count + length rest) after ≡ take count given ++ rest → AreGiven (docs_of (joined_list parts)) from end after (count + n)
given-more parts at from place end count n given rest after within here room before is behind =
    let numbers : List ℕ = docs_of (joined_list parts) in
    let new = part-docs parts at (from + count) place end n rest within (sym here) is in
    let both = copied-behind numbers given rest after from count n room is.room (record { same = before.same }) (record { same = new.same }) behind in
    record {
      same = both.same;
      below = λ j lt. elim (cases_lt j count) as (λ _. slice_index numbers (from + j) < end) [
        | inl early ↦ before.below j early
        | inr late ↦ (let e : from + count + (j - count) ≡ from + j = omega arith in omega (arith, new.below (j - count) (omega arith), ap (slice_index numbers) e))
      ];
    }

pub copied-more : (parts : List ListPart) (at from place count n : ℕ) (given rest after : List ℕ) → at < length parts → start_of parts at + place ≡ from + count
    → count ≤ length given → n ≤ length rest → place + n ≤ length (get_or parts at no_part).list → AreCopied (freqs_of (joined_list parts)) from given count
    → ((j : ℕ) → j < n → slice_index rest j ≡ slice_index (freqs_of (get_or parts at no_part).list) (place + j))
    → take (count + length rest) after ≡ take count given ++ rest → AreCopied (freqs_of (joined_list parts)) from after (count + n)
copied-more parts at from place count n given rest after within here room fits inside before is behind =
    let numbers : List ℕ = freqs_of (joined_list parts) in
    copied-behind numbers given rest after from count n room fits before
    (record {
      same = λ j lt.
          let e : from + count + j ≡ start_of parts at + (place + j) = omega arith in
          is j lt ∙ sym (ap (slice_index numbers) e ∙ freq-at parts at (place + j) within (omega arith));
    }) behind

-- a part that has a posting left was read as far as there is room, or to the end
pub given-stop : (parts : List ListPart) (at from place end count n : ℕ) (rest after : List ℕ) → at < length parts → start_of parts at + place ≡ from + count
    → place + n < length (get_or parts at no_part).list → length after ≡ count + length rest → AreGiven (docs_of (joined_list parts)) from end after (count + n)
    → AreNextBelow (docs_of (shifted (get_or parts at no_part).first (get_or parts at no_part).list)) place end rest n
    → AreNextBelow (docs_of (joined_list parts)) from end after (count + n)
given-stop parts at from place end count n rest after within here left room all is =
    let p : ListPart = get_or parts at no_part in
    let many : length (docs_of (joined_list parts)) ≡ length (joined_list parts) = docs_of-length (joined_list parts) in
    let e : from + (count + n) ≡ start_of parts at + (place + n) = omega arith in
    given-all (docs_of (joined_list parts)) from end after (count + n) all (omega (arith, is.room)) (omega (arith, part-within parts at within))
    (λ short more.
    let most = is.full (omega arith) (omega (arith, left, shifted-many p.first p.list)) in
    omega (arith, most, ap (slice_index (docs_of (joined_list parts))) e, doc-at parts at (place + n) within left))

-- at the end of the last part nothing is left
pub given-end : (parts : List ListPart) (from end count : ℕ) (given : List ℕ) → from + count ≡ length (joined_list parts) → count ≤ length given → AreGiven (docs_of (joined_list parts)) from end given count
    → AreNextBelow (docs_of (joined_list parts)) from end given count
given-end parts from end count given whole room all =
    let many : length (docs_of (joined_list parts)) ≡ length (joined_list parts) = docs_of-length (joined_list parts) in
    given-all (docs_of (joined_list parts)) from end given count all room (omega arith) (λ short more. absurd (omega arith))

-- how many have room behind those that were given
pub room-left : (count : ℕ) (given rest : List ℕ) → count ≤ length given → length rest ≡ length (take (length given - count) (drop count given)) → length rest ≡ length given - count
room-left count given rest room same = omega (arith, same, length-take-le (length given - count) (drop count given) (omega (arith, length-drop count given)))

-- as many have room as before
pub room-kept : (count : ℕ) (given rest : List ℕ) → count ≤ length given → length rest ≡ length given - count → length (put_mid count (length given - count) given rest) ≡ length given
room-kept count given rest room same =
    let behind : List ℕ = drop (length given - count) (drop count given) in
    omega (arith, same, length-append (take count given) (rest ++ behind), length-append rest behind, length-take-le count given room, length-drop (length given - count) (drop count given), length-drop count given)

-- the numbers with others put behind the first of them
abbrev pub put_behind : ℕ → List ℕ → List ℕ → List ℕ
put_behind count given rest = put_mid count (length given - count) given rest

put-front : (count : ℕ) (given rest : List ℕ) → count ≤ length given → take (count + length rest) (put_behind count given rest) ≡ take count given ++ rest
put-front count given rest room = take-put_mid count (length given - count) given rest (count + length rest) (let e : count + length rest ≡ count + length rest = omega arith in e) room

-- what is known once a part gave n documents behind those that were given, and went on in its list
pub record HasGiven {A : Type 0} (list : A → List Posting) (place : A → ℕ) (parts : List ListPart) (cursors : List (ℕ × A)) (at : ℕ) (old new : ℕ × A) (from end count n : ℕ) (given rest : List ℕ) : Type 0 where
  pub moved : IsMoved list place parts cursors at old new
  pub here : start_of parts at + place old.1 ≡ from + count
  pub there : start_of parts at + place new.1 ≡ from + (count + n)
  pub inside : place old.1 + n ≤ length (get_or parts at no_part).list
  pub next : AreNextBelow (docs_of (shifted (get_or parts at no_part).first (get_or parts at no_part).list)) (place old.1) end rest n
  pub room : count ≤ length given
  pub kept : length rest ≡ length given - count
  pub whole : length (put_behind count given rest) ≡ length given
  pub all : AreGiven (docs_of (joined_list parts)) from end (put_behind count given rest) (count + n)

pub has-given : {A : Type 0} (list : A → List Posting) (place : A → ℕ) (parts : List ListPart) (cursors : List (ℕ × A)) (at : ℕ) (old new : ℕ × A) (from end count n : ℕ) (given rest : List ℕ) → IsMoved list place parts cursors at old new
    → joined_place parts (places_of place cursors) at ≡ from + count → place new.1 ≡ place old.1 + n → count ≤ length given → AreGiven (docs_of (joined_list parts)) from end given count
    → AreNextBelow (docs_of (shifted old.0 (list old.1))) (place old.1) end rest n → length rest ≡ length (take (length given - count) (drop count given))
    → HasGiven list place parts cursors at old new from end count n given rest
has-given list place parts cursors at old new from end count n given rest moved stood went room before read same =
    let here : start_of parts at + place old.1 ≡ from + count = ap (λ k. start_of parts at + k) (sym moved.before) ∙ stood in
    let next = subst (λ (p : ListPart). AreNextBelow (docs_of (shifted p.first p.list)) (place old.1) end rest n) (sym moved.part) read in
    let kept : length rest ≡ length given - count = room-left count given rest room same in
    record {
      moved = moved;
      here = here;
      there = (let e : start_of parts at + place new.1 ≡ from + (count + n) = omega (arith, here, went) in e);
      inside = omega (arith, next.within, shifted-many (get_or parts at no_part).first (get_or parts at no_part).list);
      next = next;
      room = room;
      kept = kept;
      whole = room-kept count given rest room kept;
      all = given-more parts at from (place old.1) end count n given rest (put_behind count given rest) moved.within here room before next (put-front count given rest room);
    }

-- where the part has a posting left, they are all that are asked for
pub given-here : {A : Type 0} {list : A → List Posting} {place : A → ℕ} {parts : List ListPart} {cursors : List (ℕ × A)} {at : ℕ} {old new : ℕ × A} {from end count n : ℕ} {given rest : List ℕ}
    → HasGiven list place parts cursors at old new from end count n given rest → place new.1 < length (list old.1)
    → AreNextBelow (docs_of (joined_list parts)) from end (put_behind count given rest) (count + n)
given-here {A} {list} {place} {parts} {cursors} {at} {old} {new} {from} {end} {count} {n} {given} {rest} g left =
    given-stop parts at from (place old.1) end count n rest (put_behind count given rest) g.moved.within g.here (omega (arith, left, g.here, g.there, ap (λ p. length p.list) g.moved.part)) (omega (arith, g.kept, g.room, g.whole)) g.all g.next

-- the frequencies of those documents
pub freqs-given : {A : Type 0} {list : A → List Posting} {place : A → ℕ} {parts : List ListPart} {cursors : List (ℕ × A)} {at : ℕ} {old new : ℕ × A} {from end count n : ℕ} {given rest : List ℕ} (freqs freqs_rest : List ℕ)
    → HasGiven list place parts cursors at old new from end count n given rest → count ≤ length freqs → n ≤ length freqs_rest
    → ((j : ℕ) → j < n → slice_index freqs_rest j ≡ slice_index (freqs_of (list old.1)) (place old.1 + j)) → AreCopied (freqs_of (joined_list parts)) from freqs count
    → AreCopied (freqs_of (joined_list parts)) from (put_behind count freqs freqs_rest) (count + n)
freqs-given {A} {list} {place} {parts} {cursors} {at} {old} {new} {from} {end} {count} {n} freqs freqs_rest g within fits read before =
    copied-more parts at from (place old.1) count n freqs freqs_rest (put_behind count freqs freqs_rest) g.moved.within g.here within fits g.inside before
    (λ j lt. read j lt ∙ ap (λ p. slice_index (freqs_of p.list) (place old.1 + j)) (sym g.moved.part)) (put-front count freqs freqs_rest within)
