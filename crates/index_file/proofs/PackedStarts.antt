-- The places that the directory of a packed file states.
use Rattle.std.proofs.Common.{◌≡◌, ℕ, zero, suc, ◌+◌, ◌-◌, ◌*◌, ◌<◌, ◌≤◌, List, length, slice_index, inl, inr, sym, ap, subst, arith}
use Rattle.std.specs.List.Sorted.{IsStrictlyIncreasing}
use Rattle.std.proofs.lemmas.Bool.{cases_lt}
use Rattle.bit_words.specs.Bits.{bits_of}
use Rattle.bit_words.proofs.Value.{length-bits_of}
use Rattle.part_cost.specs.Stored.{HoldsPart}
use Rattle.part_codec.specs.PartBits.{part_bits}
use Rattle.part_codec.specs.Laws.{ValuesStandAt}
use Rattle.collection_model.specs.Collection.{Collection, Posting, list_of}
use Rattle.packed_list.specs.ListPlaces.{HoldsList, IsListBetween}
use Rattle.packed_list.proofs.ListPlaces.{empty-stands, few-between}
use Rattle.index_file.specs.Gaps.{FollowOn}
use Rattle.index_file.specs.PackedWords.{first_list_bit}
use Rattle.index_file.specs.PackedAt.{packed_documents, packed_terms, packed_bits, packed_directory, starts_universe, AreStarts, HasStarts, starts_stated, start_stated, IsListAt, IsListStored, HasPackedFrame, AreListsOf, AreListsStored}

-- rising numbers lie apart by as much as their places at least
pub rises-by : (ys : List ℕ) → IsStrictlyIncreasing ys → (k j : ℕ) → k + j < length ys → slice_index ys k + j ≤ slice_index ys (k + j)
rises-by ys rising k zero lt =
    let e : slice_index ys k ≡ slice_index ys (k + 0) = ap (slice_index ys) (let f : k ≡ k + 0 = omega arith in f) in
    omega (arith, e)
rises-by ys rising k (suc j) lt =
    let e : slice_index ys (k + j + 1) ≡ slice_index ys (k + suc j) = ap (slice_index ys) (let f : k + j + 1 ≡ k + suc j = omega arith in f) in
    omega (arith, e, rises-by ys rising k j (omega (arith, lt)), rising (k + j) (omega (arith, lt)))

-- what the directory states
pub stands : ValuesStandAt → (words : List ℕ) → HasStarts words → AreStarts words (starts_stated words)
stands values words h =
    subst (AreStarts words)
    (sym (values (bits_of words) (64 * packed_directory words) (starts_universe (packed_bits words) (packed_terms words)) (packed_terms words + 1) h.starts h.stand)) h.stand

pub first-start : ValuesStandAt → (words : List ℕ) → HasStarts words → slice_index (starts_stated words) 0 ≡ 0
first-start values words h =
    subst (λ ys. slice_index ys 0 ≡ 0)
    (sym (values (bits_of words) (64 * packed_directory words) (starts_universe (packed_bits words) (packed_terms words)) (packed_terms words + 1) h.starts h.stand)) h.first

-- where a number of the directory lies
pub record IsStart (words : List ℕ) (t : ℕ) : Type 0 where
  pub at_least : t ≤ slice_index (starts_stated words) t
  pub at_most : slice_index (starts_stated words) t ≤ packed_bits words + t

pub start-lies : ValuesStandAt → (words : List ℕ) → HasStarts words → (t : ℕ) → t ≤ packed_terms words → IsStart words t
start-lies values words h t le =
    let ys : List ℕ = starts_stated words in
    let all : ℕ = packed_terms words in
    let held = (stands values words h).values in
    let top : slice_index ys (all + 1 - 1) ≡ slice_index ys (t + (all - t)) = ap (slice_index ys) (let f : all + 1 - 1 ≡ t + (all - t) = omega (arith, le) in f) in
    let up = rises-by ys held.rising 0 t (omega (arith, le, held.count)) in
    let at : slice_index ys (0 + t) ≡ slice_index ys t = ap (slice_index ys) (let f : 0 + t ≡ t = omega arith in f) in
    record {
      at_least = omega (arith, up, at, first-start values words h);
      at_most = omega (arith, le, top, held.last, rises-by ys held.rising t (all - t) (omega (arith, le, held.count)));
    }

pub next-lies : ValuesStandAt → (words : List ℕ) → HasStarts words → (t : ℕ) → t < packed_terms words → slice_index (starts_stated words) t < slice_index (starts_stated words) (t + 1)
next-lies values words h t lt = let held = (stands values words h).values in held.rising t (omega (arith, lt, held.count))

-- where there are no list bits each list is without postings
pub none-stored : ValuesStandAt → (words : List ℕ) → HasStarts words → packed_bits words ≡ 0 → (t : ℕ) → t < packed_terms words → IsListStored words t
none-stored values words h none t lt =
    let here = start-lies values words h t (omega (arith, lt)) in
    let next = start-lies values words h (t + 1) (omega (arith, lt)) in
    let from : 128 ≡ first_list_bit + start_stated words t = omega (arith, none, here.at_least, here.at_most) in
    let to : 128 ≡ first_list_bit + start_stated words (t + 1) = omega (arith, none, next.at_least, next.at_most) in
    subst (λ i. HoldsList (packed_documents words) (bits_of words) (first_list_bit + start_stated words t) i) to
    (subst (λ i. HoldsList (packed_documents words) (bits_of words) i 128) from (empty-stands (packed_documents words) (bits_of words) 128))

-- the bits of the lists lie in the words
pub lists-within : (words : List ℕ) → HasPackedFrame words → first_list_bit + packed_bits words ≤ 64 * length words
lists-within words h = omega (arith, h.whole)

-- a list at other names of its places
pub stored-at : (words : List ℕ) (t n from to : ℕ) → n ≡ packed_documents words → from ≡ first_list_bit + start_stated words t → to ≡ first_list_bit + start_stated words (t + 1)
    → HoldsList n (bits_of words) from to → IsListStored words t
stored-at words t n from to e f g h =
    subst (λ i. HoldsList (packed_documents words) (bits_of words) (first_list_bit + start_stated words t) i) g
    (subst (λ i. HoldsList (packed_documents words) (bits_of words) i to) f (subst (λ k. HoldsList k (bits_of words) from to) e h))

pub held-at : (words : List ℕ) (t n from to : ℕ) → n ≡ packed_documents words → from ≡ first_list_bit + start_stated words t → to ≡ first_list_bit + start_stated words (t + 1)
    → IsListStored words t → HoldsList n (bits_of words) from to
held-at words t n from to e f g h =
    subst (λ k. HoldsList k (bits_of words) from to) (sym e)
    (subst (λ i. HoldsList (packed_documents words) (bits_of words) i to) (sym f)
    (subst (λ i. HoldsList (packed_documents words) (bits_of words) (first_list_bit + start_stated words t) i) (sym g) h))

pub list-at : (words : List ℕ) (t n from to : ℕ) (list : List Posting) → n ≡ packed_documents words → from ≡ first_list_bit + start_stated words t → to ≡ first_list_bit + start_stated words (t + 1)
    → IsListAt words t list → (ends : List ℕ) × (cuts : List ℕ) × IsListBetween n (bits_of words) from to list ends cuts
list-at words t n from to list e f g (ends, cuts, h) = (
  ends,
  cuts,
  subst (λ k. IsListBetween k (bits_of words) from to list ends cuts) (sym e)
      (subst (λ i. IsListBetween (packed_documents words) (bits_of words) i to list ends cuts) (sym f)
      (subst (λ i. IsListBetween (packed_documents words) (bits_of words) (first_list_bit + start_stated words t) i list ends cuts) (sym g) h)),
)

-- where no bits stand there are no postings
pub few-at : ValuesStandAt → (words : List ℕ) → HasPackedFrame words → HasStarts words → (t : ℕ) (list : List Posting) → t < packed_terms words → start_stated words t ≡ start_stated words (t + 1) → IsListAt words t list → length list ≤ 1
few-at values words frame starts t list lt same (ends, cuts, h) =
    let next = start-lies values words starts (t + 1) (omega (arith, lt)) in
    few-between (packed_documents words) (bits_of words) (first_list_bit + start_stated words t) (first_list_bit + start_stated words (t + 1)) list ends cuts frame.documents (ap (λ n. first_list_bit + n) same)
    (omega (arith, next.at_most, lists-within words frame, length-bits_of words)) h

-- the directory at other names of its place
pub starts-as : (words other : List ℕ) (place u m : ℕ) (ys : List ℕ) → other ≡ words → place ≡ 64 * packed_directory words → u ≡ starts_universe (packed_bits words) (packed_terms words)
    → m ≡ packed_terms words + 1 → HoldsPart part_bits (bits_of other) place u m ys → AreStarts words ys
starts-as words other place u m ys e f g h held =
    subst (λ ws. HoldsPart part_bits (bits_of ws) (64 * packed_directory words) (starts_universe (packed_bits words) (packed_terms words)) (packed_terms words + 1) ys) e
    (subst (λ p. HoldsPart part_bits (bits_of other) p (starts_universe (packed_bits words) (packed_terms words)) (packed_terms words + 1) ys) f
    (subst (λ v. HoldsPart part_bits (bits_of other) place v (packed_terms words + 1) ys) g (subst (λ k. HoldsPart part_bits (bits_of other) place u k ys) h held)))

pub starts-from : (words other : List ℕ) (place u m : ℕ) (ys : List ℕ) → other ≡ words → place ≡ 64 * packed_directory words → u ≡ starts_universe (packed_bits words) (packed_terms words)
    → m ≡ packed_terms words + 1 → AreStarts words ys → HoldsPart part_bits (bits_of other) place u m ys
starts-from words other place u m ys e f g h held =
    subst (λ k. HoldsPart part_bits (bits_of other) place u k ys) (sym h)
    (subst (λ v. HoldsPart part_bits (bits_of other) place v (packed_terms words + 1) ys) (sym g)
    (subst (λ p. HoldsPart part_bits (bits_of other) p (starts_universe (packed_bits words) (packed_terms words)) (packed_terms words + 1) ys) (sym f)
    (subst (λ ws. HoldsPart part_bits (bits_of ws) (64 * packed_directory words) (starts_universe (packed_bits words) (packed_terms words)) (packed_terms words + 1) ys) (sym e) held)))

-- one list more
pub stored-more : (words : List ℕ) (t : ℕ) → AreListsStored words t → IsListStored words t → AreListsStored words (t + 1)
stored-more words t all one r lt =
    elim (cases_lt r t) [
      | inl less ↦ all r less
      | inr ge ↦ subst (IsListStored words) (let e : t ≡ r = omega (arith, lt, ge) in e) one
    ]

-- what passes lists of one posting or none passes those of which no number is left out
pub passed-on : ValuesStandAt → (words : List ℕ) → HasPackedFrame words → HasStarts words → (c : Collection) → AreListsOf words c → (P : ℕ → Type 0) → ((t : ℕ) → P t → length (list_of c t) ≤ 1 → P (t + 1))
    → (from k : ℕ) → from + k ≤ packed_terms words → FollowOn (starts_stated words) from (from + k) → P from → P (from + k)
passed-on values words frame starts c are P passes from zero within follow here = subst P (let e : from ≡ from + zero = omega arith in e) here
passed-on values words frame starts c are P passes from (suc k) within follow here =
    let t : ℕ = from + k in
    let before : P t = passed-on values words frame starts c are P passes from k (omega (arith, within)) (λ r ge lt. follow r ge (omega (arith, lt))) here in
    let lies = start-lies values words starts t (omega (arith, within)) in
    let none : start_stated words t ≡ start_stated words (t + 1) = omega (arith, lies.at_least, follow t (omega arith) (omega arith)) in
    subst P (let e : t + 1 ≡ from + suc k = omega arith in e)
    (passes t before (few-at values words frame starts t (list_of c t) (omega (arith, within)) none (are.lists t (omega (arith, within)))))

pub passed-to : ValuesStandAt → (words : List ℕ) → HasPackedFrame words → HasStarts words → (c : Collection) → AreListsOf words c → (P : ℕ → Type 0) → ((t : ℕ) → P t → length (list_of c t) ≤ 1 → P (t + 1))
    → (from to : ℕ) → from ≤ to → to ≤ packed_terms words → FollowOn (starts_stated words) from to → P from → P to
passed-to values words frame starts c are P passes from to le within follow here =
    let e : from + (to - from) ≡ to = omega (arith, le) in
    subst P e (passed-on values words frame starts c are P passes from (to - from) (omega (arith, le, within)) (λ r ge lt. follow r ge (omega (arith, lt, le))) here)

-- where there are no list bits it passes all
pub none-passed : ValuesStandAt → (words : List ℕ) → HasPackedFrame words → HasStarts words → packed_bits words ≡ 0 → (c : Collection) → AreListsOf words c → (P : ℕ → Type 0) → ((t : ℕ) → P t → length (list_of c t) ≤ 1 → P (t + 1)) → P 0 → P (packed_terms words)
none-passed values words frame starts none c are P passes here =
    passed-to values words frame starts c are P passes 0 (packed_terms words) (omega arith) (omega arith)
    (λ t ge lt.
    let this = start-lies values words starts t (omega (arith, lt)) in
    let next = start-lies values words starts (t + 1) (omega (arith, lt)) in
    omega (arith, none, this.at_least, this.at_most, next.at_least, next.at_most))
    here

-- and those behind it of which no number is left out, which have no bits
pub stored-on : (words : List ℕ) (from to : ℕ) → FollowOn (starts_stated words) from to → AreListsStored words from → AreListsStored words to
stored-on words from to follow all r lt =
    elim (cases_lt r from) as (λ _. IsListStored words r) [
      | inl less ↦ all r less
      | inr ge ↦
          let same : first_list_bit + start_stated words r ≡ first_list_bit + start_stated words (r + 1) = omega (arith, follow r ge lt) in
          subst (λ i. HoldsList (packed_documents words) (bits_of words) (first_list_bit + start_stated words r) i) same (empty-stands (packed_documents words) (bits_of words) (first_list_bit + start_stated words r))
    ]
