-- A list where its bits stand: its head, and behind it one document, or two sequences.
use Rattle.std.proofs.Common.{◌≡◌, ℕ, ◌+◌, ◌-◌, ◌*◌, ◌^◌, ◌<◌, ◌≤◌, Bool, true, false, Option, Some, None, List, [], ◌∷◌, ◌++◌, length, take, drop, refl, sym, ap, ◌∙◌, subst, arith, append_assoc}
use Rattle.std.specs.Prelude.{if◌then◌else◌}
use Rattle.std.specs.List.{All, slice_range}
use Rattle.std.proofs.Math.Nat.{mod-eq_of_lt}
use Rattle.std.proofs.lemmas.List.{length-append, length-take, length-drop}
use Rattle.std.proofs.lemmas.List.Elements.{All-from_get_or, All-from_recursion}
use Rattle.bit_words.specs.Bits.{field_bits, field_at, bits_of}
use Rattle.bit_words.proofs.Value.{EachBit, length-field_bits, length-bits_of}
use Rattle.bit_words.proofs.Pieces.{StandAt, stands-first, stands-second, stands-both, field-stands, stands-field, field-fits}
use Rattle.collection_model.specs.FormatNumbers.{format_three}
use Rattle.collection_model.specs.Collection.{Posting, freqs_of, greatest, greatest_freq}
use Rattle.collection_model.specs.Sequences.{doc_sequence, freq_sequence, steps_from, postings_in}
use Rattle.collection_model.proofs.Lists.{freqs-of_postings}
use Rattle.collection_model.proofs.Sequences.{same-steps}
use Rattle.part_cost.specs.Payload.{digits}
use Rattle.part_cost.specs.Partition.{IsPartition}
use Rattle.part_cost.proofs.DigitCounts.{digits-hold}
use Rattle.postings.specs.Laws.{SequencesGiveTheirList, SequencesRise, SequencesAreAList}
use Rattle.packed_list.specs.declared.check.Found.{Found}
use Rattle.packed_sequence.specs.declared.last_field.LastField.{LastField}
use Rattle.packed_list.specs.Gamma.{gamma, gamma_length, IsGammaBefore}
use Rattle.packed_sequence.specs.SequenceBits.{last_doc, last_sum, sequence_bits, IsStored}
use Rattle.packed_list.specs.ListBits.{head_bits, list_bits}
use Rattle.packed_sequence.specs.SequencePlaces.{IsSequenceBefore, OneSequenceAtPlace}
use Rattle.packed_list.specs.ListPlaces.{IsFound, tail_bits, IsTailBetween, IsListBetween, HoldsList, HoldsTail}
use Rattle.packed_list.proofs.GammaCodes.{gamma-takes, some-digits}
use Rattle.packed_sequence.proofs.LonePlaces.{piece-stands}
use Rattle.packed_list.proofs.GammaReads.{one-number}
use Rattle.packed_sequence.proofs.LonePlaces.{stands-piece}
use Rattle.packed_sequence.proofs.PartedPlaces.{range-stands, stands-range}
use Rattle.packed_list.proofs.OneListBits.{HasSome, has-some, each-at_most, docs-stored, freqs-stored}
use Rattle.packed_list.proofs.ListPieces.{count-docs}

-- what stands behind the head of a list of two postings and more
abbrev pub many-tail : ℕ → ℕ → ℕ → ℕ → List ℕ → List ℕ → List ℕ → List ℕ → List ℕ
many-tail n at m g xs ys ends cuts = sequence_bits (last_doc n) at xs ends ++ sequence_bits (last_sum m g) (at + length (sequence_bits (last_doc n) at xs ends)) ys cuts

tail-is : (n at : ℕ) (list : List Posting) (ends cuts : List ℕ) → 2 ≤ length list → tail_bits n at list ends cuts ≡ many-tail n at (length list) (greatest_freq list) (doc_sequence list) (freq_sequence list) ends cuts
tail-is n at [] ends cuts h = absurd (omega (arith, h))
tail-is n at (p ∷ []) ends cuts h = absurd (omega (arith, h))
tail-is n at (p ∷ q ∷ list) ends cuts h = refl

tail-of : (n at m g : ℕ) (list : List Posting) (xs ys ends cuts : List ℕ) → xs ≡ doc_sequence list → ys ≡ freq_sequence list → m ≡ length list → g ≡ greatest_freq list → 2 ≤ m
    → tail_bits n at list ends cuts ≡ many-tail n at m g xs ys ends cuts
tail-of n at m g list xs ys ends cuts e f count top h =
    tail-is n at list ends cuts (omega (arith, h, count))
    ∙ ap (λ k. many-tail n at k (greatest_freq list) (doc_sequence list) (freq_sequence list) ends cuts) (sym count)
    ∙ ap (λ k. many-tail n at m k (doc_sequence list) (freq_sequence list) ends cuts) (sym top)
    ∙ ap (λ zs. many-tail n at m g zs (freq_sequence list) ends cuts) (sym e)
    ∙ ap (λ zs. many-tail n at m g xs zs ends cuts) (sym f)

-- the greatest step is told where it is asked for
pub step-told : (asked : Bool) (step most : ℕ) → (asked ≡ true → step ≡ most) → ◌≡◌ {A = Option ℕ} (if asked then Some step else None) (if asked then Some most else None)
step-told true step most is = ap Some (is refl)
step-told false step most is = refl

same-some : {a b : ℕ} → ◌≡◌ {A = Option ℕ} (Some a) (Some b) → a ≡ b
same-some e = cc

-- two sequences that were found are those of a list
pub many-found : SequencesAreAList → (n m g : ℕ) (bits : List ℕ) (at to : ℕ) (first second : Found) → 2 ≤ m → g < 2 ^ 32 → IsFound (last_doc n) m n false bits at to first
    → IsFound (last_sum m g) m format_three.most_sum true bits first.behind to second → second.behind ≡ to → second.greatest ≡ Some g → HoldsTail n m g bits at to
many-found are n m g bits at to first second many few h k ends_here top =
    let xs : List ℕ = h.values in
    let ys : List ℕ = k.values in
    let a : List ℕ = sequence_bits (last_doc n) at xs h.ends in
    let count : length xs ≡ m = h.sequence.stored.count in
    let count_too : length ys ≡ m = k.sequence.stored.count in
    let same : length xs ≡ length ys = count ∙ sym count_too in
    let steps : List ℕ = steps_from 0 ys in
    let most : greatest steps ≡ g = same-some (sym k.step ∙ top) in
    let fit : All (λ f. f < 2 ^ 32) steps = All-from_get_or (λ f. f < 2 ^ 32) steps 0 (λ i lt. omega (arith, each-at_most steps i lt, most, few)) in
    let is = are format_three n xs ys h.sequence.stored.rising h.sequence.small k.sequence.stored.rising k.sequence.small same fit in
    let list : List Posting = postings_in xs ys in
    let long : m ≡ length list = sym count ∙ count-docs list xs (sym is.of_docs) in
    let freq : g ≡ greatest_freq list = sym most ∙ sym (ap greatest (freqs-of_postings xs steps (same-steps xs ys same))) in
    let docs_stand : StandAt bits at a = piece-stands bits at a h.sequence.stands in
    let b : List ℕ = sequence_bits (last_sum m g) (at + length a) ys k.ends in
    let here : sequence_bits (last_sum m g) first.behind ys k.ends ≡ b = ap (λ p. sequence_bits (last_sum m g) p ys k.ends) h.behind in
    let sums_stand : StandAt bits (at + length a) b = subst (λ p. StandAt bits p b) h.behind (subst (StandAt bits first.behind) here (piece-stands bits first.behind (sequence_bits (last_sum m g) first.behind ys k.ends) k.sequence.stands)) in
    let whole : StandAt bits at (a ++ b) = stands-both bits at a b docs_stand sums_stand in
    let size : to ≡ at + length (a ++ b) = omega (arith, ends_here, k.behind, h.behind, ap length here, length-append a b) in
    let tail : tail_bits n at list h.ends k.ends ≡ a ++ b = tail-of n at m g list xs ys h.ends k.ends (sym is.of_docs) (sym is.of_sums) long freq many in (
      list,
      h.ends,
      k.ends,
      record {
        cut = record {
          well_formed = is.well_formed;
          docs = subst (λ j. IsPartition j h.ends) long h.sequence.stored.partition;
          freqs = subst (λ j. IsPartition j k.ends) long k.sequence.stored.partition;
        };
        count = sym long;
        greatest_is = sym freq;
        stands = stands-range bits at to (a ++ b) size whole ∙ sym tail;
      },
    )

-- the two sequences of a list stand where it does
pub record TailFacts (n m g : ℕ) (bits : List ℕ) (at to : ℕ) (list : List Posting) (ends cuts : List ℕ) : Type 0 where
  pub docs : IsSequenceBefore (last_doc n) m n bits at to (doc_sequence list) ends
  pub sums : IsSequenceBefore (last_sum m g) m format_three.most_sum bits (at + length (sequence_bits (last_doc n) at (doc_sequence list) ends)) to (freq_sequence list) cuts
  pub ends_here : at + length (sequence_bits (last_doc n) at (doc_sequence list) ends) + length (sequence_bits (last_sum m g) (at + length (sequence_bits (last_doc n) at (doc_sequence list) ends)) (freq_sequence list) cuts) ≡ to
  pub step : greatest (steps_from 0 (freq_sequence list)) ≡ g

-- a range within some bits is as long as it says
pub length-range : (bits : List ℕ) (at to : ℕ) → at ≤ to → to ≤ length bits → length (slice_range bits at to) ≡ to - at
length-range bits at to le fit = omega (arith, length-take (to - at) (drop at bits), length-drop at bits, le, fit)

pub tail-facts : SequencesRise → SequencesGiveTheirList → (n m g : ℕ) (bits : List ℕ) (at to : ℕ) (list : List Posting) (ends cuts : List ℕ) → n ≤ format_three.most_documents → 2 ≤ m → at ≤ to → to ≤ length bits
    → IsTailBetween n m g bits at to list ends cuts → TailFacts n m g bits at to list ends cuts
tail-facts rise give n m g bits at to list ends cuts small many le fit h =
    let good = h.cut.well_formed in
    let has = has-some n list good (omega (arith, h.count, many)) in
    let xs : List ℕ = doc_sequence list in
    let ys : List ℕ = freq_sequence list in
    let a : List ℕ = sequence_bits (last_doc n) at xs ends in
    let b : List ℕ = sequence_bits (last_sum m g) (at + length a) ys cuts in
    let tail : tail_bits n at list ends cuts ≡ a ++ b = tail-of n at m g list xs ys ends cuts refl refl (sym h.count) (sym h.greatest_is) many in
    let size : to ≡ at + length (a ++ b) = omega (arith, ap length (h.stands ∙ tail), length-range bits at to le fit, le) in
    let whole : StandAt bits at (a ++ b) = range-stands bits at to (a ++ b) size (h.stands ∙ tail) in
    let s = rise format_three n list good in
    let docs : IsStored (last_doc n) m xs ends = subst (λ j. IsStored (last_doc n) j xs ends) h.count (docs-stored n list ends small good has h.cut.docs) in
    let sums : IsStored (last_sum m g) m ys cuts =
    subst (λ j. IsStored (last_sum m j) m ys cuts) h.greatest_is (subst (λ j. IsStored (last_sum j (greatest_freq list)) j ys cuts) h.count (freqs-stored rise n list cuts small good has h.cut.freqs)) in
    let same : length xs ≡ length ys = omega (arith, s.docs_count, s.sums_count) in
    let steps : steps_from 0 ys ≡ freqs_of list = sym (freqs-of_postings xs (steps_from 0 ys) (same-steps xs ys same)) ∙ ap freqs_of (give format_three n list good) in
    record {
      docs = record {
        stored = docs;
        small = good.in_range;
        within = omega (arith, size, length-append a b);
        stands = stands-piece bits at a (stands-first bits at a b whole);
      };
      sums = record {
        stored = sums;
        small = s.sums_below;
        within = omega (arith, size, length-append a b);
        stands = stands-piece bits (at + length a) b (stands-second bits at a b whole);
      };
      ends_here = omega (arith, size, length-append a b);
      step = ap greatest steps ∙ h.greatest_is;
    }

-- a list of one posting
pub single-found : (n most : ℕ) (bits : List ℕ) (at to : ℕ) → EachBit bits → 1 ≤ most → most < 2 ^ 32 → at ≤ to → to ≤ length bits → to - at ≡ digits (n - 1) → field_at bits at (digits (n - 1)) < n → HoldsTail n 1 most bits at to
single-found n most bits at to each some few le fit size inside =
    let w : ℕ = digits (n - 1) in
    let d : ℕ = field_at bits at w in
    let list : List Posting = record { doc = d; freq = most } ∷ [] in
    let stands : StandAt bits at (field_bits w d) = stands-field bits at w d each (omega (arith, size, le, fit)) (sym (field-fits bits at w each)) in (
      list,
      1 ∷ [],
      1 ∷ [],
      record {
        cut = record {
          well_formed = record {
            rising = λ k lt. absurd (omega (arith, lt));
            in_range = All-from_recursion (λ x. x < n) (d ∷ []) (inside, tt);
            not_zero = All-from_recursion (λ f. 1 ≤ f) (most ∷ []) (some, tt);
            fit = All-from_recursion (λ f. f < 2 ^ 32) (most ∷ []) (few, tt);
            sum_within = omega (arith, few);
          };
          docs = (omega arith, refl);
          freqs = (omega arith, refl);
        };
        count = refl;
        greatest_is = omega arith;
        stands = stands-range bits at to (field_bits w d) (omega (arith, size, le, length-field_bits w d)) stands;
      },
    )

pub record SingleFacts (n : ℕ) (bits : List ℕ) (at to : ℕ) : Type 0 where
  pub size : to - at ≡ digits (n - 1)
  pub inside : field_at bits at (digits (n - 1)) < n

pub single-facts : (n most : ℕ) (bits : List ℕ) (at to : ℕ) (list : List Posting) (ends cuts : List ℕ) → n ≤ format_three.most_documents → at ≤ to → to ≤ length bits → IsTailBetween n 1 most bits at to list ends cuts
    → SingleFacts n bits at to
single-facts n most bits at to [] ends cuts small le fit h = absurd (omega (arith, h.count))
single-facts n most bits at to (p ∷ []) ends cuts small le fit h =
    let w : ℕ = digits (n - 1) in
    let doc : p.doc < n = h.cut.well_formed.in_range 0 0 (omega arith) in
    let room : n - 1 < 2 ^ w = digits-hold (n - 1) (omega (arith, small)) in
    let size : to - at ≡ w = omega (arith, ap length h.stands, length-range bits at to le fit, length-field_bits w p.doc) in
    let stands : StandAt bits at (field_bits w p.doc) = range-stands bits at to (field_bits w p.doc) (omega (arith, size, le, length-field_bits w p.doc)) h.stands in
    let value : field_at bits at w ≡ p.doc = field-stands bits at w p.doc stands ∙ mod-eq_of_lt (omega (arith, doc, room)) in
    record { size = size; inside = omega (arith, value, doc) }
single-facts n most bits at to (p ∷ q ∷ list) ends cuts small le fit h = absurd (omega (arith, h.count))

-- a list is its head and what stands behind it
list-is : (n at : ℕ) (list : List Posting) (ends cuts : List ℕ) → 1 ≤ length list → list_bits n at list ends cuts ≡ head_bits list ++ tail_bits n (at + length (head_bits list)) list ends cuts
list-is n at [] ends cuts h = absurd (omega (arith, h))
list-is n at (p ∷ []) ends cuts h = refl
list-is n at (p ∷ q ∷ list) ends cuts h =
    let xs : List Posting = p ∷ q ∷ list in
    let head : List ℕ = head_bits xs in
    let docs : List ℕ = sequence_bits (last_doc n) (at + length head) (doc_sequence xs) ends in
    append_assoc head docs (sequence_bits (last_sum (length xs) (greatest_freq xs)) (at + length head + length docs) (freq_sequence xs) cuts)

pub length-head_bits : (n : ℕ) (list : List Posting) → n ≤ format_three.most_documents → HasSome n list → length (head_bits list) ≡ gamma_length (length list) + gamma_length (greatest_freq list)
length-head_bits n list small has =
    omega (
      arith,
      length-append (gamma (length list)) (gamma (greatest_freq list)),
      gamma-takes.count (length list) has.some (omega (arith, has.few, small)),
      gamma-takes.count (greatest_freq list) has.least (omega (arith, has.most)),
    )

-- what is known of a list with some postings that stands between two places
pub record ListFacts (n : ℕ) (bits : List ℕ) (from to : ℕ) (list : List Posting) (ends cuts : List ℕ) : Type 0 where
  pub count : IsGammaBefore bits from to (length list)
  pub most : IsGammaBefore bits (from + gamma_length (length list)) to (greatest_freq list)
  pub tail : IsTailBetween n (length list) (greatest_freq list) bits (from + gamma_length (length list) + gamma_length (greatest_freq list)) to list ends cuts

pub list-facts : (n : ℕ) (bits : List ℕ) (from to : ℕ) (list : List Posting) (ends cuts : List ℕ) → n ≤ format_three.most_documents → from ≤ to → to ≤ length bits → 1 ≤ length list
    → IsListBetween n bits from to list ends cuts → ListFacts n bits from to list ends cuts
list-facts n bits from to list ends cuts small le fit some h =
    let has = has-some n list h.cut.well_formed some in
    let m : ℕ = length list in
    let g : ℕ = greatest_freq list in
    let head : List ℕ = head_bits list in
    let tail : List ℕ = tail_bits n (from + length head) list ends cuts in
    let is : slice_range bits from to ≡ head ++ tail = h.stands ∙ list-is n from list ends cuts some in
    let size : to ≡ from + length (head ++ tail) = omega (arith, ap length is, length-range bits from to le fit, le) in
    let whole : StandAt bits from (head ++ tail) = range-stands bits from to (head ++ tail) size is in
    let long = length-head_bits n list small has in
    let first : StandAt bits from head = stands-first bits from head tail whole in
    let count_long = gamma-takes.count m has.some (omega (arith, has.few, small)) in
    let most_long = gamma-takes.count g has.least (omega (arith, has.most)) in
    let place : from + length (gamma m) ≡ from + gamma_length m = omega (arith, count_long) in
    let most_stands : StandAt bits (from + gamma_length m) (gamma g) = subst (λ p. StandAt bits p (gamma g)) place (stands-second bits from (gamma m) (gamma g) first) in
    let behind : from + length head ≡ from + gamma_length m + gamma_length g = omega (arith, long) in
    record {
      count = record {
        some = has.some;
        few = omega (arith, has.few, small);
        within = omega (arith, size, length-append head tail, long);
        stands = stands-range bits from (from + gamma_length m) (gamma m) (omega (arith, count_long)) (stands-first bits from (gamma m) (gamma g) first);
      };
      most = record {
        some = has.least;
        few = has.most;
        within = omega (arith, size, length-append head tail, long);
        stands = stands-range bits (from + gamma_length m) (from + gamma_length m + gamma_length g) (gamma g) (omega (arith, most_long)) most_stands;
      };
      tail =
          subst (λ p. IsTailBetween n m g bits p to list ends cuts) behind (
          record {
            cut = h.cut;
            count = refl;
            greatest_is = refl;
            stands = stands-range bits (from + length head) to tail (omega (arith, size, length-append head tail)) (stands-second bits from head tail whole);
          }
          );
    }

-- and a list stands where its head and the rest do
pub list-joined : (n : ℕ) (bits : List ℕ) (from to m g : ℕ) (list : List Posting) (ends cuts : List ℕ) → n ≤ format_three.most_documents → to ≤ length bits → IsGammaBefore bits from to m
    → IsGammaBefore bits (from + gamma_length m) to g → IsTailBetween n m g bits (from + gamma_length m + gamma_length g) to list ends cuts → IsListBetween n bits from to list ends cuts
list-joined n bits from to m g list ends cuts small fit count most h =
    let m_long = gamma-takes.count m count.some (omega (arith, count.few)) in
    let g_long = gamma-takes.count g most.some (omega (arith, most.few)) in
    let head : List ℕ = gamma m ++ gamma g in
    let head_is : head ≡ head_bits list = ap (λ k. gamma k ++ gamma g) (sym h.count) ∙ ap (λ k. gamma (length list) ++ gamma k) (sym h.greatest_is) in
    let long : length head ≡ gamma_length m + gamma_length g = omega (arith, length-append (gamma m) (gamma g), m_long, g_long) in
    let first : StandAt bits from (gamma m) = range-stands bits from (from + gamma_length m) (gamma m) (omega (arith, m_long)) count.stands in
    let second : StandAt bits (from + length (gamma m)) (gamma g) = subst (λ p. StandAt bits p (gamma g)) (let e : from + gamma_length m ≡ from + length (gamma m) = omega (arith, m_long) in e)
    (range-stands bits (from + gamma_length m) (from + gamma_length m + gamma_length g) (gamma g) (omega (arith, g_long)) most.stands) in
    let place : from + gamma_length m + gamma_length g ≡ from + length head = omega (arith, long) in
    let at : ℕ = from + length head in
    let t = subst (λ p. IsTailBetween n m g bits p to list ends cuts) place h in
    let tail : List ℕ = tail_bits n at list ends cuts in
    let le : at ≤ to = omega (arith, long, most.within) in
    let size : to ≡ at + length tail = omega (arith, ap length t.stands, length-range bits at to le fit, le) in
    let rest : StandAt bits at tail = range-stands bits at to tail size t.stands in
    let whole : StandAt bits from (head ++ tail) = stands-both bits from head tail (stands-both bits from (gamma m) (gamma g) first second) rest in
    let is : head ++ tail ≡ list_bits n from list ends cuts = ap (λ zs. zs ++ tail_bits n (from + length zs) list ends cuts) head_is ∙ sym (list-is n from list ends cuts (omega (arith, h.count, count.some))) in
    record { cut = h.cut; stands = stands-range bits from to (head ++ tail) (omega (arith, size, length-append head tail)) whole ∙ is }

-- no list without postings stands in some bits
pub not-empty : (n : ℕ) (bits : List ℕ) (from to : ℕ) (list : List Posting) (ends cuts : List ℕ) → from < to → to ≤ length bits → IsListBetween n bits from to list ends cuts → 1 ≤ length list
not-empty n bits from to [] ends cuts lt fit h = absurd (omega (arith, lt, ap length h.stands, length-range bits from to (omega (arith, lt)) fit))
not-empty n bits from to (p ∷ list) ends cuts lt fit h = omega arith

-- and where there are none it does
pub empty-stands : (n : ℕ) (bits : List ℕ) (at : ℕ) → HoldsList n bits at at
empty-stands n bits at = (
  [],
  [],
  [],
  record {
    cut = record {
      well_formed = record {
        rising = λ k lt. absurd (omega (arith, lt));
        in_range = All-from_recursion (λ x. x < n) [] tt;
        not_zero = All-from_recursion (λ f. 1 ≤ f) [] tt;
        fit = All-from_recursion (λ f. f < 2 ^ 32) [] tt;
        sum_within = omega arith;
      };
      docs = refl;
      freqs = refl;
    };
    stands = ap (λ k. take k (drop at bits)) (let e : at - at ≡ 0 = omega arith in e);
  },
)

-- what was found, and what stands, by another name of its last field and of its bound
pub found-as : (last other : LastField) (m bound limit : ℕ) (with_steps : Bool) (bits : List ℕ) (at end : ℕ) (found : Found) → last ≡ other → bound ≡ limit → IsFound last m bound with_steps bits at end found
    → IsFound other m limit with_steps bits at end found
found-as last other m bound limit with_steps bits at end found e f h = subst (λ l. IsFound l m limit with_steps bits at end found) e (subst (λ b. IsFound last m b with_steps bits at end found) f h)

pub before-as : (last other : LastField) (m bound limit : ℕ) (bits : List ℕ) (at end : ℕ) (xs ends : List ℕ) → last ≡ other → bound ≡ limit → IsSequenceBefore last m bound bits at end xs ends
    → IsSequenceBefore other m limit bits at end xs ends
before-as last other m bound limit bits at end xs ends e f h = subst (λ l. IsSequenceBefore l m limit bits at end xs ends) e (subst (λ b. IsSequenceBefore last m b bits at end xs ends) f h)

-- what was found is the sequence that stands there
pub record FoundFacts (last : LastField) (with_steps : Bool) (at : ℕ) (xs ends : List ℕ) (found : Found) : Type 0 where
  pub behind_is : found.behind ≡ at + length (sequence_bits last at xs ends)
  pub greatest_is : found.greatest ≡ (if with_steps then Some (greatest (steps_from 0 xs)) else None)

pub found-facts : OneSequenceAtPlace → (last : LastField) (m bound : ℕ) (with_steps : Bool) (bits : List ℕ) (at end : ℕ) (found : Found) (xs ends : List ℕ) → 2 ≤ m → m < 2 ^ 32 → IsFound last m bound with_steps bits at end found
    → IsSequenceBefore last m bound bits at end xs ends → FoundFacts last with_steps at xs ends found
found-facts one last m bound with_steps bits at end found xs ends many few h k =
    let same = one last m bound bound bits at end end h.values xs h.ends ends many few h.sequence k in
    record {
      behind_is = h.behind ∙ ap (λ zs. at + length (sequence_bits last at zs h.ends)) same.0 ∙ ap (λ es. at + length (sequence_bits last at xs es)) same.1;
      greatest_is = h.step ∙ ap (λ (zs : List ℕ). let told : Option ℕ = if with_steps then Some (greatest (steps_from 0 zs)) else None in told) same.0;
    }

-- and its values are those of that
pub found-values : OneSequenceAtPlace → (last : LastField) (m bound : ℕ) (with_steps : Bool) (bits : List ℕ) (at end : ℕ) (found : Found) (xs ends : List ℕ) → 2 ≤ m → m < 2 ^ 32 → (h : IsFound last m bound with_steps bits at end found)
    → IsSequenceBefore last m bound bits at end xs ends → h.values ≡ xs
found-values one last m bound with_steps bits at end found xs ends many few h k = (one last m bound bound bits at end end h.values xs h.ends ends many few h.sequence k).0

-- the sums stand behind the documents that were found
pub sums-behind : (n m g : ℕ) (bits : List ℕ) (at to : ℕ) (first : Found) (list : List Posting) (ends cuts : List ℕ) → FoundFacts (last_doc n) false at (doc_sequence list) ends first → TailFacts n m g bits at to list ends cuts
    → IsSequenceBefore (last_sum m g) m format_three.most_sum bits first.behind to (freq_sequence list) cuts
sums-behind n m g bits at to first list ends cuts f t = subst (λ p. IsSequenceBefore (last_sum m g) m format_three.most_sum bits p to (freq_sequence list) cuts) (sym f.behind_is) t.sums

-- and both end where the list does
pub ends-behind : (n m g : ℕ) (bits : List ℕ) (at to : ℕ) (first second : Found) (list : List Posting) (ends cuts : List ℕ) → FoundFacts (last_doc n) false at (doc_sequence list) ends first
    → FoundFacts (last_sum m g) true first.behind (freq_sequence list) cuts second → TailFacts n m g bits at to list ends cuts → second.behind ≡ to
ends-behind n m g bits at to first second list ends cuts f k t =
    k.behind_is ∙ ap (λ p. p + length (sequence_bits (last_sum m g) p (freq_sequence list) cuts)) f.behind_is ∙ t.ends_here

-- what is known of a list that stands between two places that differ
pub facts-between : (n : ℕ) (words : List ℕ) (from to : ℕ) → n ≤ format_three.most_documents → (from ≡ to → ⊥) → from ≤ to → to ≤ 64 * length words → (h : HoldsList n (bits_of words) from to)
    → ListFacts n (bits_of words) from to h.0 h.1 h.2
facts-between n words from to small apart le fit h =
    let fits : to ≤ length (bits_of words) = omega (arith, fit, length-bits_of words) in
    list-facts n (bits_of words) from to h.0 h.1 h.2 small le fits (not-empty n (bits_of words) from to h.0 h.1 h.2 (omega (arith, apart, le)) fits h.3) h.3

-- a list that takes no bits has no postings
pub few-between : (n : ℕ) (bits : List ℕ) (from to : ℕ) (list : List Posting) (ends cuts : List ℕ) → n ≤ format_three.most_documents → from ≡ to → to ≤ length bits → IsListBetween n bits from to list ends cuts → length list ≤ 1
few-between n bits from to [] ends cuts small same fit h = omega arith
few-between n bits from to (p ∷ list) ends cuts small same fit h =
    let f = list-facts n bits from to (p ∷ list) ends cuts small (omega (arith, same)) fit (omega arith) h in
    absurd (omega (arith, same, f.count.within, some-digits (length (p ∷ list)) f.count.some (omega (arith, f.count.few))))

-- the number of postings and the greatest frequency are those that were read
pub record AreRead (bits : List ℕ) (from to m behind g : ℕ) (list : List Posting) : Type 0 where
  pub count : m ≡ length list
  pub most : g ≡ greatest_freq list

pub are-read : (n : ℕ) (bits : List ℕ) (from to m behind g : ℕ) (list : List Posting) (ends cuts : List ℕ) → to ≤ length bits → IsGammaBefore bits from to m → behind ≡ from + gamma_length m → IsGammaBefore bits behind to g
    → ListFacts n bits from to list ends cuts → AreRead bits from to m behind g list
are-read n bits from to m behind g list ends cuts fit count is most f =
    let same : m ≡ length list = one-number bits from to to m (length list) fit fit count f.count in
    let place : behind ≡ from + gamma_length (length list) = is ∙ ap (λ k. from + gamma_length k) same in
    record { count = same; most = one-number bits (from + gamma_length (length list)) to to g (greatest_freq list) fit fit (subst (λ p. IsGammaBefore bits p to g) place most) f.most }

-- and the rest stands behind them
pub tail-behind : (n : ℕ) (bits : List ℕ) (from to m behind g last : ℕ) (list : List Posting) (ends cuts : List ℕ) → behind ≡ from + gamma_length m → last ≡ behind + gamma_length g → AreRead bits from to m behind g list
    → ListFacts n bits from to list ends cuts → IsTailBetween n m g bits last to list ends cuts
tail-behind n bits from to m behind g last list ends cuts is there read f =
    let place : from + gamma_length (length list) + gamma_length (greatest_freq list) ≡ last = omega (arith, is, there, ap gamma_length read.count, ap gamma_length read.most) in
    subst (λ k. IsTailBetween n k g bits last to list ends cuts) (sym read.count)
    (subst (λ k. IsTailBetween n (length list) k bits last to list ends cuts) (sym read.most) (subst (λ p. IsTailBetween n (length list) (greatest_freq list) bits p to list ends cuts) place f.tail))
