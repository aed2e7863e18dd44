-- Whole first faults of small files, and files that have none, in each format.
use Rattle.std.proofs.Common.{◌≡◌, refl, sym, ap, ◌∙◌, ℕ, ◌^◌, ◌<◌, ◌≤◌, List, [], ◌∷◌, ◌++◌, length, lit<, lit≤, arith, Option, Some, None}
use Rattle.std.proofs.lemmas.List.Elements.{All-nil, All-weaker}
use Rattle.std.proofs.lemmas.List.{append-nil}
use Rattle.collection_model.specs.FormatNumbers.{FormatNumbers, format_one}
use Rattle.collection_model.specs.Bytes.{number_sequence}
use Rattle.collection_model.specs.Collection.{Posting, Collection, WellFormed, IsPostingList}
use Rattle.collection_model.specs.Spelling.{Files, head_bytes, spelled}
use Rattle.collection_model.proofs.Examples.{small, three, small-well_formed, three-well_formed}
use Rattle.part_cost.specs.declared.formats.Format.{Format}
use Rattle.part_cost.specs.declared.formats.Format.TheVariants.{One, Two, Three}
use Rattle.part_cost.specs.Formats.{numbers_of}
use Rattle.io_traits.specs.declared.fail.Slot.{Slot}
use Rattle.io_traits.specs.declared.fail.Slot.TheVariants.{Docs, Freqs, Sizes}
use Rattle.collection_reader.specs.declared.fault.Rule.{Rule}
use Rattle.collection_reader.specs.declared.fault.Rule.TheVariants.{C1, C2, C3, C4, C5, C6, C7, C10, C11, C12}
use Rattle.collection_reader.specs.declared.fault.Fault.{Fault}
use Rattle.collection_reader.specs.FirstFault.{IsFirstFault, IsListFault, end_fault}
use Rattle.collection_reader.proofs.Rows.{not-increasing, out-of-range, zero-frequency, no-freqs, length-differs}
use Rattle.collection_reader.proofs.Prefixes.{longest-from_blocked, blocked-at_end}
use Rattle.collection_reader.proofs.FirstFaults.{one-first_fault, spelled-no_fault}
use Rattle.collection_reader.proofs.CollectionRead.{next-faulty, fault-behind}

abbrev at : Rule → Slot → ℕ → ℕ → Option Fault
at rule file term place = Some (record { rule = rule; file = file; term = term; place = place })

-- A format whose limits are no lower than those of the first.
record IsWide (format : FormatNumbers) : Type 0 where
  documents : format_one.most_documents ≤ format.most_documents
  sums : format_one.most_sum ≤ format.most_sum
  fit : format.most_documents < 2 ^ 32

each-is_wide : (format : Format) → IsWide (numbers_of format)
each-is_wide One = record { documents = lit≤ tt; sums = lit≤ tt; fit = lit< tt }
each-is_wide Two = record { documents = lit≤ tt; sums = lit≤ tt; fit = lit< tt }
each-is_wide Three = record { documents = lit≤ tt; sums = lit≤ tt; fit = lit< tt }

-- what the first format can hold, the others can
wider : (format : FormatNumbers) (c : Collection) → IsWide format → WellFormed format_one c → WellFormed format c
wider format c wide good = record {
  documents = omega (arith, good.documents, wide.documents);
  terms = good.terms;
  lists = All-weaker (IsPostingList format_one c.documents) (IsPostingList format c.documents)
      (λ (l : List Posting) (p : IsPostingList format_one c.documents l). record { rising = p.rising; in_range = p.in_range; not_zero = p.not_zero; fit = p.fit; sum_within = omega (arith, p.sum_within, wide.sums) }) c.lists good.lists;
  size_each = good.size_each;
  sizes = good.sizes;
}

-- the head
cut-head : (format : FormatNumbers) (freqs sizes : List ℕ) → IsFirstFault format (record { docs = 1 ∷ 0 ∷ 0 ∷ 0 ∷ 3 ∷ 0 ∷ []; freqs = freqs; sizes = sizes }) (at C1 Docs 0 0)
cut-head format freqs sizes = refl

not-single : (format : FormatNumbers) (freqs sizes : List ℕ) → IsFirstFault format (record { docs = number_sequence (3 ∷ 4 ∷ []); freqs = freqs; sizes = sizes }) (at C2 Docs 0 0)
not-single format freqs sizes = refl

too-many : (freqs sizes : List ℕ) → IsFirstFault format_one (record { docs = head_bytes 268435456; freqs = freqs; sizes = sizes }) (at C3 Docs 0 0)
too-many freqs sizes = refl

-- a list that breaks behind the head of n documents
first-list : (format : FormatNumbers) → IsWide format → (n : ℕ) (docs freqs sizes : List ℕ) (fault : Fault) → n ≤ format_one.most_documents → 0 < length docs → IsListFault format n 0 docs freqs fault → IsFirstFault format (record { docs = head_bytes n ++ docs; freqs = freqs; sizes = sizes }) (Some fault)
first-list format wide n docs freqs sizes fault within some broken =
    next-faulty format wide.fit (record { docs = head_bytes n ++ docs; freqs = freqs; sizes = sizes }) n [] docs freqs fault
    (record { documents = omega (arith, within, wide.documents); terms = lit≤ tt; each = All-nil (IsPostingList format n); docs = ap (λ h. h ++ docs) (sym (append-nil (head_bytes n))); freqs = refl })
    (some, broken)

-- documents 4 4 below 5, and 3 below 3
not-rising : (format : FormatNumbers) → IsWide format → (sizes : List ℕ) → IsFirstFault format (record { docs = head_bytes 5 ++ number_sequence (4 ∷ 4 ∷ []); freqs = []; sizes = sizes }) (at C5 Docs 0 1)
not-rising format wide sizes = first-list format wide 5 (number_sequence (4 ∷ 4 ∷ [])) [] sizes _ (lit≤ tt) (lit< tt) (not-increasing format)

too-great : (format : FormatNumbers) → IsWide format → (sizes : List ℕ) → IsFirstFault format (record { docs = head_bytes 3 ++ number_sequence (3 ∷ []); freqs = []; sizes = sizes }) (at C4 Docs 0 0)
too-great format wide sizes = first-list format wide 3 (number_sequence (3 ∷ [])) [] sizes _ (lit≤ tt) (lit< tt) (out-of-range format)

-- two documents with frequencies 1 0, with none, and with three
zero-second : (format : FormatNumbers) → IsWide format → (sizes : List ℕ) → IsFirstFault format (record { docs = (spelled small).docs; freqs = number_sequence (1 ∷ 0 ∷ []); sizes = sizes }) (at C7 Freqs 0 1)
zero-second format wide sizes = first-list format wide 3 (number_sequence (0 ∷ 2 ∷ [])) (number_sequence (1 ∷ 0 ∷ [])) sizes _ (lit≤ tt) (lit< tt) (zero-frequency format (omega (arith, wide.sums)))

without-freqs : (format : FormatNumbers) → IsWide format → (sizes : List ℕ) → IsFirstFault format (record { docs = (spelled small).docs; freqs = []; sizes = sizes }) (at C1 Freqs 0 0)
without-freqs format wide sizes = first-list format wide 3 (number_sequence (0 ∷ 2 ∷ [])) [] sizes _ (lit≤ tt) (lit< tt) (no-freqs format)

three-freqs : (format : FormatNumbers) → IsWide format → (sizes : List ℕ) → IsFirstFault format (record { docs = (spelled small).docs; freqs = number_sequence (1 ∷ 5 ∷ 1 ∷ []); sizes = sizes }) (at C6 Freqs 0 0)
three-freqs format wide sizes = first-list format wide 3 (number_sequence (0 ∷ 2 ∷ [])) (number_sequence (1 ∷ 5 ∷ 1 ∷ [])) sizes _ (lit≤ tt) (lit< tt) (length-differs format)

-- something broken behind the lists of a collection
behind-lists : (format : FormatNumbers) → IsWide format → (c : Collection) (freqs sizes : List ℕ) (fault : Fault) → WellFormed format_one c → end_fault c.documents (length c.lists) freqs sizes ≡ Some fault
    → IsFirstFault format (record { docs = (spelled c).docs; freqs = (spelled c).freqs ++ freqs; sizes = sizes }) (Some fault)
behind-lists format wide c freqs sizes fault narrow broken =
    let good = wider format c wide narrow in
    fault-behind format wide.fit (record { docs = (spelled c).docs; freqs = (spelled c).freqs ++ freqs; sizes = sizes }) c.documents c.lists [] freqs fault
    (longest-from_blocked format wide.fit _ c.documents c.lists [] freqs (record { documents = good.documents; terms = good.terms; each = good.lists; docs = sym (append-nil (spelled c).docs); freqs = refl }) (blocked-at_end format c.documents freqs))
    (sym broken)

-- a zero behind the frequencies, one size too few, and one byte too many behind the sizes
freqs-left : (format : FormatNumbers) → IsWide format → (sizes : List ℕ) → IsFirstFault format (record { docs = (spelled small).docs; freqs = (spelled small).freqs ++ 0 ∷ 0 ∷ 0 ∷ 0 ∷ []; sizes = sizes }) (at C10 Freqs 1 0)
freqs-left format wide sizes = behind-lists format wide small (0 ∷ 0 ∷ 0 ∷ 0 ∷ []) sizes _ small-well_formed refl

few-sizes : (format : FormatNumbers) → IsWide format → IsFirstFault format (record { docs = (spelled small).docs; freqs = (spelled small).freqs ++ []; sizes = number_sequence (4 ∷ 0 ∷ []) }) (at C11 Sizes 1 0)
few-sizes format wide = behind-lists format wide small [] (number_sequence (4 ∷ 0 ∷ [])) _ small-well_formed refl

sizes-left : (format : FormatNumbers) → IsWide format → IsFirstFault format (record { docs = (spelled small).docs; freqs = (spelled small).freqs ++ []; sizes = number_sequence (4 ∷ 0 ∷ 7 ∷ []) ++ 0 ∷ [] }) (at C12 Sizes 1 3)
sizes-left format wide = behind-lists format wide small [] (number_sequence (4 ∷ 0 ∷ 7 ∷ []) ++ 0 ∷ []) _ small-well_formed refl

-- no sizes at all behind a head alone
no-sizes : (format : FormatNumbers) → IsWide format → (c : Collection) → WellFormed format_one c → c.documents ≡ 268435455 → c.lists ≡ [] → IsFirstFault format (record { docs = (spelled c).docs; freqs = (spelled c).freqs ++ []; sizes = [] }) (at C1 Sizes 0 0)
no-sizes format wide c good n t = behind-lists format wide c [] [] _ good ((λ i. end_fault (n i) (length (t i)) [] []) ∙ refl)

-- two collections have no fault, so no fault is one of theirs
small-no_fault : (format : FormatNumbers) → IsWide format → IsFirstFault format (spelled small) None
small-no_fault format wide = spelled-no_fault format wide.fit small (wider format small wide small-well_formed)

three-no_fault : (format : FormatNumbers) → IsWide format → IsFirstFault format (spelled three) None
three-no_fault format wide = spelled-no_fault format wide.fit three (wider format three wide three-well_formed)

small-not_faulty : (format : FormatNumbers) → IsWide format → (fault : Fault) → IsFirstFault format (spelled small) (Some fault) → ⊥
small-not_faulty format wide fault broken = let one = one-first_fault format wide.fit (spelled small) None (Some fault) (small-no_fault format wide) broken in cc

same-place : (f g : Fault) → Some f ≡ Some g → f.place ≡ g.place
same-place f g is = let same : f ≡ g = cc in ap (λ x. x.place) same

-- a fault in another place is not that of documents 4 4
abbrev repeating : Files
repeating = record { docs = head_bytes 5 ++ number_sequence (4 ∷ 4 ∷ []); freqs = []; sizes = [] }

other-place-not : (format : FormatNumbers) → IsWide format → IsFirstFault format repeating (at C5 Docs 0 0) → ⊥
other-place-not format wide broken =
    let places : ◌≡◌ {A = ℕ} 1 0 = same-place _ _ (one-first_fault format wide.fit repeating (at C5 Docs 0 1) (at C5 Docs 0 0) (not-rising format wide []) broken) in
    omega (arith, places)
