-- What a reader does at its next list, from what it does in each file.
use Rattle.std.proofs.Common.{◌≡◌, refl, ◌∙◌, sym, ap, subst, ℕ, ◌^◌, ◌<◌, ◌+◌, ◌++◌, List, length, arith, inl, inr, IsTrue, Ok, Err, Option, Result, true, false, Bool, not, ◌==◌, MatchBool, length-append}
use Rattle.std.proofs.lemmas.Bool.Decides.{nat_tests}
use Rattle.std.proofs.lemmas.List.Elements.{All-weaker}
use Rattle.collection_model.specs.FormatNumbers.{FormatNumbers, most_terms}
use Rattle.collection_model.specs.Bytes.{number_sequence}
use Rattle.collection_model.proofs.Lists.{docs-of_postings, freqs-of_postings}
use Rattle.io_traits.specs.declared.fail.Slot.TheVariants.{Docs, Freqs, Sizes}
use Rattle.io_traits.specs.DepotState.{DepotState}
use Rattle.collection_reader.specs.declared.fault.Rule.{Rule}
use Rattle.collection_reader.specs.declared.fault.Fault.{Fault}
use Rattle.collection_reader.specs.declared.fault.CollError.{CollError}
use Rattle.collection_reader.specs.FirstFault.{number_at, lacks, FirstBreak, IsListFault}
use Rattle.collection_reader.specs.Reading.{Reading, rests, IsNextFault}
use Rattle.held_pieces.specs.Pieces.{rest_of}
use Rattle.collection_reader.specs.OneFile.{LooksAhead}
use Rattle.collection_reader.specs.OneSequence.{IsDocsFault, IsFreqsFault, ReadsDocuments, ReadsFrequencies}
use Rattle.collection_reader.specs.OneReader.{TriesList}
use Rattle.collection_reader.proofs.SameAnswer.{same-fault}
use Rattle.io_traits.proofs.OnlyReads.{OnlyReads-trans, OnlyReads-wider}
use Rattle.collection_reader.proofs.ReadsFrom.{reads-then, reads-wider, answers-err, answers-ok}
use Rattle.collection_reader.proofs.Breaks.{docs-none}
use Rattle.collection_reader.proofs.Begun.{begun-claim, begun-there}
use Rattle.collection_reader.proofs.Documents.{AreDocuments}
use Rattle.collection_reader.proofs.Starts.{docs-is, freqs-is, docs-listed, freqs-listed, docs-not_freqs, freqs-not_docs, sizes-not_docs, sizes-not_freqs}

match-weaker : (P : Type 0) {Q R : Type 0} (b : Bool) → (Q → R) → MatchBool b P Q → MatchBool b P R
match-weaker P true w h = h
match-weaker P false w h = w h

recounted : (P Q : Type 0) (v m k : ℕ) → m ≡ k → MatchBool (not (v == k)) P Q → MatchBool (not (v == m)) P Q
recounted P Q v m k e h = subst (λ j. MatchBool (not (v == j)) P Q) (sym e) h

break-weaker : {P Q : Type 0} (at : ℕ → Option Rule) (m : ℕ) (found : ℕ → Rule → Type 0) → (P → Q) → FirstBreak at m found P → FirstBreak at m found Q
break-weaker at m found w (inl h) = inl h
break-weaker at m found w (inr (none, h)) = inr (none, w h)

-- a fault of the documents is one of the list
list-fault-docs : (format : FormatNumbers) (n t : ℕ) (docs freqs : List ℕ) (fault : Fault) → IsDocsFault n t docs fault → IsListFault format n t docs freqs fault
list-fault-docs format n t docs freqs fault h = match-weaker _ (lacks docs 0) (break-weaker _ _ _ (λ b. absurd b)) h

-- a fault of the frequencies behind documents of which none breaks a rule
list-fault-freqs : (format : FormatNumbers) (n t : ℕ) (ds rest freqs : List ℕ) (fault : Fault) → AreDocuments n ds → length ds < 2 ^ 32
    → IsFreqsFault format t (length ds) freqs fault → IsListFault format n t (number_sequence ds ++ rest) freqs fault
list-fault-freqs format n t ds rest freqs fault good few h =
    let claim : number_at (number_sequence ds ++ rest) 0 ≡ length ds = begun-claim (length ds) ds rest few in
    rw (begun-there (length ds) ds rest 0 (omega arith)) (
    inr (
      λ k lt. docs-none n (length ds) ds rest good.fit good.rising good.in_range k (omega (arith, claim, lt)),
      match-weaker _ (lacks freqs 0) (recounted _ _ (number_at freqs 0) _ (length ds) claim) h,
    )
    )

true-not_false : (let r : Result Bool CollError = Ok true in r ≡ Ok false) → ⊥
true-not_false h = cc

-- what is left behind a look ahead, or reads of another file
some-left : (r : Reading) (mid : List ℕ) (a b : DepotState) → LooksAhead Docs r.docs mid a b (Ok true) → IsTrue a.tells → 0 < length (rests r a).docs
some-left r mid a b look t = omega (arith, look.more refl, length-append mid (b.left Docs), ap length (look.same_rest t))

next-fault : (r : Reading) (mid : List ℕ) (a b : DepotState) (fault : Fault) → r.lists < most_terms → LooksAhead Docs r.docs mid a b (Ok true) → IsTrue a.tells
    → IsListFault r.format r.documents r.lists (rests r a).docs (rests r a).freqs fault → IsNextFault r.format r.documents r.lists (rests r a) fault
next-fault r mid a b fault few look t h =
    let not_last : r.lists == most_terms ≡ false = grind (arith, nat_tests) in
    (some-left r mid a b look t, rw not_last h)

-- the look ahead fails
pub look_refused : (r : Reading) (mid ds fs : List ℕ) (a b : DepotState) (e : CollError) → LooksAhead Docs r.docs mid a b (Err e) → TriesList r (record r { docs = mid }) a b ds fs (Err e)
look_refused r mid ds fs a b e look = record {
  list = λ h. cc;
  ended = λ h. cc;
  none_lent = λ h. cc;
  format = refl;
  documents = refl;
  refusal = refl;
  first_fault = λ t fault h. absurd (look.no_fault fault h);
  depot = reads-wider docs-is look.depot;
  unchanged = (refl, refl);
  fault_term = λ fault h. absurd (look.no_fault fault h);
  slots = OnlyReads-wider docs-listed look.depot.only;
}

-- the documents are refused
pub documents_refused : (r : Reading) (mid last ds fs : List ℕ) (a b c : DepotState) (e : CollError) → r.lists < most_terms → LooksAhead Docs r.docs mid a b (Ok true)
    → ReadsDocuments r.documents r.lists mid last b c ds (Err e) → TriesList r (record r { docs = last }) a c ds fs (Err e)
documents_refused r mid last ds fs a b c e few look docs = record {
  list = λ h. cc;
  ended = λ h. cc;
  none_lent = λ h. cc;
  format = refl;
  documents = refl;
  refusal = refl;
  first_fault = λ t fault h.
      let broken = docs.first_fault (look.depot.only.tells ∙ t) fault (same-fault {A = Bool} {B = Unit {0}} e fault h) in
      next-fault r mid a b fault few look t (list-fault-docs r.format r.documents r.lists (rests r a).docs (rests r a).freqs fault (subst (λ bytes. IsDocsFault r.documents r.lists bytes fault) (look.same_rest t) broken));
  depot = reads-wider docs-is (reads-then look.depot (answers-err {A = Unit {0}} {B = Bool} e docs.depot));
  unchanged = (refl, refl);
  fault_term = λ fault h. docs.fault_term fault (same-fault {A = Bool} {B = Unit {0}} e fault h);
  slots = OnlyReads-wider docs-listed (OnlyReads-trans look.depot.only docs.depot.only);
}

-- the documents of a list, before its frequencies are read
good-documents : (n t : ℕ) (mid last ds : List ℕ) (b c : DepotState) → n < 2 ^ 32 → ReadsDocuments n t mid last b c ds (Ok tt) → AreDocuments n ds
good-documents n t mid last ds b c fits docs = record {
  rising = docs.rising;
  in_range = docs.in_range;
  fit = All-weaker (λ d. d < n) (λ d. d < 2 ^ 32) (λ d lt. omega (arith, lt, fits)) ds docs.in_range;
}

-- the frequencies are refused
pub frequencies_refused : (r : Reading) (mid last flast ds fs : List ℕ) (a b c d : DepotState) (e : CollError) → r.documents < 2 ^ 32 → r.lists < most_terms → LooksAhead Docs r.docs mid a b (Ok true)
    → ReadsDocuments r.documents r.lists mid last b c ds (Ok tt) → ReadsFrequencies r.format r.lists (length ds) r.freqs flast c d fs (Err e) → TriesList r (record r { docs = last; freqs = flast }) a d ds fs (Err e)
frequencies_refused r mid last flast ds fs a b c d e fits few look docs freqs = record {
  list = λ h. cc;
  ended = λ h. cc;
  none_lent = λ h. cc;
  format = refl;
  documents = refl;
  refusal = refl;
  first_fault = λ t fault h.
      let u = look.depot.only.tells ∙ t in
      let v = docs.depot.only.tells ∙ u in
      let broken = freqs.first_fault v fault (same-fault {A = Bool} {B = Unit {0}} e fault h) in
      let left : c.left Freqs ≡ a.left Freqs = (docs.depot.only.other_slots Freqs freqs-not_docs).1 u ∙ (look.depot.only.other_slots Freqs freqs-not_docs).1 t in
      let broken_here = subst (λ l. IsFreqsFault r.format r.lists (length ds) (r.freqs ++ l) fault) left broken in
      let bytes = sym (docs.rest u) ∙ look.same_rest t in
      next-fault r mid a b fault few look t (subst (λ bytes. IsListFault r.format r.documents r.lists bytes (rests r a).freqs fault) bytes (list-fault-freqs r.format r.documents r.lists ds (rest_of last c Docs) (rests r a).freqs fault (good-documents r.documents r.lists mid last ds b c fits docs) docs.few broken_here));
  depot = reads-then (reads-wider docs-is (reads-then look.depot docs.depot)) (reads-wider freqs-is (answers-err {A = Unit {0}} {B = Bool} e freqs.depot));
  unchanged = (refl, refl);
  fault_term = λ fault h. freqs.fault_term fault (same-fault {A = Bool} {B = Unit {0}} e fault h);
  slots = OnlyReads-trans (OnlyReads-wider docs-listed (OnlyReads-trans look.depot.only docs.depot.only)) (OnlyReads-wider freqs-listed freqs.depot.only);
}

-- the list that was read
pub list_read : (r : Reading) (mid last flast ds fs : List ℕ) (a b c d : DepotState) → r.lists < most_terms → LooksAhead Docs r.docs mid a b (Ok true)
    → ReadsDocuments r.documents r.lists mid last b c ds (Ok tt) → ReadsFrequencies r.format r.lists (length ds) r.freqs flast c d fs (Ok tt) → TriesList r (record r { docs = last; freqs = flast; lists = r.lists + 1 }) a d ds fs (Ok true)
list_read r mid last flast ds fs a b c d few look docs freqs =
    let first : IsTrue a.tells → IsTrue b.tells = λ t. look.depot.only.tells ∙ t in
    let second : IsTrue a.tells → IsTrue c.tells = λ t. docs.depot.only.tells ∙ first t in
    record {
      list = λ h. record {
        same_length = sym freqs.count;
        list = record {
          rising = rw (docs-of_postings ds fs (sym freqs.count)) docs.rising;
          in_range = rw (docs-of_postings ds fs (sym freqs.count)) docs.in_range;
          not_zero = rw (freqs-of_postings ds fs (sym freqs.count)) freqs.not_zero;
          fit = rw (freqs-of_postings ds fs (sym freqs.count)) freqs.fit;
          sum_within = rw (freqs-of_postings ds fs (sym freqs.count)) freqs.sum_within;
        };
        counted = refl;
        within = omega (arith, few);
        phase = refl;
        docs_rest = λ t. sym (look.same_rest t) ∙ docs.rest (first t) ∙ ap (λ l. number_sequence ds ++ (last ++ l)) (sym ((freqs.depot.only.other_slots Docs docs-not_freqs).1 (second t)));
        freqs_rest = λ t. ap (λ l. r.freqs ++ l) (sym ((docs.depot.only.other_slots Freqs freqs-not_docs).1 (first t) ∙ (look.depot.only.other_slots Freqs freqs-not_docs).1 t)) ∙ freqs.rest (second t);
        sizes_rest = λ t. ap (λ l. r.sizes ++ l) ((freqs.depot.only.other_slots Sizes sizes-not_freqs).1 (second t) ∙ (docs.depot.only.other_slots Sizes sizes-not_docs).1 (first t) ∙ (look.depot.only.other_slots Sizes sizes-not_docs).1 t);
      };
      ended = λ h. absurd (true-not_false h);
      none_lent = λ h. absurd (true-not_false h);
      format = refl;
      documents = refl;
      refusal = refl;
      first_fault = λ t fault h. cc;
      depot = reads-then (reads-wider docs-is (reads-then look.depot docs.depot)) (reads-wider freqs-is (answers-ok {B = Bool} true freqs.depot));
      unchanged = tt;
      fault_term = λ fault h. cc;
      slots = OnlyReads-trans (OnlyReads-wider docs-listed (OnlyReads-trans look.depot.only docs.depot.only)) (OnlyReads-wider freqs-listed freqs.depot.only);
    }
