-- Lemmas on the two sequences that are written of a list.
use Rattle.std.proofs.Common.{◌≡◌, subst, sym, ℕ, ◌<◌, ◌≤◌, List, length, arith}
use Rattle.std.specs.List.{All}
use Rattle.std.specs.List.Sorted.{IsStrictlyIncreasing}
use Rattle.std.proofs.lemmas.List.Elements.{All-weaker}
use Rattle.collection_model.specs.FormatNumbers.{FormatNumbers}
use Rattle.collection_model.specs.Collection.{Posting, docs_of, IsPostingList}
use Rattle.collection_model.specs.Sequences.{doc_sequence, freq_sequence}
use Rattle.part_cost.specs.Formats.{HasRoom}
use Rattle.collection_model.proofs.Lists.{rising-length}
use Rattle.postings.proofs.Lists.{sequences-of_list}

-- values that a sequence of a format can be written of
pub record AreValues (format : FormatNumbers) (values : List ℕ) : Type 0 where
  pub rising : IsStrictlyIncreasing values
  pub below : All (λ x. x < format.most_sum) values
  pub few : length values ≤ format.most_documents

docs-of_list : (format : FormatNumbers) → HasRoom format → (list : List Posting) → IsPostingList format format.most_documents list → AreValues format (doc_sequence list)
docs-of_list format room list h = record {
  rising = h.rising;
  below = All-weaker (λ d. d < format.most_documents) (λ d. d < format.most_sum) (λ d small. omega (arith, room.documents)) (docs_of list) h.in_range;
  few = omega (arith, rising-length (docs_of list) format.most_documents h.rising h.in_range);
}

sums-of_list : (format : FormatNumbers) → HasRoom format → (list : List Posting) → IsPostingList format format.most_documents list → AreValues format (freq_sequence list)
sums-of_list format room list h =
    let rise = sequences-of_list format format.most_documents list h in
    let docs = docs-of_list format room list h in
    record { rising = rise.sums_rise; below = rise.sums_below; few = omega (arith, docs.few, rise.docs_count, rise.sums_count) }

-- values of which some list is made
pub docs-values : (format : FormatNumbers) → HasRoom format → (docs : List ℕ) (list : List Posting) → IsPostingList format format.most_documents list → docs ≡ doc_sequence list → AreValues format docs
docs-values format room docs list h is = subst (AreValues format) (sym is) (docs-of_list format room list h)

pub sums-values : (format : FormatNumbers) → HasRoom format → (sums : List ℕ) (list : List Posting) → IsPostingList format format.most_documents list → sums ≡ freq_sequence list → AreValues format sums
sums-values format room sums list h is = subst (AreValues format) (sym is) (sums-of_list format room list h)
