use Rattle.std.specs.Prelude.{◌≡◌, ℕ, List, length, take}
use Rattle.collection_model.specs.FormatNumbers.{format_three}
use Rattle.collection_model.specs.Collection.{Posting, Collection, IsPostingList, list_of, greatest_freq}
use Rattle.collection_model.specs.Sequences.{doc_sequence, freq_sequence}
use Rattle.packed_list.specs.declared.sink.ListHead.{ListHead}

-- This is the head of the list of its term in a collection.
pub record IsHeadOf (head : ListHead) (c : Collection) : Type 0 where
  pub documents : head.documents ≡ c.documents
  pub postings : head.postings ≡ length (list_of c head.term)
  pub greatest : head.greatest ≡ greatest_freq (list_of c head.term)

-- Numbers begin with the two sequences of a list that has this head.
pub record BeginWithList (head : ListHead) (first second : List ℕ)
    (list : List Posting) : Type 0 where
  pub well_formed : IsPostingList format_three head.documents list
  pub postings : head.postings ≡ length list
  pub greatest : head.greatest ≡ greatest_freq list
  pub docs : take head.postings first ≡ doc_sequence list
  pub sums : take head.postings second ≡ freq_sequence list
