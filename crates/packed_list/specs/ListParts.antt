use Rattle.std.specs.Prelude.{◌≡◌, ℕ, List}
use Rattle.collection_model.specs.Collection.{Posting, greatest_freq}
use Rattle.collection_model.specs.Sequences.{doc_sequence, freq_sequence}
use Rattle.packed_list.specs.declared.write.ListParts.{ListParts}
use Rattle.packed_list.specs.ListBits.{IsCutInto}

-- the list over so many documents that is to be written
pub record IsPartsOf (documents : ℕ) (parts : ListParts) (list : List Posting) : Type 0 where
  pub cut : IsCutInto documents list parts.doc_ends.now parts.sum_ends.now
  pub of_docs : parts.docs.now ≡ doc_sequence list
  pub of_sums : parts.sums.now ≡ freq_sequence list
  pub most : parts.greatest ≡ greatest_freq list
