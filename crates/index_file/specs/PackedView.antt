use Rattle.std.specs.Prelude.{ℕ, ◌+◌, ◌/◌, ◌%◌, ◌^◌, ◌==◌, if◌then◌else◌, List, map, slice_index}
use Rattle.std.specs.List.{range_with_len}
use Rattle.collection_model.specs.Collection.{Posting, Collection}
use Rattle.collection_model.specs.Sequences.{postings_in}
use Rattle.packed_list.specs.ListStated.{ListStated, list_at, no_list}
use Rattle.index_file.specs.CutLists.{ListParts}
use Rattle.index_file.specs.PackedWords.{first_list_bit}
use Rattle.index_file.specs.PackedAt.{packed_documents, packed_terms, packed_sizes, start_stated}

-- the size that words state of a document, where the sizes begin at a word
abbrev pub size_at : List ℕ → ℕ → ℕ → ℕ
size_at words first d = if d % 2 == 0 then slice_index words (first + d / 2) % 2 ^ 32
    else slice_index words (first + d / 2) / 2 ^ 32

-- the sizes of so many documents
abbrev pub sizes_at : List ℕ → ℕ → ℕ → List ℕ
sizes_at words first n = map (size_at words first) (range_with_len 0 n)

-- the list of a term that the words of a packed file state
abbrev pub packed_list_stated : List ℕ → ℕ → ListStated
packed_list_stated words t =
    if start_stated words t == start_stated words (t + 1) then no_list
    else list_at (packed_documents words) words (first_list_bit + start_stated words t)

-- the postings that they state of it
abbrev pub packed_postings : ListStated → List Posting
packed_postings list = postings_in list.docs.values list.freqs.values

-- and the parts of its two sequences
abbrev pub packed_cuts : ListStated → ListParts
packed_cuts list = record { doc_ends = list.docs.ends; freq_ends = list.freqs.ends }

-- the collection that they state
abbrev pub packed_collection : List ℕ → Collection
packed_collection words = record {
  documents = packed_documents words;
  lists = map (λ t. packed_postings (packed_list_stated words t))
      (range_with_len 0 (packed_terms words));
  sizes = sizes_at words (packed_sizes words) (packed_documents words);
}

-- the parts of its sequences
abbrev pub packed_parts : List ℕ → List ListParts
packed_parts words =
    map (λ t. packed_cuts (packed_list_stated words t)) (range_with_len 0 (packed_terms words))
