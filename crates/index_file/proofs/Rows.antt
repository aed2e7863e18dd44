-- The words of small indexes, and the numbers that break a check, computed.
use Rattle.std.proofs.Common.{◌≡◌, refl, ℕ, Bool, true, false, List, [], ◌∷◌, length, map}
use Rattle.std.specs.List.{range_with_len}
use lib.Count.{count_leading_zeros}
use Rattle.collection_model.specs.FormatNumbers.{format_one, format_two}
use Rattle.collection_model.specs.Collection.{Collection}
use Rattle.part_cost.specs.Payload.{ef_payload, bitmap_payload, kind_of}
use Rattle.ranked_bitmap.specs.MapBits.{map_bits}
use Rattle.index_file.specs.FileWords.{ListParts, file_words, opening_magic, end_magic}
use Rattle.index_file.specs.FirstBroken.{numbers_break}

-- Three documents with one list, 0 once and 2 five times, each sequence in one part, and sizes 4, 0, 7.
abbrev three : Collection
three = record { documents = 3; lists = (record { doc = 0; freq = 1 } ∷ record { doc = 2; freq = 5 } ∷ []) ∷ []; sizes = 4 ∷ 0 ∷ 7 ∷ [] }

abbrev one_part : ℕ → List ListParts
one_part end = record { doc_ends = end ∷ []; freq_ends = end ∷ [] } ∷ []

one_list : file_words format_one three (one_part 2)
    ≡ opening_magic ∷ 1 ∷ 137438953474 ∷ 0 ∷ 5 ∷ 137438953477 ∷ 0 ∷ 33 ∷ 4 ∷ 7 ∷ 2 ∷ 5 ∷ 4294967298 ∷ 21474836481 ∷ 3 ∷ 1 ∷ 8 ∷ end_magic ∷ []
unfolding ef_payload bitmap_payload kind_of map_bits count_leading_zeros
one_list = refl

one_list-two : file_words format_two three (one_part 2)
    ≡ opening_magic ∷ 2 ∷ 2 ∷ 2 ∷ 0 ∷ 5 ∷ 5 ∷ 2 ∷ 0 ∷ 33 ∷ 4 ∷ 7 ∷ 2 ∷ 6 ∷ 4294967298 ∷ 21474836481 ∷ 3 ∷ 1 ∷ 10 ∷ end_magic ∷ []
unfolding ef_payload bitmap_payload kind_of map_bits count_leading_zeros
one_list-two = refl

-- No documents and no lists.
nothing : file_words format_one (record { documents = 0; lists = []; sizes = [] }) [] ≡ opening_magic ∷ 1 ∷ 0 ∷ 0 ∷ 2 ∷ end_magic ∷ []
nothing = refl

nothing-two : file_words format_two (record { documents = 0; lists = []; sizes = [] }) [] ≡ opening_magic ∷ 2 ∷ 0 ∷ 0 ∷ 2 ∷ end_magic ∷ []
nothing-two = refl

-- A thousand documents, each once in one list: how many words.
abbrev thousand : Collection
thousand = record { documents = 1000; lists = map (λ d. record { doc = d; freq = 1 }) (range_with_len 0 1000) ∷ []; sizes = map (λ d. 0) (range_with_len 0 1000) }

every : length (file_words format_one thousand (one_part 1000)) ≡ 514
unfolding ef_payload bitmap_payload kind_of map_bits count_leading_zeros
every = refl

every-two : length (file_words format_two thousand (one_part 1000)) ≡ 516
unfolding ef_payload bitmap_payload kind_of map_bits count_leading_zeros
every-two = refl

-- Whether so many documents are too many in each format, in files of just the words that these numbers state: the most documents of
-- each, and one more.
abbrev break_in : ℕ → ℕ → List Bool
break_in documents words = numbers_break format_one documents 0 2 words ∷ numbers_break format_two documents 0 2 words ∷ []

most-in_one : break_in 268435455 134217734 ≡ false ∷ false ∷ []
most-in_one = refl

too-many_in_one : break_in 268435456 134217734 ≡ true ∷ false ∷ []
too-many_in_one = refl

most-in_two : break_in 4294967295 2147483654 ≡ true ∷ false ∷ []
most-in_two = refl

too-many_in_two : break_in 4294967296 2147483654 ≡ true ∷ true ∷ []
too-many_in_two = refl
