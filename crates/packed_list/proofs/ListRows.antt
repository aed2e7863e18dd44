-- The bits of small lists, by computing.
use Rattle.std.proofs.Common.{◌≡◌, refl, ℕ, ◌+◌, ◌*◌, List, [], ◌∷◌, ◌++◌, length}
use Rattle.bit_words.specs.Bits.{words_of}
use Rattle.collection_model.specs.FormatNumbers.{format_three}
use Rattle.collection_model.specs.Collection.{Posting}
use Rattle.part_cost.specs.Payload.{payload, kind_of, low_width_of, ef_payload, bitmap_payload}
use Rattle.elias_fano.specs.EfBits.{ef_bits}
use Rattle.ranked_bitmap.specs.MapBits.{map_bits}
use Rattle.two_level.specs.SequenceView.{sequence_stated}
use Rattle.part_codec.specs.PartValues.{values_at}
use Rattle.packed_list.specs.Gamma.{gamma, gamma_at, behind_gamma}
use Rattle.packed_list.specs.ListBits.{list_bits}
use Rattle.packed_list.specs.ListStated.{ListStated, list_at}

gamma-rows : gamma 1 ++ gamma 2 ++ gamma 5 ≡ 1 ∷ 0 ∷ 1 ∷ 0 ∷ 0 ∷ 0 ∷ 1 ∷ 1 ∷ 0 ∷ []
unfolding lib.Count.count_leading_zeros
gamma-rows = refl

-- five, read back behind two
gamma-back : gamma_at (0 ∷ 1 ∷ 0 ∷ 0 ∷ 0 ∷ 1 ∷ 1 ∷ 0 ∷ 1 ∷ []) 3 ≡ 5
gamma-back = refl

behind-back : behind_gamma (0 ∷ 1 ∷ 0 ∷ 0 ∷ 0 ∷ 1 ∷ 1 ∷ 0 ∷ 1 ∷ []) 3 ≡ 8
behind-back = refl

abbrev two-postings : List Posting
two-postings = record { doc = 0; freq = 1 } ∷ record { doc = 2; freq = 5 } ∷ []

-- (0,1)(2,5) over three documents, each sequence as one part: 25 bits
pub two-bits : list_bits 3 0 two-postings (2 ∷ []) (2 ∷ []) ≡
    (0 ∷ 1 ∷ 0 ∷ 0 ∷ 0 ∷ 1 ∷ 1 ∷ 0 ∷ []) ++ (0 ∷ 0 ∷ 1 ∷ 1 ∷ 0 ∷ 1 ∷ []) ++ (0 ∷ 0 ∷ 0 ∷ 1 ∷ 0 ∷ 1 ∷ 0 ∷ 0 ∷ 0 ∷ 0 ∷ 1 ∷ [])
unfolding kind_of low_width_of ef_payload bitmap_payload map_bits ef_bits lib.Count.count_leading_zeros
two-bits = refl

-- the same with its documents in two parts: behind the list's 8 bits a one, 2 as a field of 2 bits,
-- zeros up to the next word, and four words
parted-length : length (list_bits 3 0 two-postings (1 ∷ 2 ∷ []) (2 ∷ [])) ≡ 64 + 5 * 64 + 11
unfolding kind_of low_width_of ef_payload payload bitmap_payload map_bits ef_bits lib.Count.count_leading_zeros
parted-length = refl

-- one posting: 5 bits of gamma codes, and the document in 2 bits
one-bits : list_bits 3 7 (record { doc = 2; freq = 3 } ∷ []) (1 ∷ []) (1 ∷ []) ≡ 1 ∷ 0 ∷ 1 ∷ 1 ∷ 0 ∷ 1 ∷ []
unfolding lib.Count.count_leading_zeros
one-bits = refl

-- what the bits of lists state, read back: one part each, and several parts of documents, of
-- frequencies and of both
abbrev stated : List ℕ → List ℕ → ListStated
stated doc_ends freq_ends = record {
  most = 5;
  docs = record { format = format_three; values = 0 ∷ 2 ∷ []; ends = doc_ends };
  freqs = record { format = format_three; values = 0 ∷ 5 ∷ []; ends = freq_ends };
}

back-one : list_at 3 (words_of (list_bits 3 0 two-postings (2 ∷ []) (2 ∷ []))) 0 ≡ stated (2 ∷ []) (2 ∷ [])
unfolding list_at sequence_stated values_at kind_of low_width_of payload ef_payload bitmap_payload map_bits ef_bits lib.Count.count_leading_zeros
back-one = refl

back-docs : list_at 3 (words_of (list_bits 3 0 two-postings (1 ∷ 2 ∷ []) (2 ∷ []))) 0 ≡ stated (1 ∷ 2 ∷ []) (2 ∷ [])
unfolding list_at sequence_stated values_at kind_of low_width_of payload ef_payload bitmap_payload map_bits ef_bits lib.Count.count_leading_zeros
back-docs = refl

back-freqs : list_at 3 (words_of (list_bits 3 0 two-postings (2 ∷ []) (1 ∷ 2 ∷ []))) 0 ≡ stated (2 ∷ []) (1 ∷ 2 ∷ [])
unfolding list_at sequence_stated values_at kind_of low_width_of payload ef_payload bitmap_payload map_bits ef_bits lib.Count.count_leading_zeros
back-freqs = refl

back-both : list_at 3 (words_of (list_bits 3 0 two-postings (1 ∷ 2 ∷ []) (1 ∷ 2 ∷ []))) 0 ≡ stated (1 ∷ 2 ∷ []) (1 ∷ 2 ∷ [])
unfolding list_at sequence_stated values_at kind_of low_width_of payload ef_payload bitmap_payload map_bits ef_bits lib.Count.count_leading_zeros
back-both = refl
