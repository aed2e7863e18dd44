use Rattle.std.specs.Prelude.{◌≡◌, ◌≢◌, ℕ, ◌+◌, ◌-◌, ◌*◌, ◌/◌, ◌%◌, ◌^◌, ◌<◌, not, ◌==◌, ◌||◌, Bool, nat_lt, if◌then◌else◌, List, length, slice_index, Option, Some, None, MatchOption}
use Rattle.collection_model.specs.FormatNumbers.{format_three, most_terms}
use Rattle.bit_words.specs.Bits.{bits_of, HasNoOne}
use Rattle.sequence_words.specs.declared.check.Check.{Check}
use Rattle.sequence_words.specs.declared.check.Check.TheVariants.{K1, K2, K3, K4, K5, K9, K11, K12, K13}
use Rattle.two_level.specs.SequenceFault.{OrElse, FirstOf}
use Rattle.index_file.specs.declared.fault.OpenFault.{OpenFault}
use Rattle.index_file.specs.declared.packed_frame.PackedFrame.{PackedFrame}
use Rattle.index_file.specs.PackedWords.{packed_magic, packed_end, most_list_bits, first_list_bit}
use Rattle.index_file.specs.PackedAt.{packed_documents, packed_terms, packed_bits, packed_sizes, packed_directory, packed_count, HasStarts, IsListStored, AreListsStored}

-- whether these cannot be the numbers of documents, of terms and of list bits of a packed file of
-- so many words
abbrev pub packed_numbers_break : ℕ → ℕ → ℕ → ℕ → Bool
packed_numbers_break documents terms bits count =
    nat_lt format_three.most_documents documents || nat_lt most_terms terms
    || nat_lt most_list_bits bits || not (packed_count documents terms bits == count)

-- the check of the frame of a packed file that breaks: both ends, the version, and the numbers at
-- the end
abbrev pub packed_frame_broken : List ℕ → Option Check
packed_frame_broken words =
    if nat_lt (length words) 6 then Some K1
    else if not (slice_index words 0 == packed_magic) then Some K2
    else if not (slice_index words 1 == format_three.version) then Some K3
    else if not (slice_index words (length words - 1) == packed_end) then Some K4
    else if packed_numbers_break (packed_documents words) (packed_terms words) (packed_bits words)
    (length words) then Some K5
    else None

-- The numbers at the end of the words are these.
pub record StatesPackedFrame (words : List ℕ) (frame : PackedFrame) : Type 0 where
  pub documents : frame.documents ≡ packed_documents words
  pub terms : frame.terms ≡ packed_terms words
  pub bits : frame.bits ≡ packed_bits words

-- The bits of a list are those of none, and those of all lists before it are.
pub record IsFirstUnstored (words : List ℕ) (fault : OpenFault) (t : ℕ) : Type 0 where
  pub within : t < packed_terms words
  pub unstored : ¬ IsListStored words t
  pub before : AreListsStored words t
  pub found : fault ≡ record { check = K13; term = t; part = 0 }

-- The first check of the lists of a packed file that breaks.
abbrev pub IsFirstPackedListFault : List ℕ → OpenFault → Type 0
IsFirstPackedListFault words fault = (t : ℕ) × IsFirstUnstored words fault t

-- The first check that breaks behind all lists: the padding of the lists, and of the sizes.
abbrev pub IsPackedClosingFault : List ℕ → OpenFault → Type 0
IsPackedClosingFault words fault =
    OrElse (¬ HasNoOne (bits_of words) (first_list_bit + packed_bits words)
    (64 * packed_sizes words))
    (fault ≡ record { check = K9; term = packed_terms words; part = 0 })
    ((packed_documents words % 2 ≡ 1)
    × (slice_index words (packed_directory words - 1) / 2 ^ 32 ≢ 0)
    × (fault ≡ record { check = K11; term = 0; part = 0 }))

-- The first check of a packed file that breaks: its frame, its directory, its lists, and the
-- padding behind them and behind the sizes.
abbrev pub IsFirstBrokenPacked : List ℕ → OpenFault → Type 0
IsFirstBrokenPacked words fault =
    MatchOption (packed_frame_broken words)
    (OrElse (¬ HasStarts words) (found K12 0)
    (FirstOf (λ t. ¬ IsListStored words t) (packed_terms words) (found K13)
    (IsPackedClosingFault words fault)))
    (λ check. found check 0)
  where
    found : Check → ℕ → Type 0
    found check t = fault ≡ record { check = check; term = t; part = 0 }
