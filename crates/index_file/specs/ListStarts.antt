use Rattle.std.specs.Prelude.{◌≡◌, ◌⊎◌, ℕ, ◌+◌, ◌*◌, nat_lt, if◌then◌else◌, List, [], map, length}
use Rattle.std.specs.List.{range_with_len}
use Rattle.part_cost.specs.declared.formats.Format.{Format}
use Rattle.part_cost.specs.declared.formats.Format.TheVariants.{One, Two, Three}
use Rattle.index_file.specs.FileWords.{format_read}
use Rattle.index_file.specs.PackedAt.{packed_terms, start_stated}

-- where the bits of each list of a packed file begin among those of all lists, and where the last
-- end
abbrev pub list_starts : List ℕ → List ℕ
list_starts words = map (start_stated words) (range_with_len 0 (packed_terms words + 1))

-- so many words a file has at least for each number that is kept of it
abbrev pub words_a_start : ℕ
words_a_start = 2

-- what is kept of where the lists of a file in a format begin: a plain file says it by its
-- directory
abbrev pub starts_of_format : Format → List ℕ → List ℕ
starts_of_format One words = []
starts_of_format Two words = []
starts_of_format Three words = if nat_lt (length words) (words_a_start * (packed_terms words + 1))
    then [] else list_starts words

-- what is kept of where the lists of an index begin
abbrev pub kept_starts : List ℕ → List ℕ
kept_starts words = starts_of_format (format_read words) words

-- They are none, or these.
abbrev pub AreNoneOr : List ℕ → List ℕ → Type 0
AreNoneOr these given = (given ≡ []) ⊎ (given ≡ these)
