use Rattle.std.specs.Prelude.{◌≡◌, ℕ, ◌+◌, ◌-◌, ◌/◌, ◌==◌, if◌then◌else◌, List, [], ◌∷◌, ◌++◌, length, sum_by, codes, decimal}
use Rattle.collection_model.specs.FormatNumbers.{FormatNumbers, part_charge}
use Rattle.collection_model.specs.Collection.{Collection}
use Rattle.collection_model.specs.Sequences.{doc_sequence, freq_sequence}
use Rattle.part_cost.specs.Span.{cost_of_part}
use Rattle.part_cost.specs.Partition.{partition_cost}
use Rattle.index_file.specs.FileWords.{CutList, ListParts, with_parts}
use Rattle.command_model.specs.Replies.{AreReplies}

-- what the partitions of the two sequences of a list cost
abbrev pub cost_of_list : FormatNumbers → CutList → ℕ
cost_of_list format cut =
    partition_cost (cost_of_part (part_charge format) (doc_sequence cut.list)) cut.parts.doc_ends
    + partition_cost (cost_of_part (part_charge format) (freq_sequence cut.list))
    cut.parts.freq_ends

-- what all partitions of a collection cost
abbrev pub cost_of_lists : FormatNumbers → Collection → List ListParts → ℕ
cost_of_lists format c parts = sum_by (cost_of_list format) (with_parts c.lists parts)

-- the line that counts what a generated collection has, and the bits that its partitions cost
unfoldable pub counts_line : FormatNumbers → Collection → List ListParts → List ℕ
counts_line format c parts =
    codes "documents " ++ decimal c.documents ++ codes " terms " ++ decimal (length c.lists)
    ++ codes " postings " ++ decimal (sum_by length c.lists)
    ++ codes " bits " ++ decimal (cost_of_lists format c parts) ++ codes "\n"

-- the query line for the last term from the middle document on
unfoldable pub next_line : Collection → List ℕ
next_line c = codes "next " ++ decimal (length c.lists - 1) ++ codes " "
    ++ decimal (c.documents / 2)

-- the query line for the first ten documents of the first and the last term
unfoldable pub top_line : Collection → List ℕ
top_line c = codes "top 10 0 " ++ decimal (length c.lists - 1)

-- what a generated collection is asked: nothing where it has no term, else the one line, and the
-- other by each of the three plans
abbrev pub asked_lines : Collection → List (List ℕ)
asked_lines c = if length c.lists == 0 then []
    else next_line c ∷ top_line c ∷ top_line c ∷ top_line c ∷ []

-- The text is the line that counts a generated collection, and the replies to what it is asked.
abbrev pub IsGeneratedText : FormatNumbers → Collection → List ListParts → List ℕ → Type 0
IsGeneratedText format c parts text = (replies : List ℕ) × AreReplies c (asked_lines c) replies
    × (text ≡ counts_line format c parts ++ replies)
