-- The side file of an index that is not too large is not too large.
use Rattle.std.proofs.Common.{◌≡◌, refl, ap, ℕ, ◌+◌, ◌-◌, ◌≤◌, lit≤, List, [], ◌∷◌, ◌++◌, ◌*◌, map, length, replicate, arith, length-append}
use Rattle.std.proofs.lemmas.List.{length-map}
use Rattle.std.proofs.lemmas.List.Concat.{flat_map-cons}
use Rattle.collection_model.specs.FormatNumbers.{FormatNumbers, FileKind, Plain, Packed, EntryShape, EndBesideLast, EachApart, EndInTwo, format_three, most_terms}
use Rattle.collection_model.specs.Collection.{Collection, Posting}
use Rattle.collection_model.specs.Sequences.{doc_sequence}
use Rattle.bit_words.specs.Bits.{bits_of, field_bits, padding, words_of}
use Rattle.bit_words.proofs.Value.{length-bits_of}
use Rattle.part_cost.specs.Payload.{digits}
use Rattle.part_cost.specs.Partition.{IsPartition}
use Rattle.part_cost.proofs.Partitions.{few-parts}
use Rattle.part_cost.specs.Span.{past, payload_of_part}
use Rattle.two_level.specs.EntryWords.{entry, entry_in}
use Rattle.two_level.specs.SequenceWords.{directory_from, payload_from, sequence_words}
use Rattle.packed_sequence.specs.SequenceBits.{sequence_bits}
use Rattle.packed_list.specs.ListBits.{head_bits, docs_bits, freqs_bits, list_bits}
use Rattle.index_file.specs.FileWords.{CutList, ListParts, ArePartitions, doc_words, freq_words, lists_words, plain_words, words_of_kind, with_parts}
use Rattle.index_file.specs.PackedWords.{first_list_bit, bits_of_list, bits_of_lists, packed_words}
use Rattle.index_file.specs.Builder.{most_words}
use Rattle.index_file.proofs.FittingFiles.{fits-within}
use Rattle.index_file.proofs.Lengths.{file-length}
use Rattle.block_max.specs.Blocks.{Block, BlockList, blocks_at, blocks_of}
use Rattle.block_max.specs.SideWords.{block_freqs, side_end, side_words}
use Rattle.index_blocks.specs.BlockLists.{block_list, block_lists}
use Rattle.index_blocks.specs.Laws.{SideFilesFit}

blocks-length : (list : List Posting) (i : ℕ) (ends : List ℕ) → length (blocks_at list i ends) ≡ length ends
blocks-length list i [] = refl
blocks-length list i (end ∷ ends) = let more = blocks-length list end ends in omega arith

some-of : (shape : EntryShape) (unit last end offset : ℕ) → 1 ≤ length (entry_in shape unit last end offset)
some-of EndBesideLast unit last end offset = lit≤ tt
some-of EachApart unit last end offset = lit≤ tt
some-of EndInTwo unit last end offset = lit≤ tt

-- an entry has a word
entry-some : (format : FormatNumbers) (last end offset : ℕ) → 1 ≤ length (entry format last end offset)
entry-some format last end offset = some-of format.shape format.most_sum last end offset

-- a directory has a word at least for each part
directory-most : (format : FormatNumbers) (xs : List ℕ) (i offset : ℕ) (ends : List ℕ) → length ends ≤ length (directory_from format xs i offset ends)
directory-most format xs i offset [] = omega arith
directory-most format xs i offset (end ∷ ends) =
    let first : List ℕ = entry format (past xs end - 1) end offset in
    let rest : List ℕ = directory_from format xs end (offset + payload_of_part xs i end) ends in
    let both : length (first ++ rest) ≡ length first + length rest = length-append first rest in
    let one : 1 ≤ length first = entry-some format (past xs end - 1) end offset in
    let more : length ends ≤ length rest = directory-most format xs end (offset + payload_of_part xs i end) ends in
    omega arith

abbrev greatest_of : BlockList → List ℕ
greatest_of c = map (λ b. b.greatest) (blocks_of c)

-- and so have the words of lists for each block
lists-most : (format : FormatNumbers) (cs : List CutList) → length (block_freqs (map block_list cs)) ≤ length (lists_words format cs)
lists-most format [] = omega arith
lists-most format (c ∷ cs) =
    let b : BlockList = block_list c in
    let split : length (block_freqs (b ∷ map block_list cs)) ≡ length (greatest_of b ++ block_freqs (map block_list cs)) = ap length (flat_map-cons greatest_of b (map block_list cs)) in
    let two : length (greatest_of b ++ block_freqs (map block_list cs)) ≡ length (greatest_of b) + length (block_freqs (map block_list cs)) = length-append (greatest_of b) (block_freqs (map block_list cs)) in
    let count : length (greatest_of b) ≡ length (blocks_of b) = length-map (blocks_of b) (λ (x : Block). x.greatest) in
    let own = blocks-length c.list 0 c.parts.doc_ends in
    let directory : List ℕ = directory_from format (doc_sequence c.list) 0 0 c.parts.doc_ends in
    let payload : List ℕ = words_of (payload_from (doc_sequence c.list) 0 c.parts.doc_ends) in
    let docs : length (doc_words format c) ≡ length directory + length payload = length-append directory payload in
    let most = directory-most format (doc_sequence c.list) 0 0 c.parts.doc_ends in
    let rest = lists-most format cs in
    let outer : length (doc_words format c ++ freq_words format c ++ lists_words format cs) ≡ length (doc_words format c ++ freq_words format c) + length (lists_words format cs) = length-append (doc_words format c ++ freq_words format c) (lists_words format cs) in
    let inner : length (doc_words format c ++ freq_words format c) ≡ length (doc_words format c) + length (freq_words format c) = length-append (doc_words format c) (freq_words format c) in
    omega arith

-- the words of lists of a plain file
plain-side : (format : FormatNumbers) (c : Collection) (parts : List ListParts)
    → length (side_words (block_lists c.lists parts)) ≤ length (plain_words format c.documents (with_parts c.lists parts) c.sizes)
plain-side format c parts =
    let cs : List CutList = with_parts c.lists parts in
    let freqs : List ℕ = block_freqs (block_lists c.lists parts) in
    let side : length (freqs ++ length freqs ∷ side_end ∷ []) ≡ length freqs + 2 = length-append freqs (length freqs ∷ side_end ∷ []) in
    let most : length freqs ≤ length (lists_words format cs) = lists-most format cs in
    let whole = file-length format c.documents cs c.sizes in
    omega arith

-- a directory of the third format has two words for each part
directory-two : (xs : List ℕ) (i offset : ℕ) (ends : List ℕ) → length (directory_from format_three xs i offset ends) ≡ 2 * length ends
directory-two xs i offset [] = refl
directory-two xs i offset (end ∷ ends) = omega (arith, directory-two xs end (offset + payload_of_part xs i end) ends)

-- a sequence of a packed list has at most one part more than every 128 of its bits
sequence-parts : (less width at : ℕ) (xs ends : List ℕ) → 128 * length ends ≤ 128 + length (sequence_bits (record { less = less; width = width }) at xs ends)
sequence-parts less width at xs [] = omega arith
sequence-parts less width at xs (end ∷ []) = omega arith
sequence-parts less width at xs (end ∷ next ∷ more) =
    let ends : List ℕ = end ∷ next ∷ more in
    let w : ℕ = digits (length xs) in
    let zeros : List ℕ = replicate (padding (at + 1 + w)) 0 in
    let head : List ℕ = 1 ∷ field_bits w (length ends) in
    let ws : List ℕ = sequence_words format_three xs ends in
    let payload : List ℕ = words_of (payload_from xs 0 ends) in
    omega (
      arith,
      directory-two xs 0 0 ends,
      length-append (directory_from format_three xs 0 0 ends) payload,
      length-bits_of ws,
      length-append (head ++ zeros) (bits_of ws),
    )

-- so has a list of the parts of its documents
list-parts : (n at : ℕ) (list : List Posting) (doc_ends freq_ends : List ℕ) → IsPartition (length list) doc_ends → 128 * length doc_ends ≤ 128 + length (list_bits n at list doc_ends freq_ends)
list-parts n at [] doc_ends freq_ends h = omega (arith, few-parts 0 0 doc_ends h)
list-parts n at (p ∷ []) doc_ends freq_ends h = omega (arith, few-parts 0 1 doc_ends h)
list-parts n at (p ∷ q ∷ list) doc_ends freq_ends h =
    let xs : List Posting = p ∷ q ∷ list in
    let head : List ℕ = head_bits xs in
    let docs : List ℕ = docs_bits n (at + length head) xs doc_ends in
    let freqs : List ℕ = freqs_bits (at + length head + length docs) xs freq_ends in
    omega (arith, sequence-parts 0 (digits (n - 1)) (at + length head) (doc_sequence xs) doc_ends, length-append (head ++ docs) freqs, length-append head docs)

packed-parts : (n at : ℕ) (lists : List (List Posting)) (parts : List ListParts) → ArePartitions lists parts
    → 128 * length (block_freqs (block_lists lists parts)) ≤ 128 * length lists + length (bits_of_lists n at (with_parts lists parts))
packed-parts n at [] [] h = omega arith
packed-parts n at [] (p ∷ parts) h = absurd h
packed-parts n at (l ∷ lists) [] h = absurd h
packed-parts n at (l ∷ lists) (p ∷ parts) h =
    let c : CutList = record { list = l; parts = p } in
    let cs : List CutList = with_parts lists parts in
    let b : BlockList = block_list c in
    let bits : List ℕ = bits_of_list n at c in
    let split : length (block_freqs (b ∷ map block_list cs)) ≡ length (greatest_of b ++ block_freqs (map block_list cs)) = ap length (flat_map-cons greatest_of b (map block_list cs)) in
    let two : length (greatest_of b ++ block_freqs (map block_list cs)) ≡ length (greatest_of b) + length (block_freqs (map block_list cs)) = length-append (greatest_of b) (block_freqs (map block_list cs)) in
    let count : length (greatest_of b) ≡ length (blocks_of b) = length-map (blocks_of b) (λ (x : Block). x.greatest) in
    let own = blocks-length l 0 p.doc_ends in
    omega (
      arith,
      split,
      two,
      count,
      own,
      list-parts n (first_list_bit + at) l p.doc_ends p.freq_ends h.0,
      packed-parts n (at + length bits) lists parts h.2,
      length-append bits (bits_of_lists n (at + length bits) cs),
    )

packed-side : (c : Collection) (parts : List ListParts) → length c.lists ≤ most_terms → ArePartitions c.lists parts → length (packed_words c.documents (with_parts c.lists parts) c.sizes) ≤ most_words
    → length (side_words (block_lists c.lists parts)) ≤ most_words
packed-side c parts few cut within =
    let freqs : List ℕ = block_freqs (block_lists c.lists parts) in
    let side : length (freqs ++ length freqs ∷ side_end ∷ []) ≡ length freqs + 2 = length-append freqs (length freqs ∷ side_end ∷ []) in
    omega (arith, side, few, packed-parts c.documents 0 c.lists parts cut, fits-within Packed format_three c.documents (with_parts c.lists parts) c.sizes within)

side-of-kind : (kind : FileKind) (format : FormatNumbers) (c : Collection) (parts : List ListParts) → length c.lists ≤ most_terms → ArePartitions c.lists parts
    → length (words_of_kind kind format c.documents (with_parts c.lists parts) c.sizes) ≤ most_words → length (side_words (block_lists c.lists parts)) ≤ most_words
side-of-kind Plain format c parts few cut within = omega (arith, plain-side format c parts, within)
side-of-kind Packed format c parts few cut within = packed-side c parts few cut within

pub sides-fit : SideFilesFit
sides-fit format c parts good cut within = side-of-kind format.kind format c parts good.terms cut within
