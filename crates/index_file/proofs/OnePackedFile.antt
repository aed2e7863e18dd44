-- Words are those of one packed file only.
use Rattle.std.proofs.Common.{◌≡◌, ℕ, zero, suc, ◌+◌, ◌-◌, ◌*◌, ◌/◌, ◌^◌, ◌<◌, ◌≤◌, List, [], ◌∷◌, ◌++◌, length, take, drop, get_or, slice_index, replicate, refl, sym, ap, ◌∙◌, subst, arith}
use Rattle.std.specs.List.{All, range_with_len}
use Rattle.std.specs.List.Sorted.{IsStrictlyIncreasing}
use Rattle.std.proofs.lemmas.List.{length-append, length-map, take_all, get_or-append_right}
use Rattle.std.proofs.lemmas.List.FromFn.{length-range_with_len}
use Rattle.std.proofs.lemmas.List.Elements.{All-nil, All-append, All-from_recursion}
use Rattle.bit_words.specs.Bits.{AreBits, bits_of, field_at, field_bits, words_of, padded, padding}
use Rattle.bit_words.specs.Laws.{BitsOfWords}
use Rattle.bit_words.proofs.AllBits.{bits-field, bits-fields}
use Rattle.collection_model.specs.FormatNumbers.{format_three}
use Rattle.collection_model.specs.Collection.{Posting, greatest_freq}
use Rattle.collection_model.specs.Sequences.{doc_sequence, freq_sequence}
use Rattle.part_cost.specs.Payload.{digits, widest_low}
use Rattle.part_cost.specs.Span.{AreRelative, past}
use Rattle.part_cost.specs.Stored.{HoldsPart}
use Rattle.part_codec.specs.PartBits.{part_bits}
use Rattle.part_codec.specs.Laws.{PartIsBits, TakesItsPayload, OneListAtPlace}
use Rattle.two_level.specs.SequenceWords.{sequence_words}
use Rattle.packed_list.specs.Gamma.{gamma}
use Rattle.packed_sequence.specs.SequenceBits.{parted_bits}
use Rattle.packed_list.specs.ListBits.{head_bits, docs_bits, freqs_bits, list_bits, IsCutInto}
use Rattle.packed_list.specs.Laws.{OnePackedList}
use Rattle.packed_list.proofs.GammaCodes.{gamma-takes}
use Rattle.packed_sequence.proofs.OneSequenceBits.{same-prefixes}
use Rattle.index_file.specs.CutLists.{CutList}
use Rattle.index_file.specs.PlainWords.{sizes_words}
use Rattle.index_file.specs.PackedWords.{packed_magic, packed_end, first_list_bit, bits_of_list, bits_of_lists, starts_from, starts_bits}
use Rattle.index_file.specs.PackedLaws.{IsPackable, OnePackedFile}

-- the bits of a list are bits
zeros-are-bits : (z : ℕ) → AreBits (replicate z 0)
zeros-are-bits zero = All-nil (λ b. b < 2)
zeros-are-bits (suc z) = All-append (λ b. b < 2) (0 ∷ []) (replicate z 0) (All-from_recursion (λ b. b < 2) (0 ∷ []) (let e : 0 < 2 = omega arith in e, tt)) (zeros-are-bits z)

bit-then : (b : ℕ) (bits : List ℕ) → b < 2 → AreBits bits → AreBits (b ∷ bits)
bit-then b bits lt are = All-append (λ x. x < 2) (b ∷ []) bits (All-from_recursion (λ x. x < 2) (b ∷ []) (lt, tt)) are

both-bits : (a b : List ℕ) → AreBits a → AreBits b → AreBits (a ++ b)
both-bits a b x y = All-append (λ v. v < 2) a b x y

lone-is-bits : PartIsBits → (width value : ℕ) (xs : List ℕ) → AreBits (0 ∷ field_bits width value ++ part_bits xs (past xs (length xs)))
lone-is-bits part width value xs =
    both-bits (0 ∷ field_bits width value) (part_bits xs (past xs (length xs))) (bit-then 0 (field_bits width value) (omega arith) (bits-field width value)) (part (past xs (length xs)) xs)

parted-is-bits : (at : ℕ) (xs ends : List ℕ) → AreBits (parted_bits at xs ends)
parted-is-bits at xs ends =
    let w : ℕ = digits (length xs) in
    let zeros : List ℕ = replicate (padding (at + 1 + digits (length xs))) 0 in
    both-bits ((1 ∷ field_bits w (length ends)) ++ zeros) (bits_of (sequence_words format_three xs ends))
    (both-bits (1 ∷ field_bits w (length ends)) zeros (bit-then 1 (field_bits w (length ends)) (omega arith) (bits-field w (length ends))) (zeros-are-bits (padding (at + 1 + digits (length xs)))))
    (bits-fields 64 (sequence_words format_three xs ends))

docs-are-bits : PartIsBits → (n at : ℕ) (list : List Posting) (ends : List ℕ) → AreBits (docs_bits n at list ends)
docs-are-bits part n at list [] = All-nil (λ b. b < 2)
docs-are-bits part n at list (end ∷ []) = lone-is-bits part (digits (n - 1)) (past (doc_sequence list) (length (doc_sequence list)) - 1 - 0) (doc_sequence list)
docs-are-bits part n at list (end ∷ next ∷ ends) = parted-is-bits at (doc_sequence list) (end ∷ next ∷ ends)

freqs-are-bits : PartIsBits → (at : ℕ) (list : List Posting) (ends : List ℕ) → AreBits (freqs_bits at list ends)
freqs-are-bits part at list [] = All-nil (λ b. b < 2)
freqs-are-bits part at list (end ∷ []) =
    let xs : List ℕ = freq_sequence list in
    lone-is-bits part (digits (length list * (greatest_freq list - 1))) (past xs (length xs) - 1 - (length list - 1)) xs
freqs-are-bits part at list (end ∷ next ∷ ends) = parted-is-bits at (freq_sequence list) (end ∷ next ∷ ends)

head-is-bits : (list : List Posting) → AreBits (head_bits list)
head-is-bits list = both-bits (gamma (length list)) (gamma _) (gamma-takes.bits (length list)) (gamma-takes.bits _)

list-is-bits : PartIsBits → (n at : ℕ) (list : List Posting) (doc_ends freq_ends : List ℕ) → AreBits (list_bits n at list doc_ends freq_ends)
list-is-bits part n at [] doc_ends freq_ends = All-nil (λ b. b < 2)
list-is-bits part n at (p ∷ []) doc_ends freq_ends = both-bits (head_bits (p ∷ [])) (field_bits (digits (n - 1)) p.doc) (head-is-bits (p ∷ [])) (bits-field (digits (n - 1)) p.doc)
list-is-bits part n at (p ∷ q ∷ list) doc_ends freq_ends =
    let head : List ℕ = head_bits (p ∷ q ∷ list) in
    let docs : List ℕ = docs_bits n (at + length head) (p ∷ q ∷ list) doc_ends in
    let freqs : List ℕ = freqs_bits (at + length head + length docs) (p ∷ q ∷ list) freq_ends in
    both-bits (head ++ docs) freqs
    (both-bits head docs (head-is-bits (p ∷ q ∷ list)) (docs-are-bits part n (at + length head) (p ∷ q ∷ list) doc_ends))
    (freqs-are-bits part (at + length head + length docs) (p ∷ q ∷ list) freq_ends)

pub lists-are-bits : PartIsBits → (n at : ℕ) (cs : List CutList) → AreBits (bits_of_lists n at cs)
lists-are-bits part n at [] = All-nil (λ b. b < 2)
lists-are-bits part n at (c ∷ cs) =
    both-bits (bits_of_list n at c) (bits_of_lists n (at + length (bits_of_list n at c)) cs) (list-is-bits part n (first_list_bit + at) c.list c.parts.doc_ends c.parts.freq_ends)
    (lists-are-bits part n (at + length (bits_of_list n at c)) cs)

-- words of as many bits are those of one list of bits
pub length-words : (bits : List ℕ) → length (words_of bits) ≡ (length bits + 63) / 64
length-words bits =
    length-map (range_with_len 0 ((length bits + 63) / 64)) (λ i. field_at bits (64 * i) 64) ∙ length-range_with_len 0 ((length bits + 63) / 64)

one-bits : BitsOfWords → (a b : List ℕ) → AreBits a → AreBits b → length a ≡ length b → words_of a ≡ words_of b → a ≡ b
one-bits filled a b x y count same =
    let both : padded a ≡ padded b = sym (filled a x) ∙ ap bits_of same ∙ filled b y in
    (same-prefixes (length a) a b (replicate (padding (length a)) 0) (replicate (padding (length b)) 0) refl (sym count) both).0

-- sizes, two in a word
count-sizes : (sizes : List ℕ) → length (sizes_words sizes) ≡ (length sizes + 1) / 2
count-sizes [] = refl
count-sizes (a ∷ []) = refl
count-sizes (a ∷ b ∷ sizes) = omega (arith, count-sizes sizes)

one-sizes : (xs ys : List ℕ) → length xs ≡ length ys → All (λ s. s < 2 ^ 32) xs → All (λ s. s < 2 ^ 32) ys → sizes_words xs ≡ sizes_words ys → xs ≡ ys
one-sizes [] [] count x y e = refl
one-sizes [] (b ∷ ys) count x y e = absurd (omega (arith, count))
one-sizes (a ∷ xs) [] count x y e = absurd (omega (arith, count))
one-sizes (a ∷ []) (b ∷ []) count x y e = ap (λ s. s ∷ []) (let first : a ≡ b = ap (λ l. get_or l 0 0) e in first)
one-sizes (a ∷ []) (b ∷ d ∷ ys) count x y e = absurd (omega (arith, count))
one-sizes (a ∷ c ∷ xs) (b ∷ []) count x y e = absurd (omega (arith, count))
one-sizes (a ∷ c ∷ xs) (b ∷ d ∷ ys) count x y e =
    let word : a + 2 ^ 32 * c ≡ b + 2 ^ 32 * d = ap (λ l. get_or l 0 0) e in
    let la : a < 2 ^ 32 = x 0 0 (omega arith) in
    let lb : b < 2 ^ 32 = y 0 0 (omega arith) in
    let low : a ≡ b = omega (arith, word, la, lb) in
    let high : c ≡ d = omega (arith, word, la, lb) in
    let rest = one-sizes xs ys (omega (arith, count)) (λ k z lt. x (suc (suc k)) z (omega (arith, lt))) (λ k z lt. y (suc (suc k)) z (omega (arith, lt))) (ap (drop 1) e) in
    ap (λ s. s ∷ c ∷ xs) low ∙ ap (λ s. b ∷ s ∷ xs) high ∙ ap (λ zs. b ∷ d ∷ zs) rest

-- the places where lists begin: they rise, and the last tells how many bits there are
pub count-starts : (n t at : ℕ) (cs : List CutList) → length (starts_from n t at cs) ≡ length cs + 1
count-starts n t at [] = refl
count-starts n t at (c ∷ cs) = omega (arith, count-starts n (t + 1) (at + length (bits_of_list n at c)) cs)

pub first-start : (n t at : ℕ) (cs : List CutList) → get_or (starts_from n t at cs) 0 0 ≡ at + t
first-start n t at [] = refl
first-start n t at (c ∷ cs) = refl

pub last-start : (n t at : ℕ) (cs : List CutList) → get_or (starts_from n t at cs) (length cs) 0 ≡ at + length (bits_of_lists n at cs) + t + length cs
last-start n t at [] = omega arith
last-start n t at (c ∷ cs) =
    omega (arith, last-start n (t + 1) (at + length (bits_of_list n at c)) cs, length-append (bits_of_list n at c) (bits_of_lists n (at + length (bits_of_list n at c)) cs))

starts-rise : (n t at : ℕ) (cs : List CutList) → IsStrictlyIncreasing (starts_from n t at cs)
starts-rise n t at [] k lt = absurd (let e : k + 1 < 1 = lt in omega (arith, e))
starts-rise n t at (c ∷ cs) zero lt = omega (arith, first-start n (t + 1) (at + length (bits_of_list n at c)) cs)
starts-rise n t at (c ∷ cs) (suc k) lt =
    let all : List ℕ = starts_from n t at (c ∷ cs) in
    let e : slice_index all (suc k + 1) ≡ slice_index all (suc (k + 1)) = ap (slice_index all) (let f : suc k + 1 ≡ suc (k + 1) = omega arith in f) in
    omega (arith, e, starts-rise n (t + 1) (at + length (bits_of_list n at c)) cs k (omega (arith, lt)))

pub starts-relative : (n : ℕ) (cs : List CutList) → AreRelative (length (bits_of_lists n 0 cs) + length cs + 1) (length cs + 1) (starts_from n 0 0 cs)
starts-relative n cs = record {
  rising = starts-rise n 0 0 cs;
  count = count-starts n 0 0 cs;
  some = omega arith;
  last = (let e : slice_index (starts_from n 0 0 cs) (length cs + 1 - 1) ≡ slice_index (starts_from n 0 0 cs) (length cs) = ap (slice_index (starts_from n 0 0 cs)) (let f : length cs + 1 - 1 ≡ length cs = omega arith in f) in
      omega (arith, e, last-start n 0 0 cs));
}

-- lists with the same bits, which begin at the same places
same-lists : OnePackedList → (n t at : ℕ) (cs ds : List CutList) → n ≤ format_three.most_documents → All (λ c. IsCutInto n c.list c.parts.doc_ends c.parts.freq_ends) cs
    → All (λ d. IsCutInto n d.list d.parts.doc_ends d.parts.freq_ends) ds → length cs ≡ length ds → starts_from n t at cs ≡ starts_from n t at ds
    → bits_of_lists n at cs ≡ bits_of_lists n at ds → cs ≡ ds
same-lists one n t at [] [] small x y count starts bits = refl
same-lists one n t at [] (d ∷ ds) small x y count starts bits = absurd (omega (arith, count))
same-lists one n t at (c ∷ cs) [] small x y count starts bits = absurd (omega (arith, count))
same-lists one n t at (c ∷ cs) (d ∷ ds) small x y count starts bits =
    let l : ℕ = length (bits_of_list n at c) in
    let r : ℕ = length (bits_of_list n at d) in
    let behind : starts_from n (t + 1) (at + l) cs ≡ starts_from n (t + 1) (at + r) ds = ap (drop 1) starts in
    let next : l ≡ r = omega (arith, first-start n (t + 1) (at + l) cs, first-start n (t + 1) (at + r) ds, ap (λ zs. get_or zs 0 0) behind) in
    let split = same-prefixes l (bits_of_list n at c) (bits_of_list n at d) (bits_of_lists n (at + l) cs) (bits_of_lists n (at + r) ds) refl (sym next) bits in
    let same = one n (first_list_bit + at) c.list d.list c.parts.doc_ends c.parts.freq_ends d.parts.doc_ends d.parts.freq_ends small (x 0 c (omega arith)) (y 0 d (omega arith)) split.0 in
    let first : c ≡ d =
    ap (λ (list : List Posting). record { list = list; parts = c.parts }) same.0
    ∙ ap (λ (ends : List ℕ). record { list = d.list; parts = record { doc_ends = ends; freq_ends = c.parts.freq_ends } }) same.1
    ∙ ap (λ (ends : List ℕ). record { list = d.list; parts = record { doc_ends = d.parts.doc_ends; freq_ends = ends } }) same.2 in
    let rest = same-lists one n (t + 1) (at + l) cs ds small (λ k z lt. x (suc k) z (omega (arith, lt))) (λ k z lt. y (suc k) z (omega (arith, lt))) (omega (arith, count))
    (behind ∙ ap (λ j. starts_from n (t + 1) (at + j) ds) (sym next)) (split.1 ∙ ap (λ j. bits_of_lists n (at + j) ds) (sym next)) in
    ap (λ z. z ∷ cs) first ∙ ap (λ zs. d ∷ zs) rest

-- the numbers at the end of words
tail-at : (prefix tail : List ℕ) (j : ℕ) → get_or (prefix ++ tail) (length prefix + j) 0 ≡ get_or tail j 0
tail-at prefix tail j =
    get_or-append_right prefix tail (length prefix) (length prefix + j) 0 refl (omega arith) ∙ ap (λ k. get_or tail k 0) (let e : length prefix + j - length prefix ≡ j = omega arith in e)

abbrev prefix-of : ℕ → List CutList → List ℕ → List ℕ
prefix-of n cs sizes = (packed_magic ∷ format_three.version ∷ []) ++ words_of (bits_of_lists n 0 cs) ++ sizes_words sizes ++ words_of (starts_bits n cs)

same-tail : (a b xs ys : List ℕ) → length xs ≡ 4 → length ys ≡ 4 → a ++ xs ≡ b ++ ys → (a ≡ b) × (xs ≡ ys)
same-tail a b xs ys four also e =
    let count : length b ≡ length a = omega (arith, four, also, ap length e, length-append a xs, length-append b ys) in
    same-prefixes (length a) a b xs ys refl count e

pub one-packed-file : BitsOfWords → PartIsBits → TakesItsPayload → OneListAtPlace → OnePackedList → OnePackedFile
one-packed-file filled part takes one_part one n k cs ds sizes others x y e =
    let p : ℕ = length (bits_of_lists n 0 cs) in
    let ends = same-tail (prefix-of n cs sizes) (prefix-of k ds others) (n ∷ length cs ∷ p ∷ packed_end ∷ []) (k ∷ length ds ∷ length (bits_of_lists k 0 ds) ∷ packed_end ∷ []) refl refl e in
    let documents : n ≡ k = ap (λ l. get_or l 0 0) ends.1 in
    let terms : length cs ≡ length ds = ap (λ l. get_or l 1 0) ends.1 in
    let count : p ≡ length (bits_of_lists k 0 ds) = ap (λ l. get_or l 2 0) ends.1 in
    let y : IsPackable n ds others = subst (λ j. IsPackable j ds others) (sym documents) y in
    let count : p ≡ length (bits_of_lists n 0 ds) = count ∙ ap (λ j. length (bits_of_lists j 0 ds)) (sym documents) in
    let prefix : prefix-of n cs sizes ≡ prefix-of n ds others = ends.0 ∙ ap (λ j. prefix-of j ds others) (sym documents) in
    let a : List ℕ = words_of (bits_of_lists n 0 cs) in
    let b : List ℕ = words_of (bits_of_lists n 0 ds) in
    let s : List ℕ = sizes_words sizes in
    let r : List ℕ = sizes_words others in
    let u : List ℕ = words_of (starts_bits n cs) in
    let v : List ℕ = words_of (starts_bits n ds) in
    let open_words : List ℕ = packed_magic ∷ format_three.version ∷ [] in
    let words : length a ≡ length b = length-words (bits_of_lists n 0 cs) ∙ ap (λ j. (j + 63) / 64) count ∙ sym (length-words (bits_of_lists n 0 ds)) in
    let size_words : length s ≡ length r = count-sizes sizes ∙ ap (λ j. (j + 1) / 2) (x.size_each ∙ sym y.size_each) ∙ sym (count-sizes others) in
    let last = same-prefixes (length (open_words ++ a ++ s)) (open_words ++ a ++ s) (open_words ++ b ++ r) u v refl
    (omega (arith, words, size_words, length-append (open_words ++ a) s, length-append (open_words ++ b) r, length-append open_words a, length-append open_words b)) prefix in
    let middle = same-prefixes (length (open_words ++ a)) (open_words ++ a) (open_words ++ b) s r refl (omega (arith, words, length-append open_words a, length-append open_words b)) last.0 in
    let first = same-prefixes 2 open_words open_words a b refl refl middle.0 in
    let bits = one-bits filled (bits_of_lists n 0 cs) (bits_of_lists n 0 ds) (lists-are-bits part n 0 cs) (lists-are-bits part n 0 ds) count first.1 in
    let universe : ℕ = p + length cs + 1 in
    let same_universe : length (bits_of_lists n 0 ds) + length ds + 1 ≡ universe = omega (arith, count, terms) in
    let relative = starts-relative n cs in
    let relative_too : AreRelative universe (length cs + 1) (starts_from n 0 0 ds) =
    subst (λ j. AreRelative universe (j + 1) (starts_from n 0 0 ds)) (sym terms) (subst (λ j. AreRelative j (length ds + 1) (starts_from n 0 0 ds)) same_universe (starts-relative n ds)) in
    let wide : universe ≤ 2 ^ widest_low = omega (arith, x.fits, x.terms) in
    let here : starts_bits n ds ≡ part_bits (starts_from n 0 0 ds) universe = ap (part_bits (starts_from n 0 0 ds)) same_universe in
    let long = takes universe (length cs + 1) (starts_from n 0 0 cs) wide relative in
    let long_too = takes universe (length cs + 1) (starts_from n 0 0 ds) wide relative_too in
    let directory : part_bits (starts_from n 0 0 cs) universe ≡ part_bits (starts_from n 0 0 ds) universe =
    one-bits filled (part_bits (starts_from n 0 0 cs) universe) (part_bits (starts_from n 0 0 ds) universe) (part universe (starts_from n 0 0 cs)) (part universe (starts_from n 0 0 ds))
    (long ∙ sym long_too) (last.1 ∙ ap words_of here) in
    let places : List ℕ = part_bits (starts_from n 0 0 cs) universe in
    let held : HoldsPart part_bits places 0 universe (length cs + 1) (starts_from n 0 0 cs) = record { values = relative; stored = take_all (length places) places (omega arith) } in
    let held_too : HoldsPart part_bits places 0 universe (length cs + 1) (starts_from n 0 0 ds) =
    record { values = relative_too; stored = ap (λ j. take j places) (ap length (sym directory)) ∙ take_all (length places) places (omega arith) ∙ directory } in
    let starts = one_part places 0 universe (length cs + 1) (starts_from n 0 0 cs) (starts_from n 0 0 ds) held held_too in (
      documents,
      same-lists one n 0 0 cs ds x.documents x.lists y.lists terms starts bits,
      one-sizes sizes others (x.size_each ∙ sym y.size_each) x.small_sizes y.small_sizes middle.1,
    )
