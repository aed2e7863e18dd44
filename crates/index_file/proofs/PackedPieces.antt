-- Lemmas on where the pieces of a packed file stand.
use Rattle.std.proofs.Common.{◌≡◌, ℕ, ◌+◌, ◌-◌, ◌*◌, ◌/◌, ◌^◌, ◌≤◌, ◌<◌, List, [], ◌∷◌, ◌++◌, length, take, drop, get_or, replicate, refl, sym, ap, ◌∙◌, subst, arith, length-append}
use Rattle.std.specs.Prelude.{slice_index}
use Rattle.std.specs.List.{All}
use Rattle.std.proofs.lemmas.List.{get_or-take, get_or-drop, get_or-replicate, length-replicate, length-take-le, length-drop, take_at, take-append-drop}
use Rattle.std.proofs.lemmas.Grind.{get_or_default_zero}
use Rattle.std.proofs.Math.Seq.{take-length}
use Rattle.bit_words.specs.Bits.{AreBits, HasNoOne, bits_of, words_of, padded, padding}
use Rattle.bit_words.specs.Laws.{BitsOfAppended, BitsOfWords, WordsOfBits, WordsOfPadded}
use Rattle.bit_words.proofs.Pieces.{StandAt, stands-at, stands-from}
use Rattle.bit_words.proofs.Value.{length-bits_of}
use Rattle.collection_model.specs.FormatNumbers.{format_three}
use Rattle.part_cost.specs.Payload.{widest_low, payload}
use Rattle.part_codec.specs.Laws.{TakesItsPayload}
use Rattle.packed_sequence.proofs.PartedPlaces.{bits-behind, words-stand}
use Rattle.index_file.specs.CutLists.{CutList}
use Rattle.index_file.specs.PlainWords.{sizes_words}
use Rattle.index_file.specs.PackedWords.{packed_magic, packed_end, bits_of_lists, starts_bits, packed_words}
use Rattle.index_file.specs.PackedLaws.{IsPackable}
use Rattle.index_file.specs.PackedAt.{packed_documents, packed_terms, packed_bits, packed_sizes, packed_directory, packed_count, starts_universe, HasPackedFrame}
use Rattle.index_file.proofs.Prefixes.{prefix-of, rest-of, joined, word-of, four-words}
use Rattle.index_file.proofs.FilePieces.{two-words}
use Rattle.index_file.proofs.Lengths.{sizes-length}
use Rattle.index_file.proofs.OnePackedFile.{length-words, starts-relative}

-- zeros at a place, and a range without a one
pub no-one-of : (bits : List ℕ) (at to z : ℕ) → to ≡ at + z → StandAt bits at (replicate z 0) → HasNoOne bits at to
no-one-of bits at to z e h q from less =
    let i : ℕ = q - at in
    let zeros : List ℕ = replicate z 0 in
    let lt : i < z = omega (arith, from, less, e) in
    let inside : i < length zeros = omega (arith, lt, length-replicate {A = ℕ} z 0) in
    ap (λ k. get_or bits k 0) (let f : q ≡ at + i = omega (arith, from) in f) ∙ stands-at bits at (replicate z 0) i h inside ∙ get_or-replicate z i 0 0 lt

pub of-no-one : (bits : List ℕ) (at to z : ℕ) → to ≡ at + z → to ≤ length bits → HasNoOne bits at to → StandAt bits at (replicate z 0)
of-no-one bits at to z e fit none =
    let zeros : List ℕ = replicate z 0 in
    let count : length zeros ≡ z = length-replicate {A = ℕ} z 0 in
    stands-from bits at zeros (omega (arith, count, e, fit))
    (λ i lt. (let less : i < z = omega (arith, lt, count) in none (at + i) (omega arith) (omega (arith, less, e)) ∙ sym (get_or-replicate z i 0 0 less)))

-- words of some bits stand at a word where these bits stand, with zeros behind them
pub bits-at : BitsOfAppended → BitsOfWords → (words bits : List ℕ) (p : ℕ) → AreBits bits → p ≤ length words → take (length (words_of bits)) (drop p words) ≡ words_of bits
    → StandAt (bits_of words) (64 * p) (padded bits)
bits-at appended filled words bits p are le h = subst (StandAt (bits_of words) (64 * p)) (filled bits are) (words-stand appended words (words_of bits) p le h)

bits-prefix : BitsOfAppended → (words : List ℕ) (j : ℕ) → j ≤ length words → take (64 * j) (bits_of words) ≡ bits_of (take j words)
bits-prefix appended words j le =
    let prefix : List ℕ = take j words in
    let split : bits_of words ≡ bits_of prefix ++ bits_of (drop j words) = ap bits_of (sym (take-append-drop j words)) ∙ appended prefix (drop j words) in
    ap (take (64 * j)) split ∙ take_at (bits_of prefix) (bits_of (drop j words)) (64 * j) (length-bits_of prefix ∙ ap (λ k. 64 * k) (length-take-le j words le))

pub length-padded : (bits : List ℕ) → length (padded bits) ≡ 64 * length (words_of bits)
length-padded bits = omega (arith, length-append bits (replicate (padding (length bits)) 0), length-replicate {A = ℕ} (padding (length bits)) 0, length-words bits)

pub words-at : BitsOfAppended → WordsOfBits → WordsOfPadded → (words bits : List ℕ) (p : ℕ) → AreBits bits → ((k : ℕ) → get_or words k 0 < 2 ^ 64)
    → p + length (words_of bits) ≤ length words → StandAt (bits_of words) (64 * p) (padded bits) → take (length (words_of bits)) (drop p words) ≡ words_of bits
words-at appended whole same words bits p are small fit h =
    let j : ℕ = length (words_of bits) in
    let rest : List ℕ = drop p words in
    let piece : List ℕ = take j rest in
    let long : length rest ≡ length words - p = length-drop p words in
    let count : length piece ≡ j = length-take-le j rest (omega (arith, long, fit)) in
    let bits_here : bits_of piece ≡ padded bits =
    sym (bits-prefix appended rest j (omega (arith, long, fit))) ∙ ap (take (64 * j)) (sym (bits-behind appended words p (omega (arith, fit))))
    ∙ ap (λ n. take n (drop (64 * p) (bits_of words))) (sym (length-padded bits)) ∙ h in
    let narrow : All (λ w. w < 2 ^ 64) piece =
    λ i d lt. (let inside = small (p + i) in
    omega (arith, inside, get_or-drop p words i 0, get_or-take j rest i 0 (omega (arith, lt, count)), get_or_default_zero piece i d lt)) in
    sym (whole piece narrow) ∙ ap words_of bits_here ∙ same bits are

-- the four words at the end of a file
abbrev last : ℕ → List CutList → List ℕ
last n cs = n ∷ length cs ∷ length (bits_of_lists n 0 cs) ∷ packed_end ∷ []

-- the pieces of a packed file, in its words
pub record PackedLaid (words : List ℕ) (n : ℕ) (cs : List CutList) (xs : List ℕ) : Type 0 where
  pub frame : HasPackedFrame words
  pub docs : packed_documents words ≡ n
  pub terms : packed_terms words ≡ length cs
  pub bits : packed_bits words ≡ length (bits_of_lists n 0 cs)
  pub lists_at : take (length (words_of (bits_of_lists n 0 cs))) (drop 2 words) ≡ words_of (bits_of_lists n 0 cs)
  pub sizes_at : take (length (sizes_words xs)) (drop (packed_sizes words) words) ≡ sizes_words xs
  pub directory_at : take (length (words_of (starts_bits n cs))) (drop (packed_directory words) words) ≡ words_of (starts_bits n cs)

-- how many bits the directory has
pub length-starts : TakesItsPayload → (n : ℕ) (cs : List CutList) → length (bits_of_lists n 0 cs) + length cs + 1 ≤ 2 ^ widest_low
    → length (starts_bits n cs) ≡ payload (starts_universe (length (bits_of_lists n 0 cs)) (length cs)) (length cs + 1)
length-starts takes n cs fit = takes (length (bits_of_lists n 0 cs) + length cs + 1) (length cs + 1) _ fit (starts-relative n cs)

pub packed-laid : TakesItsPayload → (words : List ℕ) (n : ℕ) (cs : List CutList) (xs : List ℕ) → IsPackable n cs xs → words ≡ packed_words n cs xs → PackedLaid words n cs xs
packed-laid takes words n cs xs fits same =
    let a : List ℕ = packed_magic ∷ format_three.version ∷ [] in
    let b : List ℕ = bits_of_lists n 0 cs in
    let l : List ℕ = words_of (bits_of_lists n 0 cs) in
    let z : List ℕ = sizes_words xs in
    let d : List ℕ = words_of (starts_bits n cs) in
    let e : List ℕ = last n cs in
    let x3 : List ℕ = a ++ l ++ z ++ d in
    let whole : take (length (a ++ l ++ z ++ d ++ e)) words ≡ a ++ l ++ z ++ d ++ e = ap (take (length (a ++ l ++ z ++ d ++ e))) same ∙ take-length (a ++ l ++ z ++ d ++ e) in
    let t3 : take (length (a ++ l ++ z ++ d)) words ≡ a ++ l ++ z ++ d = prefix-of (a ++ l ++ z ++ d) e words whole in
    let te : take 4 (drop (length (a ++ l ++ z ++ d)) words) ≡ e = rest-of (a ++ l ++ z ++ d) e words whole in
    let t2 : take (length (a ++ l ++ z)) words ≡ a ++ l ++ z = prefix-of (a ++ l ++ z) d words t3 in
    let td : take (length d) (drop (length (a ++ l ++ z)) words) ≡ d = rest-of (a ++ l ++ z) d words t3 in
    let t1 : take (length (a ++ l)) words ≡ a ++ l = prefix-of (a ++ l) z words t2 in
    let tz : take (length z) (drop (length (a ++ l)) words) ≡ z = rest-of (a ++ l) z words t2 in
    let t0 : take 2 words ≡ a = prefix-of a l words t1 in
    let tl : take (length l) (drop 2 words) ≡ l = rest-of a l words t1 in
    let len_l : length l ≡ (length b + 63) / 64 = length-words b in
    let len1 : length (a ++ l) ≡ 2 + length l = length-append a l in
    let len2 : length (a ++ l ++ z) ≡ 2 + length l + (n + 1) / 2 = omega (arith, length-append (a ++ l) z, len1, sizes-length xs, fits.size_each) in
    let len_d : length d ≡ (payload (starts_universe (length b) (length cs)) (length cs + 1) + 63) / 64 =
    length-words (starts_bits n cs) ∙ ap (λ k. (k + 63) / 64) (length-starts takes n cs (omega (arith, fits.fits, fits.terms))) in
    let len3 : length (a ++ l ++ z ++ d) ≡ 2 + length l + (n + 1) / 2 + length d = omega (arith, length-append (a ++ l ++ z) d, len2) in
    let len4 : length words ≡ length (a ++ l ++ z ++ d) + 4 = ap length same ∙ length-append (a ++ l ++ z ++ d) e in
    let docs : packed_documents words ≡ n =
    ap (slice_index words) (let k : length words - 4 ≡ length (a ++ l ++ z ++ d) + 0 = omega (arith, len4) in k) ∙ word-of words (length x3) 0 n e te (omega arith) refl in
    let terms : packed_terms words ≡ length cs =
    ap (slice_index words) (let k : length words - 3 ≡ length (a ++ l ++ z ++ d) + 1 = omega (arith, len4) in k) ∙ word-of words (length x3) 1 (length cs) e te (omega arith) refl in
    let bits : packed_bits words ≡ length b =
    ap (slice_index words) (let k : length words - 2 ≡ length (a ++ l ++ z ++ d) + 2 = omega (arith, len4) in k) ∙ word-of words (length x3) 2 (length b) e te (omega arith) refl in
    let closing : slice_index words (length words - 1) ≡ packed_end =
    ap (slice_index words) (let k : length words - 1 ≡ length (a ++ l ++ z ++ d) + 3 = omega (arith, len4) in k) ∙ word-of words (length x3) 3 packed_end e te (omega arith) refl in
    let counted : packed_count (packed_documents words) (packed_terms words) (packed_bits words) ≡ packed_count n (length cs) (length b) =
    ap (λ i. packed_count i (packed_terms words) (packed_bits words)) docs ∙ ap (λ i. packed_count n i (packed_bits words)) terms ∙ ap (packed_count n (length cs)) bits in
    let sizes_from : packed_sizes words ≡ length (a ++ l) = ap (λ i. 2 + (i + 63) / 64) bits ∙ (let k : 2 + (length b + 63) / 64 ≡ length (a ++ l) = omega (arith, len1, len_l) in k) in
    let halved : (packed_documents words + 1) / 2 ≡ (n + 1) / 2 = ap (λ i. (i + 1) / 2) docs in
    let directory_from : packed_directory words ≡ length (a ++ l ++ z) = omega (arith, sizes_from, halved, len1, len2) in
    record {
      frame = record {
        some = omega (arith, len4, len3);
        opening = sym (get_or-take 2 words 0 0 (omega arith)) ∙ ap (λ ws. get_or ws 0 0) t0;
        version = sym (get_or-take 2 words 1 0 (omega arith)) ∙ ap (λ ws. get_or ws 1 0) t0;
        closing = closing;
        documents = omega (arith, docs, fits.documents);
        terms = omega (arith, terms, fits.terms);
        bits = omega (arith, bits, fits.fits);
        whole = counted ∙ (let k : packed_count n (length cs) (length b) ≡ length words = omega (arith, len4, len3, len_l, len_d) in k);
      };
      docs = docs;
      terms = terms;
      bits = bits;
      lists_at = tl;
      sizes_at = ap (λ i. take (length z) (drop i words)) sizes_from ∙ tz;
      directory_at = ap (λ i. take (length d) (drop i words)) directory_from ∙ td;
    }

-- words whose pieces stand are those of a packed file
pub packed-words : TakesItsPayload → (words : List ℕ) (n : ℕ) (cs : List CutList) (xs : List ℕ) → length xs ≡ n → PackedLaid words n cs xs → words ≡ packed_words n cs xs
packed-words takes words n cs xs count h =
    let a : List ℕ = packed_magic ∷ format_three.version ∷ [] in
    let b : List ℕ = bits_of_lists n 0 cs in
    let l : List ℕ = words_of (bits_of_lists n 0 cs) in
    let z : List ℕ = sizes_words xs in
    let d : List ℕ = words_of (starts_bits n cs) in
    let e : List ℕ = last n cs in
    let end : ℕ = length words - 4 in
    let len_l : length l ≡ (length b + 63) / 64 = length-words b in
    let sizes_from : packed_sizes words ≡ 2 + (length b + 63) / 64 = ap (λ i. 2 + (i + 63) / 64) h.bits in
    let halved : (packed_documents words + 1) / 2 ≡ (n + 1) / 2 = ap (λ i. (i + 1) / 2) h.docs in
    let counted : packed_count (packed_documents words) (packed_terms words) (packed_bits words) ≡ packed_count n (length cs) (length b) =
    ap (λ i. packed_count i (packed_terms words) (packed_bits words)) h.docs ∙ ap (λ i. packed_count n i (packed_bits words)) h.terms ∙ ap (packed_count n (length cs)) h.bits in
    let len_d : length d ≡ (payload (starts_universe (length b) (length cs)) (length cs + 1) + 63) / 64 =
    length-words (starts_bits n cs) ∙ ap (λ k. (k + 63) / 64) (length-starts takes n cs (omega (arith, h.frame.bits, h.frame.terms, h.bits, h.terms))) in
    let s1 : take (length (a ++ l)) words ≡ a ++ l =
    joined a l words (two-words words packed_magic format_three.version (omega (arith, h.frame.some)) h.frame.opening h.frame.version) h.lists_at in
    let len1 : length (a ++ l) ≡ packed_sizes words = omega (arith, length-append a l, len_l, sizes_from) in
    let s2 : take (length (a ++ l ++ z)) words ≡ a ++ l ++ z = joined (a ++ l) z words s1 (ap (λ i. take (length z) (drop i words)) len1 ∙ h.sizes_at) in
    let len2 : length (a ++ l ++ z) ≡ packed_directory words = omega (arith, length-append (a ++ l) z, len1, sizes-length xs, count, halved) in
    let s3 : take (length (a ++ l ++ z ++ d)) words ≡ a ++ l ++ z ++ d = joined (a ++ l ++ z) d words s2 (ap (λ i. take (length d) (drop i words)) len2 ∙ h.directory_at) in
    let len3 : length (a ++ l ++ z ++ d) ≡ end = omega (arith, length-append (a ++ l ++ z) d, len2, len_d, sizes_from, halved, counted, h.frame.whole) in
    let four : take 4 (drop end words) ≡ e =
    four-words words end n (length cs) (length b) packed_end (omega (arith, h.frame.some)) (ap (slice_index words) (let k : end + 0 ≡ length words - 4 = omega arith in k) ∙ h.docs)
    (ap (slice_index words) (let k : end + 1 ≡ length words - 3 = omega (arith, h.frame.some) in k) ∙ h.terms)
    (ap (slice_index words) (let k : end + 2 ≡ length words - 2 = omega (arith, h.frame.some) in k) ∙ h.bits)
    (ap (slice_index words) (let k : end + 3 ≡ length words - 1 = omega (arith, h.frame.some) in k) ∙ h.frame.closing) in
    let s4 : take (length (a ++ l ++ z ++ d ++ e)) words ≡ a ++ l ++ z ++ d ++ e = joined (a ++ l ++ z ++ d) e words s3 (ap (λ i. take 4 (drop i words)) len3 ∙ four) in
    let len4 : length (a ++ l ++ z ++ d ++ e) ≡ length words = omega (arith, length-append (a ++ l ++ z ++ d) e, len3, h.frame.some) in
    sym (take-length words) ∙ ap (λ i. take i words) (sym len4) ∙ s4
