-- Lemmas on what a builder of a packed file keeps.
use Rattle.std.proofs.Common.{◌≡◌, ℕ, ◌+◌, ◌-◌, ◌^◌, ◌<◌, ◌≤◌, List, [], ◌∷◌, ◌++◌, length, take, drop, sym, ap, ◌∙◌, subst, slice_index, arith, length-append, length-drop, append_assoc, append-nil}
use Rattle.std.specs.List.{All}
use Rattle.std.proofs.lemmas.List.{drop-append-le}
use Rattle.std.proofs.Math.Seq.{take-append_seam}
use Rattle.std.proofs.lemmas.List.Elements.{All-nil, All-cons}
use Rattle.bit_words.specs.Bits.{bits_of, field_bits, words_of}
use Rattle.bit_words.proofs.Value.{length-bits_of}
use Rattle.bit_words.proofs.WordsBehind.{words-behind}
use Rattle.collection_model.specs.FormatNumbers.{format_three, most_terms}
use Rattle.collection_model.specs.Collection.{IsPostingList}
use Rattle.part_cost.specs.declared.formats.Format.TheVariants.{Three}
use Rattle.part_cost.specs.Payload.{widest_low}
use Rattle.part_cost.specs.Span.{AreRelative}
use Rattle.part_codec.specs.PartBits.{part_bits}
use Rattle.part_codec.specs.Laws.{PartIsBits, TakesItsPayload}
use Rattle.packed_list.specs.ListBits.{list_bits}
use Rattle.index_file.specs.CutLists.{CutList}
use Rattle.index_file.specs.PlainWords.{sizes_words}
use Rattle.index_file.specs.PackedWords.{packed_magic, packed_end, bits_of_list, bits_of_lists, starts_bits, packed_words}
use Rattle.index_file.specs.PackedAt.{packed_count}
use Rattle.index_file.specs.Builder.{Built, StandsFor, IsNearCut, with_list, IsPackedKept, packed_built}
use Rattle.index_file.proofs.AddedBoth.{stands-more}
use Rattle.index_file.proofs.Lengths.{sizes-length}
use Rattle.index_file.proofs.OnePackedFile.{length-words, lists-are-bits, count-starts, starts-relative}
use Rattle.index_file.proofs.PackedPieces.{length-starts}

abbrev opening : List ℕ
opening = packed_magic ∷ format_three.version ∷ []

-- what is kept of no list
pub kept-none : (n : ℕ) (bits starts : List ℕ) → n ≤ format_three.most_documents → bits ≡ bits_of opening → starts ≡ 0 ∷ [] → IsPackedKept n bits starts
kept-none n bits starts few is first =
    let none : drop 128 bits ≡ [] = ap (drop 128) is in
    record {
      documents = few;
      opening = is ∙ ap (λ x. bits_of opening ++ x) (sym none);
      few = omega (arith, ap length first);
      small = omega (arith, ap length none);
      stands = (
        [],
        record {
          words = none;
          directory = first;
          lists = All-nil (λ c. IsPostingList format_three n c.list);
          near = All-nil (IsNearCut format_three);
        },
      );
    }

-- what is kept of one list more
pub record PackedKeeps (n : ℕ) (bits starts more places : List ℕ) (c : CutList) : Type 0 where
  pub kept : IsPackedKept n more places
  pub is : ◌≡◌ {A = Built} (packed_built n more places) (with_list (packed_built n bits starts) c)

pub packed-keeps : (n next : ℕ) (bits starts more places : List ℕ) (c : CutList) → IsPackedKept n bits starts → IsPostingList format_three n c.list → IsNearCut format_three c → length starts ≤ most_terms
    → length more - 128 + most_terms + 1 ≤ 2 ^ widest_low → more ≡ bits ++ list_bits n (length bits) c.list c.parts.doc_ends c.parts.freq_ends
    → next ≡ length more - 128 + length starts → places ≡ starts ++ next ∷ [] → PackedKeeps n bits starts more places c
packed-keeps n next bits starts more places c kept list near room stated written place entered =
    let old : List ℕ = drop 128 bits in
    let whole : length bits ≡ 128 + length (drop 128 bits) = omega (arith, ap length kept.opening, length-append (bits_of opening) old, length-bits_of opening) in
    let here : more ≡ bits ++ bits_of_list n (length (drop 128 bits)) c = written ∙ ap (λ i. bits ++ list_bits n i c.list c.parts.doc_ends c.parts.freq_ends) whole in
    let added : List ℕ = bits_of_list n (length old) c in
    let behind : drop 128 more ≡ drop 128 bits ++ bits_of_list n (length (drop 128 bits)) c = ap (drop 128) here ∙ drop-append-le 128 bits added (omega (arith, whole)) in
    let long : length more ≡ 128 + (length (drop 128 bits) + length (bits_of_list n (length (drop 128 bits)) c)) = omega (arith, ap length here, length-append bits added, whole) in
    let number : next ≡ length (drop 128 bits) + length (bits_of_list n (length (drop 128 bits)) c) + length starts = omega (arith, place, long) in
    let directory : places ≡ starts ++ (length (drop 128 bits) + length (bits_of_list n (length (drop 128 bits)) c) + length starts) ∷ [] = entered ∙ ap (λ x. starts ++ x ∷ []) number in
    let before : Built = packed_built n bits starts in
    let is : packed_built n more places ≡ with_list (packed_built n bits starts) c = (λ t. record { format = Three; documents = n; words = behind t; directory = directory t }) in
    record {
      kept = record {
        documents = kept.documents;
        opening = here ∙ ap (λ x. x ++ added) kept.opening ∙ append_assoc (bits_of opening) old added ∙ ap (λ x. bits_of opening ++ x) (sym behind);
        few = omega (arith, ap length entered, length-append starts (next ∷ []), room);
        small = omega (arith, long, stated, length-drop 128 more);
        stands = (kept.stands.0 ++ c ∷ [], subst (λ b. StandsFor b (kept.stands.0 ++ c ∷ [])) (sym is) (stands-more before kept.stands.0 c kept.stands.1 list near));
      };
      is = is;
    }

-- the words of what stands for some lists
pub packed-file : PartIsBits → (n lists at : ℕ) (bits starts words directory sizes : List ℕ) (cs : List CutList) → bits ≡ bits_of opening ++ drop 128 bits → StandsFor (packed_built n bits starts) cs
    → words ≡ words_of bits → directory ≡ words_of (part_bits starts (at + lists + 1)) → lists ≡ length starts - 1 → at ≡ length bits - 128
    → words ++ sizes_words sizes ++ directory ++ (n ∷ lists ∷ at ∷ packed_end ∷ []) ≡ packed_words n cs sizes
packed-file part n lists at bits starts words directory sizes cs begins stands written places many from =
    let b : List ℕ = bits_of_lists n 0 cs in
    let is : bits ≡ bits_of opening ++ bits_of_lists n 0 cs = begins ∙ ap (λ x. bits_of opening ++ x) stands.words in
    let count : lists ≡ length cs = omega (arith, many, ap length stands.directory, count-starts n 0 0 cs) in
    let place : at ≡ length (bits_of_lists n 0 cs) = omega (arith, from, ap length is, length-append (bits_of opening) b, length-bits_of opening) in
    let narrow : All (λ w. w < 2 ^ 64) opening = All-cons (λ w. w < 2 ^ 64) packed_magic (format_three.version ∷ []) (omega arith) (All-cons (λ w. w < 2 ^ 64) format_three.version [] (omega arith) (All-nil (λ w. w < 2 ^ 64))) in
    let prefix : words ≡ opening ++ words_of (bits_of_lists n 0 cs) = written ∙ ap words_of is ∙ words-behind opening b narrow (lists-are-bits part n 0 cs) in
    let back : directory ≡ words_of (starts_bits n cs) = places ∙ (λ t. words_of (part_bits (stands.directory t) (place t + count t + 1))) in
    (λ t. prefix t ++ sizes_words sizes ++ back t ++ (n ∷ count t ∷ place t ∷ packed_end ∷ []))

-- how many they are
pub packed-length : TakesItsPayload → (n : ℕ) (cs : List CutList) (sizes : List ℕ) → length (bits_of_lists n 0 cs) + length cs + 1 ≤ 2 ^ widest_low
    → length (packed_words n cs sizes) ≡ packed_count (length sizes) (length cs) (length (bits_of_lists n 0 cs))
packed-length takes n cs sizes fit =
    let b : List ℕ = words_of (bits_of_lists n 0 cs) in
    let d : List ℕ = words_of (starts_bits n cs) in
    let last : List ℕ = n ∷ length cs ∷ length (bits_of_lists n 0 cs) ∷ packed_end ∷ [] in
    omega (
      arith,
      length-append (opening ++ b ++ sizes_words sizes ++ d) last,
      length-append (opening ++ b ++ sizes_words sizes) d,
      length-append (opening ++ b) (sizes_words sizes),
      length-append opening b,
      length-words (bits_of_lists n 0 cs),
      length-words (starts_bits n cs),
      length-starts takes n cs fit,
      sizes-length sizes,
    )

-- what stands for no list
pub none-stands : (n : ℕ) (bits starts : List ℕ) → bits ≡ bits_of opening → starts ≡ 0 ∷ [] → StandsFor (packed_built n bits starts) []
none-stands n bits starts is first = record {
  words = ap (drop 128) is;
  directory = first;
  lists = All-nil (λ c. IsPostingList format_three n c.list);
  near = All-nil (IsNearCut format_three);
}

-- the bits of the two words that begin a packed file, as they are put
pub opening-put : (a b c : List ℕ) (v : ℕ) → a ≡ [] → b ≡ a ++ field_bits 64 packed_magic → c ≡ b ++ field_bits 64 v → v ≡ format_three.version → c ≡ bits_of opening
opening-put a b c v ea eb ec ev =
    ec ∙ ap (λ x. x ++ field_bits 64 v) (eb ∙ ap (λ x. x ++ field_bits 64 packed_magic) ea) ∙ ap (λ k. field_bits 64 packed_magic ++ field_bits 64 k) ev
    ∙ ap (λ x. field_bits 64 packed_magic ++ x) (sym (append-nil (field_bits 64 format_three.version)))

-- bits cut back to what they were
pub cut-back : (len : ℕ) (bits more whole : List ℕ) → len ≡ length bits → whole ≡ bits ++ more → take len whole ≡ bits
cut-back len bits more whole e f = ap (λ k. take k whole) e ∙ ap (take (length bits)) f ∙ take-append_seam bits more

-- the numbers of what is kept
pub record PackedHolds (bits starts : List ℕ) : Type 0 where
  pub long : 128 ≤ length bits
  pub some : 1 ≤ length starts
  pub last : slice_index starts (length starts - 1) + 1 ≡ length (drop 128 bits) + length starts
  pub relative : AreRelative (length bits - 128 + (length starts - 1) + 1) (length starts) starts
  pub within : length bits - 128 + (length starts - 1) + 1 ≤ 2 ^ widest_low

pub packed-holds : (n : ℕ) (bits starts : List ℕ) → IsPackedKept n bits starts → PackedHolds bits starts
packed-holds n bits starts kept =
    let cs : List CutList = kept.stands.0 in
    let at = kept.stands.1 in
    let whole : length bits ≡ 128 + length (drop 128 bits) = omega (arith, ap length kept.opening, length-append (bits_of opening) (drop 128 bits), length-bits_of opening) in
    let count : length starts ≡ length kept.stands.0 + 1 = omega (arith, ap length at.directory, count-starts n 0 0 cs) in
    let u : length (bits_of_lists n 0 kept.stands.0) + length kept.stands.0 + 1 ≡ length bits - 128 + (length starts - 1) + 1 = omega (arith, whole, count, ap length at.words) in
    let relative : AreRelative (length bits - 128 + (length starts - 1) + 1) (length starts) starts = subst (λ x. AreRelative x (length starts) starts) u (subst (λ m. AreRelative (length (bits_of_lists n 0 cs) + length cs + 1) m starts) (sym count)
    (subst (λ ys. AreRelative (length (bits_of_lists n 0 cs) + length cs + 1) (length cs + 1) ys) (sym at.directory) (starts-relative n cs))) in
    record {
      long = omega (arith, whole);
      some = omega (arith, count);
      last = omega (arith, relative.last, whole, count);
      relative = relative;
      within = omega (arith, whole, kept.few, kept.small);
    }

pub packed-counted : TakesItsPayload → (n : ℕ) (bits starts : List ℕ) (cs : List CutList) (sizes : List ℕ) (documents terms at : ℕ) → IsPackedKept n bits starts → StandsFor (packed_built n bits starts) cs
    → length sizes ≡ documents → terms ≡ length starts - 1 → at ≡ length bits - 128 → packed_count documents terms at ≡ length (packed_words n cs sizes)
packed-counted takes n bits starts cs sizes documents terms at kept stands many lists place =
    let whole : length bits ≡ 128 + length (drop 128 bits) = omega (arith, ap length kept.opening, length-append (bits_of opening) (drop 128 bits), length-bits_of opening) in
    let count : terms ≡ length cs = omega (arith, lists, ap length stands.directory, count-starts n 0 0 cs) in
    let from : at ≡ length (bits_of_lists n 0 cs) = omega (arith, place, whole, ap length stands.words) in
    let fit : length (bits_of_lists n 0 cs) + length cs + 1 ≤ 2 ^ widest_low = omega (arith, kept.few, kept.small, whole, place, from, lists, count) in
    ap (λ k. packed_count k terms at) (sym many) ∙ ap (λ k. packed_count (length sizes) k at) count ∙ ap (packed_count (length sizes) (length cs)) from ∙ sym (packed-length takes n cs sizes fit)
