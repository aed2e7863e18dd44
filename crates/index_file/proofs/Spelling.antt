-- Lemmas on the words that are an index.
use Rattle.std.proofs.Common.{◌≡◌, ℕ, ◌+◌, ◌-◌, ◌/◌, ◌%◌, ◌^◌, ◌<◌, Bool, true, false, List, [], ◌∷◌, length, take, drop, get_or, map, refl, sym, ap, ◌∙◌, arith}
use Rattle.std.specs.Prelude.{slice_index, ◌==◌}
use Rattle.std.specs.List.{All, range_with_len}
use Rattle.std.proofs.lemmas.List.{get_or-drop, length-map, length-drop}
use Rattle.std.proofs.lemmas.List.Elements.{All-head, All-tail, All-map, All-from_get_or}
use Rattle.std.proofs.lemmas.List.FromFn.{length-map-range_with_len, get_or-map-range_with_len}
use Rattle.collection_model.specs.FormatNumbers.{FormatNumbers}
use Rattle.collection_model.specs.Collection.{Collection, IsPostingList}
use Rattle.index_file.specs.FileWords.{CutList, lists_words, sizes_words, plain_words, ArePartitions, IsPlainIn}
use Rattle.index_file.specs.FirstBroken.{stated_documents, stated_terms, stated_sizes, directory_word, IsFilePrefix}
use Rattle.index_file.specs.IndexView.{size_stated}
use Rattle.index_file.specs.ListAt.{HasFrame, PassesClosing}
use Rattle.index_file.proofs.CutLists.{lists_in, parts_in, with-parts-of}
use Rattle.index_file.proofs.Prefixes.{HasDocParts, HasFreqParts}
use Rattle.index_file.proofs.FilePieces.{half, half_of, sizes-stand, words-of}

partitions-of : (cs : List CutList) → All HasDocParts cs → All HasFreqParts cs → ArePartitions (lists_in cs) (parts_in cs)
partitions-of [] d f = tt
partitions-of (c ∷ cs) d f =
    (All-head HasDocParts c cs d, All-head HasFreqParts c cs f, partitions-of cs (All-tail HasDocParts c cs d) (All-tail HasFreqParts c cs f))

-- the sizes that words state
abbrev pub sizes_stated : List ℕ → List ℕ
sizes_stated words = map (size_stated words) (range_with_len 0 (stated_documents words))

pub half-small : (b : Bool) (x : ℕ) → x < 2 ^ 64 → half_of b x < 2 ^ 32
half-small true x h = omega arith
half-small false x h = omega (arith, h)

pub size-half : (words : List ℕ) (d : ℕ) → size_stated words d ≡ half (drop (stated_sizes words) words) d
size-half words d = ap (half_of (d % 2 == 0)) (sym (get_or-drop (stated_sizes words) words (d / 2) 0))

sizes-small : (words : List ℕ) → ((k : ℕ) → get_or words k 0 < 2 ^ 64) → All (λ s. s < 2 ^ 32) (sizes_stated words)
sizes-small words small =
    All-from_get_or (λ s. s < 2 ^ 32) (sizes_stated words) 0
    (λ d lt.
    let n : ℕ = stated_documents words in
    let k : length (sizes_stated words) ≡ stated_documents words = length-map-range_with_len (size_stated words) 0 n in
    let e : get_or (sizes_stated words) d 0 ≡ size_stated words d = get_or-map-range_with_len (size_stated words) 0 n d d 0 (omega (arith, lt, k)) (omega arith) in
    let h : size_stated words d < 2 ^ 32 = half-small (d % 2 == 0) (slice_index words (stated_sizes words + d / 2)) (small (stated_sizes words + d / 2)) in
    omega (arith, e, h))

sizes-at : (format : FormatNumbers) (words : List ℕ) → HasFrame format words → (stated_documents words % 2 ≡ 1 → slice_index words (directory_word words - 1) / 2 ^ 32 ≡ 0)
    → take (length (sizes_words (sizes_stated words))) (drop (stated_sizes words) words) ≡ sizes_words (sizes_stated words)
sizes-at format words frame filled =
    let n : ℕ = stated_documents words in
    let s : ℕ = stated_sizes words in
    let k : length (sizes_stated words) ≡ stated_documents words = length-map-range_with_len (size_stated words) 0 n in
    let ws : List ℕ = drop s words in
    sizes-stand (sizes_stated words) ws
    (λ d lt. get_or-map-range_with_len (size_stated words) 0 n d d 0 (omega (arith, lt, k)) (omega arith) ∙ size-half words d)
    (omega (arith, k, length-drop s words, frame.whole))
    (λ odd.
    ap (λ x. x / 2 ^ 32)
    (get_or-drop s words ((length (sizes_stated words) + 1) / 2 - 1) 0
    ∙ ap (slice_index words) (let e : stated_sizes words + ((length (sizes_stated words) + 1) / 2 - 1) ≡ directory_word words - 1 = omega (arith, k, odd) in e))
    ∙ filled (omega (arith, k, odd)))

-- words with a frame, lists that stand up to the sizes, and filled sizes are an index
pub is-index : (format : FormatNumbers) (words : List ℕ) (cs : List CutList) → ((k : ℕ) → get_or words k 0 < 2 ^ 64) → HasFrame format words → IsFilePrefix format words cs → length cs ≡ stated_terms words
    → PassesClosing words (2 + length (lists_words format cs)) → IsPlainIn format words
is-index format words cs small frame prefix all pass =
    let n : ℕ = stated_documents words in
    let c : Collection = record { documents = n; lists = lists_in cs; sizes = sizes_stated words } in
    let count : length (lists_in cs) ≡ length cs = length-map cs (λ c. c.list) in
    let each : length (sizes_stated words) ≡ stated_documents words = length-map-range_with_len (size_stated words) 0 n in (
      c,
      parts_in cs,
      record {
        well_formed = record {
          documents = frame.documents;
          terms = omega (arith, count, all, frame.terms);
          lists = All-map (IsPostingList format n) (λ x. x.list) cs prefix.lists;
          size_each = each;
          sizes = sizes-small words small;
        };
        partitions = partitions-of cs prefix.doc_parts prefix.freq_parts;
        spelled = words-of format words n cs (sizes_stated words) frame refl each (sym all) (sym pass.next) prefix.sequences (sizes-at format words frame pass.filled) prefix.directory
            ∙ ap (λ l. plain_words format n l (sizes_stated words)) (sym (with-parts-of cs));
      },
    )
