-- Lemmas on the words of lists that are added one after the other, and on how many they are.
use Rattle.std.proofs.Common.{◌≡◌, refl, sym, ap, ◌∙◌, ℕ, ◌+◌, ◌*◌, ◌/◌, List, [], ◌∷◌, ◌++◌, length, get_or, take, drop, max, ◌^◌, ◌<◌, ◌≤◌, lit≤, arith, append-nil, append_assoc, length-append}
use Rattle.collection_model.specs.FormatNumbers.{FormatNumbers, EntryShape, EndBesideLast, EachApart, EndInTwo, entry_words, part_charge, words_of_shape}
use Rattle.std.proofs.lemmas.List.{drop-drop, drop_more, length-drop}
use Rattle.collection_model.specs.Collection.{greatest}
use Rattle.index_file.specs.FileWords.{end_magic, CutList, doc_words, freq_words, lists_words, list_entry, lists_directory, sizes_words, plain_words}

-- an entry has a word
some-of-shape : (shape : EntryShape) → 1 ≤ words_of_shape shape
some-of-shape EndBesideLast = lit≤ tt
some-of-shape EachApart = lit≤ tt
some-of-shape EndInTwo = lit≤ tt

pub some-entry : (format : FormatNumbers) → 1 ≤ entry_words format
some-entry format = some-of-shape format.shape

-- so a part costs something
pub some-charge : (format : FormatNumbers) → 1 ≤ part_charge format
some-charge format = omega (arith, some-entry format)

-- the words of one list more
pub words-more : (format : FormatNumbers) (cs : List CutList) (c : CutList) → lists_words format (cs ++ c ∷ []) ≡ lists_words format cs ++ doc_words format c ++ freq_words format c
words-more format [] c = append-nil (doc_words format c ++ freq_words format c)
words-more format (d ∷ cs) c =
    let here = doc_words format d ++ freq_words format d in
    ap (λ ws. here ++ ws) (words-more format cs c)
    ∙ sym (append_assoc here (lists_words format cs ++ doc_words format c) (freq_words format c))
    ∙ ap (λ ws. ws ++ freq_words format c) (sym (append_assoc here (lists_words format cs) (doc_words format c)))

-- the directory words of one list more
pub directory-more : (format : FormatNumbers) (p : ℕ) (cs : List CutList) (c : CutList)
    → lists_directory format p (cs ++ c ∷ []) ≡ lists_directory format p cs ++ list_entry format (p + length (lists_words format cs)) c
directory-more format p [] c = append-nil (list_entry format p c) ∙ ap (λ q. list_entry format q c) (let e : p ≡ p + 0 = omega arith in e)
directory-more format p (d ∷ cs) c =
    let next = p + length (doc_words format d) + length (freq_words format d) in
    let far : next + length (lists_words format cs) ≡ p + length (doc_words format d ++ freq_words format d ++ lists_words format cs) =
    omega (arith, length-append (doc_words format d ++ freq_words format d) (lists_words format cs), length-append (doc_words format d) (freq_words format d)) in
    ap (λ ws. list_entry format p d ++ ws) (directory-more format next cs c) ∙ ap (λ q. list_entry format p d ++ lists_directory format next cs ++ list_entry format q c) far

-- four directory words for each list
pub directory-length : (format : FormatNumbers) (p : ℕ) (cs : List CutList) → length (lists_directory format p cs) ≡ 4 * length cs
directory-length format p [] = refl
directory-length format p (c ∷ cs) = omega (arith, directory-length format (p + length (doc_words format c) + length (freq_words format c)) cs)

-- a word for two sizes
pub sizes-length : (sizes : List ℕ) → length (sizes_words sizes) ≡ (length sizes + 1) / 2
sizes-length [] = refl
sizes-length (a ∷ []) = refl
sizes-length (a ∷ b ∷ sizes) = omega (arith, sizes-length sizes)

-- how many words the file has
pub file-length : (format : FormatNumbers) (n : ℕ) (cs : List CutList) (sizes : List ℕ)
    → length (plain_words format n cs sizes) ≡ 2 + length (lists_words format cs) + (length sizes + 1) / 2 + length (lists_directory format 2 cs) + 4
file-length format n cs sizes =
    let lists = lists_words format cs in
    let directory = lists_directory format 2 cs in
    omega (
      arith,
      length-append (lists ++ sizes_words sizes ++ directory) (n ∷ length cs ∷ (2 + length lists) ∷ end_magic ∷ []),
      length-append (lists ++ sizes_words sizes) directory,
      length-append lists (sizes_words sizes),
      sizes-length sizes,
    )

-- the words of the first two sizes and of the others
pair-words : (sizes : List ℕ) → 2 ≤ length sizes → (get_or (take 2 sizes) 0 0 + 2 ^ 32 * get_or (take 2 sizes) 1 0) ∷ sizes_words (drop 2 sizes) ≡ sizes_words sizes
pair-words [] some = absurd (omega arith)
pair-words (a ∷ []) some = absurd (omega arith)
pair-words (a ∷ b ∷ sizes) some = refl

-- the sizes after one more pair
pub sizes-next : (items sizes : List ℕ) (i : ℕ) → i < length sizes / 2
    → (items ++ (get_or (take 2 (drop (i * 2) sizes)) 0 0 + 2 ^ 32 * get_or (take 2 (drop (i * 2) sizes)) 1 0) ∷ []) ++ sizes_words (drop ((i + 1) * 2) sizes)
    ≡ items ++ sizes_words (drop (i * 2) sizes)
sizes-next items sizes i within =
    let rest = drop (i * 2) sizes in
    let word : ℕ = get_or (take 2 rest) 0 0 + 2 ^ 32 * get_or (take 2 rest) 1 0 in
    let after : drop ((i + 1) * 2) sizes ≡ drop 2 rest = ap (λ n. drop n sizes) (let e : (i + 1) * 2 ≡ i * 2 + 2 = omega arith in e) ∙ sym (drop-drop 2 (i * 2) sizes) in
    append_assoc items (word ∷ []) (sizes_words (drop ((i + 1) * 2) sizes))
    ∙ ap (λ ws. items ++ word ∷ sizes_words ws) after
    ∙ ap (λ ws. items ++ ws) (pair-words rest (omega (arith, length-drop (i * 2) sizes)))

-- the greatest of some numbers after one more
pub greatest-next : (most : ℕ) (xs : List ℕ) (i : ℕ) → i < length xs → max (max most (get_or xs i 0)) (greatest (drop (i + 1) xs)) ≡ max most (greatest (drop i xs))
greatest-next most xs i within = omega (arith, ap greatest (drop_more xs i 0 within))
