-- Lemmas on where the pieces of a file stand.
use Rattle.std.proofs.Common.{◌≡◌, ℕ, zero, suc, ◌+◌, ◌-◌, ◌*◌, ◌/◌, ◌%◌, ◌^◌, ◌≤◌, ◌<◌, Bool, List, [], ◌∷◌, ◌++◌, length, take, drop, get_or, refl, sym, ap, ◌∙◌, arith, length-append}
use Rattle.std.specs.Prelude.{slice_index, ◌==◌, if◌then◌else◌}
use Rattle.std.specs.List.{All}
use Rattle.std.proofs.lemmas.List.{get_or-take}
use Rattle.std.proofs.lemmas.List.Elements.{All-head, All-tail}
use Rattle.std.proofs.Math.Seq.{take-length}
use Rattle.collection_model.specs.FormatNumbers.{FormatNumbers, most_terms}
use Rattle.index_file.specs.FileWords.{CutList, opening_magic, end_magic, lists_words, sizes_words, lists_directory, plain_words}
use Rattle.index_file.specs.FirstBroken.{stated_documents, stated_terms, stated_sizes, directory_word}
use Rattle.index_file.specs.ListAt.{HasFrame}
use Rattle.index_file.proofs.Prefixes.{prefix-of, rest-of, joined, word-of, four-words}
use Rattle.index_file.proofs.Lengths.{directory-length, sizes-length}

-- the low or the high half of a word
abbrev pub half_of : Bool → ℕ → ℕ
half_of low x = if low then x % 2 ^ 32 else x / 2 ^ 32

-- half d of some words
abbrev pub half : List ℕ → ℕ → ℕ
half ws d = half_of (d % 2 == 0) (slice_index ws (d / 2))

half-next : (w : ℕ) (ws : List ℕ) (d e : ℕ) → e ≡ d + 2 → half (w ∷ ws) e ≡ half ws d
half-next w ws d e same =
    ap (λ r. half_of (r == 0) (slice_index (w ∷ ws) (e / 2))) (let k : e % 2 ≡ d % 2 = omega (arith, same) in k)
    ∙ ap (λ i. half_of (d % 2 == 0) (slice_index (w ∷ ws) i)) (let k : e / 2 ≡ suc (d / 2) = omega (arith, same) in k)

-- words whose halves are some sizes begin with the words of the sizes
pub sizes-stand : (xs ws : List ℕ) → ((d : ℕ) → d < length xs → get_or xs d 0 ≡ half ws d) → (length xs + 1) / 2 ≤ length ws
    → (length xs % 2 ≡ 1 → slice_index ws ((length xs + 1) / 2 - 1) / 2 ^ 32 ≡ 0) → take (length (sizes_words xs)) ws ≡ sizes_words xs
sizes-stand [] ws h fit filled = refl
sizes-stand (a ∷ []) [] h fit filled = absurd (omega (arith, fit))
sizes-stand (a ∷ []) (w ∷ ws) h fit filled =
    let low : a ≡ w % 2 ^ 32 = h 0 (omega arith) in
    let high : w / 2 ^ 32 ≡ 0 = filled refl in
    ap (λ x. x ∷ []) (let e : w ≡ a = omega (arith, low, high) in e)
sizes-stand (a ∷ b ∷ xs) [] h fit filled = absurd (omega (arith, fit))
sizes-stand (a ∷ b ∷ xs) (w ∷ ws) h fit filled =
    let low : a ≡ w % 2 ^ 32 = h 0 (omega arith) in
    let high : b ≡ w / 2 ^ 32 = h 1 (omega arith) in
    let e : w ≡ a + 2 ^ 32 * b = omega (arith, low, high) in
    ap (λ x. x ∷ take (length (sizes_words xs)) ws) e
    ∙ ap (λ l. (a + 2 ^ 32 * b) ∷ l)
    (sizes-stand xs ws (λ d lt. h (suc (suc d)) (omega (arith, lt)) ∙ half-next w ws d (suc (suc d)) (omega arith)) (omega (arith, fit))
    (λ odd.
    ap (λ i. slice_index (w ∷ ws) i / 2 ^ 32) (let k : suc ((length xs + 1) / 2 - 1) ≡ (length (a ∷ b ∷ xs) + 1) / 2 - 1 = omega (arith, odd) in k) ∙ filled (omega (arith, odd))))

-- the sizes are the halves of their words
pub sizes-back : (xs : List ℕ) → All (λ s. s < 2 ^ 32) xs → (d : ℕ) → d < length xs → half (sizes_words xs) d ≡ get_or xs d 0
sizes-back [] h d lt = absurd (omega (arith, lt))
sizes-back (a ∷ []) h zero lt = let k : a < 2 ^ 32 = All-head (λ s. s < 2 ^ 32) a [] h in omega (arith, k)
sizes-back (a ∷ []) h (suc d) lt = absurd (omega (arith, lt))
sizes-back (a ∷ b ∷ xs) h zero lt = let k : a < 2 ^ 32 = All-head (λ s. s < 2 ^ 32) a (b ∷ xs) h in omega (arith, k)
sizes-back (a ∷ b ∷ xs) h (suc zero) lt =
    let k : a < 2 ^ 32 = All-head (λ s. s < 2 ^ 32) a (b ∷ xs) h in omega (arith, k)
sizes-back (a ∷ b ∷ xs) h (suc (suc d)) lt =
    half-next (a + 2 ^ 32 * b) (sizes_words xs) d (suc (suc d)) (omega arith)
    ∙ sizes-back xs (All-tail (λ s. s < 2 ^ 32) b xs (All-tail (λ s. s < 2 ^ 32) a (b ∷ xs) h)) d (omega (arith, lt))

-- behind an odd number of sizes the last half is empty
pub sizes-filled : (xs : List ℕ) → All (λ s. s < 2 ^ 32) xs → length xs % 2 ≡ 1 → slice_index (sizes_words xs) ((length xs + 1) / 2 - 1) / 2 ^ 32 ≡ 0
sizes-filled [] h odd = absurd (omega (arith, odd))
sizes-filled (a ∷ []) h odd = let k : a < 2 ^ 32 = All-head (λ s. s < 2 ^ 32) a [] h in let e : a / 2 ^ 32 ≡ 0 = omega (arith, k) in e
sizes-filled (a ∷ b ∷ xs) h odd =
    let rest : length xs % 2 ≡ 1 = omega (arith, odd) in
    ap (λ i. slice_index ((a + 2 ^ 32 * b) ∷ sizes_words xs) i / 2 ^ 32) (let k : (length (a ∷ b ∷ xs) + 1) / 2 - 1 ≡ suc ((length xs + 1) / 2 - 1) = omega (arith, rest) in k)
    ∙ sizes-filled xs (All-tail (λ s. s < 2 ^ 32) b xs (All-tail (λ s. s < 2 ^ 32) a (b ∷ xs) h)) rest

-- the pieces of a file
abbrev pub ends_words : FormatNumbers → List CutList → List ℕ
ends_words format cs = (opening_magic ∷ format.version ∷ []) ++ lists_words format cs

abbrev pub last_words : FormatNumbers → ℕ → List CutList → List ℕ
last_words format n cs = n ∷ length cs ∷ (2 + length (lists_words format cs)) ∷ end_magic ∷ []

pub two-words : (words : List ℕ) (a b : ℕ) → 2 ≤ length words → slice_index words 0 ≡ a → slice_index words 1 ≡ b → take 2 words ≡ a ∷ b ∷ []
two-words [] a b fit ea eb = absurd (omega (arith, fit))
two-words (x ∷ []) a b fit ea eb = absurd (omega (arith, fit))
two-words (x ∷ y ∷ words) a b fit ea eb = ap (λ z. z ∷ y ∷ []) ea ∙ ap (λ z. a ∷ z ∷ []) eb

-- words whose pieces stand are those of a file
pub words-of : (format : FormatNumbers) (words : List ℕ) (n : ℕ) (cs : List CutList) (xs : List ℕ) → HasFrame format words → stated_documents words ≡ n → length xs ≡ n → stated_terms words ≡ length cs
    → stated_sizes words ≡ 2 + length (lists_words format cs)
    → take (length (lists_words format cs)) (drop 2 words) ≡ lists_words format cs
    → take (length (sizes_words xs)) (drop (stated_sizes words) words) ≡ sizes_words xs
    → take (4 * length cs) (drop (directory_word words) words) ≡ lists_directory format 2 cs → words ≡ plain_words format n cs xs
words-of format words n cs xs frame docs count terms sizes hl hz hd =
    let a : List ℕ = opening_magic ∷ format.version ∷ [] in
    let l : List ℕ = lists_words format cs in
    let z : List ℕ = sizes_words xs in
    let d : List ℕ = lists_directory format 2 cs in
    let e : List ℕ = last_words format n cs in
    let end : ℕ = length words - 4 in
    let s1 : take (length (a ++ l)) words ≡ a ++ l = joined a l words (two-words words opening_magic format.version (omega (arith, frame.some)) frame.opening frame.version) hl in
    let len1 : length (a ++ l) ≡ stated_sizes words = omega (arith, length-append a l, sizes) in
    let s2 : take (length (a ++ l ++ z)) words ≡ a ++ l ++ z = joined (a ++ l) z words s1 (ap (λ i. take (length z) (drop i words)) len1 ∙ hz) in
    let len2 : length (a ++ l ++ z) ≡ directory_word words = omega (arith, length-append (a ++ l) z, len1, sizes-length xs, count, docs) in
    let s3 : take (length (a ++ l ++ z ++ d)) words ≡ a ++ l ++ z ++ d =
    joined (a ++ l ++ z) d words s2 (ap (λ i. take (length d) (drop i words)) len2 ∙ ap (λ i. take i (drop (directory_word words) words)) (directory-length format 2 cs) ∙ hd) in
    let len3 : length (a ++ l ++ z ++ d) ≡ end = omega (arith, length-append (a ++ l ++ z) d, len2, directory-length format 2 cs, frame.whole, terms) in
    let four : take 4 (drop end words) ≡ e =
    four-words words end n (length cs) (2 + length l) end_magic (omega (arith, frame.some)) (ap (slice_index words) (let k : end + 0 ≡ length words - 4 = omega arith in k) ∙ docs)
    (ap (slice_index words) (let k : end + 1 ≡ length words - 3 = omega (arith, frame.some) in k) ∙ terms)
    (ap (slice_index words) (let k : end + 2 ≡ length words - 2 = omega (arith, frame.some) in k) ∙ sizes)
    (ap (slice_index words) (let k : end + 3 ≡ length words - 1 = omega (arith, frame.some) in k) ∙ frame.closing) in
    let s4 : take (length (a ++ l ++ z ++ d ++ e)) words ≡ a ++ l ++ z ++ d ++ e = joined (a ++ l ++ z ++ d) e words s3 (ap (λ i. take 4 (drop i words)) len3 ∙ four) in
    let len4 : length (a ++ l ++ z ++ d ++ e) ≡ length words = omega (arith, length-append (a ++ l ++ z ++ d) e, len3, frame.some) in
    sym (take-length words) ∙ ap (λ i. take i words) (sym len4) ∙ s4

-- the pieces of a file, in its words
pub record Laid (format : FormatNumbers) (words : List ℕ) (n : ℕ) (cs : List CutList) (xs : List ℕ) : Type 0 where
  pub frame : HasFrame format words
  pub docs : stated_documents words ≡ n
  pub terms : stated_terms words ≡ length cs
  pub sizes : stated_sizes words ≡ 2 + length (lists_words format cs)
  pub lists_at : take (length (lists_words format cs)) (drop 2 words) ≡ lists_words format cs
  pub sizes_at : take (length (sizes_words xs)) (drop (stated_sizes words) words) ≡ sizes_words xs
  pub directory_at : take (4 * length cs) (drop (directory_word words) words) ≡ lists_directory format 2 cs

pub laid-of : (format : FormatNumbers) (words : List ℕ) (n : ℕ) (cs : List CutList) (xs : List ℕ) → n ≤ format.most_documents → length cs ≤ most_terms → length xs ≡ n → words ≡ plain_words format n cs xs
    → Laid format words n cs xs
laid-of format words n cs xs few most count same =
    let a : List ℕ = opening_magic ∷ format.version ∷ [] in
    let l : List ℕ = lists_words format cs in
    let z : List ℕ = sizes_words xs in
    let d : List ℕ = lists_directory format 2 cs in
    let e : List ℕ = last_words format n cs in
    let x3 : List ℕ = a ++ l ++ z ++ d in
    let whole : take (length (a ++ l ++ z ++ d ++ e)) words ≡ a ++ l ++ z ++ d ++ e = ap (take (length (a ++ l ++ z ++ d ++ e))) same ∙ take-length (a ++ l ++ z ++ d ++ e) in
    let t3 : take (length (a ++ l ++ z ++ d)) words ≡ a ++ l ++ z ++ d = prefix-of (a ++ l ++ z ++ d) e words whole in
    let te : take 4 (drop (length (a ++ l ++ z ++ d)) words) ≡ e = rest-of (a ++ l ++ z ++ d) e words whole in
    let t2 : take (length (a ++ l ++ z)) words ≡ a ++ l ++ z = prefix-of (a ++ l ++ z) d words t3 in
    let td : take (length d) (drop (length (a ++ l ++ z)) words) ≡ d = rest-of (a ++ l ++ z) d words t3 in
    let t1 : take (length (a ++ l)) words ≡ a ++ l = prefix-of (a ++ l) z words t2 in
    let tz : take (length z) (drop (length (a ++ l)) words) ≡ z = rest-of (a ++ l) z words t2 in
    let t0 : take 2 words ≡ a = prefix-of a l words t1 in
    let tl : take (length l) (drop 2 words) ≡ l = rest-of a l words t1 in
    let len1 : length (a ++ l) ≡ 2 + length l = length-append a l in
    let len2 : length (a ++ l ++ z) ≡ 2 + length l + (n + 1) / 2 = omega (arith, length-append (a ++ l) z, len1, sizes-length xs, count) in
    let len3 : length (a ++ l ++ z ++ d) ≡ 2 + length l + (n + 1) / 2 + 4 * length cs = omega (arith, length-append (a ++ l ++ z) d, len2, directory-length format 2 cs) in
    let len4 : length words ≡ length (a ++ l ++ z ++ d) + 4 = ap length same ∙ length-append (a ++ l ++ z ++ d) e in
    let docs : stated_documents words ≡ n =
    ap (slice_index words) (let k : length words - 4 ≡ length (a ++ l ++ z ++ d) + 0 = omega (arith, len4) in k) ∙ word-of words (length x3) 0 n e te (omega arith) refl in
    let terms : stated_terms words ≡ length cs =
    ap (slice_index words) (let k : length words - 3 ≡ length (a ++ l ++ z ++ d) + 1 = omega (arith, len4) in k) ∙ word-of words (length x3) 1 (length cs) e te (omega arith) refl in
    let sizes : stated_sizes words ≡ 2 + length l =
    ap (slice_index words) (let k : length words - 2 ≡ length (a ++ l ++ z ++ d) + 2 = omega (arith, len4) in k) ∙ word-of words (length x3) 2 (2 + length l) e te (omega arith) refl in
    let closing : slice_index words (length words - 1) ≡ end_magic =
    ap (slice_index words) (let k : length words - 1 ≡ length (a ++ l ++ z ++ d) + 3 = omega (arith, len4) in k) ∙ word-of words (length x3) 3 end_magic e te (omega arith) refl in
    let halved : (stated_documents words + 1) / 2 ≡ (n + 1) / 2 = ap (λ i. (i + 1) / 2) docs in
    record {
      frame = record {
        some = omega (arith, len4, len3);
        opening = sym (get_or-take 2 words 0 0 (omega arith)) ∙ ap (λ ws. get_or ws 0 0) t0;
        version = sym (get_or-take 2 words 1 0 (omega arith)) ∙ ap (λ ws. get_or ws 1 0) t0;
        closing = closing;
        documents = omega (arith, docs, few);
        terms = omega (arith, terms, most);
        sizes = omega (arith, sizes);
        whole = omega (arith, len4, len3, sizes, terms, halved);
      };
      docs = docs;
      terms = terms;
      sizes = sizes;
      lists_at = tl;
      sizes_at = ap (λ i. take (length z) (drop i words)) (let k : stated_sizes words ≡ length (a ++ l) = omega (arith, sizes, len1) in k) ∙ tz;
      directory_at =
          ap (λ i. take i (drop (directory_word words) words)) (sym (directory-length format 2 cs))
          ∙ ap (λ i. take (length d) (drop i words)) (let k : directory_word words ≡ length (a ++ l ++ z) = omega (arith, sizes, halved, len2) in k) ∙ td;
    }
