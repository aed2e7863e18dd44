-- Lemmas on the lists that stand first in a file.
use Rattle.std.proofs.Common.{◌≡◌, ℕ, suc, ◌+◌, ◌*◌, ◌≤◌, ◌<◌, List, [], ◌∷◌, ◌++◌, length, take, drop, get_or, refl, sym, ap, ◌∙◌, subst, arith, drop-cons, length-append}
use Rattle.std.specs.Prelude.{◌^◌, slice_index}
use Rattle.std.specs.List.{All}
use Rattle.std.proofs.lemmas.List.{take-take, drop-take, drop-drop, get_or-take, get_or-drop}
use Rattle.std.proofs.lemmas.List.Elements.{All-nil, All-cons, All-head, All-tail}
use Rattle.std.proofs.Math.Seq.{take-add, take-append_seam, drop-append_seam}
use Rattle.collection_model.specs.FormatNumbers.{FormatNumbers}
use Rattle.collection_model.specs.Collection.{IsPostingList, greatest_freq}
use Rattle.part_cost.specs.Formats.{HasRoom}
use Rattle.part_cost.specs.Partition.{IsPartition}
use Rattle.index_file.specs.declared.fault.OpenFault.{OpenFault}
use Rattle.index_file.specs.FileWords.{CutList, doc_words, freq_words, lists_words, list_entry, lists_directory}
use Rattle.index_file.specs.FirstBroken.{stated_documents, stated_terms, stated_sizes, directory_word, IsFilePrefix, IsTermFault}
use Rattle.index_file.specs.ListAt.{HasFrame, StandsAt, StandFrom, word_after, IsFirstListFault}
use Rattle.index_file.specs.Laws.{SequenceLaws}
use Rattle.index_file.proofs.Standing.{stand-one, no-fault}
use Rattle.index_file.proofs.Lengths.{directory-length}

-- where the prefix of a list is two pieces, each stands
pub prefix-of : (a b ys : List ℕ) → take (length (a ++ b)) ys ≡ a ++ b → take (length a) ys ≡ a
prefix-of a b ys h =
    sym (take-take (length a) (length (a ++ b)) ys (omega (arith, length-append a b))) ∙ ap (take (length a)) h ∙ take-append_seam a b

pub rest-of : (a b ys : List ℕ) → take (length (a ++ b)) ys ≡ a ++ b → take (length b) (drop (length a) ys) ≡ b
rest-of a b ys h =
    sym (drop-take (length a) (length b) ys) ∙ ap (λ n. drop (length a) (take n ys)) (sym (length-append a b)) ∙ ap (drop (length a)) h ∙ drop-append_seam a b

-- and the other way
pub joined : (a b ys : List ℕ) → take (length a) ys ≡ a → take (length b) (drop (length a) ys) ≡ b → take (length (a ++ b)) ys ≡ a ++ b
joined a b ys h k = ap (λ n. take n ys) (length-append a b) ∙ take-add (length a) (length b) ys ∙ ap (λ xs. xs ++ take (length b) (drop (length a) ys)) h ∙ ap (λ xs. a ++ xs) k

pub length-lists : (format : FormatNumbers) (p : ℕ) (c : CutList) (cs : List CutList) → p + length (lists_words format (c ∷ cs)) ≡ word_after format p c + length (lists_words format cs)
length-lists format p c cs =
    omega (arith, length-append (doc_words format c ++ freq_words format c) (lists_words format cs), length-append (doc_words format c) (freq_words format c))

-- the words behind those of a list
behind-list : (format : FormatNumbers) (words : List ℕ) (p : ℕ) (c : CutList) → drop (length (doc_words format c ++ freq_words format c)) (drop p words) ≡ drop (word_after format p c) words
behind-list format words p c =
    let a : List ℕ = doc_words format c in
    let b : List ℕ = freq_words format c in
    drop-drop (length (a ++ b)) p words ∙ ap (λ n. drop n words) (let e : p + length (a ++ b) ≡ p + length a + length b = omega (arith, length-append a b) in e)

-- the four directory words of a list
pub word-of : (words : List ℕ) (q k x : ℕ) (ys : List ℕ) → take 4 (drop q words) ≡ ys → k < 4 → get_or ys k 0 ≡ x → slice_index words (q + k) ≡ x
word-of words q k x ys h lt e = sym (get_or-drop q words k 0) ∙ sym (get_or-take 4 (drop q words) k 0 lt) ∙ ap (λ l. get_or l k 0) h ∙ e

pub four-words : (words : List ℕ) (q a b d e : ℕ) → q + 4 ≤ length words → slice_index words (q + 0) ≡ a → slice_index words (q + 1) ≡ b → slice_index words (q + 2) ≡ d → slice_index words (q + 3) ≡ e
    → take 4 (drop q words) ≡ a ∷ b ∷ d ∷ e ∷ []
four-words words q a b d e fit ea eb ed ee =
    let at : (i j x : ℕ) → i ≡ q + j → j < 4 → slice_index words (q + j) ≡ x → drop i words ≡ x ∷ drop (suc i) words =
    λ i j x ei lt ex. drop-cons words i 0 (omega (arith, ei, lt, fit)) ∙ ap (λ y. y ∷ drop (suc i) words) (ap (slice_index words) ei ∙ ex) in
    ap (take 4) (at q 0 a (omega arith) (omega arith) ea) ∙ ap (λ l. a ∷ take 3 l) (at (suc q) 1 b (omega arith) (omega arith) eb)
    ∙ ap (λ l. a ∷ b ∷ take 2 l) (at (suc (suc q)) 2 d (omega arith) (omega arith) ed) ∙ ap (λ l. a ∷ b ∷ d ∷ take 1 l) (at (suc (suc (suc q))) 3 e (omega arith) (omega arith) ee)

abbrev pub IsListIn : FormatNumbers → List ℕ → CutList → Type 0
IsListIn format words c = IsPostingList format (stated_documents words) c.list

abbrev pub HasDocParts : CutList → Type 0
HasDocParts c = IsPartition (length c.list) c.parts.doc_ends

abbrev pub HasFreqParts : CutList → Type 0
HasFreqParts c = IsPartition (length c.list) c.parts.freq_ends

-- Lists whose sequences and directory words stand, one after the other.
pub record Pieces (format : FormatNumbers) (words : List ℕ) (t p : ℕ) (cs : List CutList) : Type 0 where
  pub lists : All (λ c. IsPostingList format (stated_documents words) c.list) cs
  pub doc_parts : All (λ c. IsPartition (length c.list) c.parts.doc_ends) cs
  pub freq_parts : All (λ c. IsPartition (length c.list) c.parts.freq_ends) cs
  pub sequences : take (length (lists_words format cs)) (drop p words) ≡ lists_words format cs
  pub within : p + length (lists_words format cs) ≤ stated_sizes words
  pub directory : take (4 * length cs) (drop (directory_word words + 4 * t) words) ≡ lists_directory format p cs

-- the rest of some pieces
pieces-rest : (format : FormatNumbers) (words : List ℕ) (t p : ℕ) (c : CutList) (cs : List CutList) → Pieces format words t p (c ∷ cs) → Pieces format words (t + 1) (word_after format p c) cs
pieces-rest format words t p c cs h =
    let a : List ℕ = doc_words format c in
    let b : List ℕ = freq_words format c in
    let more : List ℕ = lists_words format cs in
    let q : ℕ = directory_word words + 4 * t in
    let two : take (length more) (drop (length (a ++ b)) (drop p words)) ≡ more = rest-of (a ++ b) more (drop p words) h.sequences in
    let entry : List ℕ = list_entry format p c in
    let rest : List ℕ = lists_directory format (word_after format p c) cs in
    let whole : take (length (entry ++ rest)) (drop q words) ≡ entry ++ rest = ap (λ n. take n (drop q words)) (directory-length format p (c ∷ cs)) ∙ h.directory in
    record {
      lists = All-tail (IsListIn format words) c cs h.lists;
      doc_parts = All-tail HasDocParts c cs h.doc_parts;
      freq_parts = All-tail HasFreqParts c cs h.freq_parts;
      sequences = ap (take (length more)) (sym (behind-list format words p c)) ∙ two;
      within = omega (arith, h.within, length-lists format p c cs);
      directory =
          ap (λ n. take n (drop (directory_word words + 4 * (t + 1)) words)) (sym (directory-length format (word_after format p c) cs))
          ∙ ap (λ n. take (length rest) (drop n words)) (let e : directory_word words + 4 * (t + 1) ≡ q + 4 = omega arith in e)
          ∙ ap (take (length rest)) (sym (drop-drop 4 q words)) ∙ rest-of entry rest (drop q words) whole;
    }

pieces-first : (format : FormatNumbers) (words : List ℕ) (t p : ℕ) (c : CutList) (cs : List CutList) → Pieces format words t p (c ∷ cs) → StandsAt format words t p c
pieces-first format words t p c cs h =
    let a : List ℕ = doc_words format c in
    let b : List ℕ = freq_words format c in
    let more : List ℕ = lists_words format cs in
    let q : ℕ = directory_word words + 4 * t in
    let pair : take (length (a ++ b)) (drop p words) ≡ a ++ b = prefix-of (a ++ b) more (drop p words) h.sequences in
    let entry : List ℕ = list_entry format p c in
    let rest : List ℕ = lists_directory format (word_after format p c) cs in
    let whole : take (length (entry ++ rest)) (drop q words) ≡ entry ++ rest = ap (λ n. take n (drop q words)) (directory-length format p (c ∷ cs)) ∙ h.directory in
    let four : take 4 (drop q words) ≡ entry = prefix-of entry rest (drop q words) whole in
    record {
      list = All-head (IsListIn format words) c cs h.lists;
      doc_parts = All-head HasDocParts c cs h.doc_parts;
      freq_parts = All-head HasFreqParts c cs h.freq_parts;
      docs = prefix-of a b (drop p words) pair;
      freqs = ap (take (length b)) (sym (drop-drop (length a) p words)) ∙ rest-of a b (drop p words) pair;
      within = omega (arith, h.within, length-lists format p c cs);
      docs_word = word-of words q 0 p entry four (omega arith) refl;
      freqs_word = word-of words q 1 (p + length a) entry four (omega arith) refl;
      doc_counts = word-of words q 2 (length c.list + 2 ^ 32 * length c.parts.doc_ends) entry four (omega arith) refl;
      freq_counts = word-of words q 3 (length c.parts.freq_ends + 2 ^ 32 * greatest_freq c.list) entry four (omega arith) refl;
    }

pub stand-from : (format : FormatNumbers) (words : List ℕ) (t p : ℕ) (cs : List CutList) → Pieces format words t p cs → StandFrom format words t p cs
stand-from format words t p [] h = tt
stand-from format words t p (c ∷ cs) h = (pieces-first format words t p c cs h, stand-from format words (t + 1) (word_after format p c) cs (pieces-rest format words t p c cs h))

pub pieces-of : (format : FormatNumbers) (words : List ℕ) (t p : ℕ) (cs : List CutList) → HasFrame format words → t + length cs ≤ stated_terms words → p ≤ stated_sizes words → StandFrom format words t p cs → Pieces format words t p cs
pieces-of format words t p [] frame fit le h = record {
  lists = All-nil (IsListIn format words);
  doc_parts = All-nil HasDocParts;
  freq_parts = All-nil HasFreqParts;
  sequences = refl;
  within = omega (arith, le);
  directory = refl;
}
pieces-of format words t p (c ∷ cs) frame fit le h =
    let s = h.0 in
    let r = pieces-of format words (t + 1) (word_after format p c) cs frame (omega (arith, fit)) s.within h.1 in
    let a : List ℕ = doc_words format c in
    let b : List ℕ = freq_words format c in
    let more : List ℕ = lists_words format cs in
    let q : ℕ = directory_word words + 4 * t in
    let two : take (length more) (drop (length (a ++ b)) (drop p words)) ≡ more = ap (take (length more)) (behind-list format words p c) ∙ r.sequences in
    let pair : take (length (a ++ b)) (drop p words) ≡ a ++ b = joined a b (drop p words) s.docs (ap (take (length b)) (drop-drop (length a) p words) ∙ s.freqs) in
    let entry : List ℕ = list_entry format p c in
    let rest : List ℕ = lists_directory format (word_after format p c) cs in
    let four : take 4 (drop q words) ≡ entry =
    four-words words q p (p + length a) (length c.list + 2 ^ 32 * length c.parts.doc_ends) (length c.parts.freq_ends + 2 ^ 32 * greatest_freq c.list) (omega (arith, frame.whole, fit)) s.docs_word s.freqs_word s.doc_counts s.freq_counts in
    let after : take (length rest) (drop 4 (drop q words)) ≡ rest =
    ap (take (length rest)) (drop-drop 4 q words)
    ∙ ap (λ n. take (length rest) (drop n words)) (let e : q + 4 ≡ directory_word words + 4 * (t + 1) = omega arith in e)
    ∙ ap (λ n. take n (drop (directory_word words + 4 * (t + 1)) words)) (directory-length format (word_after format p c) cs) ∙ r.directory in
    record {
      lists = All-cons (IsListIn format words) c cs s.list r.lists;
      doc_parts = All-cons HasDocParts c cs s.doc_parts r.doc_parts;
      freq_parts = All-cons HasFreqParts c cs s.freq_parts r.freq_parts;
      sequences = joined (a ++ b) more (drop p words) pair two;
      within = omega (arith, r.within, length-lists format p c cs);
      directory = ap (λ n. take n (drop q words)) (sym (directory-length format p (c ∷ cs))) ∙ joined entry rest (drop q words) four after;
    }

-- a prefix is lists that stand from the first word of lists on
pub prefix-pieces : (format : FormatNumbers) (words : List ℕ) (cs : List CutList) → IsFilePrefix format words cs → Pieces format words 0 2 cs
prefix-pieces format words cs h = record {
  lists = h.lists;
  doc_parts = h.doc_parts;
  freq_parts = h.freq_parts;
  sequences = h.sequences;
  within = h.within;
  directory = ap (λ n. take (4 * length cs) (drop n words)) (let e : directory_word words + 4 * 0 ≡ directory_word words = omega arith in e) ∙ h.directory;
}

pub prefix-is : (format : FormatNumbers) (words : List ℕ) (cs : List CutList) → HasFrame format words → length cs ≤ stated_terms words → StandFrom format words 0 2 cs → IsFilePrefix format words cs
prefix-is format words cs frame few h =
    let r = pieces-of format words 0 2 cs frame (omega (arith, few)) frame.sizes h in
    record {
      lists = r.lists;
      doc_parts = r.doc_parts;
      freq_parts = r.freq_parts;
      terms = few;
      sequences = r.sequences;
      within = r.within;
      directory = ap (λ n. take (4 * length cs) (drop n words)) (let e : directory_word words ≡ directory_word words + 4 * 0 = omega arith in e) ∙ r.directory;
    }

-- no lists are more than those behind which none stands
longest-from : (format : FormatNumbers) (room : HasRoom format) → SequenceLaws format → (words : List ℕ) (t p : ℕ) (cs : List CutList) → HasFrame format words → StandFrom format words t p cs
    → ((c : CutList) → StandsAt format words (t + length cs) (p + length (lists_words format cs)) c → ⊥)
    → (ds : List CutList) → StandFrom format words t p ds → length ds ≤ length cs
longest-from format room laws words t p [] frame h none [] k = omega arith
longest-from format room laws words t p [] frame h none (d ∷ ds) k =
    absurd (none d (subst (λ i. StandsAt format words i (p + 0) d) (let e : t ≡ t + 0 = omega arith in e) (subst (λ i. StandsAt format words t i d) (let e : p ≡ p + 0 = omega arith in e) k.0)))
longest-from format room laws words t p (c ∷ cs) frame h none [] k = omega arith
longest-from format room laws words t p (c ∷ cs) frame h none (d ∷ ds) k =
    let e : d ≡ c = stand-one format room laws words t p d c frame k.0 h.0 in
    let fewer : length ds ≤ length cs =
    longest-from format room laws words (t + 1) (word_after format p c) cs frame h.1
    (λ x s. none x (
    subst (λ i. StandsAt format words i (p + length (lists_words format (c ∷ cs))) x) (let e : t + 1 + length cs ≡ t + length (c ∷ cs) = omega arith in e)
    (subst (λ i. StandsAt format words (t + 1 + length cs) i x) (sym (length-lists format p c cs)) s)
    ))
    ds (subst (λ x. StandFrom format words (t + 1) (word_after format p x) ds) e k.1) in
    omega (arith, fewer)

-- as many lists that stand from one place are the same
pub stand-same : (format : FormatNumbers) (room : HasRoom format) → SequenceLaws format → (words : List ℕ) (t p : ℕ) (cs ds : List CutList) → HasFrame format words → StandFrom format words t p cs → StandFrom format words t p ds → length cs ≡ length ds → cs ≡ ds
stand-same format room laws words t p [] [] frame h k e = refl
stand-same format room laws words t p [] (d ∷ ds) frame h k e = absurd (omega (arith, e))
stand-same format room laws words t p (c ∷ cs) [] frame h k e = absurd (omega (arith, e))
stand-same format room laws words t p (c ∷ cs) (d ∷ ds) frame h k e =
    let same : c ≡ d = stand-one format room laws words t p c d frame h.0 k.0 in
    let rest : cs ≡ ds =
    stand-same format room laws words (t + 1) (word_after format p c) cs ds frame h.1 (subst (λ x. StandFrom format words (t + 1) (word_after format p x) ds) (sym same) k.1) (omega (arith, e)) in
    ap (λ x. x ∷ cs) same ∙ ap (λ x. d ∷ x) rest

-- one more list
stand-more : (format : FormatNumbers) (words : List ℕ) (t p : ℕ) (cs : List CutList) (c : CutList) → StandFrom format words t p cs
    → StandsAt format words (t + length cs) (p + length (lists_words format cs)) c → StandFrom format words t p (cs ++ c ∷ [])
stand-more format words t p [] c h s =
    (subst (λ i. StandsAt format words i p c) (let e : t + 0 ≡ t = omega arith in e) (subst (λ i. StandsAt format words (t + 0) i c) (let e : p + 0 ≡ p = omega arith in e) s), tt)
stand-more format words t p (d ∷ cs) c h s = (
  h.0,
  stand-more format words (t + 1) (word_after format p d) cs c h.1
      (subst (λ i. StandsAt format words i (word_after format p d + length (lists_words format cs)) c) (let e : t + length (d ∷ cs) ≡ t + 1 + length cs = omega arith in e)
      (subst (λ i. StandsAt format words (t + length (d ∷ cs)) i c) (length-lists format p d cs) s)),
)

lists-more : (format : FormatNumbers) (p : ℕ) (cs : List CutList) (c : CutList) → p + length (lists_words format (cs ++ c ∷ [])) ≡ word_after format (p + length (lists_words format cs)) c
lists-more format p [] c = omega (arith, length-lists format p c [])
lists-more format p (d ∷ cs) c = omega (arith, length-lists format p d (cs ++ c ∷ []), length-lists format p d cs, lists-more format (word_after format p d) cs c)

-- how far the walk of the lists has come
pub record Reached (format : FormatNumbers) (words : List ℕ) (t p : ℕ) (cs : List CutList) : Type 0 where
  pub stand : StandFrom format words 0 2 cs
  pub count : length cs ≡ t
  pub place : p ≡ 2 + length (lists_words format cs)
  pub within : p ≤ stated_sizes words

pub reached-first : (format : FormatNumbers) (words : List ℕ) → HasFrame format words → Reached format words 0 2 []
reached-first format words frame = record { stand = tt; count = refl; place = refl; within = frame.sizes }

pub reached-next : (format : FormatNumbers) (words : List ℕ) (t p next : ℕ) (cs : List CutList) (c : CutList) → Reached format words t p cs → StandsAt format words t p c → next ≡ word_after format p c
    → Reached format words (t + 1) next (cs ++ c ∷ [])
reached-next format words t p next cs c r s e = record {
  stand = stand-more format words 0 2 cs c r.stand
      (subst (λ i. StandsAt format words (0 + length cs) i c) r.place (subst (λ i. StandsAt format words i p c) (let e : t ≡ 0 + length cs = omega (arith, r.count) in e) s));
  count = omega (arith, length-append cs (c ∷ []), r.count);
  place = e ∙ ap (λ i. word_after format i c) r.place ∙ sym (lists-more format 2 cs c);
  within = omega (arith, e, s.within);
}

pub reached-prefix : (format : FormatNumbers) (words : List ℕ) (t p : ℕ) (cs : List CutList) → HasFrame format words → t ≤ stated_terms words → Reached format words t p cs → IsFilePrefix format words cs
reached-prefix format words t p cs frame few r = prefix-is format words cs frame (omega (arith, r.count, few)) r.stand

-- the fault of the list at which the walk stands is the first
pub reached-fault : (format : FormatNumbers) (room : HasRoom format) → SequenceLaws format → (words : List ℕ) (t p : ℕ) (cs : List CutList) (f : OpenFault) → HasFrame format words → t < stated_terms words → Reached format words t p cs → IsTermFault format words t p f
    → IsFirstListFault format words f
reached-fault format room laws words t p cs f frame lt r fault =
    let here : IsTermFault format words (length cs) (2 + length (lists_words format cs)) f =
    subst (λ i. IsTermFault format words i (2 + length (lists_words format cs)) f) (sym r.count) (subst (λ i. IsTermFault format words t i f) r.place fault) in (
      cs,
      record {
        prefix = prefix-is format words cs frame (omega (arith, r.count, lt)) r.stand;
        longest = λ others h. longest-from format room laws words 0 2 cs frame r.stand
            (λ c s. no-fault format room laws words (length cs) (2 + length (lists_words format cs)) c f frame
            (subst (λ i. StandsAt format words i (2 + length (lists_words format cs)) c) (let e : 0 + length cs ≡ length cs = omega arith in e) s) here)
            others (stand-from format words 0 2 others (prefix-pieces format words others h));
      },
      omega (arith, r.count, lt),
      here,
    )
