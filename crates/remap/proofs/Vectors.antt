-- Lemmas on lists that are held as vectors of documents and of frequencies.
use Rattle.std.proofs.Common.{◌≡◌, ◌≢◌, refl, sym, ap, inl, inr, ◌∙◌, subst, ℕ, zero, suc, ◌+◌, ◌<◌, ◌≤◌, ◌^◌, List, map, [], ◌∷◌, ◌++◌, length, get_or, take, Vec, arith}
use Rattle.std.specs.List.{All}
use Rattle.std.specs.declared.alloc.Global.{Global}
use Rattle.std.proofs.lemmas.List.{get_or-set_other, get_or-set_same, map-append, take_all, take_more}
use Rattle.std.proofs.Math.ListN.{set}
use Rattle.std.proofs.lemmas.List.Elements.{All-nil, All-cons, All-head, All-tail}
use Rattle.std.proofs.lemmas.Bool.{cases_lt}
use Rattle.collection_model.specs.FormatNumbers.{FormatNumbers}
use Rattle.collection_model.specs.Bytes.{number_sequence}
use Rattle.collection_model.specs.Collection.{Posting, docs_of, freqs_of, postings_of, IsPostingList}
use Rattle.collection_model.specs.Spelling.{docs_bytes, freqs_bytes}
use Rattle.collection_model.proofs.Lists.{list-fits, docs-of_postings, freqs-of_postings}
use Rattle.collection_reader.specs.Held.{lists_held, AreAligned}
use Rattle.remap.specs.Image.{IsImageList}
use Rattle.remap.specs.Vectors.{AreSame}
use Rattle.remap.specs.Spelling.{AreShort, vectors_bytes}

pub aligned-length : (docs freqs : List (Vec ℕ Global)) → AreAligned docs freqs → length freqs ≡ length docs
aligned-length [] [] aligned = refl
aligned-length [] (g ∷ freqs) aligned = absurd aligned
aligned-length (e ∷ docs) [] aligned = absurd aligned
aligned-length (e ∷ docs) (g ∷ freqs) aligned = let l = aligned-length docs freqs aligned.1 in omega arith

pub held-length : (docs freqs : List (Vec ℕ Global)) → AreAligned docs freqs → length (lists_held docs freqs) ≡ length docs
held-length [] [] aligned = refl
held-length [] (g ∷ freqs) aligned = absurd aligned
held-length (e ∷ docs) [] aligned = absurd aligned
held-length (e ∷ docs) (g ∷ freqs) aligned = let l = held-length docs freqs aligned.1 in omega arith

-- the list at a place, and that its documents are as many as its frequencies
pub held-at : (docs freqs : List (Vec ℕ Global)) (t : ℕ) (d f : Vec ℕ Global) → AreAligned docs freqs → t < length docs → get_or (lists_held docs freqs) t [] ≡ postings_of (get_or docs t d).items (get_or freqs t f).items
held-at [] freqs t d f aligned within = absurd (omega arith)
held-at (e ∷ docs) [] t d f aligned within = absurd aligned
held-at (e ∷ docs) (g ∷ freqs) zero d f aligned within = refl
held-at (e ∷ docs) (g ∷ freqs) (suc t) d f aligned within = held-at docs freqs t d f aligned.1 (omega arith)

pub aligned-at : (docs freqs : List (Vec ℕ Global)) (t : ℕ) (d f : Vec ℕ Global) → AreAligned docs freqs → t < length docs → length (get_or docs t d).items ≡ length (get_or freqs t f).items
aligned-at [] freqs t d f aligned within = absurd (omega arith)
aligned-at (e ∷ docs) [] t d f aligned within = absurd aligned
aligned-at (e ∷ docs) (g ∷ freqs) zero d f aligned within = aligned.0
aligned-at (e ∷ docs) (g ∷ freqs) (suc t) d f aligned within = aligned-at docs freqs t d f aligned.1 (omega arith)

-- the bytes of the vectors are those of the lists
pub docs-bytes_held : (docs freqs : List (Vec ℕ Global)) → AreAligned docs freqs → vectors_bytes docs ≡ docs_bytes (lists_held docs freqs)
docs-bytes_held [] [] aligned = refl
docs-bytes_held [] (g ∷ freqs) aligned = absurd aligned
docs-bytes_held (e ∷ docs) [] aligned = absurd aligned
docs-bytes_held (e ∷ docs) (g ∷ freqs) aligned =
    let first : number_sequence e.items ≡ number_sequence (docs_of (postings_of e.items g.items)) = ap number_sequence (sym (docs-of_postings e.items g.items aligned.0)) in
    let rest : vectors_bytes docs ≡ docs_bytes (lists_held docs freqs) = docs-bytes_held docs freqs aligned.1 in
    λ i. first i ++ rest i

pub freqs-bytes_held : (docs freqs : List (Vec ℕ Global)) → AreAligned docs freqs → vectors_bytes freqs ≡ freqs_bytes (lists_held docs freqs)
freqs-bytes_held [] [] aligned = refl
freqs-bytes_held [] (g ∷ freqs) aligned = absurd aligned
freqs-bytes_held (e ∷ docs) [] aligned = absurd aligned
freqs-bytes_held (e ∷ docs) (g ∷ freqs) aligned =
    let first : number_sequence g.items ≡ number_sequence (freqs_of (postings_of e.items g.items)) = ap number_sequence (sym (freqs-of_postings e.items g.items aligned.0)) in
    let rest : vectors_bytes freqs ≡ freqs_bytes (lists_held docs freqs) = freqs-bytes_held docs freqs aligned.1 in
    λ i. first i ++ rest i

-- the vectors of posting lists are short
pub short-docs : (format : FormatNumbers) (n : ℕ) (docs freqs : List (Vec ℕ Global)) → n < 2 ^ 32 → AreAligned docs freqs → All (IsPostingList format n) (lists_held docs freqs) → AreShort docs
short-docs format n [] [] small aligned lists = All-nil (λ (v : Vec ℕ Global). length v.items < 2 ^ 32)
short-docs format n [] (g ∷ freqs) small aligned lists = absurd aligned
short-docs format n (e ∷ docs) [] small aligned lists = absurd aligned
short-docs format n (e ∷ docs) (g ∷ freqs) small aligned lists =
    let fits = list-fits format n (postings_of e.items g.items) small (All-head (IsPostingList format n) (postings_of e.items g.items) (lists_held docs freqs) lists) in
    let count = fits.docs_count in
    let same = ap length (docs-of_postings e.items g.items aligned.0) in
    All-cons (λ (v : Vec ℕ Global). length v.items < 2 ^ 32) e docs (omega arith) (short-docs format n docs freqs small aligned.1 (All-tail (IsPostingList format n) (postings_of e.items g.items) (lists_held docs freqs) lists))

pub short-freqs : (docs freqs : List (Vec ℕ Global)) → AreAligned docs freqs → AreShort docs → AreShort freqs
short-freqs [] [] aligned short = short
short-freqs [] (g ∷ freqs) aligned short = absurd aligned
short-freqs (e ∷ docs) [] aligned short = absurd aligned
short-freqs (e ∷ docs) (g ∷ freqs) aligned short =
    let first : length e.items < 2 ^ 32 = All-head (λ (v : Vec ℕ Global). length v.items < 2 ^ 32) e docs short in
    let same = aligned.0 in
    All-cons (λ (v : Vec ℕ Global). length v.items < 2 ^ 32) g freqs (omega arith) (short-freqs docs freqs aligned.1 (All-tail (λ (v : Vec ℕ Global). length v.items < 2 ^ 32) e docs short))

-- the list of the vectors at a place
pub turn-list : (docs freqs : List (Vec ℕ Global)) (k : ℕ) (d f : Vec ℕ Global) (ds fs : List ℕ) → AreAligned docs freqs → k < length docs → d ≡ get_or docs k d → f ≡ get_or freqs k f → ds ≡ d.items → fs ≡ f.items
    → (get_or (lists_held docs freqs) k [] ≡ postings_of ds fs) × (length ds ≡ length fs)
turn-list docs freqs k d f ds fs aligned within is_d is_f are_ds are_fs =
    let a : ds ≡ (get_or docs k d).items = are_ds ∙ ap (λ (v : Vec ℕ Global). v.items) is_d in
    let b : fs ≡ (get_or freqs k f).items = are_fs ∙ ap (λ (v : Vec ℕ Global). v.items) is_f in (
      held-at docs freqs k d f aligned within ∙ (λ i. postings_of (sym a i) (sym b i)),
      ap length a ∙ aligned-at docs freqs k d f aligned within ∙ ap length (sym b),
    )

-- another list at a place
pub held-set : (docs freqs : List (Vec ℕ Global)) (t : ℕ) (d f : Vec ℕ Global)
    → AreAligned docs freqs → t < length docs
    → lists_held (set docs t d) (set freqs t f)
    ≡ set (lists_held docs freqs) t (postings_of d.items f.items)
held-set [] freqs t d f aligned within = absurd (omega arith)
held-set (e ∷ docs) [] t d f aligned within = absurd aligned
held-set (e ∷ docs) (g ∷ freqs) zero d f aligned within = refl
held-set (e ∷ docs) (g ∷ freqs) (suc t) d f aligned within =
    ap (λ (l : List (List Posting)). postings_of e.items g.items ∷ l)
    (held-set docs freqs t d f aligned.1 (omega arith))

pub aligned-set : (docs freqs : List (Vec ℕ Global)) (t : ℕ) (d f : Vec ℕ Global)
    → AreAligned docs freqs → t < length docs → length d.items ≡ length f.items
    → AreAligned (set docs t d) (set freqs t f)
aligned-set [] freqs t d f aligned within same = absurd (omega arith)
aligned-set (e ∷ docs) [] t d f aligned within same = absurd aligned
aligned-set (e ∷ docs) (g ∷ freqs) zero d f aligned within same = (same, aligned.1)
aligned-set (e ∷ docs) (g ∷ freqs) (suc t) d f aligned within same =
    (aligned.0, aligned-set docs freqs t d f aligned.1 (omega arith) same)

-- Lists of which those before a place have their images there, and the others are as they were.
pub record AreMoved (ids : List ℕ) (old new : List (List Posting)) (t : ℕ) : Type 0 where
  pub done : (j : ℕ) → j < t → IsImageList ids (get_or old j []) (get_or new j [])
  pub rest : (j : ℕ) → t ≤ j → get_or new j [] ≡ get_or old j []

-- the image of one more list is put in its place
pub moved-more : (ids : List ℕ) (old now new : List (List Posting)) (t : ℕ)
    (list image : List Posting) → AreMoved ids old now t → t < length now
    → get_or now t [] ≡ list → IsImageList ids list image → new ≡ set now t image
    → AreMoved ids old new (t + 1)
moved-more ids old now new t list image moved within is one put =
    let at : (j : ℕ) → get_or new j [] ≡ get_or (set now t image) j [] =
    λ j. ap (λ (l : List (List Posting)). get_or l j []) put in
    let others : (j : ℕ) → j ≢ t → get_or new j [] ≡ get_or now j [] =
    λ j other. at j ∙ get_or-set_other now t j image [] other in
    record {
      done = λ j lt. elim (cases_lt j t) as (λ _. IsImageList ids (get_or old j []) (get_or new j [])) [
        | inl less ↦ subst (λ (l : List Posting). IsImageList ids (get_or old j []) l)
            (sym (others j (λ e. omega (arith, e)))) (moved.done j less)
        | inr past ↦
            (let e : t ≡ j = omega arith in
            let from : list ≡ get_or old t [] = sym is ∙ moved.rest t (omega arith) in
            let to : image ≡ get_or new t [] = sym (at t ∙ get_or-set_same now t image [] within) in
            subst (λ (k : ℕ). IsImageList ids (get_or old k []) (get_or new k [])) e
            (subst (λ (l : List Posting). IsImageList ids l (get_or new t [])) from
            (subst (λ (l : List Posting). IsImageList ids list l) to one)))
      ];
      rest = λ j le. others j (λ e. omega (arith, e)) ∙ moved.rest j (omega arith);
    }

-- ---- the same vectors once more

-- the lists of the numbers that vectors hold, and whether they are aligned
abbrev lists-of : List (List ℕ) → List (List ℕ) → List (List Posting)
lists-of [] freqs = []
lists-of (d ∷ docs) [] = []
lists-of (d ∷ docs) (f ∷ freqs) = postings_of d f ∷ lists-of docs freqs

abbrev aligned-of : List (List ℕ) → List (List ℕ) → Type 0
aligned-of [] [] = Unit {0}
aligned-of [] (f ∷ freqs) = ⊥
aligned-of (d ∷ docs) [] = ⊥
aligned-of (d ∷ docs) (f ∷ freqs) = (length d ≡ length f) × aligned-of docs freqs

abbrev numbers-of : List (Vec ℕ Global) → List (List ℕ)
numbers-of vectors = map (λ (v : Vec ℕ Global). v.items) vectors

held-numbers : (docs freqs : List (Vec ℕ Global))
    → lists_held docs freqs ≡ lists-of (numbers-of docs) (numbers-of freqs)
held-numbers [] freqs = refl
held-numbers (d ∷ docs) [] = refl
held-numbers (d ∷ docs) (f ∷ freqs) =
    ap (λ (l : List (List Posting)). postings_of d.items f.items ∷ l) (held-numbers docs freqs)

aligned-numbers : (docs freqs : List (Vec ℕ Global))
    → AreAligned docs freqs ≡ aligned-of (numbers-of docs) (numbers-of freqs)
aligned-numbers [] [] = refl
aligned-numbers [] (f ∷ freqs) = refl
aligned-numbers (d ∷ docs) [] = refl
aligned-numbers (d ∷ docs) (f ∷ freqs) =
    λ i. (length d.items ≡ length f.items) × aligned-numbers docs freqs i

pub held-copied : (docs freqs docs' freqs' : List (Vec ℕ Global)) → AreSame docs' docs
    → AreSame freqs' freqs → lists_held docs' freqs' ≡ lists_held docs freqs
held-copied docs freqs docs' freqs' same_docs same_freqs =
    held-numbers docs' freqs' ∙ (λ i. lists-of (same_docs i) (same_freqs i))
    ∙ sym (held-numbers docs freqs)

pub aligned-copied : (docs freqs docs' freqs' : List (Vec ℕ Global)) → AreSame docs' docs
    → AreSame freqs' freqs → AreAligned docs freqs → AreAligned docs' freqs'
aligned-copied docs freqs docs' freqs' same_docs same_freqs aligned =
    let same : AreAligned docs freqs ≡ AreAligned docs' freqs' =
    aligned-numbers docs freqs ∙ sym (λ i. aligned-of (same_docs i) (same_freqs i))
    ∙ sym (aligned-numbers docs' freqs') in
    subst (λ (T : Type 0). T) same aligned

-- one more vector
pub copied-more : (vectors copies copies' : List (Vec ℕ Global)) (k next : ℕ)
    (v d : Vec ℕ Global) → k < length vectors → next ≡ k + 1 → copies' ≡ copies ++ v ∷ []
    → v.items ≡ (get_or vectors k d).items → AreSame copies (take k vectors)
    → AreSame copies' (take next vectors)
copied-more vectors copies copies' k next v d within on push is same =
    ap numbers-of push ∙ map-append (λ (v : Vec ℕ Global). v.items) copies (v ∷ [])
    ∙ (λ i. same i ++ is i ∷ [])
    ∙ sym (map-append (λ (v : Vec ℕ Global). v.items) (take k vectors) (get_or vectors k d ∷ []))
    ∙ ap numbers-of (sym (take_more vectors k d within))
    ∙ ap (λ (n : ℕ). numbers-of (take n vectors)) (sym on)

pub copied-all : (vectors copies : List (Vec ℕ Global)) (k : ℕ) → length vectors ≤ k
    → AreSame copies (take k vectors) → AreSame copies vectors
copied-all vectors copies k past same = same ∙ ap numbers-of (take_all k vectors past)
