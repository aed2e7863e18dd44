-- Lemmas on images of lists.
use Rattle.std.proofs.Common.{◌≡◌, refl, sym, ap, ◌∙◌, subst, ℕ, suc, ◌<◌, ◌≤◌, ◌^◌, List, [], ◌∷◌, map, length, get_or, arith}
use Rattle.std.specs.Prelude.{AllPairs}
use Rattle.std.specs.List.{All, sum, sum_by}
use Rattle.std.specs.List.Sorted.{IsPermutation, IsStrictlyIncreasing}
use Rattle.std.proofs.lemmas.List.{length-map, get_or-map}
use Rattle.std.proofs.lemmas.List.Elements.{All-map, All-from_get_or}
use Rattle.std.proofs.lemmas.List.Kept.{AllPairs-from_increasing}
use Rattle.std.proofs.lemmas.List.Sums.{sum_by-cons}
use Rattle.std.proofs.lemmas.List.Sorted.{All-permutation, Contains-permutation, IsPermutation-sym, IsPermutation-map, sum_by-IsPermutation}
use Rattle.collection_model.specs.FormatNumbers.{FormatNumbers}
use Rattle.collection_model.specs.Collection.{Posting, Collection, IsPostingList, docs_of, freqs_of, list_of}
use Rattle.remap.specs.NewIds.{AreNewIds, new_id, Undoes}
use Rattle.remap.specs.Image.{renamed, IsImage, IsImageList}
use Rattle.remap.specs.Laws.{Orders, ImageIsWellFormed, OneImage, UndoneImage}
use Rattle.remap.proofs.Members.{one-by_key}
use Rattle.remap.proofs.Arranged.{new-id_below, has-document}

-- ---- one list
-- what holds of the postings holds of their documents
docs-all : (P : ℕ → Type 0) (list : List Posting) → All (λ p. P p.doc) list → All P (docs_of list)
docs-all P list all = All-map P (λ (p : Posting). p.doc) list all

freqs-all : (P : ℕ → Type 0) (list : List Posting) → All (λ p. P p.freq) list → All P (freqs_of list)
freqs-all P list all = All-map P (λ (p : Posting). p.freq) list all

all-docs : (P : ℕ → Type 0) (list : List Posting) → All P (docs_of list) → All (λ p. P p.doc) list
all-docs P list all k d within = let l = length-map list (λ (p : Posting). p.doc) in subst P (get_or-map (λ (p : Posting). p.doc) list k d 0 within) (all k 0 (omega arith))

all-freqs : (P : ℕ → Type 0) (list : List Posting) → All P (freqs_of list) → All (λ p. P p.freq) list
all-freqs P list all k d within = let l = length-map list (λ (p : Posting). p.freq) in subst P (get_or-map (λ (p : Posting). p.freq) list k d 0 within) (all k 0 (omega arith))

sum-of_map : {X : Type 0} (f : X → ℕ) (xs : List X) → sum (map f xs) ≡ sum_by f xs
sum-of_map f [] = refl
sum-of_map f (x ∷ xs) = let a = sum_by-cons (λ (n : ℕ). n) (f x) (map f xs) in let b = sum_by-cons f x xs in let more = sum-of_map f xs in omega arith

sum-renamed : (ids : List ℕ) (list : List Posting) → sum_by (λ p. p.freq) (map (renamed ids) list) ≡ sum_by (λ p. p.freq) list
sum-renamed ids [] = refl
sum-renamed ids (p ∷ list) = let a = sum_by-cons (λ (p : Posting). p.freq) (renamed ids p) (map (renamed ids) list) in let b = sum_by-cons (λ (p : Posting). p.freq) p list in let more = sum-renamed ids list in omega arith

pub image-list_good : (format : FormatNumbers) (ids : List ℕ) (list image : List Posting) → AreNewIds ids → IsPostingList format (length ids) list → IsImageList ids list image → IsPostingList format (length ids) image
image-list_good format ids list image are good is =
    let moved = is.postings in
    let named = map (renamed ids) list in
    let same_sum = sum_by-IsPermutation (λ (p : Posting). p.freq) named image moved in
    let before = sum-renamed ids list in
    let a = sum-of_map (λ (p : Posting). p.freq) image in
    let b = sum-of_map (λ (p : Posting). p.freq) list in
    let within = good.sum_within in
    let below : All (λ (p : Posting). p.doc < length ids) list = all-docs (λ d. d < length ids) list good.in_range in
    record {
      rising = is.rising;
      in_range = docs-all (λ d. d < length ids) image (All-permutation (λ (p : Posting). p.doc < length ids) named image moved
          (All-map (λ (p : Posting). p.doc < length ids) (renamed ids) list (λ k d inside. new-id_below ids (get_or list k d).doc are (below k d inside))));
      not_zero = freqs-all (λ f. 1 ≤ f) image (All-permutation (λ (p : Posting). 1 ≤ p.freq) named image moved (All-map (λ (p : Posting). 1 ≤ p.freq) (renamed ids) list (all-freqs (λ f. 1 ≤ f) list good.not_zero)));
      fit = freqs-all (λ f. f < 2 ^ 32) image (All-permutation (λ (p : Posting). p.freq < 2 ^ 32) named image moved (All-map (λ (p : Posting). p.freq < 2 ^ 32) (renamed ids) list (all-freqs (λ f. f < 2 ^ 32) list good.fit)));
      sum_within = omega arith;
    }

-- the documents of a list rise as its postings do
by-doc : (list : List Posting) → IsStrictlyIncreasing (docs_of list) → AllPairs (λ a b. a.doc < b.doc) list
by-doc list rising i j d lt within =
    let l = length-map list (λ (p : Posting). p.doc) in
    let a = get_or-map (λ (p : Posting). p.doc) list i d 0 (omega arith) in
    let b = get_or-map (λ (p : Posting). p.doc) list j d 0 within in
    let h = AllPairs-from_increasing (docs_of list) rising i j 0 lt (omega arith) in
    omega arith

pub one-image_list : (ids : List ℕ) (list a b : List Posting) → IsImageList ids list a → IsImageList ids list b → a ≡ b
one-image_list ids list a b is other =
    let named = map (renamed ids) list in
    one-by_key (λ (p : Posting). p.doc) a b (by-doc a is.rising) (by-doc b other.rising)
    (λ x c. Contains-permutation named b x other.postings (Contains-permutation a named x (IsPermutation-sym named a is.postings) c))
    (λ x c. Contains-permutation named a x is.postings (Contains-permutation b named x (IsPermutation-sym named b other.postings) c))

-- ---- a list and what undoes its renaming
same-posting : (a b : Posting) → a.doc ≡ b.doc → a.freq ≡ b.freq → a ≡ b
same-posting a b p q = λ i. record { doc = p i; freq = q i }

undone-named : (ids back : List ℕ) (list : List Posting) → Undoes ids back → All (λ p. p.doc < length ids) list → map (renamed back) (map (renamed ids) list) ≡ list
undone-named ids back [] undoes below = refl
undone-named ids back (p ∷ list) undoes below =
    let first : renamed back (renamed ids p) ≡ p = same-posting (renamed back (renamed ids p)) p (undoes.back_again p.doc (below 0 p (omega arith))) refl in
    let rest = undone-named ids back list undoes (λ k d within. below (suc k) d (omega arith)) in
    λ i. first i ∷ rest i

pub undone-list : (ids back : List ℕ) (list image : List Posting) → Undoes ids back → All (λ d. d < length ids) (docs_of list) → IsStrictlyIncreasing (docs_of list) → IsImageList ids list image → IsImageList back image list
undone-list ids back list image undoes below rising is =
    let named = map (renamed ids) list in
    let again : IsPermutation (map (renamed back) image) (map (renamed back) named) = IsPermutation-map (renamed back) image named (IsPermutation-sym named image is.postings) in
    record {
      postings = subst (λ (l : List Posting). IsPermutation (map (renamed back) image) l) (undone-named ids back list undoes (all-docs (λ d. d < length ids) list below)) again;
      rising = rising;
    }

-- ---- collections
-- lists that are the same one by one
same-lists : (xs ys : List (List Posting)) → length xs ≡ length ys → ((t : ℕ) → t < length xs → get_or xs t [] ≡ get_or ys t []) → xs ≡ ys
same-lists [] [] count each = refl
same-lists [] (y ∷ ys) count each = absurd (omega arith)
same-lists (x ∷ xs) [] count each = absurd (omega arith)
same-lists (x ∷ xs) (y ∷ ys) count each =
    let first : x ≡ y = each 0 (omega arith) in
    let rest : xs ≡ ys = same-lists xs ys (omega arith) (λ t within. each (suc t) (omega arith)) in
    λ i. first i ∷ rest i

same-numbers : (xs ys : List ℕ) → length xs ≡ length ys → ((k : ℕ) → k < length xs → get_or xs k 0 ≡ get_or ys k 0) → xs ≡ ys
same-numbers [] [] count each = refl
same-numbers [] (y ∷ ys) count each = absurd (omega arith)
same-numbers (x ∷ xs) [] count each = absurd (omega arith)
same-numbers (x ∷ xs) (y ∷ ys) count each =
    let first : x ≡ y = each 0 (omega arith) in
    let rest : xs ≡ ys = same-numbers xs ys (omega arith) (λ t within. each (suc t) (omega arith)) in
    λ i. first i ∷ rest i

same-collection : (a b : Collection) → a.documents ≡ b.documents → a.lists ≡ b.lists → a.sizes ≡ b.sizes → a ≡ b
same-collection a b p q r = λ i. record { documents = p i; lists = q i; sizes = r i }

-- a list of the collection over the ids
list-good : (format : FormatNumbers) (ids : List ℕ) (c : Collection) → Orders format ids c → (t : ℕ) → t < length c.lists → IsPostingList format (length ids) (list_of c t)
list-good format ids c orders t within = subst (λ (n : ℕ). IsPostingList format n (list_of c t)) (sym orders.each) (orders.well_formed.lists t [] within)

-- the document whose size an image has at a place
record SizeOf (ids : List ℕ) (c image : Collection) (k : ℕ) : Type 0 where
  doc : ℕ
  old : doc < length ids
  within : doc < length c.sizes
  new : new_id ids doc ≡ k
  size_is : get_or image.sizes k 0 ≡ get_or c.sizes doc 0

size-of : (format : FormatNumbers) (ids : List ℕ) (c image : Collection) (k : ℕ) → Orders format ids c → IsImage ids c image → k < length image.sizes → SizeOf ids c image k
size-of format ids c image k orders is within =
    let of = has-document ids k orders.new_ids (omega (arith, within, is.size_each, orders.well_formed.size_each, orders.each)) in
    let inside : of.0 < length c.sizes = omega (arith, of.1, orders.well_formed.size_each, orders.each) in
    record { doc = of.0; old = of.1; within = inside; new = of.2; size_is = ap (λ (k : ℕ). get_or image.sizes k 0) (sym of.2) ∙ is.sizes of.0 inside }

pub image-well_formed : ImageIsWellFormed
image-well_formed format ids c image orders is = record {
  documents = omega (arith, is.documents, orders.well_formed.documents);
  terms = omega (arith, is.terms, orders.well_formed.terms);
  lists = All-from_get_or (IsPostingList format image.documents) image.lists [] (λ t within.
      let inside : t < length c.lists = omega (arith, within, is.terms) in
      subst (λ (n : ℕ). IsPostingList format n (list_of image t)) (orders.each ∙ sym is.documents) (image-list_good format ids (list_of c t) (list_of image t) orders.new_ids (list-good format ids c orders t inside) (is.lists t inside)));
  size_each = is.size_each ∙ orders.well_formed.size_each ∙ sym is.documents;
  sizes = All-from_get_or (λ s. s < 2 ^ 32) image.sizes 0 (λ k within.
      let of = size-of format ids c image k orders is within in
      let small = orders.well_formed.sizes of.doc 0 of.within in
      let same = of.size_is in
      omega arith);
}

pub one-image : OneImage
one-image format ids c a b orders is other =
    same-collection a b (is.documents ∙ sym other.documents)
    (same-lists a.lists b.lists (is.terms ∙ sym other.terms) (λ t within. (let inside : t < length c.lists = omega (arith, within, is.terms) in one-image_list ids (list_of c t) (list_of a t) (list_of b t) (is.lists t inside) (other.lists t inside))))
    (same-numbers a.sizes b.sizes (is.size_each ∙ sym other.size_each) (λ k within.
    let of = size-of format ids c a k orders is within in
    of.size_is ∙ sym (other.sizes of.doc of.within) ∙ ap (λ (k : ℕ). get_or b.sizes k 0) of.new))

pub undone-image : UndoneImage
undone-image format ids back c image orders undoes is = record {
  documents = sym is.documents;
  terms = sym is.terms;
  lists = λ t within.
      let inside : t < length c.lists = omega (arith, within, is.terms) in
      let good = list-good format ids c orders t inside in
      undone-list ids back (list_of c t) (list_of image t) undoes good.in_range good.rising (is.lists t inside);
  size_each = sym is.size_each;
  sizes = λ k within.
      let of = size-of format ids c image k orders is within in
      ap (λ (k : ℕ). get_or c.sizes k 0) (ap (new_id back) (sym of.new) ∙ undoes.back_again of.doc of.old) ∙ sym of.size_is;
}
