-- Lists without postings, of which some are added at once.
use Rattle.std.proofs.Common.{◌≡◌, ℕ, zero, suc, ◌+◌, ◌*◌, ◌/◌, ◌^◌, ◌<◌, ◌≤◌, true, List, [], ◌∷◌, ◌++◌, length, drop, replicate, inl, inr, refl, sym, ap, ◌∙◌, subst, arith, length-append, append_assoc, append-nil}
use Rattle.std.proofs.lemmas.Bool.{eqb-true}
use Rattle.std.specs.Prelude.{◌⊎◌, ◌==◌}
use Rattle.std.specs.List.{range_with_len}
use Rattle.std.proofs.lemmas.List.Elements.{All-nil}
use Rattle.std.proofs.lemmas.List.FromFn.{length-range_with_len}
use Rattle.collection_model.specs.FormatNumbers.{FormatNumbers, Plain, format_three, most_terms}
use Rattle.collection_model.specs.Collection.{IsPostingList}
use Rattle.part_cost.specs.declared.formats.Format.{Format}
use Rattle.part_cost.specs.declared.formats.Format.TheVariants.{One, Two, Three}
use Rattle.part_cost.specs.Formats.{numbers_of}
use Rattle.part_cost.specs.StoredBits.{IsNearStored}
use Rattle.part_cost.proofs.Forms.{kind-ones}
use Rattle.part_codec.specs.PartBits.{bits_of_kind, part_bits}
use Rattle.index_file.specs.CutLists.{CutList}
use Rattle.index_file.specs.PackedWords.{bits_of_list}
use Rattle.index_file.specs.Builder.{Built, StandsFor, IsNearCut, AddsEmptyLists, with_list, with_plain_list, with_empty_lists, with_empty_plain_lists, no_list, repeated, cut_list, IsKept, IsPackedKept, packed_built, entered_of, HasEmptyTail, built_of, IsBuilder}
use Rattle.index_file.specs.PlainWords.{list_entry}
use Rattle.index_file.proofs.Added.{keeps-more}
use Rattle.index_file.proofs.AddedBoth.{stands-more, plain-takes, packed-takes}

-- the empty list may stand in any index
pub good-none : (f : FormatNumbers) (n : ℕ) → IsPostingList f n []
good-none f n = record {
  rising = λ k lt. absurd (omega (arith, lt));
  in_range = All-nil (λ d. d < n);
  not_zero = All-nil (λ f. 1 ≤ f);
  fit = All-nil (λ f. f < 2 ^ 32);
  sum_within = omega arith;
}

near-stored-none : (v : Format) → IsNearStored (numbers_of v) [] []
near-stored-none One = record { stands = record { partition = refl; within = tt }; near = λ others h. omega arith; of_all = λ others h. omega arith }
near-stored-none Two = record { stands = record { partition = refl; within = tt }; near = λ others h. omega arith; of_all = λ others h. omega arith }
near-stored-none Three = record { stands = inl (record { partition = refl; within = tt }); near = λ others h. omega arith; of_all = λ others h. omega arith }

pub near-none : (v : Format) → IsNearCut (numbers_of v) no_list
near-none v = record { docs = near-stored-none v; freqs = near-stored-none v }

-- what stands for some lists stands for more, once some without postings are added
pub empty-same : (b : Built) (n : ℕ) → (◌≡◌ {A = Format} (with_empty_lists b n).format b.format) × ((with_empty_lists b n).documents ≡ b.documents)
empty-same b zero = (refl, refl)
empty-same b (suc n) = empty-same b n

replicate-more : (n : ℕ) → replicate n no_list ++ no_list ∷ [] ≡ replicate (suc n) no_list
replicate-more zero = refl
replicate-more (suc n) = ap (λ cs. no_list ∷ cs) (replicate-more n)

pub empty-stand : (b : Built) (n : ℕ) (cs : List CutList) → StandsFor b cs → StandsFor (with_empty_lists b n) (cs ++ replicate n no_list)
empty-stand b zero cs h = subst (StandsFor b) (sym (append-nil cs)) h
empty-stand b (suc n) cs h =
    let x : Built = with_empty_lists b n in
    subst (StandsFor (with_list x no_list)) (append_assoc cs (replicate n no_list) (no_list ∷ []) ∙ ap (λ ds. cs ++ ds) (replicate-more n))
    (stands-more x (cs ++ replicate n no_list) no_list (empty-stand b n cs h) (good-none (numbers_of x.format) x.documents) (near-none x.format))

pub adds-empty : (old new : Built) (n : ℕ) → new ≡ with_empty_lists old n → AddsEmptyLists old new n
adds-empty old new n is = subst (λ b. AddsEmptyLists old b n) (sym is) ((empty-same old n).0, (empty-same old n).1, empty-stand old n)

-- some are added behind others
pub empty-again : (b : Built) (n m : ℕ) → with_empty_lists (with_empty_lists b n) m ≡ with_empty_lists b (n + m)
empty-again b n zero = ap (with_empty_lists b) (let e : n ≡ n + 0 = omega arith in e)
empty-again b n (suc m) = ap (λ x. with_list x no_list) (empty-again b n m) ∙ ap (with_empty_lists b) (let e : suc (n + m) ≡ n + suc m = omega arith in e)

-- ---- in a packed file

one-entered : (f : Format) (n : ℕ) (words directory : List ℕ) (c : CutList) → f ≡ Three → length (entered_of (numbers_of f).kind (numbers_of f) n words directory c) ≡ length directory + 1
one-entered One n words directory c is = cc
one-entered Two n words directory c is = cc
one-entered Three n words directory c is = length-append directory ((length words + length (bits_of_list n (length words) c) + length directory) ∷ [])

pub count-one : (b : Built) (c : CutList) → b.format ≡ Three → length (with_list b c).directory ≡ length b.directory + 1
count-one b c is = one-entered b.format b.documents b.words b.directory c is

pub count-empty : (b : Built) (n : ℕ) → b.format ≡ Three → length (with_empty_lists b n).directory ≡ length b.directory + n
count-empty b zero is = omega arith
count-empty b (suc n) is = omega (arith, count-one (with_empty_lists b n) no_list ((empty-same b n).0 ∙ is), count-empty b n is)

-- what a list of no documents adds is what the list without postings adds
same-none : (f : Format) (n : ℕ) (words directory docs freqs doc_ends sum_ends : List ℕ) → f ≡ Three → length docs ≡ 0
    → ◌≡◌ {A = Built} (with_list (record { format = f; documents = n; words = words; directory = directory }) no_list)
    (with_list (record { format = f; documents = n; words = words; directory = directory }) (cut_list docs freqs doc_ends sum_ends))
same-none One n words directory docs freqs doc_ends sum_ends is none = cc
same-none Two n words directory docs freqs doc_ends sum_ends is none = cc
same-none Three n words directory [] freqs doc_ends sum_ends is none = refl
same-none Three n words directory (d ∷ docs) freqs doc_ends sum_ends is none = absurd (omega (arith, none))

pub none-added : (b : Built) (docs freqs doc_ends sum_ends : List ℕ) → b.format ≡ Three → length docs ≡ 0 → with_list b no_list ≡ with_list b (cut_list docs freqs doc_ends sum_ends)
none-added b docs freqs doc_ends sum_ends is none = same-none b.format b.documents b.words b.directory docs freqs doc_ends sum_ends is none

pub none-tested : (n : ℕ) → true ≡ (n == 0) → n ≡ 0
none-tested n e = eqb-true n 0 (sym e)

-- no list without postings follows one more list, or a refused one
pub tail-after : (b r : Built) (c : CutList) → b.format ≡ Three → length b.directory ≤ most_terms → (r ≡ with_list b c) ⊎ (r ≡ b) → HasEmptyTail r 0
tail-after b r c is room either = elim either [
  | inl more ↦ record { format = ap (λ x. x.format) more ∙ is; few = omega (arith, ap (λ x. length x.directory) more, count-one b c is, room) }
  | inr same ↦ record { format = ap (λ x. x.format) same ∙ is; few = omega (arith, ap (λ x. length x.directory) same, room) }
]

-- numbers that count on, and one more
pub range-last : (a n j : ℕ) → a + n ≡ j → range_with_len a (suc n) ≡ range_with_len a n ++ j ∷ []
range-last a zero j e = let same : a ≡ j = omega (arith, e) in ap (λ k. k ∷ []) same
range-last a (suc n) j e = ap (λ l. a ∷ l) (range-last (a + 1) n j (omega (arith, e)))

-- what a builder of a packed file keeps of lists and so many without postings behind them
pub record PackedEmpty (n : ℕ) (bits starts places : List ℕ) (k : ℕ) : Type 0 where
  pub kept : IsPackedKept n bits places
  pub is : ◌≡◌ {A = Built} (packed_built n bits places) (with_empty_lists (packed_built n bits starts) k)

packed-step : (n : ℕ) (bits starts : List ℕ) → IsPackedKept n bits starts → length starts ≤ most_terms → PackedEmpty n bits starts (starts ++ (length (drop 128 bits) + length starts) ∷ []) 1
packed-step n bits starts kept room =
    let b : Built = packed_built n bits starts in
    let next : ℕ = length (drop 128 bits) + length starts in
    let number : length (drop 128 bits) + length starts ≡ length (drop 128 bits) + 0 + length starts = omega arith in
    let is : packed_built n bits (starts ++ (length (drop 128 bits) + length starts) ∷ []) ≡ with_list (packed_built n bits starts) no_list =
    (λ t. record { format = Three; documents = n; words = sym (append-nil (drop 128 bits)) t; directory = starts ++ number t ∷ [] }) in
    record {
      kept = record {
        documents = kept.documents;
        opening = kept.opening;
        few = omega (arith, length-append starts (next ∷ []), room);
        small = kept.small;
        stands = (kept.stands.0 ++ no_list ∷ [], subst (λ x. StandsFor x (kept.stands.0 ++ no_list ∷ [])) (sym is) (stands-more b kept.stands.0 no_list kept.stands.1 (good-none format_three n) (near-none Three)));
      };
      is = is;
    }

pub packed-empty : (n : ℕ) (bits starts : List ℕ) (k : ℕ) → IsPackedKept n bits starts → length starts + k ≤ most_terms + 1 → PackedEmpty n bits starts (starts ++ range_with_len (length (drop 128 bits) + length starts) k) k
packed-empty n bits starts zero kept room =
    let e : starts ++ [] ≡ starts = append-nil starts in
    record { kept = subst (IsPackedKept n bits) (sym e) kept; is = ap (packed_built n bits) e }
packed-empty n bits starts (suc k) kept room =
    let from : ℕ = length (drop 128 bits) + length starts in
    let before : List ℕ = starts ++ range_with_len from k in
    let h = packed-empty n bits starts k kept (omega (arith, room)) in
    let count : length before ≡ length starts + k = omega (arith, length-append starts (range_with_len from k), length-range_with_len from k) in
    let step = packed-step n bits before h.kept (omega (arith, count, room)) in
    let place : from + k ≡ length (drop 128 bits) + length before = omega (arith, count) in
    let e : starts ++ range_with_len from (suc k) ≡ before ++ (length (drop 128 bits) + length before) ∷ [] =
    ap (λ l. starts ++ l) (range-last from k (length (drop 128 bits) + length before) place) ∙ sym (append_assoc starts (range_with_len from k) ((length (drop 128 bits) + length before) ∷ [])) in
    record {
      kept = subst (IsPackedKept n bits) (sym e) step.kept;
      is = ap (packed_built n bits) e ∙ step.is ∙ ap (λ x. with_list x no_list) h.is;
    }

-- lists without bits
pub nothing : (xs : List ℕ) → length xs ≡ 0 → xs ≡ []
nothing [] e = refl
nothing (x ∷ xs) e = absurd (omega (arith, e))

-- the directory of lists without bits has no bits
pub no-directory : (places : List ℕ) (u : ℕ) → length places ≡ u → part_bits places u ≡ []
no-directory places u e = ap (λ k. bits_of_kind k places u) (kind-ones u (length places) e)

-- ---- in a plain file

-- the directory words of the list without postings
abbrev pub empty_entry : ℕ → List ℕ
empty_entry p = p ∷ p ∷ 0 ∷ 0 ∷ []

entry-none : (f : FormatNumbers) (p : ℕ) → list_entry f p no_list ≡ empty_entry p
entry-none f p = let e : p + 0 ≡ p = omega arith in (λ t. p ∷ e t ∷ 0 ∷ 0 ∷ [])

length-repeated : (k p : ℕ) → length (repeated k (empty_entry p)) ≡ 4 * k
length-repeated zero p = refl
length-repeated (suc k) p = omega (arith, length-append (repeated k (empty_entry p)) (empty_entry p), length-repeated k p)

-- what a builder of a plain file keeps of lists and so many without postings behind them
pub record PlainEmpty (format : Format) (n : ℕ) (words directory entries : List ℕ) (k : ℕ) : Type 0 where
  pub kept : IsKept format n words entries
  pub is : ◌≡◌ {A = Built} (record { format = format; documents = n; words = drop 2 words; directory = entries })
      (with_empty_plain_lists (record { format = format; documents = n; words = drop 2 words; directory = directory }) k)

pub plain-empty : (format : Format) (n : ℕ) (words directory : List ℕ) (k : ℕ) → IsKept format n words directory → length directory / 4 + k ≤ most_terms
    → PlainEmpty format n words directory (directory ++ repeated k (empty_entry (length words))) k
plain-empty format n words directory zero kept room =
    let e : directory ++ [] ≡ directory = append-nil directory in
    record { kept = subst (IsKept format n words) (sym e) kept; is = (λ t. record { format = format; documents = n; words = drop 2 words; directory = e t }) }
plain-empty format n words directory (suc k) kept room =
    let entry : List ℕ = empty_entry (length words) in
    let before : List ℕ = directory ++ repeated k entry in
    let h = plain-empty format n words directory k kept (omega (arith, room)) in
    let count : length before ≡ length directory + 4 * k = omega (arith, length-append directory (repeated k entry), length-repeated k (length words)) in
    let e : directory ++ repeated (suc k) (empty_entry (length words)) ≡ before ++ list_entry (numbers_of format) (length words) no_list =
    sym (append_assoc directory (repeated k entry) entry) ∙ ap (λ l. before ++ l) (sym (entry-none (numbers_of format) (length words))) in
    let step = keeps-more format n words before words (before ++ list_entry (numbers_of format) (length words) no_list) no_list h.kept (good-none (numbers_of format) n) (near-none format) (omega (arith, count, room))
    (sym (append-nil (words ++ []) ∙ append-nil words)) refl in
    record {
      kept = subst (IsKept format n words) (sym e) step.kept;
      is = (λ t. record { format = format; documents = n; words = drop 2 words; directory = e t }) ∙ step.is ∙ ap (λ x. with_plain_list x no_list) h.is;
    }

-- ---- in a builder over both kinds

pub plain-same : (b : Built) (n : ℕ) → (◌≡◌ {A = Format} (with_empty_plain_lists b n).format b.format) × ((with_empty_plain_lists b n).documents ≡ b.documents)
plain-same b zero = (refl, refl)
plain-same b (suc n) = plain-same b n

pub plain-takes-empty : (f : Format) → (numbers_of f).kind ≡ Plain → (p q : Built) (n : ℕ) → p.format ≡ f → built_of f (with_empty_plain_lists p n) q ≡ with_empty_lists (built_of f p q) n
plain-takes-empty f kind p q zero is = refl
plain-takes-empty f kind p q (suc n) is =
    plain-takes f kind (with_empty_plain_lists p n) q (with_empty_plain_lists p (suc n)) no_list ((plain-same p n).0 ∙ is) refl ∙ ap (λ b. with_list b no_list) (plain-takes-empty f kind p q n is)

pub packed-takes-empty : (p q : Built) (n : ℕ) → q.format ≡ Three → q.documents ≡ p.documents → built_of Three p (with_empty_lists q n) ≡ with_empty_lists (built_of Three p q) n
packed-takes-empty p q zero is many = refl
packed-takes-empty p q (suc n) is many =
    packed-takes p (with_empty_lists q n) (with_empty_lists q (suc n)) no_list ((empty-same q n).0 ∙ is) ((empty-same q n).1 ∙ many) refl ∙ ap (λ b. with_list b no_list) (packed-takes-empty p q n is many)

pub plain-builder-empty : (f : Format) (p q r : Built) (n : ℕ) → (numbers_of f).kind ≡ Plain → IsBuilder f p q → (r ≡ with_empty_plain_lists p n) ⊎ (r ≡ p) → IsBuilder f r q
plain-builder-empty f p q r n kind h either = elim either [
  | inl more ↦ subst (λ x. IsBuilder f x q) (sym more) (record {
    documents = omega (arith, h.documents, (plain-same p n).1);
    plain_format = (plain-same p n).0 ∙ h.plain_format;
    packed_format = h.packed_format;
    same_documents = h.same_documents ∙ sym (plain-same p n).1;
    stands = (h.stands.0 ++ replicate n no_list, subst (λ b. StandsFor b (h.stands.0 ++ replicate n no_list)) (sym (plain-takes-empty f kind p q n h.plain_format)) (empty-stand (built_of f p q) n h.stands.0 h.stands.1));
  })
  | inr same ↦ subst (λ x. IsBuilder f x q) (sym same) h
]

pub packed-builder-empty : (p q r : Built) (n : ℕ) → IsBuilder Three p q → r ≡ with_empty_lists q n → IsBuilder Three p r
packed-builder-empty p q r n h more = subst (λ x. IsBuilder Three p x) (sym more) (record {
  documents = h.documents;
  plain_format = h.plain_format;
  packed_format = (empty-same q n).0 ∙ h.packed_format;
  same_documents = (empty-same q n).1 ∙ h.same_documents;
  stands = (h.stands.0 ++ replicate n no_list, subst (λ b. StandsFor b (h.stands.0 ++ replicate n no_list)) (sym (packed-takes-empty p q n h.packed_format h.same_documents)) (empty-stand (built_of Three p q) n h.stands.0 h.stands.1));
})
