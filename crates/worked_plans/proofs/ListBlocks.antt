-- What is read of the lists of the tests.
use Rattle.std.proofs.Common.{◌≡◌, refl, sym, ap, ◌∙◌, ℕ, zero, suc, ◌+◌, ◌-◌, ◌<◌, ◌≤◌, List, [], ◌∷◌, ◌++◌, length, get_or, replicate, take, drop, arith}
use Rattle.std.specs.List.{range_with_len}
use Rattle.std.proofs.Math.Seq.{take-append_seam, drop-append_seam}
use Rattle.std.proofs.lemmas.List.{drop-map, length-replicate, map-id, take-map}
use Rattle.std.proofs.lemmas.List.FromFn.{get_or-range_with_len, map-range_with_len_more}
use Rattle.collection_model.specs.Collection.{Posting, docs_of, freqs_of, greatest, greatest_freq, postings_of}
use Rattle.block_max.specs.Blocks.{Block, BlockList, blocks_of, nth_block, nth_list}
use Rattle.worked_plans.specs.OneList.{one_list}
use Rattle.worked_plans.specs.TwoLists.{docs-are, freqs-are, long_freqs, long_list, two_lists}

abbrev no_block : Block
no_block = record { last = 0; greatest = 0 }

pub first-list : (t : ℕ) → t < 1 → nth_list (one_list ∷ []) t ≡ one_list
first-list t within = let zero' : t ≡ 0 = omega arith in ap (nth_list (one_list ∷ [])) zero'

pub first-block : (t q : ℕ) → t < 1 → q < length (nth_list (one_list ∷ []) t).ends → nth_block (one_list ∷ []) t q ≡ record { last = 2; greatest = 5 }
first-block t q term block =
    let count = ap (λ (c : BlockList). length c.ends) (first-list t term) in
    let zero' : q ≡ 0 = omega arith in
    ap (λ (c : BlockList). get_or (blocks_of c) q no_block) (first-list t term) ∙ ap (λ (i : ℕ). get_or (blocks_of one_list) i no_block) zero'

greatest-ones : (k : ℕ) → 1 ≤ k → greatest (replicate k 1) ≡ 1
greatest-ones zero some = absurd (omega arith)
greatest-ones (suc zero) some = refl
greatest-ones (suc (suc k)) some = let more : greatest (replicate (suc k) 1) ≡ 1 = greatest-ones (suc k) (omega arith) in omega arith

part-freqs : (list : List Posting) (count i : ℕ) → freqs_of (take count (drop i list)) ≡ take count (drop i (freqs_of list))
part-freqs list count i = sym (ap (take count) (drop-map (λ (p : Posting). p.freq) i list) ∙ take-map (λ (p : Posting). p.freq) count (drop i list))

module _ (n : ℕ) (some : 2 ≤ n) where
  doc-at : (k : ℕ) → k < n → get_or (docs_of (long_list n)) k 0 ≡ k
  doc-at k within = let a = ap (λ (ds : List ℕ). get_or ds k 0) (docs-are n some) in let r = get_or-range_with_len 0 n k 0 within in omega arith

  most-in : (count i : ℕ) → greatest_freq (take count (drop i (long_list n))) ≡ greatest (take count (drop i (long_freqs n)))
  most-in count i = ap greatest (part-freqs (long_list n) count i ∙ ap (λ (fs : List ℕ). take count (drop i fs)) (sym (freqs-are n some)))

  ones-most : greatest (take (n - 1) (long_freqs n)) ≡ 1
  ones-most =
      let l = length-replicate {A = ℕ} (n - 1) 1 in
      ap greatest (ap (λ (k : ℕ). take k (long_freqs n)) (sym l) ∙ take-append_seam (replicate (n - 1) 1) (9 ∷ [])) ∙ greatest-ones (n - 1) (omega arith)

  end-most : greatest (take (n - (n - 1)) (drop (n - 1) (long_freqs n))) ≡ 9
  end-most =
      let l = length-replicate {A = ℕ} (n - 1) 1 in
      let one : n - (n - 1) ≡ 1 = omega arith in
      ap greatest (ap (λ (k : ℕ). take k (drop (n - 1) (long_freqs n))) one ∙ ap (take 1) (ap (λ (k : ℕ). drop k (long_freqs n)) (sym l) ∙ drop-append_seam (replicate (n - 1) 1) (9 ∷ [])))

  pub prefix-last : (nth_block (two_lists n) 0 0).last ≡ n - 2
  prefix-last = let d = doc-at (n - 1 - 1) (omega arith) in omega arith

  pub prefix-most : (nth_block (two_lists n) 0 0).greatest ≡ 1
  prefix-most =
      let whole : n - 1 - 0 ≡ n - 1 = omega arith in
      most-in (n - 1 - 0) 0 ∙ ap (λ (k : ℕ). greatest (take k (long_freqs n))) whole ∙ ones-most

  pub end-last : (nth_block (two_lists n) 0 1).last ≡ n - 1
  end-last = doc-at (n - 1) (omega arith)

  pub end-greatest : (nth_block (two_lists n) 0 1).greatest ≡ 9
  end-greatest = most-in (n - (n - 1)) (n - 1) ∙ end-most

-- a lent list with these documents and frequencies
pub lent-list : (n : ℕ) (docs freqs : List ℕ) → docs ≡ range_with_len 0 n → freqs ≡ long_freqs n → postings_of docs freqs ≡ long_list n
lent-list n docs freqs ds fs = ap (λ (l : List ℕ). postings_of l freqs) ds ∙ ap (λ (l : List ℕ). postings_of (range_with_len 0 n) l) fs

-- one document more
pub documents-more : (n : ℕ) → range_with_len 0 (n + 1) ≡ range_with_len 0 n ++ n ∷ []
documents-more n =
    let e : 0 + n ≡ n = omega arith in
    sym (map-id (range_with_len 0 (n + 1))) ∙ map-range_with_len_more (λ k. k) 0 n n e ∙ ap (λ ds. ds ++ n ∷ []) (map-id (range_with_len 0 n))
