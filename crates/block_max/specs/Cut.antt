-- The blocks of a list that is cut are blocks of it.
use Rattle.std.proofs.Common.{◌≡◌, refl, sym, ap, inl, inr, ◌∙◌, subst, ℕ, zero, suc, ◌+◌, ◌-◌, ◌<◌, ◌≤◌, Bool, true, false, cond, leb, List, [], ◌∷◌, map, take, drop, length, get_or, Option, Some, None, IsSomeAnd, arith, length-drop, Contains}
use Rattle.std.specs.Option.{option_map_or}
use Rattle.std.specs.List.{All}
use Rattle.std.specs.List.Sorted.{IsStrictlyIncreasing}
use Rattle.std.proofs.lemmas.Bool.{cases_lt, le-leb, lt-leb}
use Rattle.std.proofs.lemmas.List.{length-map, length-take, get_or-take, get_or-drop, get_or-map, get_or_default, get_or_past}
use Rattle.std.proofs.lemmas.List.Elements.{All-cons, All-nil, Contains-get_or}
use Rattle.std.proofs.lemmas.List.Kept.{AllPairs-from_increasing}
use Rattle.collection_model.specs.Collection.{Posting, docs_of, freqs_of, greatest, greatest_freq}
use Rattle.part_cost.specs.Partition.{IsPartitionFrom}
use Rattle.block_max.specs.Blocks.{Block, BlockList, IsBlockList, AreBlocks, block_from, blocks_at, blocks_of, nth_list}

abbrev no_posting : Posting
no_posting = record { doc = 0; freq = 0 }

-- no number is above the greatest
greatest-most : (xs : List ℕ) (k : ℕ) → k < length xs → get_or xs k 0 ≤ greatest xs
greatest-most [] k within = absurd (omega arith)
greatest-most (x ∷ xs) zero within = omega arith
greatest-most (x ∷ xs) (suc k) within = let more : get_or xs k 0 ≤ greatest xs = greatest-most xs k (omega arith) in omega arith

doc-read : (list : List Posting) (k : ℕ) → k < length list → get_or (docs_of list) k 0 ≡ (get_or list k no_posting).doc
doc-read list k within = get_or-map (λ p. p.doc) list k no_posting 0 within

-- a posting of a stretch has no more than its greatest frequency
stretch-most : (list : List Posting) (i end k : ℕ) → i ≤ k → k < end → end ≤ length list → (get_or list k no_posting).freq ≤ greatest_freq (take (end - i) (drop i list))
stretch-most list i end k from before within =
    let part : List Posting = take (end - i) (drop i list) in
    let rest : length (drop i list) ≡ length list - i = length-drop i list in
    let count = length-take (end - i) (drop i list) in
    let j : ℕ = k - i in
    let at : i + j ≡ k = omega arith in
    let inside : j < length part = omega arith in
    let read : get_or part j no_posting ≡ get_or list k no_posting = get_or-take (end - i) (drop i list) j no_posting (omega arith) ∙ get_or-drop i list j no_posting ∙ ap (λ (n : ℕ). get_or list n no_posting) at in
    let freqs = get_or-map (λ p. p.freq) part j no_posting 0 inside in
    let l = length-map part (λ (p : Posting). p.freq) in
    let most = greatest-most (freqs_of part) j (omega arith) in
    let same = ap (λ (p : Posting). p.freq) read in
    omega arith

-- ends of a partition are within
ends-within : (i n : ℕ) (ends : List ℕ) → IsPartitionFrom i n ends → i ≤ n
ends-within i n [] is = omega arith
ends-within i n (end ∷ ends) is = let lt = is.0 in let more = ends-within end n ends is.1 in omega arith

module _ (list : List Posting) (rising : IsStrictlyIncreasing (docs_of list)) where
  docs-le : (j k : ℕ) → j ≤ k → k < length list → get_or (docs_of list) j 0 ≤ get_or (docs_of list) k 0
  docs-le j k le within =
      let l = length-map list (λ (p : Posting). p.doc) in
      elim (cases_lt j k) as (λ _. get_or (docs_of list) j 0 ≤ get_or (docs_of list) k 0) [
        | inl lt ↦ (let h = AllPairs-from_increasing (docs_of list) rising j k 0 lt (omega arith) in omega arith)
        | inr ge ↦ (let same : j ≡ k = omega arith in let e = ap (λ (n : ℕ). get_or (docs_of list) n 0) same in omega arith)
      ]

  covered-step : (here : Bool) (p : Posting) (b : Block) (blocks : List Block) → (here ≡ true → p.freq ≤ b.greatest) → (here ≡ false → IsSomeAnd (block_from blocks p.doc) (λ b. p.freq ≤ b.greatest)) → IsSomeAnd (cond here (Some b) (block_from blocks p.doc)) (λ b. p.freq ≤ b.greatest)
  covered-step true p b blocks at more = at refl
  covered-step false p b blocks at more = more refl

  -- a posting from place i on has no more than the frequency of its block
  covered-from : (i : ℕ) (ends : List ℕ) → IsPartitionFrom i (length list) ends → (k : ℕ) → i ≤ k → k < length list → IsSomeAnd (block_from (blocks_at list i ends) (get_or list k no_posting).doc) (λ b. (get_or list k no_posting).freq ≤ b.greatest)
  covered-from i [] is k from within = absurd (omega arith)
  covered-from i (end ∷ ends) is k from within =
      let p : Posting = get_or list k no_posting in
      let b : Block = record { last = get_or (docs_of list) (end - 1) 0; greatest = greatest_freq (take (end - i) (drop i list)) } in
      let some = is.0 in
      let far = ends-within end (length list) ends is.1 in
      let doc = doc-read list k within in
      elim (cases_lt k end) as (λ _. IsSomeAnd (block_from (blocks_at list i (end ∷ ends)) p.doc) (λ b. p.freq ≤ b.greatest)) [
        | inl before ↦ (let le = docs-le k (end - 1) (omega arith) (omega arith) in
            let here : leb p.doc b.last ≡ true = le-leb p.doc b.last (omega arith) in
            covered-step (leb p.doc b.last) p b (blocks_at list end ends) (λ yes. stretch-most list i end k from before far) (λ no'. let bad : true ≡ false = sym here ∙ no' in cc))
        | inr behind ↦ (let l = length-map list (λ (p : Posting). p.doc) in
            let lt = AllPairs-from_increasing (docs_of list) rising (end - 1) k 0 (omega arith) (omega arith) in
            let out : leb p.doc b.last ≡ false = lt-leb p.doc b.last (omega arith) in
            covered-step (leb p.doc b.last) p b (blocks_at list end ends) (λ yes. let bad : false ≡ true = sym out ∙ yes in cc) (λ no'. covered-from end ends is.1 k (omega arith) within))
      ]

  -- the last documents are documents of the list, and rise
  lasts-in : (i : ℕ) (ends : List ℕ) → IsPartitionFrom i (length list) ends → All (λ b. Contains (docs_of list) b.last) (blocks_at list i ends)
  lasts-in i [] is = All-nil (λ (b : Block). Contains (docs_of list) b.last)
  lasts-in i (end ∷ ends) is =
      let some = is.0 in
      let far = ends-within end (length list) ends is.1 in
      let l = length-map list (λ (p : Posting). p.doc) in
      All-cons (λ (b : Block). Contains (docs_of list) b.last) (record { last = get_or (docs_of list) (end - 1) 0; greatest = greatest_freq (take (end - i) (drop i list)) }) (blocks_at list end ends)
      (Contains-get_or (docs_of list) (end - 1) 0 (omega arith)) (lasts-in end ends is.1)

  -- block k ends at document number end k less one
  last-read : (i k : ℕ) (ends : List ℕ) → k < length ends → get_or (map (λ b. b.last) (blocks_at list i ends)) k 0 ≡ get_or (docs_of list) (get_or ends k 0 - 1) 0
  last-read i k [] within = absurd (omega arith)
  last-read i zero (end ∷ ends) within = refl
  last-read i (suc k) (end ∷ ends) within = last-read end k ends (omega arith)

  -- the ends of a partition rise, and none is behind the list
  ends-rise : (i n : ℕ) (ends : List ℕ) → IsPartitionFrom i n ends → (k : ℕ) → k + 1 < length ends → (get_or ends k 0 < get_or ends (k + 1) 0) × (get_or ends (k + 1) 0 ≤ n) × (i < get_or ends k 0)
  ends-rise i n [] is k within = absurd (omega arith)
  ends-rise i n (end ∷ []) is k within = absurd (omega arith)
  ends-rise i n (end ∷ next ∷ ends) is zero within = let far = ends-within next n ends is.1.1 in (is.1.0, far, is.0)
  ends-rise i n (end ∷ next ∷ ends) is (suc k) within =
      let more = ends-rise end n (next ∷ ends) is.1 k (omega arith) in
      let at : suc k + 1 ≡ suc (k + 1) = omega arith in
      let read : get_or (end ∷ next ∷ ends) (suc k + 1) 0 ≡ get_or (next ∷ ends) (k + 1) 0 = ap (λ (j : ℕ). get_or (end ∷ next ∷ ends) j 0) at in
      let rise = more.0 in
      let most = more.1 in
      let some = more.2 in
      let first = is.0 in
      (omega arith, omega arith, omega arith)

  blocks-length : (i : ℕ) (ends : List ℕ) → length (blocks_at list i ends) ≡ length ends
  blocks-length i [] = refl
  blocks-length i (end ∷ ends) = let more = blocks-length end ends in omega arith

  lasts-rise : (i : ℕ) (ends : List ℕ) → IsPartitionFrom i (length list) ends → IsStrictlyIncreasing (map (λ b. b.last) (blocks_at list i ends))
  lasts-rise i ends is k within =
      let l = length-map (blocks_at list i ends) (λ (b : Block). b.last) in
      let count = blocks-length i ends in
      let ds = length-map list (λ (p : Posting). p.doc) in
      let rise = ends-rise i (length list) ends is k (omega arith) in
      let a = last-read i k ends (omega arith) in
      let b = last-read i (k + 1) ends (omega arith) in
      let lt = rise.0 in
      let most = rise.1 in
      let some = rise.2 in
      let h = AllPairs-from_increasing (docs_of list) rising (get_or ends k 0 - 1) (get_or ends (k + 1) 0 - 1) 0 (omega arith) (omega arith) in
      omega arith

pub cut-blocks : (c : BlockList) → IsBlockList c → AreBlocks c.list (blocks_of c)
cut-blocks c is = record {
  rising = lasts-rise c.list is.cursor_list.rising 0 c.ends is.partition;
  lasts = lasts-in c.list is.cursor_list.rising 0 c.ends is.partition;
  covered = λ k d within.
      let same : get_or c.list k d ≡ get_or c.list k no_posting = get_or_default c.list k d no_posting within in
      subst (λ (p : Posting). IsSomeAnd (block_from (blocks_of c) p.doc) (λ b. p.freq ≤ b.greatest)) (sym same) (covered-from c.list is.cursor_list.rising 0 c.ends is.partition k (omega arith) within);
}

-- the blocks of an empty list
no-blocks : AreBlocks [] []
no-blocks = record {
  rising = λ i lt. absurd (omega (arith, lt));
  lasts = All-nil (λ b. Contains (docs_of []) b.last);
  covered = All-nil (λ p. IsSomeAnd (block_from [] p.doc) (λ b. p.freq ≤ b.greatest));
}

-- the blocks of list t of some lists, those of the empty list behind them
nth-blocks : (cs : List BlockList) (t : ℕ) → All IsBlockList cs → AreBlocks (nth_list cs t).list (blocks_of (nth_list cs t))
nth-blocks cs t all = elim (cases_lt t (length cs)) as (λ _. AreBlocks (nth_list cs t).list (blocks_of (nth_list cs t))) [
  | inl lt ↦ cut-blocks (nth_list cs t) (all t (record { list = []; ends = [] }) lt)
  | inr ge ↦ rw (get_or_past cs t (record { list = []; ends = [] }) ge) no-blocks
]

-- the blocks of list t of a source, of which a cursor has the list
pub side_blocks : (cs : List BlockList) (t : ℕ) (list : List Posting) → All IsBlockList cs → list ≡ (nth_list cs t).list → AreBlocks list (blocks_of (nth_list cs t))
side_blocks cs t list all same = subst (λ (l : List Posting). AreBlocks l (blocks_of (nth_list cs t))) (sym same) (nth-blocks cs t all)

-- the lists of a source, and none where there is no source, are cut
pub all-cut : {S : Type 0} (lists : S → List BlockList) → ((s : S) → All IsBlockList (lists s)) → (source : Option S) → All IsBlockList (option_map_or lists source [])
all-cut lists cut None = All-nil IsBlockList
all-cut lists cut (Some s) = cut s
