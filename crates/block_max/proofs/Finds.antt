-- Lemmas on the search for a block, and on what a block has.
use Rattle.std.proofs.Common.{◌≡◌, refl, sym, ap, ◌∙◌, inl, inr, ℕ, zero, suc, ◌-◌, ◌^◌, ◌<◌, ◌≤◌, leb, List, [], ◌∷◌, map, take, drop, length, get_or, Option, Some, None, arith}
use Rattle.std.specs.Prelude.{option_map, slice_get}
use Rattle.std.specs.List.{All, position_or_len}
use Rattle.std.proofs.lemmas.Bool.{cases_lt, le-leb, lt-leb}
use Rattle.std.proofs.lemmas.List.{take-map, drop-map, length-map, get_or-map}
use Rattle.std.proofs.lemmas.List.Elements.{All-head, All-tail, All-cons, All-nil, All-take, All-drop}
use Rattle.std.proofs.lemmas.List.Folds.{find_at}
use Rattle.std.proofs.lemmas.List.Kept.{AllPairs-from_increasing}
use Rattle.std.proofs.lemmas.List.Sums.{position_or_len_is}
use Rattle.collection_model.specs.Collection.{Posting, docs_of, freqs_of, greatest, greatest_freq}
use Rattle.block_max.specs.Blocks.{Block, BlockList, AreBlocks, IsBlockList, block_from, blocks_at, blocks_of, nth_block, nth_list}
use Rattle.block_max.specs.Cut.{side_blocks}
use Rattle.block_max.proofs.Words.{blocks-length}

abbrev no_block : Block
no_block = record { last = 0; greatest = 0 }

get-at : (xs : List Block) (i : ℕ) → i < length xs → slice_get xs i ≡ Some (get_or xs i no_block)
get-at [] i within = absurd (omega arith)
get-at (x ∷ xs) zero within = refl
get-at (x ∷ xs) (suc i) within = get-at xs i (omega arith)

get-past : (xs : List Block) (i : ℕ) → length xs ≤ i → slice_get xs i ≡ None
get-past [] i past = refl
get-past (x ∷ xs) zero past = absurd (omega arith)
get-past (x ∷ xs) (suc i) past = get-past xs i (omega arith)

-- what stands where a search of blocks ends
pub found-at : (cs : List BlockList) (t q doc : ℕ) → q < length (nth_list cs t).ends → q ≡ position_or_len (λ b. leb doc b.last) (blocks_of (nth_list cs t)) → block_from (blocks_of (nth_list cs t)) doc ≡ Some (nth_block cs t q)
found-at cs t q doc within is =
    let c : BlockList = nth_list cs t in
    let n = blocks-length c.list 0 c.ends in
    find_at (λ (b : Block). leb doc b.last) (blocks_of c) ∙ ap (slice_get (blocks_of c)) (sym is) ∙ get-at (blocks_of c) q (omega arith)

pub found-none : (cs : List BlockList) (t q doc : ℕ) → length (nth_list cs t).ends ≤ q → q ≡ position_or_len (λ b. leb doc b.last) (blocks_of (nth_list cs t)) → block_from (blocks_of (nth_list cs t)) doc ≡ None
found-none cs t q doc past is =
    let c : BlockList = nth_list cs t in
    let n = blocks-length c.list 0 c.ends in
    find_at (λ (b : Block). leb doc b.last) (blocks_of c) ∙ ap (slice_get (blocks_of c)) (sym is) ∙ get-past (blocks_of c) q (omega arith)

greatest-below : (m : ℕ) (xs : List ℕ) → 0 < m → All (λ x. x < m) xs → greatest xs < m
greatest-below m [] some all = some
greatest-below m (x ∷ xs) some all =
    let more : greatest xs < m = greatest-below m xs some (All-tail (λ (y : ℕ). y < m) x xs all) in
    let here : x < m = All-head (λ (y : ℕ). y < m) x xs all in
    omega arith

blocks-fit : (list : List Posting) (m i : ℕ) (ends : List ℕ) → 0 < m → All (λ f. f < m) (freqs_of list) → All (λ b. b.greatest < m) (blocks_at list i ends)
blocks-fit list m i [] some all = All-nil (λ (b : Block). b.greatest < m)
blocks-fit list m i (end ∷ ends) some all =
    let part : List ℕ = take (end - i) (drop i (freqs_of list)) in
    let same : part ≡ freqs_of (take (end - i) (drop i list)) = ap (take (end - i)) (drop-map (λ (p : Posting). p.freq) i list) ∙ take-map (λ (p : Posting). p.freq) (end - i) (drop i list) in
    let below = greatest-below m part some (All-take (λ (f : ℕ). f < m) (end - i) (drop i (freqs_of list)) (All-drop (λ (f : ℕ). f < m) i (freqs_of list) all)) in
    let is = ap greatest same in
    All-cons (λ (b : Block). b.greatest < m) (record { last = get_or (docs_of list) (end - 1) 0; greatest = greatest_freq (take (end - i) (drop i list)) }) (blocks_at list end ends)
    (omega arith) (blocks-fit list m end ends some all)

-- a block's greatest frequency has 32 bits
pub block-fits : (cs : List BlockList) (t q : ℕ) → All IsBlockList cs → t < length cs → q < length (nth_list cs t).ends → (nth_block cs t q).greatest < 2 ^ 32
block-fits cs t q all term block =
    let c : BlockList = nth_list cs t in
    let is : IsBlockList c = all t (record { list = []; ends = [] }) term in
    let n = blocks-length c.list 0 c.ends in
    blocks-fit c.list (2 ^ 32) 0 c.ends (omega arith) is.cursor_list.fit q no_block (omega arith)

-- the last documents rise
lasts-le : (cs : List BlockList) (t j k : ℕ) → All IsBlockList cs → t < length cs → j ≤ k → k < length (nth_list cs t).ends → (nth_block cs t j).last ≤ (nth_block cs t k).last
lasts-le cs t j k all term le within =
    let c : BlockList = nth_list cs t in
    let bs : List Block = blocks_of c in
    let are : AreBlocks c.list bs = side_blocks cs t c.list all refl in
    let n = blocks-length c.list 0 c.ends in
    let l = length-map bs (λ (b : Block). b.last) in
    elim (cases_lt j k) as (λ _. (nth_block cs t j).last ≤ (nth_block cs t k).last) [
      | inl lt ↦ (let rise = AllPairs-from_increasing (map (λ (b : Block). b.last) bs) are.rising j k 0 lt (omega arith) in
          let a = get_or-map (λ (b : Block). b.last) bs j no_block 0 (omega arith) in
          let b = get_or-map (λ (b : Block). b.last) bs k no_block 0 (omega arith) in
          omega arith)
      | inr ge ↦ (let same : j ≡ k = omega arith in let e = ap (λ (i : ℕ). (nth_block cs t i).last) same in omega arith)
    ]

pub before-kept : (cs : List BlockList) (t low next doc : ℕ) → low ≤ next → (0 < low → (nth_block cs t (low - 1)).last < doc) → (low < next → (nth_block cs t (next - 1)).last < doc) → 0 < next → (nth_block cs t (next - 1)).last < doc
before-kept cs t low next doc after old new some = elim (cases_lt low next) as (λ _. (nth_block cs t (next - 1)).last < doc) [
  | inl lt ↦ new lt
  | inr ge ↦ (let same : low ≡ next = omega arith in let e = ap (λ (i : ℕ). (nth_block cs t (i - 1)).last) same in let was = old (omega arith) in omega arith)
]

passes-all : (cs : List BlockList) (t low doc : ℕ) → All IsBlockList cs → t < length cs → low ≤ length (nth_list cs t).ends → (0 < low → (nth_block cs t (low - 1)).last < doc) → (k : ℕ) → k < low → (nth_block cs t k).last < doc
passes-all cs t low doc all term within last k before =
    let le = lasts-le cs t k (low - 1) all term (omega arith) (omega arith) in
    let lt = last (omega arith) in
    omega arith

-- where a search of blocks ends
pub below-is : (cs : List BlockList) (t low doc : ℕ) → All IsBlockList cs → t < length cs → low ≤ length (nth_list cs t).ends → (0 < low → (nth_block cs t (low - 1)).last < doc) → (low < length (nth_list cs t).ends → doc ≤ (nth_block cs t low).last) → low ≡ position_or_len (λ b. leb doc b.last) (blocks_of (nth_list cs t))
below-is cs t low doc all term within last reached =
    let c : BlockList = nth_list cs t in
    let n = blocks-length c.list 0 c.ends in
    sym (position_or_len_is (λ (b : Block). leb doc b.last) (blocks_of c) low no_block (omega arith)
    (λ k before. lt-leb doc (nth_block cs t k).last (passes-all cs t low doc all term within last k before))
    (λ inside. le-leb doc (nth_block cs t low).last (reached (omega arith))))

abbrev pair_of : Block → ℕ × ℕ
pair_of b = (b.last, b.greatest)

abbrev told : ℕ → ℕ → Option (ℕ × ℕ)
told last most = Some (last, most)

-- what is told of a block that is found
pub told-found : (cs : List BlockList) (t q doc last most : ℕ) → q < length (nth_list cs t).ends → q ≡ position_or_len (λ b. leb doc b.last) (blocks_of (nth_list cs t)) → last ≡ (nth_block cs t q).last → most ≡ (nth_block cs t q).greatest → told last most ≡ option_map pair_of (block_from (blocks_of (nth_list cs t)) doc)
told-found cs t q doc last most within is last_is most_is =
    ap (λ (x : ℕ). told x most) last_is ∙ ap (λ (x : ℕ). told (nth_block cs t q).last x) most_is ∙ sym (ap (option_map pair_of) (found-at cs t q doc within is))

pub told-none : (cs : List BlockList) (t q doc : ℕ) → length (nth_list cs t).ends ≤ q → q ≡ position_or_len (λ b. leb doc b.last) (blocks_of (nth_list cs t)) → None ≡ option_map pair_of (block_from (blocks_of (nth_list cs t)) doc)
told-none cs t q doc past is = sym (ap (option_map pair_of) (found-none cs t q doc past is))
