-- What is read of the lists of an index in blocks.
use Rattle.std.proofs.Common.{◌≡◌, inl, inr, refl, sym, ap, ◌∙◌, ℕ, zero, suc, ◌+◌, ◌-◌, ◌*◌, ◌/◌, ◌<◌, ◌≤◌, List, [], ◌∷◌, ◌++◌, length, get_or, map, take, drop, arith}
use Rattle.std.specs.List.{All, range_with_len}
use Rattle.std.proofs.lemmas.List.Elements.{All-cons, All-head, All-nil, All-tail}
use Rattle.std.proofs.lemmas.List.FromFn.{get_or-map-range_with_len, length-map-range_with_len, map-range_with_len_more}
use Rattle.std.proofs.lemmas.List.Sums.{sum_by_more}
use Rattle.collection_model.specs.Collection.{Posting, docs_of, greatest_freq}
use Rattle.two_level.specs.SequenceView.{start_of_part}
use Rattle.index_file.specs.FileWords.{ArePartitions, ListParts}
use Rattle.cursor_api.specs.NextGeq.{IsCursorList}
use Rattle.block_max.specs.Blocks.{Block, BlockList, IsBlockList, blocks_at, blocks_before, blocks_of, nth_block, nth_list}
use Rattle.index_file.specs.IndexView.{IndexView}
use Rattle.part_cost.specs.Partition.{IsPartition}
use Rattle.part_cost.proofs.Partitions.{few-parts}
use Rattle.part_cost.proofs.Parts.{past-at, rises}
use Rattle.std.proofs.Math.Nat.{div-mul-le_self}
use Rattle.std.proofs.lemmas.Nat.{le-div}
use Rattle.std.proofs.lemmas.Bool.{cases_lt}
use Rattle.std.proofs.lemmas.List.{length-map}
use Rattle.index_blocks.specs.BlockLists.{block_lists, block_starts, blocks_of_index, lists_a_start}

abbrev no_parts : ListParts
no_parts = record { doc_ends = []; freq_ends = [] }

abbrev no_block : Block
no_block = record { last = 0; greatest = 0 }

-- as many lists
pub lists-count : (lists : List (List Posting)) (parts : List ListParts) → ArePartitions lists parts → length (block_lists lists parts) ≡ length lists
lists-count [] [] are = refl
lists-count [] (p ∷ parts) are = refl
lists-count (l ∷ lists) [] are = absurd are
lists-count (l ∷ lists) (p ∷ parts) are = let more = lists-count lists parts are.2 in omega arith

-- list t in blocks
pub list-at : (lists : List (List Posting)) (parts : List ListParts) → ArePartitions lists parts → (t : ℕ) → t < length lists → nth_list (block_lists lists parts) t ≡ record { list = get_or lists t []; ends = (get_or parts t no_parts).doc_ends }
list-at [] parts are t within = absurd (omega arith)
list-at (l ∷ lists) [] are t within = absurd are
list-at (l ∷ lists) (p ∷ parts) are zero within = refl
list-at (l ∷ lists) (p ∷ parts) are (suc t) within = list-at lists parts are.2 t (omega arith)

-- they are cut into blocks
pub all-cut : (lists : List (List Posting)) (parts : List ListParts) → ArePartitions lists parts → All IsCursorList lists → All IsBlockList (block_lists lists parts)
all-cut [] [] are all = All-nil IsBlockList
all-cut [] (p ∷ parts) are all = absurd are
all-cut (l ∷ lists) [] are all = absurd are
all-cut (l ∷ lists) (p ∷ parts) are all =
    All-cons IsBlockList (record { list = l; ends = p.doc_ends }) (block_lists lists parts)
    (record { cursor_list = All-head IsCursorList l lists all; partition = are.0 })
    (all-cut lists parts are.2 (All-tail IsCursorList l lists all))

-- where block q begins, of those from place i on
abbrev start_from : ℕ → List ℕ → ℕ → ℕ
start_from i ends zero = i
start_from i ends (suc q) = get_or ends q 0

start-at : (ends : List ℕ) (q : ℕ) → start_from 0 ends q ≡ start_of_part ends q
start-at ends zero = refl
start-at ends (suc q) = refl

-- block q by its end and where it begins
abbrev block_between : List Posting → ℕ → ℕ → Block
block_between list from to = record { last = get_or (docs_of list) (to - 1) 0; greatest = greatest_freq (take (to - from) (drop from list)) }

read-from : (list : List Posting) (i : ℕ) (ends : List ℕ) (q : ℕ) → q < length ends → get_or (blocks_at list i ends) q no_block ≡ block_between list (start_from i ends q) (get_or ends q 0)
read-from list i [] q within = absurd (omega arith)
read-from list i (end ∷ ends) zero within = refl
read-from list i (end ∷ ends) (suc zero) within = read-from list end ends zero (omega arith)
read-from list i (end ∷ ends) (suc (suc q)) within = read-from list end ends (suc q) (omega arith)

module _ (lists : List (List Posting)) (parts : List ListParts) (are : ArePartitions lists parts) (t : ℕ) (within : t < length lists) where
  abbrev own : List ℕ
  own = (get_or parts t no_parts).doc_ends

  pub ends-at : length (nth_list (block_lists lists parts) t).ends ≡ length own
  ends-at = ap (λ (c : BlockList). length c.ends) (list-at lists parts are t within)

  module _ (q : ℕ) (block : q < length own) where
    block-at : nth_block (block_lists lists parts) t q ≡ block_between (get_or lists t []) (start_of_part own q) (get_or own q 0)
    block-at =
        ap (λ (c : BlockList). get_or (blocks_of c) q no_block) (list-at lists parts are t within) ∙ read-from (get_or lists t []) 0 own q block
        ∙ ap (λ (from : ℕ). block_between (get_or lists t []) from (get_or own q 0)) (start-at own q)

    pub last-at : (nth_block (block_lists lists parts) t q).last ≡ get_or (docs_of (get_or lists t [])) (get_or own q 0 - 1) 0
    last-at = ap (λ (b : Block). b.last) block-at

    pub greatest-at : (nth_block (block_lists lists parts) t q).greatest ≡ greatest_freq (take (get_or own q 0 - start_of_part own q) (drop (start_of_part own q) (get_or lists t [])))
    greatest-at = ap (λ (b : Block). b.greatest) block-at

-- division keeps the order
pub div-grows : (a b n : ℕ) → 0 < n → a ≤ b → a / n ≤ b / n
div-grows a b n some h = le-div (a / n) b n some (omega (arith, div-mul-le_self a n, h))

-- the table says how many blocks stand before the lists where it is told
pub starts-at : (i : IndexView) (k : ℕ) → k ≤ length i.collection.lists / lists_a_start i → get_or (block_starts i) k 0 ≡ blocks_before (blocks_of_index i) (k * lists_a_start i)
starts-at i k within =
    get_or-map-range_with_len (λ (n : ℕ). blocks_before (blocks_of_index i) (n * lists_a_start i)) 0 (length i.collection.lists / lists_a_start i + 1) k k 0 (omega (arith, within)) (omega arith)

-- and how many numbers it has
pub starts-count : (i : IndexView) → length (block_starts i) ≡ length i.collection.lists / lists_a_start i + 1
starts-count i = length-map-range_with_len (λ (n : ℕ). blocks_before (blocks_of_index i) (n * lists_a_start i)) 0 (length i.collection.lists / lists_a_start i + 1)

-- the sum grows by the blocks of a list
pub one-more : (cs : List BlockList) (t : ℕ) → t < length cs → blocks_before cs (t + 1) ≡ blocks_before cs t + length (nth_list cs t).ends
one-more cs t within = sum_by_more (λ (c : BlockList). length c.ends) cs t (record { list = []; ends = [] }) within

-- and stays where the lists from one on have none
pub stays : (cs : List BlockList) (k t : ℕ) → t + k ≤ length cs → ((s : ℕ) → t ≤ s → s < t + k → (nth_list cs s).ends ≡ []) → blocks_before cs (t + k) ≡ blocks_before cs t
stays cs zero t within none = ap (blocks_before cs) (let e : t + 0 ≡ t = omega arith in e)
stays cs (suc k) t within none =
    let e : t + suc k ≡ t + k + 1 = omega arith in
    let last : length (nth_list cs (t + k)).ends ≡ 0 = ap length (none (t + k) (omega arith) (omega arith)) in
    omega (arith, ap (blocks_before cs) e, one-more cs (t + k) (omega (arith, within)), last, stays cs k t (omega (arith, within)) (λ s le lt. none s le (omega (arith, lt))))

pub same-before : (cs : List BlockList) (a b : ℕ) → a ≤ b → b ≤ length cs → ((s : ℕ) → a ≤ s → s < b → (nth_list cs s).ends ≡ []) → blocks_before cs a ≡ blocks_before cs b
same-before cs a b le within none =
    let e : a + (b - a) ≡ b = omega (arith, le) in
    sym (stays cs (b - a) a (omega (arith, le, within)) (λ s from lt. none s from (omega (arith, lt, le)))) ∙ ap (blocks_before cs) e

-- no numbers are cut into no parts
no-ends : (n : ℕ) (ends : List ℕ) → IsPartition n ends → n ≡ 0 → ends ≡ []
no-ends n [] is none = refl
no-ends n (end ∷ ends) is none = absurd (omega (arith, few-parts 0 n (end ∷ ends) is, none))

-- a list without postings has no blocks
pub without-blocks : (lists : List (List Posting)) (parts : List ListParts) → ArePartitions lists parts → (t : ℕ) → get_or lists t [] ≡ [] → (nth_list (block_lists lists parts) t).ends ≡ []
without-blocks [] parts are t none = refl
without-blocks (l ∷ lists) [] are t none = absurd are
without-blocks (l ∷ lists) (p ∷ parts) are zero none = no-ends (length l) p.doc_ends are.0 (ap length none)
without-blocks (l ∷ lists) (p ∷ parts) are (suc t) none = without-blocks lists parts are.2 t none

-- a list that is cut has fewer than 2^32 blocks
few-of : (c : BlockList) → IsBlockList c → length c.ends ≤ 4294967295
few-of c is =
    let ds : List ℕ = docs_of c.list in
    let count : length ds ≡ length c.list = length-map c.list (λ (p : Posting). p.doc) in
    let parts = few-parts 0 (length c.list) c.ends is.partition in
    elim (cases_lt 0 (length ds)) as (λ _. length c.ends ≤ 4294967295) [
      | inl some ↦ (let below : get_or ds (length ds - 1) 0 < 4294967295 = is.cursor_list.docs (length ds - 1) 0 (omega (arith, some)) in
          omega (arith, parts, count, below, past-at ds (length ds) some, rises ds is.cursor_list.rising 0 (length ds) (omega arith) (omega arith)))
      | inr none ↦ omega (arith, parts, count, none)
    ]

pub few-before : (cs : List BlockList) → All IsBlockList cs → (t : ℕ) → t ≤ length cs → blocks_before cs t ≤ t * 4294967295
few-before cs all zero within = omega arith
few-before cs all (suc t) within =
    let e : suc t ≡ t + 1 = omega arith in
    omega (arith, ap (blocks_before cs) e, one-more cs t (omega (arith, within)), few-before cs all t (omega (arith, within)), few-of (nth_list cs t) (all t (record { list = []; ends = [] }) (omega (arith, within))))

-- the table grows by a sum
pub start-more : (f : ℕ → ℕ) (k before : ℕ) → before ≡ f k → map f (range_with_len 0 k) ++ before ∷ [] ≡ map f (range_with_len 0 (k + 1))
start-more f k before is =
    let at : 0 + k ≡ k = omega arith in
    ap (λ (x : ℕ). map f (range_with_len 0 k) ++ x ∷ []) is ∙ sym (map-range_with_len_more f 0 k k at)

-- a term of the lists in blocks is one of the lists
pub term-within : (lists : List (List Posting)) (parts : List ListParts) → ArePartitions lists parts → (t : ℕ) → t < length (block_lists lists parts) → t < length lists
term-within lists parts are t within = let count = lists-count lists parts are in omega arith

-- and a block of its blocks is one of its parts
pub part-within : (lists : List (List Posting)) (parts : List ListParts) (are : ArePartitions lists parts) (t : ℕ) → t < length lists → (q : ℕ) → q < length (nth_list (block_lists lists parts) t).ends → q < length (get_or parts t no_parts).doc_ends
part-within lists parts are t within q block = let own = ends-at lists parts are t within in omega arith
