-- Lemmas on the words of a side file.
use Rattle.std.proofs.Common.{◌≡◌, refl, sym, ap, ◌∙◌, inl, inr, ℕ, zero, suc, ◌+◌, ◌-◌, ◌<◌, ◌≤◌, List, [], ◌∷◌, ◌++◌, map, take, length, get_or, arith, length-append, append_assoc}
use Rattle.std.specs.List.{sum_by}
use Rattle.std.proofs.lemmas.Bool.{cases_lt}
use Rattle.std.proofs.lemmas.Grind.{same_number_lists}
use Rattle.std.proofs.lemmas.List.{length-map, get_or-map, get_or_append_left, get_or_at, take_all}
use Rattle.std.proofs.lemmas.List.Sums.{sum_by-cons, sum_by_more_le}
use Rattle.std.proofs.lemmas.List.Concat.{flat_map-cons, get_or-flat_map}
use Rattle.collection_model.specs.Collection.{Posting}
use Rattle.block_max.specs.Blocks.{Block, BlockList, blocks_at, blocks_before, blocks_of, nth_block, nth_list}
use Rattle.block_max.specs.SideFaults.{AllRight, HasFrame}
use Rattle.block_max.specs.SideWords.{block_freqs, first_word, side_end, side_words}

abbrev greatest_of : BlockList → List ℕ
greatest_of c = map (λ b. b.greatest) (blocks_of c)

abbrev count_of : BlockList → ℕ
count_of c = length c.ends

abbrev no_list : BlockList
no_list = record { list = []; ends = [] }

abbrev no_block : Block
no_block = record { last = 0; greatest = 0 }

pub blocks-length : (list : List Posting) (i : ℕ) (ends : List ℕ) → length (blocks_at list i ends) ≡ length ends
blocks-length list i [] = refl
blocks-length list i (end ∷ ends) = let more = blocks-length list end ends in omega arith

-- a list has as many words as blocks
pub count-is : (c : BlockList) → length (map (λ b. b.greatest) (blocks_of c)) ≡ length c.ends
count-is c = length-map (blocks_of c) (λ (b : Block). b.greatest) ∙ blocks-length c.list 0 c.ends

-- as many words as blocks
pub freqs-count : (cs : List BlockList) → length (block_freqs cs) ≡ sum_by (λ c. length c.ends) cs
freqs-count [] = refl
freqs-count (c ∷ cs) =
    let more = freqs-count cs in
    let split = ap length (flat_map-cons greatest_of c cs) in
    let both = length-append (greatest_of c) (block_freqs cs) in
    let own = count-is c in
    let counts = sum_by-cons count_of c cs in
    omega arith

-- the word of a block is among those of all blocks
pub word-within : (cs : List BlockList) (t q : ℕ) → t < length cs → q < length (nth_list cs t).ends → blocks_before cs t + q < length (block_freqs cs)
word-within cs t q term block = let all = freqs-count cs in let most = sum_by_more_le count_of cs t no_list term in omega arith

-- it is the block's greatest frequency
pub freq-at : (cs : List BlockList) (t q : ℕ) → t < length cs → q < length (nth_list cs t).ends → get_or (block_freqs cs) (blocks_before cs t + q) 0 ≡ (nth_block cs t q).greatest
freq-at cs t q term block =
    let c : BlockList = nth_list cs t in
    let own = count-is c in
    let n = blocks-length c.list 0 c.ends in
    let place : blocks_before cs t + q ≡ length (block_freqs (take t cs)) + q = let before = freqs-count (take t cs) in omega arith in
    ap (λ (i : ℕ). get_or (block_freqs cs) i 0) place ∙ get_or-flat_map greatest_of cs t q no_list 0 term (omega arith)
    ∙ get_or-map (λ (b : Block). b.greatest) (blocks_of c) q no_block 0 (omega arith)

pub side-length : (cs : List BlockList) → length (side_words cs) ≡ length (block_freqs cs) + 4
side-length cs = let l = length-append (block_freqs cs) (length (block_freqs cs) ∷ side_end ∷ []) in omega arith

pub side-within : (cs : List BlockList) (t q : ℕ) → t < length cs → q < length (nth_list cs t).ends → first_word cs t + q < length (side_words cs)
side-within cs t q term block = let l = side-length cs in let w = word-within cs t q term block in omega arith

pub side-at : (cs : List BlockList) (t q : ℕ) → t < length cs → q < length (nth_list cs t).ends → get_or (side_words cs) (first_word cs t + q) 0 ≡ (nth_block cs t q).greatest
side-at cs t q term block =
    let k : ℕ = blocks_before cs t + q in
    let place : first_word cs t + q ≡ suc (suc k) = omega arith in
    ap (λ (i : ℕ). get_or (side_words cs) i 0) place
    ∙ get_or_append_left (block_freqs cs) (length (block_freqs cs) ∷ side_end ∷ []) 0 k (word-within cs t q term block)
    ∙ freq-at cs t q term block

-- lists without blocks have no words
pub rest-unspoken : (cs : List BlockList) (w : ℕ) → ((t : ℕ) → w ≤ t → (nth_list cs t).ends ≡ []) → block_freqs (take w cs) ≡ block_freqs cs
rest-unspoken [] zero none = refl
rest-unspoken [] (suc w) none = refl
rest-unspoken (c ∷ cs) zero none =
    let here : greatest_of c ≡ [] = ap (λ es. map (λ b. b.greatest) (blocks_at c.list 0 es)) (none 0 (omega arith)) in
    sym (flat_map-cons greatest_of c cs ∙ ap (λ xs. xs ++ block_freqs cs) here ∙ sym (rest-unspoken cs zero (λ t le. none (suc t) (omega arith))))
rest-unspoken (c ∷ cs) (suc w) none =
    flat_map-cons greatest_of c (take w cs) ∙ ap (λ xs. greatest_of c ++ xs) (rest-unspoken cs w (λ t le. none (suc t) (omega (arith, le)))) ∙ sym (flat_map-cons greatest_of c cs)

-- all blocks stand before the end
pub all-before : (cs : List BlockList) → blocks_before cs (length cs) ≡ length (block_freqs cs)
all-before cs = ap (sum_by count_of) (take_all (length cs) cs (omega arith)) ∙ sym (freqs-count cs)

-- the blocks up to a list are some of all
pub before-most : (cs : List BlockList) (t : ℕ) → t < length cs → blocks_before cs t + length (nth_list cs t).ends ≤ length (block_freqs cs)
before-most cs t term = let all = freqs-count cs in let most = sum_by_more_le count_of cs t no_list term in omega arith

-- a list and its block
pub record IsPlaceOf (cs : List BlockList) (j t q : ℕ) : Type 0 where
  pub term : t < length cs
  pub block : q < length (nth_list cs t).ends
  pub place : j ≡ blocks_before cs t + q

-- each word of a block is that of one
pub block-place : (cs : List BlockList) (j : ℕ) → j < length (block_freqs cs) → (t : ℕ) × (q : ℕ) × IsPlaceOf cs j t q
block-place [] j within = absurd (omega arith)
block-place (c ∷ cs) j within =
    let split = ap length (flat_map-cons greatest_of c cs) in
    let both = length-append (greatest_of c) (block_freqs cs) in
    let own = count-is c in
    elim (cases_lt j (length c.ends)) as (λ _. (t : ℕ) × (q : ℕ) × IsPlaceOf (c ∷ cs) j t q) [
      | inl here ↦ (0, j, record { term = omega arith; block = here; place = (let none : blocks_before (c ∷ cs) 0 ≡ 0 = refl in omega arith) })
      | inr later ↦ (let r = block-place cs (j - length c.ends) (omega arith) in
          let t : ℕ = r.0 in
          let is = r.2 in
          let sums = sum_by-cons count_of c (take t cs) in
          let term = is.term in
          let place = is.place in
          (suc t, r.1, record { term = omega arith; block = is.block; place = omega arith }))
    ]

-- the last two words
pub count-at : (cs : List BlockList) → get_or (side_words cs) (length (block_freqs cs) + 2) 0 ≡ length (block_freqs cs)
count-at cs =
    let n : ℕ = length (block_freqs cs) in
    let place : n + 2 ≡ suc (suc n) = omega arith in
    ap (λ (i : ℕ). get_or (side_words cs) i 0) place ∙ get_or_at (block_freqs cs) n (side_end ∷ []) 0 n refl

pub end-at : (cs : List BlockList) → get_or (side_words cs) (length (block_freqs cs) + 3) 0 ≡ side_end
end-at cs =
    let fs : List ℕ = block_freqs cs in
    let n : ℕ = length fs in
    let place : n + 3 ≡ suc (suc (n + 1)) = omega arith in
    ap (λ (i : ℕ). get_or (side_words cs) i 0) place
    ∙ ap (λ (l : List ℕ). get_or l (n + 1) 0) (sym (append_assoc fs (n ∷ []) (side_end ∷ [])))
    ∙ get_or_at (fs ++ n ∷ []) side_end [] 0 (n + 1) (length-append fs (n ∷ []))

-- the word of a block stands among words that have room for all
pub word-inside : (cs : List BlockList) (words : List ℕ) (t q before : ℕ) → before ≡ blocks_before cs t → t < length cs → q < length (nth_list cs t).ends → length (block_freqs cs) + 4 ≤ length words → 2 + before + q < length words
word-inside cs words t q before counted term block room = let w = word-within cs t q term block in omega arith

module _ (cs : List BlockList) (words : List ℕ) (frame : HasFrame words (length (block_freqs cs))) (long : length words ≡ length (block_freqs cs) + 4) (right : AllRight cs words (length cs)) where
  abbrev total : ℕ
  total = length (block_freqs cs)

  -- the words are those of the side file, one by one
  behind : (j : ℕ) → suc (suc j) < length words → get_or words (suc (suc j)) 0 ≡ get_or (side_words cs) (suc (suc j)) 0
  behind j within =
      elim (cases_lt j total) as (λ _. get_or words (suc (suc j)) 0 ≡ get_or (side_words cs) (suc (suc j)) 0) [
        | inl inside ↦ (let r = block-place cs j inside in
            let is = r.2 in
            let place : suc (suc j) ≡ first_word cs r.0 + r.1 = omega (arith, is.place) in
            ap (λ (i : ℕ). get_or words i 0) place ∙ right r.0 is.term r.1 is.block ∙ sym (side-at cs r.0 r.1 is.term is.block)
            ∙ ap (λ (i : ℕ). get_or (side_words cs) i 0) (sym place))
        | inr past ↦ elim (cases_lt total j) as (λ _. get_or words (suc (suc j)) 0 ≡ get_or (side_words cs) (suc (suc j)) 0) [
          | inl last ↦ (let at : suc (suc j) ≡ total + 3 = omega arith in
              let end : suc (suc j) ≡ length words - 1 = omega arith in
              ap (λ (i : ℕ). get_or words i 0) end ∙ frame.end ∙ sym (end-at cs) ∙ ap (λ (i : ℕ). get_or (side_words cs) i 0) (sym at))
          | inr first ↦ (let at : suc (suc j) ≡ total + 2 = omega arith in
              let count : suc (suc j) ≡ length words - 2 = omega arith in
              ap (λ (i : ℕ). get_or words i 0) count ∙ frame.count ∙ sym (count-at cs) ∙ ap (λ (i : ℕ). get_or (side_words cs) i 0) (sym at))
        ]
      ]

  one-by-one : (k : ℕ) → k < length words → get_or words k 0 ≡ get_or (side_words cs) k 0
  one-by-one zero within = frame.opening
  one-by-one (suc zero) within = frame.version
  one-by-one (suc (suc j)) within = behind j within

  pub words-are : words ≡ side_words cs
  words-are = same_number_lists words (side_words cs) (long ∙ sym (side-length cs)) one-by-one

module _ (cs : List BlockList) (words : List ℕ) (t q before : ℕ) (is : words ≡ side_words cs) (counted : before ≡ blocks_before cs t) (term : t < length cs) (block : q < length (nth_list cs t).ends) where
  -- the word of a block in the words of a side
  pub seen-within : 2 + before + q < length words
  seen-within = let l = ap length is in let w = side-within cs t q term block in omega arith

  pub seen-at : get_or words (2 + before + q) 0 ≡ (nth_block cs t q).greatest
  seen-at =
      let place : 2 + before + q ≡ first_word cs t + q = omega arith in
      ap (λ (ws : List ℕ). get_or ws (2 + before + q) 0) is ∙ ap (λ (i : ℕ). get_or (side_words cs) i 0) place ∙ side-at cs t q term block
