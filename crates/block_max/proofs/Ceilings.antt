-- Lemmas on the block in which a document lies.
use Rattle.std.proofs.Common.{◌≡◌, refl, ap, ◌∙◌, subst, ℕ, ◌≤◌, ◌<◌, Bool, true, false, cond, eqb, leb, max, List, [], ◌∷◌, Option, Some, None, IsSomeAnd, arith}
use Rattle.std.specs.List.{All, find}
use Rattle.std.specs.Option.{option_map, unwrap_or}
use Rattle.std.proofs.lemmas.Bool.{leb-true, leb-false, le-leb, lt-leb, eqb-true}
use Rattle.std.proofs.lemmas.List.Elements.{All-head, All-tail}
use Rattle.collection_model.specs.Collection.{Posting, greatest_freq}
use Rattle.scan_plans.specs.Matches.{freq_of_doc}
use Rattle.block_max.specs.Blocks.{Block, block_from, AreBlocks}

abbrev pair_of : Block → ℕ × ℕ
pair_of b = (b.last, b.greatest)

-- the first block is the same for a later document up to its end
same-step : (here later : Bool) (c b : Block) (o r : Option Block) → (here ≡ false → later ≡ false) → (here ≡ true → c ≡ b → later ≡ true) → (o ≡ Some b → r ≡ Some b) → cond here (Some c) o ≡ Some b → cond later (Some c) r ≡ Some b
same-step true later c b o r out at more is = let same : c ≡ b = cc in ap (λ (l : Bool). cond l (Some c) r) (at refl same) ∙ is
same-step false later c b o r out at more is = ap (λ (l : Bool). cond l (Some c) r) (out refl) ∙ more is

same-block : (blocks : List Block) (e d : ℕ) (b : Block) → e ≤ d → d ≤ b.last → block_from blocks e ≡ Some b → block_from blocks d ≡ Some b
same-block [] e d b le within is = cc
same-block (c ∷ blocks) e d b le within is =
    same-step (leb e c.last) (leb d c.last) c b (block_from blocks e) (block_from blocks d)
    (λ out. let before : c.last < e = leb-false e c.last out in let lt : c.last < d = omega arith in lt-leb d c.last lt)
    (λ at same. let last : c.last ≡ b.last = ap (λ (b : Block). b.last) same in let reach : d ≤ c.last = omega arith in le-leb d c.last reach)
    (same-block blocks e d b le within) is

later-step : (here later : Bool) (c : Block) (o r : Option Block) → (here ≡ false → later ≡ false) → (o ≡ None → r ≡ None) → cond here (Some c) o ≡ None → cond later (Some c) r ≡ None
later-step true later c o r out more is = cc
later-step false later c o r out more is = ap (λ (l : Bool). cond l (Some c) r) (out refl) ∙ more is

pub later-none : (blocks : List Block) (e d : ℕ) → e ≤ d → block_from blocks e ≡ None → block_from blocks d ≡ None
later-none [] e d le is = refl
later-none (c ∷ blocks) e d le is =
    later-step (leb e c.last) (leb d c.last) c (block_from blocks e) (block_from blocks d)
    (λ out. let before : c.last < e = leb-false e c.last out in let lt : c.last < d = omega arith in lt-leb d c.last lt)
    (later-none blocks e d le) is

-- no more than the greatest frequency of the block
abbrev IsCovered : List Block → Posting → Type 0
IsCovered blocks p = IsSomeAnd (block_from blocks p.doc) (λ b. p.freq ≤ b.greatest)

freq-step : (here : Bool) (p : Posting) (list : List Posting) (d g : ℕ) → (here ≡ true → p.freq ≤ g) → freq_of_doc d list ≤ g → unwrap_or (option_map (λ p. p.freq) (cond here (Some p) (find (λ p. eqb p.doc d) list))) 0 ≤ g
freq-step true p list d g at more = at refl
freq-step false p list d g at more = more

-- nor than the greatest frequency of the list
pub freq-most : (list : List Posting) (d : ℕ) → freq_of_doc d list ≤ greatest_freq list
freq-most [] d = omega arith
freq-most (p ∷ list) d = let more = freq-most list d in freq-step (eqb p.doc d) p list d (max p.freq (greatest_freq list)) (λ at. omega arith) (omega arith)

freq-within : (blocks : List Block) (list : List Posting) (d : ℕ) (b : Block) → All (IsCovered blocks) list → block_from blocks d ≡ Some b → freq_of_doc d list ≤ b.greatest
freq-within blocks [] d b covered is = omega arith
freq-within blocks (p ∷ list) d b covered is =
    freq-step (eqb p.doc d) p list d b.greatest
    (λ at. let same : p.doc ≡ d = eqb-true p.doc d at in
    let found : block_from blocks p.doc ≡ Some b = ap (block_from blocks) same ∙ is in
    subst (λ (o : Option Block). IsSomeAnd o (λ b. p.freq ≤ b.greatest)) found (All-head (IsCovered blocks) p list covered))
    (freq-within blocks list d b (All-tail (IsCovered blocks) p list covered) is)

freq-none : (blocks : List Block) (list : List Posting) (d : ℕ) → All (IsCovered blocks) list → block_from blocks d ≡ None → freq_of_doc d list ≤ 0
freq-none blocks [] d covered is = omega arith
freq-none blocks (p ∷ list) d covered is =
    freq-step (eqb p.doc d) p list d 0
    (λ at. let same : p.doc ≡ d = eqb-true p.doc d at in
    let found : block_from blocks p.doc ≡ None = ap (block_from blocks) same ∙ is in
    absurd (subst (λ (o : Option Block). IsSomeAnd o (λ b. p.freq ≤ b.greatest)) found (All-head (IsCovered blocks) p list covered)))
    (freq-none blocks list d (All-tail (IsCovered blocks) p list covered) is)

-- the block that an answer tells
block-told : (o : Option Block) (x : ℕ × ℕ) → Some x ≡ option_map pair_of o → (b : Block) × (o ≡ Some b) × (x ≡ pair_of b)
block-told None x is = cc
block-told (Some b) x is = (b, refl, (let same : x ≡ pair_of b = cc in same))

none-told : (o : Option Block) → None ≡ option_map pair_of o → o ≡ None
none-told None is = refl
none-told (Some b) is = cc

first-reaches : (blocks : List Block) (d : ℕ) (b : Block) → block_from blocks d ≡ Some b → d ≤ b.last
first-reaches [] d b is = cc
first-reaches (c ∷ blocks) d b is = reach-step (leb d c.last) c b (block_from blocks d) (λ at. leb-true d c.last at) (first-reaches blocks d b) is
  where
    reach-step : (here : Bool) (c b : Block) (o : Option Block) → (here ≡ true → d ≤ c.last) → (o ≡ Some b → d ≤ b.last) → cond here (Some c) o ≡ Some b → d ≤ b.last
    reach-step true c b o at more is = let same : c ≡ b = cc in let last : c.last ≡ b.last = ap (λ (b : Block). b.last) same in let reach = at refl in omega arith
    reach-step false c b o at more is = more is

pub told-reaches : (blocks : List Block) (d : ℕ) (x : ℕ × ℕ) → Some x ≡ option_map pair_of (block_from blocks d) → d ≤ x.0
told-reaches blocks d x is =
    let told = block-told (block_from blocks d) x is in
    let last : x.0 ≡ told.0.last = ap (λ (x : ℕ × ℕ). x.0) told.2 in
    let reach = first-reaches blocks d told.0 told.1 in
    omega arith

pub told-most : (list : List Posting) (blocks : List Block) (doc : ℕ) (x : ℕ × ℕ) → AreBlocks list blocks → Some x ≡ option_map pair_of (block_from blocks doc) → (d : ℕ) → doc ≤ d → d ≤ x.0 → freq_of_doc d list ≤ x.1
told-most list blocks doc x are is d after within =
    let told = block-told (block_from blocks doc) x is in
    let last : x.0 ≡ told.0.last = ap (λ (x : ℕ × ℕ). x.0) told.2 in
    let greatest : x.1 ≡ told.0.greatest = ap (λ (x : ℕ × ℕ). x.1) told.2 in
    let le = freq-within blocks list d told.0 are.covered (same-block blocks doc d told.0 after (omega arith) told.1) in
    omega arith

pub none-most : (list : List Posting) (blocks : List Block) (doc : ℕ) → AreBlocks list blocks → None ≡ option_map pair_of (block_from blocks doc) → (d : ℕ) → doc ≤ d → freq_of_doc d list ≤ 0
none-most list blocks doc are is d after = freq-none blocks list d are.covered (later-none blocks doc d after (none-told (block_from blocks doc) is))
