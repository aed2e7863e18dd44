use Rattle.std.proofs.Common.{◌≡◌, ℕ, ◌+◌, ◌∙◌, ◌∷◌, ◌++◌, [], List, length, map, refl, ap, sym, arith}
use Rattle.std.specs.List.{range_with_len}
use Rattle.std.proofs.lemmas.List.{take_all, take_more_set}
use Rattle.std.proofs.lemmas.List.FromFn.{map-range_with_len_more}
use Rattle.part_codec.proofs.forms.OnesView.numbers_into.Goals as goal

pub loop-k-init : goal.loop-k-init
loop-k-init c = refl

pub loop-k-preserved : goal.loop-k-preserved
loop-k-preserved c =
    let k : ℕ = c.loop-k.k in
    let e : 0 + k ≡ k = omega arith in
    take_more_set c.loop-k.to k (k + c.args.base) (omega arith)
    ∙ ap (λ (xs : List ℕ). xs ++ (k + c.args.base) ∷ []) c.loop-k.invariant
    ∙ sym (map-range_with_len_more (λ y. y + c.args.base) 0 k k e)

pub returns : goal.returns
returns c =
    let all : c.loop-k.k ≡ length c.args.to.now = omega (arith, c.loop-k-test.false, c.loop-k.auto.k-end, c.loop-k.auto.to) in
    sym (take_all c.loop-k.k c.loop-k.to (omega (arith, all, c.loop-k.auto.to))) ∙ c.loop-k.invariant ∙ ap (λ n. map (λ y. y + c.args.base) (range_with_len 0 n)) all
