use Rattle.std.proofs.Common.{◌≡◌, refl, ℕ, ◌+◌, ◌<◌, ◌≤◌, ◌⊎◌, inl, inr, length, get_or, subst, take, arith}
use Rattle.std.proofs.lemmas.Bool.Decides.{nat_tests}
use Rattle.collection_model.specs.Collection.{postings_of, IsPostingList}
use Rattle.part_cost.specs.Formats.{numbers_of}
use Rattle.pefidx_c.proofs.Prefixes.{good-prefix, bad-prefix, up-to-more}
use Rattle.pefidx_c.proofs.given_lists.good_prefix.Goals.{then-from-least-via-then-from-least, then-from-least-via-else-from-least+then-doc-documents, then-from-least-via-else-from-least+else-doc-documents+then-freq-eq0, then-from-least-via-else-from-least+else-doc-documents+else-freq-eq0+then-sum-from}
use Rattle.pefidx_c.proofs.given_lists.good_prefix.Goals as goal

pub returns-then-from-least-clause-good : goal.returns-then-from-least-clause-good
returns-then-from-least-clause-good c =
    good-prefix (numbers_of c.args.format) c.args.documents c.args.docs.now c.args.freqs.now c.loop-place.place c.loop-place.least c.loop-place.sum c.loop-place.invariant (omega (arith, c.loop-place.auto.place-end)) c.requires.same_length

pub returns-then-from-least-clause-bad : goal.returns-then-from-least-clause-bad
returns-then-from-least-clause-bad c = λ within.
    let place : ℕ = c.loop-place.place in
    let d : ℕ = get_or c.args.docs.now place 0 in
    let f : ℕ = get_or c.args.freqs.now place 0 in
    let why : (d < c.loop-place.least) ⊎ (c.args.documents ≤ d) ⊎ (f ≡ 0) ⊎ ((numbers_of c.args.format).most_sum < c.loop-place.sum + f) =
    elim c.then-from-least.branch as (λ _. (d < c.loop-place.least) ⊎ (c.args.documents ≤ d) ⊎ (f ≡ 0) ⊎ ((numbers_of c.args.format).most_sum < c.loop-place.sum + f)) [
      | then-from-least-via-then-from-least w ↦ inl (omega (arith, w.if-from-least.true, c.from.ensures))
      | then-from-least-via-else-from-least+then-doc-documents w ↦ inr (inl (omega (arith, w.if-doc-documents.true)))
      | then-from-least-via-else-from-least+else-doc-documents+then-freq-eq0 w ↦ inr (inr (inl (omega (arith, w.if-freq-eq0.true))))
      | then-from-least-via-else-from-least+else-doc-documents+else-freq-eq0+then-sum-from w ↦
          let most : w.most_sum.result ≡ (numbers_of c.args.format).most_sum = w.most_sum.ensures in
          inr (inr (inr (omega (arith, w.if-sum-from.true, most, w.from-else-freq-eq0.ensures))))
    ] in
    bad-prefix (numbers_of c.args.format) c.args.documents c.args.docs.now c.args.freqs.now place c.loop-place.least c.loop-place.sum d f c.loop-place.invariant within c.requires.same_length refl refl why

pub loop-place-preserved : goal.loop-place-preserved
loop-place-preserved c =
    let most : c.most_sum.result ≡ (numbers_of c.args.format).most_sum = c.most_sum.ensures in
    let some : 1 ≤ get_or c.args.freqs.now c.loop-place.place 0 = grind (arith, nat_tests, c.if-freq-eq0.false) in
    up-to-more (numbers_of c.args.format) c.args.documents c.args.docs.now c.args.freqs.now c.loop-place.place c.loop-place.least c.loop-place.sum
    (get_or c.args.docs.now c.loop-place.place 0) (get_or c.args.freqs.now c.loop-place.place 0) (c.from-least.result + 1) (c.loop-place.sum + c.from-sum.result)
    c.loop-place.invariant c.loop-place-test.true c.requires.same_length refl refl
    (omega (arith, c.if-from-least.false, c.from.ensures)) (omega (arith, c.if-doc-documents.false)) some (omega (arith, c.type_inv.freqs c.loop-place.place))
    (omega (arith, c.if-sum-from.false, most, c.from-else-freq-eq0.ensures)) (omega (arith, c.from-least.ensures)) (omega (arith, c.from-sum.ensures))

pub returns-clause-good : goal.returns-clause-good
returns-clause-good c =
    let at : c.loop-place.place ≡ length c.args.docs.now = omega (arith, c.loop-place-test.false, c.loop-place.auto.place-end) in
    subst (λ k. IsPostingList (numbers_of c.args.format) c.args.documents (take k (postings_of c.args.docs.now c.args.freqs.now))) at
    (good-prefix (numbers_of c.args.format) c.args.documents c.args.docs.now c.args.freqs.now c.loop-place.place c.loop-place.least c.loop-place.sum c.loop-place.invariant (omega (arith, at)) c.requires.same_length)
