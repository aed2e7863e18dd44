use Rattle.std.proofs.Common.{◌≡◌, sym, ap, ◌∙◌, ℕ, ◌-◌, ◌/◌, ◌≢◌, ◌||◌, true, List, get_or, set, arith}
use Rattle.scan_plans.specs.Window.{is_marked}
use Rattle.scan_plans.proofs.Given.{or-some, given-none, given-more}
use Rattle.scan_plans.proofs.Marks.{marked-word, mark-same, mark-other}
use Rattle.scan_plans.proofs.window.mark_docs.Goals as goal

pub loop-j-init : goal.loop-j-init
loop-j-init c = given-none ◌||◌ c.args.first c.args.docs.now (λ _. true) 0 (is_marked c.args.marks.now)

pub loop-j-preserved : goal.loop-j-preserved
loop-j-preserved c =
    let docs : List ℕ = c.args.docs.now in
    let first : ℕ = c.args.first in
    let now : List ℕ = c.loop-j.marks in
    let j : ℕ = c.loop-j.j in
    let d : ℕ = get_or docs j 0 in
    let p : ℕ = d - c.from.result in
    let inside = c.requires.inside j 0 (omega arith) in
    let low = inside.0 in
    let high = inside.1 in
    let long = c.loop-j.auto.marks in
    let start = c.from.ensures in
    let at : p ≡ d - first = ap (λ (n : ℕ). d - n) start in
    let new : List ℕ = set now (p / 64) (marked-word now p) in
    given-more ◌||◌ first docs (λ _. true) 0 j (is_marked c.args.marks.now) (is_marked now) (is_marked new) c.requires.rising (omega arith) (omega arith)
    (λ i from le. (c.requires.inside i 0 (omega arith)).0)
    (ap (is_marked new) (sym at) ∙ mark-same now p (omega arith) ∙ or-some (is_marked now (d - first)))
    (λ k other. let apart : k ≢ p = omega arith in mark-other now p k apart (omega arith))
    c.loop-j.invariant
