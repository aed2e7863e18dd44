use Rattle.std.proofs.Common.{◌≡◌, sym, ap, ◌∙◌, ℕ, ◌+◌, ◌-◌, ◌*◌, ◌/◌, ◌<◌, ◌≢◌, ◌||◌, true, List, get_or, set, slice_index, arith}
use Rattle.std.proofs.lemmas.List.{get_or-set_same, get_or-set_other}
use Rattle.std.proofs.lemmas.List.Kept.{AllPairs-from_increasing}
use Rattle.scan_plans.specs.Window.{is_marked}
use Rattle.scan_plans.proofs.Given.{or-some, given-none, given-more}
use Rattle.scan_plans.proofs.Marks.{marked-word, mark-same, mark-other}
use Rattle.scan_plans.proofs.window.add_postings.Goals as goal

pub loop-j-init : goal.loop-j-init
loop-j-init c = record {
  given = given-none ◌+◌ c.args.window.first c.args.docs.now (λ j. c.args.weight * slice_index c.args.freqs.now j) 0 (slice_index c.args.window.scores.now);
  marked = given-none ◌||◌ c.args.window.first c.args.docs.now (λ _. true) 0 (is_marked c.args.window.marks.now);
}

pub overflow_add-scores : goal.overflow_add-scores
overflow_add-scores c =
    let doc : ℕ = get_or c.args.docs.now c.loop-j.j 0 in
    let each = c.requires.each in
    let above = (c.requires.inside c.loop-j.j 0 (omega arith)).0 in
    let room = c.requires.room c.loop-j.j (omega arith) in
    let same = c.loop-j.invariant.given.others (doc - c.args.window.first) (λ i from lt e. let apart : get_or c.args.docs.now i 0 < doc = AllPairs-from_increasing c.args.docs.now c.requires.rising i c.loop-j.j 0 lt (omega arith) in absurd (omega arith)) in
    let read = ap (λ (n : ℕ). get_or c.loop-j.scores (doc - n) 0) c.from.ensures in
    let times = ap (λ (n : ℕ). n * get_or c.args.freqs.now c.loop-j.j 0) c.from-in-loop-j.ensures in
    omega arith

pub loop-j-preserved : goal.loop-j-preserved
loop-j-preserved c =
    let docs : List ℕ = c.args.docs.now in
    let first : ℕ = c.args.window.first in
    let now : List ℕ = c.loop-j.scores in
    let marks : List ℕ = c.loop-j.marks in
    let j : ℕ = c.loop-j.j in
    let d : ℕ = get_or docs j 0 in
    let f : ℕ = get_or c.args.freqs.now j 0 in
    let p : ℕ = d - c.from.result in
    let v : ℕ = get_or now p 0 + c.from-in-loop-j.result * f in
    let inside = c.requires.inside j 0 (omega arith) in
    let low = inside.0 in
    let high = inside.1 in
    let long = c.loop-j.auto.scores in
    let words = c.loop-j.auto.marks in
    let whole = c.requires.wide in
    let start = c.from.ensures in
    let at : p ≡ d - first = ap (λ (n : ℕ). d - n) start in
    let read = ap (λ (i : ℕ). get_or now i 0) at in
    let moved = ap (λ (i : ℕ). get_or (set now p v) i 0) at in
    let times = ap (λ (n : ℕ). n * f) c.from-in-loop-j.ensures in
    let new : List ℕ = set marks (p / 64) (marked-word marks p) in
    record {
      given = given-more ◌+◌ first docs (λ j. c.args.weight * slice_index c.args.freqs.now j) 0 j (slice_index c.args.window.scores.now) (slice_index now) (slice_index (set now p v)) c.requires.rising (omega arith) (omega arith)
          (λ i from le. (c.requires.inside i 0 (omega arith)).0)
          (let written = get_or-set_same now p v 0 (omega arith) in omega arith)
          (λ k other. let apart : k ≢ p = omega arith in get_or-set_other now p k v 0 apart)
          c.loop-j.invariant.given;
      marked = given-more ◌||◌ first docs (λ _. true) 0 j (is_marked c.args.window.marks.now) (is_marked marks) (is_marked new) c.requires.rising (omega arith) (omega arith)
          (λ i from le. (c.requires.inside i 0 (omega arith)).0)
          (ap (is_marked new) (sym at) ∙ mark-same marks p (omega arith) ∙ or-some (is_marked marks (d - first)))
          (λ k other. let apart : k ≢ p = omega arith in mark-other marks p k apart (omega arith))
          c.loop-j.invariant.marked;
    }
