use Rattle.std.proofs.Common.{◌≡◌, sym, subst, ℕ, ◌+◌, ◌^◌, ◌<◌, ◌≤◌, List, length, get_or, arith, ap, ◌∙◌}
use Rattle.std.specs.Int.{bit_at}
use Rattle.std.proofs.lemmas.Nat.Bits.{bit_at-zero}
use Rattle.scan_plans.specs.Best.{IsBar}
use Rattle.scan_plans.specs.Ranking.{Gathering, held_of}
use Rattle.scan_plans.proofs.Bests.{IsOffered, later-is_new, offered-none, offered-more, offered-passed, offered-skip}
use Rattle.scan_plans.proofs.Marks.{IsRest, rest-all, rest-more, rest-less, lowest, lowest-from, lowest-one, none-between}
use Rattle.scan_plans.proofs.Windows.{cleared-none, cleared-more, cleared-skip, cleared-all}
use Rattle.scan_plans.proofs.top.offer_word.Goals as goal
use Rattle.scan_plans.proofs.top.offer_word.Goals.{then-score-bar, else-score-bar}

pub loop-rest-init : goal.loop-rest-init
loop-rest-init c = record {
  low = 0;
  rest = rest-all c.args.word;
  offered = offered-none c.args.base c.args.scores.now c.args.top.now c.requires.offers.above;
  same_bar = c.bar-bar.ensures.value;
  bar = c.bar-bar.ensures.bar;
  cleared = cleared-none 0 c.args.scores.now;
}

-- the document is later than all held
pub offer-requires-clause-new : goal.offer-requires-clause-new
offer-requires-clause-new c =
    let so_far = c.loop-rest.invariant in
    let rest : ℕ = c.loop-rest.rest in
    let test = c.loop-rest-test.true in
    let auto = c.loop-rest.auto.rest-fits in
    let start = lowest-from c.args.word so_far.low rest (omega arith) (omega arith) so_far.rest in
    later-is_new (c.args.base + so_far.low) (c.args.base + lowest c.args.word so_far.low rest (omega arith) (omega arith) so_far.rest) c.loop-rest.top.found so_far.offered.above (omega arith)

pub loop-rest-preserved : goal.loop-rest-preserved
loop-rest-preserved c =
    let so_far = c.loop-rest.invariant in
    let base : ℕ = c.args.base in
    let word : ℕ = c.args.word in
    let rest : ℕ = c.loop-rest.rest in
    let low : ℕ = so_far.low in
    let test = c.loop-rest-test.true in
    let auto = c.loop-rest.auto.rest-fits in
    let some : 0 < rest = omega arith in
    let fits : rest < 2 ^ 64 = omega arith in
    let one : ℕ = lowest word low rest some fits so_far.rest in
    let is = lowest-one word low rest some fits so_far.rest in
    let start : low ≤ one = lowest-from word low rest some fits so_far.rest in
    let scores : List ℕ = c.args.scores.now in
    let whole = c.requires.whole in
    let score : ℕ = get_or c.loop-rest.scores one 0 in
    let old : Gathering = c.args.top.now in
    let now : Gathering = c.loop-rest.top in
    let short = is.0 in
    let within : one < length scores = omega arith in
    let nothing : (k : ℕ) → low ≤ k → k < one → get_or scores k 0 ≡ 0 = λ k from before. c.requires.marked k (omega arith) (none-between word low rest some fits so_far.rest k from before) in
    let here : IsOffered base one scores old now = offered-skip base low one scores old now start (omega arith) nothing so_far.offered in
    let read : score ≡ get_or scores one 0 = so_far.cleared.rest one start in
    record {
      low = one + 1;
      rest = rest-more word low rest some fits so_far.rest;
      offered = elim c.if-score-bar.branch as (λ _. IsOffered base (one + 1) scores old c.if-score-bar.top) [
        | then-score-bar w ↦ (let above = w.if-score-bar.true in
            subst (λ (t : Gathering). IsOffered base (one + 1) scores old t) (sym w.top-is)
            (offered-more base one score scores old now w.offer.new.self within read (omega arith) w.offer.ensures.k w.offer.ensures.first w.offer.ensures.among here))
        | else-score-bar w ↦ subst (λ (t : Gathering). IsOffered base (one + 1) scores old t) (sym w.top-is)
            (offered-passed base one score c.loop-rest.bar scores old now within read w.if-score-bar.false so_far.bar here)
      ];
      same_bar = elim c.if-score-bar.branch as (λ _. c.if-score-bar.bar ≡ c.if-score-bar.top.bar) [
        | then-score-bar w ↦ w.bar-is ∙ w.bar-bar-then-score-bar.ensures.value ∙ ap (λ (t : Gathering). t.bar) (sym w.top-is)
        | else-score-bar w ↦ w.bar-is ∙ so_far.same_bar ∙ ap (λ (t : Gathering). t.bar) (sym w.top-is)
      ];
      bar = elim c.if-score-bar.branch as (λ _. IsBar c.if-score-bar.top.k (held_of c.if-score-bar.top) c.if-score-bar.bar) [
        | then-score-bar w ↦ subst (λ (t : Gathering). IsBar t.k (held_of t) c.if-score-bar.bar) (sym w.top-is) (subst (IsBar w.offer.new.self.k (held_of w.offer.new.self)) (sym w.bar-is) w.bar-bar-then-score-bar.ensures.bar)
        | else-score-bar w ↦ subst (λ (t : Gathering). IsBar t.k (held_of t) c.if-score-bar.bar) (sym w.top-is) (subst (IsBar now.k (held_of now)) (sym w.bar-is) so_far.bar)
      ];
      cleared = cleared-more 0 scores one c.loop-rest.scores within (cleared-skip 0 scores low one c.loop-rest.scores nothing start so_far.cleared);
    }

pub loop-rest-smaller : goal.loop-rest-smaller
loop-rest-smaller c =
    let so_far = c.loop-rest.invariant in
    let some = c.loop-rest-test.true in
    let fits = c.loop-rest.auto.rest-fits in
    rest-less c.args.word so_far.low c.loop-rest.rest (omega arith) (omega arith) so_far.rest

-- behind the last mark there is nothing
rest-none : (word low rest : ℕ) (scores : List ℕ) → rest ≡ 0 → IsRest word low rest → ((k : ℕ) → k < 64 → bit_at word k ≡ 0 → get_or scores k 0 ≡ 0) → (k : ℕ) → low ≤ k → k < 64 → get_or scores k 0 ≡ 0
rest-none word low rest scores none is marked k from lt = marked k lt (sym (is.same k from lt) ∙ ap (λ (r : ℕ). bit_at r k) none ∙ bit_at-zero k)

-- all were offered
offered-whole : (base word low rest : ℕ) (scores : List ℕ) (old now : Gathering) → rest ≡ 0 → length scores ≡ 64 → IsRest word low rest → ((k : ℕ) → k < 64 → bit_at word k ≡ 0 → get_or scores k 0 ≡ 0) → IsOffered base low scores old now → IsOffered base 64 scores old now
offered-whole base word low rest scores old now none whole is marked so_far = offered-skip base low 64 scores old now is.within (omega arith) (rest-none word low rest scores none is marked) so_far

pub returns-clause-above : goal.returns-clause-above
returns-clause-above c = (offered-whole c.args.base c.args.word c.loop-rest.invariant.low c.loop-rest.rest c.args.scores.now c.args.top.now c.loop-rest.top c.loop-rest-test.false c.requires.whole c.loop-rest.invariant.rest c.requires.marked c.loop-rest.invariant.offered).above

pub returns-clause-best : goal.returns-clause-best
returns-clause-best c = (offered-whole c.args.base c.args.word c.loop-rest.invariant.low c.loop-rest.rest c.args.scores.now c.args.top.now c.loop-rest.top c.loop-rest-test.false c.requires.whole c.loop-rest.invariant.rest c.requires.marked c.loop-rest.invariant.offered).best

pub returns-clause-clear : goal.returns-clause-clear
returns-clause-clear c =
    let whole = c.requires.whole in
    cleared-all 0 c.args.scores.now c.loop-rest.invariant.low c.loop-rest.scores (λ k from inside. rest-none c.args.word c.loop-rest.invariant.low c.loop-rest.rest c.args.scores.now c.loop-rest-test.false c.loop-rest.invariant.rest c.requires.marked k from (omega arith)) c.loop-rest.invariant.cleared
