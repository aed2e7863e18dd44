use Rattle.std.proofs.Common.{sym, ◌∙◌, ℕ, ◌+◌, ◌*◌, ◌≤◌, length, arith}
use Rattle.std.proofs.lemmas.Bool.{false≢true}
use Rattle.scan_plans.proofs.Candidates.{taken-none, left-inside, left-passed}
use Rattle.scan_plans.proofs.TakenBack.{taken-then}
use Rattle.scan_plans.proofs.window.take_candidate.Goals as goal

pub loop-i-init : goal.loop-i-init
loop-i-init c = record {
  low = c.args.from;
  start = omega arith;
  end = omega arith;
  taken = taken-none c.args.scores.now c.args.marks.now c.requires.reached.wide c.requires.reached.scored c.args.from c.requires.taken;
  passed = λ k lt is. absurd (false≢true (sym (c.requires.taken k lt) ∙ is));
}

pub loop-i-preserved : goal.loop-i-preserved
loop-i-preserved c =
    let so_far = c.loop-i.invariant in
    let scores = c.args.scores.now in
    let marks = c.args.marks.now in
    let next : ℕ = 64 * (c.loop-i.i + 1) in
    let ceil = c.div_ceil-words.ensures in
    let before = c.loop-i-test.true in
    let within = c.requires.reached.within in
    let wide = c.requires.reached.wide in
    let room : next ≤ 64 * length marks = omega arith in
    let inside = left-inside scores marks c.loop-i.scores c.loop-i.marks so_far.low wide so_far.taken c.args.reached next within room c.requires.reached.behind in
    record {
      low = next;
      start = omega arith;
      end = omega arith;
      taken = taken-then so_far.low next scores marks c.loop-i.scores c.loop-i.marks c.take_in_word.new.scores c.take_in_word.new.marks so_far.end so_far.taken c.in_default.ensures.all_taken;
      passed = left-passed scores marks c.loop-i.scores c.loop-i.marks so_far.low wide so_far.taken c.args.least next room inside so_far.passed c.in_default.ensures.none;
    }
