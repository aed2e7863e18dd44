use Rattle.std.proofs.Common.{◌≡◌, sym, ◌∙◌, ℕ, ◌+◌, true, arith}
use Rattle.std.proofs.lemmas.Bool.{false≢true}
use Rattle.index_intervals.specs.Passed.{held-passed, not-long-passed}
use Rattle.index_intervals.proofs.Taken.{counted, head-long, unpaid}
use Rattle.index_intervals.proofs.taking.ListMaximaListSink.room.Goals as goal
use Rattle.index_intervals.proofs.taking.ListMaximaListSink.room.Goals.{then-self-via-then-self, then-self-via-else-self+then-not-is_long}

pub returns-then-self-clause-passed : goal.returns-then-self-clause-passed
returns-then-self-clause-passed c = λ col took of. elim c.then-self.branch [
  | then-self-via-then-self w ↦ (λ good kept. absurd (false≢true (sym kept ∙ w.if-self.true)))
  | then-self-via-else-self+then-not-is_long w ↦ not-long-passed c.args.self.now col c.args.head.term took (head-long c.args.head col w.is_long.result of w.is_long.ensures ∙ w.if-not-is_long.true)
]

pub returns-then-postings-self-clause-passed : goal.returns-then-postings-self-clause-passed
returns-then-postings-self-clause-passed c = λ col took of good kept.
    let t : ℕ = c.args.head.term in
    let h = took good kept in
    let long = head-long c.args.head col true of (sym c.if-not-is_long.false ∙ c.is_long.ensures) in
    let p : ℕ = c.in-Some.postings in
    let is : p ≡ c.args.self.now.postings + c.args.head.postings = omega (arith, c.in-Some.ensures, c.from.ensures) in
    record {
      postings = counted col t c.args.head.postings long of.postings c.args.self.now p h is;
      maxima = held-passed c.args.self.now.words col t c.args.self.now.writer h.maxima (unpaid col t c.args.head.postings long of.postings c.args.self.now p h is (omega (arith, c.if-postings-self.true)));
    }
