use Rattle.std.proofs.Common.{◌≡◌, sym, ap, ◌∙◌, subst, ℕ, ◌+◌, ◌*◌, ◌<◌, ◌≤◌, List, length, get_or, arith}
use Rattle.std.specs.Int.{bit_at}
use Rattle.std.proofs.lemmas.Bool.{eq-eqb}
use Rattle.scan_plans.proofs.Marks.{IsTaken, marked-at, word-unmarked, appended-none, appended-more, appended-all}
use Rattle.scan_plans.proofs.Windows.{cleared-none, cleared-more, cleared-all}
use Rattle.scan_plans.proofs.docs.append_marked.Goals as goal
use Rattle.scan_plans.proofs.docs.append_marked.Goals.{After-from}

pub loop-i-init : goal.loop-i-init
loop-i-init c = record {
  appended = appended-none c.args.first c.args.marks.now c.args.docs.now.items;
  cleared = cleared-none 0 c.args.marks.now;
  fits = λ k. let fits = c.type_inv.marks k in omega arith;
}

-- a word that is read is one of the marks
inside : (c : After-from) → c.loop-i.i < length c.args.marks.now
inside c = omega (arith, c.requires.within, c.div_ceil-i-end.ensures)

-- and it is as it was
read : (c : After-from) → get_or c.loop-i.marks c.loop-i.i 0 ≡ get_or c.args.marks.now c.loop-i.i 0
read c = c.loop-i.invariant.cleared.rest c.loop-i.i (omega arith)

pub append_word-requires : goal.append_word-requires
append_word-requires c = record {
  fit = λ k lt one.
      let within = inside (goal.at.append_word-requires c).After-from in
      let bit : bit_at (get_or c.args.marks.now c.loop-i.i 0) k ≡ 1 = ap (λ (w : ℕ). bit_at w k) (sym (read (goal.at.append_word-requires c).After-from)) ∙ one in
      let fit = c.requires.fit (64 * c.loop-i.i + k) (omega arith) (marked-at c.args.marks.now c.loop-i.i k lt ∙ eq-eqb _ 1 bit) in
      let start = c.from.ensures in
      omega arith;
}

pub loop-i-preserved : goal.loop-i-preserved
loop-i-preserved c =
    let i : ℕ = c.loop-i.i in
    let first : ℕ = c.args.first in
    let marks : List ℕ = c.args.marks.now in
    let old : List ℕ = c.loop-i.docs.items in
    let new : List ℕ = c.append_word.new.docs.items in
    let so_far = c.loop-i.invariant in
    let within = inside (goal.at.loop-i-preserved c).After-from in
    let taken : IsTaken (first + 64 * i) 64 (get_or marks i 0) old new =
    subst (λ (b : ℕ). IsTaken (b + 64 * i) 64 (get_or marks i 0) old new) c.from.ensures
    (subst (λ (w : ℕ). IsTaken (c.from.result + 64 * i) 64 w old new) (read (goal.at.loop-i-preserved c).After-from) (record { docs = c.in_ok-append_word.ensures.docs })) in
    record {
      appended = appended-more first i marks c.args.docs.now.items old new within taken so_far.appended;
      cleared = cleared-more 0 marks i c.loop-i.marks within so_far.cleared;
      fits = so_far.fits;
    }

pub returns : goal.returns
returns c =
    let past : c.args.reached ≤ 64 * c.loop-i.i = omega (arith, c.div_ceil-i-end.ensures) in
    let fit : c.loop-i.i ≤ length c.args.marks.now = omega (arith, c.requires.within, c.div_ceil-i-end.ensures) in
    record {
      docs = appended-all c.args.first (64 * c.loop-i.i) c.args.marks.now c.args.docs.now.items c.loop-i.docs.items (omega arith) (λ k from inside. c.requires.behind k (omega arith) inside) c.loop-i.invariant.appended;
      count = c.loop-i.invariant.cleared.count;
      clear = cleared-all 0 c.args.marks.now c.loop-i.i c.loop-i.marks
          (λ k from inside. let fits = c.loop-i.invariant.fits k in word-unmarked c.args.marks.now k (omega arith) (λ j lt. c.requires.behind (64 * k + j) (omega arith) (omega arith))) c.loop-i.invariant.cleared;
    }
