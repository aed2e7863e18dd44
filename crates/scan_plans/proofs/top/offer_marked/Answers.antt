use Rattle.std.proofs.Common.{◌≡◌, sym, ◌∙◌, ℕ, ◌+◌, ◌-◌, ◌*◌, ◌<◌, ◌≤◌, List, length, get_or, take, drop, arith}
use Rattle.std.proofs.lemmas.List.{length-take-le, length-drop, get_or-take, get_or-drop}
use Rattle.scan_plans.specs.Window.{IsReached}
use Rattle.scan_plans.proofs.Bests.{IsPiece, offered-none, offered-skip, offered-word}
use Rattle.scan_plans.proofs.Marks.{unmarked, word-unmarked}
use Rattle.scan_plans.proofs.Windows.{IsCleared, cleared-none, cleared-more, cleared-piece, cleared-all}
use Rattle.scan_plans.proofs.top.offer_marked.Goals as goal

pub loop-i-init : goal.loop-i-init
loop-i-init c = record {
  offered = offered-none c.args.first c.args.scores.now c.args.top.now c.requires.offers.above;
  cleared = cleared-none 0 c.args.scores.now;
  unmarked = cleared-none 0 c.args.marks.now;
  fits = λ k. let fits = c.type_inv.marks k in omega arith;
}

-- the scores of a word are those that the window began with
word-piece : (at n : ℕ) (old now : List ℕ) → n ≡ 64 → at + 64 ≤ length old → IsCleared 0 at old now → IsPiece at 64 old (take n (drop at now))
word-piece at n old now word within cleared =
    let count = cleared.count in
    let long : length (take n (drop at now)) ≡ n = length-take-le n (drop at now) (omega (arith, length-drop at now)) in
    record {
      count = long ∙ word;
      within = within;
      same = λ k lt. get_or-take n (drop at now) k 0 (omega arith) ∙ get_or-drop at now k 0 ∙ cleared.rest (at + k) (omega arith);
    }

pub loop-i-preserved : goal.loop-i-preserved
loop-i-preserved c =
    let so_far = c.loop-i.invariant in
    let i : ℕ = c.loop-i.i in
    let first : ℕ = c.args.first in
    let scores : List ℕ = c.args.scores.now in
    let within = c.requires.reached.within in
    let same = c.requires.same in
    let ceil = c.div_ceil-i-end.ensures in
    let inside : i < length c.args.marks.now = omega arith in
    let start = c.from.ensures in
    let base : c.from.result + 64 * i ≡ first + 64 * i = omega arith in
    let is = c.offer_word.ensures in
    let n : ℕ = 64 * i + 64 - 64 * i in
    let word : n ≡ 64 = omega arith in
    record {
      offered = offered-word first (c.from.result + 64 * i) (64 * i) (64 * (i + 1)) scores (take n (drop (64 * i) c.loop-i.scores)) c.args.top.now c.loop-i.top c.offer_word.new.top base (omega arith)
          (word-piece (64 * i) n scores c.loop-i.scores word (omega arith) so_far.cleared) is.k is.above is.best is.bound so_far.offered;
      cleared = cleared-piece 0 scores (64 * i) n (64 * (i + 1)) c.loop-i.scores c.offer_word.new.scores (omega arith) (omega arith) (is.count ∙ sym word) (λ k lt. is.clear k 0 (let count = is.count in omega arith)) so_far.cleared;
      unmarked = cleared-more 0 c.args.marks.now i c.loop-i.marks inside so_far.unmarked;
      fits = so_far.fits;
    }

-- a score behind the places that were reached
none-behind : (reached from : ℕ) (marks scores : List ℕ) → reached ≤ from → IsReached scores marks reached → (k : ℕ) → from ≤ k → k < length scores → get_or scores k 0 ≡ 0
none-behind reached from marks scores le is k after inside = let wide = is.wide in is.scored k inside (is.behind k (omega arith) (omega arith))

pub returns : goal.returns
returns c =
    let offered = c.loop-i.invariant.offered in
    let cleared = c.loop-i.invariant.cleared in
    let words = c.loop-i.invariant.unmarked in
    let past : c.args.reached ≤ 64 * c.loop-i.i = omega (arith, c.div_ceil-i-end.ensures) in
    let fit : 64 * c.loop-i.i ≤ length c.args.scores.now = omega (arith, c.requires.reached.within, c.requires.same, c.div_ceil-i-end.ensures) in
    let none = none-behind c.args.reached (64 * c.loop-i.i) c.args.marks.now c.args.scores.now past c.requires.reached in
    let whole = offered-skip c.args.first (64 * c.loop-i.i) (length c.args.scores.now) c.args.scores.now c.args.top.now c.loop-i.top fit (omega arith) none offered in
    record {
      k = offered.k;
      above = whole.above;
      best = whole.best;
      bound = offered.bound;
      left = record {
        count = cleared.count;
        marks_count = words.count;
        blank = record {
          wide = omega (arith, c.requires.same, cleared.count, words.count);
          clear = cleared-all 0 c.args.scores.now (64 * c.loop-i.i) c.loop-i.scores none cleared;
          none = unmarked c.loop-i.marks (cleared-all 0 c.args.marks.now c.loop-i.i c.loop-i.marks
              (λ k from inside. let fits = c.loop-i.invariant.fits k in word-unmarked c.args.marks.now k (omega arith) (λ j lt. c.requires.reached.behind (64 * k + j) (omega arith) (omega arith))) words);
        };
      };
    }
