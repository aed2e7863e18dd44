use Rattle.std.proofs.Common.{◌≡◌, sym, ap, ◌∙◌, subst, ℕ, ◌*◌, ◌<◌, ◌≤◌, ◌≢◌, List, mul-le-mul_left, arith}
use Rattle.std.specs.Prelude.{AllPairs}
use Rattle.std.specs.List.{All}
use Rattle.std.proofs.lemmas.Bool.{ltb-true}
use Rattle.collection_model.specs.Collection.{Posting}
use Rattle.interval_max.specs.Intervals.{greatest_in}
use Rattle.interval_max.specs.Maxima.{bound_of}
use Rattle.interval_max.specs.Peaks.{peak_at}
use Rattle.interval_max.specs.declared.peaks.Peak.{Peak}
use Rattle.interval_max.proofs.Raised.{bound-le, bound-reaches, freq-below}
use Rattle.interval_max.proofs.Whole.{in-le, peak-le, whole-peaks}
use Rattle.interval_max.proofs.bounds.raise_by_list.Goals as goal

pub raise-requires-clause-room : goal.raise-requires-clause-room
raise-requires-clause-room g c = λ v inside.
    let product : c.args.weight * bound_of c.args.maxima v ≤ c.args.weight * 4294967295 = mul-le-mul_left c.args.weight (bound-le c.args.maxima v) in
    omega (arith, c.requires.room v inside)

pub raise_by_peaks-requires-clause-rising : goal.raise_by_peaks-requires-clause-rising
raise_by_peaks-requires-clause-rising g c = subst (AllPairs (λ (a b : Peak). a.interval < b.interval)) (sym c.deref.ensures.value) c.in_ok-take_peaks.ensures.peaks.peaks_are.rising

pub raise_by_peaks-requires-clause-small : goal.raise_by_peaks-requires-clause-small
raise_by_peaks-requires-clause-small g c =
    let list : List Posting = g.C.DocCursor.list c.args.cursor.now in
    subst (All (λ (p : Peak). p.greatest ≤ 4294967295)) (sym c.deref.ensures.value)
    (λ k d within. let low = peak-le list c.take_peaks.new.peaks.items c.in_ok-take_peaks.ensures.peaks k d within in let most = freq-below list (g.met.C.DocCursor.well_formed c.args.cursor.now).well_formed in omega arith)

-- where the bounds are known
pub returns-then-are_known-clause-raised : goal.returns-then-are_known-clause-raised
returns-then-are_known-clause-raised g c =
    let list : List Posting = g.C.DocCursor.list c.args.cursor.now in
    let b = c.args.maxima in
    let known : b.step ≢ 0 = λ none. let some = ltb-true 0 b.step (sym c.are_known.ensures ∙ c.if-are_known.true) in omega arith in
    record {
      count = c.raise.ensures.count;
      least = λ v inside. let product = mul-le-mul_left c.args.weight (bound-reaches list b v c.requires.maxima known) in omega (arith, c.raise.ensures.raised v inside);
      most = λ v inside. let product = mul-le-mul_left c.args.weight (bound-le b v) in omega (arith, c.raise.ensures.raised v inside);
    }

pub returns-clause-raised : goal.returns-clause-raised
returns-clause-raised g c =
    let list : List Posting = g.C.DocCursor.list c.args.cursor.now in
    let most = freq-below list (g.met.C.DocCursor.well_formed c.args.cursor.now).well_formed in
    let told : (v : ℕ) → peak_at c.deref.result.now v ≡ greatest_in list v = λ v. ap (λ (ps : List Peak). peak_at ps v) c.deref.ensures.value ∙ whole-peaks list c.take_peaks.new.peaks.items c.in_ok-take_peaks.ensures.peaks v in
    record {
      count = c.raise_by_peaks.ensures.count;
      least = λ v inside. let same = ap (λ (n : ℕ). c.args.weight * n) (told v) in omega (arith, c.raise_by_peaks.ensures.raised v inside);
      most = λ v inside.
          let same = ap (λ (n : ℕ). c.args.weight * n) (told v) in
          let product : c.args.weight * greatest_in list v ≤ c.args.weight * 4294967295 = mul-le-mul_left c.args.weight (omega (arith, in-le list v)) in
          omega (arith, c.raise_by_peaks.ensures.raised v inside);
    }
