use Rattle.std.proofs.Common.{◌≡◌, sym, ◌∙◌, ℕ, ◌≤◌, Some, arith}
use Rattle.scan_plans.specs.Scan.{doc_at}
use Rattle.scan_plans.proofs.Postings.{at-doc, not-at-doc, stands-later}
use Rattle.scan_plans.proofs.Steps.{next-is-later, nothing-between, nothing-left}
use Rattle.scan_plans.proofs.skips.cursors_tell.Goals as goal

pub returns : goal.returns
returns c = record {
  at = λ list d next place good stands is.
      let later = next-is-later list d place next stands is in
      let only : (e : ℕ) → doc_at list place ≡ Some e → next ≤ e = λ e other. let same : Some e ≡ Some next = sym other ∙ is in let q : e ≡ next = cc in omega arith in
      let at = at-doc list next place good.well_formed (stands-later list d next place good.well_formed stands later only) is in
      (later, at.has, at.freq);
  not_at = λ list d place good stands not. let beside = not-at-doc list d place good.well_formed stands not in (beside.has, beside.freq);
  between = λ list d place next e good stands is from before. nothing-between list d place next e good stands is from before;
  left = λ list d place e stands is from. nothing-left list d place e stands is from;
}
