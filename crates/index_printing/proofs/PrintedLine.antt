-- The line of a summary, made and printed.
use Rattle.std.proofs.Common.{◌≡◌, ℕ, arith, refl, sym, ◌∙◌, ap, List, ◌++◌, append-nil, inl, inr}
use Rattle.std.specs.Prelude.{codes, false, Result, Ok, Err}
use Rattle.serde_json.specs.Data.{Data}
use Rattle.serde_json.specs.Written.{compact_text, has_float}
use Rattle.io_traits.specs.declared.fail.IoFail.{IoFail}
use Rattle.io_traits.specs.declared.fail.IoFail.TheVariants as call
use Rattle.io_traits.specs.SinkState.{SinkState}
use Rattle.io_traits.specs.Helpers.{WritesAll}
use Rattle.index_file.specs.IndexView.{IndexView}
use Rattle.pef_report.specs.declared.counts.Counts.{Counts}
use Rattle.pef_report.specs.Summary.{summary_of}
use Rattle.command_model.specs.SummaryLine.{counts_of, summary_line}
use Rattle.index_printing.specs.PrintLine.{PrintsLine}

-- the text of the object of the counts, and then a newline, is the line
pub line-made : (i : IndexView) (counts : Counts) (value : Data) (text line : List ℕ) → counts ≡ counts_of i → value ≡ summary_of counts
    → (has_float value ≡ false → text ≡ compact_text value) → line ≡ text ++ codes "\n" → line ≡ summary_line i
unfolding summary_line
line-made i counts value text line ec ed h el =
    let is : value ≡ summary_of (counts_of i) = ed ∙ ap summary_of ec in
    el ∙ ap (λ t. t ++ codes "\n") (h (ap has_float is) ∙ ap compact_text is)

abbrev Printed : Type 0
Printed = Result (Unit {0}) IoFail

-- the line was not made
pub not-made : (text : List ℕ) (o : SinkState) → PrintsLine text o o (Err call.NoMemory)
not-made text o = record {
  tells = refl;
  whole = λ t. tt;
  prefix = λ t. (0, omega arith, sym (append-nil o.written));
  write_only_where_it_rose = λ h. let b : ◌≡◌ {A = Printed} (Err call.NoMemory) (Err call.Failed) = h in cc;
  count_rises_only_there = inr refl;
  counts_never_fall = (omega arith, omega arith);
}

-- it was made, and not written whole
not-printed : (text : List ℕ) (o o' : SinkState) (fail : IoFail) → WritesAll o o' text (Err fail) → PrintsLine text o o' (Err fail)
not-printed text o o' call.Failed w = record {
  tells = w.tells;
  whole = λ t. tt;
  prefix = λ t. w.prefix t;
  write_only_where_it_rose = λ h. w.faults.failed_only_where_it_rose refl;
  count_rises_only_there = inl refl;
  counts_never_fall = (w.faults.never_falls, w.refusals);
}
not-printed text o o' call.NoMemory w = record {
  tells = w.tells;
  whole = λ t. tt;
  prefix = λ t. w.prefix t;
  write_only_where_it_rose = λ h. let b : ◌≡◌ {A = Printed} (Err call.NoMemory) (Err call.Failed) = h in cc;
  count_rises_only_there = inr (w.faults.same_at_no_memory refl);
  counts_never_fall = (w.faults.never_falls, w.refusals);
}

-- it was written whole
printed : (text : List ℕ) (o o' : SinkState) → WritesAll o o' text (Ok tt) → PrintsLine text o o' (Ok tt)
printed text o o' w = record {
  tells = w.tells;
  whole = λ t. w.whole t;
  prefix = λ t. tt;
  write_only_where_it_rose = λ h. let b : ◌≡◌ {A = Printed} (Ok tt) (Err call.Failed) = h in cc;
  count_rises_only_there = inr (w.faults.same_at_ok refl);
  counts_never_fall = (w.faults.never_falls, w.refusals);
}

-- it was made, and written or not
pub printed-or-not : (text : List ℕ) (o o' : SinkState) (r : Result (Unit {0}) IoFail) → WritesAll o o' text r → PrintsLine text o o' r
printed-or-not text o o' (Ok u) w = printed text o o' w
printed-or-not text o o' (Err fail) w = not-printed text o o' fail w
