use Rattle.std.specs.Prelude.{◌≡◌, ℕ, ◌+◌, ◌*◌, ◌≤◌, List, ◌++◌, drop, filter, count_by, Result, Ok, OnOk}
use Rattle.collection_model.specs.FormatNumbers.{FormatNumbers}
use Rattle.part_cost.specs.Formats.{numbers_of}
use Rattle.io_traits.specs.declared.fail.IoFail.{IoFail}
use Rattle.io_traits.specs.SinkState.{SinkState}
use Rattle.index_file.specs.IndexView.{IndexView, cut_lists}
use Rattle.command_model.specs.AuditText.{CutSequence, sequences_from, sequences_in, has_line, is_longer, IsAuditText, AreAuditLines, fewest_audited, fewest_counted, most_audited, most_counted}
use Rattle.index_printing.specs.PrintLine.{PrintsLine}

-- What printing the audit of an index gives: its text is printed, or a prefix of it; no more part
-- costs are counted than its sequences allow, and where all is printed no fewer than they ask for.
pub record PrintsAudit (i : IndexView) (old new : SinkState) (before after : ℕ)
    (result : Result (Unit {0}) IoFail) : Type 0 where
  pub text : List ℕ
  pub audit : IsAuditText i text
  pub prints : PrintsLine text old new result
  pub counted : OnOk result (before + fewest_audited i ≤ after)
  pub bounded : after ≤ before + most_audited i

-- What printing the lines of some sequences gives.
pub record PrintsLines (format : FormatNumbers) (ss : List CutSequence) (old new : SinkState)
    (before after : ℕ) (result : Result (Unit {0}) IoFail) : Type 0 where
  pub text : List ℕ
  pub lines : AreAuditLines format ss text
  pub prints : PrintsLine text old new result
  pub counted : OnOk result (before + fewest_counted ss ≤ after)
  pub bounded : after ≤ before + most_counted ss

-- The lists before one are audited: the lines of their sequences are printed, and those that have
-- one and those that are longer are told.
pub record IsAudited (i : IndexView) (t : ℕ) (old now : SinkState) (before after shown longer : ℕ)
    : Type 0 where
  pub done : List CutSequence
  pub text : List ℕ
  pub all : sequences_in i ≡ done ++ sequences_from t (drop t (cut_lists i))
  pub lines : AreAuditLines (numbers_of i.format) (filter has_line done) text
  pub prints : PrintsLine text old now (Ok tt)
  pub counted : before + fewest_counted (filter has_line done) ≤ after
  pub bounded : after ≤ before + most_counted (filter has_line done)
  pub shown_is : shown ≡ count_by has_line done
  pub longer_is : longer ≡ count_by is_longer done
  pub few : shown + longer ≤ 2 * t
