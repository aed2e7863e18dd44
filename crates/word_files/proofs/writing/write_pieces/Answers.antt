use Rattle.std.proofs.Common.{rules, ◌∙◌}
use Rattle.std.proofs.lemmas.List.{nil_from_length}
use Rattle.std.proofs.lemmas.Result.{err_from_is_err_and}
use Rattle.std.specs.Slice.Iter.{chunks_rest}
use Rattle.word_files.proofs.WrittenFile.{begun, more, stopped, ended}
use Rattle.word_files.proofs.writing.write_pieces.Goals as goal

pub loop-part-init : goal.loop-part-init
loop-part-init g c = (search rules, tt, search rules, begun _ _ _ (search rules))

pub loop-part-preserved : goal.loop-part-preserved
loop-part-preserved g c =
    let steps = c.in-Some.ensures.steps in (
      search rules,
      tt,
      steps.0 ∙ c.loop-part.invariant.2,
      more _ _ _ _ _ c.in-Some.part.now (chunks_rest c.next.new.self) _ c.loop-part.invariant.3 steps.1.0 c.spell_into.ensures c.in_ok-depot_write_all.ensures,
    )

pub returns-in_err-depot_write_all : goal.returns-in_err-depot_write_all
returns-in_err-depot_write_all g c =
    let p = err_from_is_err_and c.from_residual.result c.from_residual.ensures.1 in
    rw (p.1, p.2) (stopped _ _ _ _ _ c.in-Some.part.now (chunks_rest c.next.new.self) _ _ c.loop-part.invariant.3 c.in-Some.ensures.steps.1.0 c.spell_into.ensures c.in_err-depot_write_all.ensures)

pub returns : goal.returns
returns g c = ended _ _ _ _ c.loop-part.invariant.3 (nil_from_length _ c.in-None.ensures.steps.1.0)
