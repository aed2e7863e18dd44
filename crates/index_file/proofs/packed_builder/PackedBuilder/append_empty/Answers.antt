use Rattle.std.proofs.Common.{◌∙◌, ◌+◌, ◌-◌, ◌++◌, sym, ap, subst, length, inl, inr, arith}
use Rattle.std.specs.Prelude.{slice_index}
use Rattle.std.specs.List.{range_with_len}
use Rattle.std.proofs.lemmas.Result.{on_ok_weaker}
use Rattle.index_file.specs.Builder.{IsPackedKept, packed_built, with_empty_lists}
use Rattle.index_file.proofs.AddedBoth.{either-way}
use Rattle.index_file.proofs.PackedBuilt.{packed-holds}
use Rattle.index_file.proofs.EmptyLists.{PackedEmpty, packed-empty}
use Rattle.index_file.proofs.packed_builder.PackedBuilder.append_empty.Goals as goal
use Rattle.index_file.proofs.packed_builder.PackedBuilder.append_empty.Goals.{After-push_run}

-- what is kept where there was memory
kept : (c : After-push_run) → PackedEmpty c.self.inside.documents c.self.inside.bits c.self.inside.starts
    (c.self.inside.starts ++ range_with_len (slice_index c.self.inside.starts (length c.self.inside.starts - 1) + 1) c.args.count) c.args.count
kept c =
    let s = c.self.inside in
    let from = (packed-holds s.documents s.bits s.starts c.self.invariant).last in
    subst (λ f. PackedEmpty s.documents s.bits s.starts (s.starts ++ range_with_len f c.args.count) c.args.count) (sym from)
    (packed-empty s.documents s.bits s.starts c.args.count c.self.invariant (omega (arith, c.requires.room, ap (λ b. length b.directory) c.self.view_is)))

pub invariant_of-self : goal.invariant_of-self
invariant_of-self c =
    let s = c.self.inside in
    let a = (goal.at.invariant_of-self c).After-push_run in
    elim (either-way c.push_run.result c.push_run.ensures.ok c.push_run.ensures.err) [
      | inl more ↦ subst (IsPackedKept s.documents s.bits) (sym more) (kept a).kept
      | inr same ↦ subst (IsPackedKept s.documents s.bits) (sym same) c.self.invariant
    ]

pub returns-clause-ok : goal.returns-clause-ok
returns-clause-ok c =
    let s = c.self.inside in
    let a = (goal.at.returns-clause-ok c).After-push_run in
    on_ok_weaker c.push_run.result (λ more. ap (packed_built s.documents s.bits) more ∙ (kept a).is ∙ ap (λ b. with_empty_lists b c.args.count) c.self.view_is) c.push_run.ensures.ok
