use Rattle.std.proofs.Common.{◌≡◌, ◌+◌, ◌∙◌, map, length, refl, ap, sym, subst}
use Rattle.std.specs.List.{range_with_len}
use Rattle.part_codec.specs.Forms.{HoldsIn, count_in, all_ones}
use Rattle.std.proofs.lemmas.Option.{IfSome_then}
use Rattle.part_codec.proofs.Steps.{step-all_ones}
use Rattle.part_codec.proofs.views.PartView.check_into.Goals as goal

pub returns-in-Ones-clause-some : goal.returns-in-Ones-clause-some
returns-in-Ones-clause-some c =
    let v = c.in-Ones.ones in
    let room : length c.args.to.now ≡ v.u = c.requires.room ∙ ap (λ f. count_in f) c.in-Ones.is in
    (all_ones v.u, subst (λ f. HoldsIn f (all_ones v.u)) (sym c.in-Ones.is) refl, λ asked. step-all_ones v.u v.some, c.numbers_into.ensures ∙ ap (λ n. map (λ y. y + c.args.base) (range_with_len 0 n)) room)

pub returns-in-Ef-clause-some : goal.returns-in-Ef-clause-some
returns-in-Ef-clause-some c =
    IfSome_then c.check_into-in-Ef.result c.check_into-in-Ef.ensures.some (λ step h. (h.0, subst (λ f. HoldsIn f h.0) (sym c.in-Ef.is) h.1, λ asked. h.2, h.3))
