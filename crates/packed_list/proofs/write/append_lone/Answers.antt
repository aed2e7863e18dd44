use Rattle.std.proofs.Common.{ℕ, ◌-◌, List, [], ◌∷◌, length, slice_index, refl, ap, arith}
use Rattle.std.proofs.lemmas.List.{length-append}
use Rattle.std.proofs.lemmas.Result.{on_ok_weaker, on_err_weaker}
use Rattle.part_cost.proofs.Parts.{past-at}
use Rattle.packed_sequence.proofs.LonePlaces.{length-lone}
use Rattle.packed_list.proofs.Written.{lone-whole, lone-prefix}
use Rattle.packed_list.proofs.write.append_lone.Goals as goal

pub put-requires-2-clause-room : goal.put-requires-2-clause-room
put-requires-2-clause-room c =
    omega (arith, ap length c.in_ok-put.ensures.ok, length-append c.args.to.now (0 ∷ []), length-lone c.args.last c.args.values.now)

pub returns-clause-ok : goal.returns-clause-ok
returns-clause-ok c =
    let xs : List ℕ = c.args.values.now in
    on_ok_weaker c.write_part.result
    (λ e. lone-whole c.args.to.now c.put.new.self c.put-2.new.self c.write_part.new.to xs c.args.last (slice_index xs (length xs - 1)) (past-at xs (length xs) c.requires.some) c.in_ok-put.ensures.ok
    c.in_ok-put-2.ensures.ok e)
    (c.write_part.ensures.ok xs refl)

pub returns-clause-err : goal.returns-clause-err
returns-clause-err c =
    let xs : List ℕ = c.args.values.now in
    on_err_weaker c.write_part.result
    (λ h. lone-prefix c.args.to.now c.put.new.self c.put-2.new.self c.write_part.new.to xs c.args.last (slice_index xs (length xs - 1)) (past-at xs (length xs) c.requires.some) c.in_ok-put.ensures.ok
    c.in_ok-put-2.ensures.ok h)
    (c.write_part.ensures.err xs refl)
