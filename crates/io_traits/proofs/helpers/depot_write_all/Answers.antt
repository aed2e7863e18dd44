use Rattle.std.proofs.Common.{arith, ◌≡◌, ◌∙◌, sym, ap, IsTrue, drop, length, ◌-◌, unwrap_or, [], ◌++◌, take, Some}
use Rattle.std.specs.Prelude.{is_ok}
use Rattle.std.proofs.lemmas.List.{length-drop, length-take}
use Rattle.std.proofs.lemmas.Result.{IfOk-at_ok}
use Rattle.io_traits.proofs.Prefixes.{one_prefix, no_more_at_ok}
use Rattle.io_traits.proofs.helpers.depot_write_all.Goals as goal

pub loop-at-preserved : goal.loop-at-preserved
loop-at-preserved g c =
    let piece = c.args.piece.now in
    let at = c.loop-at.at in
    let old = g.D.Depot.state c.args.depot.now in
    let mid = g.D.Depot.state c.loop-at.depot in
    let new = g.D.Depot.state c.write.new.self in
    let before = c.loop-at.invariant in
    let write = c.write.ensures in
    let appended : IsTrue old.tells → new.file mid.name ≡ Some (unwrap_or (mid.file mid.name) [] ++ take c.in_ok-at.field-0 (take (length piece - at) (drop at piece))) =
    λ t. IfOk-at_ok (λ n. new.file mid.name ≡ Some (unwrap_or (mid.file mid.name) [] ++ take n (take (length piece - at) (drop at piece)))) c.in_ok-at.was (write.appended (before.1 ∙ t)) in (
      omega (arith, IfOk-at_ok _ c.in_ok-at.was write.within, length-take (length piece - at) (drop at piece), length-drop at piece, before.0),
      write.tells ∙ before.1,
      (λ t.
          let same_name = before.5.1 t in
          one_prefix (unwrap_or (old.file old.name) []) (unwrap_or (mid.file mid.name) []) (unwrap_or (new.file old.name) []) piece at c.in_ok-at.field-0 before.0
          (ap (λ name. unwrap_or (mid.file name) []) same_name ∙ before.2 t)
          (ap (λ name. unwrap_or (new.file name) []) (sym same_name) ∙ ap (λ file. unwrap_or file []) (appended t))),
      (λ t name ne. write.other_files (before.1 ∙ t) name (λ e. ne (e ∙ before.5.1 t)) ∙ before.3 t name ne),
      (λ slot. ((write.slots slot).0 ∙ (before.4 slot).0, λ t. (write.slots slot).1 (before.1 ∙ t) ∙ (before.4 slot).1 t)),
      (write.writing.0 ∙ before.5.0, λ t. write.writing.1 (before.1 ∙ t) ∙ before.5.1 t),
      write.counts.this.same_at_ok (ap is_ok c.in_ok-at.was) ∙ before.6,
      (λ slot. write.counts.others slot ∙ before.7 slot),
      (λ t _. (_, ap new.file (sym (before.5.1 t)) ∙ appended t)),
      write.create_count ∙ before.9,
      write.finish_count ∙ before.10,
      (λ slot. write.counts.starts slot ∙ before.11 slot),
      no_more_at_ok c.write.result c.in_ok-at.field-0 c.in_ok-at.was write.counts.refusals.rises_only_there ∙ before.12,
    )
