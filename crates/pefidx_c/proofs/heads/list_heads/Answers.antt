use Rattle.std.proofs.Common.{◌≡◌, ◌-◌, [], ◌∷◌, ◌++◌, map, length, sym, ap, ◌∙◌, arith}
use Rattle.std.specs.List.{range_with_len}
use Rattle.std.proofs.lemmas.List.FromFn.{map-range_with_len_more}
use Rattle.pefidx_c.specs.Heads.{head_of}
use Rattle.pefidx_c.proofs.heads.list_heads.Goals as goal

pub overflow_add-from : goal.overflow_add-from
overflow_add-from c =
    let l = c.requires.lists c.loop-t.t (omega (arith, c.loop-t-test.true, c.loop-t.auto.t-end, c.saturating_sub-lists.ensures)) in
    omega (arith, l.ordered, l.few)

pub overflow_add-to : goal.overflow_add-to
overflow_add-to c =
    let l = c.requires.lists c.loop-t.t (omega (arith, c.loop-t-test.true, c.loop-t.auto.t-end, c.saturating_sub-lists.ensures)) in
    omega (arith, l.few)

pub head_between-head-requires-clause-list : goal.head_between-head-requires-clause-list
head_between-head-requires-clause-list c = c.requires.lists c.loop-t.t (omega (arith, c.loop-t-test.true, c.loop-t.auto.t-end, c.saturating_sub-lists.ensures))

pub loop-t-preserved : goal.loop-t-preserved
loop-t-preserved c =
    let f = head_of c.args.documents c.args.words.now c.args.starts.now in
    c.in_ok-push.ensures.items
    ∙ ap (λ xs. xs ++ c.head_between-head.result ∷ []) c.loop-t.invariant
    ∙ ap (λ h. map f (range_with_len 0 c.loop-t.t) ++ h ∷ []) c.head_between-head.ensures
    ∙ sym (map-range_with_len_more f 0 c.loop-t.t c.loop-t.t (omega arith))

pub returns : goal.returns
returns c =
    let all : c.loop-t.t ≡ length c.args.starts.now - 1 = omega (arith, c.loop-t-test.false, c.loop-t.auto.t-end, c.saturating_sub-lists.ensures) in
    c.loop-t.invariant ∙ ap (λ n. map (head_of c.args.documents c.args.words.now c.args.starts.now) (range_with_len 0 n)) all
