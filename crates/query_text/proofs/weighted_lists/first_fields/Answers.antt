use Rattle.std.proofs.Common.{rules, ◌≡◌, ◌∙◌, ap, sym, subst, ℕ, ◌++◌, ◌∷◌, [], take, arith}
use Rattle.query_text.specs.Lines.{fields}
use Rattle.query_text.specs.Numbers.{field_before}
use Rattle.query_text.specs.Weights.{weighted_fields}
use Rattle.query_text.proofs.NumbersSeen.{kept-more}
use Rattle.query_text.proofs.WeightsSeen.{begin-weighed, more-weighed}
use Rattle.query_text.proofs.weighted_lists.first_fields.Goals as goal

pub loop-field-init : goal.loop-field-init
loop-field-init c = record {
  so_far = begin-weighed c.args.terms (weighted_fields (fields c.args.arguments.now));
  kept = c.new-first.ensures.items;
  room = c.new-first.ensures.capacity;
  within = search rules;
}

pub loop-field-preserved : goal.loop-field-preserved
loop-field-preserved c =
    let s = c.loop-field.invariant.so_far in
    let field : ℕ × ℕ = (c.in_ok-term.term, c.in_ok-term.weight) in
    let behind = weighted_fields (fields c.in-Some.behind.now) in
    let whole = weighted_fields (fields c.args.arguments.now) in
    let e = ap weighted_fields c.in-Some.ensures.first ∙ ap (λ o. field_before o behind) (sym c.weighted.ensures ∙ c.in_ok-term.ensures.ok_part) in
    let kept = subst (λ (n : ℕ). c.keep.new.kept.items ≡ take n (c.loop-field.first.items ++ field ∷ [])) c.loop-field.invariant.room c.keep.ensures.items in record {
      so_far = more-weighed c.args.terms whole (weighted_fields (fields c.loop-field.rest.now)) behind c.loop-field.count field c.loop-field.all_weigh c.is_weight-all_weigh.result c.loop-field.all_there s e c.is_weight-all_weigh.ensures;
      kept = kept-more 8 s.seen c.loop-field.first.items c.keep.new.kept.items field c.loop-field.invariant.kept kept;
      room = c.keep.ensures.capacity ∙ c.loop-field.invariant.room;
      within = omega (arith, c.in-Some.ensures.shorter, c.loop-field.invariant.within);
    }
