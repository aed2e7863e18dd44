use Rattle.std.proofs.Common.{◌≡◌, ◌<◌, ◌∷◌, [], ◌∙◌, ap, sym, subst, map, get_or, length, length-append, arith}
use Rattle.std.proofs.lemmas.List.{length-map, get_or-map}
use Rattle.std.proofs.lemmas.List.Elements.{All-get_or}
use Rattle.interval_max.specs.Bounded.{IsBoundOf}
use Rattle.interval_max.proofs.Kept.{each-more}
use Rattle.interval_max.proofs.view.MaximaView.bounds_of.Goals as goal

pub loop-term-preserved : goal.loop-term-preserved
loop-term-preserved c = record {
  count = omega (arith, ap length c.in_ok-push.ensures.items, length-append c.loop-term.bounds.items (c.bounds.result ∷ []), c.loop-term.invariant.count);
  theirs = λ has list n are all.
      each-more (λ i b. IsBoundOf (list (get_or c.args.terms.now i 0)) b) c.loop-term.term-index c.loop-term.bounds.items c.push.new.self.items c.bounds.result c.loop-term.invariant.count c.in_ok-push.ensures.items
      (c.loop-term.invariant.theirs has list n are all) (c.bounds.ensures.bound has list n are (All-get_or (λ t. t < n) c.args.terms.now c.loop-term.term-index 0 c.loop-term-test.true all));
}

pub returns : goal.returns
returns c = λ has list n are all.
    let terms = c.args.terms.now in
    let count : length (map list terms) ≡ length terms = length-map terms list in
    let whole : c.loop-term.term-index ≡ length terms = omega (arith, c.loop-term-test.false, c.loop-term.auto.term-index-end) in
    record {
      each = c.loop-term.invariant.count ∙ whole ∙ sym count;
      theirs = λ i b within.
          let inside : i < length terms = omega (arith, within, count) in
          subst (λ l. IsBoundOf l (get_or c.loop-term.bounds.items i b)) (sym (get_or-map list terms i 0 [] inside)) (c.loop-term.invariant.theirs has list n are all i b (omega (arith, inside, whole)));
    }
