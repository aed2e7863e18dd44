use Rattle.std.proofs.Common.{rules, ◌≡◌, ◌∙◌, subst, ℕ, ◌∷◌, [], ◌++◌, take, arith}
use Rattle.query_text.specs.Lines.{fields}
use Rattle.query_text.specs.Numbers.{numbers_of}
use Rattle.query_text.proofs.NumbersSeen.{begin, more, kept-more}
use Rattle.query_text.proofs.term_lists.first_terms.Goals as goal

pub loop-term-init : goal.loop-term-init
loop-term-init c = record {
  so_far = begin c.args.terms (numbers_of (fields c.args.arguments.now));
  kept = c.new-first.ensures.items;
  room = c.new-first.ensures.capacity;
  within = search rules;
}

pub loop-term-preserved : goal.loop-term-preserved
loop-term-preserved c =
    let s = c.loop-term.invariant.so_far in
    let kept = subst (λ (n : ℕ). c.keep.new.kept.items ≡ take n (c.loop-term.first.items ++ c.in-Some.term ∷ [])) c.loop-term.invariant.room c.keep.ensures.items in record {
      so_far = more c.args.terms (numbers_of (fields c.args.arguments.now)) (numbers_of (fields c.loop-term.rest.now)) (numbers_of (fields c.in-Some.behind.now)) c.loop-term.count c.in-Some.term c.loop-term.all_there s
          c.in-Some.ensures.first;
      kept = kept-more 8 s.seen c.loop-term.first.items c.keep.new.kept.items c.in-Some.term c.loop-term.invariant.kept kept;
      room = c.keep.ensures.capacity ∙ c.loop-term.invariant.room;
      within = omega (arith, c.in-Some.ensures.shorter, c.loop-term.invariant.within);
    }
