use Rattle.std.proofs.Common.{◌≡◌, subst, ℕ, ◌+◌, List, map, length, arith}
use Rattle.std.proofs.lemmas.List.{length-map, length-take-le}
use Rattle.collection_model.specs.Collection.{Posting}
use Rattle.scan_plans.specs.AnyOrder.{IsTopSeen}
use Rattle.interval_max.specs.Search.{AreOutside, seen_with}
use Rattle.interval_max.proofs.run.score_window.Goals as goal

pub add_all-requires-clause-each : goal.add_all-requires-clause-each
add_all-requires-clause-each g c = omega (arith, c.requires.query.each, length-map c.args.cursors.now g.C.DocCursor.list)

pub offer_scored-requires : goal.offer_scored-requires
offer_scored-requires g c =
    let lists : List (List Posting) = map g.C.DocCursor.list c.args.cursors.now in
    let first : ℕ = c.args.run.first in
    let end : first + c.args.run.count ≡ first + length c.add_all.new.window.0 = omega (arith, c.add_all.ensures.count, length-take-le c.args.run.count c.args.scores.now c.requires.fits) in
    record {
      offers = record {
        narrow = c.requires.query.narrow;
        in_range = λ k within some. c.top_list_grows.ensures.in_range c.args.top.now.n lists (first + k) c.requires.query.below ((c.add_all.ensures.scored.found k within).0 some);
        outside = subst (λ (end : ℕ). AreOutside first end c.args.top.now.held) end c.requires.outside;
      };
    }

pub returns-clause-seen : goal.returns-clause-seen
returns-clause-seen g c =
    let lists : List (List Posting) = map g.C.DocCursor.list c.args.cursors.now in
    let weights : List ℕ = c.args.weights.now in
    let first : ℕ = c.args.run.first in
    let end : first + length c.add_all.new.window.0 ≡ first + c.args.run.count = omega (arith, c.add_all.ensures.count, length-take-le c.args.run.count c.args.scores.now c.requires.fits) in
    record {
      k = c.offer_scored.ensures.k;
      n = c.offer_scored.ensures.n;
      top = λ seen none before. subst (λ (end : ℕ). IsTopSeen (seen_with seen first end) c.args.top.now.n lists weights c.args.top.now.k c.offer_scored.new.top.held) end
          (c.offer_scored.ensures.top lists weights seen c.add_all.ensures.scored (λ d from lt. none d from (omega arith)) before);
    }
