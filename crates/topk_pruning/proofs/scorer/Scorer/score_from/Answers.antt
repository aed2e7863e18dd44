use Rattle.std.proofs.Common.{◌≡◌, sym, ◌∙◌, subst, ℕ, ◌<◌, ◌^◌, ◌++◌, List, map, take, drop, length, arith}
use Rattle.collection_model.specs.Collection.{Posting}
use Rattle.topk_pruning.specs.declared.term.Term.{Term}
use Rattle.topk_pruning.specs.Terms.{AreWindowTerms, FollowsTo}
use Rattle.topk_pruning.proofs.Alike.{alike-all, alike-apart, follows-alike, in-narrower}
use Rattle.topk_pruning.proofs.Near.{written-back}
use Rattle.topk_pruning.proofs.scorer.Scorer.score_from.Given as given
use Rattle.topk_pruning.proofs.scorer.Scorer.score_from.Goals as goal
use Rattle.topk_pruning.proofs.scorer.Scorer.score_from.Goals.{After-bound_window}

-- the terms that were bounded are those of the room
bounded : (g : given.Over) (c : After-bound_window g) → take c.args.self.now.terms.len (c.bound_window.new.near ++ drop (length c.bound_window.new.near) c.args.self.now.terms.items) ≡ c.bound_window.new.near
bounded g c = written-back c.args.self.now.terms.len c.bound_window.new.near c.args.self.now.terms.items c.args.self.now.terms.ok.0 (c.bound_window.ensures.each ∙ sym c.requires.ready.each)

pub score_up_to-requires-clause-terms : goal.score_up_to-requires-clause-terms
score_up_to-requires-clause-terms g c =
    let is = c.bound_window.ensures.near in
    let least = c.min-reach.ensures in
    subst (AreWindowTerms (map g.C.DocCursor.list c.args.cursors.now) c.args.first c.min-reach.result) (sym (bounded g (goal.at.score_up_to-requires-clause-terms g c).After-bound_window)) (record {
      terms_in = in-narrower (map g.C.DocCursor.list c.args.cursors.now) c.args.first c.bound_window.result c.args.first c.min-reach.result c.bound_window.new.near (omega arith) (omega arith) is.bounded;
      apart = alike-apart c.args.terms.now c.bound_window.new.near is.alike c.requires.terms.apart;
      small = alike-all (λ e. e.1 < 2 ^ 26) c.args.terms.now c.bound_window.new.near is.alike c.requires.terms.small;
    })

pub score_up_to-requires-clause-search : goal.score_up_to-requires-clause-search
score_up_to-requires-clause-search g c =
    let search = c.requires.search in
    record {
      below = search.below;
      narrow = search.narrow;
      in_range = omega (arith, c.min-reach.ensures, c.requires.ready.documents);
      above = search.above;
    }

pub score_up_to-requires-clause-later : goal.score_up_to-requires-clause-later
score_up_to-requires-clause-later g c = omega (arith, c.bound_window.ensures.later, c.min-reach.ensures, c.requires.search.in_range, c.requires.ready.documents)

pub returns-clause-between : goal.returns-clause-between
returns-clause-between g c =
    let to = c.score_up_to.ensures.between in (to.0, omega (arith, to.1, c.min-reach.ensures, c.requires.ready.documents))

pub returns-clause-searched : goal.returns-clause-searched
returns-clause-searched g c =
    let lists : List (List Posting) = map g.C.DocCursor.list c.args.cursors.now in
    let near : List Term = c.bound_window.new.near in
    let floor : ℕ = c.args.top.now.floor in
    let k : ℕ = c.args.top.now.k in
    let first : ℕ = c.args.first in
    let to : ℕ = c.score_up_to.result in
    let held : List (ℕ × ℕ) = c.args.top.now.held in
    let new : List (ℕ × ℕ) = c.score_up_to.new.top.held in
    let same = bounded g (goal.at.returns-clause-searched g c).After-bound_window in
    record {
      k = c.score_up_to.ensures.searched.k;
      n = c.score_up_to.ensures.searched.n;
      floor = c.score_up_to.ensures.searched.floor;
      held = follows-alike lists c.args.terms.now near floor k first to held new c.bound_window.ensures.near.alike (subst (λ (ts : List Term). FollowsTo lists ts floor k first to held new) same c.score_up_to.ensures.searched.held);
    }
