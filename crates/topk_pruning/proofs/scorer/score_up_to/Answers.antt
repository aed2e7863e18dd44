use Rattle.std.proofs.Common.{◌≡◌, refl, sym, ap, ◌∙◌, subst, ℕ, ◌+◌, ◌<◌, ◌^◌, List, map, length, arith}
use Rattle.std.specs.List.Sorted.{IsPermutation}
use Rattle.std.proofs.lemmas.List.Sorted.{All-permutation}
use Rattle.collection_model.specs.Collection.{Posting}
use Rattle.topk_pruning.specs.declared.term.Term.{Term}
use Rattle.topk_pruning.specs.Terms.{AreSpared, AreWindowTerms, FollowsTo}
use Rattle.topk_pruning.proofs.Alike.{alike-moved, alike-apart, in-moved, in-narrower, follows-alike}
use Rattle.topk_pruning.proofs.Near.{written-back, follows-none}
use Rattle.topk_pruning.proofs.scorer.score_up_to.Given as given
use Rattle.topk_pruning.proofs.scorer.score_up_to.Goals as goal
use Rattle.topk_pruning.proofs.scorer.score_up_to.Goals.{After-deref-2}

pub returns-then-essential-eq0-clause-searched : goal.returns-then-essential-eq0-clause-searched
returns-then-essential-eq0-clause-searched g c =
    let spared = subst (λ (ts : List Term). AreSpared c.args.top.now.floor c.args.top.now.k c.args.top.now.held ts c.essential_now-essential.result) c.deref.ensures.value c.essential_now-essential.ensures in
    record {
      k = refl;
      n = refl;
      floor = refl;
      held = follows-none c.top_list_grows.ensures.skipped (map g.C.DocCursor.list c.args.cursors.now) c.args.scorer.now.terms.items c.args.top.now.floor c.args.top.now.k c.args.first c.args.reach c.essential_now-essential.result c.args.top.now.held
          (omega (arith, c.requires.later)) c.requires.terms.terms_in c.if-essential-eq0.true spared;
    }

-- the terms of the window: those of the room in another order
reordered : (g : given.Over) (c : After-deref-2 g) → IsPermutation c.args.scorer.now.terms.items c.with_short_lists-essential.new.terms × (c.deref-2.result.now ≡ c.with_short_lists-essential.new.terms)
reordered g c = (
  subst (λ (ts : List Term). IsPermutation ts c.with_short_lists-essential.new.terms) c.as_mut_slice.ensures.value c.with_short_lists-essential.ensures.moved,
  c.deref-2.ensures.value ∙ written-back c.args.scorer.now.terms.len c.with_short_lists-essential.new.terms c.args.scorer.now.terms.items c.args.scorer.now.terms.ok.0 (c.with_short_lists-essential.auto.terms ∙ ap length c.as_mut_slice.ensures.value),
)

pub score_window-requires-clause-terms : goal.score_window-requires-clause-terms
score_window-requires-clause-terms g c =
    let lists : List (List Posting) = map g.C.DocCursor.list c.args.cursors.now in
    let old : List Term = c.args.scorer.now.terms.items in
    let near : List Term = c.with_short_lists-essential.new.terms in
    let first : ℕ = c.args.first in
    let is = reordered g (goal.at.score_window-requires-clause-terms g c).After-deref-2 in
    let count = c.min-count.ensures in
    let later = c.requires.later in
    let end : ℕ = first + c.min-count.result in
    subst (AreWindowTerms lists first end) (sym is.1) (record {
      terms_in = in-narrower lists first c.args.reach first end near (omega arith) (omega arith) (in-moved lists first c.args.reach old near is.0 c.requires.terms.terms_in);
      apart = alike-apart old near (alike-moved old near is.0) c.requires.terms.apart;
      small = All-permutation (λ (t : Term). t.weight < 2 ^ 26) old near is.0 c.requires.terms.small;
    })

pub score_window-requires-clause-search : goal.score_window-requires-clause-search
score_window-requires-clause-search g c =
    let search = c.requires.search in
    record {
      below = search.below;
      narrow = search.narrow;
      in_range = omega (arith, search.in_range, c.min-count.ensures, c.requires.later);
      above = search.above;
    }

pub score_window-requires-clause-essential : goal.score_window-requires-clause-essential
score_window-requires-clause-essential g c =
    let floor : ℕ = c.args.top.now.floor in
    let k : ℕ = c.args.top.now.k in
    let held : List (ℕ × ℕ) = c.args.top.now.held in
    let is = reordered g (goal.at.score_window-requires-clause-essential g c).After-deref-2 in
    let spared = subst (λ (ts : List Term). AreSpared floor k held ts c.essential_now-essential.result) (c.deref.ensures.value ∙ sym c.as_mut_slice.ensures.value) c.essential_now-essential.ensures in
    subst (λ (ts : List Term). AreSpared floor k held ts c.with_short_lists-essential.result) (sym is.1) (c.with_short_lists-essential.ensures.spared floor k held spared)

pub returns-clause-searched : goal.returns-clause-searched
returns-clause-searched g c =
    let is = reordered g (goal.at.returns-clause-searched g c).After-deref-2 in
    let ranking = c.args.top.now in
    let searched = c.score_window.ensures.searched in
    let to : ℕ = c.args.first + c.min-count.result in
    let new : List (ℕ × ℕ) = c.score_window.new.top.held in
    record {
      k = searched.k;
      n = searched.n;
      floor = searched.floor;
      held = follows-alike (map g.C.DocCursor.list c.args.cursors.now) c.args.scorer.now.terms.items c.with_short_lists-essential.new.terms ranking.floor ranking.k c.args.first to ranking.held new (alike-moved c.args.scorer.now.terms.items c.with_short_lists-essential.new.terms is.0)
          (subst (λ (ts : List Term). FollowsTo (map g.C.DocCursor.list c.args.cursors.now) ts ranking.floor ranking.k c.args.first to ranking.held new) is.1 searched.held);
    }
