use Rattle.std.proofs.Common.{◌≡◌, refl, ◌∙◌, ap, subst, List, map}
use Rattle.std.specs.Prelude.{IfOk, None}
use Rattle.collection_model.specs.Collection.{Posting, Collection}
use Rattle.scan_plans.specs.IsTop.{IsTop}
use Rattle.pefidx_c.specs.Asked.{refusal}
use Rattle.pefidx_c.proofs.Queries.{is-query, terms-asked}
use Rattle.pefidx_c.proofs.Refusals.{asked-below, asked-few, asked-there}
use Rattle.pefidx_c.proofs.ranking.best_of.Goals as goal

pub cursors_of-requires : goal.cursors_of-requires
cursors_of-requires g c =
    let whole : Collection = g.L.TermLists.collection c.args.lists.now in
    asked-there whole c.args.asked.terms.now (terms-asked whole c.requires.good.0 c.args.asked.terms.now c.args.asked.weights.now c.requires.good.1)

pub top-requires-clause-named : goal.top-requires-clause-named
top-requires-clause-named g c =
    let whole : Collection = g.L.TermLists.collection c.args.lists.now in
    asked-there whole c.args.asked.terms.now (terms-asked whole c.requires.good.0 c.args.asked.terms.now c.args.asked.weights.now c.requires.good.1)

pub top-requires-clause-lists : goal.top-requires-clause-lists
top-requires-clause-lists g c = ap (map g.L.Cursor.DocCursor.list) c.as_mut_slice-cursors.ensures.value ∙ c.in_ok-list_cursors.ensures.lists

pub top-requires-clause-query : goal.top-requires-clause-query
top-requires-clause-query g c =
    let whole : Collection = g.L.TermLists.collection c.args.lists.now in
    let terms = c.args.asked.terms.now in
    let weights = c.args.asked.weights.now in
    let good = c.requires.good in
    let asked : refusal whole terms ≡ None = terms-asked whole good.0 terms weights good.1 in
    is-query {list_at = g.L.Cursor.DocCursor.list} {place_at = g.L.Cursor.DocCursor.place} whole good.0 terms weights good.1 (asked-few whole terms asked)
    (asked-below whole terms (g.met.L.TermLists.in_range c.args.lists.now) asked) c.in_ok-list_cursors.ensures.lists c.in_ok-list_cursors.ensures.start c.as_mut_slice-cursors.ensures.value refl

pub returns : goal.returns
returns g c =
    let whole : Collection = g.L.TermLists.collection c.args.lists.now in
    let same = ap (map g.L.Cursor.DocCursor.list) c.as_mut_slice-cursors.ensures.value ∙ c.in_ok-list_cursors.ensures.lists in
    subst (λ (ls : List (List Posting)). IfOk c.top.result (λ r. IsTop whole.documents ls c.args.asked.weights.now c.args.k r.items)) same c.top.ensures.first
