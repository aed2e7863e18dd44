use Rattle.std.proofs.Common.{◌≡◌, ◌≢◌, refl, sym, ap, ◌∙◌, subst, ℕ, ◌<◌, ◌≤◌, leb, List, map, length}
use Rattle.std.specs.List.{count_by}
use Rattle.collection_model.specs.Collection.{Posting, freqs_of}
use Rattle.topk_pruning.specs.declared.term.Term.{Term}
use Rattle.topk_pruning.specs.Terms.{list_of}
use Rattle.topk_pruning.proofs.Floors.{first-there, floor-reached}
use Rattle.topk_pruning.proofs.Moves.{list-read}
use Rattle.topk_pruning.proofs.floor.common_score.Goals as goal

pub returns : goal.returns
returns g c = λ n weights below all.
    let list = g.C.DocCursor.list in
    let cs = c.args.cursors.now in
    let lists : List (List Posting) = map list cs in
    let t : Term = c.in-Some.first.now in
    let cursor = c.index-cursors-first.result in
    let first = sym c.in-Some.ensures.value in
    let there = first-there c.args.terms.now t first in
    let within : t.list < length cs = subst (λ (t : Term). t.list < length cs) there.1 (c.requires.within 0 t there.0) in
    let same : list cursor ≡ list_of lists t = ap list c.index-cursors-first.is ∙ list-read list g.C.DocCursor.place cs lists t.list cursor refl within in
    floor-reached c.frequent_postings_score.ensures n c.args.k c.from-2.result c.from.result (list cursor) lists weights c.args.terms.now t below all first c.from.ensures same (g.met.C.DocCursor.well_formed cursor).well_formed
    (subst (λ (f : ℕ). f ≢ 0 → c.args.k ≤ count_by (λ g. leb f g) (freqs_of (list cursor))) (sym c.from-2.ensures) c.common_freq.ensures)
