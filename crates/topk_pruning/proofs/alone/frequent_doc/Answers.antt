use Rattle.std.proofs.Common.{◌≡◌, sym, ap, ◌∙◌, subst, ℕ, ◌<◌, ◌≤◌, List}
use Rattle.std.specs.Option.{IfSome}
use Rattle.collection_model.specs.Collection.{Posting}
use Rattle.cursor_api.specs.NextGeq.{next_frequent_place}
use Rattle.scan_plans.specs.Matches.{freq_of_doc}
use Rattle.scan_plans.specs.Scan.{doc_at, HasPassed}
use Rattle.topk_pruning.proofs.Frequents.{frequent-before, frequent-found, frequent-passed}
use Rattle.topk_pruning.proofs.alone.frequent_doc.Goals as goal

pub returns : goal.returns
returns g c =
    let list = g.C.DocCursor.list in
    let place = g.C.DocCursor.place in
    let old = c.doc_from.new.cursor in
    let new = c.next_frequent.new.self in
    let l : List Posting = list old in
    let next : ℕ = next_frequent_place l (place old) c.args.freq in
    let good = (g.met.C.DocCursor.well_formed old).well_formed in
    let is : c.doc.result ≡ doc_at l next = c.doc.ensures ∙ ap (λ (l : List Posting). doc_at l (place new)) c.next_frequent.ensures.list ∙ ap (doc_at l) c.next_frequent.ensures.place in
    record {
      list = c.next_frequent.ensures.list ∙ c.doc_from.ensures.list;
      passed = subst (λ (l : List Posting). IfSome c.doc.result (λ doc. HasPassed doc l (place new))) (sym c.next_frequent.ensures.list)
          (subst (λ (p : ℕ). IfSome c.doc.result (λ doc. HasPassed doc l p)) (sym c.next_frequent.ensures.place)
          (frequent-passed c.cursors_tell.ensures.at c.cursors_stand.ensures.here l good c.args.from (place old) c.args.freq c.requires.some c.doc_from.ensures.stand c.doc.result is));
      before = λ d after lt. subst (λ (l : List Posting). freq_of_doc d l < c.args.freq) c.doc_from.ensures.list
          (frequent-before c.cursors_tell.ensures.at c.cursors_stand.ensures.here l good c.args.from (place old) c.args.freq c.requires.some c.doc_from.ensures.stand d c.doc.result is after lt);
      found = subst (λ (l : List Posting). IfSome c.doc.result (λ doc. (c.args.from ≤ doc) × (c.args.freq ≤ freq_of_doc doc l))) c.doc_from.ensures.list
          (frequent-found c.cursors_tell.ensures.at c.cursors_stand.ensures.here l good c.args.from (place old) c.args.freq c.requires.some c.doc_from.ensures.stand c.doc.result is);
    }
