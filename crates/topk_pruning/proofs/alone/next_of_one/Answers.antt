use Rattle.std.proofs.Common.{◌≡◌, refl, ap, ◌∙◌, subst, ◌+◌, ◌*◌, ◌<◌, ◌≤◌, List, map, drop, get_or, arith}
use Rattle.collection_model.specs.Collection.{Posting}
use Rattle.scan_plans.specs.Matches.{freq_of_doc}
use Rattle.topk_pruning.specs.declared.term.Term.{Term}
use Rattle.topk_pruning.specs.Terms.{list_of, bounds}
use Rattle.topk_pruning.proofs.Moves.{lists-set, list-read, term-inside}
use Rattle.topk_pruning.proofs.OneList.{alone-found, alone-passed, alone-within}
use Rattle.topk_pruning.proofs.Windows.{behind-is, no_term}
use Rattle.topk_pruning.proofs.alone.next_of_one.Goals as goal

pub returns : goal.returns
returns g c =
    let list = g.C.DocCursor.list in
    let place = g.C.DocCursor.place in
    let cs = c.args.cursors.now in
    let lists : List (List Posting) = map list cs in
    let terms : List Term = c.args.terms.now in
    let t : Term = get_or terms 0 no_term in
    let d = c.index-cursors-one.result in
    let within = term-inside list place cs lists terms 0 no_term refl c.requires.terms.within c.requires.some in
    let read = list-read list place cs lists t.list d refl within in
    record {
      lists = lists-set list place cs t.list c.frequent_doc.new.cursor d within c.frequent_doc.ensures.list;
      passed = alone-passed list place cs t.list c.args.from c.frequent_doc.new.cursor (λ doc. c.least_freq-freq.result ≤ freq_of_doc doc (list (get_or cs t.list d))) c.frequent_doc.result c.frequent_doc.ensures.passed c.frequent_doc.ensures.found c.requires.passed;
      before = λ e after lt.
          let low : freq_of_doc e (list_of lists t) < c.least_freq-freq.result = subst (λ (l : List Posting). freq_of_doc e l < c.least_freq-freq.result) read (c.frequent_doc.ensures.before e after lt) in
          let under : t.weight * freq_of_doc e (list_of lists t) + c.total_bound.result ≤ c.args.bar = c.least_freq-freq.ensures.least (freq_of_doc e (list_of lists t)) low in
          let others : c.total_bound.result ≡ bounds (drop 1 terms) = c.total_bound.ensures ∙ ap bounds (behind-is terms 1) in
          let whole = alone-within lists e terms c.requires.some c.requires.terms in
          omega arith;
      found = alone-found lists terms c.args.from c.least_freq-freq.result (list (get_or cs t.list d)) c.frequent_doc.result c.requires.some c.least_freq-freq.ensures.some read c.frequent_doc.ensures.found;
    }
