use Rattle.std.proofs.Common.{◌≡◌, sym, ap, ◌∙◌, subst, List, map}
use Rattle.std.specs.Prelude.{IfOk}
use Rattle.collection_model.specs.Collection.{Posting}
use Rattle.collection_model.specs.Sequences.{postings_in}
use Rattle.postings.specs.declared.cursor.PostingCursor.{PostingCursor}
use Rattle.scan_plans.specs.Matches.{AreBelow, in_all}
use Rattle.pefidx_c.specs.Asked.{lists_of}
use Rattle.pefidx_c.proofs.matching.docs_of_all.Goals as goal

abbrev list_at : PostingCursor → List Posting
list_at c = postings_in c.docs.sequence.values c.sums.sequence.values

pub returns : goal.returns
returns c =
    let n = c.args.index.now.collection.documents in
    let lists : map list_at c.as_mut_slice.result.now ≡ lists_of c.args.index.now.collection c.args.terms.now = ap (map list_at) c.as_mut_slice.ensures.value ∙ c.in_ok-cursors.ensures.lists in
    subst (λ (ls : List (List Posting)). IfOk c.and_docs.result (λ r. r.items ≡ in_all n ls)) lists
    (c.and_docs.ensures n (subst (AreBelow n) (sym lists) c.in_ok-cursors.ensures.below))
