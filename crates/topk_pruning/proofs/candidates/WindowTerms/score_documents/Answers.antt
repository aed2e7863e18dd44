use Rattle.std.proofs.Common.{◌≡◌, sym, subst, ℕ, ◌+◌, min, List, map, length, arith}
use Rattle.std.proofs.lemmas.List.{length-map}
use Rattle.collection_model.specs.Collection.{Posting}
use Rattle.topk_pruning.specs.declared.term.Term.{Term}
use Rattle.topk_pruning.specs.Held.{RankingFrom, IsSearchedTo}
use Rattle.topk_pruning.specs.Terms.{AreWindowTerms}
use Rattle.topk_pruning.proofs.Near.{spared-more}
use Rattle.topk_pruning.proofs.Windows.{before-kept}
use Rattle.topk_pruning.proofs.candidates.WindowTerms.score_documents.Goals as goal

pub add_terms-essential-requires-clause-terms : goal.add_terms-essential-requires-clause-terms
add_terms-essential-requires-clause-terms g c =
    let lists : List (List Posting) = map g.C.DocCursor.list c.args.cursors.now in
    let first : ℕ = c.args.self.first in
    subst (λ (n : ℕ). AreWindowTerms lists first (first + n) c.args.self.all.now) (sym c.requires.each) c.requires.terms

pub offer_candidates-requires-clause-before : goal.offer_candidates-requires-clause-before
offer_candidates-requires-clause-before g c =
    let l = length-map c.args.cursors.now g.C.DocCursor.list in
    before-kept g.C.DocCursor.list g.C.DocCursor.place c.args.self.first c.add_terms-essential.result.0 c.args.self.all.now c.args.cursors.now c.add_terms-essential.new.cursors (λ i t within. let h = c.requires.terms.terms_in.within i t within in omega arith) c.requires.terms.apart c.add_terms-essential.ensures.kept c.requires.passed

pub offer_candidates-requires-clause-essential : goal.offer_candidates-requires-clause-essential
offer_candidates-requires-clause-essential g c =
    let top : RankingFrom = c.args.top.now in
    spared-more c.args.self.all.now c.args.self.essential c.add_terms-essential.result.0 top.floor top.k top.held c.add_terms-essential.ensures.more c.add_terms-essential.ensures.few c.requires.essential

pub returns-clause-searched : goal.returns-clause-searched
returns-clause-searched g c =
    let list = g.C.DocCursor.list in
    let terms : List Term = c.args.self.all.now in
    let top : RankingFrom = c.args.top.now in
    let new : RankingFrom = c.offer_candidates.new.top in
    let first : ℕ = c.args.self.first in
    let to : ℕ = first + c.args.self.count in
    let each = c.requires.each in
    let count = c.add_terms-essential.ensures.count in
    let in_range = c.requires.search.in_range in
    let end : min (first + length c.add_terms-essential.new.window.0) top.n ≡ to = omega arith in
    subst (λ (ls : List (List Posting)). IsSearchedTo ls terms first to top new) c.add_terms-essential.ensures.lists
    (subst (λ (to : ℕ). IsSearchedTo (map list c.add_terms-essential.new.cursors) terms first to top new) end c.offer_candidates.ensures.searched)
