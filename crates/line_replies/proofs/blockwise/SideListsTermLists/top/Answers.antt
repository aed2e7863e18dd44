use Rattle.std.proofs.Common.{◌≡◌, sym, ap, ◌∙◌, subst, ℕ, List, map, length, arith}
use Rattle.std.proofs.lemmas.List.{length-map}
use Rattle.std.proofs.lemmas.Result.{IfOk-weaker}
use Rattle.collection_model.specs.Collection.{Posting}
use Rattle.scan_plans.specs.IsTop.{IsTop}
use Rattle.scan_plans.specs.Matches.{AreBelow}
use Rattle.scan_plans.proofs.AskedLists.{is-query}
use Rattle.line_replies.proofs.SideCursors.{list_at, place_at, plain_list}
use Rattle.line_replies.proofs.blockwise.SideListsTermLists.top.Goals as goal
use Rattle.line_replies.proofs.blockwise.SideListsTermLists.top.Goals.{In_ok-add_block_cursors}

-- the lists of the cursors with blocks are those of the others
same-lists : (c : In_ok-add_block_cursors) → map list_at c.add_block_cursors.new.cursors.items ≡ map plain_list c.args.cursors.now
same-lists c = c.in_ok-add_block_cursors.ensures.lists ∙ sym c.requires.lists

pub top_blockmax-requires : goal.top_blockmax-requires
top_blockmax-requires c =
    let query = c.requires.query in
    let lists : List (List Posting) = map plain_list c.args.cursors.now in
    let count : length lists ≡ length c.args.cursors.now = length-map c.args.cursors.now plain_list in
    is-query list_at place_at c.documents-documents.result lists c.args.weights.now c.add_block_cursors.new.cursors.items c.as_mut_slice.result.now
    (omega (arith, count, query.few)) (subst (λ (n : ℕ). AreBelow n lists) (sym c.documents-documents.ensures) query.in_range) (query.each ∙ sym count) query.some query.light
    (same-lists (goal.at.top_blockmax-requires c).In_ok-add_block_cursors) c.in_ok-add_block_cursors.ensures.start c.as_mut_slice.ensures.value

pub returns-clause-first : goal.returns-clause-first
returns-clause-first c =
    let n : ℕ = c.args.self.now.blocks.now.index.now.collection.documents in
    let plain : List (List Posting) = map plain_list c.args.cursors.now in
    let in_blocks : List (List Posting) = map list_at c.as_mut_slice.result.now in
    let lists : in_blocks ≡ plain = ap (map list_at) c.as_mut_slice.ensures.value ∙ same-lists (goal.at.returns-clause-first c).In_ok-add_block_cursors in
    IfOk-weaker c.top_blockmax.result (λ r. IsTop c.documents-documents.result in_blocks c.args.weights.now c.args.k r.items) (λ r. IsTop n plain c.args.weights.now c.args.k r.items)
    (λ r top. subst (λ (n : ℕ). IsTop n plain c.args.weights.now c.args.k r.items) c.documents-documents.ensures (subst (λ (ls : List (List Posting)). IsTop c.documents-documents.result ls c.args.weights.now c.args.k r.items) lists top)) c.top_blockmax.ensures.first
