use Rattle.std.proofs.Common.{◌≡◌, ◌∙◌, sym, ap, rules, ◌++◌, ◌∷◌, []}
use Rattle.worked_plans.proofs.ListBlocks.{documents-more}
use Rattle.worked_plans.proofs.blocks.first_documents.Goals as goal

pub loop-doc-preserved : goal.loop-doc-preserved
loop-doc-preserved c =
    let pushed : c.push.new.self.items ≡ c.loop-doc.docs.items ++ c.loop-doc.doc ∷ [] = search rules in
    pushed ∙ ap (λ xs. xs ++ c.loop-doc.doc ∷ []) c.loop-doc.invariant ∙ sym (documents-more c.loop-doc.doc)
