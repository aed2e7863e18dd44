use Rattle.std.proofs.Common.{◌≡◌, ◌∙◌, sym, ap, rules, ◌++◌, ◌∷◌, []}
use Rattle.worked_files.proofs.EveryDocument.{documents-more}
use Rattle.worked_files.proofs.built.first_documents.Goals as goal

pub loop-d-preserved : goal.loop-d-preserved
loop-d-preserved g c =
    let pushed : c.push.new.self.items ≡ c.loop-d.docs.items ++ c.loop-d.d ∷ [] = search rules in
    pushed ∙ ap (λ xs. xs ++ c.loop-d.d ∷ []) c.loop-d.invariant ∙ sym (documents-more c.loop-d.d)
