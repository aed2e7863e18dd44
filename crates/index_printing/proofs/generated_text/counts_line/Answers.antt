use Rattle.std.proofs.Common.{◌≡◌, ◌∙◌, List, ℕ, ◌++◌, rules, append_assoc, string_bytes, IfOk}
use Rattle.std.specs.Prelude.{codes, decimal}
use Rattle.command_model.specs.GeneratedText.{counts_line}
use Rattle.index_printing.proofs.AskedLines.{made-so}
use Rattle.index_printing.proofs.generated_text.counts_line.Goals as goal

-- the pieces of the line, one after the other
abbrev pieces : List ℕ → List ℕ → List ℕ → List ℕ → List ℕ
pieces n t p b = codes "documents " ++ (n ++ (codes " terms " ++ (t ++ (codes " postings " ++ (p ++ (codes " bits " ++ (b ++ codes "\n")))))))

grouped : (n t p b : List ℕ) → pieces n t p b ≡ codes "documents " ++ n ++ codes " terms " ++ t ++ codes " postings " ++ p ++ codes " bits " ++ b ++ codes "\n"
grouped n t p b = simp append_assoc

pub returns : goal.returns
unfolding counts_line
returns c =
    let n = c.documents-documents in
    let t = c.terms-terms in
    let p = c.postings-postings in
    let b = c.cost_of_lists-bits in
    let made : IfOk c.format.result (λ line. string_bytes line ≡ pieces (decimal n.result) (decimal t.result) (decimal p.result) (decimal b.result)) = search rules in
    made-so c.format.result (pieces (decimal n.result) (decimal t.result) (decimal p.result) (decimal b.result)) _ made
    ((λ i. pieces (decimal (n.ensures i)) (decimal (t.ensures i)) (decimal (p.ensures i)) (decimal (b.ensures i)))
    ∙ grouped _ _ _ _)
