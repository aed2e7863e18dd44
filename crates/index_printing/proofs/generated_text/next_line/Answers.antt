use Rattle.std.proofs.Common.{◌≡◌, sym, ◌∙◌, ◌-◌, ◌/◌, ◌++◌, rules, append_assoc, string_bytes, IfOk}
use Rattle.std.specs.Prelude.{codes, decimal}
use Rattle.command_model.specs.GeneratedText.{next_line}
use Rattle.index_printing.proofs.AskedLines.{made-so}
use Rattle.index_printing.proofs.generated_text.next_line.Goals as goal

pub returns : goal.returns
unfolding next_line
returns c =
    let last = decimal (c.terms.result - 1) in
    let middle = decimal (c.documents.result / 2) in
    let made : IfOk c.format.result (λ line. string_bytes line ≡ codes "next " ++ (last ++ (codes " " ++ middle))) = search rules in
    made-so c.format.result (codes "next " ++ (last ++ (codes " " ++ middle))) _ made
    (sym (append_assoc (codes "next " ++ last) (codes " ") middle ∙ append_assoc (codes "next ") last (codes " " ++ middle))
    ∙ (λ i. codes "next " ++ decimal (c.terms.ensures i - 1) ++ codes " " ++ decimal (c.documents.ensures i / 2)))
