use Rattle.std.proofs.Common.{◌≡◌, ◌∙◌, List, ℕ, ◌++◌, ap, rules, append_assoc, string_bytes}
use Rattle.std.specs.Prelude.{codes, decimal}
use Rattle.pef_report.specs.AuditLine.{audit_line, which_text}
use Rattle.pef_report.proofs.audit.audit_line.Goals as goal

-- the pieces of the line, one after the other
abbrev pieces : List ℕ → List ℕ → List ℕ → List ℕ → List ℕ → List ℕ
pieces t w c l a = t ++ (codes " " ++ (w ++ (codes " " ++ (c ++ (codes " " ++ (l ++ (codes " " ++ (a ++ codes "\n"))))))))

grouped : (t w c l a : List ℕ) → pieces t w c l a ≡ t ++ codes " " ++ w ++ codes " " ++ c ++ codes " " ++ l ++ codes " " ++ a ++ codes "\n"
grouped t w c l a = simp append_assoc

pub returns : goal.returns
unfolding audit_line
returns c =
    let t = decimal c.args.term in
    let cost = decimal c.args.cost in
    let allowed = decimal c.args.allowed in
    let any = decimal c.args.any in
    let made : string_bytes c.in_ok-format.field-0 ≡ pieces t c.which_name-name.result.now cost allowed any = search rules in
    made ∙ ap (λ (w : List ℕ). pieces t w cost allowed any) c.which_name-name.ensures ∙ grouped t (which_text c.args.which) cost allowed any
