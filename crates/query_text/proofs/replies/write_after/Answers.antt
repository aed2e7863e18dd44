use Rattle.std.proofs.Common.{◌≡◌, sym, ap, ◌∙◌, ℕ, List, ◌∷◌, ◌++◌, length, drop, decimal, arith}
use Rattle.std.proofs.lemmas.Fmt.{decimal_digit}
use Rattle.query_text.proofs.replies.write_after.Goals as goal

pub write_before-requires-clause-room : goal.write_before-requires-clause-room
write_before-requires-clause-room c =
    let one : length (decimal c.args.number) ≡ 1 = ap length (decimal_digit c.args.number c.if-number-lt10.true) in
    let room = c.requires.room in
    let start = c.write_before-first.ensures.start in
    omega arith

pub returns-then-number-lt10-clause-start : goal.returns-then-number-lt10-clause-start
returns-then-number-lt10-clause-start c =
    let one : length (decimal c.args.number) ≡ 1 = ap length (decimal_digit c.args.number c.if-number-lt10.true) in
    let first = c.write_before-first.ensures.start in
    let start = c.write_before.ensures.start in
    omega arith

pub returns-then-number-lt10-clause-written : goal.returns-then-number-lt10-clause-written
returns-then-number-lt10-clause-written c =
    let behind : List ℕ = drop c.args.end c.args.text.now in
    c.write_before.ensures.written
    ∙ ap (λ (r : List ℕ). c.args.byte ∷ r) (c.write_before-first.ensures.written ∙ ap (λ (ds : List ℕ). ds ++ behind) (sym (decimal_digit c.args.number c.if-number-lt10.true)))
