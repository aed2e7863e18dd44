use Rattle.std.proofs.Common.{sym, ap, ◌∙◌, ℕ, List, ◌∷◌, ◌++◌, drop, decimal, append_assoc, arith}
use Rattle.query_text.specs.Lines.{space}
use Rattle.query_text.specs.Texts.{colon}
use Rattle.query_text.proofs.Written.{digits-of_32, digits-of_64}
use Rattle.query_text.proofs.replies.write_pair.Goals as goal

pub write_after-middle-requires-clause-room : goal.write_after-middle-requires-clause-room
write_after-middle-requires-clause-room c =
    let fits = c.ranges.score.fits in
    let digits = digits-of_64 c.args.score (omega arith) in
    let room = c.requires.room in
    omega arith

pub write_after-requires-clause-room : goal.write_after-requires-clause-room
write_after-requires-clause-room c =
    let fits = c.ranges.score.fits in
    let digits = digits-of_64 c.args.score (omega arith) in
    let doc = c.from.ensures in
    let doc-fits = c.ranges.doc.fits in
    let more = digits-of_32 c.from.result (omega arith) in
    let middle = c.write_after-middle.ensures.start in
    let room = c.requires.room in
    omega arith

pub returns-clause-few : goal.returns-clause-few
returns-clause-few c =
    let fits = c.ranges.score.fits in
    let digits = digits-of_64 c.args.score (omega arith) in
    let doc = c.from.ensures in
    let doc-fits = c.ranges.doc.fits in
    let more = digits-of_32 c.from.result (omega arith) in
    let middle = c.write_after-middle.ensures.start in
    let start = c.write_after.ensures.start in
    omega arith

pub returns-clause-written : goal.returns-clause-written
returns-clause-written c =
    let behind : List ℕ = drop c.write_after-middle.result c.write_after-middle.new.text in
    let rest : List ℕ = drop c.args.end c.args.room.now in
    c.write_after.ensures.written
    ∙ ap (λ (n : ℕ). space ∷ decimal n ++ behind) c.from.ensures
    ∙ ap (λ (r : List ℕ). space ∷ decimal c.args.doc ++ r) c.write_after-middle.ensures.written
    ∙ ap (λ (r : List ℕ). space ∷ r) (sym (append_assoc (decimal c.args.doc) (colon ∷ decimal c.args.score) rest))
