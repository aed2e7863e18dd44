use Rattle.std.proofs.Common.{◌≡◌, ◌∙◌, ◌<◌, ◌^◌, ℕ, ap, subst, List, ◌++◌, length, arith}
use Rattle.std.specs.List.{All}
use Rattle.collection_model.specs.Bytes.{le64, word_bytes}
use Rattle.interval_max.proofs.Kept.{finished}
use Rattle.interval_max.proofs.writer.MaximaWriter.finish.Goals as goal

pub returns : goal.returns
returns c = λ has list n holds.
    let front : List ℕ = c.args.self.bytes.items in
    let words : List ℕ = c.args.self.words.items in
    let first = c.in_ok-push_words.ensures.added ∙ ap (λ (ws : List ℕ). front ++ word_bytes ws) c.deref.ensures.value in
    let begin : c.len-begin.result ≡ length front = omega arith in
    let is : c.shrink_to_fit.new.self.items ≡ (front ++ word_bytes words) ++ le64 (length front) =
    c.shrink_to_fit.ensures.items ∙ c.in_ok-push_word.ensures ∙ ap (λ (l : List ℕ). l ++ le64 c.len-begin.result) first ∙ ap (λ (k : ℕ). (front ++ word_bytes words) ++ le64 k) begin in
    let fits : All (λ w. w < 2 ^ 64) words = subst (All (λ w. w < 2 ^ 64)) c.deref.ensures.value c.in_ok-push_words.ensures.words in
    let short : length front < 2 ^ 64 = omega arith in
    finished has list n front words c.shrink_to_fit.new.self.items holds.whole fits short is holds.maxima
