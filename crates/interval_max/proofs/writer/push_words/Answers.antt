use Rattle.std.proofs.Common.{◌≡◌, ℕ, ◌+◌, sym, ap, ◌∙◌, List, ◌++◌, append-nil, take, get_or, arith}
use Rattle.std.proofs.lemmas.List.{get_or_default, take_all, take_more}
use Rattle.collection_model.specs.Bytes.{le64, word_bytes}
use Rattle.interval_max.proofs.Kept.{append-assoc, words-push}
use Rattle.interval_max.proofs.writer.push_words.Goals as goal

pub loop-word-init : goal.loop-word-init
loop-word-init c = sym (append-nil c.args.bytes.now.items)

pub loop-word-preserved : goal.loop-word-preserved
loop-word-preserved c =
    let words : List ℕ = c.args.words.now in
    let k : ℕ = c.loop-word.word-index in
    let old : List ℕ = c.args.bytes.now.items in
    let more : word_bytes (take (k + 1) words) ≡ word_bytes (take k words) ++ le64 (get_or words k 0) = ap word_bytes (take_more words k 0 c.loop-word-test.true) ∙ words-push (take k words) (get_or words k 0) in
    c.in_ok-push_word.ensures ∙ ap (λ (l : List ℕ). l ++ le64 (get_or words k 0)) c.loop-word.invariant
    ∙ append-assoc old (word_bytes (take k words)) (le64 (get_or words k 0)) ∙ sym (ap (λ (l : List ℕ). old ++ l) more)

pub returns-clause-added : goal.returns-clause-added
returns-clause-added c =
    let whole : take c.loop-word.word-index c.args.words.now ≡ c.args.words.now = take_all c.loop-word.word-index c.args.words.now (omega (arith, c.loop-word-test.false, c.loop-word.auto.word-index-end)) in
    c.loop-word.invariant ∙ ap (λ (l : List ℕ). c.args.bytes.now.items ++ word_bytes l) whole

pub returns-clause-words : goal.returns-clause-words
returns-clause-words c = λ k d within. let e = get_or_default c.args.words.now k 0 d within in omega (arith, e, c.type_inv.words k)
