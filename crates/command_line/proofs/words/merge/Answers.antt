use Rattle.std.proofs.Common.{◌≡◌, sym, ap, ◌∙◌, rules, tests, take, arith}
use Rattle.std.specs.Prelude.{bytes_eq, option_map, string_bytes}
use Rattle.std.proofs.lemmas.Iterator.{YieldsList-from_slice}
use Rattle.std.proofs.lemmas.Iterator.Search.{any_from_yields_List}
use Rattle.command_line.specs.Asked.{asked}
use Rattle.command_line.specs.Command.{Merge, texts, unless}
use Rattle.command_line.proofs.Merged.{is_among, merged, where_not}
use Rattle.command_line.proofs.words.merge.Goals as goal

pub returns : goal.returns
returns c =
    let to = c.as_str-to.result.now in
    let indexes = take c.in_ok-last.last c.args.words.now in
    let taken : c.any-is_taken.result ≡ is_among to indexes = any_from_yields_List (λ word. bytes_eq (string_bytes word) to) _ _ c.any-is_taken.result c.any-is_taken.ensures.ran
    (YieldsList-from_slice indexes cc) (λ x b q k. search (rules, tests)) in
    let all = merged c.args.words.now c.in_ok-last.last c.index-words-last.result to (omega (arith, c.in_ok-last.ensures.0, c.in_ok-last.ensures.1)) c.index-words-last.is c.as_str-to.ensures.value in
    ap (option_map asked) c.then_some.ensures ∙ where_not c.any-is_taken.result _ ∙ ap (λ b. unless b (Merge (texts indexes) to)) taken ∙ sym all
