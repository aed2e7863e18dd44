use Rattle.std.proofs.Common.{◌≡◌, ◌++◌, rules, codes, string_bytes}
use Rattle.serde_json.specs.View.{view}
use Rattle.index_printing.proofs.PrintedLine.{line-made}
use Rattle.index_printing.proofs.printing.summary_line.Goals as goal

pub returns : goal.returns
returns c =
    let ended : string_bytes c.push.new.self ≡ string_bytes c.in_ok-line.line ++ codes "\n" = search rules in
    line-made c.args.index.now c.counts_of.result (view c.in_ok-value.value) (string_bytes c.in_ok-line.line) _ c.counts_of.ensures c.in_ok-value.ensures c.in_ok-line.ensures.text ended
