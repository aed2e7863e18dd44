use Rattle.std.proofs.Common.{ℕ, ◌/◌, ◌^◌, ◌<◌, List, get_or, rules}
use Rattle.packed_sequence.proofs.WindowBits.{window-bits}
use Rattle.packed_sequence.proofs.window.window_from.Goals as goal

pub returns : goal.returns
returns c =
    let ws : List ℕ = c.args.bits.words.now in
    let small : get_or ws (c.args.at / 64) 0 < 2 ^ 64 = search rules in
    window-bits ws c.args.at c.word_or_zero-next.result small c.word_or_zero-next.ensures
