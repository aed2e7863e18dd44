use Rattle.bit_words.specs.Bits.{bits_of}
use Rattle.packed_list.proofs.NearGammas.{some-window}
use Rattle.packed_list.proofs.gamma.two_gammas.Goals as goal

-- some bits stand there
pub near_gammas-requires-clause-ordered : goal.near_gammas-requires-clause-ordered
near_gammas-requires-clause-ordered c =
    let h = c.requires.stand in
    some-window (bits_of c.args.bits.words.now) c.args.at c.args.end h.0 h.1 h.2

pub far_gammas-requires-clause-ordered : goal.far_gammas-requires-clause-ordered
far_gammas-requires-clause-ordered c =
    let h = c.requires.stand in
    some-window (bits_of c.args.bits.words.now) c.args.at c.args.end h.0 h.1 h.2

pub unreachable-requires : goal.unreachable-requires
unreachable-requires c = let h = c.requires.stand in (c.in_default-far_gammas).ensures.none h.0 h.1 h.2
