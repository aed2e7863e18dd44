use Rattle.index_file.proofs.PackedStarts.{starts-from}
use Rattle.index_file.proofs.packed_checking.first_start.Goals as goal

pub first-requires : goal.first-requires
first-requires c =
    let s = c.starts_part in
    let p = s.result in
    let h = c.requires.stand in
    record { held = (h.0, (c.at-starts.ensures.part h.0).1 (starts-from c.args.words.now p.bits.words.now p.place p.u p.m h.0 s.ensures.bits s.ensures.place s.ensures.u s.ensures.m h.1)) }

pub returns : goal.returns
returns c ys h =
    let s = c.starts_part in
    let p = s.result in
    c.first.ensures ys ((c.at-starts.ensures.part ys).1 (starts-from c.args.words.now p.bits.words.now p.place p.u p.m ys s.ensures.bits s.ensures.place s.ensures.u s.ensures.m h))
