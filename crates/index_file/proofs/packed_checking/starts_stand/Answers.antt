use Rattle.index_file.proofs.PackedStarts.{starts-as, starts-from}
use Rattle.index_file.proofs.packed_checking.starts_stand.Goals as goal

pub returns : goal.returns
returns c =
    let s = c.starts_part in
    let p = s.result in (
      λ t. (let held = c.check_part.ensures.0 t in
          (held.0, starts-as c.args.words.now p.bits.words.now p.place p.u p.m held.0 s.ensures.bits s.ensures.place s.ensures.u s.ensures.m held.1)),
      λ h. c.check_part.ensures.1
          (h.0, starts-from c.args.words.now p.bits.words.now p.place p.u p.m h.0 s.ensures.bits s.ensures.place s.ensures.u s.ensures.m h.1),
    )
