use Rattle.std.proofs.Common.{length, ap, arith}
use Rattle.directory_places.proofs.Marks.{length-places}
use Rattle.directory_places.proofs.places.Places.len.Goals as goal

pub returns : goal.returns
returns c =
    let s = c.self.inside in
    omega (arith, c.len.ensures, length-places s.marks s.ends.items, ap length c.self.view_is)
