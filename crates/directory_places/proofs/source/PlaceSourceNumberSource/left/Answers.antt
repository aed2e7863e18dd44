use Rattle.std.proofs.Common.{length, length-drop, ap, arith}
use Rattle.directory_places.specs.Places.{places_of}
use Rattle.directory_places.proofs.Marks.{length-places}
use Rattle.directory_places.proofs.Left.{marks_in, length-marks}
use Rattle.directory_places.proofs.source.PlaceSourceNumberSource.left.Goals as goal

pub overflow_add-result : goal.overflow_add-result
overflow_add-result c =
    let s = c.args.self.now in
    let h = c.requires.some.1 in
    omega (arith, length-marks s.marks.words.now s.ends.now s.lists h.spelled, h.spelled.marked.few)

pub returns : goal.returns
returns c ys h =
    let s = c.args.self.now in
    let m = marks_in s.marks.words.now s.lists in
    omega (arith, ap length h.left, length-drop s.at (places_of m s.ends.now), length-places m s.ends.now, length-marks s.marks.words.now s.ends.now s.lists h.spelled, h.reached)
