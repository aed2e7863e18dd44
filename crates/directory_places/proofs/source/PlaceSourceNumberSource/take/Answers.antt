use Rattle.std.proofs.Common.{◌∙◌, ◌+◌, sym, ap, arith}
use Rattle.directory_places.proofs.Left.{are-taken, passed-one, passed-few, passed-none}
use Rattle.directory_places.proofs.source.PlaceSourceNumberSource.take.Goals as goal
use Rattle.directory_places.proofs.source.PlaceSourceNumberSource.take.Goals.{then-self, else-self}

pub overflow_add-place : goal.overflow_add-place
overflow_add-place c =
    let s = c.args.self.now in
    let h = c.requires.some.2 in
    let t = are-taken s.marks.words.now s.ends.now s.lists s.at s.passed c.requires.some.0 c.requires.some.1 h.spelled h.before h.left in
    omega (arith, t.small, t.within, t.few)

pub overflow_add-self : goal.overflow_add-self
overflow_add-self c =
    let s = c.args.self.now in
    let h = c.requires.some.2 in
    let one = passed-one s.marks.words.now s.ends.now s.lists s.at s.passed h.spelled h.before c.if-self.true in
    omega (arith, c.get.ensures, passed-few s.marks.words.now s.ends.now s.lists (s.at + 1) _ h.spelled one, c.type_inv.self)

pub overflow_add-self-2 : goal.overflow_add-self-2
overflow_add-self-2 c =
    let s = c.args.self.now in
    let h = c.requires.some.2 in
    let t = are-taken s.marks.words.now s.ends.now s.lists s.at s.passed c.requires.some.0 c.requires.some.1 h.spelled h.before h.left in
    elim c.if-self.branch [
      | then-self w ↦ omega (arith, ap (λ x. x.at) w.self-is, t.within, t.few)
      | else-self w ↦ omega (arith, ap (λ x. x.at) w.self-is, t.within, t.few)
    ]

pub returns : goal.returns
returns c y ys h =
    let s = c.args.self.now in
    let t = are-taken s.marks.words.now s.ends.now s.lists s.at s.passed y ys h.spelled h.before h.left in (
      sym t.place,
      elim c.if-self.branch [
        | then-self w ↦ rw w.self-is (record {
          spelled = h.spelled;
          reached = omega (arith, t.within);
          before = ap (λ k. s.passed + k) w.get.ensures ∙ passed-one s.marks.words.now s.ends.now s.lists s.at s.passed h.spelled h.before w.if-self.true;
          left = t.rest;
        })
        | else-self w ↦ rw w.self-is (record {
          spelled = h.spelled;
          reached = omega (arith, t.within);
          before = h.before ∙ passed-none s.marks.words.now s.ends.now s.lists s.at (s.at + 1) h.spelled w.if-self.false (omega arith);
          left = t.rest;
        })
      ],
    )
