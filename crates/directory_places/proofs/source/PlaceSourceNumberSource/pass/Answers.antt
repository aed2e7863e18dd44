use Rattle.std.proofs.Common.{◌≡◌, ◌∙◌, ◌+◌, drop, ap, arith}
use Rattle.std.proofs.lemmas.List.{drop-drop}
use Rattle.directory_places.specs.Places.{places_of}
use Rattle.directory_places.proofs.Left.{marks_in, passed-some, passed-few, passed-there, left-few}
use Rattle.directory_places.proofs.source.PlaceSourceNumberSource.pass.Goals as goal
use Rattle.directory_places.proofs.source.PlaceSourceNumberSource.pass.Goals.{then-self-end, else-self-end}

pub overflow_add-self : goal.overflow_add-self
overflow_add-self c =
    let h = c.requires.many.1 in
    let few = left-few c.args.self.now c.requires.many.0 c.args.count h c.requires.many.2 in
    omega (arith, few.0, few.1)

pub overflow_add-self-then-self-end : goal.overflow_add-self-then-self-end
overflow_add-self-then-self-end c =
    let s = c.args.self.now in
    let h = c.requires.many.1 in
    let some = passed-some s.marks.words.now s.ends.now s.lists s.at c.args.count c.min-end.result s.passed h.spelled h.before c.min-end.ensures c.if-self-end.true in
    omega (arith, c.ones.ensures, passed-few s.marks.words.now s.ends.now s.lists (s.at + c.args.count) _ h.spelled some, c.type_inv.self)

pub overflow_add-self-2 : goal.overflow_add-self-2
overflow_add-self-2 c =
    let h = c.requires.many.1 in
    let few = left-few c.args.self.now c.requires.many.0 c.args.count h c.requires.many.2 in
    elim c.if-self-end.branch [
      | then-self-end w ↦ omega (arith, ap (λ x. x.at) w.self-is, few.0, few.1)
      | else-self-end w ↦ omega (arith, ap (λ x. x.at) w.self-is, few.0, few.1)
    ]

pub returns : goal.returns
returns c ys h =
    let s = c.args.self.now in
    let p = places_of (marks_in s.marks.words.now s.lists) s.ends.now in
    let few = left-few s c.requires.many.0 c.args.count c.requires.many.1 c.requires.many.2 in
    let left : drop c.args.count ys ≡ drop (c.args.self.now.at + c.args.count) (places_of (marks_in c.args.self.now.marks.words.now c.args.self.now.lists) c.args.self.now.ends.now) = ap (drop c.args.count) h.left ∙ drop-drop c.args.count s.at p in
    elim c.if-self-end.branch [
      | then-self-end w ↦ rw w.self-is (record {
        spelled = h.spelled;
        reached = few.0;
        before = ap (λ k. s.passed + k) w.ones.ensures ∙ passed-some s.marks.words.now s.ends.now s.lists s.at c.args.count c.min-end.result s.passed h.spelled h.before c.min-end.ensures w.if-self-end.true;
        left = left;
      })
      | else-self-end w ↦ rw w.self-is (record {
        spelled = h.spelled;
        reached = few.0;
        before = passed-there s.marks.words.now s.ends.now s.lists s.at c.args.count c.min-end.result s.passed h.spelled h.before c.min-end.ensures w.if-self-end.false;
        left = left;
      })
    ]
