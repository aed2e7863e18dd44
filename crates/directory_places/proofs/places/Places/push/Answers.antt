use Rattle.std.proofs.Common.{◌≡◌, ◌∙◌, ◌+◌, ◌++◌, ◌∷◌, [], ◌<◌, ◌^◌, length, ap, rules, arith}
use Rattle.directory_places.specs.Places.{places_of}
use Rattle.directory_places.proofs.Marks.{length-places, places-end, marked-end}
use Rattle.directory_places.proofs.places.Places.push.Goals as goal

written : (c : goal.Else-is_err) → c.put.new.self ≡ c.self.inside.marks ++ 1 ∷ []
written c = search rules

entered : (c : goal.Else-is_err) → c.push.new.self.items ≡ c.self.inside.ends.items ++ c.args.end ∷ []
entered c = search rules

pub invariant_of-self-else-is_err : goal.invariant_of-self-else-is_err
invariant_of-self-else-is_err c =
    let s = c.self.inside in
    let room : length c.self.inside.marks + 1 < 2 ^ 62 = omega (arith, c.requires.room, length-places s.marks s.ends.items, ap length c.self.view_is) in
    rw (written c) (rw (entered c) (marked-end s.marks s.ends.items c.args.end c.self.invariant c.requires.end room))

pub returns-clause-ok : goal.returns-clause-ok
returns-clause-ok c =
    let s = c.self.inside in
    (λ t. places_of (written c t) (entered c t)) ∙ places-end s.marks s.ends.items c.args.end c.self.invariant.one_each
    ∙ ap (λ l. l ++ (c.args.end + length l) ∷ []) c.self.view_is
