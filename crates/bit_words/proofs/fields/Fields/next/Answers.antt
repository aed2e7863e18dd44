use Rattle.std.proofs.Common.{◌≡◌, ◌+◌, ◌*◌, ◌/◌, ◌^◌, ◌%◌, ◌≤◌, ◌<◌, length, get_or, subst, sym, refl, bit_and, bit_or, inl, inr, arith, rules}
use Rattle.std.proofs.lemmas.Bool.{cases_lt}
use Rattle.bit_words.specs.Bits.{field_at}
use Rattle.bit_words.specs.Fields.{IsTaken}
use Rattle.bit_words.proofs.FieldRows.{field-taken, taken-less, field-on, taken-on, word-there}
use Rattle.bit_words.proofs.fields.Fields.next.Goals as goal
use Rattle.bit_words.proofs.fields.Fields.next.Goals.{In-None}

pub invariant_of-self : goal.invariant_of-self
invariant_of-self c =
    let f = c.self.inside in
    subst (λ n. IsTaken f.words.now f.width f.mask f.next (f.rest / 2 ^ f.width) n) (sym c.in-Some.ensures.1)
    (taken-less f.words.now f.width f.mask f.next f.rest f.left c.self.invariant c.in-Some.ensures.0)

pub returns-in-Some-clause-value : goal.returns-in-Some-clause-value
returns-in-Some-clause-value c =
    let f = c.self.inside in
    subst (λ m. bit_and f.rest f.mask ≡ field_at m.bits m.at m.width) c.self.view_is
    (field-taken f.words.now f.width f.mask f.next f.rest f.left c.self.invariant c.in-Some.ensures.0)

-- where the field goes on in the next word, fewer bits are left than it has
less : (c : In-None) → c.self.inside.left < c.self.inside.width
less c = elim (cases_lt c.self.inside.left c.self.inside.width) [ inl l ↦ l | inr m ↦ absurd (c.in-None.ensures m) ]

-- and there is a next word
there : (c : In-None) → c.self.inside.next < length c.self.inside.words.now
there c =
    let f = c.self.inside in
    word-there f.words.now f.width f.mask f.next f.rest f.left c.self.invariant (less c) (subst (λ m. m.at + m.width ≤ length m.bits) (sym c.self.view_is) c.requires.within)

pub bounds-self-inside-self-inside : goal.bounds-self-inside-self-inside
bounds-self-inside-self-inside c = there (goal.at.bounds-self-inside-self-inside c).In-None

pub offset_bounds-self-inside-self-inside : goal.offset_bounds-self-inside-self-inside
offset_bounds-self-inside-self-inside c = omega (arith, there (goal.at.offset_bounds-self-inside-self-inside c).In-None)

pub overflow_add-self : goal.overflow_add-self
overflow_add-self c = omega (arith, there (goal.at.overflow_add-self c).In-None)

pub invariant_of-self-in-None : goal.invariant_of-self-in-None
invariant_of-self-in-None c =
    let f = c.self.inside in
    taken-on f.words.now f.width f.mask f.next f.rest f.left (get_or f.words.now f.next 0) c.self.invariant (less (goal.at.invariant_of-self-in-None c).In-None) refl (search rules)

pub returns-in-None-clause-value : goal.returns-in-None-clause-value
returns-in-None-clause-value c =
    let f = c.self.inside in
    subst (λ m. bit_or f.rest (bit_and (get_or f.words.now f.next 0 * 2 ^ f.left % 2 ^ 64) f.mask) ≡ field_at m.bits m.at m.width) c.self.view_is
    (field-on f.words.now f.width f.mask f.next f.rest f.left (get_or f.words.now f.next 0) c.self.invariant (less (goal.at.returns-in-None-clause-value c).In-None) refl (search rules))
