use Rattle.std.proofs.Common.{◌≡◌, ℕ, ◌+◌, Some, None, List, [], ◌∷◌, length, refl, sym, ap, ◌∙◌, subst, arith}
use Rattle.std.specs.Prelude.{if◌then◌else◌}
use Rattle.bit_words.specs.Bits.{bits_of}
use Rattle.bit_words.proofs.Value.{bits-bits_of, length-bits_of}
use Rattle.collection_model.specs.Collection.{greatest}
use Rattle.collection_model.specs.Sequences.{steps_from}
use Rattle.part_cost.specs.Payload.{payload}
use Rattle.part_cost.specs.Span.{past}
use Rattle.part_cost.specs.Stored.{HoldsPart}
use Rattle.part_codec.specs.PartBits.{part_bits}
use Rattle.packed_sequence.specs.SequencePlaces.{IsSequenceBefore}
use Rattle.packed_sequence.proofs.LonePlaces.{LoneFacts, lone-facts, lone-found}
use Rattle.packed_list.specs.declared.check.Found.{Found}
use Rattle.packed_list.specs.ListPlaces.{IsFound}
use Rattle.packed_list.proofs.ListPlaces.{step-told}
use Rattle.packed_list.proofs.check.check_lone.Goals as goal
use Rattle.packed_list.proofs.check.check_lone.Goals.{After-part_takes_its_payload, After-at-part}

-- a part, by other names of its place
move : (words : List ℕ) (bits : List ℕ) (place there u v m k : ℕ) (ys : List ℕ) → bits ≡ bits_of words → place ≡ there → u ≡ v → m ≡ k → HoldsPart part_bits bits place u m ys → HoldsPart part_bits (bits_of words) there v k ys
move words bits place there u v m k ys e f g h held =
    subst (λ zs. HoldsPart part_bits zs there v k ys) e
    (subst (λ p. HoldsPart part_bits bits p v k ys) f (subst (λ x. HoldsPart part_bits bits place x k ys) g (subst (λ j. HoldsPart part_bits bits place u j ys) h held)))

-- what is known of a sequence that stands there
facts : (c : After-part_takes_its_payload) → (xs ends : List ℕ) → IsSequenceBefore c.args.sought.last c.args.sought.m c.args.sought.bound (bits_of c.args.words.now) c.args.at c.args.end xs ends → LoneFacts (bits_of c.args.words.now) c.args.at c.args.end c.args.sought.last c.args.sought.m c.args.sought.bound xs
facts c xs ends h =
    lone-facts c.part_takes_its_payload.ensures.payload c.args.sought.last c.args.sought.m c.args.sought.bound (bits_of c.args.words.now) c.args.at c.args.end xs ends (omega (arith, c.args.sought.many)) c.args.sought.bound_fits c.requires.flag h

pub returns-then-end-place-clause-none : goal.returns-then-end-place-clause-none
returns-then-end-place-clause-none c = λ xs ends h.
    let f = facts (goal.at.returns-then-end-place-clause-none c).After-part_takes_its_payload xs ends h in
    omega (arith, f.place, c.from.ensures, c.if-end-place.true)

pub returns-then-saturating_sub-field-clause-none : goal.returns-then-saturating_sub-field-clause-none
returns-then-saturating_sub-field-clause-none c = λ xs ends h.
    let f = facts (goal.at.returns-then-saturating_sub-field-clause-none c).After-part_takes_its_payload xs ends h in
    omega (arith, f.end_is, f.below, c.get-field.ensures, c.saturating_sub.ensures, c.if-saturating_sub-field.true)

pub returns-then-universe-m-clause-none : goal.returns-then-universe-m-clause-none
returns-then-universe-m-clause-none c = λ xs ends h.
    let f = facts (goal.at.returns-then-universe-m-clause-none c).After-part_takes_its_payload xs ends h in
    omega (arith, f.end_is, f.room, c.get-field.ensures, c.from-m.ensures, c.if-universe-m.true)

pub returns-then-end-behind-clause-none : goal.returns-then-end-behind-clause-none
returns-then-end-behind-clause-none c = λ xs ends h.
    let f = facts (goal.at.returns-then-end-behind-clause-none c).After-part_takes_its_payload xs ends h in
    let u : c.get-field.result + c.args.sought.last.less + 1 ≡ past xs (length xs) = omega (arith, f.end_is, c.get-field.ensures) in
    let bits : c.payload_bits.result ≡ payload (past xs (length xs)) c.args.sought.m = c.payload_bits.ensures ∙ ap (λ x. payload x c.from-m.result) u ∙ ap (payload (past xs (length xs))) c.from-m.ensures in
    omega (arith, f.behind, bits, c.from.ensures, c.if-end-behind.true)

-- the part of such a sequence stands where it was looked for
stands : (c : After-at-part) → (xs ends : List ℕ) → IsSequenceBefore c.args.sought.last c.args.sought.m c.args.sought.bound (bits_of c.args.words.now) c.args.at c.args.end xs ends
    → HoldsPart part_bits (bits_of c.at-part.result.bits.words.now) c.at-part.result.place c.at-part.result.u c.at-part.result.m xs
stands c xs ends h =
    let words : List ℕ = c.args.words.now in
    let f = facts (goal.at.After-at-part c).After-part_takes_its_payload xs ends h in
    let p = c.at-part.result in
    let place : c.args.at + 1 + c.args.sought.last.width ≡ p.place = omega (arith, c.from.ensures, c.at-part.ensures.place) in
    let u : past xs (length xs) ≡ p.u = omega (arith, f.end_is, c.get-field.ensures, c.at-part.ensures.u) in
    let m : c.args.sought.m ≡ p.m = omega (arith, c.from-m.ensures, c.at-part.ensures.m) in
    let bits : bits_of words ≡ bits_of p.bits.words.now = ap bits_of (sym c.at-part.ensures.bits) in
    move p.bits.words.now (bits_of words) (c.args.at + 1 + c.args.sought.last.width) p.place (past xs (length xs)) p.u c.args.sought.m p.m xs bits place u m f.held

-- and a part that stands there is of such a sequence
is-found : (c : After-at-part) → (ys : List ℕ) → HoldsPart part_bits (bits_of c.at-part.result.bits.words.now) c.at-part.result.place c.at-part.result.u c.at-part.result.m ys
    → (found : Found) → found.behind ≡ c.args.at + 1 + c.from.result + c.payload_bits.result → found.greatest ≡ (if c.args.sought.with_steps then Some (greatest (steps_from 0 ys)) else None)
    → (is : IsFound c.args.sought.last c.args.sought.m c.args.sought.bound c.args.sought.with_steps (bits_of c.args.words.now) c.args.at c.args.end found) × (is.values ≡ ys)
is-found c ys got told behind_is step_is =
    let s = c.args.sought in
    let words : List ℕ = c.args.words.now in
    let bits : List ℕ = bits_of words in
    let p = c.at-part.result in
    let u : ℕ = c.get-field.result + s.last.less + 1 in
    let place : p.place ≡ c.args.at + 1 + s.last.width = omega (arith, c.from.ensures, c.at-part.ensures.place) in
    let top : p.u ≡ u = omega (arith, c.at-part.ensures.u) in
    let m : p.m ≡ s.m = omega (arith, c.from-m.ensures, c.at-part.ensures.m) in
    let held : HoldsPart part_bits bits (c.args.at + 1 + s.last.width) u s.m ys =
    move words (bits_of p.bits.words.now) p.place (c.args.at + 1 + s.last.width) p.u u p.m s.m ys (ap bits_of c.at-part.ensures.bits) place top m got in
    let long : c.payload_bits.result ≡ payload u s.m = c.payload_bits.ensures ∙ ap (payload u) c.from-m.ensures in
    let behind : ℕ = c.args.at + 1 + c.from.result + c.payload_bits.result in
    let found = lone-found c.part_takes_its_payload.ensures.payload s.last s.m s.bound bits c.args.at c.args.end c.get-field.result u behind ys (bits-bits_of words) (omega (arith, s.many)) s.bound_fits
    c.requires.within (omega (arith, c.requires.range, length-bits_of words)) c.requires.flag c.get-field.ensures (let e : u ≡ u = omega arith in e)
    (omega (arith, c.saturating_sub.ensures, c.if-saturating_sub-field.false)) (omega (arith, c.from.ensures, long)) (omega (arith, c.if-end-behind.false)) held in
    (record { values = ys; ends = s.m ∷ []; sequence = found.sequence; behind = behind_is ∙ found.behind_is; step = step_is }, refl)

pub returns-in-None-clause-none : goal.returns-in-None-clause-none
returns-in-None-clause-none c = λ xs ends h. c.in-None.ensures.none xs (stands (goal.at.returns-in-None-clause-none c).After-at-part xs ends h)

pub returns-in-Some-clause-some : goal.returns-in-Some-clause-some
returns-in-Some-clause-some c =
    let got = c.in-Some.ensures.some in
    let ys : List ℕ = got.0 in
    let is = is-found (goal.at.returns-in-Some-clause-some c).After-at-part ys got.1 c.found_up_to.result c.found_up_to.ensures.behind (c.found_up_to.ensures.step ∙ step-told c.args.sought.with_steps c.in-Some.step (greatest (steps_from 0 ys)) got.2) in
    (is.0, λ some. got.3 some ∙ sym is.1)
