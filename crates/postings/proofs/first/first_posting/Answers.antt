use Rattle.std.proofs.Common.{◌≡◌, ◌^◌, ◌<◌, length, slice_index, refl, sym, ap, subst, ◌∙◌, Some, arith}
use Rattle.std.specs.List.{slice_get}
use Rattle.std.proofs.lemmas.List.Elements.{All-get_or}
use Rattle.std.proofs.lemmas.Option.{slice_get_past, slice_get-get_or}
use Rattle.collection_model.specs.Sequences.{postings_in, steps_from}
use Rattle.collection_model.proofs.Sequences.{steps-length}
use Rattle.cursor_api.specs.NextGeq.{next_geq_place}
use Rattle.two_level.specs.SequenceView.{place_at_least}
use Rattle.postings.proofs.FirstPosting.{none-found, found}
use Rattle.postings.proofs.Lists.{in-doc, in-freqs, next-among_docs, cursor-docs, cursor-fit}
use Rattle.postings.proofs.first.first_posting.Goals as goal
use Rattle.postings.proofs.first.first_posting.Goals.{After-cursor_from-cursor, In-Some, After-step}

-- where the first document from d on stands
went : (c : After-cursor_from-cursor) → c.cursor_from-cursor.result.place ≡ next_geq_place (postings_in c.args.docs.now.values c.args.freqs.now.values) 0 c.args.d
went c = c.cursor_from-cursor.ensures.place ∙ ap (place_at_least c.args.docs.now.values 0) c.from.ensures ∙ next-among_docs c.args.docs.now.values c.args.freqs.now.values 0 c.args.d c.requires.same_length

-- if there is one
stands : (c : In-Some) → (c.cursor_from-cursor.result.place < length c.args.docs.now.values) × (c.in-Some.doc ≡ slice_index c.args.docs.now.values c.cursor_from-cursor.result.place)
stands c = subst (λ v. (c.cursor_from-cursor.result.place < length v.values) × (c.in-Some.doc ≡ slice_index v.values c.cursor_from-cursor.result.place)) c.cursor_from-cursor.ensures.sequence c.in-Some.ensures.some

within : (c : In-Some) → c.cursor_from-cursor.result.place < length (steps_from 0 c.args.freqs.now.values)
within c = omega (arith, (stands c).0, c.requires.same_length, steps-length 0 c.args.freqs.now.values)

-- and what its frequency is
step-is : (c : After-step) → c.step.result ≡ slice_index (steps_from 0 c.args.freqs.now.values) c.cursor_from-cursor.result.place
step-is c = c.step.ensures ∙ ap (slice_index (steps_from 0 c.args.freqs.now.values)) c.place.ensures

pub overflow_cast-result : goal.overflow_cast-result
overflow_cast-result c =
    let there = stands (goal.at.overflow_cast-result c).In-Some in
    omega (arith, there.1, All-get_or (λ d. d < 4294967295) c.args.docs.now.values c.cursor_from-cursor.result.place 0 there.0 (cursor-docs c.args.docs.now.values c.args.freqs.now.values c.requires.same_length c.requires.list))

pub overflow_cast-result-in-Some : goal.overflow_cast-result-in-Some
overflow_cast-result-in-Some c =
    omega (
      arith,
      step-is (goal.at.overflow_cast-result-in-Some c).After-step,
      All-get_or (λ f. f < 2 ^ 32) (steps_from 0 c.args.freqs.now.values) c.cursor_from-cursor.result.place 0 (within (goal.at.overflow_cast-result-in-Some c).In-Some) (cursor-fit c.args.docs.now.values c.args.freqs.now.values c.requires.same_length c.requires.list),
    )

pub returns-in-Some : goal.returns-in-Some
returns-in-Some c =
    let there = stands (goal.at.returns-in-Some c).In-Some in
    sym (found _ _ 0 c.cursor_from-cursor.result.place c.args.d c.in-Some.doc c.step.result refl refl (went (goal.at.returns-in-Some c).After-cursor_from-cursor)
    (sym (in-doc c.args.docs.now.values c.args.freqs.now.values c.cursor_from-cursor.result.place c.requires.same_length) ∙ slice_get-get_or c.args.docs.now.values c.cursor_from-cursor.result.place 0 there.0 ∙ ap Some (sym there.1))
    (ap (λ ys. slice_get ys c.cursor_from-cursor.result.place) (in-freqs c.args.docs.now.values c.args.freqs.now.values c.requires.same_length) ∙ slice_get-get_or (steps_from 0 c.args.freqs.now.values) c.cursor_from-cursor.result.place 0 (within (goal.at.returns-in-Some c).In-Some) ∙ ap Some (sym (step-is (goal.at.returns-in-Some c).After-step))))

pub returns-in-None : goal.returns-in-None
returns-in-None c =
    let end = subst (λ v. c.cursor_from-cursor.result.place ≡ length v.values) c.cursor_from-cursor.ensures.sequence c.in-None.ensures.none in
    sym (none-found _ _ 0 c.cursor_from-cursor.result.place c.args.d refl refl (went (goal.at.returns-in-None c).After-cursor_from-cursor) (sym (in-doc c.args.docs.now.values c.args.freqs.now.values c.cursor_from-cursor.result.place c.requires.same_length) ∙ slice_get_past c.args.docs.now.values c.cursor_from-cursor.result.place (omega (arith, end))))
