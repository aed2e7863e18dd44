-- Each list keeps what is generated.
use Rattle.std.proofs.Common.{sym, ap, ◌∙◌, subst, ℕ, ◌+◌, ◌*◌, ◌≤◌, length, List, Ok, arith, ◌≡◌}
use Rattle.collection_model.specs.FormatNumbers.{format_two}
use Rattle.collection_model.specs.Collection.{postings_of, IsPostingList}
use Rattle.part_cost.specs.declared.formats.Format.TheVariants.{Two}
use Rattle.part_cost.specs.Formats.{numbers_of}
use Rattle.cost_windows.specs.WindowBounds.{window_bounds}
use Rattle.pef_report.specs.Generated.{generated}
use Rattle.index_file.specs.Builder.{AddsList}
use Rattle.index_building.proofs.AddedFromLists.{making-begins, making-more, making-ends, next-fits, next-has_room}
use Rattle.index_building.proofs.Generating.{generated-documents, generated-fits}
use Rattle.index_building.proofs.generate.add_generated.Goals as goal

pub loop-freqs-init : goal.loop-freqs-init
loop-freqs-init g c =
    let documents = generated-documents c.args.seed c.args.documents c.args.terms in (
      c.new-lists.ensures.documents,
      making-begins Two (generated c.args.seed c.args.documents c.args.terms) _ _ _ c.new-lists.ensures.lists c.in_ok-builder.ensures.format
          (c.in_ok-builder.ensures.documents ∙ sym documents) c.in_ok-builder.ensures.no_list,
    )

pub add_list-requires-clause-list : goal.add_list-requires-clause-list
add_list-requires-clause-list g c =
    let n = c.args.documents in
    let is = c.in_ok-next_list.was ∙ ap Ok c.if-branch.true in
    let same : c.loop-freqs.lists.documents ≡ n = c.loop-freqs.invariant.0 in
    let list = c.next_list.ensures.posting_list is format_two (omega (arith, same, c.ranges.documents.fits)) in
    let fits =
    next-fits Two _ _ _ (postings_of c.next_list.new.docs.items c.next_list.new.freqs.items) _ _ c.loop-freqs.invariant.1
    (subst (λ k. IsPostingList format_two k (postings_of c.next_list.new.docs.items c.next_list.new.freqs.items)) (same ∙ sym (generated-documents c.args.seed n c.args.terms)) list) in
    let P = λ (d f : List ℕ). IsPostingList (numbers_of c.loop-freqs.builder.format) c.loop-freqs.builder.documents (postings_of d f) in
    subst (λ d. P d c.deref-in-loop-freqs.result.now) (sym c.deref.ensures.value) (subst (P c.next_list.new.docs.items) (sym c.deref-in-loop-freqs.ensures.value) fits)

pub add_list-requires-clause-room : goal.add_list-requires-clause-room
add_list-requires-clause-room g c =
    let is = c.in_ok-next_list.was ∙ ap Ok c.if-branch.true in
    let good = generated-fits c.generated_are_well_formed.ensures c.args.seed c.args.documents c.args.terms c.ranges.documents.fits c.ranges.terms.fits in
    next-has_room c.lists_are_counted.ensures Two _ _ _ _ _ _ _ c.loop-freqs.invariant.1 (c.next_list.ensures.list is) good.terms

pub loop-freqs-preserved : goal.loop-freqs-preserved
loop-freqs-preserved g c =
    let old = c.loop-freqs.builder in
    let new = c.add_list.new.self in
    let is = c.in_ok-next_list.was ∙ ap Ok c.if-branch.true in
    let Adds : List ℕ → List ℕ → Type 0 = λ d f. AddsList old new (postings_of d f) c.loop-freqs.steps c.add_list.new.steps in
    let adds : Adds c.next_list.new.docs.items c.next_list.new.freqs.items =
    subst (λ d. Adds d c.next_list.new.freqs.items) c.deref.ensures.value (subst (Adds c.deref.result.now) c.deref-in-loop-freqs.ensures.value c.in_ok-add_list.ensures.ok) in
    let most =
    subst (λ d. c.add_list.new.steps ≤ c.loop-freqs.steps + 6 * length (window_bounds old.format) * (length d + 1)) c.deref.ensures.value c.add_list.ensures.bounded in (
      c.next_list.ensures.documents is ∙ c.loop-freqs.invariant.0,
      making-more Two _ _ _ _ _ c.next_list.new.docs.items c.next_list.new.freqs.items _ _ _ c.loop-freqs.invariant.1 (c.next_list.ensures.list is) (c.next_list.ensures.same_length is) adds most,
    )

pub returns : goal.returns
returns g c =
    making-ends Two (generated c.args.seed c.args.documents c.args.terms) _ _ _ _ c.loop-freqs.invariant.1 (c.next_list.ensures.ended (c.in_ok-next_list.was ∙ ap Ok c.if-branch.false))
