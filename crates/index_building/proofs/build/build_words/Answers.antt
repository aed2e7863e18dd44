-- Each refusal is that of the reading, or of the memory; each list keeps what is built; the last words are the file's.
use Rattle.std.proofs.Common.{◌≡◌, sym, ap, ◌∙◌, subst, ℕ, ◌+◌, ◌*◌, ◌^◌, ◌<◌, ◌≤◌, length, List, Ok, Err, arith}
use Rattle.std.specs.List.{All}
use Rattle.std.proofs.lemmas.Result.{err_from_is_err_and}
use Rattle.collection_model.specs.Collection.{postings_of, IsPostingList}
use Rattle.part_cost.specs.Formats.{numbers_of}
use Rattle.cost_windows.specs.WindowBounds.{window_bounds}
use Rattle.index_file.specs.FileWords.{words_of_file}
use Rattle.index_file.specs.Builder.{AddsList}
use Rattle.index_building.proofs.AddedFromFiles.{HasBuilt, build-begun, build-more, next-fits, next-has_room, build-refused, list-refused, memory-refused, build-ended, sizes-refused, words-finished, words-refused}
use Rattle.index_building.proofs.build.build_words.Given as given
use Rattle.index_building.proofs.build.build_words.Goals as goal
use Rattle.index_building.proofs.build.build_words.Goals.{Else-branch}

pub returns-in_err-reader : goal.returns-in_err-reader
returns-in_err-reader g c =
    let small = (c.formats_have_room.ensures c.args.format).fit in
    let p = err_from_is_err_and c.from_residual.result c.from_residual.ensures.1 in
    build-refused c.args.format (c.files_have_one_first_fault.ensures (numbers_of c.args.format) small) _ _ _ _ _ _ _
    ((c.lists_are_read_in_turn.ensures (numbers_of c.args.format) small).start_refused _ _ _ _ c.in_err-reader.ensures)
    (p.1 ∙ ap Err p.2)

pub loop-freqs-init : goal.loop-freqs-init
loop-freqs-init g c =
    build-begun c.args.format (c.lists_are_read_in_turn.ensures (numbers_of c.args.format) (c.formats_have_room.ensures c.args.format).fit) _ _ _ _ _ _
    c.in_ok-reader.ensures c.in_ok-builder.ensures.format (c.in_ok-builder.ensures.documents ∙ c.documents.ensures) c.in_ok-builder.ensures.no_list

pub next_list-requires : goal.next_list-requires
next_list-requires g c = record { started = c.loop-freqs.invariant.read.started }

pub returns-in_err-next_list : goal.returns-in_err-next_list
returns-in_err-next_list g c =
    let small = (c.formats_have_room.ensures c.args.format).fit in
    let p = err_from_is_err_and c.from_residual-in_err-next_list.result c.from_residual-in_err-next_list.ensures.1 in
    list-refused c.args.format (c.lists_are_read_in_turn.ensures (numbers_of c.args.format) small) (c.files_have_one_first_fault.ensures (numbers_of c.args.format) small) _ _ _ _ _ _ _ _ _ _ _ _ _ _
    c.loop-freqs.invariant c.next_list.ensures.list c.in_err-next_list.was (p.1 ∙ ap Err p.2)

pub add_list-requires-clause-list : goal.add_list-requires-clause-list
add_list-requires-clause-list g c =
    let fits = next-fits _ _ _ _ _ _ _ _ _ _ _ _ _ c.loop-freqs.invariant c.next_list.ensures.list (c.in_ok-next_list.was ∙ ap Ok c.if-branch.true) in
    let P = λ (docs freqs : List ℕ). IsPostingList (numbers_of c.loop-freqs.builder.format) c.loop-freqs.builder.documents (postings_of docs freqs) in
    subst (λ docs. P docs c.deref-in-loop-freqs.result.now) (sym c.deref.ensures.value) (subst (P c.next_list.new.docs.items) (sym c.deref-in-loop-freqs.ensures.value) fits)

pub add_list-requires-clause-room : goal.add_list-requires-clause-room
add_list-requires-clause-room g c =
    next-has_room c.lists_are_counted.ensures _ _ _ _ _ _ _ _ _ _ _ _ _ c.loop-freqs.invariant c.next_list.ensures.list (c.in_ok-next_list.was ∙ ap Ok c.if-branch.true)

pub loop-freqs-smaller : goal.loop-freqs-smaller
loop-freqs-smaller g c =
    let given = c.next_list.ensures.list.list (c.in_ok-next_list.was ∙ ap Ok c.if-branch.true) in
    omega (arith, given.counted, given.within)

pub loop-freqs-preserved : goal.loop-freqs-preserved
loop-freqs-preserved g c =
    let docs = c.next_list.new.docs.items in
    let freqs = c.next_list.new.freqs.items in
    let old = c.loop-freqs.builder in
    let new = c.add_list.new.self in
    let Adds : List ℕ → List ℕ → Type 0 = λ d f. AddsList old new (postings_of d f) c.loop-freqs.steps c.add_list.new.steps in
    let adds : Adds docs freqs =
    subst (λ d. Adds d freqs) c.deref.ensures.value (subst (Adds c.deref.result.now) c.deref-in-loop-freqs.ensures.value c.in_ok-add_list.ensures.ok) in
    let most =
    subst (λ d. c.add_list.new.steps ≤ c.loop-freqs.steps + 6 * length (window_bounds old.format) * (length d + 1)) c.deref.ensures.value c.add_list.ensures.bounded in
    build-more c.args.format (c.lists_are_read_in_turn.ensures (numbers_of c.args.format) (c.formats_have_room.ensures c.args.format).fit) _ _ _ _ _ _ _ _ _ _ _ _ _ _
    c.loop-freqs.invariant c.next_list.ensures.list (c.in_ok-next_list.was ∙ ap Ok c.if-branch.true) adds most

pub returns-in_err-add_list : goal.returns-in_err-add_list
returns-in_err-add_list g c =
    let small = (c.formats_have_room.ensures c.args.format).fit in
    let p = err_from_is_err_and c.from_residual-in_err-add_list.result c.from_residual-in_err-add_list.ensures.1 in
    memory-refused c.args.format (c.lists_are_read_in_turn.ensures (numbers_of c.args.format) small) (c.files_have_one_first_fault.ensures (numbers_of c.args.format) small) _ _ _ _ _ _ _ _ _ _ c.loop-freqs.steps _ _ _
    c.loop-freqs.invariant c.next_list.ensures.list (c.in_ok-next_list.was ∙ ap Ok c.if-branch.true) (p.1 ∙ ap Err p.2)

-- all lists were read, and are built
ended : (g : given.Over) (c : Else-branch g) → HasBuilt c.args.format c.args.base.now (g.D.Depot.state c.args.depot.now) (g.D.Depot.state c.next_list.new.depot) c.next_list.new.self c.loop-freqs.builder c.args.steps.now c.loop-freqs.steps
ended g c =
    build-ended c.args.format (c.lists_are_read_in_turn.ensures (numbers_of c.args.format) (c.formats_have_room.ensures c.args.format).fit) _ _ _ _ _ _ _ _ _ _ _ _
    c.loop-freqs.invariant c.next_list.ensures.list (c.in_ok-next_list.was ∙ ap Ok c.if-branch.false)

pub finish-requires-clause-started : goal.finish-requires-clause-started
finish-requires-clause-started g c = (ended g (goal.at.finish-requires-clause-started g c).Else-branch).read.read.started

pub finish-requires-clause-ended : goal.finish-requires-clause-ended
finish-requires-clause-ended g c = (ended g (goal.at.finish-requires-clause-ended g c).Else-branch).read.read.phase_is

pub returns-in_err-finish : goal.returns-in_err-finish
returns-in_err-finish g c =
    let small = (c.formats_have_room.ensures c.args.format).fit in
    let p = err_from_is_err_and c.from_residual-in_err-finish.result c.from_residual-in_err-finish.ensures.1 in
    sizes-refused c.args.format (c.lists_are_read_in_turn.ensures (numbers_of c.args.format) small) (c.files_have_one_first_fault.ensures (numbers_of c.args.format) small) _ _ _ _ _ _ _ _ _ _ _ _ _
    (ended g (goal.at.returns-in_err-finish g c).Else-branch) c.finish.ensures.sizes c.in_err-finish.was (p.1 ∙ ap Err p.2)

pub finish-requires-2 : goal.finish-requires-2
finish-requires-2 g c =
    let given = c.in_ok-finish.ensures.sizes.given in
    let reads = c.next_list.ensures.list in
    record { sizes = ap length c.deref-3.ensures.value ∙ given.count ∙ reads.documents ∙ sym c.loop-freqs.invariant.added.documents }

pub returns-in_err-finish-2 : goal.returns-in_err-finish-2
returns-in_err-finish-2 g c =
    let turn = c.lists_are_read_in_turn.ensures (numbers_of c.args.format) (c.formats_have_room.ensures c.args.format).fit in
    let sizes = c.deref-3.ensures.value in
    let p = err_from_is_err_and c.from_residual-in_err-finish-2.result c.from_residual-in_err-finish-2.ensures.1 in
    words-refused c.args.format turn c.files_spell_collections.ensures _ _ _ _ _ _ _ c.finish.new.sizes.items _ _ _ c.in_err-finish-2.field-0.0 _
    (ended g (goal.at.returns-in_err-finish-2 g c).Else-branch) c.finish.ensures.sizes c.in_ok-finish.was (subst (All (λ s. s < 2 ^ 32)) c.deref-2.ensures.value c.sizes_fit.ensures)
    (λ n h. (
      c.finish-2.ensures.too_large n (c.in_err-finish-2.was ∙ ap Err h),
      λ cs stands.
          subst (λ z. n ≡ length (words_of_file (numbers_of c.loop-freqs.builder.format) c.loop-freqs.builder.documents cs z)) sizes (c.finish-2.ensures.would_be n (c.in_err-finish-2.was ∙ ap Err h) cs stands),
    ))
    (p.1 ∙ ap Err p.2)

pub returns : goal.returns
returns g c =
    let turn = c.lists_are_read_in_turn.ensures (numbers_of c.args.format) (c.formats_have_room.ensures c.args.format).fit in
    let words = c.in_ok-finish-2.field-0 in
    words-finished c.args.format turn c.files_spell_collections.ensures _ _ _ _ _ _ _ c.finish.new.sizes.items _ _ _ words
    (ended g (goal.at.returns g c).Else-branch) c.finish.ensures.sizes c.in_ok-finish.was (subst (All (λ s. s < 2 ^ 32)) c.deref-2.ensures.value c.sizes_fit.ensures)
    (λ cs stands.
    subst (λ z. words.items ≡ words_of_file (numbers_of c.loop-freqs.builder.format) c.loop-freqs.builder.documents cs z) c.deref-3.ensures.value (c.in_ok-finish-2.ensures.words cs stands))
    c.in_ok-finish-2.ensures.within
