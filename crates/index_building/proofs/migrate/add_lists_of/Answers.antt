-- Each list keeps what is made.
use Rattle.std.proofs.Common.{◌≡◌, refl, sym, ap, ◌∙◌, subst, ℕ, ◌+◌, ◌-◌, ◌*◌, ◌≤◌, ◌<◌, List, [], ◌∷◌, length, length-drop, drop, replicate, arith}
use Rattle.std.proofs.lemmas.List.Elements.{All-get_or}
use Rattle.collection_model.specs.Collection.{IsPostingList, list_of, postings_of}
use Rattle.part_cost.specs.Formats.{numbers_of}
use Rattle.cost_windows.specs.WindowBounds.{window_bounds}
use Rattle.index_file.specs.Builder.{AddsList}
use Rattle.index_building.proofs.AddedFromLists.{making-begins, making-more, making-counted, making-ends-empty, next-fits, next-has_room}
use Rattle.index_building.proofs.Migrating.{next-list, rest-empty}
use Rattle.index_building.proofs.migrate.add_lists_of.Given as given
use Rattle.index_building.proofs.migrate.add_lists_of.Goals.{After-loop-term}
use Rattle.index_building.proofs.migrate.add_lists_of.Goals as goal

pub new-requires : goal.new-requires
new-requires g c = omega (arith, c.documents.ensures, c.requires.documents)

pub loop-term-init : goal.loop-term-init
loop-term-init g c =
    let b = c.in_ok-builder in
    record {
      making = making-begins c.args.format (g.S.ListSource.collection c.args.source.now) (g.S.ListSource.collection c.args.source.now).lists b.builder c.args.steps.now refl b.ensures.format (b.ensures.documents ∙ c.documents.ensures) b.ensures.no_list;
      source = c.in_ok-lists.ensures.collection;
      next = c.in_ok-lists.ensures.start;
    }

pub read_next-requires-clause-within : goal.read_next-requires-clause-within
read_next-requires-clause-within g c =
    let within : c.loop-term.term < length (g.S.ListSource.collection c.args.source.now).lists = omega (arith, c.loop-term-test.true, c.walked_terms-walked.ensures.within) in
    omega (arith, within, ap (λ d. length d.lists) c.loop-term.invariant.source)

pub add_list-requires-clause-list : goal.add_list-requires-clause-list
add_list-requires-clause-list g c =
    let within : c.loop-term.term < length (g.S.ListSource.collection c.args.source.now).lists = omega (arith, c.loop-term-test.true, c.walked_terms-walked.ensures.within) in
    let P : List ℕ → List ℕ → Type 0 = λ d f. IsPostingList (numbers_of c.loop-term.builder.format) c.loop-term.builder.documents (postings_of d f) in
    let at = All-get_or (IsPostingList (numbers_of c.args.format) (g.S.ListSource.collection c.args.source.now).documents) (g.S.ListSource.collection c.args.source.now).lists c.loop-term.term [] within c.requires.lists in
    let fits = next-fits c.args.format (g.S.ListSource.collection c.args.source.now) _ _ _ _ _ c.loop-term.invariant.making
    (subst (IsPostingList (numbers_of c.args.format) (g.S.ListSource.collection c.args.source.now).documents) (sym (c.in_ok-read_next.ensures.list ∙ ap (λ d. list_of d c.loop-term.term) c.loop-term.invariant.source)) at) in
    subst (λ d. P d c.deref-in-loop-term.result.now) (sym c.deref.ensures.value) (subst (P c.read_next.new.docs.items) (sym c.deref-in-loop-term.ensures.value) fits)

pub add_list-requires-clause-room : goal.add_list-requires-clause-room
add_list-requires-clause-room g c =
    let within : c.loop-term.term < length (g.S.ListSource.collection c.args.source.now).lists = omega (arith, c.loop-term-test.true, c.walked_terms-walked.ensures.within) in
    next-has_room c.lists_are_counted.ensures c.args.format (g.S.ListSource.collection c.args.source.now) _ _ _ _ _ _ c.loop-term.invariant.making (next-list (g.S.ListSource.collection c.args.source.now) c.loop-term.term within)
    c.requires.terms

pub loop-term-preserved : goal.loop-term-preserved
loop-term-preserved g c =
    let t : ℕ = c.loop-term.term in
    let docs : List ℕ = c.read_next.new.docs.items in
    let freqs : List ℕ = c.read_next.new.freqs.items in
    let old = c.loop-term.builder in
    let new = c.add_list.new.self in
    let within : t < length (g.S.ListSource.collection c.args.source.now).lists = omega (arith, c.loop-term-test.true, c.walked_terms-walked.ensures.within) in
    let next : drop t (g.S.ListSource.collection c.args.source.now).lists ≡ postings_of docs freqs ∷ drop (t + 1) (g.S.ListSource.collection c.args.source.now).lists =
    next-list (g.S.ListSource.collection c.args.source.now) t within ∙ ap (λ l. l ∷ drop (t + 1) (g.S.ListSource.collection c.args.source.now).lists) (sym (c.in_ok-read_next.ensures.list ∙ ap (λ d. list_of d c.loop-term.term) c.loop-term.invariant.source)) in
    let Adds : List ℕ → List ℕ → Type 0 = λ d f. AddsList old new (postings_of d f) c.loop-term.steps c.add_list.new.steps in
    let adds : Adds docs freqs =
    subst (λ d. Adds d freqs) c.deref.ensures.value (subst (Adds c.deref.result.now) c.deref-in-loop-term.ensures.value c.in_ok-add_list.ensures.ok) in
    let most =
    subst (λ d. c.add_list.new.steps ≤ c.loop-term.steps + 6 * length (window_bounds old.format) * (length d + 1)) c.deref.ensures.value c.add_list.ensures.bounded in
    record {
      making = making-more c.args.format (g.S.ListSource.collection c.args.source.now) _ _ _ _ docs freqs _ _ _ c.loop-term.invariant.making next c.in_ok-read_next.ensures.same_length adds most;
      source = c.in_ok-read_next.ensures.collection ∙ c.loop-term.invariant.source;
      next = c.in_ok-read_next.ensures.next;
    }

-- the lists that are left, without postings
rest : (g : given.Over) (c : After-loop-term g) → drop c.loop-term.term (g.S.ListSource.collection c.args.source.now).lists ≡ replicate (length (g.S.ListSource.collection c.args.source.now).lists - c.walked_terms-walked.result) []
rest g c =
    let w = c.walked_terms-walked in
    let all : c.loop-term.term ≡ c.walked_terms-walked.result = omega (arith, c.loop-term-test.false, c.loop-term.auto.term-end) in
    ap (λ t. drop t (g.S.ListSource.collection c.args.source.now).lists) all
    ∙ rest-empty (g.S.ListSource.collection c.args.source.now).lists w.result (length (g.S.ListSource.collection c.args.source.now).lists - w.result) (omega (arith, w.ensures.within)) w.ensures.rest

pub add_empty_lists-requires : goal.add_empty_lists-requires
add_empty_lists-requires g c =
    let lists = (g.S.ListSource.collection c.args.source.now).lists in
    record {
      room = omega (
        arith,
        making-counted c.lists_are_counted.ensures c.args.format (g.S.ListSource.collection c.args.source.now) _ _ _ _ c.loop-term.invariant.making,
        length-drop c.loop-term.term lists,
        c.loop-term-test.false,
        c.terms.ensures,
        c.requires.terms,
        c.walked_terms-walked.ensures.within,
        c.loop-term.auto.term-end,
      );
    }

pub returns : goal.returns
returns g c =
    let count : length (g.S.ListSource.collection c.args.source.now).lists - c.walked_terms-walked.result ≡ c.terms.result - c.walked_terms-walked.result = omega (arith, c.terms.ensures) in
    making-ends-empty c.args.format (g.S.ListSource.collection c.args.source.now) _ _ _ _ _ (c.terms.result - c.walked_terms-walked.result) c.loop-term.invariant.making
    (rest g (goal.at.returns g c).After-loop-term ∙ ap (λ n. replicate n []) count) c.in_ok-add_empty_lists.ensures.ok
