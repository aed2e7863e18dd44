use Rattle.std.proofs.Common.{◌≡◌, ℕ, ◌≤◌, ◌-◌, ◌++◌, List, length, take, true, sym, ap, ◌∙◌, arith, append_assoc}
use Rattle.std.proofs.lemmas.List.{length-take, take-take, take_at}
use Rattle.collection_model.specs.Collection.{Posting, list_of}
use Rattle.collection_model.specs.Sequences.{doc_sequence, freq_sequence}
use Rattle.packed_list.proofs.check.check_tail.Goals as goal

-- one posting
pub returns-then-list-eq1-clause-took : goal.returns-then-list-eq1-clause-took
returns-then-list-eq1-clause-took g c = λ t col ends cuts took same stands.
    g.met.L.ListSink.passes c.args.lists.now col c.args.list.term took (omega (arith, stands.count, c.if-list-eq1.true))

-- a list that is not wanted
pub returns-in_default-clause-took : goal.returns-in_default-clause-took
returns-in_default-clause-took g c = λ t col ends cuts took same stands.
    c.in_default.ensures.passed col took (record { documents = same; postings = sym stands.count; greatest = sym stands.greatest_is })

-- a room begins with what was given to its front
begins : (m len : ℕ) (room now xs post rest : List ℕ) → 1 ≤ m → m ≤ length room → m ≤ len → length now ≡ length (take (m - 0) room) → (1 ≤ length (take (m - 0) room) → now ≡ xs)
    → take m (take len ((now ++ post) ++ rest)) ≡ xs
begins m len room now xs post rest some long within same is =
    let front : length (take (m - 0) room) ≡ m = omega (arith, length-take (m - 0) room, long) in
    take-take m len ((now ++ post) ++ rest) within ∙ ap (take m) (append_assoc now post rest) ∙ take_at now (post ++ rest) m (same ∙ front) ∙ is (omega (arith, front, some))

-- the list that was found is the one that is given
pub take-requires : goal.take-requires
take-requires g c =
    let m : ℕ = c.args.list.postings in
    let many = (c.check_many-2).ensures in
    let is : (c.check_many-2).result ≡ true = c.if-not-check_many.false in
    let held = many.tail.0 is in
    let list : List Posting = held.0 in
    let stands = held.3 in
    let docs = c.deref_mut.result.now in
    let sums = (c.deref_mut-2).result.now in
    let wide : m ≤ length docs = omega (arith, c.in-Some.ensures.docs, ap length c.deref_mut.ensures.value) in
    let deep : m ≤ length sums = omega (arith, c.in-Some.ensures.sums, ap length (c.deref_mut-2).ensures.value) in (
      list,
      record {
        well_formed = stands.cut.well_formed;
        postings = sym stands.count;
        greatest = sym stands.greatest_is;
        docs =
            begins m _ docs (c.check_many-2).new.docs (doc_sequence list) _ _ c.requires.some wide (omega (arith, wide, c.deref_mut.ensures.len)) many.docs_room (λ some. many.docs is some list held.1 held.2 stands);
        sums =
            begins m _ sums (c.check_many-2).new.sums (freq_sequence list) _ _ c.requires.some deep (omega (arith, deep, (c.deref_mut-2).ensures.len)) many.sums_room (λ some. many.sums is some list held.1 held.2 stands);
      },
    )

-- a list that was taken
pub returns-clause-took : goal.returns-clause-took
returns-clause-took g c = λ t col ends cuts took same stands.
    let m : ℕ = c.args.list.postings in
    let list : List Posting = list_of col c.args.list.term in
    let is : (c.check_many-2).result ≡ true = c.if-not-check_many.false in
    let many = (c.check_many-2).ensures in
    let docs = c.deref_mut.result.now in
    let sums = (c.deref_mut-2).result.now in
    let wide : m ≤ length docs = omega (arith, c.in-Some.ensures.docs, ap length c.deref_mut.ensures.value) in
    let deep : m ≤ length sums = omega (arith, c.in-Some.ensures.sums, ap length (c.deref_mut-2).ensures.value) in
    c.take.ensures col (c.in-Some.ensures.lent col took) (record { documents = same; postings = sym stands.count; greatest = sym stands.greatest_is })
    (begins m _ docs (c.check_many-2).new.docs (doc_sequence list) _ _ c.requires.some wide (omega (arith, wide, c.deref_mut.ensures.len)) many.docs_room (λ some. many.docs is some list ends cuts stands))
    (begins m _ sums (c.check_many-2).new.sums (freq_sequence list) _ _ c.requires.some deep (omega (arith, deep, (c.deref_mut-2).ensures.len)) many.sums_room (λ some. many.sums is some list ends cuts stands))
