use Rattle.std.proofs.Common.{◌≡◌, refl, sym, ap, ◌∙◌, subst, ℕ, ◌+◌, ◌-◌, ◌*◌, ◌^◌, ◌<◌, ◌≤◌, true, false, List, ◌∷◌, map, replicate, Some, arith}
use Rattle.std.proofs.lemmas.List.{get_or-replicate}
use Rattle.collection_model.specs.Collection.{Posting}
use Rattle.scan_plans.specs.Scan.{doc_at, StandsFrom, in_each}
use Rattle.scan_plans.specs.Window.{passing}
use Rattle.scan_plans.proofs.Postings.{doc_at-some}
use Rattle.scan_plans.proofs.Shared.{IsTurn, turn, in-both, skip-to, none-later, none-left}
use Rattle.scan_plans.proofs.AtOnce.{stands-capped}
use Rattle.scan_plans.proofs.Marks.{all-marked}
use Rattle.scan_plans.proofs.Scans.{filter-skip}
use Rattle.scan_plans.proofs.Skipping.{stands-one_later}
use Rattle.scan_plans.proofs.Steps.{left-fewer, and-step, and-end, moved-stands, starts-passed, later-passed}
use Rattle.scan_plans.proofs.docs.shared_docs.Given as given
use Rattle.scan_plans.proofs.docs.shared_docs.Goals as goal
use Rattle.scan_plans.proofs.docs.shared_docs.Goals.{In-Some, After-next_geq, After-next_geq-then-words-gt0, In_ok-words}

pub loop-doc-init : goal.loop-doc-init
loop-doc-init g c = record {
  low = 0;
  list = refl;
  lists = refl;
  stand = (let start = c.requires.at_start in record { passed = λ k lt. absurd (omega arith); left = λ k from within. omega arith });
  passed = starts-passed g.C.DocCursor.list g.C.DocCursor.place c.args.others.now c.requires.others_at_start;
  docs = c.in_ok-docs.ensures.items;
  room = refl;
  marked = all-marked (replicate 64 (2 ^ 64 - 1)) (λ j lt. get_or-replicate 64 j (2 ^ 64 - 1) 0 lt);
}

-- the list stands at the document
stands-there : (g : given.Over) (c : In-Some g) → doc_at (g.C.DocCursor.list c.loop-doc.shortest) (g.C.DocCursor.place c.loop-doc.shortest) ≡ Some c.in-Some.doc
stands-there g c = sym c.doc.ensures ∙ c.in-Some.is

-- what is known there
turn-known : (g : given.Over) (c : In-Some g) → IsTurn (g.C.DocCursor.list c.args.shortest.now) (map g.C.DocCursor.list c.args.others.now) c.loop-doc.invariant.low c.in-Some.doc
turn-known g c =
    subst (λ (l : List Posting). IsTurn l (map g.C.DocCursor.list c.args.others.now) c.loop-doc.invariant.low c.in-Some.doc) c.loop-doc.invariant.list
    (turn (g.C.DocCursor.list c.loop-doc.shortest) (map g.C.DocCursor.list c.args.others.now) c.loop-doc.invariant.low c.in-Some.doc (g.C.DocCursor.place c.loop-doc.shortest) (g.met.C.DocCursor.well_formed c.loop-doc.shortest) c.loop-doc.invariant.stand (stands-there g c))

-- where it stands after it went to the next document that all the others may have
moved-on : (g : given.Over) (c : After-next_geq g) → c.loop-doc.invariant.low ≤ c.in-Some.doc → StandsFrom c.in-Some-seek_all.next (g.C.DocCursor.list c.next_geq.new.self) (g.C.DocCursor.place c.next_geq.new.self)
moved-on g c later =
    let far = c.in-Some-seek_all.ensures.later.0 in
    moved-stands g.C.DocCursor.list g.C.DocCursor.place c.next_geq_is_first.ensures.first c.in-Some-seek_all.next c.loop-doc.shortest c.next_geq.new.self (g.met.C.DocCursor.well_formed c.loop-doc.shortest)
    (record { passed = λ j lt. let h = c.loop-doc.invariant.stand.passed j lt in omega arith }) c.next_geq.ensures.list c.next_geq.ensures.place

-- and behind the words of marks that all told
moved-behind : (g : given.Over) (c : After-next_geq-then-words-gt0 g) → c.loop-doc.invariant.low ≤ c.in-Some.doc → StandsFrom (c.in-Some.doc + 64 * c.in_ok-words.words) (g.C.DocCursor.list c.next_geq-then-words-gt0.new.self) (g.C.DocCursor.place c.next_geq-then-words-gt0.new.self)
moved-behind g c later =
    let told = c.in_ok-words.ensures in
    let room = c.loop-doc.invariant.room in
    stands-capped (g.C.DocCursor.list c.next_geq-then-words-gt0.new.self) (c.in-Some.doc + 64 * c.in_ok-words.words) c.saturating_add.result (g.C.DocCursor.place c.next_geq-then-words-gt0.new.self)
    (g.met.C.DocCursor.well_formed c.next_geq-then-words-gt0.new.self).well_formed (omega (arith, c.saturating_add.ensures, told.within))
    (moved-stands g.C.DocCursor.list g.C.DocCursor.place c.next_geq_is_first.ensures.first c.saturating_add.result c.loop-doc.shortest c.next_geq-then-words-gt0.new.self (g.met.C.DocCursor.well_formed c.loop-doc.shortest)
    (record { passed = λ j lt. let h = c.loop-doc.invariant.stand.passed j lt in omega (arith, c.saturating_add.ensures, told.within) }) c.next_geq-then-words-gt0.ensures.list c.next_geq-then-words-gt0.ensures.place)

-- the documents after those of such words were added
words-added : (g : given.Over) (c : In_ok-words g) → IsTurn (g.C.DocCursor.list c.args.shortest.now) (map g.C.DocCursor.list c.args.others.now) c.loop-doc.invariant.low c.in-Some.doc
    → c.append_words.new.docs.items ≡ passing (λ d. in_each d (g.C.DocCursor.list c.args.shortest.now ∷ map g.C.DocCursor.list c.args.others.now)) (c.in-Some.doc + 64 * c.in_ok-words.words)
words-added g c turn =
    let lists : List (List Posting) = g.C.DocCursor.list c.args.shortest.now ∷ map g.C.DocCursor.list c.args.others.now in
    let same : g.C.DocCursor.list c.loop-doc.shortest ∷ map g.C.DocCursor.list c.seek_all.new.cursors ≡ lists =
    ap (λ (l : List Posting). l ∷ map g.C.DocCursor.list c.seek_all.new.cursors) c.loop-doc.invariant.list ∙ ap (λ (ls : List (List Posting)). g.C.DocCursor.list c.args.shortest.now ∷ ls) (c.in-Some-seek_all.ensures.lists ∙ c.loop-doc.invariant.lists) in
    subst (λ (ls : List (List Posting)). c.loop-doc.docs.items ≡ passing (λ d. in_each d ls) c.in-Some.doc → c.append_words.new.docs.items ≡ passing (λ d. in_each d ls) (c.in-Some.doc + 64 * c.in_ok-words.words)) same c.in_ok-words.ensures.docs
    (c.loop-doc.invariant.docs ∙ sym (filter-skip (λ d. in_each d lists) c.loop-doc.invariant.low c.in-Some.doc turn.later turn.none))

pub seek_all-requires : goal.seek_all-requires
seek_all-requires g c =
    let later = (turn-known g (goal.at.seek_all-requires g c).In-Some).later in
    record { passed = later-passed g.C.DocCursor.list g.C.DocCursor.place c.loop-doc.others c.loop-doc.invariant.low c.in-Some.doc later c.loop-doc.invariant.passed }

pub returns-in_default-seek_all : goal.returns-in_default-seek_all
returns-in_default-seek_all g c = λ n below.
    let whole : List (List Posting) = g.C.DocCursor.list c.args.shortest.now ∷ map g.C.DocCursor.list c.args.others.now in
    and-end whole whole c.loop-doc.docs.items c.loop-doc.invariant.low n refl (omega arith) c.loop-doc.invariant.docs
    (none-later (g.C.DocCursor.list c.args.shortest.now) (map g.C.DocCursor.list c.args.others.now) c.loop-doc.invariant.low c.in-Some.doc (turn-known g (goal.at.returns-in_default-seek_all g c).In-Some).none
    (λ d from. ap (in_each d) (sym c.loop-doc.invariant.lists) ∙ c.in_default-seek_all.ensures.ends d from)) below

pub loop-doc-smaller-then-next-doc : goal.loop-doc-smaller-then-next-doc
loop-doc-smaller-then-next-doc g c =
    left-fewer (g.C.DocCursor.list c.loop-doc.shortest) (g.C.DocCursor.list c.next_geq.new.self) c.in-Some.doc c.in-Some-seek_all.next (g.C.DocCursor.place c.loop-doc.shortest) (g.C.DocCursor.place c.next_geq.new.self)
    c.next_geq.ensures.list (omega (arith, c.if-next-doc.true, c.in-Some-seek_all.ensures.later.0)) (stands-there g (goal.at.loop-doc-smaller-then-next-doc g c).In-Some)
    (moved-on g (goal.at.loop-doc-smaller-then-next-doc g c).After-next_geq (turn-known g (goal.at.loop-doc-smaller-then-next-doc g c).In-Some).later)

pub loop-doc-preserved-then-next-doc : goal.loop-doc-preserved-then-next-doc
loop-doc-preserved-then-next-doc g c =
    let turn = turn-known g (goal.at.loop-doc-preserved-then-next-doc g c).In-Some in
    let far = c.in-Some-seek_all.ensures.later in
    let none : (d : ℕ) → c.in-Some.doc ≤ d → d < c.in-Some-seek_all.next → in_each d (map g.C.DocCursor.list c.args.others.now) ≡ false = λ d from before. ap (in_each d) (sym c.loop-doc.invariant.lists) ∙ far.1 d from before in
    record {
      low = c.in-Some-seek_all.next;
      list = c.next_geq.ensures.list ∙ c.loop-doc.invariant.list;
      lists = c.in-Some-seek_all.ensures.lists ∙ c.loop-doc.invariant.lists;
      stand = moved-on g (goal.at.loop-doc-preserved-then-next-doc g c).After-next_geq turn.later;
      passed = later-passed g.C.DocCursor.list g.C.DocCursor.place c.seek_all.new.cursors c.in-Some.doc c.in-Some-seek_all.next far.0 c.in-Some-seek_all.ensures.passed;
      docs = skip-to (g.C.DocCursor.list c.args.shortest.now) (map g.C.DocCursor.list c.args.others.now) c.loop-doc.docs.items c.loop-doc.invariant.low c.in-Some.doc c.in-Some-seek_all.next turn.later far.0 turn.none none c.loop-doc.invariant.docs;
      room = c.loop-doc.invariant.room;
      marked = c.loop-doc.invariant.marked;
    }

pub loop-doc-smaller-then-words-gt0 : goal.loop-doc-smaller-then-words-gt0
loop-doc-smaller-then-words-gt0 g c =
    left-fewer (g.C.DocCursor.list c.loop-doc.shortest) (g.C.DocCursor.list c.next_geq-then-words-gt0.new.self) c.in-Some.doc (c.in-Some.doc + 64 * c.in_ok-words.words) (g.C.DocCursor.place c.loop-doc.shortest) (g.C.DocCursor.place c.next_geq-then-words-gt0.new.self)
    c.next_geq-then-words-gt0.ensures.list (omega (arith, c.if-words-gt0.true)) (stands-there g (goal.at.loop-doc-smaller-then-words-gt0 g c).In-Some)
    (moved-behind g (goal.at.loop-doc-smaller-then-words-gt0 g c).After-next_geq-then-words-gt0 (turn-known g (goal.at.loop-doc-smaller-then-words-gt0 g c).In-Some).later)

pub loop-doc-preserved-then-words-gt0 : goal.loop-doc-preserved-then-words-gt0
loop-doc-preserved-then-words-gt0 g c =
    let turn = turn-known g (goal.at.loop-doc-preserved-then-words-gt0 g c).In-Some in
    let next : ℕ = c.in-Some.doc + 64 * c.in_ok-words.words in
    record {
      low = next;
      list = c.next_geq-then-words-gt0.ensures.list ∙ c.loop-doc.invariant.list;
      lists = c.in-Some-seek_all.ensures.lists ∙ c.loop-doc.invariant.lists;
      stand = moved-behind g (goal.at.loop-doc-preserved-then-words-gt0 g c).After-next_geq-then-words-gt0 turn.later;
      passed = later-passed g.C.DocCursor.list g.C.DocCursor.place c.seek_all.new.cursors c.in-Some.doc next (omega arith) c.in-Some-seek_all.ensures.passed;
      docs = words-added g (goal.at.loop-doc-preserved-then-words-gt0 g c).In_ok-words turn;
      room = c.in_ok-words.ensures.count ∙ c.loop-doc.invariant.room;
      marked = c.in_ok-words.ensures.marked;
    }

pub advance-requires : goal.advance-requires
advance-requires g c = (doc_at-some (g.C.DocCursor.list c.loop-doc.shortest) (g.C.DocCursor.place c.loop-doc.shortest) c.in-Some.doc (stands-there g (goal.at.advance-requires g c).In-Some)).0

pub loop-doc-preserved : goal.loop-doc-preserved
loop-doc-preserved g c =
    let doc : ℕ = c.in-Some.doc in
    let now : List Posting = g.C.DocCursor.list c.loop-doc.shortest in
    let first : List Posting = g.C.DocCursor.list c.args.shortest.now in
    let others : List (List Posting) = map g.C.DocCursor.list c.args.others.now in
    let at : ℕ = g.C.DocCursor.place c.loop-doc.shortest in
    let turn = turn-known g (goal.at.loop-doc-preserved g c).In-Some in
    let all : in_each doc (first ∷ others) ≡ true = in-both first others doc turn.has (ap (in_each doc) (sym c.loop-doc.invariant.lists) ∙ c.in-Some-seek_all.ensures.agreed (ap Some (omega (arith, c.if-next-doc.false)))) in
    let moved : StandsFrom (doc + 1) now (at + 1) = stands-one_later now doc at (g.met.C.DocCursor.well_formed c.loop-doc.shortest) (stands-there g (goal.at.loop-doc-preserved g c).In-Some) in
    let start : doc + 64 * c.in_ok-words.words ≡ doc = (let zero = c.if-words-gt0.false in omega arith) in
    let there : c.append_words.new.docs.items ≡ passing (λ d. in_each d (first ∷ others)) doc = words-added g (goal.at.loop-doc-preserved g c).In_ok-words turn ∙ ap (passing (λ d. in_each d (first ∷ others))) start in
    record {
      low = doc + 1;
      list = c.advance.ensures.list ∙ c.loop-doc.invariant.list;
      lists = c.in-Some-seek_all.ensures.lists ∙ c.loop-doc.invariant.lists;
      stand = subst (λ (p : ℕ). StandsFrom (doc + 1) (g.C.DocCursor.list c.advance.new.self) p) (sym c.advance.ensures.place) (subst (λ (l : List Posting). StandsFrom (doc + 1) l (at + 1)) (sym c.advance.ensures.list) moved);
      passed = later-passed g.C.DocCursor.list g.C.DocCursor.place c.seek_all.new.cursors doc (doc + 1) (omega arith) c.in-Some-seek_all.ensures.passed;
      docs = and-step (first ∷ others) (first ∷ others) c.append_words.new.docs.items _ doc doc refl c.in_ok-push.ensures.items there (omega arith) (λ d from before. absurd (omega arith)) all;
      room = c.in_ok-words.ensures.count ∙ c.loop-doc.invariant.room;
      marked = c.in_ok-words.ensures.marked;
    }

pub returns : goal.returns
returns g c = λ n below.
    let given : List (List Posting) = g.C.DocCursor.list c.args.shortest.now ∷ map g.C.DocCursor.list c.args.others.now in
    and-end given given c.loop-doc.docs.items c.loop-doc.invariant.low n refl (omega arith) c.loop-doc.invariant.docs
    (subst (λ (l : List Posting). (d : ℕ) → c.loop-doc.invariant.low ≤ d → in_each d (l ∷ map g.C.DocCursor.list c.args.others.now) ≡ false) c.loop-doc.invariant.list
    (none-left (g.C.DocCursor.list c.loop-doc.shortest) (map g.C.DocCursor.list c.args.others.now) c.loop-doc.invariant.low (g.C.DocCursor.place c.loop-doc.shortest) c.loop-doc.invariant.stand (sym c.doc.ensures ∙ c.in_default.is))) below
