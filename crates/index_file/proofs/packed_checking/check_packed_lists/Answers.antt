use Rattle.std.proofs.Common.{◌≡◌, ◌+◌, ◌<◌, length, refl, sym, subst, ◌∙◌, arith, rules}
use Rattle.std.proofs.lemmas.Result.{IfErr-weaker}
use Rattle.sequence_words.specs.declared.check.Check.TheVariants.{K13}
use Rattle.part_codec.proofs.Relative.{relative-held}
use Rattle.index_file.specs.DirectoryView.{IsDirectory}
use Rattle.index_file.specs.Gaps.{place_in}
use Rattle.index_file.specs.PackedAt.{packed_terms, starts_stated, AreListsStored, IsListStored}
use Rattle.index_file.specs.PackedFaults.{IsFirstPackedListFault}
use Rattle.index_file.proofs.FirstFaults.{from-err}
use Rattle.index_file.proofs.NumbersRead.{here-next, here-on, here-start}
use Rattle.index_file.proofs.PackedStarts.{stands, first-start, none-passed, none-stored, passed-to, starts-from, stored-more, stored-on}
use Rattle.index_file.proofs.packed_checking.check_packed_lists.Given as given
use Rattle.index_file.proofs.packed_checking.check_packed_lists.Goals as goal
use Rattle.index_file.proofs.packed_checking.check_packed_lists.Goals.{After-at-starts}

pub returns-then-frame-eq0-clause-ok : goal.returns-then-frame-eq0-clause-ok
returns-then-frame-eq0-clause-ok g c r lt =
    none-stored c.one_list_at_place.ensures.values c.args.words.now c.requires.starts (sym c.requires.numbers.bits ∙ c.if-frame-eq0.true) r lt

-- what is viewed is the directory
directory : (g : given.Over) (c : After-at-starts g) → IsDirectory c.args.words.now c.at-starts.result
directory g c =
    let words = c.args.words.now in
    let s = c.starts_part in
    let p = s.result in
    record {
      held = (c.at-starts.ensures.part (starts_stated words)).1
          (starts-from words p.bits.words.now p.place p.u p.m (starts_stated words) s.ensures.bits s.ensures.place s.ensures.u s.ensures.m (stands c.one_list_at_place.ensures.values words c.requires.starts));
      count = c.at-starts.ensures.m ∙ c.starts_part.ensures.m;
    }

-- it has a number more than there are lists
count : (g : given.Over) (c : After-at-starts g) → length (starts_stated c.args.words.now) ≡ packed_terms c.args.words.now + 1
count g c = (relative-held c.at-starts.result (starts_stated c.args.words.now) (directory g c).held).count ∙ (directory g c).count

pub go_to_gap-run-requires-clause-held : goal.go_to_gap-run-requires-clause-held
go_to_gap-run-requires-clause-held g c =
    let at = (goal.at.go_to_gap-run-requires-clause-held g c).After-at-starts in
    let words = c.args.words.now in
    (starts_stated words, (directory g at).held, here-start (starts_stated words) _ (omega (arith, count g at)) (first-start c.one_list_at_place.ensures.values words c.requires.starts) (omega arith) refl)

pub loop-run-init : goal.loop-run-init
loop-run-init g c =
    let at = (goal.at.loop-run-init g c).After-at-starts in
    let words = c.args.words.now in
    let start = here-start (starts_stated words) _ (omega (arith, count g at)) (first-start c.one_list_at_place.ensures.values words c.requires.starts) (omega arith) refl in
    let gap = c.go_to_gap-run.ensures.gap (starts_stated words) (directory g at).held start in
    record {
      room = c.go_to_gap-run.ensures.room;
      here = gap.here;
      next = λ lt. (gap.gap lt).0;
      stored = stored-on words 0 _ gap.follow (λ r lt. absurd (omega (arith, lt)));
      inside = omega (arith, gap.here.within, gap.here.inside, count g at);
      took = λ col are took. passed-to c.one_list_at_place.ensures.values words c.requires.frame c.requires.starts col are (λ t. g.L.ListSink.took c.args.lists.now col t) (g.met.L.ListSink.passes c.args.lists.now col)
          0 (place_in c.go_to_gap-run.result) (omega arith) (omega (arith, gap.here.within, gap.here.inside, count g at)) gap.follow took;
    }

pub check_packed_list-requires-clause-next : goal.check_packed_list-requires-clause-next
check_packed_list-requires-clause-next g c =
    let all = count g (goal.at.check_packed_list-requires-clause-next g c).After-at-starts in
    let so_far = c.loop-run.invariant in
    here-next (starts_stated c.args.words.now) c.loop-run.numbers c.loop-run.run _ so_far.here (λ _. place_in c.loop-run.run) (so_far.next (omega (arith, all, c.loop-run-test.true, c.requires.numbers.terms)))

pub returns-in_err-check_packed_list-clause-first : goal.returns-in_err-check_packed_list-clause-first
returns-in_err-check_packed_list-clause-first g c =
    let words = c.args.words.now in
    let t = place_in c.loop-run.run in
    let within : place_in c.loop-run.run < packed_terms c.args.words.now = omega (arith, c.loop-run-test.true, c.requires.numbers.terms) in
    from-err c.check_packed_list.result c.from_residual.result c.in_err-check_packed_list.field-0.0 (λ f. IsFirstPackedListFault c.args.words.now f) (first_of (search rules, cc)) (first_of (search rules, cc))
    (IfErr-weaker c.check_packed_list.result (λ f. (¬ IsListStored words t) × (f ≡ record { check = K13; term = t; part = 0 })) (λ f. IsFirstPackedListFault words f)
    (λ f h. (t, record { within = within; unstored = h.0; before = c.loop-run.invariant.stored; found = h.1 }))
    c.check_packed_list.ensures.err)

pub go_to_gap-run-requires-in-loop-run-clause-held : goal.go_to_gap-run-requires-in-loop-run-clause-held
go_to_gap-run-requires-in-loop-run-clause-held g c =
    let at = (goal.at.go_to_gap-run-requires-in-loop-run-clause-held g c).After-at-starts in
    let so_far = c.loop-run.invariant in
    let next = so_far.next (omega (arith, count g at, c.loop-run-test.true, c.requires.numbers.terms)) in
    (starts_stated c.args.words.now, (directory g at).held, here-on (starts_stated c.args.words.now) c.loop-run.numbers c.loop-run.run _ (c.loop-run.run.at + 1) so_far.here (λ _. c.loop-run.run.first) (λ _. c.loop-run.run.at + 1) (λ _. c.loop-run.run.count) (λ _. c.loop-run.run.marks) next)

pub loop-run-smaller : goal.loop-run-smaller
loop-run-smaller g c =
    let at = (goal.at.loop-run-smaller g c).After-at-starts in
    let so_far = c.loop-run.invariant in
    let next = so_far.next (omega (arith, count g at, c.loop-run-test.true, c.requires.numbers.terms)) in
    let here = here-on (starts_stated c.args.words.now) c.loop-run.numbers c.loop-run.run _ (c.loop-run.run.at + 1) so_far.here (λ _. c.loop-run.run.first) (λ _. c.loop-run.run.at + 1) (λ _. c.loop-run.run.count) (λ _. c.loop-run.run.marks) next in
    let gap = c.go_to_gap-run-in-loop-run.ensures.gap (starts_stated c.args.words.now) (directory g at).held here in
    omega (arith, gap.later, c.loop-run-test.true)

pub loop-run-preserved : goal.loop-run-preserved
loop-run-preserved g c =
    let at = (goal.at.loop-run-preserved g c).After-at-starts in
    let words = c.args.words.now in
    let so_far = c.loop-run.invariant in
    let next = so_far.next (omega (arith, count g at, c.loop-run-test.true, c.requires.numbers.terms)) in
    let here = here-on (starts_stated c.args.words.now) c.loop-run.numbers c.loop-run.run _ (c.loop-run.run.at + 1) so_far.here (λ _. c.loop-run.run.first) (λ _. c.loop-run.run.at + 1) (λ _. c.loop-run.run.count) (λ _. c.loop-run.run.marks) next in
    let gap = c.go_to_gap-run-in-loop-run.ensures.gap (starts_stated c.args.words.now) (directory g at).held here in
    record {
      room = c.go_to_gap-run-in-loop-run.ensures.room ∙ so_far.room;
      here = gap.here;
      next = λ lt. (gap.gap lt).0;
      stored = stored-on words _ _ gap.follow
          (subst (AreListsStored words) (let e : place_in c.loop-run.run + 1 ≡ c.loop-run.run.first + (c.loop-run.run.at + 1) = omega arith in e)
          (stored-more words (place_in c.loop-run.run) so_far.stored c.in_ok-check_packed_list.ensures.ok));
      inside = omega (arith, gap.here.within, gap.here.inside, count g at);
      took = λ col are took.
          let lists = c.check_packed_list.new.lists in
          let e : place_in c.loop-run.run + 1 ≡ c.loop-run.run.first + (c.loop-run.run.at + 1) = omega arith in
          passed-to c.one_list_at_place.ensures.values words c.requires.frame c.requires.starts col are (λ t. g.L.ListSink.took lists col t) (g.met.L.ListSink.passes lists col)
          (c.loop-run.run.first + (c.loop-run.run.at + 1)) (place_in c.go_to_gap-run-in-loop-run.result) gap.later (omega (arith, gap.here.within, gap.here.inside, count g at)) gap.follow
          (subst (λ t. g.L.ListSink.took lists col t) e (c.in_ok-check_packed_list.ensures.took col are (so_far.took col are took)));
    }

-- all lists were given
pub returns-then-frame-eq0-clause-took : goal.returns-then-frame-eq0-clause-took
returns-then-frame-eq0-clause-took g c = λ col are took.
    none-passed c.one_list_at_place.ensures.values c.args.words.now c.requires.frame c.requires.starts (sym c.requires.numbers.bits ∙ c.if-frame-eq0.true) col are (λ t. g.L.ListSink.took c.args.lists.now col t) (g.met.L.ListSink.passes c.args.lists.now col) took

pub returns-clause-took : goal.returns-clause-took
returns-clause-took g c = λ col are took.
    let all : place_in c.loop-run.run ≡ packed_terms c.args.words.now = omega (arith, c.loop-run-test.false, c.loop-run.invariant.inside, c.requires.numbers.terms) in
    subst (λ t. g.L.ListSink.took c.loop-run.lists col t) all (c.loop-run.invariant.took col are took)
