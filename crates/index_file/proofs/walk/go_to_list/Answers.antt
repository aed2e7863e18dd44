use Rattle.std.proofs.Common.{◌+◌, ◌<◌, ◌≤◌, sym, subst, arith}
use Rattle.std.specs.Prelude.{IfSome}
use Rattle.part_codec.proofs.Relative.{relative-held}
use Rattle.index_file.specs.Gaps.{place_in, IsAtGap}
use Rattle.index_file.specs.IndexView.{index_stated}
use Rattle.index_file.specs.PackedAt.{starts_stated}
use Rattle.index_file.proofs.ListsInTurn.{kept-here, packed-some, follow-none}
use Rattle.index_file.proofs.NumbersRead.{here-within}
use Rattle.index_file.proofs.walk.go_to_list.Goals as goal
use Rattle.index_file.proofs.walk.go_to_list.Goals.{After-go_to_gap}

-- the gap that is found
at-gap : (c : After-go_to_gap) → IsAtGap (starts_stated c.args.words.now) c.go_to_gap.new.numbers (place_in c.args.run) c.go_to_gap.result
at-gap c =
    let kept = kept-here c.args.words.now c.args.format c.args.directory.now c.args.numbers.now c.args.run c.in-Some.directory c.in-Some.is c.requires.numbers in
    c.go_to_gap.ensures.gap (starts_stated c.args.words.now) kept.1.held kept.2

within : (c : After-go_to_gap) → place_in c.go_to_gap.result ≤ c.args.terms
within c =
    let words = c.args.words.now in
    let kept = kept-here words c.args.format c.args.directory.now c.args.numbers.now c.args.run c.in-Some.directory c.in-Some.is c.requires.numbers in
    here-within c.in-Some.directory (starts_stated words) c.go_to_gap.new.numbers c.go_to_gap.result c.args.terms kept.1.held (at-gap c).here (omega (arith, kept.1.count, c.requires.index.terms_are))

pub returns-in-Some-clause-stands : goal.returns-in-Some-clause-stands
returns-in-Some-clause-stands c =
    let words = c.args.words.now in
    let h = c.requires.index in
    let i = index_stated c.args.words.now in
    let a = (goal.at.returns-in-Some-clause-stands c).After-go_to_gap in
    let kept = kept-here words c.args.format c.args.directory.now c.args.numbers.now c.args.run c.in-Some.directory c.in-Some.is c.requires.numbers in
    let gap = at-gap a in
    record {
      within = within a;
      some = λ lt. packed-some c.file_laws.ensures c.args.format kept.0 words h.narrow i.collection i.parts h.spells (place_in c.go_to_gap.result) (omega (arith, lt, h.terms_are))
          (gap.gap (omega (arith, lt, h.terms_are, (relative-held c.in-Some.directory (starts_stated words) kept.1.held).count, kept.1.count))).1;
    }

pub returns-in-Some-clause-next : goal.returns-in-Some-clause-next
returns-in-Some-clause-next c =
    let words = c.args.words.now in
    let kept = kept-here words c.args.format c.args.directory.now c.args.numbers.now c.args.run c.in-Some.directory c.in-Some.is c.requires.numbers in
    let gap = at-gap (goal.at.returns-in-Some-clause-next c).After-go_to_gap in
    subst (λ o. IfSome o (λ x. place_in c.go_to_gap.result < c.args.terms → c.go_to_gap.result.at + 1 < c.go_to_gap.result.count)) (sym c.in-Some.is)
    (λ lt. (gap.gap (omega (arith, lt, c.requires.index.terms_are, (relative-held c.in-Some.directory (starts_stated words) kept.1.held).count, kept.1.count))).0)

pub returns-in-Some-clause-empty : goal.returns-in-Some-clause-empty
returns-in-Some-clause-empty c =
    let words = c.args.words.now in
    let a = (goal.at.returns-in-Some-clause-empty c).After-go_to_gap in
    let kept = kept-here words c.args.format c.args.directory.now c.args.numbers.now c.args.run c.in-Some.directory c.in-Some.is c.requires.numbers in
    follow-none c.file_laws.ensures c.args.format kept.0 words c.args.terms c.requires.index (place_in c.args.run) (place_in c.go_to_gap.result) (within a) (at-gap a).follow
