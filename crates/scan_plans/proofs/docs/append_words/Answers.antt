use Rattle.std.proofs.Common.{◌≡◌, sym, ap, ◌∙◌, ℕ, ◌+◌, ◌*◌, ◌<◌, ◌∷◌, length, map, take, arith}
use Rattle.std.proofs.lemmas.List.{length-take-le}
use Rattle.scan_plans.specs.Scan.{in_each}
use Rattle.scan_plans.specs.Window.{passing, is_marked}
use Rattle.scan_plans.proofs.AtOnce.{told-in_all, shared-below}
use Rattle.scan_plans.proofs.docs.append_words.Given as given
use Rattle.scan_plans.proofs.docs.append_words.Goals as goal
use Rattle.scan_plans.proofs.docs.append_words.Goals.{After-keep_in_all-words}

-- the words that are kept mark the documents of all lists
kept : (g : given.Over) (c : After-keep_in_all-words g) → (k : ℕ) → k < 64 * c.keep_in_all-words.result
    → is_marked (take c.keep_in_all-words.result c.keep_in_all-words.new.marks) k ≡ in_each (c.args.first + k) (g.C.DocCursor.list c.args.shortest.now ∷ map g.C.DocCursor.list c.args.others.now)
kept g c k inside =
    let told = c.keep_in_words-most.ensures in
    let all = c.keep_in_all-words.ensures in
    told-in_all c.keep_in_all-words.result c.keep_in_all-words.new.marks c.keep_in_words-most.new.marks c.args.told.now.marks c.args.first (g.C.DocCursor.list c.args.shortest.now) (map g.C.DocCursor.list c.args.others.now) k inside
    (c.requires.marked k (omega (arith, told.within, all.within))) (told.kept k (omega (arith, all.within))) (all.kept k inside)

-- and they are so many
long : (g : given.Over) (c : After-keep_in_all-words g) → length (take c.keep_in_all-words.result c.keep_in_all-words.new.marks) ≡ c.keep_in_all-words.result
long g c = length-take-le c.keep_in_all-words.result c.keep_in_all-words.new.marks (omega (arith, c.keep_in_words-most.ensures.within, c.keep_in_words-most.ensures.count, c.keep_in_all-words.ensures.within, c.keep_in_all-words.ensures.count))

pub append_marked-requires-clause-fit : goal.append_marked-requires-clause-fit
append_marked-requires-clause-fit g c k lt marked =
    let is = kept g (goal.at.append_marked-requires-clause-fit g c).After-keep_in_all-words k (omega (arith, long g (goal.at.append_marked-requires-clause-fit g c).After-keep_in_all-words)) in
    let below = shared-below (g.C.DocCursor.list c.args.shortest.now) (map g.C.DocCursor.list c.args.others.now) (g.met.C.DocCursor.well_formed c.args.shortest.now).well_formed (c.args.first + k) (sym is ∙ marked) in
    omega arith

pub returns-clause-docs : goal.returns-clause-docs
returns-clause-docs g c is =
    let count = long g (goal.at.returns-clause-docs g c).After-keep_in_all-words in
    let lists = g.C.DocCursor.list c.args.shortest.now ∷ map g.C.DocCursor.list c.args.others.now in
    c.in_ok-append_marked.ensures.docs (λ d. in_each d lists) (λ k lt. kept g (goal.at.returns-clause-docs g c).After-keep_in_all-words k (omega arith)) is
    ∙ ap (λ (n : ℕ). passing (λ d. in_each d lists) (c.args.first + 64 * n)) count
