use Rattle.std.proofs.Common.{◌≡◌, sym, ap, ◌∙◌, subst, ◌+◌, ◌<◌, List, length, take, sum_by, arith}
use Rattle.std.specs.Prelude.{Some, None, option_map}
use Rattle.std.specs.List.{slice_get}
use Rattle.collection_model.specs.Collection.{Posting, freqs_of}
use Rattle.calling.proofs.Walked.{stands_within, walked-more, walked-fits, walked-all}
use Rattle.calling.proofs.walking.total.Given as given
use Rattle.calling.proofs.walking.total.Goals as goal
use Rattle.calling.proofs.walking.total.Goals.{In-Some, After-freq}

-- the cursor stands at a posting
inside : (g : given.Over) (c : In-Some g) → g.C.DocCursor.place c.loop-doc.cursor < length (g.C.DocCursor.list c.args.cursor.now)
inside g c = subst (λ (l : List Posting). g.C.DocCursor.place c.loop-doc.cursor < length l) c.loop-doc.invariant.0 (stands_within (g.C.DocCursor.list c.loop-doc.cursor) _ c.in-Some._doc (sym c.in-Some.ensures))

-- whose frequency is read
value : (g : given.Over) (c : After-freq g) → slice_get (freqs_of (g.C.DocCursor.list c.args.cursor.now)) (g.C.DocCursor.place c.loop-doc.cursor) ≡ Some c.freq.result
value g c = subst (λ (l : List Posting). slice_get (freqs_of l) (g.C.DocCursor.place c.loop-doc.cursor) ≡ Some c.freq.result) c.loop-doc.invariant.0 c.freq.ensures.value

pub overflow_add-total : goal.overflow_add-total
overflow_add-total g c =
    omega (
      arith,
      c.from-total.ensures,
      c.requires.within,
      walked-fits (g.C.DocCursor.list c.args.cursor.now) (g.C.DocCursor.place c.loop-doc.cursor) c.freq.result c.loop-doc.total (inside g (goal.at.overflow_add-total g c).In-Some) (value g (goal.at.overflow_add-total g c).After-freq) c.loop-doc.invariant.1,
    )

pub advance-requires : goal.advance-requires
advance-requires g c = omega (arith, inside g (goal.at.advance-requires g c).In-Some, ap length c.loop-doc.invariant.0, c.freq.ensures.place, ap length c.freq.ensures.list)

pub loop-doc-preserved : goal.loop-doc-preserved
loop-doc-preserved g c =
    let next : g.C.DocCursor.place c.advance.new.self ≡ g.C.DocCursor.place c.loop-doc.cursor + 1 = c.advance.ensures.place ∙ ap (λ k. k + 1) c.freq.ensures.place in (
      c.advance.ensures.list ∙ c.freq.ensures.list ∙ c.loop-doc.invariant.0,
      subst (λ k. c.loop-doc.total + c.from-total.result ≡ sum_by (λ p. p.freq) (take k (g.C.DocCursor.list c.args.cursor.now))) (sym next) (omega (
        arith,
        c.from-total.ensures,
        walked-more (g.C.DocCursor.list c.args.cursor.now) (g.C.DocCursor.place c.loop-doc.cursor) c.freq.result c.loop-doc.total (inside g (goal.at.loop-doc-preserved g c).In-Some) (value g (goal.at.loop-doc-preserved g c).After-freq) c.loop-doc.invariant.1,
      )),
    )

pub returns : goal.returns
returns g c =
    let none = subst (λ (l : List Posting). option_map (λ p. p.doc) (slice_get l (g.C.DocCursor.place c.loop-doc.cursor)) ≡ None) c.loop-doc.invariant.0 (sym c.doc.ensures ∙ c.in_default.is) in
    walked-all (g.C.DocCursor.list c.args.cursor.now) (g.C.DocCursor.place c.loop-doc.cursor) c.loop-doc.total none c.loop-doc.invariant.1
