use Rattle.std.proofs.Common.{length, refl, ◌∙◌, ap, arith}
use Rattle.part_codec.specs.PartView.{Holds}
use Rattle.index_file.specs.PackedAt.{starts_stated}
use Rattle.index_file.proofs.PackedStarts.{stands, start-lies, starts-from}
use Rattle.index_file.proofs.ListStarts.{kept-all, starts-less, written}
use Rattle.index_file.proofs.starts.packed_starts.Goals as goal
use Rattle.index_file.proofs.starts.packed_starts.Goals.{After-at-directory}

-- the directory holds its numbers
held : (c : After-at-directory) → Holds c.at-directory.result (starts_stated c.args.words.now)
held c =
    let words = c.args.words.now in
    let s = c.starts_part in
    let p = s.result in
    (c.at-directory.ensures.part (starts_stated words)).1
    (starts-from words p.bits.words.now p.place p.u p.m (starts_stated words) s.ensures.bits s.ensures.place s.ensures.u s.ensures.m (stands c.one_list_at_place.ensures.values words c.requires.passes.starts))

pub read_starts-requires-clause-held : goal.read_starts-requires-clause-held
read_starts-requires-clause-held c =
    let words = c.args.words.now in
    let stand = stands c.one_list_at_place.ensures.values words c.requires.passes.starts in (
      starts_stated words,
      held (goal.at.read_starts-requires-clause-held c).After-at-directory,
      λ t lt. (start-lies c.one_list_at_place.ensures.values words c.requires.passes.starts t (omega (arith, lt, stand.values.count))).at_least,
    )

pub returns : goal.returns
returns c =
    let words = c.args.words.now in
    let stand = stands c.one_list_at_place.ensures.values words c.requires.passes.starts in
    let new = c.read_starts.new.to in
    let less = c.read_starts.ensures.less (starts_stated words) (held (goal.at.returns c).After-at-directory) in
    written c.in_ok-starts.starts.len new c.in_ok-starts.starts.items (omega (arith, c.read_starts.ensures.count, ap length c.as_mut_slice.ensures.value, c.in_ok-starts.ensures.len, c.in_ok-starts.starts.ok.0))
    ∙ starts-less words (starts_stated words) new refl stand.values.count (omega (arith, c.read_starts.ensures.count, ap length c.as_mut_slice.ensures.value, c.in_ok-starts.ensures.len, stand.values.count)) less
    ∙ kept-all words (omega (arith, c.if-frame-words.false, c.packed_frame_of-frame.ensures.terms))
