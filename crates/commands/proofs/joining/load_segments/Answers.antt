use Rattle.std.proofs.Common.{arith, refl, ◌≡◌, ◌<◌, ◌+◌, [], length, string_bytes}
use Rattle.commands.proofs.Names.{none_pushed, texts, handed_on}
use Rattle.std.proofs.lemmas.List.{length-map}
use Rattle.commands.proofs.SegmentsFound.{segments_laws}
use Rattle.commands.proofs.SegmentsRead.{all_loaded, none_accepted, one_accepted, one_rejected, no_room, name_at}
use Rattle.commands.proofs.joining.load_segments.Goals as goal

pub returns-in_err-opened-clause-refused : goal.returns-in_err-opened-clause-refused
returns-in_err-opened-clause-refused g c =
    let laws = segments_laws c.args.joining c.words_and_bytes_undo_each_other.ensures.read c.one_broken_check.ensures c.one_index.ensures (texts c.args.names.now) in
    rw (handed_on c.from_residual.result c.from_residual.ensures.1) (no_room c.args.joining (texts c.args.names.now) 0 (none_pushed c.args.joining) _ _ [] laws (none_accepted c.args.joining _) (omega arith))

pub returns-in_err-segment-clause-refused : goal.returns-in_err-segment-clause-refused
returns-in_err-segment-clause-refused g c =
    let laws = segments_laws c.args.joining c.words_and_bytes_undo_each_other.ensures.read c.one_broken_check.ensures c.one_index.ensures (texts c.args.names.now) in
    rw (handed_on c.from_residual-in_err-segment.result c.from_residual-in_err-segment.ensures.1)
    (one_rejected c.args.joining (texts c.args.names.now) c.loop-s.s c.as_str.result.now c.loop-s.joined _ _ _ _ c.loop-s.invariant (omega (arith, c.loop-s-test.true, length-map c.args.names.now string_bytes))
    (name_at c.args.names.now c.loop-s.s c.index-names-s.result c.as_str.result.now c.loop-s-test.true c.index-names-s.is c.as_str.ensures.value) laws c.in_err-segment.field-0.0 c.in_err-segment.ensures.rejected)

pub returns-in_err-push-clause-refused : goal.returns-in_err-push-clause-refused
returns-in_err-push-clause-refused g c =
    let laws = segments_laws c.args.joining c.words_and_bytes_undo_each_other.ensures.read c.one_broken_check.ensures c.one_index.ensures (texts c.args.names.now) in
    let lt : c.loop-s.s < length (texts c.args.names.now) = omega (arith, c.loop-s-test.true, length-map c.args.names.now string_bytes) in
    rw (handed_on c.from_residual-in_err-push.result c.from_residual-in_err-push.ensures.1)
    (no_room c.args.joining (texts c.args.names.now) (c.loop-s.s + 1) _ _ _ _ laws
    (one_accepted c.args.joining (texts c.args.names.now) c.loop-s.s c.as_str.result.now c.loop-s.joined _ _ _ c.loop-s.opened.items c.loop-s.invariant lt
    (name_at c.args.names.now c.loop-s.s c.index-names-s.result c.as_str.result.now c.loop-s-test.true c.index-names-s.is c.as_str.ensures.value) _ c.in_ok-segment.segment _ c.in_ok-segment.ensures.accepted refl)
    (omega (arith, lt)))

pub loop-s-preserved : goal.loop-s-preserved
loop-s-preserved g c =
    one_accepted c.args.joining (texts c.args.names.now) c.loop-s.s c.as_str.result.now c.loop-s.joined _ _ _ c.loop-s.opened.items c.loop-s.invariant
    (omega (arith, c.loop-s-test.true, length-map c.args.names.now string_bytes)) (name_at c.args.names.now c.loop-s.s c.index-names-s.result c.as_str.result.now c.loop-s-test.true c.index-names-s.is c.as_str.ensures.value)
    _ c.in_ok-segment.segment _ c.in_ok-segment.ensures.accepted c.in_ok-push.ensures.items

pub returns-clause-loaded : goal.returns-clause-loaded
returns-clause-loaded g c =
    let laws = segments_laws c.args.joining c.words_and_bytes_undo_each_other.ensures.read c.one_broken_check.ensures c.one_index.ensures (texts c.args.names.now) in
    let all : c.loop-s.s ≡ length (texts c.args.names.now) = omega (arith, c.loop-s-test.false, c.loop-s.auto.s-end, length-map c.args.names.now string_bytes) in
    all_loaded c.args.joining (texts c.args.names.now) c.loop-s.joined _ _ c.loop-s.opened.items laws (rw all at c.loop-s.invariant)
