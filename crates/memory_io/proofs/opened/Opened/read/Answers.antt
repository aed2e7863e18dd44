use Rattle.std.proofs.Common.{◌≡◌, arith, ◌∙◌, ap, drop, length, ◌++◌, take, ◌-◌}
use Rattle.std.proofs.lemmas.List.{drop-drop, length-drop, length-take, take_all}
use Rattle.memory_io.proofs.Moved.{moved_prefix}
use Rattle.memory_io.proofs.opened.Opened.read.Goals as goal

pub returns-clause-next_bytes : goal.returns-clause-next_bytes
returns-clause-next_bytes c =
    let bytes = c.args.self.now.bytes.items in
    let at = c.args.self.now.at in
    let buf = c.args.buf.now in
    let n = c.min-n.result in
    let moved = c.copy_from_slice.new.self in
    let whole : take (length c.deref.result.now - at) (drop at c.deref.result.now) ≡ drop at bytes =
    rw c.deref.ensures.value (take_all (length bytes - at) (drop at bytes) (omega (arith, length-drop at bytes))) in
    moved_prefix (drop at bytes) buf moved n
    (omega (arith, c.copy_from_slice.ensures.len, length-take n buf, c.min-n.ensures, c.min.ensures))
    (c.copy_from_slice.ensures.after ∙ ap (λ xs. take n xs) whole)
    ∙ ap (λ xs. take n (moved ++ drop n buf) ++ xs) (drop-drop n at bytes)
