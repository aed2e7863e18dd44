use Rattle.std.proofs.Common.{◌∙◌, ap, ◌-◌, drop, length, arith}
use Rattle.std.proofs.lemmas.List.{length-drop, take_all}
use Rattle.byteorder.specs.Endian.{little_number}
use Rattle.held_pieces.proofs.HeldNumbers.{read_behind}
use Rattle.held_pieces.proofs.four_bytes.number_at.Goals as goal

pub returns : goal.returns
returns c =
    let bytes = c.args.bytes.now in
    let at = c.args.at in
    read_behind bytes at c.read_u32.result c.requires (λ i. omega (arith, c.type_inv.bytes i))
    (c.read_u32.ensures ∙ ap (little_number 4) (take_all (length bytes - at) (drop at bytes) (omega (arith, length-drop at bytes))))
