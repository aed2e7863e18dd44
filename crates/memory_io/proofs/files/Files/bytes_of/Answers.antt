use Rattle.std.proofs.Common.{sym, ◌∙◌, ap, Some}
use Rattle.memory_io.proofs.FileLists.{file_in-first, file_in-none}
use Rattle.memory_io.proofs.files.Files.bytes_of.Goals as goal

pub returns-in_err-at : goal.returns-in_err-at
returns-in_err-at c =
    rw c.from_residual.ensures
    (sym (file_in-none c.args.self.now.list.items c.args.name.now (sym c.place_of.ensures ∙ c.in_err-at.was)))

pub returns : goal.returns
returns c =
    ap Some c.as_slice.ensures.value
    ∙ sym (file_in-first c.args.self.now.list.items c.in_ok-at.at c.index.result.now c.args.name.now c.index.ensures
    (sym c.place_of.ensures ∙ c.in_ok-at.was))
