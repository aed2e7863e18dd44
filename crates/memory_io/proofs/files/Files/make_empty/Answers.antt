use Rattle.std.proofs.Common.{sym, refl, rules}
use Rattle.memory_io.proofs.FileLists.{Puts-empty, Puts-new}
use Rattle.memory_io.proofs.files.Files.make_empty.Goals as goal

pub returns-in-Some-clause-put : goal.returns-in-Some-clause-put
returns-in-Some-clause-put c =
    let file = c.index_mut-file.result.now in
    Puts-empty c.args.self.now.list.items c.in-Some.at file (file.0, c.clear.new.self) c.args.name.now
    c.index_mut-file.ensures.value refl c.clear.ensures.items (sym c.in-Some.ensures)

pub returns-in_ok-push-in-None-clause-put : goal.returns-in_ok-push-in-None-clause-put
returns-in_ok-push-in-None-clause-put c =
    Puts-new c.args.self.now.list.items c.push.new.self.items c.len-at.result (c.in_ok-name-in-None.name, c.new.result) c.args.name.now
    c.in_ok-push-in-None.ensures.items (search rules) (search rules) c.new.ensures.items (sym c.in-None.ensures)
