use Rattle.std.proofs.Common.{[]}
use Rattle.std.proofs.lemmas.Result.{err_from_is_err_and}
use Rattle.word_files.proofs.WrittenFile.{create-refused, write-refused, finished, counts-then, all-counted}
use Rattle.word_files.proofs.Given.{given-in-part, out-refused, out-written}
use Rattle.remapped_files.specs.NamedFiles.{bytes_of}
use Rattle.remapped_files.proofs.writing.write_given.Goals as goal

pub returns-in_err-create-clause-writes : goal.returns-in_err-create-clause-writes
returns-in_err-create-clause-writes g c =
    let p = err_from_is_err_and c.from_residual.result c.from_residual.ensures.1 in
    rw (p.1, p.2) (create-refused (bytes_of (g.S.GivesFiles.files c.args.source.now) c.args.slot) c.args.name.now _ _ _ c.in_err-create.ensures)

pub returns-in_err-create-clause-memory : goal.returns-in_err-create-clause-memory
returns-in_err-create-clause-memory g c =
    let p = err_from_is_err_and c.from_residual.result c.from_residual.ensures.1 in
    rw (p.1, p.2) c.in_err-create.ensures.counts.refusals.no_memory_only_where_it_rose

pub returns-in_err-give_file-clause-writes : goal.returns-in_err-give_file-clause-writes
returns-in_err-give_file-clause-writes g c =
    let bytes = bytes_of (g.S.GivesFiles.files c.args.source.now) c.args.slot in
    let p = err_from_is_err_and c.from_residual-in_err-give_file.result c.from_residual-in_err-give_file.ensures.1 in
    rw (p.1, p.2) (write-refused bytes c.args.name.now _ _ _ _ c.in_ok-create.ensures (given-in-part bytes _ [] _ _ _ c.requires c.in_err-give_file.ensures))

pub returns-in_err-give_file-clause-memory : goal.returns-in_err-give_file-clause-memory
returns-in_err-give_file-clause-memory g c =
    let bytes = bytes_of (g.S.GivesFiles.files c.args.source.now) c.args.slot in
    let p = err_from_is_err_and c.from_residual-in_err-give_file.result c.from_residual-in_err-give_file.ensures.1 in
    rw (p.1, p.2) (counts-then _ _ _ _ c.in_ok-create.ensures.counts (given-in-part bytes _ [] _ _ _ c.requires c.in_err-give_file.ensures).counts).refusals.no_memory_only_where_it_rose

pub returns-in_err-write_out-clause-writes : goal.returns-in_err-write_out-clause-writes
returns-in_err-write_out-clause-writes g c =
    let bytes = bytes_of (g.S.GivesFiles.files c.args.source.now) c.args.slot in
    let p = err_from_is_err_and c.from_residual-in_err-write_out.result c.from_residual-in_err-write_out.ensures.1 in
    rw (p.1, p.2) (write-refused bytes c.args.name.now _ _ _ _ c.in_ok-create.ensures (out-refused bytes _ _ _ _ _ _ c.requires c.in_ok-give_file.ensures c.in_err-write_out.ensures.written))

pub returns-in_err-write_out-clause-memory : goal.returns-in_err-write_out-clause-memory
returns-in_err-write_out-clause-memory g c =
    let bytes = bytes_of (g.S.GivesFiles.files c.args.source.now) c.args.slot in
    let p = err_from_is_err_and c.from_residual-in_err-write_out.result c.from_residual-in_err-write_out.ensures.1 in
    rw (p.1, p.2) (counts-then _ _ _ _ c.in_ok-create.ensures.counts (out-refused bytes _ _ _ _ _ _ c.requires c.in_ok-give_file.ensures c.in_err-write_out.ensures.written).counts).refusals.no_memory_only_where_it_rose

pub returns-clause-writes : goal.returns-clause-writes
returns-clause-writes g c =
    let bytes = bytes_of (g.S.GivesFiles.files c.args.source.now) c.args.slot in
    finished bytes c.args.name.now _ _ _ _ _ c.in_ok-create.ensures (out-written bytes _ _ _ _ _ c.requires c.in_ok-give_file.ensures c.in_ok-write_out.ensures.written) c.finish.ensures

pub returns-clause-memory : goal.returns-clause-memory
returns-clause-memory g c =
    let bytes = bytes_of (g.S.GivesFiles.files c.args.source.now) c.args.slot in
    (all-counted bytes c.args.name.now _ _ _ _ _ c.in_ok-create.ensures (out-written bytes _ _ _ _ _ c.requires c.in_ok-give_file.ensures c.in_ok-write_out.ensures.written) c.finish.ensures).refusals.no_memory_only_where_it_rose
