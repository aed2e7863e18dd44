use Rattle.std.proofs.Common.{◌∙◌, arith}
use Rattle.index_file.proofs.FileKinds.{list-of-views, narrow-words}
use Rattle.index_file.proofs.index.cursor_at.Goals as goal

pub new-requires : goal.new-requires
new-requires c =
    let list = c.list_views-list in
    let i = c.requires.index in
    let read = list-of-views c.file_laws.ensures c.args.format c.args.words.now (narrow-words c.args.words.now (λ k. omega (arith, c.type_inv.words k))) i.0 i.1 i.2 c.args.t c.requires.within
    list.result.docs list.result.freqs list.result.greatest list.ensures.docs list.ensures.freqs list.ensures.greatest in
    record { same_length = read.same_length; list = read.cursor; greatest = read.most }

pub returns-clause-list : goal.returns-clause-list
returns-clause-list c collection parts h =
    let list = c.list_views-list in
    let read = list-of-views c.file_laws.ensures c.args.format c.args.words.now (narrow-words c.args.words.now (λ k. omega (arith, c.type_inv.words k))) collection parts h c.args.t c.requires.within
    list.result.docs list.result.freqs list.result.greatest list.ensures.docs list.ensures.freqs list.ensures.greatest in
    c.new.ensures.list ∙ read.give
