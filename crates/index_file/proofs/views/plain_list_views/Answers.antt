use Rattle.std.proofs.Common.{refl, sym, ◌∙◌, arith}
use Rattle.part_cost.specs.Formats.{numbers_of}
use Rattle.part_cost.proofs.Rooms.{formats-have-room}
use Rattle.index_file.specs.FirstBroken.{term_word, stated_length, stated_doc_parts, stated_freq_parts}
use Rattle.index_file.specs.IndexView.{docs_view, freqs_view}
use Rattle.index_file.proofs.Reading.{opened-list, has-frame, begin-as, docs-read, freqs-read}
use Rattle.index_file.proofs.views.plain_list_views.Goals as goal

pub frame_of-requires : goal.frame_of-requires
frame_of-requires c =
    let i = c.requires.index in
    let frame = has-frame (numbers_of c.args.format) c.args.words.now i.0 i.1 i.2 in
    omega (arith, frame.some)

pub list_entry-list-requires-clause-frame : goal.list_entry-list-requires-clause-frame
list_entry-list-requires-clause-frame c = let i = c.requires.index in (c.args.format, has-frame (numbers_of c.args.format) c.args.words.now i.0 i.1 i.2)

pub known_at-docs-requires-clause-within : goal.known_at-docs-requires-clause-within
known_at-docs-requires-clause-within c =
    let words = c.args.words.now in
    let t = c.args.t in
    let i = c.requires.index in
    let list = c.list_entry-list.result in
    let laws = c.sequence_laws.ensures c.args.format in
    let l = opened-list (numbers_of c.args.format) (formats-have-room c.args.format) laws words i.0 i.1 i.2 t c.requires.within in
    omega (arith, l.1.docs_within, c.list_entry-list.ensures.docs)

pub known_at-docs-requires-clause-checked : goal.known_at-docs-requires-clause-checked
known_at-docs-requires-clause-checked c =
    let words = c.args.words.now in
    let t = c.args.t in
    let i = c.requires.index in
    let list = c.list_entry-list.result in
    let laws = c.sequence_laws.ensures c.args.format in
    let l = opened-list (numbers_of c.args.format) (formats-have-room c.args.format) laws words i.0 i.1 i.2 t c.requires.within in
    (docs_view (numbers_of c.args.format) l.0, refl, begin-as words list.docs (term_word words t 0) list.len (stated_length words t) list.doc_parts (stated_doc_parts words t) (docs_view (numbers_of c.args.format) l.0) c.list_entry-list.ensures.docs c.list_entry-list.ensures.len c.list_entry-list.ensures.doc_parts l.1.docs)

pub known_at-freqs-requires-clause-within : goal.known_at-freqs-requires-clause-within
known_at-freqs-requires-clause-within c =
    let words = c.args.words.now in
    let t = c.args.t in
    let i = c.requires.index in
    let list = c.list_entry-list.result in
    let laws = c.sequence_laws.ensures c.args.format in
    let l = opened-list (numbers_of c.args.format) (formats-have-room c.args.format) laws words i.0 i.1 i.2 t c.requires.within in
    omega (arith, l.1.freqs_within, c.list_entry-list.ensures.sums)

pub known_at-freqs-requires-clause-checked : goal.known_at-freqs-requires-clause-checked
known_at-freqs-requires-clause-checked c =
    let words = c.args.words.now in
    let t = c.args.t in
    let i = c.requires.index in
    let list = c.list_entry-list.result in
    let laws = c.sequence_laws.ensures c.args.format in
    let l = opened-list (numbers_of c.args.format) (formats-have-room c.args.format) laws words i.0 i.1 i.2 t c.requires.within in
    (freqs_view (numbers_of c.args.format) l.0, refl, begin-as words list.sums (term_word words t 1) list.len (stated_length words t) list.sum_parts (stated_freq_parts words t) (freqs_view (numbers_of c.args.format) l.0) c.list_entry-list.ensures.sums c.list_entry-list.ensures.len c.list_entry-list.ensures.sum_parts l.1.freqs)

pub returns-clause-docs : goal.returns-clause-docs
returns-clause-docs c =
    let words = c.args.words.now in
    let t = c.args.t in
    let i = c.requires.index in
    let list = c.list_entry-list.result in
    let laws = c.sequence_laws.ensures c.args.format in
    let l = opened-list (numbers_of c.args.format) (formats-have-room c.args.format) laws words i.0 i.1 i.2 t c.requires.within in
    c.known_at-docs.ensures.same (docs_view (numbers_of c.args.format) l.0) refl (begin-as words list.docs (term_word words t 0) list.len (stated_length words t) list.doc_parts (stated_doc_parts words t) (docs_view (numbers_of c.args.format) l.0) c.list_entry-list.ensures.docs c.list_entry-list.ensures.len c.list_entry-list.ensures.doc_parts l.1.docs)
    ∙ sym (docs-read (numbers_of c.args.format) laws words t l.0 l.1)

pub returns-clause-freqs : goal.returns-clause-freqs
returns-clause-freqs c =
    let words = c.args.words.now in
    let t = c.args.t in
    let i = c.requires.index in
    let list = c.list_entry-list.result in
    let laws = c.sequence_laws.ensures c.args.format in
    let l = opened-list (numbers_of c.args.format) (formats-have-room c.args.format) laws words i.0 i.1 i.2 t c.requires.within in
    c.read.ensures ∙ c.known_at-freqs.ensures.same (freqs_view (numbers_of c.args.format) l.0) refl (begin-as words list.sums (term_word words t 1) list.len (stated_length words t) list.sum_parts (stated_freq_parts words t) (freqs_view (numbers_of c.args.format) l.0) c.list_entry-list.ensures.sums c.list_entry-list.ensures.len c.list_entry-list.ensures.sum_parts l.1.freqs)
    ∙ sym (freqs-read (numbers_of c.args.format) laws words t l.0 l.1)
