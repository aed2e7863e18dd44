use Rattle.std.proofs.Common.{◌∙◌, sym, ap, length}
use Rattle.index_file.specs.IndexView.{starts_of, word_count}
use Rattle.command_ends.proofs.IndexRead.{index_broken, index_loaded, index_unkept, loaded_as, spelled_index}
use Rattle.command_ends.proofs.OtherFile.{kept_is_loaded, kept_is_none}
use Rattle.outcomes.proofs.Told.{handed_on}
use Rattle.command_ends.proofs.loading.open_index_words.Goals as goal

pub returns-in_err-opened-clause-refused : goal.returns-in_err-opened-clause-refused
returns-in_err-opened-clause-refused g c =
    rw (handed_on c.from_residual.result c.from_residual.ensures.1)
    (λ name old new loads.
    (let none = kept_is_none name old new c.args.words.items c.in_err-opened.field-0.0 loads c.in_err-opened.ensures.first in
    index_broken c.words_and_bytes_undo_each_other.ensures.read c.one_broken_check.ensures name old new none.0 none.1 c.in_err-opened.field-0.0 none.2))

pub returns-in_err-kept-clause-refused : goal.returns-in_err-kept-clause-refused
returns-in_err-kept-clause-refused g c =
    let is = spelled_index c.args.words.items c.in_ok-opened.opened c.in_ok-opened.ensures.ok in
    rw (handed_on c.from_residual-in_err-kept.result c.from_residual-in_err-kept.ensures.1)
    (λ name old new loads.
    index_unkept c.words_and_bytes_undo_each_other.ensures.read c.one_broken_check.ensures name old new c.args.words.items
    (kept_is_loaded name old new c.args.words.items loads is))

pub returns-clause-loaded : goal.returns-clause-loaded
returns-clause-loaded g c name old new loads =
    let is = spelled_index c.args.words.items c.in_ok-opened.opened c.in_ok-opened.ensures.ok in
    loaded_as name old new c.in_ok-opened.opened c.in_ok-kept.kept (starts_of c.in_ok-opened.opened)
    (index_loaded c.words_and_bytes_undo_each_other.ensures.read c.one_broken_check.ensures name old new c.args.words.items
    (kept_is_loaded name old new c.args.words.items loads is) c.in_ok-opened.opened c.in_ok-opened.ensures.ok) c.in_ok-kept.ensures

pub returns-clause-kept : goal.returns-clause-kept
returns-clause-kept g c = ap (λ i. i.starts) c.in_ok-kept.ensures ∙ sym (ap starts_of c.in_ok-kept.ensures)

pub returns-clause-count : goal.returns-clause-count
returns-clause-count g c = ap word_count c.in_ok-kept.ensures ∙ sym (ap length c.in_ok-opened.ensures.ok.spelled)

pub returns-clause-took : goal.returns-clause-took
returns-clause-took g c = rw c.in_ok-kept.ensures c.in_ok-opened.ensures.took
