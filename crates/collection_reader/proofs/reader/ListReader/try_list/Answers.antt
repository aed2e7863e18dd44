use Rattle.std.proofs.Common.{◌≡◌, ◌<◌, length, arith}
use Rattle.std.proofs.lemmas.Result.{err_from_is_err_and}
use Rattle.collection_model.specs.FormatNumbers.{most_terms}
use Rattle.collection_reader.proofs.TriesList.{look_refused, documents_refused, frequencies_refused, list_read}
use Rattle.collection_reader.proofs.reader.ListReader.try_list.Goals as goal

pub returns-in_err-has_byte : goal.returns-in_err-has_byte
returns-in_err-has_byte g c =
    let p = err_from_is_err_and c.from_residual.result c.from_residual.ensures.1 in
    rw (p.1, p.2, ← c.self.view_is) (look_refused _ c.has_byte.new.held c.args.docs.now.items c.args.freqs.now.items _ _ c.in_err-has_byte.field-0.0 c.in_err-has_byte.ensures)

pub returns-in_err-read_documents : goal.returns-in_err-read_documents
returns-in_err-read_documents g c =
    let p = err_from_is_err_and c.from_residual-in_err-read_documents.result c.from_residual-in_err-read_documents.ensures.1 in
    let look = rw c.if-not-branch.false at c.in_ok-has_byte.ensures in
    let few : c.self.inside.lists < most_terms = omega arith in
    rw (p.1, p.2, ← c.self.view_is) (
    documents_refused _ c.has_byte.new.held c.read_documents.new.held c.read_documents.new.docs.items c.args.freqs.now.items _ _ _ c.in_err-read_documents.field-0.0 few look c.in_err-read_documents.ensures
    )

pub returns-in_err-read_frequencies : goal.returns-in_err-read_frequencies
returns-in_err-read_frequencies g c =
    let p = err_from_is_err_and c.from_residual-in_err-read_frequencies.result c.from_residual-in_err-read_frequencies.ensures.1 in
    let look = rw c.if-not-branch.false at c.in_ok-has_byte.ensures in
    let same : c.len.result ≡ length c.read_documents.new.docs.items = omega (arith, c.len.ensures, c.read_documents.new.docs.ok.0) in
    let few : c.self.inside.lists < most_terms = omega arith in
    rw (p.1, p.2, ← c.self.view_is) (
    frequencies_refused _ c.has_byte.new.held c.read_documents.new.held c.read_frequencies.new.held c.read_documents.new.docs.items c.read_frequencies.new.freqs.items _ _ _ _ c.in_err-read_frequencies.field-0.0
    (omega arith) few look c.in_ok-read_documents.ensures (rw same at c.in_err-read_frequencies.ensures)
    )

pub returns : goal.returns
returns g c =
    let look = rw c.if-not-branch.false at c.in_ok-has_byte.ensures in
    let same : c.len.result ≡ length c.read_documents.new.docs.items = omega (arith, c.len.ensures, c.read_documents.new.docs.ok.0) in
    let few : c.self.inside.lists < most_terms = omega arith in
    rw (← c.self.view_is) (
    list_read _ c.has_byte.new.held c.read_documents.new.held c.read_frequencies.new.held c.read_documents.new.docs.items c.read_frequencies.new.freqs.items _ _ _ _
    few look c.in_ok-read_documents.ensures (rw same at c.in_ok-read_frequencies.ensures)
    )
