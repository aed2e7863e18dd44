use Rattle.std.proofs.Common.{◌≡◌, ◌∙◌, sym, ap, subst, rules, arith, ◌/◌, ◌≤◌, ◌<◌, ◌++◌, length}
use Rattle.collection_model.specs.FormatNumbers.{most_terms, part_charge}
use Rattle.collection_model.specs.Sequences.{doc_sequence}
use Rattle.two_level.specs.SequenceWords.{sequence_words}
use Rattle.collection_model.specs.Collection.{postings_of, freqs_of, IsPostingList}
use Rattle.part_cost.specs.Formats.{numbers_of}
use Rattle.part_cost.specs.Span.{cost_of_part}
use Rattle.part_cost.specs.Partition.{IsPartition, partition_cost}
use Rattle.index_file.specs.FileWords.{CutList, doc_words, freq_words, list_entry}
use Rattle.index_file.specs.Builder.{IsNearCut, cut_list, with_plain_list}
use Rattle.collection_model.proofs.Sequences.{sums-length}
use Rattle.index_file.proofs.NearStored.{docs-partition, freqs-partition}
use Rattle.index_file.proofs.Added.{postings-are, list-within, parts-few, entry-is, KeepsMore, keeps-more}
use Rattle.index_file.proofs.plain_builder.PlainBuilder.append.Goals as goal

pub spell_entry-entry-requires-clause-postings : goal.spell_entry-entry-requires-clause-postings
spell_entry-entry-requires-clause-postings c =
    let small : c.args.self.now.documents ≤ (numbers_of c.args.self.now.format).most_documents = subst (λ b. b.documents ≤ (numbers_of b.format).most_documents) c.self.view_is c.self.invariant.documents in
    let are = postings-are (numbers_of c.args.self.now.format) c.args.self.now.documents c.args.docs.now c.args.freqs.now c.requires.same_length c.requires.list in
    omega (arith, (c.formats_have_room.ensures c.args.self.now.format).fit, are.few, c.requires.same_length)

pub spell_entry-entry-requires-clause-doc_parts : goal.spell_entry-entry-requires-clause-doc_parts
spell_entry-entry-requires-clause-doc_parts c =
    let small : c.args.self.now.documents ≤ (numbers_of c.args.self.now.format).most_documents = subst (λ b. b.documents ≤ (numbers_of b.format).most_documents) c.self.view_is c.self.invariant.documents in
    let are = postings-are (numbers_of c.args.self.now.format) c.args.self.now.documents c.args.docs.now c.args.freqs.now c.requires.same_length c.requires.list in
    omega (arith, (c.formats_have_room.ensures c.args.self.now.format).fit, are.few, are.count, parts-few (length (postings_of c.args.docs.now c.args.freqs.now)) c.args.doc_cuts.now.ends (docs-partition (numbers_of c.args.self.now.format) (cut_list c.args.docs.now c.args.freqs.now c.args.doc_cuts.now.ends c.args.freq_cuts.now.ends) c.requires.near))

pub spell_entry-entry-requires-clause-freq_parts : goal.spell_entry-entry-requires-clause-freq_parts
spell_entry-entry-requires-clause-freq_parts c =
    let small : c.args.self.now.documents ≤ (numbers_of c.args.self.now.format).most_documents = subst (λ b. b.documents ≤ (numbers_of b.format).most_documents) c.self.view_is c.self.invariant.documents in
    let are = postings-are (numbers_of c.args.self.now.format) c.args.self.now.documents c.args.docs.now c.args.freqs.now c.requires.same_length c.requires.list in
    omega (arith, (c.formats_have_room.ensures c.args.self.now.format).fit, are.few, are.count, parts-few (length (postings_of c.args.docs.now c.args.freqs.now)) c.args.freq_cuts.now.ends (freqs-partition (numbers_of c.args.self.now.format) (cut_list c.args.docs.now c.args.freqs.now c.args.doc_cuts.now.ends c.args.freq_cuts.now.ends) c.requires.near))

pub write_sequences-requires-clause-doc_parts : goal.write_sequences-requires-clause-doc_parts
write_sequences-requires-clause-doc_parts c =
    let are = postings-are (numbers_of c.args.self.now.format) c.args.self.now.documents c.args.docs.now c.args.freqs.now c.requires.same_length c.requires.list in
    subst (IsPartition (length c.args.docs.now)) (sym c.ends.ensures) (subst (λ m. IsPartition m c.args.doc_cuts.now.ends) are.count (docs-partition (numbers_of c.args.self.now.format) (cut_list c.args.docs.now c.args.freqs.now c.args.doc_cuts.now.ends c.args.freq_cuts.now.ends) c.requires.near))

pub write_sequences-requires-clause-freq_parts : goal.write_sequences-requires-clause-freq_parts
write_sequences-requires-clause-freq_parts c =
    let are = postings-are (numbers_of c.args.self.now.format) c.args.self.now.documents c.args.docs.now c.args.freqs.now c.requires.same_length c.requires.list in
    let count : length c.args.sums.now ≡ length c.args.freqs.now = ap length c.requires.sums ∙ sums-length 0 (freqs_of (postings_of c.args.docs.now c.args.freqs.now)) ∙ ap length are.freqs_are in
    subst (IsPartition (length c.args.sums.now)) (sym c.ends-2.ensures) (subst (λ m. IsPartition m c.args.freq_cuts.now.ends) (are.count ∙ c.requires.same_length ∙ sym count) (freqs-partition (numbers_of c.args.self.now.format) (cut_list c.args.docs.now c.args.freqs.now c.args.doc_cuts.now.ends c.args.freq_cuts.now.ends) c.requires.near))

pub write_sequences-requires-clause-list : goal.write_sequences-requires-clause-list
write_sequences-requires-clause-list c =
    let s = c.self.inside in
    let list = postings_of c.args.docs.now c.args.freqs.now in
    let are = postings-are (numbers_of c.args.self.now.format) c.args.self.now.documents c.args.docs.now c.args.freqs.now c.requires.same_length c.requires.list in
    let good : IsPostingList (numbers_of s.format) s.documents list = subst (λ b. IsPostingList (numbers_of b.format) b.documents list) (sym c.self.view_is) c.requires.list in
    (list, list-within (numbers_of s.format) s.documents (numbers_of s.format).most_documents list c.self.invariant.documents good, sym are.docs_are, c.requires.sums)

keeps : (c : goal.Else-is_err) → KeepsMore c.self.inside.format c.self.inside.documents c.self.inside.words.items c.self.inside.directory.items c.write_sequences.new.to.items c.extend_from_slice.new.self.items
    (cut_list c.args.docs.now c.args.freqs.now c.args.doc_cuts.now.ends c.args.freq_cuts.now.ends)
keeps c =
    let s = c.self.inside in
    let list : CutList = cut_list c.args.docs.now c.args.freqs.now c.args.doc_cuts.now.ends c.args.freq_cuts.now.ends in
    let good : IsPostingList (numbers_of s.format) s.documents (postings_of c.args.docs.now c.args.freqs.now) = subst (λ b. IsPostingList (numbers_of b.format) b.documents (postings_of c.args.docs.now c.args.freqs.now)) (sym c.self.view_is) c.requires.list in
    let near : IsNearCut (numbers_of s.format) list = subst (λ b. IsNearCut (numbers_of b.format) list) (sym c.self.view_is) c.requires.near in
    let total : c.args.doc_cuts.now.total ≡ partition_cost (cost_of_part (part_charge (numbers_of s.format)) (doc_sequence list.list)) c.args.doc_cuts.now.ends =
    subst (λ b. c.args.doc_cuts.now.total ≡ partition_cost (cost_of_part (part_charge (numbers_of b.format)) (doc_sequence list.list)) c.args.doc_cuts.now.ends) (sym c.self.view_is) c.requires.total in
    let room : length s.directory.items / 4 < most_terms = subst (λ b. length b.directory / 4 < most_terms) (sym c.self.view_is) c.requires.room in
    let are = postings-are (numbers_of s.format) s.documents c.args.docs.now c.args.freqs.now c.requires.same_length good in
    let docs_are : c.args.docs.now ≡ doc_sequence list.list = sym are.docs_are in
    let written : c.write_sequences.new.to.items ≡ s.words.items ++ doc_words (numbers_of s.format) list ++ freq_words (numbers_of s.format) list = c.in_ok-write_sequences.ensures.ok ∙ (λ t. s.words.items ++ sequence_words (numbers_of s.format) (docs_are t) (c.ends.ensures t) ++ sequence_words (numbers_of s.format) (c.requires.sums t) (c.ends-2.ensures t)) in
    let place : c.len-first.result ≡ length s.words.items = search rules in
    let entry : c.spell_entry-entry.result ≡ list_entry (numbers_of s.format) (length s.words.items) list =
    c.spell_entry-entry.ensures ∙ entry-is (numbers_of s.format) (c.formats_have_room.ensures s.format) s.documents _ c.args.doc_cuts.now.total c.args.docs.now c.args.freqs.now c.args.doc_cuts.now.ends c.args.freq_cuts.now.ends (c.sequence_takes_its_cost.ensures s.format) c.requires.same_length c.self.invariant.documents good near total ∙ ap (λ p. list_entry (numbers_of s.format) p list) place in
    let entered : c.extend_from_slice.new.self.items ≡ s.directory.items ++ c.spell_entry-entry.result = search rules in
    keeps-more s.format s.documents s.words.items s.directory.items c.write_sequences.new.to.items c.extend_from_slice.new.self.items list c.self.invariant good near room written (entered ∙ ap (λ ws. s.directory.items ++ ws) entry)

pub invariant_of-self-else-is_err : goal.invariant_of-self-else-is_err
invariant_of-self-else-is_err c = (keeps c).kept

pub returns-clause-ok : goal.returns-clause-ok
returns-clause-ok c = (keeps c).is ∙ ap (λ b. with_plain_list b (cut_list c.args.docs.now c.args.freqs.now c.args.doc_cuts.now.ends c.args.freq_cuts.now.ends)) c.self.view_is
