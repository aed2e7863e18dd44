use Rattle.std.proofs.Common.{◌≡◌, ◌∙◌, ◌+◌, ◌-◌, ◌^◌, ◌≤◌, ◌++◌, ◌∷◌, [], List, ℕ, length, sym, ap, subst, rules, arith, length-append, length-drop}
use Rattle.collection_model.specs.FormatNumbers.{format_three, most_terms}
use Rattle.collection_model.specs.Collection.{postings_of, IsPostingList, greatest}
use Rattle.part_cost.specs.Payload.{widest_low}
use Rattle.packed_list.specs.ListBits.{list_bits, IsCutInto}
use Rattle.index_file.specs.CutLists.{CutList}
use Rattle.index_file.specs.Builder.{IsNearCut, IsPackedKept, cut_list, with_list, packed_built}
use Rattle.index_file.proofs.Added.{postings-are}
use Rattle.index_file.proofs.NearStored.{docs-partition, freqs-partition}
use Rattle.index_file.proofs.AddedBoth.{on-refused}
use Rattle.index_file.proofs.PackedBuilt.{PackedKeeps, packed-keeps, packed-holds, cut-back}
use Rattle.index_file.proofs.packed_builder.PackedBuilder.append.Goals as goal

-- the list is cut into parts
cut-into : (n : ℕ) (docs freqs doc_ends sum_ends : List ℕ) → IsPostingList format_three n (postings_of docs freqs) → IsNearCut format_three (cut_list docs freqs doc_ends sum_ends) → IsCutInto n (postings_of docs freqs) doc_ends sum_ends
cut-into n docs freqs doc_ends sum_ends good near = record {
  well_formed = good;
  docs = docs-partition format_three (cut_list docs freqs doc_ends sum_ends) near;
  freqs = freqs-partition format_three (cut_list docs freqs doc_ends sum_ends) near;
}

pub write_list-requires-clause-list : goal.write_list-requires-clause-list
write_list-requires-clause-list c =
    let s = c.self.inside in
    let list = postings_of c.args.docs.now c.args.freqs.now in
    let are = postings-are format_three c.args.self.now.documents c.args.docs.now c.args.freqs.now c.requires.same_length c.requires.list in
    let good : IsPostingList format_three c.self.inside.documents (postings_of c.args.docs.now c.args.freqs.now) = subst (λ b. IsPostingList format_three b.documents list) (sym c.self.view_is) c.requires.list in
    let cut = cut-into s.documents c.args.docs.now c.args.freqs.now c.args.doc_ends.now c.args.sum_ends.now good c.requires.near in
    (list, record { cut = cut; of_docs = sym are.docs_are; of_sums = c.requires.sums; most = c.greatest_freq.ensures ∙ ap greatest (sym are.freqs_are) })

pub write_list-requires-clause-room : goal.write_list-requires-clause-room
write_list-requires-clause-room c postings parts =
    omega (arith, c.lists_are_short.ensures c.self.inside.documents (length c.self.inside.bits) postings c.args.doc_ends.now c.args.sum_ends.now c.self.invariant.documents parts.cut, c.self.invariant.small, length-drop 128 c.self.inside.bits)

pub invariant_of-self : goal.invariant_of-self
invariant_of-self c = subst (λ b. IsPackedKept c.self.inside.documents b c.self.inside.starts) (sym c.in_err-write_list.ensures.err) c.self.invariant

pub returns-in_err-write_list-clause-err : goal.returns-in_err-write_list-clause-err
returns-in_err-write_list-clause-err c =
    on-refused c.from_residual.result c.in_err-write_list.field-0.0 (packed_built c.self.inside.documents c.write_list.new.to c.self.inside.starts ≡ c.args.self.now) (first_of (search rules, cc))
    (ap (λ b. packed_built c.self.inside.documents b c.self.inside.starts) c.in_err-write_list.ensures.err ∙ c.self.view_is)

pub overflow_sub-end : goal.overflow_sub-end
overflow_sub-end c =
    let s = c.self.inside in
    let list = postings_of c.args.docs.now c.args.freqs.now in
    let are = postings-are format_three c.args.self.now.documents c.args.docs.now c.args.freqs.now c.requires.same_length c.requires.list in
    let good : IsPostingList format_three c.self.inside.documents (postings_of c.args.docs.now c.args.freqs.now) = subst (λ b. IsPostingList format_three b.documents list) (sym c.self.view_is) c.requires.list in
    let cut = cut-into s.documents c.args.docs.now c.args.freqs.now c.args.doc_ends.now c.args.sum_ends.now good c.requires.near in
    let written : c.write_list.new.to ≡ c.self.inside.bits ++ list_bits c.self.inside.documents (length c.self.inside.bits) (postings_of c.args.docs.now c.args.freqs.now) c.args.doc_ends.now c.args.sum_ends.now =
    c.in_ok-write_list.ensures.ok list (record { cut = cut; of_docs = sym are.docs_are; of_sums = c.requires.sums; most = c.greatest_freq.ensures ∙ ap greatest (sym are.freqs_are) }) in
    let bits : List ℕ = list_bits c.self.inside.documents (length c.self.inside.bits) (postings_of c.args.docs.now c.args.freqs.now) c.args.doc_ends.now c.args.sum_ends.now in
    omega (arith, c.len-end.ensures, ap length written, length-append s.bits bits, (packed-holds s.documents s.bits s.starts c.self.invariant).long)

pub invariant_of-self-then-is_err : goal.invariant_of-self-then-is_err
invariant_of-self-then-is_err c =
    let s = c.self.inside in
    let list = postings_of c.args.docs.now c.args.freqs.now in
    let are = postings-are format_three c.args.self.now.documents c.args.docs.now c.args.freqs.now c.requires.same_length c.requires.list in
    let good : IsPostingList format_three c.self.inside.documents (postings_of c.args.docs.now c.args.freqs.now) = subst (λ b. IsPostingList format_three b.documents list) (sym c.self.view_is) c.requires.list in
    let cut = cut-into s.documents c.args.docs.now c.args.freqs.now c.args.doc_ends.now c.args.sum_ends.now good c.requires.near in
    let written : c.write_list.new.to ≡ c.self.inside.bits ++ list_bits c.self.inside.documents (length c.self.inside.bits) (postings_of c.args.docs.now c.args.freqs.now) c.args.doc_ends.now c.args.sum_ends.now =
    c.in_ok-write_list.ensures.ok list (record { cut = cut; of_docs = sym are.docs_are; of_sums = c.requires.sums; most = c.greatest_freq.ensures ∙ ap greatest (sym are.freqs_are) }) in
    let bits : List ℕ = list_bits c.self.inside.documents (length c.self.inside.bits) (postings_of c.args.docs.now c.args.freqs.now) c.args.doc_ends.now c.args.sum_ends.now in
    let back : c.truncate.new.self ≡ c.self.inside.bits = c.truncate.ensures ∙ cut-back c.len-first.result s.bits bits c.write_list.new.to c.len-first.ensures written in
    let same : c.push_end.new.starts ≡ c.self.inside.starts = search rules in
    subst (λ b. IsPackedKept c.self.inside.documents b c.push_end.new.starts) (sym back) (subst (λ ys. IsPackedKept c.self.inside.documents c.self.inside.bits ys) (sym same) c.self.invariant)

pub returns-then-is_err-clause-err : goal.returns-then-is_err-clause-err
returns-then-is_err-clause-err c =
    let s = c.self.inside in
    let list = postings_of c.args.docs.now c.args.freqs.now in
    let are = postings-are format_three c.args.self.now.documents c.args.docs.now c.args.freqs.now c.requires.same_length c.requires.list in
    let good : IsPostingList format_three c.self.inside.documents (postings_of c.args.docs.now c.args.freqs.now) = subst (λ b. IsPostingList format_three b.documents list) (sym c.self.view_is) c.requires.list in
    let cut = cut-into s.documents c.args.docs.now c.args.freqs.now c.args.doc_ends.now c.args.sum_ends.now good c.requires.near in
    let written : c.write_list.new.to ≡ c.self.inside.bits ++ list_bits c.self.inside.documents (length c.self.inside.bits) (postings_of c.args.docs.now c.args.freqs.now) c.args.doc_ends.now c.args.sum_ends.now =
    c.in_ok-write_list.ensures.ok list (record { cut = cut; of_docs = sym are.docs_are; of_sums = c.requires.sums; most = c.greatest_freq.ensures ∙ ap greatest (sym are.freqs_are) }) in
    let bits : List ℕ = list_bits c.self.inside.documents (length c.self.inside.bits) (postings_of c.args.docs.now c.args.freqs.now) c.args.doc_ends.now c.args.sum_ends.now in
    let back : c.truncate.new.self ≡ c.self.inside.bits = c.truncate.ensures ∙ cut-back c.len-first.result s.bits bits c.write_list.new.to c.len-first.ensures written in
    let same : c.push_end.new.starts ≡ c.self.inside.starts = search rules in
    (λ t. packed_built c.self.inside.documents (back t) (same t)) ∙ c.self.view_is

keeps : (c : goal.Else-is_err) → PackedKeeps c.self.inside.documents c.self.inside.bits c.self.inside.starts c.write_list.new.to c.push_end.new.starts
    (cut_list c.args.docs.now c.args.freqs.now c.args.doc_ends.now c.args.sum_ends.now)
keeps c =
    let s = c.self.inside in
    let list = postings_of c.args.docs.now c.args.freqs.now in
    let are = postings-are format_three c.args.self.now.documents c.args.docs.now c.args.freqs.now c.requires.same_length c.requires.list in
    let good : IsPostingList format_three c.self.inside.documents (postings_of c.args.docs.now c.args.freqs.now) = subst (λ b. IsPostingList format_three b.documents list) (sym c.self.view_is) c.requires.list in
    let cut = cut-into s.documents c.args.docs.now c.args.freqs.now c.args.doc_ends.now c.args.sum_ends.now good c.requires.near in
    let written : c.write_list.new.to ≡ c.self.inside.bits ++ list_bits c.self.inside.documents (length c.self.inside.bits) (postings_of c.args.docs.now c.args.freqs.now) c.args.doc_ends.now c.args.sum_ends.now =
    c.in_ok-write_list.ensures.ok list (record { cut = cut; of_docs = sym are.docs_are; of_sums = c.requires.sums; most = c.greatest_freq.ensures ∙ ap greatest (sym are.freqs_are) }) in
    let bits : List ℕ = list_bits c.self.inside.documents (length c.self.inside.bits) (postings_of c.args.docs.now c.args.freqs.now) c.args.doc_ends.now c.args.sum_ends.now in
    let whole : CutList = cut_list c.args.docs.now c.args.freqs.now c.args.doc_ends.now c.args.sum_ends.now in
    let entered : c.push_end.new.starts ≡ c.self.inside.starts ++ (c.len-end.result - 128 + length c.self.inside.starts) ∷ [] = search rules in
    let stated : c.len-end.result - 128 + most_terms + 1 ≤ 2 ^ widest_low = search rules in
    let room : length c.self.inside.starts ≤ most_terms = subst (λ b. length b.directory ≤ most_terms) (sym c.self.view_is) c.requires.room in
    packed-keeps s.documents (c.len-end.result - 128 + length s.starts) s.bits s.starts c.write_list.new.to c.push_end.new.starts whole c.self.invariant good c.requires.near room
    (omega (arith, c.len-end.ensures, stated)) written (omega (arith, c.len-end.ensures)) entered

pub invariant_of-self-else-is_err : goal.invariant_of-self-else-is_err
invariant_of-self-else-is_err c = (keeps c).kept

pub returns-clause-ok : goal.returns-clause-ok
returns-clause-ok c = (keeps c).is ∙ ap (λ b. with_list b (cut_list c.args.docs.now c.args.freqs.now c.args.doc_ends.now c.args.sum_ends.now)) c.self.view_is
