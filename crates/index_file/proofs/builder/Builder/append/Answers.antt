use Rattle.std.proofs.Common.{◌≡◌, ◌∙◌, ◌<◌, ◌⊎◌, List, ℕ, sym, ap, subst, arith}
use Rattle.std.proofs.lemmas.Result.{on_ok_weaker, on_err_weaker}
use Rattle.collection_model.specs.FormatNumbers.{Plain, Packed, format_three, most_terms, part_charge}
use Rattle.collection_model.specs.Collection.{postings_of, IsPostingList}
use Rattle.collection_model.specs.Sequences.{doc_sequence}
use Rattle.part_cost.specs.Formats.{numbers_of}
use Rattle.part_cost.specs.Span.{cost_of_part}
use Rattle.part_cost.specs.Partition.{partition_cost}
use Rattle.index_file.specs.Builder.{IsNearCut, IsBuilder, cut_list, with_list, lists_added, lists_in, half_in, built_of}
use Rattle.index_file.proofs.AddedBoth.{either-way, plain-takes, packed-takes, plain-builder-after, packed-builder-after}
use Rattle.index_file.proofs.builder.Builder.append.Goals as goal

pub append-requires-clause-list : goal.append-requires-clause-list
append-requires-clause-list c =
    let list = postings_of c.args.docs.now c.args.freqs.now in
    let h : IsPostingList (numbers_of c.self.inside.format) c.self.inside.plain.documents (postings_of c.args.docs.now c.args.freqs.now) = subst (λ b. IsPostingList (numbers_of b.format) b.documents list) (sym c.self.view_is) c.requires.list in
    subst (λ f. IsPostingList (numbers_of f) c.self.inside.plain.documents list) (sym c.self.invariant.plain_format) h

pub append-requires-clause-room : goal.append-requires-clause-room
append-requires-clause-room c =
    let s = c.self.inside in
    let h : lists_in (numbers_of c.self.inside.format).kind (half_in (numbers_of c.self.inside.format).kind c.self.inside.plain c.self.inside.packed).directory < most_terms = subst (λ b. lists_added b < most_terms) (sym c.self.view_is) c.requires.room in
    subst (λ k. lists_in k (half_in k s.plain s.packed).directory < most_terms) (ap (λ f. (numbers_of f).kind) c.in-One.is) h

pub append-requires-clause-near : goal.append-requires-clause-near
append-requires-clause-near c =
    let cut = cut_list c.args.docs.now c.args.freqs.now c.args.doc_cuts.now.ends c.args.freq_cuts.now.ends in
    let h : IsNearCut (numbers_of c.self.inside.format) (cut_list c.args.docs.now c.args.freqs.now c.args.doc_cuts.now.ends c.args.freq_cuts.now.ends) = subst (λ b. IsNearCut (numbers_of b.format) cut) (sym c.self.view_is) c.requires.near in
    subst (λ f. IsNearCut (numbers_of f) cut) (sym c.self.invariant.plain_format)
    h

pub append-requires-clause-total : goal.append-requires-clause-total
append-requires-clause-total c =
    let list = postings_of c.args.docs.now c.args.freqs.now in
    let ends = c.args.doc_cuts.now.ends in
    let h : c.args.doc_cuts.now.total ≡ partition_cost (cost_of_part (part_charge (numbers_of c.self.inside.format)) (doc_sequence (postings_of c.args.docs.now c.args.freqs.now))) c.args.doc_cuts.now.ends =
    subst (λ b. c.args.doc_cuts.now.total ≡ partition_cost (cost_of_part (part_charge (numbers_of b.format)) (doc_sequence list)) ends) (sym c.self.view_is) c.requires.total in
    subst (λ f. c.args.doc_cuts.now.total ≡ partition_cost (cost_of_part (part_charge (numbers_of f)) (doc_sequence list)) ends) (sym c.self.invariant.plain_format) h

pub invariant_of-self : goal.invariant_of-self
invariant_of-self c =
    let s = c.self.inside in
    let list = postings_of c.args.docs.now c.args.freqs.now in
    let cut = cut_list c.args.docs.now c.args.freqs.now c.args.doc_cuts.now.ends c.args.freq_cuts.now.ends in
    let kind : (numbers_of c.self.inside.format).kind ≡ Plain = ap (λ f. (numbers_of f).kind) c.in-One.is in
    let good : IsPostingList (numbers_of c.self.inside.format) c.self.inside.plain.documents (postings_of c.args.docs.now c.args.freqs.now) = subst (λ b. IsPostingList (numbers_of b.format) b.documents list) (sym c.self.view_is) c.requires.list in
    let h : IsNearCut (numbers_of c.self.inside.format) (cut_list c.args.docs.now c.args.freqs.now c.args.doc_cuts.now.ends c.args.freq_cuts.now.ends) = subst (λ b. IsNearCut (numbers_of b.format) cut) (sym c.self.view_is) c.requires.near in
    plain-builder-after s.format s.plain s.packed c.append.new.self cut kind c.self.invariant good h
    (either-way c.append.result c.append.ensures.ok c.append.ensures.err)

pub returns-in-One-clause-ok : goal.returns-in-One-clause-ok
returns-in-One-clause-ok c =
    let s = c.self.inside in
    let cut = cut_list c.args.docs.now c.args.freqs.now c.args.doc_cuts.now.ends c.args.freq_cuts.now.ends in
    let kind : (numbers_of c.self.inside.format).kind ≡ Plain = ap (λ f. (numbers_of f).kind) c.in-One.is in
    on_ok_weaker c.append.result (λ taken. plain-takes s.format kind s.plain s.packed c.append.new.self cut c.self.invariant.plain_format taken ∙ ap (λ b. with_list b cut) c.self.view_is) c.append.ensures.ok

pub returns-in-One-clause-err : goal.returns-in-One-clause-err
returns-in-One-clause-err c = on_err_weaker c.append.result (λ h. ap (λ x. built_of c.self.inside.format x c.self.inside.packed) h ∙ c.self.view_is) c.append.ensures.err

pub append-requires-in-Two-clause-list : goal.append-requires-in-Two-clause-list
append-requires-in-Two-clause-list c =
    let list = postings_of c.args.docs.now c.args.freqs.now in
    let h : IsPostingList (numbers_of c.self.inside.format) c.self.inside.plain.documents (postings_of c.args.docs.now c.args.freqs.now) = subst (λ b. IsPostingList (numbers_of b.format) b.documents list) (sym c.self.view_is) c.requires.list in
    subst (λ f. IsPostingList (numbers_of f) c.self.inside.plain.documents list) (sym c.self.invariant.plain_format) h

pub append-requires-in-Two-clause-room : goal.append-requires-in-Two-clause-room
append-requires-in-Two-clause-room c =
    let s = c.self.inside in
    let h : lists_in (numbers_of c.self.inside.format).kind (half_in (numbers_of c.self.inside.format).kind c.self.inside.plain c.self.inside.packed).directory < most_terms = subst (λ b. lists_added b < most_terms) (sym c.self.view_is) c.requires.room in
    subst (λ k. lists_in k (half_in k s.plain s.packed).directory < most_terms) (ap (λ f. (numbers_of f).kind) c.in-Two.is) h

pub append-requires-in-Two-clause-near : goal.append-requires-in-Two-clause-near
append-requires-in-Two-clause-near c =
    let cut = cut_list c.args.docs.now c.args.freqs.now c.args.doc_cuts.now.ends c.args.freq_cuts.now.ends in
    let h : IsNearCut (numbers_of c.self.inside.format) (cut_list c.args.docs.now c.args.freqs.now c.args.doc_cuts.now.ends c.args.freq_cuts.now.ends) = subst (λ b. IsNearCut (numbers_of b.format) cut) (sym c.self.view_is) c.requires.near in
    subst (λ f. IsNearCut (numbers_of f) cut) (sym c.self.invariant.plain_format)
    h

pub append-requires-in-Two-clause-total : goal.append-requires-in-Two-clause-total
append-requires-in-Two-clause-total c =
    let list = postings_of c.args.docs.now c.args.freqs.now in
    let ends = c.args.doc_cuts.now.ends in
    let h : c.args.doc_cuts.now.total ≡ partition_cost (cost_of_part (part_charge (numbers_of c.self.inside.format)) (doc_sequence (postings_of c.args.docs.now c.args.freqs.now))) c.args.doc_cuts.now.ends =
    subst (λ b. c.args.doc_cuts.now.total ≡ partition_cost (cost_of_part (part_charge (numbers_of b.format)) (doc_sequence list)) ends) (sym c.self.view_is) c.requires.total in
    subst (λ f. c.args.doc_cuts.now.total ≡ partition_cost (cost_of_part (part_charge (numbers_of f)) (doc_sequence list)) ends) (sym c.self.invariant.plain_format) h

pub invariant_of-self-in-Two : goal.invariant_of-self-in-Two
invariant_of-self-in-Two c =
    let s = c.self.inside in
    let list = postings_of c.args.docs.now c.args.freqs.now in
    let cut = cut_list c.args.docs.now c.args.freqs.now c.args.doc_cuts.now.ends c.args.freq_cuts.now.ends in
    let kind : (numbers_of c.self.inside.format).kind ≡ Plain = ap (λ f. (numbers_of f).kind) c.in-Two.is in
    let good : IsPostingList (numbers_of c.self.inside.format) c.self.inside.plain.documents (postings_of c.args.docs.now c.args.freqs.now) = subst (λ b. IsPostingList (numbers_of b.format) b.documents list) (sym c.self.view_is) c.requires.list in
    let h : IsNearCut (numbers_of c.self.inside.format) (cut_list c.args.docs.now c.args.freqs.now c.args.doc_cuts.now.ends c.args.freq_cuts.now.ends) = subst (λ b. IsNearCut (numbers_of b.format) cut) (sym c.self.view_is) c.requires.near in
    plain-builder-after s.format s.plain s.packed c.append-in-Two.new.self cut kind c.self.invariant good h
    (either-way c.append-in-Two.result c.append-in-Two.ensures.ok c.append-in-Two.ensures.err)

pub returns-in-Two-clause-ok : goal.returns-in-Two-clause-ok
returns-in-Two-clause-ok c =
    let s = c.self.inside in
    let cut = cut_list c.args.docs.now c.args.freqs.now c.args.doc_cuts.now.ends c.args.freq_cuts.now.ends in
    let kind : (numbers_of c.self.inside.format).kind ≡ Plain = ap (λ f. (numbers_of f).kind) c.in-Two.is in
    on_ok_weaker c.append-in-Two.result (λ taken. plain-takes s.format kind s.plain s.packed c.append-in-Two.new.self cut c.self.invariant.plain_format taken ∙ ap (λ b. with_list b cut) c.self.view_is) c.append-in-Two.ensures.ok

pub returns-in-Two-clause-err : goal.returns-in-Two-clause-err
returns-in-Two-clause-err c = on_err_weaker c.append-in-Two.result (λ h. ap (λ x. built_of c.self.inside.format x c.self.inside.packed) h ∙ c.self.view_is) c.append-in-Two.ensures.err

pub append-requires-in-Three-clause-list : goal.append-requires-in-Three-clause-list
append-requires-in-Three-clause-list c =
    let list = postings_of c.args.docs.now c.args.freqs.now in
    let h : IsPostingList (numbers_of c.self.inside.format) c.self.inside.plain.documents (postings_of c.args.docs.now c.args.freqs.now) = subst (λ b. IsPostingList (numbers_of b.format) b.documents list) (sym c.self.view_is) c.requires.list in
    subst (λ n. IsPostingList format_three n list) (sym c.self.invariant.same_documents) (subst (λ f. IsPostingList (numbers_of f) c.self.inside.plain.documents list) c.in-Three.is h)

pub append-requires-in-Three-clause-room : goal.append-requires-in-Three-clause-room
append-requires-in-Three-clause-room c =
    let s = c.self.inside in
    let h : lists_in (numbers_of c.self.inside.format).kind (half_in (numbers_of c.self.inside.format).kind c.self.inside.plain c.self.inside.packed).directory < most_terms = subst (λ b. lists_added b < most_terms) (sym c.self.view_is) c.requires.room in
    let k : lists_in Packed (half_in Packed c.self.inside.plain c.self.inside.packed).directory < most_terms = subst (λ k. lists_in k (half_in k s.plain s.packed).directory < most_terms) (ap (λ f. (numbers_of f).kind) c.in-Three.is) h in
    omega (arith, k)

-- the list in the parts that the packed half is given
ends-are : (docs freqs : List ℕ) (a b x y : List ℕ) → a ≡ x → b ≡ y → cut_list docs freqs a b ≡ cut_list docs freqs x y
ends-are docs freqs a b x y e f = (λ t. cut_list docs freqs (e t) (f t))

pub append-requires-in-Three-clause-near : goal.append-requires-in-Three-clause-near
append-requires-in-Three-clause-near c =
    let cut = cut_list c.args.docs.now c.args.freqs.now c.args.doc_cuts.now.ends c.args.freq_cuts.now.ends in
    let h : IsNearCut (numbers_of c.self.inside.format) (cut_list c.args.docs.now c.args.freqs.now c.args.doc_cuts.now.ends c.args.freq_cuts.now.ends) = subst (λ b. IsNearCut (numbers_of b.format) cut) (sym c.self.view_is) c.requires.near in
    subst (IsNearCut format_three) (sym (ends-are c.args.docs.now c.args.freqs.now c.ends.result.now c.ends-in-Three.result.now c.args.doc_cuts.now.ends c.args.freq_cuts.now.ends c.ends.ensures c.ends-in-Three.ensures)) (subst (λ f. IsNearCut (numbers_of f) cut) c.in-Three.is h)

pub invariant_of-self-in-Three : goal.invariant_of-self-in-Three
invariant_of-self-in-Three c =
    let s = c.self.inside in
    let list = postings_of c.args.docs.now c.args.freqs.now in
    let cut = cut_list c.args.docs.now c.args.freqs.now c.args.doc_cuts.now.ends c.args.freq_cuts.now.ends in
    let good : IsPostingList (numbers_of c.self.inside.format) c.self.inside.plain.documents (postings_of c.args.docs.now c.args.freqs.now) = subst (λ b. IsPostingList (numbers_of b.format) b.documents list) (sym c.self.view_is) c.requires.list in
    let h : IsNearCut (numbers_of c.self.inside.format) (cut_list c.args.docs.now c.args.freqs.now c.args.doc_cuts.now.ends c.args.freq_cuts.now.ends) = subst (λ b. IsNearCut (numbers_of b.format) cut) (sym c.self.view_is) c.requires.near in
    let same = ends-are c.args.docs.now c.args.freqs.now c.ends.result.now c.ends-in-Three.result.now c.args.doc_cuts.now.ends c.args.freq_cuts.now.ends c.ends.ensures c.ends-in-Three.ensures in
    subst (λ f. IsBuilder f s.plain c.append-in-Three.new.self) (sym c.in-Three.is)
    (packed-builder-after s.plain s.packed c.append-in-Three.new.self cut (subst (λ f. IsBuilder f s.plain s.packed) c.in-Three.is c.self.invariant)
    (subst (λ f. IsPostingList (numbers_of f) s.plain.documents list) c.in-Three.is good) (subst (λ f. IsNearCut (numbers_of f) cut) c.in-Three.is h)
    (subst (λ x. (c.append-in-Three.new.self ≡ with_list s.packed x) ⊎ (c.append-in-Three.new.self ≡ s.packed)) same (either-way c.append-in-Three.result c.append-in-Three.ensures.ok c.append-in-Three.ensures.err)))

pub returns-in-Three-clause-ok : goal.returns-in-Three-clause-ok
returns-in-Three-clause-ok c =
    let s = c.self.inside in
    let cut = cut_list c.args.docs.now c.args.freqs.now c.args.doc_cuts.now.ends c.args.freq_cuts.now.ends in
    let same = ends-are c.args.docs.now c.args.freqs.now c.ends.result.now c.ends-in-Three.result.now c.args.doc_cuts.now.ends c.args.freq_cuts.now.ends c.ends.ensures c.ends-in-Three.ensures in
    on_ok_weaker c.append-in-Three.result (λ taken.
    ap (λ f. built_of f s.plain c.append-in-Three.new.self) c.in-Three.is ∙ packed-takes s.plain s.packed c.append-in-Three.new.self cut c.self.invariant.packed_format c.self.invariant.same_documents (taken ∙ ap (λ x. with_list s.packed x) same)
    ∙ ap (λ f. with_list (built_of f s.plain s.packed) cut) (sym c.in-Three.is) ∙ ap (λ b. with_list b cut) c.self.view_is) c.append-in-Three.ensures.ok

pub returns-in-Three-clause-err : goal.returns-in-Three-clause-err
returns-in-Three-clause-err c = on_err_weaker c.append-in-Three.result (λ h. ap (λ x. built_of c.self.inside.format c.self.inside.plain x) h ∙ c.self.view_is) c.append-in-Three.ensures.err
