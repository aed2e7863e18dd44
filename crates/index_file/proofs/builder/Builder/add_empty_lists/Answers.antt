use Rattle.std.proofs.Common.{◌≡◌, ◌∙◌, ◌+◌, ◌≤◌, sym, ap, subst, arith}
use Rattle.std.proofs.lemmas.Result.{on_ok_weaker, on_err_weaker}
use Rattle.collection_model.specs.FormatNumbers.{Plain, Packed, most_terms}
use Rattle.part_cost.specs.Formats.{numbers_of}
use Rattle.index_file.specs.Builder.{IsBuilder, lists_added, lists_in, half_in, built_of, with_empty_lists}
use Rattle.index_file.proofs.AddedBoth.{either-way}
use Rattle.index_file.proofs.EmptyLists.{adds-empty, plain-takes-empty, packed-takes-empty, plain-builder-empty, packed-builder-empty}
use Rattle.index_file.proofs.builder.Builder.add_empty_lists.Goals as goal

pub append_empty-requires : goal.append_empty-requires
append_empty-requires c =
    let s = c.self.inside in
    let h : lists_in (numbers_of c.self.inside.format).kind (half_in (numbers_of c.self.inside.format).kind c.self.inside.plain c.self.inside.packed).directory + c.args.count ≤ most_terms = subst (λ b. lists_added b + c.args.count ≤ most_terms) (sym c.self.view_is) c.requires.room in
    let k : lists_in Plain (half_in Plain c.self.inside.plain c.self.inside.packed).directory + c.args.count ≤ most_terms = subst (λ k. lists_in k (half_in k s.plain s.packed).directory + c.args.count ≤ most_terms) (ap (λ f. (numbers_of f).kind) c.in-One.is) h in
    record { room = omega (arith, k, c.from.ensures) }

pub append_empty-requires-in-Two : goal.append_empty-requires-in-Two
append_empty-requires-in-Two c =
    let s = c.self.inside in
    let h : lists_in (numbers_of c.self.inside.format).kind (half_in (numbers_of c.self.inside.format).kind c.self.inside.plain c.self.inside.packed).directory + c.args.count ≤ most_terms = subst (λ b. lists_added b + c.args.count ≤ most_terms) (sym c.self.view_is) c.requires.room in
    let k : lists_in Plain (half_in Plain c.self.inside.plain c.self.inside.packed).directory + c.args.count ≤ most_terms = subst (λ k. lists_in k (half_in k s.plain s.packed).directory + c.args.count ≤ most_terms) (ap (λ f. (numbers_of f).kind) c.in-Two.is) h in
    record { room = omega (arith, k, c.from-in-Two.ensures) }

pub append_empty-requires-in-Three : goal.append_empty-requires-in-Three
append_empty-requires-in-Three c =
    let s = c.self.inside in
    let h : lists_in (numbers_of c.self.inside.format).kind (half_in (numbers_of c.self.inside.format).kind c.self.inside.plain c.self.inside.packed).directory + c.args.count ≤ most_terms = subst (λ b. lists_added b + c.args.count ≤ most_terms) (sym c.self.view_is) c.requires.room in
    let k : lists_in Packed (half_in Packed c.self.inside.plain c.self.inside.packed).directory + c.args.count ≤ most_terms = subst (λ k. lists_in k (half_in k s.plain s.packed).directory + c.args.count ≤ most_terms) (ap (λ f. (numbers_of f).kind) c.in-Three.is) h in
    record { room = omega (arith, k, c.from-in-Three.ensures) }

pub invariant_of-self : goal.invariant_of-self
invariant_of-self c =
    let s = c.self.inside in
    let kind : (numbers_of c.self.inside.format).kind ≡ Plain = ap (λ f. (numbers_of f).kind) c.in-One.is in
    plain-builder-empty s.format s.plain s.packed c.append_empty.new.self c.from.result kind c.self.invariant (either-way c.append_empty.result c.append_empty.ensures.ok c.append_empty.ensures.err)

pub invariant_of-self-in-Two : goal.invariant_of-self-in-Two
invariant_of-self-in-Two c =
    let s = c.self.inside in
    let kind : (numbers_of c.self.inside.format).kind ≡ Plain = ap (λ f. (numbers_of f).kind) c.in-Two.is in
    plain-builder-empty s.format s.plain s.packed c.append_empty-in-Two.new.self c.from-in-Two.result kind c.self.invariant (either-way c.append_empty-in-Two.result c.append_empty-in-Two.ensures.ok c.append_empty-in-Two.ensures.err)

pub invariant_of-self-in-Three : goal.invariant_of-self-in-Three
invariant_of-self-in-Three c =
    let s = c.self.inside in
    subst (λ f. IsBuilder f s.plain c.append_empty-in-Three.new.self) (sym c.in-Three.is)
    (packed-builder-empty s.plain s.packed c.append_empty-in-Three.new.self c.from-in-Three.result (subst (λ f. IsBuilder f s.plain s.packed) c.in-Three.is c.self.invariant) c.append_empty-in-Three.ensures)

pub returns-in-One-clause-ok : goal.returns-in-One-clause-ok
returns-in-One-clause-ok c =
    let s = c.self.inside in
    let kind : (numbers_of c.self.inside.format).kind ≡ Plain = ap (λ f. (numbers_of f).kind) c.in-One.is in
    on_ok_weaker c.append_empty.result (λ taken. adds-empty c.args.self.now _ c.args.count
    (ap (λ x. built_of s.format x s.packed) taken ∙ plain-takes-empty s.format kind s.plain s.packed c.from.result c.self.invariant.plain_format ∙ ap (λ b. with_empty_lists b c.from.result) c.self.view_is ∙ ap (with_empty_lists c.args.self.now) c.from.ensures)) c.append_empty.ensures.ok

pub returns-in-One-clause-err : goal.returns-in-One-clause-err
returns-in-One-clause-err c = on_err_weaker c.append_empty.result (λ h. ap (λ x. built_of c.self.inside.format x c.self.inside.packed) h ∙ c.self.view_is) c.append_empty.ensures.err

pub returns-in-Two-clause-ok : goal.returns-in-Two-clause-ok
returns-in-Two-clause-ok c =
    let s = c.self.inside in
    let kind : (numbers_of c.self.inside.format).kind ≡ Plain = ap (λ f. (numbers_of f).kind) c.in-Two.is in
    on_ok_weaker c.append_empty-in-Two.result (λ taken. adds-empty c.args.self.now _ c.args.count
    (ap (λ x. built_of s.format x s.packed) taken ∙ plain-takes-empty s.format kind s.plain s.packed c.from-in-Two.result c.self.invariant.plain_format ∙ ap (λ b. with_empty_lists b c.from-in-Two.result) c.self.view_is ∙ ap (with_empty_lists c.args.self.now) c.from-in-Two.ensures)) c.append_empty-in-Two.ensures.ok

pub returns-in-Two-clause-err : goal.returns-in-Two-clause-err
returns-in-Two-clause-err c = on_err_weaker c.append_empty-in-Two.result (λ h. ap (λ x. built_of c.self.inside.format x c.self.inside.packed) h ∙ c.self.view_is) c.append_empty-in-Two.ensures.err

pub returns-in-Three-clause-ok : goal.returns-in-Three-clause-ok
returns-in-Three-clause-ok c =
    let s = c.self.inside in
    adds-empty c.args.self.now _ c.args.count
    (ap (λ x. built_of s.format s.plain x) c.append_empty-in-Three.ensures ∙ ap (λ f. built_of f s.plain (with_empty_lists s.packed c.from-in-Three.result)) c.in-Three.is
    ∙ packed-takes-empty s.plain s.packed c.from-in-Three.result c.self.invariant.packed_format c.self.invariant.same_documents
    ∙ ap (λ f. with_empty_lists (built_of f s.plain s.packed) c.from-in-Three.result) (sym c.in-Three.is) ∙ ap (λ b. with_empty_lists b c.from-in-Three.result) c.self.view_is ∙ ap (with_empty_lists c.args.self.now) c.from-in-Three.ensures)
