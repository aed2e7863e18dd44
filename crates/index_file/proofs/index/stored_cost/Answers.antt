use Rattle.std.proofs.Common.{◌≡◌, ◌-◌, ◌∙◌, ap, sym, arith}
use Rattle.collection_model.specs.FormatNumbers.{FormatNumbers, Packed, part_charge}
use Rattle.part_cost.specs.declared.formats.Format.TheVariants.{Three}
use Rattle.part_cost.specs.Formats.{numbers_of}
use Rattle.part_cost.specs.StoredBits.{stored_in}
use Rattle.index_file.proofs.StoredCosts.{stored-plain, stored-parts, stored-single, stored-lone}
use Rattle.index_file.proofs.index.stored_cost.Goals as goal

pub returns-in-One : goal.returns-in-One
returns-in-One c =
    let v = c.args.sequence.now in
    c.cost-cost.ensures ∙ stored-plain v.format.kind (part_charge v.format) v.values v.ends (ap (λ f. f.kind) c.requires.format ∙ ap (λ f. (numbers_of f).kind) c.in-One.is)

pub returns-in-Two : goal.returns-in-Two
returns-in-Two c =
    let v = c.args.sequence.now in
    c.cost-cost.ensures ∙ stored-plain v.format.kind (part_charge v.format) v.values v.ends (ap (λ f. f.kind) c.requires.format ∙ ap (λ f. (numbers_of f).kind) c.in-Two.is)

-- the file is a packed one
packed : (f g : FormatNumbers) → f ≡ g → g.kind ≡ Packed → f.kind ≡ Packed
packed f g e k = ap (λ x. x.kind) e ∙ k

pub returns-then-parts-ne1 : goal.returns-then-parts-ne1
returns-then-parts-ne1 c =
    let v = c.args.sequence.now in
    let kind : c.args.sequence.now.format.kind ≡ Packed = packed v.format (numbers_of c.args.format) c.requires.format (ap (λ f. (numbers_of f).kind) c.in-Three.is) in
    c.cost-cost.ensures ∙ stored-parts (part_charge v.format) v.values v.ends (λ e. c.if-parts-ne1.true (c.parts.ensures ∙ e))
    ∙ ap (λ k. stored_in k (part_charge v.format) v.values v.ends) (sym kind)

pub returns-then-len-eq1 : goal.returns-then-len-eq1
returns-then-len-eq1 c =
    let v = c.args.sequence.now in
    let kind : c.args.sequence.now.format.kind ≡ Packed = packed v.format (numbers_of c.args.format) c.requires.format (ap (λ f. (numbers_of f).kind) c.in-Three.is) in
    stored-single (part_charge v.format) v.values v.ends (sym c.parts.ensures ∙ c.if-parts-ne1.false) (sym c.len.ensures ∙ c.if-len-eq1.true) c.requires.cut
    ∙ ap (λ k. stored_in k (part_charge v.format) v.values v.ends) (sym kind)

pub overflow_sub-result : goal.overflow_sub-result
overflow_sub-result c =
    let v = c.args.sequence.now in
    let charge : part_charge c.args.sequence.now.format ≡ part_charge (numbers_of Three) = ap part_charge (c.requires.format ∙ ap numbers_of c.in-Three.is) in
    omega (arith, c.cost-cost.ensures, c.charge.ensures, charge, stored-lone (part_charge v.format) v.values v.ends (sym c.parts.ensures ∙ c.if-parts-ne1.false) (λ e. c.if-len-eq1.false (c.len.ensures ∙ e)) c.requires.cut)

pub returns-else-len-eq1 : goal.returns-else-len-eq1
returns-else-len-eq1 c =
    let v = c.args.sequence.now in
    let kind : c.args.sequence.now.format.kind ≡ Packed = packed v.format (numbers_of c.args.format) c.requires.format (ap (λ f. (numbers_of f).kind) c.in-Three.is) in
    let charge : part_charge c.args.sequence.now.format ≡ part_charge (numbers_of Three) = ap part_charge (c.requires.format ∙ ap numbers_of c.in-Three.is) in
    let lone : c.cost-cost.result - c.charge.result ≡ stored_in Packed (part_charge c.args.sequence.now.format) c.args.sequence.now.values c.args.sequence.now.ends =
    omega (arith, c.cost-cost.ensures, c.charge.ensures, charge, stored-lone (part_charge v.format) v.values v.ends (sym c.parts.ensures ∙ c.if-parts-ne1.false) (λ e. c.if-len-eq1.false (c.len.ensures ∙ e)) c.requires.cut) in
    lone ∙ ap (λ k. stored_in k (part_charge v.format) v.values v.ends) (sym kind)
