use Rattle.std.proofs.Common.{arith, ap, ◌∙◌, ◌++◌, ◌≤◌, length, rules, sym, subst}
use Rattle.bit_words.specs.Bits.{field_bits, padding}
use Rattle.bit_words.proofs.Writing.{length-held, held-put, view-put}
use Rattle.bit_words.proofs.writer.BitWriter.put.Goals as goal

pub overflow_add-self : goal.overflow_add-self
overflow_add-self c = omega (arith, length-held c.self.inside.words.items c.self.inside.len c.self.invariant, ap length c.self.view_is)

pub invariant_of-self-2 : goal.invariant_of-self-2
invariant_of-self-2 c =
    held-put c.self.inside.words.items c.append.new.words.items c.self.inside.len c.args.width c.args.value c.self.invariant c.requires.fits c.in_ok-append.ensures.count c.in_ok-append.ensures.value

pub returns-clause-ok : goal.returns-clause-ok
returns-clause-ok c =
    view-put c.self.inside.words.items c.append.new.words.items c.self.inside.len c.args.width c.args.value c.self.invariant c.requires.fits c.in_ok-append.ensures.count c.in_ok-append.ensures.value
    ∙ ap (λ bits. bits ++ field_bits c.args.width c.args.value) c.self.view_is

pub returns-in_err-append-clause-fitting : goal.returns-in_err-append-clause-fitting
returns-in_err-append-clause-fitting c = λ fit.
    let same = length-held c.self.inside.words.items c.self.inside.len c.self.invariant in
    let ok = c.in_err-append.ensures.fitting (subst (λ n. c.args.width ≤ padding n) (sym (ap length c.self.view_is) ∙ same) fit) in
    search rules
