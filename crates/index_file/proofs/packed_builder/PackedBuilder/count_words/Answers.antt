use Rattle.std.proofs.Common.{◌≡◌, ◌∙◌, ℕ, ◌+◌, ◌-◌, ◌++◌, List, drop, sym, subst, arith, length-append, length-drop}
use Rattle.std.specs.List.{range_with_len}
use Rattle.std.proofs.lemmas.List.FromFn.{length-range_with_len}
use Rattle.index_file.proofs.EmptyLists.{packed-empty}
use Rattle.index_file.specs.Builder.{StandsFor, packed_built, with_empty_lists}
use Rattle.index_file.specs.PackedWords.{packed_words}
use Rattle.std.proofs.Common.{ap, length}
use Rattle.index_file.proofs.PackedBuilt.{packed-holds, packed-counted}
use Rattle.index_file.proofs.packed_builder.PackedBuilder.count_words.Goals as goal

pub overflow_sub-len : goal.overflow_sub-len
overflow_sub-len c = let s = c.self.inside in let h = packed-holds s.documents s.bits s.starts c.self.invariant in omega (arith, h.some, c.len.ensures)

pub overflow_sub-len-2 : goal.overflow_sub-len-2
overflow_sub-len-2 c = let s = c.self.inside in let h = packed-holds s.documents s.bits s.starts c.self.invariant in omega (arith, h.long, c.len-2.ensures)

pub count_of-requires-clause-documents : goal.count_of-requires-clause-documents
count_of-requires-clause-documents c = omega (arith, c.requires.few)

pub count_of-requires-clause-terms : goal.count_of-requires-clause-terms
count_of-requires-clause-terms c =
    let s = c.self.inside in
    let h = packed-holds s.documents s.bits s.starts c.self.invariant in
    omega (arith, c.requires.room, ap (λ b. length b.directory) c.self.view_is, c.len.ensures, h.some)

pub count_of-requires-clause-bits : goal.count_of-requires-clause-bits
count_of-requires-clause-bits c =
    let s = c.self.inside in
    let h = packed-holds s.documents s.bits s.starts c.self.invariant in
    omega (arith, c.self.invariant.small, c.requires.room, ap (λ b. length b.directory) c.self.view_is, c.len.ensures, c.len-2.ensures, h.some, length-drop 128 s.bits)

pub returns : goal.returns
returns c cs of stands count =
    let s = c.self.inside in
    let k : ℕ = c.args.tail in
    let from : ℕ = length (drop 128 s.bits) + length s.starts in
    let places : List ℕ = s.starts ++ range_with_len from k in
    let some = (packed-holds s.documents s.bits s.starts c.self.invariant).some in
    let h = packed-empty s.documents s.bits s.starts k c.self.invariant (omega (arith, c.requires.room, ap (λ b. length b.directory) c.self.view_is)) in
    let at : StandsFor (packed_built c.self.inside.documents c.self.inside.bits places) cs = subst (λ b. StandsFor b cs) (ap (λ b. with_empty_lists b k) (sym c.self.view_is) ∙ sym h.is) stands in
    let lists : c.len.result - 1 + c.args.tail ≡ length places - 1 = omega (arith, c.len.ensures, some, length-append s.starts (range_with_len from k), length-range_with_len from k) in
    c.count_of.ensures ∙ packed-counted c.part_takes_its_payload.ensures.payload s.documents s.bits places cs of _ _ _ h.kept at count lists (omega (arith, c.len-2.ensures))
    ∙ ap (λ b. length (packed_words b.documents cs of)) c.self.view_is
