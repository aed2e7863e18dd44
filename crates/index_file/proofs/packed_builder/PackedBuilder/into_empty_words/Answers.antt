use Rattle.std.proofs.Common.{rules, ◌≡◌, ◌∙◌, ℕ, ◌+◌, ◌-◌, ◌++◌, ◌∷◌, List, [], length, length-append, length-drop, append-nil, drop, sym, ap, subst, arith}
use Rattle.std.specs.List.{range_with_len}
use Rattle.std.proofs.lemmas.List.FromFn.{length-range_with_len}
use Rattle.bit_words.specs.Bits.{words_of}
use Rattle.index_file.specs.PlainWords.{sizes_words}
use Rattle.index_file.specs.PackedWords.{packed_end, packed_words}
use Rattle.index_file.specs.Builder.{StandsFor, packed_built, with_empty_lists}
use Rattle.index_file.proofs.PackedBuilt.{packed-holds, packed-file}
use Rattle.index_file.proofs.EmptyLists.{packed-empty, no-directory}
use Rattle.index_file.proofs.packed_builder.PackedBuilder.into_empty_words.Goals as goal

pub overflow_sub-lists : goal.overflow_sub-lists
overflow_sub-lists c = let s = c.self.inside in omega (arith, (packed-holds s.documents s.bits s.starts c.self.invariant).some, c.len.ensures)

pub returns : goal.returns
returns c cs stands =
    let s = c.self.inside in
    let sizes = c.args.sizes.now in
    let k : ℕ = c.args.tail in
    let from : ℕ = length (drop 128 s.bits) + length s.starts in
    let places : List ℕ = s.starts ++ range_with_len from k in
    let h = packed-empty s.documents s.bits s.starts k c.self.invariant (omega (arith, c.requires.room, ap (λ b. length b.directory) c.self.view_is)) in
    let at : StandsFor (packed_built c.self.inside.documents c.self.inside.bits places) cs = subst (λ b. StandsFor b cs) (ap (λ b. with_empty_lists b k) (sym c.self.view_is) ∙ sym h.is) stands in
    let written : c.extend_from_slice.new.self.items ≡ c.into_words-words.result.items ++ sizes_words c.args.sizes.now ++ (c.self.inside.documents ∷ (c.len.result - 1 + c.args.tail) ∷ 0 ∷ packed_end ∷ []) = search rules in
    let some = (packed-holds s.documents s.bits s.starts c.self.invariant).some in
    let count : length places ≡ length s.starts + k = omega (arith, length-append s.starts (range_with_len from k), length-range_with_len from k) in
    let lists : c.len.result - 1 + c.args.tail ≡ length places - 1 = omega (arith, c.len.ensures, count, some) in
    let none : 0 ≡ length s.bits - 128 = omega (arith, ap length c.requires.empty, ap (λ b. length b.words) c.self.view_is, length-drop 128 s.bits) in
    let all : length places ≡ 0 + (c.len.result - 1 + c.args.tail) + 1 = omega (arith, lists, count, some) in
    let end : List ℕ = s.documents ∷ (c.len.result - 1 + c.args.tail) ∷ 0 ∷ packed_end ∷ [] in
    written ∙ ap (λ l. l ++ end) (sym (append-nil (c.into_words-words.result.items ++ sizes_words sizes)))
    ∙ packed-file c.part_takes_its_payload.ensures.bits s.documents (c.len.result - 1 + c.args.tail) 0 s.bits places c.into_words-words.result.items [] sizes cs c.self.invariant.opening at
    c.into_words-words.ensures (ap words_of (sym (no-directory places (0 + (c.len.result - 1 + c.args.tail) + 1) all))) lists none
    ∙ ap (λ b. packed_words b.documents cs sizes) c.self.view_is
