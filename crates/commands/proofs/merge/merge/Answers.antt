use Rattle.std.proofs.Common.{refl, subst, inl, inr, arith, Err}
use Rattle.commands.proofs.Names.{File, G3, Index, IndexesAt, MakesIndex, NoMemory, Three, TooLarge, UnfitSegment, Wide, collections_of, handed_on, joined_wide, only_read, stops, texts}
use Rattle.commands.proofs.SegmentsMerged.{joined_formed, joined_found}
use Rattle.commands.proofs.WordsMade.{rewrite_ended, rewrite_unmade}
use Rattle.collection_model.specs.FormatNumbers.{format_three}
use Rattle.collection_model.specs.Collection.{WellFormed}
use Rattle.segments.specs.Totals.{AreTooFrequent, SumsFit}
use Rattle.commands.proofs.merge.merge.Goals as goal

-- an index was not read
pub returns-in_err-opened : goal.returns-in_err-opened
returns-in_err-opened g c = λ i o e e'.
    let names = texts c.args.indexes.now in
    let w = c.in_err-opened.ensures.refused in
    stops (IndexesAt Wide names) (File Index) (MakesIndex (IndexesAt Wide names) Three c.args.to.now) _ _ refl refl c.in_err-opened.field-0.0 c.from_residual.result
    (handed_on c.from_residual.result c.from_residual.ensures.1) w (inl (only_read _ _ w.still.reads))
    (λ other does. record { does = does; opens = λ is. absurd (other is); unaccepted = λ denied. refl; refused = λ h. inl refl })

-- memory was refused for the segments
pub returns-in_err-joined : goal.returns-in_err-joined
returns-in_err-joined g c = λ i o e e'.
    let names = texts c.args.indexes.now in
    let w = c.in_ok-opened.ensures.loaded.unread (Err NoMemory) (inr refl) refl (omega arith) in
    stops (IndexesAt Wide names) (File Index) (MakesIndex (IndexesAt Wide names) Three c.args.to.now) _ _ refl refl NoMemory c.from_residual-in_err-joined.result
    (handed_on c.from_residual-in_err-joined.result c.from_residual-in_err-joined.ensures.1) w (inl (only_read _ _ w.still.reads))
    (λ other does. record { does = does; opens = λ is. absurd (other is); unaccepted = λ denied. refl; refused = λ h. inl refl })

-- a joined list is too frequent
pub returns-in-Some : goal.returns-in-Some
returns-in-Some g c = λ i o e e'.
    let names = texts c.args.indexes.now in
    let all = c.in_ok-opened.ensures.loaded in
    let cs = collections_of c.in_ok-opened.opened.items in
    let same = rw c.deref.ensures.value at c.in_ok-joined.ensures.joined in
    let frequent : AreTooFrequent cs c.in-Some.segment = subst (λ ds. AreTooFrequent ds c.in-Some.segment) same (c.too_frequent.ensures.some c.in-Some.segment c.in-Some.is) in
    let w = all.unread (Err (UnfitSegment G3 c.in-Some.segment)) (inl (cs, all.found, frequent)) refl refl in
    stops (IndexesAt Wide names) (File Index) (MakesIndex (IndexesAt Wide names) Three c.args.to.now) _ _ refl refl (UnfitSegment G3 c.in-Some.segment) _ refl w (inl (only_read _ _ w.still.reads))
    (λ other does. record { does = does; opens = λ is. absurd (other is); unaccepted = λ denied. refl; refused = λ h. inl refl })

pub collected_words-requires : goal.collected_words-requires
collected_words-requires g c =
    let all = c.in_ok-opened.ensures.loaded in
    let cs = collections_of c.in_ok-opened.opened.items in
    let same = rw c.deref.ensures.value at c.in_ok-joined.ensures.joined in
    let sums : SumsFit cs = subst SumsFit same (c.too_frequent.ensures.none c.in_default.is) in
    let formed : WellFormed format_three (joined_wide cs) = joined_formed (texts c.args.indexes.now) _ cs all.found c.joined_is_well_formed.ensures sums in
    rw (rw c.deref.ensures.value at c.in_ok-joined.ensures.collection) formed

-- words were not made of the joined collection
pub returns-in_err-merged : goal.returns-in_err-merged
returns-in_err-merged g c = λ i o e e'.
    let names = texts c.args.indexes.now in
    let all = c.in_ok-opened.ensures.loaded in
    let cs = collections_of c.in_ok-opened.opened.items in
    let same = rw c.deref.ensures.value at c.in_ok-joined.ensures.joined in
    let sums : SumsFit cs = subst SumsFit same (c.too_frequent.ensures.none c.in_default.is) in
    let of_them = rw c.deref.ensures.value at c.in_ok-joined.ensures.collection in
    rewrite_unmade (IndexesAt Wide names) Three c.args.to.now (joined_wide cs) (joined_found names _ cs all.found sums) (all.read (joined_wide cs) (sums, refl)) i o e e' _ _
    (all.starts (Err (TooLarge Index)) (inr (refl, refl))) c.collected_words.result c.from_residual-in_err-merged.result
    (λ n h. rw of_them at (c.collected_words.ensures.too_large n h)) c.in_err-merged.was c.from_residual-in_err-merged.ensures.1

-- they were made, and written or not
pub returns : goal.returns
returns g c = λ i o e e'.
    let names = texts c.args.indexes.now in
    let all = c.in_ok-opened.ensures.loaded in
    let cs = collections_of c.in_ok-opened.opened.items in
    let same = rw c.deref.ensures.value at c.in_ok-joined.ensures.joined in
    let sums : SumsFit cs = subst SumsFit same (c.too_frequent.ensures.none c.in_default.is) in
    let of_them = rw c.deref.ensures.value at c.in_ok-joined.ensures.collection in
    rewrite_ended (IndexesAt Wide names) Three c.args.to.now (joined_wide cs) (joined_found names _ cs all.found sums) (all.read (joined_wide cs) (sums, refl)) i o e e' _ _
    c.in_ok-merged.merged.items c.write_words-written.result c.after_writing.result (rw of_them at c.in_ok-merged.ensures.words)
    (rw c.deref-2.ensures.value at c.words_fit.ensures) (rw c.deref-3.ensures.value at c.write_words-written.ensures) c.after_writing.ensures
