use Rattle.std.proofs.Common.{◌≡◌, refl, sym, ap, subst, List, ℕ, [], Vec}
use Rattle.std.specs.declared.alloc.Global.{Global}
use Rattle.collection_model.specs.Spelling.{spelled}
use Rattle.remap.specs.Spelling.{AreShort, vectors_bytes}
use Rattle.remap.proofs.Applied.{shorts, freqs-spelled}
use Rattle.word_files.specs.Given.{Gives}
use Rattle.remapped_files.proofs.giving.give_freqs.Goals as goal

pub give_sequences-requires-clause-short : goal.give_sequences-requires-clause-short
give_sequences-requires-clause-short g c =
    let s = c.collection.inside in
    subst (λ (l : List (Vec ℕ Global)). AreShort l) (sym c.as_slice.ensures.value)
    (shorts s.documents s.docs.items s.freqs.items s.sizes.items c.args.collection.now
    c.collection.invariant c.collection.view_is c.requires.well_formed).1

pub returns : goal.returns
returns g c =
    let s = c.collection.inside in
    let bytes = vectors_bytes c.as_slice.result.now in
    let is : bytes ≡ (spelled c.args.collection.now).freqs =
    freqs-spelled s.documents s.docs.items s.freqs.items s.sizes.items c.args.collection.now []
    bytes c.collection.invariant c.collection.view_is refl
    (ap (λ (l : List (Vec ℕ Global)). vectors_bytes l) c.as_slice.ensures.value) in
    let P : List ℕ → Type 0 = λ bs. Gives bs c.args.writer.now c.give_sequences.new.writer
    (g.D.Depot.state c.args.depot.now) (g.D.Depot.state c.give_sequences.new.depot)
    c.give_sequences.result in
    subst P is c.give_sequences.ensures
