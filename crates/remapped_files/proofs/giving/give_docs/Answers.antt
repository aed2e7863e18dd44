use Rattle.std.proofs.Common.{◌≡◌, refl, sym, ap, subst, List, ℕ, [], ◌∷◌, ◌++◌, Vec}
use Rattle.std.specs.declared.alloc.Global.{Global}
use Rattle.std.proofs.lemmas.Result.{err_from_is_err_and}
use Rattle.collection_model.specs.Bytes.{number_sequence}
use Rattle.collection_model.specs.Spelling.{spelled}
use Rattle.remap.specs.Spelling.{AreShort, vectors_bytes}
use Rattle.remap.proofs.Applied.{shorts, docs-spelled}
use Rattle.word_files.proofs.Given.{given-both}
use Rattle.word_files.proofs.PlaceByPlace.{front-refused}
use Rattle.remapped_files.proofs.giving.give_docs.Goals as goal

pub give_sequences-requires-clause-short : goal.give_sequences-requires-clause-short
give_sequences-requires-clause-short g c =
    let s = c.collection.inside in
    subst (λ (l : List (Vec ℕ Global)). AreShort l) (sym c.as_slice.ensures.value)
    (shorts s.documents s.docs.items s.freqs.items s.sizes.items c.args.collection.now
    c.collection.invariant c.collection.view_is c.requires.well_formed).0

pub returns-in_err-give_sequence : goal.returns-in_err-give_sequence
returns-in_err-give_sequence g c =
    let s = c.collection.inside in
    let p = err_from_is_err_and c.from_residual.result c.from_residual.ensures.1 in
    let head = number_sequence (s.documents ∷ []) in
    let rest = vectors_bytes s.docs.items in
    let is : head ++ rest ≡ (spelled c.args.collection.now).docs =
    docs-spelled s.documents s.docs.items s.freqs.items s.sizes.items c.args.collection.now [] head
    (head ++ rest) c.collection.invariant c.collection.view_is refl refl refl in
    rw (p.1, p.2) (front-refused (spelled c.args.collection.now).docs head rest c.args.writer.now
    [] [] _ _ _ (sym is) c.in_err-give_sequence.ensures)

pub returns : goal.returns
returns g c =
    let s = c.collection.inside in
    let head = number_sequence (s.documents ∷ []) in
    let rest = vectors_bytes c.as_slice.result.now in
    let is : head ++ rest ≡ (spelled c.args.collection.now).docs =
    docs-spelled s.documents s.docs.items s.freqs.items s.sizes.items c.args.collection.now [] head
    (head ++ rest) c.collection.invariant c.collection.view_is refl refl
    (ap (λ (l : List (Vec ℕ Global)). head ++ vectors_bytes l) c.as_slice.ensures.value) in
    given-both (spelled c.args.collection.now).docs head rest c.args.writer.now _ _ _ _ _
    c.give_sequences.result (sym is) c.in_ok-give_sequence.ensures c.give_sequences.ensures
