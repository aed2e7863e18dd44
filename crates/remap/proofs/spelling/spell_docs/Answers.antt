use Rattle.std.proofs.Common.{◌∙◌, ◌++◌, sym, ap, subst, ℕ, List, Vec}
use Rattle.std.specs.declared.alloc.Global.{Global}
use Rattle.remap.specs.Spelling.{AreShort, vectors_bytes}
use Rattle.remap.proofs.Applied.{shorts, docs-spelled}
use Rattle.remap.proofs.spelling.spell_docs.Goals as goal

pub push_sequences-requires : goal.push_sequences-requires
push_sequences-requires c =
    let s = c.collection.inside in
    subst (λ (l : List (Vec ℕ Global)). AreShort l) (sym c.as_slice.ensures.value) (shorts s.documents s.docs.items s.freqs.items s.sizes.items c.args.collection.now c.collection.invariant c.collection.view_is c.requires).0

pub returns : goal.returns
returns c =
    let s = c.collection.inside in
    docs-spelled s.documents s.docs.items s.freqs.items s.sizes.items c.args.collection.now c.new-bytes.result.items c.push_sequence.new.bytes.items c.push_sequences.new.bytes.items c.collection.invariant c.collection.view_is
    c.new-bytes.ensures.items c.in_ok-push_sequence.ensures (c.in_ok-push_sequences.ensures ∙ ap (λ (l : List (Vec ℕ Global)). c.push_sequence.new.bytes.items ++ vectors_bytes l) c.as_slice.ensures.value)
