use Rattle.std.proofs.Common.{◌≡◌, refl, sym, subst, inl, inr}
use Rattle.index_file.specs.IndexView.{IndexView, index_stated, with_starts}
use Rattle.index_file.specs.ListStarts.{kept_starts}
use Rattle.pefidx_c.specs.Asked.{collection_in}
use Rattle.pefidx_c.specs.Heads.{heads_of}
use Rattle.pefidx_c.proofs.KeptLists.{tells}
use Rattle.pefidx_c.proofs.kept.index_of.Goals as goal

pub starts_in-requires : goal.starts_in-requires
starts_in-requires c =
    elim c.requires.kept [
      | inl none ↦ inl none
      | inr is ↦ inr (kept_starts c.args.words.now, heads_of (collection_in c.args.words.now).documents c.args.words.now (kept_starts c.args.words.now), tells c.args.words.now c.args.kept.now is)
    ]

pub with_starts-requires-clause-starts : goal.with_starts-requires-clause-starts
with_starts-requires-clause-starts c =
    elim c.requires.kept [
      | inl none ↦ inl (c.starts_in.ensures.none none)
      | inr is ↦ inr (c.starts_in.ensures.starts (kept_starts c.args.words.now) (heads_of (collection_in c.args.words.now).documents c.args.words.now (kept_starts c.args.words.now)) (tells c.args.words.now c.args.kept.now is))
    ]

pub returns-clause-stated : goal.returns-clause-stated
returns-clause-stated c =
    let stated = index_stated c.args.words.now in
    subst (λ (i : IndexView). i ≡ with_starts stated i.starts) (sym c.with_starts.ensures.kept) refl
