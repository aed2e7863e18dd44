use Rattle.std.proofs.Common.{refl}
use Rattle.lent_files.specs.LentFiles.{lent_state}
use Rattle.pefidx_c.specs.PackedCollections.{files_given}
use Rattle.pefidx_c.proofs.LentCollections.{are-lent, packs}
use Rattle.pefidx_c.proofs.packing.packed_counted.Goals as goal

pub returns : goal.returns
returns g c =
    let files = files_given c.args.docs.now c.args.freqs.now c.args.sizes.now in
    let new = c.new-depot.ensures in
    packs _ files (lent_state c.new-depot.result) (lent_state c.build_words.new.depot) _ _ _ new.tells (are-lent files _ _ new refl refl refl)
    (λ _. refl) (λ _. refl) c.build_words.ensures
