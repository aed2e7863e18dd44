-- Lemmas on the collection whose index a file is.
use Rattle.std.proofs.Common.{◌≡◌, ℕ, sym, ap, ◌∙◌, subst, List, [], ◌∷◌, map, length, arith}
use Rattle.std.specs.List.{All}
use Rattle.std.proofs.lemmas.List.{length-map}
use Rattle.std.proofs.lemmas.List.Elements.{All-head, All-tail, All-map}
use Rattle.collection_model.specs.FormatNumbers.{FormatNumbers, FileKind, Plain, Packed}
use Rattle.collection_model.specs.Collection.{IsPostingList}
use Rattle.part_cost.specs.Formats.{numbers_of}
use Rattle.index_file.specs.FileWords.{CutList, words_of_file, ArePartitions, FitsKind}
use Rattle.index_file.specs.Builder.{Built, StandsFor, IsNearCut, lists_added, lists_in, directory_of}
use Rattle.index_file.specs.Laws.{FilesSpellCollections}
use Rattle.index_file.proofs.CutLists.{with-parts-of}
use Rattle.index_file.proofs.NearStored.{docs-partition, freqs-partition}
use Rattle.index_file.proofs.Lengths.{directory-length}
use Rattle.index_file.proofs.OnePackedFile.{count-starts}

counted-in : (kind : FileKind) (format : FormatNumbers) (n : ℕ) (cs : List CutList) → lists_in kind (directory_of kind format n cs) ≡ length cs
counted-in Plain format n cs = omega (arith, directory-length format 2 cs)
counted-in Packed format n cs = omega (arith, count-starts n 0 0 cs)

pub lists-counted : (b : Built) (cs : List CutList) → StandsFor b cs → lists_added b ≡ length cs
lists-counted b cs stands = ap (λ d. lists_in (numbers_of b.format).kind d) stands.directory ∙ counted-in (numbers_of b.format).kind (numbers_of b.format) b.documents cs

partitions : (format : FormatNumbers) (cs : List CutList) → All (IsNearCut format) cs → ArePartitions (map (λ c. c.list) cs) (map (λ c. c.parts) cs)
partitions format [] near = tt
partitions format (c ∷ cs) near = let here = All-head (IsNearCut format) c cs near in (docs-partition format c here, freqs-partition format c here, partitions format cs (All-tail (IsNearCut format) c cs near))

plain-fits : (kind : FileKind) (n : ℕ) (cs : List CutList) → kind ≡ Plain → FitsKind kind n cs
plain-fits Plain n cs e = tt
plain-fits Packed n cs e = cc

pub files-spell : FilesSpellCollections
files-spell = record {
  partitions = λ b cs stands. partitions (numbers_of b.format) cs stands.near;
  plain_fits = plain-fits;
  words = λ format n cs sizes. ap (λ ds. words_of_file format n ds sizes) (sym (with-parts-of cs));
  spelled = λ b cs sizes stands fits small few each below. record {
    well_formed = record {
      documents = small;
      terms = omega (arith, length-map cs (λ c. c.list));
      lists = All-map (IsPostingList (numbers_of b.format) b.documents) (λ c. c.list) cs stands.lists;
      size_each = each;
      sizes = below;
    };
    partitions = partitions (numbers_of b.format) cs stands.near;
    fits = subst (FitsKind (numbers_of b.format).kind b.documents) (sym (with-parts-of cs)) fits;
    spelled = ap (λ ds. words_of_file (numbers_of b.format) b.documents ds sizes) (sym (with-parts-of cs));
  };
}
