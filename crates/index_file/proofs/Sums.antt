-- Lemmas on sums over an index.
use Rattle.std.proofs.Common.{◌≡◌, ℕ, ◌+◌, List, [], ◌∷◌, length, refl, sym, ap, ◌∙◌, arith}
use Rattle.std.specs.Prelude.{sum_by}
use Rattle.std.specs.List.{range_with_len, sum}
use Rattle.std.proofs.lemmas.List.FromFn.{sum_by-map-range_with_len_more}
use Rattle.std.proofs.lemmas.List.Sums.{sum-map, sum_by-cons}
use Rattle.collection_model.specs.FormatNumbers.{FormatNumbers}
use Rattle.collection_model.specs.Collection.{Posting, Collection}
use Rattle.part_cost.specs.Formats.{HasRoom}
use Rattle.index_file.specs.FileWords.{CutList, ListParts, with_parts, SpellsPlain}
use Rattle.index_file.specs.FirstBroken.{stated_documents, stated_terms, stated_length}
use Rattle.index_file.specs.IndexView.{size_stated}
use Rattle.index_file.specs.ListAt.{HasFrame, StandFrom, word_after}
use Rattle.index_file.proofs.Standing.{counts}
use Rattle.index_file.proofs.Prefixes.{stand-from, prefix-pieces}
use Rattle.index_file.proofs.CutLists.{lists_in}
use Rattle.index_file.proofs.StatedIndex.{opened, sizes-are}

-- one more number
pub sum-next : (f : ℕ → ℕ) (n : ℕ) → sum_by f (range_with_len 0 (n + 1)) ≡ sum_by f (range_with_len 0 n) + f n
sum-next f n =
    sym (sum-map f (range_with_len 0 (n + 1))) ∙ sum_by-map-range_with_len_more (λ x. x) f 0 n n (omega arith) ∙ ap (λ s. s + f n) (sum-map f (range_with_len 0 n))

lengths-sum : (format : FormatNumbers) (room : HasRoom format) (words : List ℕ) (t p : ℕ) (cs : List CutList) → HasFrame format words → StandFrom format words t p cs
    → sum_by (stated_length words) (range_with_len t (length cs)) ≡ sum_by (length {A = Posting}) (lists_in cs)
lengths-sum format room words t p [] frame h = refl
lengths-sum format room words t p (c ∷ cs) frame h =
    sum_by-cons (stated_length words) t (range_with_len (t + 1) (length cs))
    ∙ ap (λ n. n + sum_by (stated_length words) (range_with_len (t + 1) (length cs))) (sym (counts format room words t p c frame h.0).len)
    ∙ ap (λ n. length c.list + n) (lengths-sum format room words (t + 1) (word_after format p c) cs frame h.1) ∙ sym (sum_by-cons (length {A = Posting}) c.list (lists_in cs))

pub postings-are : (format : FormatNumbers) (room : HasRoom format) (words : List ℕ) (c : Collection) (parts : List ListParts) → SpellsPlain format words c parts
    → sum_by (stated_length words) (range_with_len 0 (stated_terms words)) ≡ sum_by (length {A = Posting}) c.lists
postings-are format room words c parts h =
    let o = opened format words c parts h in
    let cs : List CutList = with_parts c.lists parts in
    ap (λ n. sum_by (stated_length words) (range_with_len 0 n)) o.laid.terms
    ∙ lengths-sum format room words 0 2 cs o.laid.frame (stand-from format words 0 2 cs (prefix-pieces format words cs o.prefix)) ∙ ap (sum_by (length {A = Posting})) o.lists

pub sizes-sum : (format : FormatNumbers) (words : List ℕ) (c : Collection) (parts : List ListParts) → SpellsPlain format words c parts → sum_by (size_stated words) (range_with_len 0 (stated_documents words)) ≡ sum c.sizes
sizes-sum format words c parts h = sym (sum-map (size_stated words) (range_with_len 0 (stated_documents words))) ∙ ap sum (sizes-are format words c parts h)
