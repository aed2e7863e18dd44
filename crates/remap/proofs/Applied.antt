-- Lemmas on a collection whose vectors are held: what its lists and sizes are, its image, and its bytes.
use Rattle.std.proofs.Common.{◌≡◌, refl, sym, ap, ◌∙◌, subst, ℕ, ◌<◌, ◌^◌, List, [], ◌∷◌, ◌++◌, length, get_or, Vec, arith}
use Rattle.std.specs.List.{All}
use Rattle.std.specs.declared.alloc.Global.{Global}
use Rattle.collection_model.specs.Bytes.{number_sequence}
use Rattle.collection_model.specs.FormatNumbers.{format_two}
use Rattle.collection_model.specs.Collection.{Posting, Collection, WellFormed, IsPostingList}
use Rattle.collection_model.specs.Spelling.{spelled}
use Rattle.collection_reader.specs.Held.{lists_held, AreAligned}
use Rattle.remap.specs.Image.{IsImage, AreImageLists}
use Rattle.remap.specs.Spelling.{AreShort, vectors_bytes}
use Rattle.remap.specs.Vectors.{AreSame}
use Rattle.remap.proofs.Vectors.{held-copied, short-docs, short-freqs, docs-bytes_held, freqs-bytes_held}

pub lists-over : (ids : List ℕ) (held c : Collection) → held ≡ c → WellFormed format_two c → length ids ≡ c.documents → All (IsPostingList format_two (length ids)) held.lists
lists-over ids held c is good each =
    let w : WellFormed format_two held = subst (WellFormed format_two) (sym is) good in
    subst (λ (n : ℕ). All (IsPostingList format_two n) held.lists) (ap (λ (c : Collection). c.documents) is ∙ sym each) w.lists

pub sizes-each : (ids : List ℕ) (held c : Collection) → held ≡ c → WellFormed format_two c → length ids ≡ c.documents → length ids ≡ length held.sizes
sizes-each ids held c is good each = each ∙ sym good.size_each ∙ ap (λ (c : Collection). length c.sizes) (sym is)

pub applied : (ids : List ℕ) (held c : Collection) (images : List (List Posting)) (sizes : List ℕ) → held ≡ c → AreImageLists ids held.lists images → length sizes ≡ length held.sizes
    → ((d : ℕ) → d < length held.sizes → get_or sizes (get_or ids d 0) 0 ≡ get_or held.sizes d 0) → IsImage ids c (record { documents = held.documents; lists = images; sizes = sizes })
applied ids held c images sizes is are count moved =
    let image : Collection = record { documents = held.documents; lists = images; sizes = sizes } in
    let whole : IsImage ids held image = record {
      documents = refl;
      terms = are.count;
      lists = are.each;
      size_each = count;
      sizes = moved;
    } in
    subst (λ (c : Collection). IsImage ids c image) is whole

-- the same vectors hold the same collection
pub copied : (n : ℕ) (docs freqs docs' freqs' : List (Vec ℕ Global)) (sizes sizes' : List ℕ)
    (c : Collection) → AreSame docs' docs → AreSame freqs' freqs → sizes' ≡ sizes
    → record { documents = n; lists = lists_held docs freqs; sizes = sizes } ≡ c
    → record { documents = n; lists = lists_held docs' freqs'; sizes = sizes' } ≡ c
copied n docs freqs docs' freqs' sizes sizes' c same_docs same_freqs same_sizes is =
    let lists = held-copied docs freqs docs' freqs' same_docs same_freqs in
    let same : record { documents = n; lists = lists_held docs' freqs'; sizes = sizes' }
    ≡ record { documents = n; lists = lists_held docs freqs; sizes = sizes } =
    λ i. record { documents = n; lists = lists i; sizes = same_sizes i } in
    same ∙ is

-- the vectors of a well-formed collection are short
pub shorts : (n : ℕ) (docs freqs : List (Vec ℕ Global)) (sizes : List ℕ) (c : Collection) → AreAligned docs freqs → record { documents = n; lists = lists_held docs freqs; sizes = sizes } ≡ c → WellFormed format_two c → AreShort docs × AreShort freqs
shorts n docs freqs sizes c aligned is good =
    let w : WellFormed format_two (record { documents = n; lists = lists_held docs freqs; sizes = sizes }) = subst (WellFormed format_two) (sym is) good in
    let most = w.documents in
    let short = short-docs format_two n docs freqs (omega arith) aligned w.lists in
    (short, short-freqs docs freqs aligned short)

pub sizes-short : (n : ℕ) (lists : List (List Posting)) (sizes : List ℕ) (c : Collection) → record { documents = n; lists = lists; sizes = sizes } ≡ c → WellFormed format_two c → length sizes < 2 ^ 32
sizes-short n lists sizes c is good =
    let w : WellFormed format_two (record { documents = n; lists = lists; sizes = sizes }) = subst (WellFormed format_two) (sym is) good in
    let most = w.documents in
    let each = w.size_each in
    omega arith

-- what is spelled
pub docs-spelled : (n : ℕ) (docs freqs : List (Vec ℕ Global)) (sizes : List ℕ) (c : Collection) (a b bytes : List ℕ) → AreAligned docs freqs → record { documents = n; lists = lists_held docs freqs; sizes = sizes } ≡ c
    → a ≡ [] → b ≡ a ++ number_sequence (n ∷ []) → bytes ≡ b ++ vectors_bytes docs → bytes ≡ (spelled c).docs
docs-spelled n docs freqs sizes c a b bytes aligned is empty head lists =
    lists ∙ (λ i. (head ∙ ap (λ (x : List ℕ). x ++ number_sequence (n ∷ [])) empty) i ++ docs-bytes_held docs freqs aligned i) ∙ ap (λ (c : Collection). (spelled c).docs) is

pub freqs-spelled : (n : ℕ) (docs freqs : List (Vec ℕ Global)) (sizes : List ℕ) (c : Collection) (a bytes : List ℕ) → AreAligned docs freqs → record { documents = n; lists = lists_held docs freqs; sizes = sizes } ≡ c
    → a ≡ [] → bytes ≡ a ++ vectors_bytes freqs → bytes ≡ (spelled c).freqs
freqs-spelled n docs freqs sizes c a bytes aligned is empty lists =
    lists ∙ (λ i. empty i ++ freqs-bytes_held docs freqs aligned i) ∙ ap (λ (c : Collection). (spelled c).freqs) is

pub sizes-spelled : (n : ℕ) (lists : List (List Posting)) (sizes : List ℕ) (c : Collection) (a bytes : List ℕ) → record { documents = n; lists = lists; sizes = sizes } ≡ c → a ≡ [] → bytes ≡ a ++ number_sequence sizes → bytes ≡ (spelled c).sizes
sizes-spelled n lists sizes c a bytes is empty numbers = numbers ∙ ap (λ (x : List ℕ). x ++ number_sequence sizes) empty ∙ ap (λ (c : Collection). (spelled c).sizes) is
