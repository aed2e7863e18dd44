-- Lemmas on a builder over both kinds of file.
use Rattle.std.proofs.Common.{◌≡◌, ℕ, ◌+◌, ◌/◌, ◌≤◌, List, [], ◌∷◌, ◌++◌, length, inl, inr, refl, sym, ap, ◌∙◌, subst, arith, length-append, append_assoc, append-nil}
use Rattle.std.specs.Prelude.{◌⊎◌, Result, Ok, Err, OnOk, OnErr}
use Rattle.std.proofs.lemmas.List.Elements.{All-push}
use Rattle.collection_model.specs.FormatNumbers.{FormatNumbers, FileKind, Plain, Packed, format_three}
use Rattle.collection_model.specs.Collection.{postings_of, IsPostingList}
use Rattle.part_cost.specs.declared.formats.Format.{Format}
use Rattle.part_cost.specs.declared.formats.Format.TheVariants.{One, Two, Three}
use Rattle.part_cost.specs.Formats.{numbers_of}
use Rattle.index_file.specs.CutLists.{CutList}
use Rattle.index_file.specs.PlainWords.{plain_words}
use Rattle.index_file.specs.PackedWords.{bits_of_list, bits_of_lists, starts_from}
use Rattle.index_file.specs.FileWords.{words_of_kind, words_of_file}
use Rattle.index_file.specs.Builder.{Built, StandsFor, StandsForPlain, IsNearCut, AddsList, cut_list, with_list, with_plain_list, written_of, directory_of, added_of, entered_of, built_of, IsBuilder}
use Rattle.index_file.proofs.Added.{plain-stands-more}
use Rattle.index_file.proofs.Files.{file-count}
use Rattle.index_file.proofs.OnePackedFile.{count-starts}

kinds : (kind : FileKind) → (kind ≡ Plain) ⊎ (kind ≡ Packed)
kinds Plain = inl refl
kinds Packed = inr refl

-- what stands for lists in plain words
pub to-plain-lists : (b : Built) (cs : List CutList) → (numbers_of b.format).kind ≡ Plain → StandsFor b cs → StandsForPlain b cs
to-plain-lists b cs e h = record {
  words = h.words ∙ ap (λ k. written_of k (numbers_of b.format) b.documents cs) e;
  directory = h.directory ∙ ap (λ k. directory_of k (numbers_of b.format) b.documents cs) e;
  lists = h.lists;
  near = h.near;
}

pub of-plain-lists : (b : Built) (cs : List CutList) → (numbers_of b.format).kind ≡ Plain → StandsForPlain b cs → StandsFor b cs
of-plain-lists b cs e h = record {
  words = h.words ∙ ap (λ k. written_of k (numbers_of b.format) b.documents cs) (sym e);
  directory = h.directory ∙ ap (λ k. directory_of k (numbers_of b.format) b.documents cs) (sym e);
  lists = h.lists;
  near = h.near;
}

pub plain-with : (b : Built) (c : CutList) → (numbers_of b.format).kind ≡ Plain → with_list b c ≡ with_plain_list b c
plain-with b c e =
    ap (λ k. renewed b (added_of k (numbers_of b.format) b.documents b.words c) (entered_of (numbers_of b.format).kind (numbers_of b.format) b.documents b.words b.directory c)) e
    ∙ ap (λ k. renewed b (added_of Plain (numbers_of b.format) b.documents b.words c) (entered_of k (numbers_of b.format) b.documents b.words b.directory c)) e
  where
    renewed : Built → List ℕ → List ℕ → Built
    renewed b words directory = record { format = b.format; documents = b.documents; words = words; directory = directory }

-- the bits of lists, and the places, of one more
pub bits-more : (n at : ℕ) (cs : List CutList) (c : CutList) → bits_of_lists n at (cs ++ c ∷ []) ≡ bits_of_lists n at cs ++ bits_of_list n (at + length (bits_of_lists n at cs)) c
bits-more n at [] c =
    let e : at ≡ at + 0 = omega arith in
    append-nil (bits_of_list n at c) ∙ ap (λ i. bits_of_list n i c) e
bits-more n at (d ∷ cs) c =
    let l : List ℕ = bits_of_list n at d in
    let rest : List ℕ = bits_of_lists n (at + length l) cs in
    let place : at + length (bits_of_list n at d) + length (bits_of_lists n (at + length (bits_of_list n at d)) cs) ≡ at + length (bits_of_list n at d ++ bits_of_lists n (at + length (bits_of_list n at d)) cs) = omega (arith, length-append l rest) in
    ap (λ x. l ++ x) (bits-more n (at + length l) cs c ∙ ap (λ i. rest ++ bits_of_list n i c) place)
    ∙ sym (append_assoc l rest (bits_of_list n (at + length (l ++ rest)) c))

pub starts-more : (n t at : ℕ) (cs : List CutList) (c : CutList)
    → starts_from n t at (cs ++ c ∷ []) ≡ starts_from n t at cs ++ (at + length (bits_of_lists n at (cs ++ c ∷ [])) + (t + length cs + 1)) ∷ []
starts-more n t at [] c =
    let l : List ℕ = bits_of_list n at c in
    let e : at + length (bits_of_list n at c) + (t + 1) ≡ at + length (bits_of_list n at c ++ []) + (t + 0 + 1) = omega (arith, length-append l []) in
    ap (λ x. (at + t) ∷ x ∷ []) e
starts-more n t at (d ∷ cs) c =
    let l : List ℕ = bits_of_list n at d in
    let rest : List ℕ = bits_of_lists n (at + length l) (cs ++ c ∷ []) in
    let e : at + length (bits_of_list n at d) + length (bits_of_lists n (at + length (bits_of_list n at d)) (cs ++ c ∷ [])) + (t + 1 + length cs + 1)
    ≡ at + length (bits_of_list n at d ++ bits_of_lists n (at + length (bits_of_list n at d)) (cs ++ c ∷ [])) + (t + length (d ∷ cs) + 1) = omega (arith, length-append l rest) in
    ap (λ xs. (at + t) ∷ xs) (starts-more n (t + 1) (at + length l) cs c ∙ ap (λ x. starts_from n (t + 1) (at + length l) cs ++ x ∷ []) e)

packed-stands-more : (b : Built) (cs : List CutList) (c : CutList) → (numbers_of b.format).kind ≡ Packed → StandsFor b cs → IsPostingList (numbers_of b.format) b.documents c.list → IsNearCut (numbers_of b.format) c
    → StandsFor (with_list b c) (cs ++ c ∷ [])
packed-stands-more b cs c e h list near =
    let n : ℕ = b.documents in
    let f : FormatNumbers = numbers_of b.format in
    let words : b.words ≡ bits_of_lists b.documents 0 cs = h.words ∙ ap (λ k. written_of k f n cs) e in
    let directory : b.directory ≡ starts_from b.documents 0 0 cs = h.directory ∙ ap (λ k. directory_of k f n cs) e in
    let bits : b.words ++ bits_of_list b.documents (length b.words) c ≡ bits_of_lists b.documents 0 (cs ++ c ∷ []) =
    ap (λ ws. ws ++ bits_of_list n (length ws) c) words ∙ ap (λ i. bits_of_lists n 0 cs ++ bits_of_list n i c) (let z : length (bits_of_lists b.documents 0 cs) ≡ 0 + length (bits_of_lists b.documents 0 cs) = omega arith in z)
    ∙ sym (bits-more n 0 cs c) in
    let next : length b.words + length (bits_of_list b.documents (length b.words) c) + length b.directory ≡ 0 + length (bits_of_lists b.documents 0 (cs ++ c ∷ [])) + (0 + length cs + 1) =
    omega (arith, ap length bits, length-append b.words (bits_of_list n (length b.words) c), ap length directory, count-starts n 0 0 cs) in
    record {
      words = ap (λ k. added_of k f n b.words c) e ∙ bits ∙ ap (λ k. written_of k f n (cs ++ c ∷ [])) (sym e);
      directory = ap (λ k. entered_of k f n b.words b.directory c) e ∙ ap (λ x. b.directory ++ x ∷ []) next ∙ ap (λ d. d ++ (0 + length (bits_of_lists n 0 (cs ++ c ∷ [])) + (0 + length cs + 1)) ∷ []) directory
          ∙ sym (starts-more n 0 0 cs c) ∙ ap (λ k. directory_of k f n (cs ++ c ∷ [])) (sym e);
      lists = All-push (λ d. IsPostingList f n d.list) cs c h.lists list;
      near = All-push (IsNearCut f) cs c h.near near;
    }

pub stands-more : (b : Built) (cs : List CutList) (c : CutList) → StandsFor b cs → IsPostingList (numbers_of b.format) b.documents c.list → IsNearCut (numbers_of b.format) c → StandsFor (with_list b c) (cs ++ c ∷ [])
stands-more b cs c h list near =
    elim (kinds (numbers_of b.format).kind) [
      | inl e ↦ of-plain-lists (with_list b c) (cs ++ c ∷ []) e (subst (λ x. StandsForPlain x (cs ++ c ∷ [])) (sym (plain-with b c e)) (plain-stands-more b cs c (to-plain-lists b cs e h) list near))
      | inr e ↦ packed-stands-more b cs c e h list near
    ]

-- a list that is added in near-cheapest parts that were counted
pub adds-list : (old new : Built) (docs freqs doc_ends freq_ends : List ℕ) (before after : ℕ) → IsPostingList (numbers_of old.format) old.documents (postings_of docs freqs) → IsNearCut (numbers_of old.format) (cut_list docs freqs doc_ends freq_ends)
    → before + length doc_ends + length freq_ends ≤ after → new ≡ with_list old (cut_list docs freqs doc_ends freq_ends) → AddsList old new (postings_of docs freqs) before after
adds-list old new docs freqs doc_ends freq_ends before after list near counted is =
    let c : CutList = cut_list docs freqs doc_ends freq_ends in
    subst (λ b. AddsList old b (postings_of docs freqs) before after) (sym is) (refl, refl, λ cs stands. (c.parts, stands-more old cs c stands list near, counted))

-- the words of a plain file
pub plain-file : (format : FormatNumbers) → format.kind ≡ Plain → (n : ℕ) (cs : List CutList) (sizes : List ℕ) → words_of_file format n cs sizes ≡ plain_words format n cs sizes
plain-file format e n cs sizes = ap (λ k. words_of_kind k format n cs sizes) e

-- a list that one half of a builder takes
pub plain-takes : (f : Format) → (numbers_of f).kind ≡ Plain → (p q r : Built) (c : CutList) → p.format ≡ f → r ≡ with_plain_list p c → built_of f r q ≡ with_list (built_of f p q) c
plain-takes One e p q r c is same = ap (λ x. built_of One x q) same ∙ ap (λ x. built_of One (with_plain_list (record { format = x; documents = p.documents; words = p.words; directory = p.directory }) c) q) is
plain-takes Two e p q r c is same = ap (λ x. built_of Two x q) same ∙ ap (λ x. built_of Two (with_plain_list (record { format = x; documents = p.documents; words = p.words; directory = p.directory }) c) q) is
plain-takes Three e p q r c is same = cc

pub packed-takes : (p q r : Built) (c : CutList) → q.format ≡ Three → q.documents ≡ p.documents → r ≡ with_list q c → built_of Three p r ≡ with_list (built_of Three p q) c
packed-takes p q r c is many same =
    ap (λ x. built_of Three p x) same
    ∙ ap (λ x. built_of Three p (with_list (record { format = x; documents = q.documents; words = q.words; directory = q.directory }) c)) is
    ∙ ap (λ n. built_of Three p (with_list (record { format = Three; documents = n; words = q.words; directory = q.directory }) c)) many

-- what the halves stand for, and what a builder does
pub halves-stand : (f : Format) (p q : Built) (cs : List CutList) → p.format ≡ f → q.format ≡ Three → q.documents ≡ p.documents → StandsForPlain p cs → StandsFor q cs → StandsFor (built_of f p q) cs
halves-stand One p q cs is packed many hp hq =
    of-plain-lists (built_of One p q) cs refl (subst (λ x. StandsForPlain (record { format = x; documents = p.documents; words = p.words; directory = p.directory }) cs) is hp)
halves-stand Two p q cs is packed many hp hq =
    of-plain-lists (built_of Two p q) cs refl (subst (λ x. StandsForPlain (record { format = x; documents = p.documents; words = p.words; directory = p.directory }) cs) is hp)
halves-stand Three p q cs is packed many hp hq =
    subst (λ n. StandsFor (record { format = Three; documents = n; words = q.words; directory = q.directory }) cs) many
    (subst (λ x. StandsFor (record { format = x; documents = q.documents; words = q.words; directory = q.directory }) cs) packed hq)

pub plain-half : (f : Format) (p q : Built) (cs : List CutList) → (numbers_of f).kind ≡ Plain → p.format ≡ f → StandsFor (built_of f p q) cs → StandsForPlain p cs
plain-half One p q cs e is h =
    subst (λ x. StandsForPlain (record { format = x; documents = p.documents; words = p.words; directory = p.directory }) cs) (sym is) (to-plain-lists (built_of One p q) cs refl h)
plain-half Two p q cs e is h =
    subst (λ x. StandsForPlain (record { format = x; documents = p.documents; words = p.words; directory = p.directory }) cs) (sym is) (to-plain-lists (built_of Two p q) cs refl h)
plain-half Three p q cs e is h = cc

pub packed-half : (p q : Built) (cs : List CutList) → q.format ≡ Three → q.documents ≡ p.documents → StandsFor (built_of Three p q) cs → StandsFor q cs
packed-half p q cs is many h =
    subst (λ x. StandsFor (record { format = x; documents = q.documents; words = q.words; directory = q.directory }) cs) (sym is)
    (subst (λ n. StandsFor (record { format = Three; documents = n; words = q.words; directory = q.directory }) cs) (sym many) h)

-- what holds of a result in either way
pub either-way : {T E P Q : Type 0} (r : Result T E) → OnOk r P → OnErr r Q → P ⊎ Q
either-way (Ok v) p q = inl p
either-way (Err e) p q = inr q

pub on-refused : {T E : Type 0} (r : Result T E) (e : E) (P : Type 0) → r ≡ Err e → P → OnErr r P
on-refused r e P is p = subst (λ x. OnErr x P) (sym is) p

-- a builder of whose halves one took a list, or none
pub plain-builder-after : (f : Format) (p q r : Built) (c : CutList) → (numbers_of f).kind ≡ Plain → IsBuilder f p q → IsPostingList (numbers_of f) p.documents c.list → IsNearCut (numbers_of f) c
    → (r ≡ with_plain_list p c) ⊎ (r ≡ p) → IsBuilder f r q
plain-builder-after f p q r c e h list near is =
    elim is [
      | inl more ↦ subst (λ x. IsBuilder f x q) (sym more) (record {
        documents = h.documents;
        plain_format = h.plain_format;
        packed_format = h.packed_format;
        same_documents = h.same_documents;
        stands = (h.stands.0 ++ c ∷ [], subst (λ b. StandsFor b (h.stands.0 ++ c ∷ [])) (sym (plain-takes f e p q (with_plain_list p c) c h.plain_format refl)) (stands-more (built_of f p q) h.stands.0 c h.stands.1 list near));
      })
      | inr same ↦ subst (λ x. IsBuilder f x q) (sym same) h
    ]

pub packed-builder-after : (p q r : Built) (c : CutList) → IsBuilder Three p q → IsPostingList format_three p.documents c.list → IsNearCut format_three c → (r ≡ with_list q c) ⊎ (r ≡ q) → IsBuilder Three p r
packed-builder-after p q r c h good near is =
    elim is [
      | inl more ↦
          subst (λ x. IsBuilder Three p x) (sym more) (record {
            documents = h.documents;
            plain_format = h.plain_format;
            packed_format = h.packed_format;
            same_documents = h.same_documents;
            stands = (h.stands.0 ++ c ∷ [], subst (λ b. StandsFor b (h.stands.0 ++ c ∷ [])) (sym (packed-takes p q (with_list q c) c h.packed_format h.same_documents refl)) (stands-more (built_of Three p q) h.stands.0 c h.stands.1 good near));
          })
      | inr same ↦ subst (λ x. IsBuilder Three p x) (sym same) h
    ]

-- the words of a half are those of the file
pub plain-written : (f : Format) (p : Built) (cs : List CutList) (sizes : List ℕ) → (numbers_of f).kind ≡ Plain → p.format ≡ f → plain_words (numbers_of p.format) p.documents cs sizes ≡ words_of_file (numbers_of f) p.documents cs sizes
plain-written f p cs sizes e is = ap (λ v. plain_words (numbers_of v) p.documents cs sizes) is ∙ sym (plain-file (numbers_of f) e p.documents cs sizes)

pub plain-counted : (f : Format) (p q : Built) (cs : List CutList) (sizes : List ℕ) → (numbers_of f).kind ≡ Plain → p.format ≡ f → StandsFor (built_of f p q) cs
    → 2 + length p.words + (length sizes + 1) / 2 + length p.directory + 4 ≡ length (words_of_file (numbers_of f) p.documents cs sizes)
plain-counted f p q cs sizes e is h = sym (file-count p sizes cs (plain-half f p q cs e is h)) ∙ ap length (plain-written f p cs sizes e is)
