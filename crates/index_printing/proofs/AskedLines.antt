-- The text of a generated collection: the replies to what it is asked.
use Rattle.std.proofs.Common.{◌≡◌, refl, sym, ap, ◌∙◌, subst, ℕ, ◌+◌, ◌<◌, List, [], ◌∷◌, ◌++◌, length, append-nil, append_assoc, arith}
use Rattle.std.specs.Prelude.{◌==◌, if◌then◌else◌, replicate, string_bytes, String, Result, Ok, Err, IfOk}
use Rattle.std.specs.declared.alloc.Global.{Global}
use Rattle.std.proofs.lemmas.List.{replicate_more}
use Rattle.std.proofs.lemmas.Bool.Decides.{nat_tests}
use Rattle.collection_model.specs.FormatNumbers.{FormatNumbers}
use Rattle.collection_model.specs.Collection.{Collection}
use Rattle.index_file.specs.FileWords.{ListParts}
use Rattle.command_model.specs.Replies.{IsReply, AreReplies}
use Rattle.command_model.specs.GeneratedText.{IsGeneratedText, asked_lines, counts_line, next_line, top_line}
use Rattle.command_model.proofs.RepliesJoined.{one-reply, replies-append}

-- Some text got the replies to these lines.
abbrev pub GetsReplies : Collection → List (List ℕ) → List ℕ → List ℕ → Type 0
GetsReplies c lines old new = (replies : List ℕ) × AreReplies c lines replies × (new ≡ old ++ replies)

pub gets-none : (c : Collection) (text : List ℕ) → GetsReplies c [] text text
gets-none c text = ([], refl, sym (append-nil text))

pub gets-one : (c : Collection) (line old new : List ℕ) → (reply : List ℕ) × IsReply c line reply × (new ≡ old ++ reply) → GetsReplies c (line ∷ []) old new
gets-one c line old new (reply, is, e) = (reply, one-reply c line reply is, e)

pub gets-append : (c : Collection) (lines more : List (List ℕ)) (old mid new : List ℕ) → GetsReplies c lines old mid → GetsReplies c more mid new → GetsReplies c (lines ++ more) old new
gets-append c lines more old mid new (text, are, e) (next, so, d) =
    (text ++ next, replies-append c lines more text next are so, d ∙ ap (λ t. t ++ next) e ∙ append_assoc old text next)

-- one line is asked once more
pub gets-more : (c : Collection) (line : List ℕ) (n : ℕ) (old mid new : List ℕ) → GetsReplies c (replicate n line) old mid → (reply : List ℕ) × IsReply c line reply × (new ≡ mid ++ reply) → GetsReplies c (replicate (n + 1) line) old new
gets-more c line n old mid new first one =
    let P : List (List ℕ) → Type 0 = λ lines. GetsReplies c lines old new in
    subst P (replicate_more n line) (gets-append c (replicate n line) (line ∷ []) old mid new first (gets-one c line mid new one))

-- a text that was made has these bytes
pub made-so : {E : Type 0} (r : Result (String Global) E) (made said : List ℕ) → IfOk r (λ line. string_bytes line ≡ made) → made ≡ said → IfOk r (λ line. string_bytes line ≡ said)
made-so (Ok line) made said is e = is ∙ e
made-so (Err e) made said is _ = tt

-- a collection without a term is asked nothing, and each other is asked four lines
if-none : (n : ℕ) (lines : List (List ℕ)) → n ≡ 0 → (if n == 0 then [] else lines) ≡ []
if-none n lines none = grind (arith, nat_tests, none)

if-some : (n : ℕ) (lines : List (List ℕ)) → 0 < n → (if n == 0 then [] else lines) ≡ lines
if-some n lines some = grind (arith, nat_tests, some)

pub asked-nothing : (format : FormatNumbers) (c : Collection) (parts : List ListParts) (line : List ℕ) → length c.lists ≡ 0 → line ≡ counts_line format c parts → IsGeneratedText format c parts line
asked-nothing format c parts line none is =
    let P : List (List ℕ) → Type 0 = λ lines. AreReplies c lines [] in
    let no_lines : asked_lines c ≡ [] = if-none (length c.lists) (next_line c ∷ top_line c ∷ top_line c ∷ top_line c ∷ []) none in
    ([], subst P (sym no_lines) refl, is ∙ sym (append-nil (counts_line format c parts)))

pub asked-four : (format : FormatNumbers) (c : Collection) (parts : List ListParts) (line next top mid text : List ℕ) → 0 < length c.lists → line ≡ counts_line format c parts
    → next ≡ next_line c → top ≡ top_line c → GetsReplies c (next ∷ []) line mid → GetsReplies c (top ∷ top ∷ top ∷ []) mid text → IsGeneratedText format c parts text
asked-four format c parts line next top mid text some is next_is top_is first tops =
    let got = gets-append c (next ∷ []) (top ∷ top ∷ top ∷ []) line mid text first tops in
    let P : List (List ℕ) → Type 0 = λ lines. AreReplies c lines got.0 in
    let lines : next ∷ top ∷ top ∷ top ∷ [] ≡ next_line c ∷ top_line c ∷ top_line c ∷ top_line c ∷ [] = λ i. next_is i ∷ top_is i ∷ top_is i ∷ top_is i ∷ [] in
    let asked : asked_lines c ≡ next_line c ∷ top_line c ∷ top_line c ∷ top_line c ∷ [] = if-some (length c.lists) (next_line c ∷ top_line c ∷ top_line c ∷ top_line c ∷ []) some in
    (got.0, subst P (lines ∙ sym asked) got.1, got.2 ∙ ap (λ l. l ++ got.0) is)
