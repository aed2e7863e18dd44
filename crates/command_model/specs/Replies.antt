use Rattle.std.specs.Prelude.{◌≡◌, ℕ, List, [], ◌∷◌, ◌++◌, length, map, option_map, MatchResult}
use Rattle.collection_model.specs.Collection.{Posting, Collection, list_of, first_at_least}
use Rattle.scan_plans.specs.Matches.{in_all, in_any}
use Rattle.scan_plans.specs.IsTop.{IsTop}
use Rattle.query_text.specs.declared.query.Query.{Query}
use Rattle.query_text.specs.declared.query.Query.TheVariants.{Next, And, Or, Top}
use Rattle.query_text.specs.Parse.{parse_line}
use Rattle.query_text.specs.Texts.{next_text, list_text, top_text, bad_text}

-- the lists of some terms
abbrev pub lists_of : Collection → List ℕ → List (List Posting)
lists_of c terms = map (list_of c) terms

-- the terms whose lists a line asks for
abbrev pub terms_of : Query → List ℕ
terms_of (Next t d) = t ∷ []
terms_of (And terms) = terms
terms_of (Or terms) = terms
terms_of (Top k terms) = map (λ t. t.0) terms

-- The text is the reply with the first k of the documents below n that are in any of some lists,
-- each with its weight.
abbrev pub IsTopText : ℕ → List (List Posting) → List ℕ → ℕ → List ℕ → Type 0
IsTopText n lists weights k text = (r : List (ℕ × ℕ)) × IsTop n lists weights k r
    × (text ≡ top_text r)

-- The text is the reply to what a line asks.
abbrev pub IsAnswer : Collection → Query → List ℕ → Type 0
IsAnswer c (Next t d) text =
    text ≡ next_text (option_map (λ p. (p.doc, p.freq)) (first_at_least (list_of c t) d))
IsAnswer c (And terms) text = text ≡ list_text (in_all c.documents (lists_of c terms))
IsAnswer c (Or terms) text = text ≡ list_text (in_any c.documents (lists_of c terms))
IsAnswer c (Top k terms) text =
    IsTopText c.documents (lists_of c (map (λ t. t.0) terms)) (map (λ t. t.1) terms) k text

-- The text is the reply to a line, with its newline.
abbrev pub IsReply : Collection → List ℕ → List ℕ → Type 0
IsReply c line text =
    MatchResult (parse_line (length c.lists) line) (λ query. IsAnswer c query text)
    (λ bad. text ≡ bad_text bad)

-- The text is the replies to these lines, one after the other.
abbrev pub AreReplies : Collection → List (List ℕ) → List ℕ → Type 0
AreReplies c [] text = text ≡ []
AreReplies c (line ∷ lines) text = (first : List ℕ) × (rest : List ℕ) × IsReply c line first
    × AreReplies c lines rest × (text ≡ first ++ rest)
