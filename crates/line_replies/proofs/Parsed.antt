use Rattle.std.proofs.Common.{◌≡◌, ◌≤◌, sym, ◌∙◌, ap, subst, ℕ, List, refl, arith}
use Rattle.std.specs.Prelude.{Result, Ok, Err, MatchResult, IfErr, length}
use Rattle.collection_model.specs.Collection.{Collection}
use Rattle.query_text.specs.declared.query.Query.{Query}
use Rattle.query_text.specs.declared.query.Bad.{Bad}
use Rattle.query_text.specs.declared.query.ParseError.TheVariants as parse_error
use Rattle.query_text.specs.Parse.{parse_line, Parses}
use Rattle.query_text.specs.Texts.{bad_text}
use Rattle.smallvec.specs.SmallVec.{SmallVec}
use Rattle.command_model.specs.Replies.{IsAnswer, IsReply, terms_of}
use Rattle.line_replies.specs.CursorRoom.{KeepsRoom, KeepsRoomFor}

-- what parsing found is what the line asks
asked : (query : Query) (is : Result Query Bad) → Parses (Ok query) is → is ≡ Ok query
asked query (Ok other) e = ap Ok (sym e)
asked query (Err bad) e = cc

refused : (bad : Bad) (is : Result Query Bad) → Parses (Err (parse_error.Bad bad)) is → is ≡ Err bad
refused bad (Ok other) e = cc
refused bad (Err other) e = cc

-- nothing is bad in what asks something
pub none-bad : (query : Query) (P : Bad → Type 0) (n m : ℕ) (line : List ℕ) → n ≡ m → Parses (Ok query) (parse_line n line) → IfErr (parse_line m line) P
none-bad query P n m line e p =
    let Q : Result Query Bad → Type 0 = λ r. IfErr r P in
    subst Q (sym (asked query (parse_line n line) p) ∙ ap (λ n. parse_line n line) e) tt

-- nor in what memory was refused for
unread : (P : Bad → Type 0) (is : Result Query Bad) → Parses {T = Query} (Err parse_error.NoMemory) is → IfErr is P
unread P (Ok other) e = tt
unread P (Err bad) e = cc

pub none-bad_unread : (P : Bad → Type 0) (n m : ℕ) (line : List ℕ) → n ≡ m → Parses {T = Query} (Err parse_error.NoMemory) (parse_line n line) → IfErr (parse_line m line) P
none-bad_unread P n m line e p = subst (λ k. IfErr (parse_line k line) P) e (unread P (parse_line n line) p)

-- what holds of each bad line holds of a bad line
pub any-bad : (P : Bad → Type 0) (is : Result Query Bad) → ((bad : Bad) → P bad) → IfErr is P
any-bad P (Ok other) each = tt
any-bad P (Err bad) each = each bad

pub reply-asked : (c : Collection) (line text : List ℕ) (query : Query) (n : ℕ) → n ≡ length c.lists → Parses (Ok query) (parse_line n line) → IsAnswer c query text → IsReply c line text
reply-asked c line text query n e p is =
    let P : Result Query Bad → Type 0 = λ r. MatchResult r (λ query. IsAnswer c query text) (λ bad. text ≡ bad_text bad) in
    subst P (sym (asked query (parse_line n line) p) ∙ ap (λ n. parse_line n line) e) is

pub reply-refused : (c : Collection) (line text : List ℕ) (bad : Bad) (n : ℕ) → n ≡ length c.lists → Parses (Err (parse_error.Bad bad)) (parse_line n line) → text ≡ bad_text bad → IsReply c line text
reply-refused c line text bad n e p is =
    let P : Result Query Bad → Type 0 = λ r. MatchResult r (λ query. IsAnswer c query text) (λ bad. text ≡ bad_text bad) in
    subst P (sym (refused bad (parse_line n line) p) ∙ ap (λ n. parse_line n line) e) is

-- the room that is kept for what a line asks is kept for the line
pub room-asked : {C : Type 0} (old new : SmallVec C) (query : Query) (n m : ℕ) (line : List ℕ)
    → n ≡ m → Parses (Ok query) (parse_line n line)
    → KeepsRoom (length (terms_of query)) old.capacity new.capacity
    → KeepsRoomFor (parse_line m line) old new
room-asked old new query n m line e p kept =
    let P : Result Query Bad → Type 0 = λ r. KeepsRoomFor r old new in
    let is = sym (asked query (parse_line n line) p) ∙ ap (λ n. parse_line n line) e in
    subst P is kept

-- what stays as it is keeps its room for every line
pub room-same : {C : Type 0} (is : Result Query Bad) (cursors : SmallVec C)
    → KeepsRoomFor is cursors cursors
room-same (Ok query) cursors = record { no_less = omega arith; enough = λ few. refl }
room-same (Err bad) cursors = refl

-- the room that is kept for the terms by one name is kept for them by the other
pub room-for : (named terms : List ℕ) (old new : ℕ) → named ≡ terms
    → KeepsRoom (length named) old new → KeepsRoom (length terms) old new
room-for named terms old new same kept =
    subst (λ (ts : List ℕ). KeepsRoom (length ts) old new) same kept
