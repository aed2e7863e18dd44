use Rattle.std.specs.Prelude.{ℕ, ◌+◌, ◌==◌, not, nat_lt, if◌then◌else◌, Bool, false, Option, Some, None, unwrap_or, Result, Ok, Err}
use Rattle.segments.specs.declared.pushed.Joining.{Joining}
use Rattle.segments.specs.declared.pushed.Joining.TheVariants.{Alike, Wide}
use Rattle.segments.specs.declared.pushed.SegRule.{SegRule}
use Rattle.segments.specs.declared.pushed.SegRule.TheVariants.{G1, G2}
use Rattle.segments.specs.Joined.{most_joined}

-- what was pushed: which segments can be, how many documents in all, and how many terms the first
-- segment has, where there is one
pub record Pushed : Type 0 where
  pub joining : Joining
  pub documents : ℕ
  pub terms : Option ℕ

-- nothing
abbrev pub none_pushed : Joining → Pushed
none_pushed joining = record { joining = joining; documents = 0; terms = None }

-- how many terms the first segment has, 0 where there is none
abbrev pub terms_of : Pushed → ℕ
terms_of s = unwrap_or s.terms 0

-- whether a segment has another number of terms than the first, where all have to be alike
abbrev pub differs : Joining → Option ℕ → ℕ → Bool
differs Alike None terms = false
differs Alike (Some first) terms = not (first == terms)
differs Wide of_first terms = false

-- the first rule that a segment of so many documents and terms breaks behind what was pushed
abbrev pub rule_broken : Pushed → ℕ → ℕ → Option SegRule
rule_broken s documents terms =
    if differs s.joining s.terms terms then Some G1
    else if nat_lt most_joined (s.documents + documents) then Some G2
    else None

-- what a push answers: the first document of the segment, or the rule that it breaks
abbrev pub answer_of : Pushed → Option SegRule → Result ℕ SegRule
answer_of s None = Ok s.documents
answer_of s (Some rule) = Err rule

-- what was pushed once a segment is added
abbrev pub with_segment : Pushed → ℕ → ℕ → Pushed
with_segment s documents terms = record {
  joining = s.joining;
  documents = s.documents + documents;
  terms = Some (unwrap_or s.terms terms);
}
