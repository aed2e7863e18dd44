-- How `clap` walks over words of which each begins with no minus sign, where no subcommand can be named.
use Rattle.std.proofs.Common.{◌≡◌, ◌∙◌, arith}
use Rattle.std.specs.Prelude.{◌==◌, ℕ, true, false, List, [], ◌∷◌, None, fold}
use Rattle.clap.specs.Walk.{Held, Step, Text, Waiting, Walk, subcommand_met, plain_word, after_step, walked, word_met}
use Rattle.clap.specs.Simple.{Shape}
use Rattle.clap.specs.Takes.{turn_passes, step_passes, walk_passes}

-- A word is not empty, and begins with no minus sign.
abbrev pub IsPlain : Text → Type 0
IsPlain [] = ⊥
IsPlain (x ∷ xs) = (x == 45) ≡ false

-- From one walk these words lead to another, with others to come: they pass where those do.
pub record Leads (s : Shape) (from : Walk) (words : List Text) (to : Walk) (rest : List Text) : Type 0 where
  pub walk : fold (walked s.rules []) from words ≡ fold (walked s.rules []) to rest
  pub passes : walk_passes s [] from words ≡ walk_passes s [] to rest

pub leads_on : {s : Shape} {a b c : Walk} {words some rest : List Text} → Leads s a words b some → Leads s b some c rest → Leads s a words c rest
leads_on f g = record { walk = f.walk ∙ g.walk; passes = f.passes ∙ g.passes }

no_verb : (waiting : Waiting) (word : Text) → subcommand_met [] waiting word ≡ None
no_verb waiting word = grind arith

module _ (s : Shape) (waiting : Waiting) (position : ℕ) (held : Held) where
  abbrev pub standing : Walk
  standing = record { held = held; waiting = waiting; position = position; is_trailing = false; stopped = None }

  -- what a plain word is, and the walk after it
  abbrev pub plainly : Text → Held × Step
  plainly word = plain_word s.rules waiting word held

  abbrev pub stepped : Text → Walk
  stepped word = after_step s.rules word standing (plainly word).0 (plainly word).1

  module _ (x : ℕ) (xs : Text) (h : (x == 45) ≡ false) where
    met : word_met s.rules [] false waiting position (x ∷ xs) held ≡ plainly (x ∷ xs)
    met = grind (arith, no_verb waiting)

    passes : turn_passes s [] standing (x ∷ xs) ≡ step_passes s position (plainly (x ∷ xs)).0 (plainly (x ∷ xs)).1
    passes = grind (arith, no_verb waiting, met)

  -- a plain word leads on where its step passes
  pub word_leads : (word : Text) → IsPlain word → step_passes s position (plainly word).0 (plainly word).1 ≡ true → (rest : List Text) → Leads s standing (word ∷ rest) (stepped word) rest
  unfolding walk_passes walked
  word_leads [] h taken rest = absurd h
  word_leads (x ∷ xs) h taken rest = grind (arith, met x xs h, passes x xs h)
