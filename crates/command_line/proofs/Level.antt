-- A command line of texts and an option takes them, and has them among its matches.
use Rattle.std.proofs.Common.{◌≤◌, ◌≡◌, refl, sym, ap, ap₂, ◌∙◌, subst, append_assoc, arith}
use Rattle.std.proofs.lemmas.List.{append-nil}
use Rattle.std.specs.Prelude.{◌&&◌, length, Bool, true, false, is_some, List, [], ◌∷◌, ◌++◌, codes, Option, Some, None, fold}
use Rattle.std.specs.List.{list_all}
use Rattle.clap.specs.Lexer.{usize_max}
use Rattle.clap.specs.Walk.{Text, Walk, idle, option, positional, nothing_held, walked, walk_from, finished, all_of, settled}
use Rattle.clap.specs.Simple.{App, Shape, built, entered, is_simple, matches_of}
use Rattle.clap.specs.Takes.{takes, entered_passes, settle_passes, default_passes, is_valid, walk_passes}
use Rattle.clap.proofs.OnLiterals.{clap_on_literals}
use Rattle.command_line.specs.declared.table.Choice.{Choice}
use Rattle.command_line.specs.declared.table.Choice.TheVariants.{Format, Plan}
use Rattle.command_line.specs.Table.{name_of, default_of}
use Rattle.command_line.specs.Private.CommandLine.{app_with, value_found}
use Rattle.command_line.proofs.PlainWalk.{IsPlain, Leads, leads_on, stepped, word_leads}

-- each word of some is plain
abbrev pub ArePlain : List Text → Type 0
ArePlain [] = Unit {0}
ArePlain (word ∷ words) = IsPlain word × ArePlain words

accepted : (words : List Text) → list_all (λ (w : Text). true) words ≡ true
accepted [] = refl
accepted (w ∷ words) = accepted words

abbrev program : Option Choice → App
program choice = built (app_with choice)

abbrev top : Option Choice → Shape
top choice = (program choice).top

pub simple : (choice : Option Choice) → is_simple (app_with choice) ≡ true
unfolding clap_on_literals
simple choice = grind arith

-- whether words pass, from where their walk ends
abbrev passed : Option Choice → Walk → Bool → Bool
passed choice end through = entered_passes (program choice) end.stopped
    && (through && (settle_passes (top choice).rules (top choice).args_override_self end.held
    && (list_all default_passes (top choice).rules && is_valid (top choice) (finished (top choice).rules end.held) (is_some (entered (program choice) end.stopped)))))

-- A command line takes some words, and has these texts and this value among its matches.
pub record Reads (choice : Option Choice) (texts words : List Text) (value : Text) : Type 0 where
  pub passes : takes (app_with choice) words ≡ true
  pub texts_are : all_of (codes "texts") (matches_of (app_with choice) words) ≡ Some texts
  pub said_is : value_found choice (matches_of (app_with choice) words) ≡ Some value

-- what an option says that is not there
abbrev pub unsaid_of : Option Choice → Text
unsaid_of None = []
unsaid_of (Some choice) = default_of choice

-- so it does where its words lead to such an end
read_at : (choice : Option Choice) (texts words : List Text) (last : Walk) (value : Text) → Leads (top choice) (walk_from nothing_held) words last []
    → passed choice last true ≡ true → all_of (codes "texts") (finished (top choice).rules last.held) ≡ Some texts → value_found choice (finished (top choice).rules last.held) ≡ Some value
    → Reads choice texts words value
unfolding walk_passes
read_at choice texts words last value leads e t v =
    record {
      passes = ap (λ b. b && passed choice (fold (walked (top choice).rules []) (walk_from nothing_held) words) (walk_passes (top choice) [] (walk_from nothing_held) words)) (simple choice) ∙ ap₂ (passed choice) leads.walk leads.passes ∙ e;
      texts_are = grind (arith, leads.walk);
      said_is = grind (arith, leads.walk);
    }

-- where the walk stands after some texts
abbrev reading : List Text → Walk
reading words = record {
  held = record { rows = []; pending = Some (codes "texts", words); skip = 0 };
  waiting = positional;
  position = 1;
  is_trailing = false;
  stopped = None;
}

-- the texts one after the other
texts_lead : (choice : Option Choice) (words more rest : List Text) → ArePlain more → Leads (top choice) (reading words) (more ++ rest) (reading (words ++ more)) rest
texts_lead choice words [] rest h = subst (λ ws. Leads (top choice) (reading words) rest (reading ws) rest) (sym (append-nil words)) (record { walk = refl; passes = refl })
texts_lead choice words (word ∷ more) rest h =
    subst (λ ws. Leads (top choice) (reading words) (word ∷ (more ++ rest)) (reading ws) rest) (append_assoc words (word ∷ []) more)
    (leads_on (word_leads (top choice) positional 1 (reading words).held word h.0 refl (more ++ rest)) (texts_lead choice (words ++ word ∷ []) more rest h.1))

module _ (first : Text) (more : List Text) (h : IsPlain first) (hs : ArePlain more) (few : length (first ∷ more) ≤ usize_max) where
  texts_read : (choice : Option Choice) (rest : List Text) → Leads (top choice) (walk_from nothing_held) (first ∷ (more ++ rest)) (reading (first ∷ more)) rest
  texts_read choice rest = leads_on (word_leads (top choice) idle 1 nothing_held first h refl (more ++ rest)) (texts_lead choice (first ∷ []) more rest hs)

  settles : (choice : Option Choice) → settle_passes (top choice).rules false (reading (first ∷ more)).held ≡ true
  unfolding clap_on_literals
  settles choice = grind (arith, accepted more)

  -- no option
  pub unsaid : (choice : Option Choice) → Reads choice (first ∷ more) (first ∷ (more ++ [])) (unsaid_of choice)
  unfolding clap_on_literals
  unsaid None = read_at None (first ∷ more) (first ∷ (more ++ [])) (reading (first ∷ more)) [] (texts_read None []) (grind (arith, settles None)) refl refl
  unsaid (Some Format) =
      read_at (Some Format) (first ∷ more) (first ∷ (more ++ [])) (reading (first ∷ more)) (default_of Format) (texts_read (Some Format) []) (grind (arith, settles (Some Format))) refl refl
  unsaid (Some Plan) =
      read_at (Some Plan) (first ∷ more) (first ∷ (more ++ [])) (reading (first ∷ more)) (default_of Plan) (texts_read (Some Plan) []) (grind (arith, settles (Some Plan))) refl refl

  -- where the walk stands after the option's name
  abbrev named : Choice → Walk
  named choice = record {
    held = record { rows = (settled (top (Some choice)).rules (reading (first ∷ more)).held).rows; pending = Some (name_of choice, []); skip = 0 };
    waiting = option (name_of choice);
    position = 1;
    is_trailing = false;
    stopped = None;
  }

  name_leads : (choice : Choice) (rest : List Text) → Leads (top (Some choice)) (reading (first ∷ more)) ((codes "--" ++ name_of choice) ∷ rest) (named choice) rest
  unfolding clap_on_literals
  name_leads Format rest = record { walk = refl; passes = ap (λ b. (b && true) && walk_passes (top (Some Format)) [] (named Format) rest) (settles (Some Format)) }
  name_leads Plan rest = record { walk = refl; passes = ap (λ b. (b && true) && walk_passes (top (Some Plan)) [] (named Plan) rest) (settles (Some Plan)) }

  -- and after its value
  abbrev valued : Choice → Text → Walk
  valued choice value = stepped (top (Some choice)) (option (name_of choice)) 1 (named choice).held value

  -- the option with a value
  said_leads : (choice : Choice) (value : Text) → IsPlain value → Leads (top (Some choice)) (walk_from nothing_held) (first ∷ (more ++ (codes "--" ++ name_of choice) ∷ value ∷ [])) (valued choice value) []
  said_leads choice value v =
      leads_on (texts_read (Some choice) ((codes "--" ++ name_of choice) ∷ value ∷ []))
      (leads_on (name_leads choice (value ∷ [])) (word_leads (top (Some choice)) (option (name_of choice)) 1 (named choice).held value v refl []))

  pub said : (choice : Choice) (value : Text) → IsPlain value → Reads (Some choice) (first ∷ more) (first ∷ (more ++ (codes "--" ++ name_of choice) ∷ value ∷ [])) value
  unfolding clap_on_literals
  said Format value v = read_at (Some Format) (first ∷ more) (first ∷ (more ++ (codes "--format") ∷ value ∷ [])) (valued Format value) value (said_leads Format value v) refl refl refl
  said Plan value v = read_at (Some Plan) (first ∷ more) (first ∷ (more ++ (codes "--plan") ∷ value ∷ [])) (valued Plan value) value (said_leads Plan value v) refl refl refl
