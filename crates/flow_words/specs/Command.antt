-- The command that reads the words of a call, as data, and what it finds in them.
use Rattle.std.specs.Prelude.{◌≡◌, ◌≤◌, ℕ, pos, List, [], ◌∷◌, Some, IfSome, codes, true}
use Rattle.std.specs.Str.Parse.{IsNumeral, digits_value, without_leading_plus}
use Rattle.flow_model.specs.declared.limits.TheConstants.{GREATEST_SEED, GREATEST_SIZE, MOST_ENTRIES, MOST_WORKERS}
use Rattle.clap.specs.Words.{App, Rule, Text, fault_of, found_of, matches_of, new_rule, one_text, rows_of}
use Rattle.clap.specs.Simple.{new_shape}
use Rattle.clap.specs.declared.builder.action.ArgAction.TheVariants.{Set}
use Rattle.clap.specs.declared.builder.value_parser.ValueParser.TheVariants.{Signed}
use Rattle.clap.specs.declared.parser.matches.ArgMatches.{ArgMatches}
use Rattle.clap.specs.declared.parser.matches.Found.{Found}

-- the one word that stands for itself
abbrev pub mode_rule : Rule
mode_rule = record (new_rule (codes "mode")) { action = Some Set; required = true }

-- an option with one number, from the least to the greatest, and what it is where the option is not used
abbrev pub number_rule : Text → ℕ → ℕ → Text → Rule
number_rule name least greatest unused = record (new_rule name) {
  long = Some name;
  action = Some Set;
  parser = Some (Signed (pos least) (pos greatest));
  defaults = unused ∷ [];
}

-- the options, each with its bounds
abbrev pub number_rules : List Rule
number_rules =
    number_rule (codes "steps") 1 MOST_ENTRIES (codes "65536")
    ∷ number_rule (codes "workers") 1 MOST_WORKERS (codes "4")
    ∷ number_rule (codes "seed") 0 GREATEST_SEED (codes "1")
    ∷ number_rule (codes "size") 1 GREATEST_SIZE (codes "16")
    ∷ []

-- flow MODE [--steps N] [--workers N] [--seed N] [--size N]
abbrev pub flow_rules : List Rule
flow_rules = mode_rule ∷ number_rules

abbrev pub flow_app : App
flow_app = record { top = record (new_shape (codes "flow")) { rules = flow_rules; has_version = true }; subs = [] }

-- the command reads the words
abbrev pub IsRead : List Text → Type 0
IsRead words = fault_of flow_app words ≡ []

-- the matches are those of the words, which the command reads
abbrev pub IsReadAs : List Text → ArgMatches → Type 0
IsReadAs words m = IsRead words × (rows_of (found_of m) ≡ matches_of flow_app words)

-- the text is a decimal number between the least and the greatest
pub record IsBetween (least greatest : ℕ) (text : Text) : Type 0 where
  pub numeral : IsNumeral 10 (without_leading_plus text)
  pub not_less : least ≤ digits_value 10 (without_leading_plus text)
  pub not_greater : digits_value 10 (without_leading_plus text) ≤ greatest

-- what was found for each option is a number in its bounds
pub record HasNumbers (found : Found) : Type 0 where
  pub steps : IfSome (one_text found (codes "steps")) (IsBetween 1 MOST_ENTRIES)
  pub workers : IfSome (one_text found (codes "workers")) (IsBetween 1 MOST_WORKERS)
  pub seed : IfSome (one_text found (codes "seed")) (IsBetween 0 GREATEST_SEED)
  pub size : IfSome (one_text found (codes "size")) (IsBetween 1 GREATEST_SIZE)
