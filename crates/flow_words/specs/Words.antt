-- What the words of a call ask for.
use Rattle.std.specs.Prelude.{◌≡◌, ◌≤◌, ℕ, List, Option, None, Some, codes}
use Rattle.std.specs.Str.Parse.{digits_value, without_leading_plus}
use Rattle.flow_model.specs.declared.limits.TheConstants.{GREATEST_SEED, GREATEST_SIZE, MOST_ENTRIES, MOST_WORKERS}
use Rattle.clap.specs.Words.{IsAmong, Row, Text, fault_of, first_of, matches_of, one_of}
use Rattle.clap.specs.declared.error.kind.ErrorKind.{ErrorKind}
use Rattle.clap.specs.declared.error.kind.ErrorKind.TheVariants.{DisplayHelp, DisplayVersion}
use Rattle.flow_words.specs.Command.{flow_app, IsRead}
use Rattle.flow_words.specs.declared.purpose.Purpose.{Purpose}
use Rattle.flow_words.specs.declared.purpose.Purpose.TheVariants.{Answer, Help, Version}
use Rattle.flow_words.specs.declared.request.Mode.{Mode}
use Rattle.flow_words.specs.declared.request.Mode.TheVariants.{Drive, Run, Check, Verify, Trace, Gen, Large, Duty, Audit}
use Rattle.flow_words.specs.declared.request.Request.{Request}

abbrev pub mode_word : Mode → Text
mode_word Drive = codes "drive"
mode_word Run = codes "run"
mode_word Check = codes "check"
mode_word Verify = codes "verify"
mode_word Trace = codes "trace"
mode_word Gen = codes "gen"
mode_word Large = codes "large"
mode_word Duty = codes "duty"
mode_word Audit = codes "audit"

-- the rows give that number to the option of that name
abbrev pub HasNumber : Text → List Row → ℕ → Type 0
HasNumber name rows n =
    (text : Text) × (one_of name rows ≡ Some text) × (n ≡ digits_value 10 (without_leading_plus text))

-- the rows give the mode its word, and each option its number
pub record IsOf (rows : List Row) (request : Request) : Type 0 where
  pub mode : first_of (codes "mode") rows ≡ Some (mode_word request.mode)
  pub steps : HasNumber (codes "steps") rows request.steps
  pub workers : HasNumber (codes "workers") rows request.workers
  pub seed : HasNumber (codes "seed") rows request.seed
  pub size : HasNumber (codes "size") rows request.size

-- the command reads the words, and finds the request in them
abbrev pub IsCall : List Text → Request → Type 0
IsCall words request = IsRead words × IsOf (matches_of flow_app words) request

-- the first thing for which the command does not go on with the words is that they ask for a text of that kind
abbrev pub AsksFor : List Text → ErrorKind → Type 0
AsksFor words kind = IsAmong kind (fault_of flow_app words)

-- what the words are for
abbrev pub IsFor : List Text → Purpose → Type 0
IsFor words (Answer request) = IsCall words request
IsFor words Help = AsksFor words DisplayHelp
IsFor words Version = AsksFor words DisplayVersion

-- the words are for nothing
abbrev pub IsNoCall : List Text → Type 0
IsNoCall words = (purpose : Purpose) → ¬ (IsFor words purpose)

-- the text that the command was asked for, where it ended so
abbrev pub text_asked_by : ErrorKind → Option Purpose
text_asked_by DisplayHelp = Some Help
text_asked_by DisplayVersion = Some Version
text_asked_by other = None

-- the numbers of a call
pub record IsWithin (request : Request) : Type 0 where
  pub steps_some : 1 ≤ request.steps
  pub steps_few : request.steps ≤ MOST_ENTRIES
  pub workers_some : 1 ≤ request.workers
  pub workers_few : request.workers ≤ MOST_WORKERS
  pub seed : request.seed ≤ GREATEST_SEED
  pub size_some : 1 ≤ request.size
  pub size_few : request.size ≤ GREATEST_SIZE

-- the numbers of a call that a mode answers
abbrev pub HasWithin : Purpose → Type 0
HasWithin (Answer request) = IsWithin request
HasWithin other = Unit {0}

-- words are a call for one request alone, and for one purpose alone
abbrev pub OneRequest : Type 0
OneRequest = (words : List Text) (a b : Request) → IsCall words a → IsCall words b → a ≡ b

abbrev pub OnePurpose : Type 0
OnePurpose = (words : List Text) (a b : Purpose) → IsFor words a → IsFor words b → a ≡ b
