-- What the words of a line ask for.
use Rattle.std.specs.Prelude.{◌≡◌, ℕ, ◌+◌, ◌-◌, ◌==◌, ◌&&◌, nat_le, if◌then◌else◌, Bool, List, [], ◌∷◌, ◌++◌, length, take, drop, slice_index, codes, Option, Some, None, Result, Ok, Err}
use Rattle.std.specs.List.{position}
use Rattle.std.specs.Str.{bytes_eq}
use Rattle.flow_record.specs.Number.{number_of}
use Rattle.flow_names.specs.declared.command.Command.{Command}
use Rattle.flow_names.specs.declared.command.Command.TheVariants as command
use Rattle.flow_names.specs.declared.command.TaskRef.{TaskRef}
use Rattle.flow_names.specs.declared.command.ClaimRef.{ClaimRef}
use Rattle.flow_names.specs.declared.command.ClaimRef.TheVariants.{Number, Of}
use Rattle.flow_names.specs.declared.command.StepRef.{StepRef}
use Rattle.flow_names.specs.declared.command.StepRef.TheVariants.{Leaf, Label}
use Rattle.flow_names.specs.declared.refusal.CommandRefusal.{CommandRefusal}
use Rattle.flow_names.specs.declared.refusal.CommandRefusal.TheVariants as refusal
use Rattle.flow_names.specs.declared.verb.Verb.{Verb}
use Rattle.flow_names.specs.declared.verb.Verb.TheVariants as verb
use Rattle.flow_names.specs.Verbs.{verb_of, verb_near}

-- it is what is said, or there was no memory to say it
abbrev pub IsRefusedFor : {A : Type 0} → Result A CommandRefusal → CommandRefusal → Type 0
IsRefusedFor said refusal.NoMemory = Unit {0}
IsRefusedFor said other = said ≡ Err other

-- the one word behind a verb
abbrev pub one_word : Verb → List (List ℕ) → Result (List ℕ) CommandRefusal
one_word v [] = Err (refusal.Missing v)
one_word v (word ∷ []) = Ok word
one_word v (word ∷ other ∷ more) = Err (refusal.Behind v)

-- nothing stands behind a verb
abbrev pub no_word : Verb → Command → List (List ℕ) → Result Command CommandRefusal
no_word v command [] = Ok command
no_word v command (word ∷ more) = Err (refusal.Behind v)

-- what is made of what was said, if something was
abbrev pub with : {A B : Type 0} → (A → B) → Result A CommandRefusal → Result B CommandRefusal
with f (Ok a) = Ok (f a)
with f (Err e) = Err e

-- what a word says, if there is one
abbrev pub in_word : {A : Type 0} → (List ℕ → Result A CommandRefusal) → Result (List ℕ) CommandRefusal → Result A CommandRefusal
in_word f (Ok word) = f word
in_word f (Err e) = Err e

-- a task whose leaf is said, by the number that was read
abbrev pub task_at : List ℕ → Option ℕ → Result TaskRef CommandRefusal
task_at name None = Err refusal.Leaf
task_at name (Some leaf) = Ok (record { name = name; leaf = Some leaf })

-- a task: a name; or a name, `@` and the number of a leaf
abbrev pub task_in : List ℕ → Result TaskRef CommandRefusal
task_in word = cut (position (λ byte. byte == 64) word)
  where
    cut : Option ℕ → Result TaskRef CommandRefusal
    cut None = Ok (record { name = word; leaf = None })
    cut (Some at) = task_at (take at word) (number_of (drop (at + 1) word))

-- a claim: its number, or its task
abbrev pub claim_in : List ℕ → Result ClaimRef CommandRefusal
claim_in word = claim (number_of word)
  where
    claim : Option ℕ → Result ClaimRef CommandRefusal
    claim None = with Of (task_in word)
    claim (Some number) = Ok (Number number)

-- the text begins and ends with a quote
abbrev pub is_quoted : List ℕ → ℕ → Bool
is_quoted text count = nat_le 2 count && (slice_index text 0 == 34) && (slice_index text (count - 1) == 34)

-- what stands between quotes, or the text itself
abbrev pub unquoted : List ℕ → List ℕ
unquoted text = if is_quoted text (length text) then take (length text - 2) (drop 1 text) else text

-- the label of two words
abbrev pub label_in : List ℕ → List ℕ → List ℕ
label_in first second = unquoted (first ++ 32 ∷ second)

-- what is asked for behind `undone`: what was taken back; or that a claim is ticked off, which is said by `--ok`
abbrev pub undone_of : List (List ℕ) → Result Command CommandRefusal
undone_of [] = Ok command.Undone
undone_of (word ∷ words) = ticked (one_word verb.Undone words)
  where
    ticked : Result (List ℕ) CommandRefusal → Result Command CommandRefusal
    ticked (Ok mark) = if bytes_eq mark (codes "--ok") then with command.TickOff (claim_in word) else Err (refusal.Behind verb.Undone)
    ticked (Err e) = Err e

-- a leaf that is no event: its number, or its label in one or two words, which may stand in quotes
abbrev pub step_of : List (List ℕ) → Result StepRef CommandRefusal
step_of [] = Err (refusal.Missing verb.Do)
step_of (word ∷ []) = Ok (step (number_of word))
  where
    step : Option ℕ → StepRef
    step None = Label (unquoted word)
    step (Some leaf) = Leaf leaf
step_of (first ∷ second ∷ []) = Ok (Label (label_in first second))
step_of (first ∷ second ∷ third ∷ more) = Err (refusal.Behind verb.Do)

-- what a verb and the words behind it ask for
abbrev pub said_with : Verb → List (List ℕ) → Result Command CommandRefusal
said_with verb.Take words = with command.Take (in_word task_in (one_word verb.Take words))
said_with verb.Why words = with command.Why (in_word task_in (one_word verb.Why words))
said_with verb.Done words = with command.Done (in_word claim_in (one_word verb.Done words))
said_with verb.Fail words = with command.Fail (in_word claim_in (one_word verb.Fail words))
said_with verb.Do words = with command.Do (step_of words)
said_with verb.Rewind words = no_word verb.Rewind command.Rewind words
said_with verb.Commit words = no_word verb.Commit command.Commit words
said_with verb.Tidy words = no_word verb.Tidy command.Tidy words
said_with verb.Todo words = no_word verb.Todo command.Todo words
said_with verb.History words = no_word verb.History command.History words
said_with verb.Undone words = undone_of words
said_with verb.Facts words = no_word verb.Facts command.Facts words
said_with verb.Report words = no_word verb.Report command.Report words

-- what the words of a line ask for
abbrev pub said_by : List (List ℕ) → Result Command CommandRefusal
said_by [] = Err refusal.Blank
said_by (word ∷ words) = by_verb (verb_of word)
  where
    by_verb : Option Verb → Result Command CommandRefusal
    by_verb None = Err (refusal.Unknown (verb_near word))
    by_verb (Some v) = said_with v words
