-- What the text of a session says. Which lines there are is given by what is said of a line's words, so that sessions with further
-- commands go by the same rules.
use Rattle.std.specs.Prelude.{ℕ, ◌+◌, nat_lt, if◌then◌else◌, List, [], ◌∷◌, Option, Some, None, codes}
use Rattle.std.specs.Option.{option_and_then}
use Rattle.std.specs.Str.{bytes_eq}
use Rattle.flow_ask.specs.declared.ask.Ask.TheVariants as ask
use Rattle.flow_ask.specs.declared.ask.Look.TheVariants as look
use Rattle.flow_model.specs.declared.limits.TheConstants.{MOST_LINES}
use Rattle.flow_record.specs.declared.command.Command.{Command}
use Rattle.flow_record.specs.declared.command.Command.TheVariants.{Ask, Look}
use Rattle.flow_record.specs.declared.line.Line.{Line}
use Rattle.flow_record.specs.declared.line.Line.TheVariants.{Blank, Holds, Bad}
use Rattle.flow_record.specs.Lines.{without_returns, lines_of}
use Rattle.flow_record.specs.Number.{number_of}
use Rattle.flow_record.specs.Words.{words_of}

-- the command of one word alone
abbrev pub bare_command : List ℕ → Option Command
bare_command word =
    if bytes_eq word (codes "rewind") then Some (Ask ask.Rewind)
    else if bytes_eq word (codes "commit") then Some (Ask ask.Commit)
    else if bytes_eq word (codes "next") then Some (Look look.Next)
    else if bytes_eq word (codes "enabled") then Some (Look look.Enabled)
    else if bytes_eq word (codes "journal") then Some (Look look.Journal)
    else if bytes_eq word (codes "facts") then Some (Look look.Facts)
    else None

-- the command of a word and the number that follows it
abbrev pub numbered_command : List ℕ → List ℕ → Option Command
numbered_command word number = option_and_then command (number_of number)
  where
    command : ℕ → Option Command
    command number =
        if bytes_eq word (codes "take") then Some (Ask (ask.Take number))
        else if bytes_eq word (codes "do") then Some (Ask (ask.Do number))
        else if bytes_eq word (codes "done") then Some (Ask (ask.Done number))
        else if bytes_eq word (codes "fail") then Some (Ask (ask.Fail number))
        else None

-- the line of a command, if it is one
abbrev pub line_with : Option Command → Line Command
line_with None = Bad
line_with (Some command) = Holds command

-- a line by its words
abbrev pub line_of : List (List ℕ) → Line Command
line_of [] = Blank
line_of (word ∷ []) = line_with (bare_command word)
line_of (word ∷ number ∷ []) = line_with (numbered_command word number)
line_of (word ∷ other ∷ third ∷ more) = Bad

-- what a session is
pub data SessionText (A : Type 0) : Type 0 where
  commands : List A → SessionText A
  -- its least line that is not as it must be
  bad_line : ℕ → SessionText A

-- the command before those of the session
abbrev pub with_command : {A : Type 0} → A → SessionText A → SessionText A
with_command command (commands more) = commands (command ∷ more)
with_command command (bad_line line) = bad_line line

-- the session that begins with the line of that number, before the rest
abbrev pub with_line : {A : Type 0} → ℕ → Line A → SessionText A → SessionText A
with_line number Blank rest = rest
with_line number (Holds command) rest = with_command command rest
with_line number Bad rest = bad_line number

-- the lines of a session from the one of that number on, by what is said of the words of a line: no line is numbered MOST_LINES or more
abbrev pub session_from : {A : Type 0} → (List (List ℕ) → Line A) → ℕ → List (List ℕ) → SessionText A
session_from said number [] = commands []
session_from said number (line ∷ lines) =
    if nat_lt number MOST_LINES then with_line number (said (words_of line)) (session_from said (number + 1) lines)
    else bad_line number

-- a text whose lines say this
abbrev pub session_by : {A : Type 0} → (List (List ℕ) → Line A) → List ℕ → SessionText A
session_by said text = session_from said 0 (lines_of (without_returns text))

-- the text of a session of a run
abbrev pub session_of : List ℕ → SessionText Command
session_of text = session_by line_of text
