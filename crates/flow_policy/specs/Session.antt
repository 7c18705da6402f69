-- What the text of a session of users says: that of a session of a run, with a further command.
use Rattle.std.specs.Prelude.{ℕ, ◌&&◌, if◌then◌else◌, List, [], ◌∷◌, Option, Some, None, codes}
use Rattle.std.specs.Str.{bytes_eq}
use Rattle.flow_record.specs.declared.command.Command.{Command as RunCommand}
use Rattle.flow_record.specs.declared.line.Line.{Line}
use Rattle.flow_record.specs.declared.line.Line.TheVariants.{Blank, Holds, Bad}
use Rattle.flow_record.specs.Session.{line_of, SessionText, session_by}
use Rattle.flow_policy.specs.Names.{is_name}
use Rattle.flow_policy.specs.declared.duty.Duty.{Duty}
use Rattle.flow_policy.specs.declared.duty.Duty.TheVariants.{As, Command}

-- the name of the user who calls, where the words are `as` and a name
abbrev pub name_called : List (List ℕ) → Option (List ℕ)
name_called (word ∷ name ∷ []) = if bytes_eq word (codes "as") && is_name name then Some name else None
name_called other = None

-- a command of a run, as a line of a session of users
abbrev pub of_run : Line RunCommand → Line Duty
of_run Blank = Blank
of_run (Holds command) = Holds (Command command)
of_run Bad = Bad

abbrev pub called_or : Line Duty → Option (List ℕ) → Line Duty
called_or line None = line
called_or line (Some name) = Holds (As name)

-- a line by its words
abbrev pub duty_line : List (List ℕ) → Line Duty
duty_line words = called_or (of_run (line_of words)) (name_called words)

-- the text of a session of users
abbrev pub duties_of : List ℕ → SessionText Duty
duties_of text = session_by duty_line text
