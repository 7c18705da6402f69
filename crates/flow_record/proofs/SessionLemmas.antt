-- A session read line by line.
use Rattle.std.proofs.Common.{◌≡◌, ℕ, ◌≤◌, ◌<◌, List, ◌++◌, length, refl, ◌∙◌}
use Rattle.std.proofs.lemmas.Bool.{le-ltb}
use Rattle.flow_model.specs.declared.limits.TheConstants.{MOST_LINES}
use Rattle.flow_record.specs.declared.line.Line.{Line}
use Rattle.flow_record.specs.Lines.{without_returns, lines_of}
use Rattle.flow_record.specs.Session.{SessionText, commands, bad_line, session_from}
use Rattle.flow_record.proofs.LineLemmas.{some_line}

-- the commands before those of the session
abbrev pub with_commands : {A : Type 0} → List A → SessionText A → SessionText A
with_commands front (commands more) = commands (front ++ more)
with_commands front (bad_line line) = bad_line line

-- the session is what was read and what is left, from the line of that number on
abbrev pub IsReadTo : {A : Type 0} → (List (List ℕ) → Line A) → SessionText A → List A → ℕ → List ℕ → Type 0
IsReadTo said session front number rest =
    session ≡ with_commands front (session_from said number (lines_of (without_returns rest)))

-- where so many lines were read, the next one is bad
pub too_many : {A : Type 0} → (said : List (List ℕ) → Line A) (session : SessionText A) (front : List A) (number : ℕ) (rest : List ℕ) →
    IsReadTo said session front number rest → 0 < length rest → MOST_LINES ≤ number → session ≡ bad_line number
too_many said session front number rest read some many =
    let line = some_line rest some in
    read ∙ rw (line.1.1, le-ltb number MOST_LINES many) refl
