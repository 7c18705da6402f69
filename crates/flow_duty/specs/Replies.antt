-- What is replied to the lines of users, who calls from then on, and the desk that comes of them.
use Rattle.std.specs.Prelude.{◌≡◌, ◌≤◌, ◌-◌, ◌⊎◌, ℕ, List, ◌++◌, Some, slice_get, codes}
use Rattle.flow_model.specs.Lists.{◌∈◌}
use Rattle.flow_record.specs.declared.command.Command.{Command as RunCommand}
use Rattle.flow_policy.specs.Assigned.{Assigned}
use Rattle.flow_policy.specs.declared.duty.Duty.{Duty}
use Rattle.flow_policy.specs.declared.duty.Duty.TheVariants.{As, Command}
use Rattle.flow_roles.specs.Desked.{Desked}
use Rattle.flow_roles.specs.Ask.{DeskAnswers}
use Rattle.flow_reply.specs.Replies.{Replies, Given, Goes, GoesPart}

-- the user of that name has the number
abbrev pub IsUser : Assigned → List ℕ → ℕ → Type 0
IsUser a name user = (slice_get a.users (user - 1) ≡ Some name) × (1 ≤ user)

-- the reply to a name that is called, and who calls from then on: its user, or, where it is none's, whoever called before
abbrev pub CallsAs : Assigned → ℕ → List ℕ → List ℕ → ℕ → Type 0
CallsAs a by name line caller =
    (IsUser a name caller × (line ≡ codes "as " ++ name ++ codes "\n")) ⊎ (¬ (name ∈ a.users) × (caller ≡ by) × (line ≡ codes "refused user\n"))

-- who calls from then on, whatever was told
abbrev pub IsCalled : Assigned → ℕ → List ℕ → ℕ → Type 0
IsCalled a by name caller = IsUser a name caller ⊎ (¬ (name ∈ a.users) × (caller ≡ by))

abbrev pub IsSame : Desked → Desked → Type 0
IsSame one other = other ≡ one

-- the desk replies to the caller's command by this line, and is this afterwards
abbrev pub RepliesToCommand : Desked → ℕ → RunCommand → List ℕ → Desked → Type 0
RepliesToCommand d by command line after = Replies (λ desk. desk.run) DeskAnswers IsSame by d command line after

-- the reply to a line, the desk afterwards, and who calls from then on
abbrev pub RepliesToLine : Desked → ℕ → Duty → List ℕ → Desked → ℕ → Type 0
RepliesToLine d by (As name) line after caller = CallsAs d.assigned by name line caller × (after ≡ d)
RepliesToLine d by (Command command) line after caller = RepliesToCommand d by command line after × (caller ≡ by)

-- the line was given, whatever was told of it
abbrev pub IsLineGiven : Desked → ℕ → Duty → Desked → ℕ → Type 0
IsLineGiven d by (As name) after caller = IsCalled d.assigned by name caller × (after ≡ d)
IsLineGiven d by (Command command) after caller = Given DeskAnswers IsSame by d command after × (caller ≡ by)

-- ---- a desk, and who calls at it

abbrev pub Replied : Desked × ℕ → Duty → List ℕ → Desked × ℕ → Type 0
Replied s line reply t = RepliesToLine s.0 s.1 line reply t.0 t.1

abbrev pub WasGiven : Desked × ℕ → Duty → Desked × ℕ → Type 0
WasGiven s line t = IsLineGiven s.0 s.1 line t.0 t.1

-- the desk replies to the lines of a session, one after another, by these; it is this afterwards, and this one calls then
abbrev pub DrivesDesk : Desked → ℕ → List Duty → List ℕ → Desked → ℕ → Type 0
DrivesDesk d by lines text after caller = Goes Replied (d, by) lines text (after, caller)

-- the first of the lines, none or some or all of them, were given, and no other; the desk is this afterwards, and this one calls then
abbrev pub IsFrontGiven : Desked → ℕ → List Duty → Desked → ℕ → Type 0
IsFrontGiven d by lines after caller = GoesPart WasGiven (d, by) lines (after, caller)
