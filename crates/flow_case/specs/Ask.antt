-- What the run of a case under a policy answers, and which entries it makes.
use Rattle.std.specs.Prelude.{◌≡◌, ◌⊎◌, ℕ, Result, Err}
use Rattle.flow_model.specs.declared.history.Entry.{Entry}
use Rattle.flow_ask.specs.declared.ask.Ask.{Ask}
use Rattle.flow_ask.specs.declared.made.Made.{Made}
use Rattle.flow_ask.specs.declared.refusal.Refusal.{Refusal}
use Rattle.flow_roles.specs.Ask.{DeskAnswers, CanMakeAt}
use Rattle.flow_case.specs.declared.bar.Bar.{Bar}
use Rattle.flow_case.specs.Ruled.{Ruled, MayLet}
use Rattle.flow_case.specs.Bar.{of_bar, IsBarred, IsUnbarred}

-- a rule bars the ask, which changes nothing; or none does, and the desk answers
abbrev pub RuledAnswers : Ruled → Ask → ℕ → Result Made Refusal → Ruled → Type 0
RuledAnswers c what by answer after =
    ((rule : Bar) × IsBarred c what by rule × (answer ≡ Err (of_bar rule)) × (after ≡ c))
    ⊎ (IsUnbarred c what by × DeskAnswers c.desk what by answer after.desk × (after.rules ≡ c.rules))

-- the entry may be made next, and duties and rules leave it to its caller
abbrev pub CanMakeRuled : Ruled → Entry → Type 0
CanMakeRuled c entry = MayLet c entry × CanMakeAt c.desk entry
