-- Which rule of a case bars an ask.
use Rattle.std.specs.Prelude.{◌≡◌, ℕ, [], drop}
use Rattle.flow_model.specs.declared.history.Step.TheVariants.{Rewound}
use Rattle.flow_model.specs.Run.{current_claims}
use Rattle.flow_ask.specs.declared.ask.Ask.{Ask}
use Rattle.flow_ask.specs.declared.ask.Ask.TheVariants as ask
use Rattle.flow_ask.specs.declared.refusal.Refusal.{Refusal}
use Rattle.flow_ask.specs.declared.refusal.Refusal.TheVariants as refusal
use Rattle.flow_core.specs.Run.{Run, schema, now, IsUncommitted, HasEntryLeft}
use Rattle.flow_core.specs.Make.{CanMake}
use Rattle.flow_case.specs.declared.bar.Bar.{Bar}
use Rattle.flow_case.specs.declared.bar.Bar.TheVariants as bar
use Rattle.flow_case.specs.Rules.{IsMarked, IsFirstFinal, IsLet}
use Rattle.flow_case.specs.Ruled.{Ruled}

-- a rule, as the refusal of an ask
abbrev pub of_bar : Bar → Refusal
of_bar bar.Back = refusal.Back
of_bar (bar.Final leaf) = refusal.Final leaf
of_bar bar.Close = refusal.Close

-- the run is not over, has an entry left, and no claim is out
abbrev pub CanClose : Run → Type 0
CanClose r = IsUncommitted r × HasEntryLeft r × (current_claims (now r) ≡ [])

-- It is the first rule that bars the user's ask. A step back that the run can make: the user may not step back; then the first leaf of a
-- final event among those that the step would cut. The end of a run with no claim out: the user may not end the run.
abbrev pub IsBarred : Ruled → Ask → ℕ → Bar → Type 0
IsBarred c ask.Rewind by bar.Back = ((index : ℕ) × CanMake c.desk.run (Rewound index)) × ¬ (IsMarked c.rules.back by)
IsBarred c ask.Rewind by (bar.Final leaf) = IsMarked c.rules.back by
    × ((index : ℕ) × CanMake c.desk.run (Rewound index) × IsFirstFinal (schema c.desk.run) c.rules (drop index (now c.desk.run).journal) leaf)
IsBarred c ask.Commit by bar.Close = CanClose c.desk.run × ¬ (IsMarked c.rules.close by)
IsBarred c other by rule = ⊥

-- no rule bars it
abbrev pub IsUnbarred : Ruled → Ask → ℕ → Type 0
IsUnbarred c ask.Rewind by = (index : ℕ) → CanMake c.desk.run (Rewound index) → IsLet (schema c.desk.run) c.rules (now c.desk.run) by (Rewound index)
IsUnbarred c ask.Commit by = CanClose c.desk.run → IsMarked c.rules.close by
IsUnbarred c other by = Unit {0}
