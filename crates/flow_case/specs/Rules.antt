-- The rules of a case besides duties: which events are final, who may step back, who may end the run.
use Rattle.std.specs.Prelude.{◌≡◌, ℕ, Bool, false, IsTrue, List, ◌∷◌, ◌++◌, drop, Some, get_or}
use Rattle.std.proofs.Common.{refl}
use Rattle.std.specs.Coded.{Coded, code_by, coded×, coded_bool, coded_list}
use Rattle.flow_model.specs.declared.history.Entry.{Entry}
use Rattle.flow_model.specs.declared.history.Step.{Step}
use Rattle.flow_model.specs.declared.history.Step.TheVariants.{Rewound, Committed}
use Rattle.flow_model.specs.Lists.{Each}
use Rattle.flow_model.specs.Facts.{event_at}
use Rattle.flow_model.specs.Schema.{Schema}
use Rattle.flow_model.specs.Run.{RunState, state_of}

pub record Rules : Type 0 where
  -- for each event, whether it is final
  pub finals : List Bool
  -- for each number of a user, from 0, whether the user may step back, and whether the user may end the run
  pub back : List Bool
  pub close : List Bool

abbrev pub rules_code : Coded Rules
rules_code = code_by (List Bool × (List Bool × List Bool)) (coded× (coded_list coded_bool) (coded× (coded_list coded_bool) (coded_list coded_bool)))
    (λ r. (r.finals, (r.back, r.close))) (λ t. record { finals = t.0; back = t.1.0; close = t.1.1 }) (λ _. refl)

-- the number is marked
abbrev pub IsMarked : List Bool → ℕ → Type 0
IsMarked marks n = IsTrue (get_or marks n false)

-- the leaf is a final event's
abbrev pub IsFinalLeaf : Schema → Rules → ℕ → Type 0
IsFinalLeaf w rules leaf = (event : ℕ) × (event_at w.labels leaf ≡ Some event) × IsMarked rules.finals event

-- no leaf is a final event's
abbrev pub HasNoFinal : Schema → Rules → List ℕ → Type 0
HasNoFinal w rules leaves = Each (λ n. ¬ (IsFinalLeaf w rules n)) leaves

-- it is the first leaf of a final event
abbrev pub IsFirstFinal : Schema → Rules → List ℕ → ℕ → Type 0
IsFirstFinal w rules leaves leaf = (before after : List ℕ) × (leaves ≡ before ++ leaf ∷ after) × HasNoFinal w rules before × IsFinalLeaf w rules leaf

-- The rules let the user make that step in the state: a step back, where the user may step back, and what it cuts from the journal has no
-- leaf of a final event; the end, where the user may end the run; any other step.
abbrev pub IsLet : Schema → Rules → RunState → ℕ → Step → Type 0
IsLet w rules s by (Rewound index) = IsMarked rules.back by × HasNoFinal w rules (drop index s.journal)
IsLet w rules s by Committed = IsMarked rules.close by
IsLet w rules s by other = Unit {0}

-- the rules let each entry of the history, in the state that those before it leave
abbrev pub KeepsRules : Schema → Rules → List Entry → Type 0
KeepsRules w rules history = (earlier later : List Entry) (entry : Entry) → history ≡ earlier ++ entry ∷ later →
    IsLet w rules (state_of w earlier) entry.by entry.step
