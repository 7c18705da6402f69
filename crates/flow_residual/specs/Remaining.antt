-- What is still possible: the options, the journal so far, and the leaves that are banned.
use Rattle.std.specs.Prelude.{◌≡◌, ℕ, List, [], ◌∷◌, map}
use Rattle.std.proofs.Common.{refl}
use Rattle.std.specs.Coded.{Coded, code_by, coded×, coded_ℕ, coded_list}
use Rattle.flow_model.specs.Lists.{◌∈◌}
use Rattle.flow_model.specs.Stored.{option_code}
use Rattle.flow_model.specs.Schema.{Schema}
use Rattle.flow_model.specs.Resolution.{ChoiceOption}
use Rattle.flow_model.specs.Ready.{DoneOr}
use Rattle.flow_model.specs.Folding.{folded_options}
use Rattle.flow_model.specs.FoldedReady.{IsFoldedReady, IsFoldedRun}
use Rattle.flow_model.specs.FoldedRun.{CanAvoid}
use Rattle.flow_model.specs.Run.{RunState, IsFree}
use Rattle.flow_laws.specs.WellFormed.{IsWellFormed}
use Rattle.flow_plan.specs.Options.{HasExecution, AreJustThose}

pub record Remaining : Type 0 where
  -- those that have an execution
  pub options : List ChoiceOption
  -- the leaves that count, in order
  pub journal : List ℕ
  -- a length of the journal, and the leaf that was banned there
  pub bans : List (ℕ × ℕ)

abbrev pub remaining_code : Coded Remaining
remaining_code = code_by (List ChoiceOption × (List ℕ × List (ℕ × ℕ)))
    (coded× (coded_list option_code) (coded× (coded_list coded_ℕ) (coded_list (coded× coded_ℕ coded_ℕ))))
    (λ r. (r.options, (r.journal, r.bans))) (λ p. record { options = p.0; journal = p.1.0; bans = p.1.1 }) (λ _. refl)

-- it is what remains of the workflow in that state
pub record IsOf (w : Schema) (s : RunState) (r : Remaining) : Type 0 where
  pub well_formed : IsWellFormed w
  -- just the options of the workflow that have an execution; the choices stay of which no constraint speaks
  pub options_are : AreJustThose HasExecution (folded_options w) r.options
  pub journal_is : s.journal ≡ r.journal
  pub bans_are : s.bans ≡ r.bans

-- some free trace lacks the leaf
abbrev pub IsAvoidable : Schema → RunState → ℕ → Type 0
IsAvoidable w s leaf = (t : List ℕ) × IsFree w s t × ¬ (leaf ∈ t)

-- the leaves that are banned
abbrev pub banned : List (ℕ × ℕ) → List ℕ
banned bans = map (λ ban. ban.1) bans

-- the option can go on without the banned leaves once these are done besides
abbrev pub StillAvoids : Remaining → List ℕ → ChoiceOption → Type 0
StillAvoids r list o = CanAvoid o.resolution (DoneOr (λ n. n ∈ r.journal) list) (λ n. n ∈ banned r.bans)

-- the journal is a ready run of the option, which can go on without the banned leaves
pub record IsLive (r : Remaining) (o : ChoiceOption) : Type 0 where
  pub among : o ∈ r.options
  pub avoids : CanAvoid o.resolution (λ n. n ∈ r.journal) (λ n. n ∈ banned r.bans)
  pub journal_ready : IsFoldedRun o.resolution o.order r.journal

-- in some live option the leaf may come next, and the option stays live with it
abbrev pub MayComeNext : Remaining → ℕ → Type 0
MayComeNext r leaf = (o : ChoiceOption) × IsLive r o × IsFoldedReady o.resolution o.order (λ n. n ∈ r.journal) leaf × StillAvoids r (leaf ∷ []) o
