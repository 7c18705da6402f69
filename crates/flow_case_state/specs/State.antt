-- How a case stands: by what its run can do next, and by whether duties leave that to somebody.
use Rattle.std.specs.Prelude.{◌≡◌, ℕ, []}
use Rattle.flow_model.specs.Run.{current_claims}
use Rattle.flow_core.specs.declared.next.Next.TheVariants as next
use Rattle.flow_core.specs.Run.{Run, now}
use Rattle.flow_core.specs.Next.{CanAct, IsNext}
use Rattle.flow_roles.specs.Desked.{Desked}
use Rattle.flow_case_state.specs.declared.state.CaseState.{CaseState}
use Rattle.flow_case_state.specs.declared.state.CaseState.TheVariants.{Open, Waiting, Finished, StuckByFacts, StuckByDuties, Committed}
use Rattle.flow_case_state.specs.Takers.{IsForNone}

-- something can be taken or done
abbrev pub CanGoOn : Run → Type 0
CanGoOn r = (leaf : ℕ) × IsNext r (next.Act leaf)

-- without a policy
abbrev pub StandsFree : Run → CaseState → Type 0
StandsFree r Committed = IsNext r next.Ended
-- nothing is left but the end
StandsFree r Finished = IsNext r next.Finished
-- a task is out, and nothing can be taken or done
StandsFree r Waiting = (claim : ℕ) × IsNext r (next.Wait claim)
-- nothing is out, and nothing can be taken or done but tests that are false now
StandsFree r StuckByFacts = (leaf : ℕ) × IsNext r (next.Stuck leaf)
StandsFree r StuckByDuties = ⊥
StandsFree r Open = CanGoOn r

-- nothing is out, and each leaf that can be taken or done is that of a task which duties leave to none of the users
pub record IsBarred (d : Desked) (users : ℕ) : Type 0 where
  pub none_out : current_claims (now d.run) ≡ []
  pub none_free : (leaf : ℕ) → CanAct d.run leaf → IsForNone d users leaf

-- under a policy
abbrev pub StandsUnder : Desked → ℕ → CaseState → Type 0
StandsUnder d users StuckByDuties = CanGoOn d.run × IsBarred d users
StandsUnder d users Open = CanGoOn d.run × ¬ (IsBarred d users)
StandsUnder d users Committed = StandsFree d.run Committed
StandsUnder d users Finished = StandsFree d.run Finished
StandsUnder d users Waiting = StandsFree d.run Waiting
StandsUnder d users StuckByFacts = StandsFree d.run StuckByFacts
