-- How far a run that was found is made.
use Rattle.std.specs.Prelude.{◌≡◌, ◌≤◌, ◌*◌, ℕ, IsTrue, false, List, [], ◌∷◌, ◌++◌, length, Some}
use Rattle.flow_model.specs.Duties.{Duties, HasRole}
use Rattle.flow_model.specs.Facts.{HoldsAt, event_at, events_of, replay}
use Rattle.flow_model.specs.Lists.{Begins, Each}
use Rattle.flow_model.specs.Run.{Claim, RunState}
use Rattle.flow_model.specs.Schema.{Schema, IsGood, start_of}
use Rattle.flow_model.specs.Takers.{Takings, takings_of, IsTakenBy}
use Rattle.flow_core.specs.Run.{schema, now}
use Rattle.flow_core.specs.Answers.{next_claim}
use Rattle.flow_case.specs.Ruled.{Ruled}
use Rattle.flow_stages.specs.Asked.{IsEventOf}
use Rattle.flow_stages.specs.Fitting.{GoesWith}
use Rattle.flow_stages.specs.declared.wanted.Wanted.TheVariants.{Anybody}

-- just these leaves are done, in this order, each event by its taker; each claim is answered, and nothing was switched
pub record AreDoneIn (w : Schema) (s : RunState) (t : Takings) (leaves : List ℕ) (to : ℕ → ℕ) : Type 0 where
  pub going : s.committed ≡ false
  pub journal : s.journal ≡ leaves
  pub no_ban : s.bans ≡ []
  pub answered : Each (λ (claim : Claim). IsTrue claim.answered) s.claims
  pub claims : length s.claims ≡ length (events_of w.labels leaves)
  pub takers : (n user event : ℕ) → event_at w.labels n ≡ Some event → IsTakenBy s t n user → user ≡ to event

-- they are in the run, with at most two entries each, and it has room for two of each leaf
pub record AreDone (c : Ruled) (leaves : List ℕ) (to : ℕ → ℕ) : Type 0 where
  pub done : AreDoneIn (schema c.desk.run) (now c.desk.run) (takings_of c.desk.run.history) leaves to
  pub entries : length c.desk.run.history ≤ 2 * length leaves
  pub room : 2 * length (schema c.desk.run).labels ≤ c.desk.run.limit

-- after these leaves the leaf may come next in some good trace, its label holds, and its taker may have its event beside theirs
pub record MayComeNext (w : Schema) (d : Duties) (leaves : List ℕ) (to : ℕ → ℕ) (leaf : ℕ) : Type 0 where
  pub goes_on : (t : List ℕ) × IsGood w t × Begins t (leaves ++ leaf ∷ [])
  pub holds : HoldsAt w.labels (replay w.labels (start_of w) leaves) leaf
  pub role : (event : ℕ) → event_at w.labels leaf ≡ Some event → HasRole d (to event) event
  pub beside : (event other : ℕ) → event_at w.labels leaf ≡ Some event → IsEventOf w leaves other → GoesWith d Anybody event (to event) other (to other)

-- it may be done next in the run, under that claim where it is an event's
pub record IsNext (c : Ruled) (leaves : List ℕ) (to : ℕ → ℕ) (leaf claim : ℕ) : Type 0 where
  pub so_far : AreDone c leaves to
  pub next : MayComeNext (schema c.desk.run) c.desk.assigned.duties leaves to leaf
  pub number : claim ≡ next_claim c.desk.run
