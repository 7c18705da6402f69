-- What is known of the claims that a run has given.
use Rattle.std.specs.Prelude.{◌≡◌, ◌-◌, ℕ, Bool, false, ◌==◌, IsSomeAnd, Some, List, take, drop, count_by, slice_get}
use Rattle.std.proofs.Common.{refl}
use Rattle.std.specs.Coded.{Coded, code_by, coded×, coded_ℕ, coded_bool, coded_list}
use Rattle.flow_model.specs.Lists.{◌∈◌}
use Rattle.flow_model.specs.Run.{Claim, RunState, first_state, claim_at}
use Rattle.flow_residual.specs.declared.given.Given.{Given}
use Rattle.flow_residual.specs.Given.{claim_of}

pub record Claimed : Type 0 where
  -- all claims given, in order
  pub claims : List Claim
  -- the event of each
  pub events : List ℕ
  -- to whom each was given
  pub takers : List ℕ
  -- the present one
  pub epoch : ℕ
  -- so many may be given in all
  pub room : ℕ
  -- the events are below it
  pub kinds : ℕ

abbrev claim_code : Coded Claim
claim_code = code_by (ℕ × (ℕ × (ℕ × Bool))) (coded× coded_ℕ (coded× coded_ℕ (coded× coded_ℕ coded_bool)))
    (λ c. (c.number, (c.leaf, (c.epoch, c.answered))))
    (λ p. record { number = p.0; leaf = p.1.0; epoch = p.1.1.0; answered = p.1.1.1 }) (λ _. refl)

abbrev pub claimed_code : Coded Claimed
claimed_code = code_by (List Claim × (List ℕ × (List ℕ × (ℕ × (ℕ × ℕ)))))
    (coded× (coded_list claim_code) (coded× (coded_list coded_ℕ) (coded× (coded_list coded_ℕ) (coded× coded_ℕ (coded× coded_ℕ coded_ℕ)))))
    (λ c. (c.claims, (c.events, (c.takers, (c.epoch, (c.room, c.kinds))))))
    (λ p. record { claims = p.0; events = p.1.0; takers = p.1.1.0; epoch = p.1.1.1.0; room = p.1.1.1.1.0; kinds = p.1.1.1.1.1 }) (λ _. refl)

-- a state of a run with these claims
abbrev pub run_of : Claimed → RunState
run_of c = record first_state { claims = c.claims; epoch = c.epoch }

-- how often the event is among the events
abbrev pub count_of : ℕ → List ℕ → ℕ
count_of event events = count_by (λ other. other == event) events

-- the claim was given, and is not answered
abbrev pub IsUnanswered : RunState → ℕ → Type 0
IsUnanswered s number = IsSomeAnd (claim_at s number) (λ (claim : Claim). claim.answered ≡ false)

-- the claim of that number, its event, its taker, and how many claims up to it were given on the event
pub record IsGivenAt (c : Claimed) (number : ℕ) (given : Given) : Type 0 where
  pub claim : claim_at (run_of c) number ≡ Some (claim_of number given)
  pub event : slice_get c.events (number - 1) ≡ Some given.event
  pub taker : slice_get c.takers (number - 1) ≡ Some given.by
  pub attempt : given.attempt ≡ count_of given.event (take number c.events)

-- it is the last claim on the event
pub record IsLastOn (c : Claimed) (event : ℕ) (given : Given) : Type 0 where
  pub number : ℕ
  pub is_given : IsGivenAt c number given
  pub on_event : given.event ≡ event
  pub none_later : ¬ (event ∈ drop number c.events)
