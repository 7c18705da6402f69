-- What a run could make.
use Rattle.std.proofs.Common.{◌≡◌, ℕ, [], subst}
use Rattle.flow_model.specs.declared.history.Step.TheVariants.{Rewound, Committed}
use Rattle.flow_model.specs.Schema.{IsGood}
use Rattle.flow_model.specs.Run.{current_claims, IsCurrent, IsOpen, IsOpenIndex}
use Rattle.flow_core.specs.Run.{Run, schema, now, IsUncommitted, HasEntryLeft}
use Rattle.flow_core.specs.Make.{CanMake}
use Rattle.flow_core.specs.Answers.{IsLeast}
use Rattle.flow_case.proofs.Finals as finals
use Rattle.flow_case.proofs.Governed.{open_once}

-- the place to which the run could step back is the last open one
pub last_open : (r : Run) (last index : ℕ) → IsOpenIndex (schema r) (now r) last → CanMake r (Rewound index) → last ≡ index
last_open r last index is can = open_once (schema r) (now r) last index is can.allowed

pub back_there : (r : Run) (last index : ℕ) → IsUncommitted r → HasEntryLeft r → IsOpenIndex (schema r) (now r) last → last ≡ index → CanMake r (Rewound index)
back_there r last index going room is same = record { going = going; room = room; allowed = subst (IsOpenIndex (schema r) (now r)) same is }

pub no_way_back : (r : Run) (index : ℕ) → ((i : ℕ) → ¬ (IsOpen (schema r) (now r) i)) → CanMake r (Rewound index) → ⊥
no_way_back r index none can = none index can.allowed.0

pub claim_out : (r : Run) (claim : ℕ) → IsLeast (IsCurrent (now r)) claim → CanMake r Committed → ⊥
claim_out r claim least can = finals.claim_out r claim least can.allowed.0

pub can_end : (r : Run) → IsUncommitted r → HasEntryLeft r → current_claims (now r) ≡ [] → IsGood (schema r) (now r).journal → CanMake r Committed
can_end r going room none good = record { going = going; room = room; allowed = (none, good) }
