-- What a judge tells of a set of constraints.
use Rattle.flow_conflict.specs.declared.judge.Judged.{Judged}
use Rattle.flow_conflict.specs.declared.judge.Judged.TheVariants.{Met, Unmet, Unknown}

-- by whether the set can be judged within the limits, and whether all of it can be met together
abbrev pub Tells : Type 0 → Type 0 → Judged → Type 0
Tells within met Met = within × met
Tells within met Unmet = within × ¬ met
Tells within met Unknown = ¬ within
