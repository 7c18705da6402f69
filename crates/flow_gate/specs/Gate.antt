-- What gates answer, compared.
use Rattle.std.specs.Prelude.{Bool, true, false}
use Rattle.flow_model.specs.declared.history.Outcome.{Outcome}
use Rattle.flow_model.specs.declared.history.Outcome.TheVariants.{Done, Failed}

-- the two are one outcome
abbrev pub is_same : Outcome → Outcome → Bool
is_same Done Done = true
is_same Done Failed = false
is_same Failed Done = false
is_same Failed Failed = true
