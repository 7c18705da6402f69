-- The claims that are out after a history.
use Rattle.std.specs.Prelude.{◌≡◌, ℕ, List, map, Some, slice_get}
use Rattle.flow_model.specs.declared.history.Entry.{Entry}
use Rattle.flow_model.specs.declared.history.Step.TheVariants.{Took}
use Rattle.flow_model.specs.Lists.{Each}
use Rattle.flow_model.specs.Schema.{Schema}
use Rattle.flow_model.specs.Run.{state_of, IsCurrent}
use Rattle.flow_model.specs.Verdict.{call_of, AreJust}
use Rattle.flow_standing.specs.declared.claims.Out.{Out}

abbrev pub number_of_out : Out → ℕ
number_of_out out = out.call.claim

-- it has the leaf, the event and the attempt of its claim, and the entry at its place gave that claim to its holder
pub record IsGiven (w : Schema) (history : List Entry) (out : Out) : Type 0 where
  pub call : out.call ≡ call_of w (state_of w history) out.call.claim
  pub entry : slice_get history out.place ≡ Some (record { by = out.holder; step = Took out.call.claim out.call.leaf })

-- they are exactly the current claims, by rising number, each as it was given
pub record AreClaimsOut (w : Schema) (history : List Entry) (outs : List Out) : Type 0 where
  pub claims : AreJust (IsCurrent (state_of w history)) (map number_of_out outs)
  pub each : Each (IsGiven w history) outs
