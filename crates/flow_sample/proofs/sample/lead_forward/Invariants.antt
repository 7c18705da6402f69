use Rattle.std.proofs.Common.{◌<◌, take}
use Rattle.flow_model.specs.Lists.{Each}
use Rattle.flow_sample.proofs.sample.lead_forward.Given as goal

abbrev pub invariant-loop-token : goal.invariant-loop-token
invariant-loop-token l = Each (λ token. token.sender < token.receiver) (take l.token-index l.tokens)
