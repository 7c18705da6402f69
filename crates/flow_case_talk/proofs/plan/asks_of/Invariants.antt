use Rattle.std.proofs.Common.{◌≡◌, map, take}
use Rattle.flow_ask.specs.declared.ask.Ask.TheVariants.{Do}
use Rattle.flow_case_talk.proofs.plan.asks_of.Given as goal

abbrev pub invariant-loop-step : goal.invariant-loop-step
invariant-loop-step l = l.asks.items ≡ map Do (take l.step-index l.steps)
