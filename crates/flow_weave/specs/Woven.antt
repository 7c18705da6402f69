-- What a plan is woven of.
use Rattle.flow_model.specs.Process.{Process}
use Rattle.flow_model.specs.Resolution.{ChoiceOption}
use Rattle.flow_rules.specs.declared.order_set.OrderSet.{OrderSet}

-- the option of a resolution and an order
abbrev pub option_with : Process → OrderSet → ChoiceOption
option_with q order = record { resolution = q; order = order.pairs.items }
