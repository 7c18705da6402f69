use Rattle.std.proofs.Common.{sym}
use Rattle.std.proofs.lemmas.List.{length-map}
use Rattle.flow_plan.specs.Options.{options_of}
use Rattle.flow_residual.proofs.Starting.{all_start}
use Rattle.flow_residual.proofs.residual.Room.new.Goals as goal

pub returns-clause-fronts : goal.returns-clause-fronts
returns-clause-fronts c = all_start (options_of c.args.plans.now) _ _ (c.in_ok-vec.ensures.items_if_clones_equal (λ y same. same)) (sym (length-map _ _))
