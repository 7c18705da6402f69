use Rattle.flow_gen.proofs.Steps.{two_put}
use Rattle.flow_gen.proofs.goals.halves.Goals as goal

pub returns : goal.returns
returns c = two_put _ _ _ _ _ _ _ c.new-forms.ensures.items c.in_ok-push.ensures.items c.in_ok-push-2.ensures.items c.in_ok-first_half.ensures c.in_ok-series_of.ensures
