use Rattle.std.proofs.Common.{[], append-nil, sym}
use Rattle.flow_model.specs.Run.{state_of}
use Rattle.flow_laws.proofs.NeverAtALoss.{sound_state, not_at_a_loss, never_stuck}
use Rattle.flow_laws.proofs.histories.law_never_at_a_loss.Goals as goal

pub returns-clause-goes_on : goal.returns-clause-goes_on
returns-clause-goes_on c = λ w f consistent limit history legal uncommitted unfinished.
    not_at_a_loss w f (state_of w history) (sound_state w f consistent limit history legal history ([], sym (append-nil history))) unfinished

pub returns-clause-without_tests : goal.returns-clause-without_tests
returns-clause-without_tests c = λ w f consistent never limit history legal.
    never_stuck w f never (state_of w history) (sound_state w f consistent limit history legal history ([], sym (append-nil history)))
