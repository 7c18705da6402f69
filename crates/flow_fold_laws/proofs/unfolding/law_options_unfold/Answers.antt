use Rattle.flow_fold_laws.proofs.UnfoldedOptions.{folded_option_of, unfolding_is_option, unfolding_is_of_one, folded_option_is_ordered, option_trace_unfolds, trace_of_unfolding}
use Rattle.flow_fold_laws.proofs.unfolding.law_options_unfold.Goals as goal

pub returns-clause-options : goal.returns-clause-options
returns-clause-options c = λ apart w f keeps u. (folded_option_of apart w keeps u, λ (o, m, h). unfolding_is_option apart w keeps o u m h)

pub returns-clause-of_one : goal.returns-clause-of_one
returns-clause-of_one c = λ apart w f keeps. unfolding_is_of_one apart w f

pub returns-clause-ordered : goal.returns-clause-ordered
returns-clause-ordered c = λ apart w f. folded_option_is_ordered apart w f

pub returns-clause-traces : goal.returns-clause-traces
returns-clause-traces c = λ o t. (option_trace_unfolds o t, λ (u, k, h). trace_of_unfolding o u t k h)
