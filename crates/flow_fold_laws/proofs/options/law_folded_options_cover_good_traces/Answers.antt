use Rattle.flow_fold_laws.proofs.UnfoldedOptions.{folded_option_of_good, folded_option_trace_is_good}
use Rattle.flow_fold_laws.proofs.options.law_folded_options_cover_good_traces.Goals as goal

pub returns : goal.returns
returns c = λ apart w f keeps t. (folded_option_of_good apart w f keeps t, λ (o, m, h). folded_option_trace_is_good apart w f keeps t o m h)
