use Rattle.flow_laws.proofs.OptionsLemmas.{option_of_good, option_trace_is_good}
use Rattle.flow_laws.proofs.ways.law_options_cover_good_traces.Goals as goal

pub returns : goal.returns
returns c = λ w f t. (option_of_good w f t, λ (o, m, h). option_trace_is_good w f t o m h)
