use Rattle.std.proofs.Common.{add-one, refl, sym, ◌∙◌}
use Rattle.std.proofs.lemmas.List.{take_rest}
use Rattle.flow_record.proofs.LineLemmas.{cut_at_place}
use Rattle.flow_desk.proofs.report.cut_line.Goals as goal

pub returns-in-Some-clause-cut : goal.returns-in-Some-clause-cut
returns-in-Some-clause-cut c = cut_at_place 10 c.args.text.now ∙ rw (sym c.feed_place.ensures ∙ c.in-Some.is, take_rest, add-one) refl

pub returns-in-None-clause-cut : goal.returns-in-None-clause-cut
returns-in-None-clause-cut c = cut_at_place 10 c.args.text.now ∙ rw (sym c.feed_place.ensures ∙ c.in-None.is) refl
