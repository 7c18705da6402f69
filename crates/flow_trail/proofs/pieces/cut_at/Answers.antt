use Rattle.std.proofs.Common.{add-one, refl, sym, ◌∙◌}
use Rattle.std.proofs.lemmas.List.{take_rest}
use Rattle.flow_record.proofs.LineLemmas.{cut_at_place}
use Rattle.flow_trail.proofs.pieces.cut_at.Goals as goal

pub returns-in-Some : goal.returns-in-Some
returns-in-Some c = cut_at_place c.args.byte c.args.text.now ∙ rw (sym c.place_of.ensures ∙ c.in-Some.is, take_rest, add-one) refl

pub returns-in-None : goal.returns-in-None
returns-in-None c = cut_at_place c.args.byte c.args.text.now ∙ rw (sym c.place_of.ensures ∙ c.in-None.is) refl
