use Rattle.std.proofs.Common.{◌∷◌, ◌++◌, [], drop, ap, ◌∙◌}
use Rattle.flow_trail.specs.Lines.{said_of, line_text}
use Rattle.flow_trail.proofs.PickLemmas.{line_brace}
use Rattle.flow_trail.proofs.TellLemmas.{rest_is}
use Rattle.flow_trail.proofs.tell.print_rest.Goals as goal

pub returns-clause-line : goal.returns-clause-line
returns-clause-line c =
    let brace = line_brace c.args.end.now (said_of c.args.line.now) in
    (rest_is (line_text c.args.end.now (said_of c.args.line.now)) brace.0 c.remove.new.self.items brace.1
    (c.remove.ensures.items ∙ ap (drop 1) (c.in_ok-extend_from_slice.ensures.items ∙ ap (λ l. l ++ 10 ∷ 10 ∷ []) c.in_ok-text.ensures.text))).0

pub returns-clause-shut : goal.returns-clause-shut
returns-clause-shut c =
    let brace = line_brace c.args.end.now (said_of c.args.line.now) in
    (rest_is (line_text c.args.end.now (said_of c.args.line.now)) brace.0 c.remove.new.self.items brace.1
    (c.remove.ensures.items ∙ ap (drop 1) (c.in_ok-extend_from_slice.ensures.items ∙ ap (λ l. l ++ 10 ∷ 10 ∷ []) c.in_ok-text.ensures.text))).1
