use Rattle.std.proofs.Common.{ap, sym}
use Rattle.flow_desk.specs.Report.{line_and_rest}
use Rattle.flow_desk.proofs.report.line_and_rest.Goals as goal

pub returns-in-Some-clause-parts : goal.returns-in-Some-clause-parts
returns-in-Some-clause-parts c = sym (ap (line_and_rest c.args.text.now) c.in-Some.ensures.cut)

pub returns-in-None-clause-parts : goal.returns-in-None-clause-parts
returns-in-None-clause-parts c = sym (ap (line_and_rest c.args.text.now) c.in-None.ensures.cut)
