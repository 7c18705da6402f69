use Rattle.std.proofs.Common.{sym, ◌∙◌}
use Rattle.flow_expand.proofs.Declarations.{found_is}
use Rattle.flow_expand.proofs.directory.Directory.flow.Goals as goal

pub returns-in-Some : goal.returns-in-Some
returns-in-Some c =
    sym c.in-Some.is ∙ found_is c.args.self.now.flows c.args.name.now c.number_of.result c.as_slice-names.ensures.distinct c.number_of.ensures.none c.number_of.ensures.found

pub returns-in-None : goal.returns-in-None
returns-in-None c =
    sym c.in-None.is ∙ found_is c.args.self.now.flows c.args.name.now c.number_of.result c.as_slice-names.ensures.distinct c.number_of.ensures.none c.number_of.ensures.found
