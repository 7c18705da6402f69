use Rattle.std.proofs.Common.{◌∙◌}
use Rattle.flow_log_cli.proofs.NotedLemmas.{spells_told}
use Rattle.flow_log_cli.proofs.vocabulary.Vocabulary.event_spelled.Goals as goal

pub returns : goal.returns
returns c =
    spells_told c.args.self.now.events.now _ _ c.args.name.now c.as_slice.result.now c.get.result (c.as_slice.ensures.value ∙ c.in_ok-spelling.ensures)
    c.get.ensures.found c.get.ensures.absent c.requires
