use Rattle.flow_core.specs.Run.{now}
use Rattle.flow_names.proofs.SearchLemmas.{is_among}
use Rattle.flow_names.proofs.leaves.is_done.Goals as goal

pub returns : goal.returns
returns c = is_among c.contains.result c.args.leaf c.journal.result.now (now c.args.core.now).journal c.contains.ensures.value c.journal.ensures
