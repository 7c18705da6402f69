use Rattle.flow_list.proofs.FileLemmas.{line_seen}
use Rattle.flow_list.proofs.files.line_of_files.Goals as goal

pub returns : goal.returns
returns c =
    line_seen c.args.texts.now c.args.entries.items c.args.trail.now c.in_ok-run.field-0 c.count.result c.deref.result.now
    c.in_ok-line.field-0 c.in_ok-run.ensures c.count.ensures c.deref.ensures.value c.in_ok-line.ensures.line
