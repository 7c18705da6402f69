use Rattle.std.proofs.Common.{◌∙◌}
use Rattle.flow_trail.specs.Held as held
use Rattle.flow_trail.specs.Lines.{said_of, remark}
use Rattle.flow_case_cli.specs.Held.{trail_disk, start_of, said_in}
use Rattle.flow_case_cli.proofs.AskLemmas.{untold, counted_same}
use Rattle.flow_case_cli.proofs.case.Case.remark.Goals as goal

pub returns-in_default-clause-told : goal.returns-in_default-clause-told
returns-in_default-clause-told g c = λ whole.
    let t = c.args.self.now in
    untold g.T.Disk.tells g.T.Disk.moment g.T.Disk.image g.T.Disk.seen (start_of t) (said_in t) (remark c.args.about c.args.text.now c.args.entry c.args.asker.name.now c.args.asker.at.now)
    t.trail.place (trail_disk t) t.trail.in_order (λ told. t.trail.held told (t.told whole))

pub invariant_of-self-in-Ok-tell : goal.invariant_of-self-in-Ok-tell
invariant_of-self-in-Ok-tell g c =
    let t = c.args.self.now in
    record {
      same = λ fine. t.same c.if-self.false;
      kept = λ fine. t.kept c.if-self.false;
      told = λ fine. c.in-Ok-tell.ensures.whole;
      counted = λ fine. counted_same (start_of t) (held.start_of c.tell.new.self) (said_in t) (held.said_in c.tell.new.self) (said_of c.in-Ok.line) c.args.about c.args.text.now c.args.asker.name.now
          c.args.asker.at.now c.args.entry c.in-Ok-tell.ensures.start c.in-Ok-tell.ensures.told c.in-Ok.ensures ∙ t.counted c.if-self.false;
    }
