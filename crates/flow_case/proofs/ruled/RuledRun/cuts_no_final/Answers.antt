use Rattle.std.proofs.Common.{drop, sym, true≢false}
use Rattle.flow_core.specs.Run.{schema, now}
use Rattle.flow_case.proofs.Finals.{some_final}
use Rattle.flow_case.proofs.ruled.RuledRun.cuts_no_final.Goals as goal

pub returns-in-Some : goal.returns-in-Some
returns-in-Some c = (
  (λ no. absurd (true≢false (sym no))),
  (λ all. absurd (some_final (schema c.args.self.now.desk.run) c.args.self.now.rules (drop c.args.index (now c.args.self.now.desk.run).journal) c.in-Some.field-0 c.in-Some.ensures all)),
)
