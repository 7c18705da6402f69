use Rattle.flow_cli.proofs.Outcomes.{summarized_outputs, alone_left}
use Rattle.flow_cli.proofs.call.answer.Goals as goal

pub answer_alone-requires-clause-alone : goal.answer_alone-requires-clause-alone
answer_alone-requires-clause-alone g c = alone_left c.args.request.mode c.in_default.not-Run c.in_default.not-Audit c.in_default.not-Large

pub returns-in-Large-clause-outcome : goal.returns-in-Large-clause-outcome
returns-in-Large-clause-outcome g c =
    rw c.in-Large.is (summarized_outputs g.G.Gate.gives c.args.request _ _ c.run_generated.result c.run_generated.ensures)
