-- A run may cross threads: shown from the workflow up, since one search does not see the whole of it.
use denote.RattleType.{RattleType}
use denote.Param.Send.{IsSend, sendable}
use Rattle.std.proofs.Crossing.{crosses as owners}
use Rattle.std.proofs.MapsCrossing.{crosses as maps}
use Rattle.flow_core.below.flow_facts.proofs.name.Name.TheSendSync.{the_send as name_send}
use Rattle.flow_workflow.proofs.table.FactTable.TheSendSync.{the_send as facts_send}
use Rattle.flow_core.below.flow_goal.proofs.goal.Goal.TheLaws.TheKnot.{crosses as goals}
use Rattle.flow_workflow.proofs.rule.Rule.TheLaws.TheKnot.{crosses as constraints}
use Rattle.flow_workflow.specs.contracts.workflow.Workflow
use Rattle.flow_crew.specs.contracts.book.Book
use Rattle.flow_gate.specs.declared.gate.Gate

workflow_send : IsSend Workflow.the_row
workflow_send = search (name_send, facts_send, goals, constraints, maps, owners, sendable) depth 60 fits 20000

pub book_send : (G : RattleType) (g : Gate.Ghosts G.Denot) → IsSend G → IsSend (Book.the_row G g)
book_send G g s = search (workflow_send, owners, sendable) depth 60 fits 20000
