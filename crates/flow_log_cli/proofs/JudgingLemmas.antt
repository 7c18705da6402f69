-- What is told of a fit is so of its verdict.
use Rattle.std.proofs.Common.{ℕ, List}
use Rattle.flow_workflow.specs.Definition.{Definition}
use Rattle.flow_log.specs.Fits.{TellsOfFit}
use Rattle.flow_log.specs.declared.verdict.Fit.{Fit}
use Rattle.flow_log.specs.declared.verdict.Fit.TheVariants.{Execution, Front, Deviates, Unknown, Undecided}
use Rattle.flow_log_cli.specs.Judging.{IsVerdict, verdict_of_fit}

pub judged : (d : Definition) (events : List ℕ) (budget : ℕ) (fit : Fit) → TellsOfFit d events budget fit → IsVerdict d events (verdict_of_fit fit)
judged d events budget (Execution list) told = (list.items, told)
judged d events budget (Front list) told = ((list.items, told.0), told.1)
judged d events budget (Deviates at) told = told
judged d events budget (Unknown at) told = told
judged d events budget Undecided told = tt
