-- The words of states in answers that programs read.
use Rattle.std.specs.Prelude.{ℕ, List, codes}
use Rattle.flow_case_state.specs.declared.state.CaseState.{CaseState}
use Rattle.flow_case_state.specs.declared.state.CaseState.TheVariants.{Open, Waiting, Finished, StuckByFacts, StuckByDuties, Committed}

abbrev pub word_of : CaseState → List ℕ
word_of Open = codes "open"
word_of Waiting = codes "waiting"
word_of Finished = codes "finished"
word_of StuckByFacts = codes "stuck"
word_of StuckByDuties = codes "stuck_by_duties"
word_of Committed = codes "committed"
