use Rattle.flow_case.proofs.ruled.RuledRun.bar_to_rewind.Goals as goal

pub returns-in_default : goal.returns-in_default
returns-in_default c = λ index can. absurd (c.in_default.ensures index can)
