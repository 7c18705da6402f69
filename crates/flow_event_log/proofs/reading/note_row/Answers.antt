use Rattle.std.proofs.Common.{sym, subst}
use Rattle.flow_event_log.specs.Logs.{activities_in, cases_in}
use Rattle.flow_event_log.specs.Taken.{AreNames}
use Rattle.flow_event_log.proofs.TakenLemmas.{names_more}
use Rattle.flow_event_log.proofs.reading.note_row.Goals as goal

pub returns-in_ok-note-in-None-clause-names : goal.returns-in_ok-note-in-None-clause-names
returns-in_ok-note-in-None-clause-names c =
    let same = c.in_ok-number.ensures.names in
    let good = c.in-None.ensures.good in
    let old = c.note_recalled.new.self in
    let new = c.note.new.self in
    let noted = c.in_ok-note-in-None.ensures in (
      names_more (cases_in old) (cases_in new) c.args.case.now (subst AreNames (sym same.0) c.requires.0) good.0 noted.cases,
      names_more (activities_in old) (activities_in new) c.args.activity.now (subst AreNames (sym same.1) c.requires.1) good.1 noted.activities,
    )
