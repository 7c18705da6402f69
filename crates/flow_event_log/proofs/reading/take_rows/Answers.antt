use Rattle.std.proofs.Common.{◌++◌, ◌∷◌, [], Bool, true, sym, subst, ◌∙◌}
use Rattle.csv.specs.Reading.{ReadRecord}
use Rattle.csv.specs.Records.{fields_of}
use Rattle.flow_event_log.specs.declared.columns.Columns.{Columns}
use Rattle.flow_event_log.specs.Logs.{rows_in}
use Rattle.flow_event_log.specs.Taken.{IsTakenFrom}
use Rattle.flow_event_log.proofs.FollowLemmas.{gave_more}
use Rattle.flow_event_log.proofs.TakenLemmas.{from_more}
use Rattle.flow_event_log.proofs.reading.take_rows.Goals as goal

pub rows-preserved : goal.rows-preserved
rows-preserved g c =
    let rem = g.R.Read.remaining in
    let inv = c.rows.invariant in
    let gave = inv.5 in
    let took = c.in_ok-take-in-Ok-true.ensures in
    let old = c.rows.reading in
    let new = c.take.new.self in
    let fields = fields_of c.read_byte_record.new.row in
    let read : ReadRecord rem c.rows.reader c.read_byte_record.new.self true fields =
    subst (λ (found : Bool). ReadRecord rem c.rows.reader c.read_byte_record.new.self found fields) c.in-Ok-true.field-0-test (c.in-Ok-true.ensures.reads gave.trim gave.ready) in (
      took.names,
      took.header ∙ inv.1,
      took.was_sorted ∙ inv.2,
      inv.3 ++ fields ∷ [],
      subst (λ (columns : Columns). IsTakenFrom columns (inv.3 ++ fields ∷ []) (rows_in new.log) new.left_out) (sym took.columns)
          (from_more old.columns fields took.rows took.taken inv.3 (rows_in old.log) (rows_in new.log) old.left_out new.left_out took.grown took.all inv.4),
      gave_more rem c.args.reader.now c.rows.reader c.read_byte_record.new.self inv.3 fields gave read (c.in-Ok-true.ensures.ready gave.trim),
    )
