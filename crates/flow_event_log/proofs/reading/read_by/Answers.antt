use Rattle.std.proofs.Common.{◌≡◌, ◌∷◌, [], ℕ, List, Bool, true, refl, sym, subst, ◌∙◌}
use Rattle.csv.specs.Reading.{AreRecords, ReadRecord, Reached, default_config, strip_bom}
use Rattle.csv.specs.Records.{fields_of}
use Rattle.csv.specs.declared.parser.State.TheVariants as st
use Rattle.flow_event_log.specs.declared.reading.Reading.{Reading}
use Rattle.flow_event_log.specs.Logs.{rows_in}
use Rattle.flow_event_log.specs.Taken.{IsTakenFrom, header_of}
use Rattle.flow_event_log.proofs.FollowLemmas.{Gave, gave_more, gave_none}
use Rattle.flow_event_log.proofs.reading.read_by.Goals as goal

pub returns : goal.returns
unfolding Reached
returns g c =
    let rem = g.R.Read.remaining in
    let reader = c.args.reader.now in
    let next = c.read_byte_record.new.self in
    let fields = fields_of c.read_byte_record.new.row in
    let read : ReadRecord rem reader next true fields =
    subst (λ (found : Bool). ReadRecord rem reader next found fields) c.in-Ok-true.field-0-test (c.in-Ok-true.ensures.reads c.requires.trim c.requires.ready) in
    let none = gave_none rem reader reader reader c.requires.config c.requires.trim c.requires.ready in
    let gave = gave_more rem reader reader next [] fields none read (c.in-Ok-true.ensures.ready c.requires.trim) in
    let ordered = c.in_ok-put_in_order.ensures in
    let rows = c.in_ok-take_rows.ensures in
    let header : header_of c.put_in_order.new.reading ≡ fields = ordered.kept ∙ rows.kept.0 ∙ c.in_ok-reading.ensures.header in
    λ text source.
    let there = gave.goes (strip_bom text) (strip_bom text) [] source (sym c.requires.begun, refl) in
    let taken = rows.taken (strip_bom text) there.0 (fields ∷ []) there.1 there.2 in
    record {
      records = taken.0;
      are = subst (λ (names : List (List ℕ)). AreRecords default_config st.StartRecord (strip_bom text) (names ∷ taken.0)) (sym header) taken.1;
      taken = λ unsorted.
          subst (λ (r : Reading). IsTakenFrom r.columns taken.0 (rows_in r.log) r.left_out) (sym (ordered.unsorted unsorted)) taken.2;
    }
