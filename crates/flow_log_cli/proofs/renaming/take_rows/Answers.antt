use Rattle.std.proofs.Common.{◌++◌, ◌∷◌, [], ℕ, List, Bool, Some, true, false, refl, sym, ap, subst, length, length-append, arith, Bor}
use Rattle.csv.specs.Reading.{ReadRecord, Reached, strip_bom}
use Rattle.csv.specs.Records.{fields_of}
use Rattle.flow_log_cli.specs.Noted.{AreMapped}
use Rattle.flow_event_log.proofs.FollowLemmas.{gave_all, gave_more, gave_none}
use Rattle.flow_log_cli.proofs.NotedLemmas.{good_more, no_rows}
use Rattle.flow_log_cli.proofs.renaming.take_rows.Goals as goal

pub loop-row-init : goal.loop-row-init
loop-row-init c =
    let events = c.args.vocabulary.now.events.now in
    let reader = c.args.reader.now in (
      [],
      refl,
      (λ place row there. cc),
      subst (AreMapped events [] c.args.renaming.now.table.names) (sym c.requires.numbers) (subst (λ (names : List (List ℕ)). AreMapped events [] names []) (sym c.requires.names) (no_rows events)),
      gave_none (λ (s : Bor (List ℕ)). Some s.now) reader reader reader c.requires.config c.requires.trim c.requires.ready,
    )

pub returns-in-Ok-false : goal.returns-in-Ok-false
unfolding Reached
returns-in-Ok-false c =
    let rem = λ (s : Bor (List ℕ)). Some s.now in
    let inv = c.loop-row.invariant in
    let gave = inv.4 in
    let new = c.read_byte_record.new.self in
    let fields = fields_of c.read_byte_record.new.row in
    let read : ReadRecord rem c.loop-row.reader new false fields =
    subst (λ (found : Bool). ReadRecord rem c.loop-row.reader new found fields) c.in-Ok-false.field-0-test (c.in-Ok-false.ensures.reads gave.trim gave.ready) in
    λ text source. record {
      rows = inv.0;
      are = gave_all rem c.args.reader.now c.loop-row.reader new inv.0 fields gave read (strip_bom text) (strip_bom text) [] source (sym c.requires.begun, refl);
      good = inv.2;
      mapped = inv.3;
    }

pub loop-row-preserved : goal.loop-row-preserved
loop-row-preserved c =
    let rem = λ (s : Bor (List ℕ)). Some s.now in
    let events = c.args.vocabulary.now.events.now in
    let inv = c.loop-row.invariant in
    let gave = inv.4 in
    let new = c.read_byte_record.new.self in
    let fields = fields_of c.read_byte_record.new.row in
    let read : ReadRecord rem c.loop-row.reader new true fields =
    subst (λ (found : Bool). ReadRecord rem c.loop-row.reader new found fields) c.in-Ok-true.field-0-test (c.in-Ok-true.ensures.reads gave.trim gave.ready) in
    let many = inv.1 in (
      inv.0 ++ fields ∷ [],
      omega (arith, many, length-append inv.0 (fields ∷ [])),
      good_more events inv.0 fields c.loop-row.row many inv.2 c.in_ok-take.ensures.good,
      c.in_ok-take.ensures.taken inv.0 inv.3,
      gave_more rem c.args.reader.now c.loop-row.reader new inv.0 fields gave read (c.in-Ok-true.ensures.ready gave.trim),
    )
