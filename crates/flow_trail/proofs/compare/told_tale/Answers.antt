use Rattle.std.proofs.Common.{◌≡◌, ◌<◌, true, false, map, length, drop, sym, ◌∙◌, eqb-true, arith}
use Rattle.std.specs.String.{string_bytes}
use Rattle.std.proofs.lemmas.List.{length-map}
use Rattle.flow_trail.specs.Lines.{said_of}
use Rattle.flow_trail.specs.Due.{entered_of}
use Rattle.flow_trail.proofs.DueLemmas.{last_tale, past_tale, next_tale, other_tale, empty_of, line_there, not_zero}
use Rattle.flow_trail.proofs.compare.told_tale.Goals as goal

pub returns-then-is_empty-2 : goal.returns-then-is_empty-2
returns-then-is_empty-2 c =
    let t = c.args.telling.now in
    last_tale (string_bytes t.at) (string_bytes t.by) (string_bytes t.entry) (string_bytes t.task) (string_bytes t.note) (map said_of c.args.behind.now) (sym c.is_voided.ensures ∙ c.if-is_voided.false)
    (map entered_of c.args.due.now) (empty_of entered_of c.args.due.now (eqb-true (length c.args.due.now) 0 (sym c.is_empty.ensures ∙ c.if-is_empty.true)))
    (empty_of said_of c.args.behind.now (eqb-true (length c.args.behind.now) 0 (sym c.is_empty-then-is_empty.ensures ∙ c.if-is_empty-2.true)))

pub returns-else-is_empty-2 : goal.returns-else-is_empty-2
returns-else-is_empty-2 c =
    let t = c.args.telling.now in
    let some : 0 < length (map said_of c.args.behind.now) = omega (arith, length-map c.args.behind.now said_of, not_zero (length c.args.behind.now) (sym c.is_empty-then-is_empty.ensures ∙ c.if-is_empty-2.false)) in
    past_tale (string_bytes t.at) (string_bytes t.by) (string_bytes t.entry) (string_bytes t.task) (string_bytes t.note) (map said_of c.args.behind.now) (sym c.is_voided.ensures ∙ c.if-is_voided.false)
    (map entered_of c.args.due.now) (empty_of entered_of c.args.due.now (eqb-true (length c.args.due.now) 0 (sym c.is_empty.ensures ∙ c.if-is_empty.true))) some

pub returns-then-is_told_by : goal.returns-then-is_told_by
returns-then-is_told_by c =
    let t = c.args.telling.now in
    next_tale (string_bytes t.at) (string_bytes t.by) (string_bytes t.entry) (string_bytes t.task) (string_bytes t.note) (map said_of c.args.behind.now) (sym c.is_voided.ensures ∙ c.if-is_voided.false)
    (map entered_of c.args.due.now) (entered_of c.index-due-0.result) (map entered_of (drop 1 c.args.due.now))
    (line_there entered_of c.args.due.now 0 c.index-due-0.result (not_zero (length c.args.due.now) (sym c.is_empty.ensures ∙ c.if-is_empty.false)) c.index-due-0.is)
    (c.is_told_by.ensures.0 c.if-is_told_by.true)

pub returns-else-is_told_by : goal.returns-else-is_told_by
returns-else-is_told_by c =
    let t = c.args.telling.now in
    other_tale (string_bytes t.at) (string_bytes t.by) (string_bytes t.entry) (string_bytes t.task) (string_bytes t.note) (map said_of c.args.behind.now) (sym c.is_voided.ensures ∙ c.if-is_voided.false)
    (map entered_of c.args.due.now) (entered_of c.index-due-0.result) (map entered_of (drop 1 c.args.due.now))
    (line_there entered_of c.args.due.now 0 c.index-due-0.result (not_zero (length c.args.due.now) (sym c.is_empty.ensures ∙ c.if-is_empty.false)) c.index-due-0.is)
    (λ same. let never : false ≡ true = sym c.if-is_told_by.false ∙ c.is_told_by.ensures.1 same in cc)
