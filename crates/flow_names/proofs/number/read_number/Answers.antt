use Rattle.std.proofs.Common.{◌<◌, ◌≤◌, length, sym, ◌∙◌, refl, rules, arith}
use Rattle.std.proofs.lemmas.List.{drop_all}
use Rattle.flow_record.proofs.NumberLemmas.{read_number, read_more}
use Rattle.flow_names.proofs.number.read_number.Goals as goal

pub returns-in_err-value : goal.returns-in_err-value
returns-in_err-value c =
    let some : 0 < length c.args.word.now = search rules in
    let few : length c.args.word.now ≤ 10 = omega arith in
    c.from_residual.ensures
    ∙ sym (read_number _ some few ∙ c.loop-byte.invariant ∙ read_more _ _ _ c.loop-byte-test.true
    ∙ rw (sym c.value_with.ensures ∙ c.in_err-value.was) refl)

pub returns : goal.returns
returns c =
    let some : 0 < length c.args.word.now = search rules in
    let few : length c.args.word.now ≤ 10 = omega arith in
    sym (read_number _ some few ∙ c.loop-byte.invariant ∙ rw (drop_all c.loop-byte.byte-index c.args.word.now (omega arith)) refl)
