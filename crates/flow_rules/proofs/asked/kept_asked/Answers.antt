use Rattle.std.proofs.Common.{length, not, sym, ap, ◌∙◌, true≢false}
use Rattle.std.proofs.lemmas.Bool.{eq-eqb, eqb-true}
use Rattle.std.proofs.lemmas.List.{nil_from_length}
use Rattle.flow_rules.specs.WayLists.{decided}
use Rattle.flow_rules.proofs.AskedLemmas.{more_kept, none_kept, one_kept}
use Rattle.flow_rules.proofs.asked.kept_asked.Goals as goal

pub returns-then-is_empty : goal.returns-then-is_empty
returns-then-is_empty c = λ ways h.
    let kept = c.args.kept in
    none_kept c.args.connective kept.items ways h (nil_from_length kept.items (sym kept.ok.0 ∙ eqb-true kept.len 0 (sym c.is_empty.ensures ∙ c.if-is_empty.true)))
    ∙ ap (λ b. decided (not b)) (sym c.decides.ensures)

pub returns-in-Some : goal.returns-in-Some
returns-in-Some c = λ ways h. one_kept c.args.connective c.args.kept.items ways h c.in-Some.part c.in-Some.ensures.one

pub returns-in-None : goal.returns-in-None
returns-in-None c = λ ways h.
    let kept = c.args.kept in
    more_kept c.args.connective kept.items ways h c.only.new.list (sym c.in-None.ensures.same)
    (λ none. true≢false (sym (eq-eqb kept.len 0 (kept.ok.0 ∙ ap length (sym c.in-None.ensures.same) ∙ none)) ∙ sym c.is_empty.ensures ∙ c.if-is_empty.false))
