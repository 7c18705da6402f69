use Rattle.std.proofs.Common.{◌≡◌, ℕ, List, sym, ap, ◌∙◌, true≢false, eqb}
use Rattle.std.proofs.lemmas.Cmp.{nat_list_eq_equiv}
use lib.Pointwise.{pointwise}
use Rattle.flow_keep.proofs.EntryLemmas.{read_again}
use Rattle.flow_step.proofs.record.entry_of.Goals as goal

pub returns-else-eq : goal.returns-else-eq
returns-else-eq c = λ entry small is.
    let body = c.args.body.now in
    let same : c.body_of.result ≡ body = c.body_of.ensures.bytes ∙ read_again body c.from_be_bytes-by.result c.from_be_bytes-first.result c.from_be_bytes-second.result c.in_ok-step.step entry small is
    c.from_be_bytes-by.ensures c.from_be_bytes-first.ensures c.from_be_bytes-second.ensures (sym c.step_of.ensures ∙ c.in_ok-step.was) in
    absurd (true≢false (sym (nat_list_eq_equiv.refl body) ∙ sym (ap (λ (l : List ℕ). pointwise eqb l body) same) ∙ sym c.eq.ensures ∙ c.if-eq.false))
