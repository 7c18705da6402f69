use Rattle.std.proofs.Common.{◌≡◌, Some, None, slice_get, ap, sym, ◌∙◌, true≢false}
use Rattle.std.proofs.lemmas.Option.{slice_get-get_or}
use Rattle.flow_policy_lint.proofs.RoleLemmas.{idle_at, none_idle, none_at}
use Rattle.flow_policy_lint.proofs.roles.is_idle.Goals as goal

pub returns-in-Some : goal.returns-in-Some
returns-in-Some c =
    let heads = c.args.heads.now in
    let h = c.in-Some.head.now in
    let found = c.in-Some.ensures.lookup in
    let at : slice_get heads c.args.number ≡ Some h = slice_get-get_or heads c.args.number h found.3.0 ∙ ap (λ x. Some x) (sym found.1) in
    idle_at heads c.args.number h c.is_idle_head.result at c.is_idle_head.ensures

pub returns-in-None : goal.returns-in-None
returns-in-None c = (
  λ f. absurd (true≢false (sym f)),
  λ idle. absurd (none_idle c.args.heads.now c.args.number (none_at c.args.heads.now c.args.number c.in-None.ensures.lookup.3) idle),
)
