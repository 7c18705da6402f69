use Rattle.std.proofs.Common.{ℕ, ◌↔◌, List, map, length, sym, subst, ◌∙◌, ap}
use Rattle.std.proofs.lemmas.Result.{IfOk-weaker}
use Rattle.flow_model.specs.Lists.{◌∈◌}
use Rattle.flow_core.specs.Run.{schema, now}
use Rattle.flow_standing.specs.Standing.{IsBanned}
use Rattle.flow_standing.proofs.FlagLemmas.{flags_as, banned_members}
use Rattle.flow_standing.proofs.flags.banned_leaves.Goals as goal

pub returns : goal.returns
returns c =
    let r = c.args.core.now in
    let is = c.deref.ensures.value ∙ c.in_ok-members.ensures ∙ ap (map (λ (ban : ℕ × ℕ). ban.1)) c.requires in
    let same : (leaf : ℕ) → (leaf ∈ c.deref.result.now) ↔ IsBanned r leaf = λ leaf.
    subst (λ (l : List ℕ). (leaf ∈ l) ↔ IsBanned r leaf) (sym is) (banned_members (now r).bans leaf) in
    IfOk-weaker c.flags_of.result _ _
    (λ flags are. flags_as (λ leaf. leaf ∈ c.deref.result.now) (IsBanned r) c.leaf_count.result (length (schema r).labels) flags.items c.leaf_count.ensures same are) c.flags_of.ensures
