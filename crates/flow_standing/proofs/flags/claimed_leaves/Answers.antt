use Rattle.std.proofs.Common.{ℕ, ◌↔◌, List, [], map, length, append-nil, sym, subst, ◌∙◌}
use Rattle.std.proofs.lemmas.Result.{IfOk-weaker}
use Rattle.flow_model.specs.Lists.{◌∈◌}
use Rattle.flow_core.specs.Run.{schema}
use Rattle.flow_standing.specs.Standing.{IsClaimed}
use Rattle.flow_standing.specs.declared.claims.Out.{Out}
use Rattle.flow_standing.proofs.FlagLemmas.{flags_as, claimed_members}
use Rattle.flow_standing.proofs.flags.claimed_leaves.Goals as goal

pub returns : goal.returns
returns c =
    let r = c.args.core.now in
    let sound = c.history.ensures.lawful.sound r.history ([], sym (append-nil r.history)) in
    let is = c.deref-2.ensures.value ∙ c.in_ok-members.ensures in
    let same : (leaf : ℕ) → (leaf ∈ c.deref-2.result.now) ↔ IsClaimed r leaf = λ leaf.
    subst (λ (l : List ℕ). (leaf ∈ l) ↔ IsClaimed r leaf) (sym is)
    (subst (λ (l : List Out). (leaf ∈ map (λ (out : Out). out.call.leaf) l) ↔ IsClaimed r leaf) (sym c.deref.ensures.value)
    (claimed_members (schema r) r.history sound c.in_ok-outs.outs.items c.in_ok-outs.ensures leaf)) in
    IfOk-weaker c.flags_of.result _ _
    (λ flags are. flags_as (λ leaf. leaf ∈ c.deref-2.result.now) (IsClaimed r) c.leaf_count.result (length (schema r).labels) flags.items c.leaf_count.ensures same are) c.flags_of.ensures
