use Rattle.std.proofs.Common.{◌≡◌, ◌+◌, ◌∙◌, ◌↔◌, ℕ, Bool, List, true, false, length, take, get_or, ap, subst, sym}
use Rattle.std.proofs.lemmas.List.{length-set}
use Rattle.flow_model.specs.Lists.{◌∈◌}
use Rattle.flow_core.specs.Run.{schema}
use Rattle.flow_reason.proofs.SidesTold.{flag_more}
use Rattle.flow_reason.proofs.sides.done_flags.Goals as goal

pub loop-leaf-preserved : goal.loop-leaf-preserved
loop-leaf-preserved c =
    let list : List ℕ = c.journal-leaf-items.result.now in
    let i : ℕ = c.loop-leaf.leaf-index in
    let flags : List Bool = c.loop-leaf.flags.items in
    let count : ℕ = length (schema c.args.core.now).labels in
    let inv = c.loop-leaf.invariant in
    record {
      count = ap (λ (l : List Bool). length l) c.flag.ensures ∙ length-set flags (get_or list i 0) true ∙ inv.count;
      told = λ n within.
          subst (λ (l : List Bool). (get_or l n false ≡ true) ↔ (n ∈ take (i + 1) list)) (sym c.flag.ensures)
          (flag_more flags list i count inv.count c.loop-leaf-test.true inv.told n within);
    }
