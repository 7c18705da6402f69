use Rattle.std.proofs.Common.{◌≡◌, ℕ, List, IfOk, sym, subst, true≢false, ◌∙◌}
use Rattle.flow_move.proofs.RenameLemmas.{renamed_here, renamed_next}
use Rattle.flow_move.proofs.new_names.renamed.Goals as goal

pub returns-then-is_same : goal.returns-then-is_same
returns-then-is_same c =
    subst (λ (l : List ℕ). IfOk c.copy.result (λ new. new ≡ l))
    (sym (renamed_here c.args.renames.now c.loop-rename.rename-index c.rename-item.result c.args.name.now c.loop-rename-test.true c.rename-item.is (c.is_same.ensures.0 c.if-is_same.true))
    ∙ sym c.loop-rename.invariant)
    c.copy.ensures

pub loop-rename-preserved : goal.loop-rename-preserved
loop-rename-preserved c =
    c.loop-rename.invariant
    ∙ renamed_next c.args.renames.now c.loop-rename.rename-index c.rename-item.result c.args.name.now c.loop-rename-test.true c.rename-item.is
    (λ same. true≢false (sym (c.is_same.ensures.1 same) ∙ c.if-is_same.false))
