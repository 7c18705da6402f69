use Rattle.std.proofs.Common.{◌≡◌, ℕ, Bool, List, length, reverse, sym, subst, arith}
use Rattle.leaf_rows.specs.declared.leaf_set.LeafSet.{LeafSet}
use Rattle.flow_plan.specs.RowMarks.{IsOneMore, MakesRowsBy, StandsFor}
use Rattle.flow_plan.specs.declared.sweep.Ahead.{Ahead}
use Rattle.flow_plan.specs.declared.sweep.Ahead.TheVariants.{Behind, Joined}
use Rattle.flow_plan.specs.declared.sweep.Sweep.{Sweep}
use Rattle.flow_plan.proofs.SweepLemmas.{leaf_passed}
use Rattle.flow_plan.proofs.sweep.Sweep.pass_leaf.Goals as goal
use Rattle.flow_plan.proofs.sweep.Sweep.pass_leaf.Goals.{in-Behind+in_ok-push_behind-in-Behind, in-Joined+in_ok-push_joined-in-Joined}

pub returns : goal.returns
returns g c = λ q nodes h.
    let s = c.args.self.now in
    let ns = c.args.leaves.now in
    let Stands : Ahead → (ℕ → Bool) → Type 0 = λ a test. StandsFor ns s.rows.items s.joined.items a test in
    let Leads : Sweep g.row.W → Type 0 = λ t. MakesRowsBy q nodes ns t.joined.items (Behind c.len-place.result) (reverse t.forks.items) t.rows.items in
    let place : length s.rows.items ≡ c.len-place.result = omega (arith, c.len-place.ensures) in
    let passed : (new : List (LeafSet g.row.W)) → ((test : ℕ → Bool) → Stands s.ahead test → IsOneMore test s.rows.items new) →
    MakesRowsBy q nodes ns s.joined.items (Behind c.len-place.result) (reverse s.forks.items) new = λ new adds.
    subst (λ (k : ℕ). MakesRowsBy q nodes ns s.joined.items (Behind k) (reverse s.forks.items) new) place
    (leaf_passed q nodes ns s.joined.items s.ahead (reverse s.forks.items) s.rows.items new adds h) in
    elim c.match-self.branch [
      | in-Behind+in_ok-push_behind-in-Behind w ↦ subst Leads (sym w.self-is)
          (passed w.push_behind.new.rows.items (λ test stands. w.in_ok-push_behind-in-Behind.ensures s.joined.items test (subst (λ (a : Ahead). Stands a test) w.in-Behind.is stands)))
      | in-Joined+in_ok-push_joined-in-Joined w ↦ subst Leads (sym w.self-is)
          (passed w.push_joined.new.rows.items (λ test stands. w.in_ok-push_joined-in-Joined.ensures ns test
          (subst (λ (l : List (LeafSet g.row.W)). StandsFor ns s.rows.items l (Joined w.in-Joined.number) test) (sym w.deref.ensures.value)
          (subst (λ (a : Ahead). Stands a test) w.in-Joined.is stands))))
    ]
