use Rattle.std.proofs.Common.{◌≡◌, ◌<◌, ◌+◌, ◌++◌, ◌∙◌, ◌∷◌, [], ℕ, List, Vec, Global, length, drop, get_or, ap, arith, refl}
use Rattle.flow_conflict.proofs.LeavingOut.{all_pruned, goes_at, others_are, others_below, others_rise, same_pruned, stays_at, undecided_at}
use Rattle.flow_conflict.proofs.pruning.pruned.Goals as goal
use Rattle.flow_conflict.proofs.pruning.pruned.Goals.{in-Unmet, in-Met+in_ok-push-in-Met, in-Unknown+in_ok-push-in-Unknown+in_ok-push-in-Unknown-2}

pub judge-requires-clause-rising : goal.judge-requires-clause-rising
judge-requires-clause-rising g c =
    let bound = g.J.Judge in
    let judge = c.args.judge.now in
    others_rise (bound.is_met judge) (bound.is_within judge) (bound.size judge) (g.met.J.Judge.antitone judge)
    c.loop-index.members.items c.loop-index.undecided.items c.args.candidates.now c.deref-in-loop-index.result.now c.loop-index.index (omega arith)
    (others_are _ c.deref.result.now _ c.args.candidates.now (c.loop-index.index + 1) (c.deref-in-loop-index.ensures.value ∙ c.in_ok-others.ensures) c.deref.ensures.value)
    c.loop-index.invariant

pub judge-requires-clause-below : goal.judge-requires-clause-below
judge-requires-clause-below g c =
    let bound = g.J.Judge in
    let judge = c.args.judge.now in
    others_below (bound.is_met judge) (bound.is_within judge) (bound.size judge) (g.met.J.Judge.antitone judge)
    c.loop-index.members.items c.loop-index.undecided.items c.args.candidates.now c.deref-in-loop-index.result.now c.loop-index.index (omega arith)
    (others_are _ c.deref.result.now _ c.args.candidates.now (c.loop-index.index + 1) (c.deref-in-loop-index.ensures.value ∙ c.in_ok-others.ensures) c.deref.ensures.value)
    c.loop-index.invariant

pub loop-index-preserved : goal.loop-index-preserved
loop-index-preserved g c =
    let judge = c.args.judge.now in
    let met = g.J.Judge.is_met judge in
    let within = g.J.Judge.is_within judge in
    let count = g.J.Judge.size judge in
    let law = g.met.J.Judge.antitone judge in
    let kept : List ℕ = c.loop-index.members.items in
    let undecided : List ℕ = c.loop-index.undecided.items in
    let all : List ℕ = c.args.candidates.now in
    let i : ℕ = c.loop-index.index in
    let below : i < length all = omega arith in
    let others : List ℕ = c.deref-in-loop-index.result.now in
    let same : others ≡ kept ++ drop (i + 1) all =
    others_are others c.deref.result.now kept all (i + 1) (c.deref-in-loop-index.ensures.value ∙ c.in_ok-others.ensures) c.deref.ensures.value in
    let items : Vec ℕ Global → List ℕ = λ v. v.items in
    elim c.match-branch-3.branch [
      | in-Unmet w ↦ same_pruned met within count law _ kept _ undecided (drop (i + 1) all) (ap items w.members-is) (ap items w.undecided-is)
          (goes_at met within count law kept undecided all others i below same c.loop-index.invariant (rw w.in-Unmet.is at c.in_ok-judge.ensures).1)
      | in-Met+in_ok-push-in-Met w ↦ same_pruned met within count law _ (kept ++ get_or all i 0 ∷ []) _ undecided (drop (i + 1) all)
          (ap items w.members-is ∙ w.in_ok-push-in-Met.ensures.items) (ap items w.undecided-is)
          (stays_at met within count law kept undecided all others i (get_or all i 0) below refl same c.loop-index.invariant (rw w.in-Met.is at c.in_ok-judge.ensures).1)
      | in-Unknown+in_ok-push-in-Unknown+in_ok-push-in-Unknown-2 w ↦
          same_pruned met within count law _ (kept ++ get_or all i 0 ∷ []) _ (undecided ++ get_or all i 0 ∷ []) (drop (i + 1) all)
          (ap items w.members-is ∙ w.in_ok-push-in-Unknown.ensures.items) (ap items w.undecided-is ∙ w.in_ok-push-in-Unknown-2.ensures.items)
          (undecided_at met within count law kept undecided all others i (get_or all i 0) below refl same c.loop-index.invariant (rw w.in-Unknown.is at c.in_ok-judge.ensures))
    ]

pub returns-clause-least : goal.returns-clause-least
returns-clause-least g c =
    let judge = c.args.judge.now in
    (all_pruned (g.J.Judge.is_met judge) (g.J.Judge.is_within judge) (g.J.Judge.size judge) (g.met.J.Judge.antitone judge)
    c.loop-index.members.items c.loop-index.undecided.items c.args.candidates.now c.loop-index.index (omega arith) c.loop-index.invariant).1
