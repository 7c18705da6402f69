use Rattle.std.proofs.Common.{sym, subst}
use Rattle.flow_goal.specs.declared.goal.Goal.{Goal}
use Rattle.flow_goal.specs.Goal.{process_of}
use Rattle.flow_goal.specs.Pattern.{LaysBy}
use Rattle.flow_goal.proofs.PatternLemmas.{isolated_laid, parallel_laid, sequence_laid, side_gathered}
use Rattle.flow_goal.proofs.draft.+laying.Goals as goal

pub add_side-returns-clause-lines : goal.add_side-returns-clause-lines
add_side-returns-clause-lines t c =
    side_gathered (process_of c.args.goal.now) c.args.flags.now c.in_ok-after.after.now c.new-draft.result c.lay.new.draft c.in_ok-side.side
    c.args.sides.now.items c.push.new.self.items c.new-draft.ensures.before c.new-draft.ensures.last c.in_ok-after.ensures.laid
    c.in_ok-side.ensures.lines c.in_ok-push.ensures.items

pub lay-returns-in_ok-put-in-Serial-clause-laid : goal.lay-returns-in_ok-put-in-Serial-clause-laid
lay-returns-in_ok-put-in-Serial-clause-laid t c =
    subst (λ (g : Goal). LaysBy (process_of g) c.args.flags.now c.in_ok-after-in-Serial-2.after.now c.args.draft.now c.put.new.self) (sym c.in-Serial.is)
    (sequence_laid (process_of c.in-Serial.left.value) (process_of c.in-Serial.right.value)
    c.args.flags.now c.in_ok-after-in-Serial.after.now c.in_ok-after-in-Serial-2.after.now
    c.args.draft.now c.lay.new.draft c.lay-in-Serial.new.draft c.put.new.self
    (subst (λ (g : Goal). LaysBy (process_of g) c.args.flags.now c.in_ok-after-in-Serial.after.now c.args.draft.now c.lay.new.draft)
    c.deref.ensures c.in_ok-after-in-Serial.ensures.laid)
    (subst (λ (g : Goal). LaysBy (process_of g) c.in_ok-after-in-Serial.after.now c.in_ok-after-in-Serial-2.after.now c.lay.new.draft c.lay-in-Serial.new.draft)
    c.deref-in-Serial.ensures c.in_ok-after-in-Serial-2.ensures.laid)
    c.in_ok-put-in-Serial.ensures)

pub lay-returns-in_ok-put-in-Beside-3-clause-laid :
    goal.lay-returns-in_ok-put-in-Beside-3-clause-laid
lay-returns-in_ok-put-in-Beside-3-clause-laid t c =
    subst (λ (g : Goal). LaysBy (process_of g) c.args.flags.now c.in_ok-after-in-Beside-2.after.now c.args.draft.now c.put-in-Beside-3.new.self) (sym c.in-Beside.is)
    (parallel_laid (process_of c.in-Beside.left.value) (process_of c.in-Beside.right.value)
    c.args.flags.now c.in_ok-after-in-Beside.after.now c.in_ok-after-in-Beside-2.after.now
    c.args.draft.now c.put-in-Beside.new.self c.lay-in-Beside.new.draft c.put-in-Beside-2.new.self c.lay-in-Beside-2.new.draft c.put-in-Beside-3.new.self
    c.in_ok-put-in-Beside.ensures
    (subst (λ (g : Goal). LaysBy (process_of g) c.args.flags.now c.in_ok-after-in-Beside.after.now c.put-in-Beside.new.self c.lay-in-Beside.new.draft)
    c.deref-in-Beside.ensures c.in_ok-after-in-Beside.ensures.laid)
    c.in_ok-put-in-Beside-2.ensures
    (subst (λ (g : Goal). LaysBy (process_of g) c.in_ok-after-in-Beside.after.now c.in_ok-after-in-Beside-2.after.now c.put-in-Beside-2.new.self c.lay-in-Beside-2.new.draft)
    c.deref-in-Beside-2.ensures c.in_ok-after-in-Beside-2.ensures.laid)
    c.in_ok-put-in-Beside-3.ensures)

pub lay-returns-in_ok-put-in-Iso-2-clause-laid : goal.lay-returns-in_ok-put-in-Iso-2-clause-laid
lay-returns-in_ok-put-in-Iso-2-clause-laid t c =
    subst (λ (g : Goal). LaysBy (process_of g) c.args.flags.now c.in_ok-after-in-Iso.after.now c.args.draft.now c.put-in-Iso-2.new.self) (sym c.in-Iso.is)
    (isolated_laid (process_of c.in-Iso.part.value) c.args.flags.now c.in_ok-after-in-Iso.after.now
    c.args.draft.now c.put-in-Iso.new.self c.lay-in-Iso.new.draft c.put-in-Iso-2.new.self c.in_ok-put-in-Iso.ensures
    (subst (λ (g : Goal). LaysBy (process_of g) c.args.flags.now c.in_ok-after-in-Iso.after.now c.put-in-Iso.new.self c.lay-in-Iso.new.draft)
    c.deref-in-Iso.ensures c.in_ok-after-in-Iso.ensures.laid)
    c.in_ok-put-in-Iso-2.ensures)
