use Rattle.std.proofs.Common.{rules, arith, ◌≡◌, ◌∙◌, ◌+◌, ◌-◌, take, drop, OnOk, refl, ap, subst, sym}
use Rattle.std.proofs.lemmas.Result.{on_ok_weaker}
use Rattle.flow_disk.specs.declared.change.Change.{Change}
use Rattle.flow_disk.specs.Change.{written}
use Rattle.flow_disk.specs.Replay.{Steps}
use Rattle.flow_disk.proofs.replay.Replay.step.Goals as goal

pub returns-in_ok-put-in-Wrote : goal.returns-in_ok-put-in-Wrote
returns-in_ok-put-in-Wrote c =
    let old = c.args.self.now in
    let at = c.in-Wrote.at in
    let count = c.in-Wrote.count in
    let some : old.taken + count - old.taken ≡ count = omega arith in
    let seen : c.put.new.shown.items ≡ written old.seen.items at (take count (drop old.taken c.args.pool.now)) =
    c.in_ok-put-in-Wrote.ensures.put ∙ ap (λ n. written old.seen.items at (take n (drop old.taken c.args.pool.now))) some in
    subst (λ (change : Change). OnOk c.fill.result (Steps c.args.pool.now c.args.fill old change c.fill.new.self)) (sym c.in-Wrote.is)
    (on_ok_weaker c.fill.result
    (λ left. record { seen_is = ap (λ v. v.items) c.fill.ensures.seen ∙ seen; left_is = left; taken_is = c.fill.ensures.taken }) c.fill.ensures.left)

pub returns-in-Tore : goal.returns-in-Tore
returns-in-Tore c =
    let old = c.args.self.now in
    let fill = c.fill-in-Tore in
    subst (λ (change : Change). OnOk c.fill-in-Tore.result (Steps c.args.pool.now c.args.fill old change c.fill-in-Tore.new.self)) (sym c.in-Tore.is)
    (on_ok_weaker c.fill-in-Tore.result
    (λ left. record { seen_is = ap (λ v. v.items) c.fill-in-Tore.ensures.seen; left_is = left; taken_is = c.fill-in-Tore.ensures.taken }) c.fill-in-Tore.ensures.left)

pub returns-in_ok-self-in-Synced : goal.returns-in_ok-self-in-Synced
returns-in_ok-self-in-Synced c =
    let old = c.args.self.now in
    let new = record old { left = c.in_ok-self-in-Synced.field-0 } in
    let left : c.in_ok-self-in-Synced.field-0.items ≡ old.seen.items = search rules in
    subst (λ (change : Change). Steps c.args.pool.now c.args.fill old change new) (sym c.in-Synced.is)
    (record { seen_is = refl; left_is = left; taken_is = refl })
