use Rattle.std.proofs.Common.{◌<◌, ◌*◌, refl, sym, ◌∙◌, arith}
use Rattle.std.proofs.lemmas.Bool.{true≢false}
use Rattle.flow_model.proofs.Lists.{each_member}
use Rattle.flow_model.specs.Process.{leaves}
use Rattle.flow_plan.proofs.CourseLemmas.{followed_to, following_more, following_none, is_done, may_next, table_small}
use Rattle.flow_plan.proofs.table.Table.follow.Goals as goal

pub loop-place-init : goal.loop-place-init
loop-place-init g c = λ p table same is.
    let told = c.begin-sides.ensures in
    following_none p c.args.list.now c.args.course.now c.begin-sides.result (table_small p c.args.self.now table) is told.done told.settled told.closed

pub returns-then-not-ready-clause-followed : goal.returns-then-not-ready-clause-followed
returns-then-not-ready-clause-followed g c = λ p table same is.
    let list = c.args.list.now in
    let following = c.loop-place.invariant p table same is in
    followed_to p list c.loop-place.place c.loop-place.sides following c.loop-place-test.true
    (λ may. true≢false (sym ((may_next p list c.loop-place.place c.loop-place.sides following _ c.ready.result (c.ready.ensures p table same)).1 may) ∙ c.if-not-ready.true))

pub pass-requires : goal.pass-requires
pass-requires g c =
    let (p, table, same, is) = c.requires.table in
    let following = c.loop-place.invariant p table same is in
    let may = (may_next p c.args.list.now c.loop-place.place c.loop-place.sides following _ c.ready.result (c.ready.ensures p table same)).0 c.if-not-ready.false in
    (omega (arith, c.requires.wide), (c.requires.wide, each_member (λ n. n < 64 * g.row.W) (leaves p.process) (table_small p c.args.self.now table) _ may.leaf))

pub loop-place-preserved : goal.loop-place-preserved
loop-place-preserved g c = λ p table same is.
    let list = c.args.list.now in
    let following = c.loop-place.invariant p table same is in
    let may = (may_next p list c.loop-place.place c.loop-place.sides following _ c.ready.result (c.ready.ensures p table same)).0 c.if-not-ready.false in
    following_more p list c.loop-place.place c.loop-place.sides following c.args.course.now c.pass.new.sides c.loop-place-test.true (table_small p c.args.self.now table) is may c.pass.ensures

pub returns-clause-whole : goal.returns-clause-whole
returns-clause-whole g c = λ p table same is.
    let following = c.loop-place.invariant p table same is in
    let says = is_done p c.args.list.now c.loop-place.place c.loop-place.sides following c.complete.result (omega (arith, c.loop-place-test.false)) (c.complete.ensures p table) in
    (λ yes. (refl, says.0 yes), λ both. says.1 both.1)
