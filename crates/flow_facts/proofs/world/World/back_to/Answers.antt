use Rattle.std.proofs.Common.{◌<◌, ◌∙◌, ap, length, take, ℕ, arith}
use Rattle.flow_facts.proofs.Trails.{all_kept, all_labels, front_fewer, labels_over, still_enough}
use Rattle.flow_facts.proofs.world.World.back_to.Goals as goal

above_zero : {m n : ℕ} → m < n → 0 < n
above_zero h = omega arith

pub loop-self-init : goal.loop-self-init
loop-self-init c = record { front = all_labels c.args.self.now; enough = c.requires }

pub take_back_last-requires : goal.take_back_last-requires
take_back_last-requires c =
    let over : c.args.kept < length c.loop-self.self.labels
    = labels_over c.self.inside.held.items c.self.inside.database c.self.inside.trail.items c.self.inside.room c.args.kept c.len.result c.loop-self.self
    c.self.view_is (c.len.ensures ∙ c.self.inside.trail.ok.0) c.loop-self-test.true in
    above_zero over

pub loop-self-preserved : goal.loop-self-preserved
loop-self-preserved c =
    let over : c.args.kept < length c.loop-self.self.labels
    = labels_over c.self.inside.held.items c.self.inside.database c.self.inside.trail.items c.self.inside.room c.args.kept c.len.result c.loop-self.self
    c.self.view_is (c.len.ensures ∙ c.self.inside.trail.ok.0) c.loop-self-test.true in record {
      front = front_fewer c.args.self.now c.loop-self.self c.take_back_last.new.self c.loop-self.invariant.front c.take_back_last.ensures;
      enough = (still_enough c.args.kept c.loop-self.self c.take_back_last.new.self over c.take_back_last.ensures).0;
    }

pub loop-self-smaller : goal.loop-self-smaller
loop-self-smaller c =
    let over : c.args.kept < length c.loop-self.self.labels
    = labels_over c.self.inside.held.items c.self.inside.database c.self.inside.trail.items c.self.inside.room c.args.kept c.len.result c.loop-self.self
    c.self.view_is (c.len.ensures ∙ c.self.inside.trail.ok.0) c.loop-self-test.true in
    (still_enough c.args.kept c.loop-self.self c.take_back_last.new.self over c.take_back_last.ensures).1

pub returns : goal.returns
returns c =
    let all = all_kept c.self.inside.held.items c.self.inside.database c.self.inside.trail.items c.self.inside.room c.args.kept c.len.result c.loop-self.self
    c.self.view_is (c.len.ensures ∙ c.self.inside.trail.ok.0) c.loop-self-test.false c.loop-self.invariant.enough in
    c.loop-self.invariant.front ∙ ap (λ n. record c.args.self.now { labels = take n c.args.self.now.labels }) all
