use Rattle.std.proofs.Common.{◌∙◌, sym}
use Rattle.flow_trail.proofs.MomentLemmas.{goes_on_same}
use Rattle.flow_trail.proofs.AppendCalls.{after_rest, with_rest, after_gate, with_gate, is_written, is_settled}
use Rattle.flow_trail.proofs.append.append.Goals as goal

pub returns-in_default-clause-any_moment : goal.returns-in_default-clause-any_moment
returns-in_default-clause-any_moment g c = λ told.
    after_rest g.D.Disk.moment g.D.Disk.image g.D.Disk.seen c.args.disk.now c.args.place c.args.rest.now (c.requires.settled told) c.requires.shut c.write_at.new.self (c.in_default.ensures.crash told)

pub returns-in_default-sync-clause-any_moment : goal.returns-in_default-sync-clause-any_moment
returns-in_default-sync-clause-any_moment g c = λ told.
    let one = after_rest g.D.Disk.moment g.D.Disk.image g.D.Disk.seen c.args.disk.now c.args.place c.args.rest.now (c.requires.settled told) c.requires.shut c.write_at.new.self (c.in-Ok.ensures.crash told) in
    goes_on_same g.D.Disk.moment g.D.Disk.image c.args.disk.now c.write_at.new.self c.sync.new.self _ one (c.in_default-sync.ensures.crash told)

pub returns-in_default-write_at-clause-any_moment : goal.returns-in_default-write_at-clause-any_moment
returns-in_default-write_at-clause-any_moment g c = λ told.
    let one = after_rest g.D.Disk.moment g.D.Disk.image g.D.Disk.seen c.args.disk.now c.args.place c.args.rest.now (c.requires.settled told) c.requires.shut c.write_at.new.self (c.in-Ok.ensures.crash told) in
    let two = goes_on_same g.D.Disk.moment g.D.Disk.image c.args.disk.now c.write_at.new.self c.sync.new.self _ one (c.in-Ok-sync.ensures.crash told) in
    let seen = c.in-Ok-sync.ensures.seen told in
    let there = seen ∙ with_rest g.D.Disk.moment g.D.Disk.image g.D.Disk.seen c.args.disk.now c.args.place c.args.rest.now (c.requires.settled told) c.requires.shut c.write_at.new.self (c.in-Ok.ensures.written told) in
    after_gate g.D.Disk.moment g.D.Disk.image g.D.Disk.seen c.args.disk.now c.args.place c.args.rest.now (c.requires.settled told) c.requires.shut c.sync.new.self c.write_at-2.new.self two there (λ x i. (c.in-Ok-sync.ensures.syncs told).durable x i ∙ sym seen) (c.in_default-write_at.ensures.crash told)

pub returns-in_default-sync-2-clause-any_moment : goal.returns-in_default-sync-2-clause-any_moment
returns-in_default-sync-2-clause-any_moment g c = λ told.
    let one = after_rest g.D.Disk.moment g.D.Disk.image g.D.Disk.seen c.args.disk.now c.args.place c.args.rest.now (c.requires.settled told) c.requires.shut c.write_at.new.self (c.in-Ok.ensures.crash told) in
    let two = goes_on_same g.D.Disk.moment g.D.Disk.image c.args.disk.now c.write_at.new.self c.sync.new.self _ one (c.in-Ok-sync.ensures.crash told) in
    let seen = c.in-Ok-sync.ensures.seen told in
    let there = seen ∙ with_rest g.D.Disk.moment g.D.Disk.image g.D.Disk.seen c.args.disk.now c.args.place c.args.rest.now (c.requires.settled told) c.requires.shut c.write_at.new.self (c.in-Ok.ensures.written told) in
    let three = after_gate g.D.Disk.moment g.D.Disk.image g.D.Disk.seen c.args.disk.now c.args.place c.args.rest.now (c.requires.settled told) c.requires.shut c.sync.new.self c.write_at-2.new.self two there (λ x i. (c.in-Ok-sync.ensures.syncs told).durable x i ∙ sym seen) (c.in-Ok-write_at.ensures.crash told) in
    goes_on_same g.D.Disk.moment g.D.Disk.image c.args.disk.now c.write_at-2.new.self c.sync-2.new.self _ three (c.in_default-sync-2.ensures.crash told)

pub returns-clause-any_moment : goal.returns-clause-any_moment
returns-clause-any_moment g c = λ told.
    let one = after_rest g.D.Disk.moment g.D.Disk.image g.D.Disk.seen c.args.disk.now c.args.place c.args.rest.now (c.requires.settled told) c.requires.shut c.write_at.new.self (c.in-Ok.ensures.crash told) in
    let two = goes_on_same g.D.Disk.moment g.D.Disk.image c.args.disk.now c.write_at.new.self c.sync.new.self _ one (c.in-Ok-sync.ensures.crash told) in
    let seen = c.in-Ok-sync.ensures.seen told in
    let there = seen ∙ with_rest g.D.Disk.moment g.D.Disk.image g.D.Disk.seen c.args.disk.now c.args.place c.args.rest.now (c.requires.settled told) c.requires.shut c.write_at.new.self (c.in-Ok.ensures.written told) in
    let three = after_gate g.D.Disk.moment g.D.Disk.image g.D.Disk.seen c.args.disk.now c.args.place c.args.rest.now (c.requires.settled told) c.requires.shut c.sync.new.self c.write_at-2.new.self two there (λ x i. (c.in-Ok-sync.ensures.syncs told).durable x i ∙ sym seen) (c.in-Ok-write_at.ensures.crash told) in
    goes_on_same g.D.Disk.moment g.D.Disk.image c.args.disk.now c.write_at-2.new.self c.sync-2.new.self _ three (c.in-Ok-sync-2.ensures.crash told)

pub returns-clause-written : goal.returns-clause-written
returns-clause-written g c = λ told.
    let there = c.in-Ok-sync.ensures.seen told ∙ with_rest g.D.Disk.moment g.D.Disk.image g.D.Disk.seen c.args.disk.now c.args.place c.args.rest.now (c.requires.settled told) c.requires.shut c.write_at.new.self (c.in-Ok.ensures.written told) in
    let open_now = with_gate g.D.Disk.moment g.D.Disk.image g.D.Disk.seen c.args.disk.now c.args.place c.args.rest.now (c.requires.settled told) c.requires.shut c.sync.new.self c.write_at-2.new.self there (c.in-Ok-write_at.ensures.written told) in
    is_written g.D.Disk.moment g.D.Disk.image g.D.Disk.seen c.args.disk.now c.args.place c.args.rest.now (c.requires.settled told) c.requires.shut c.sync-2.new.self (c.in-Ok-sync-2.ensures.seen told ∙ open_now)

pub returns-clause-settled : goal.returns-clause-settled
returns-clause-settled g c = λ told.
    let there = c.in-Ok-sync.ensures.seen told ∙ with_rest g.D.Disk.moment g.D.Disk.image g.D.Disk.seen c.args.disk.now c.args.place c.args.rest.now (c.requires.settled told) c.requires.shut c.write_at.new.self (c.in-Ok.ensures.written told) in
    let open_now = with_gate g.D.Disk.moment g.D.Disk.image g.D.Disk.seen c.args.disk.now c.args.place c.args.rest.now (c.requires.settled told) c.requires.shut c.sync.new.self c.write_at-2.new.self there (c.in-Ok-write_at.ensures.written told) in
    let seen = c.in-Ok-sync-2.ensures.seen told in
    is_settled g.D.Disk.moment g.D.Disk.image g.D.Disk.seen c.args.disk.now c.args.place c.args.rest.now (c.requires.settled told) c.requires.shut c.sync-2.new.self (seen ∙ open_now) (λ x i. (c.in-Ok-sync-2.ensures.syncs told).durable x i ∙ sym seen)
