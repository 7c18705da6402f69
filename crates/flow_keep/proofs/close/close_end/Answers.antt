use Rattle.std.proofs.Common.{◌≡◌, ◌*◌, ◌<◌, ℕ, List, length, get_or, sym, ap, subst, ◌∙◌, arith}
use Rattle.flow_keep.specs.Records.{records}
use Rattle.flow_keep.proofs.MomentLemmas.{goes_on_same}
use Rattle.flow_keep.proofs.OpenLemmas.{after_end, place_within, end_syncs, written_end, settled_end, syncs_then, syncs_none, syncs_now}
use Rattle.flow_keep.proofs.close.close_end.Goals as goal

pub write_at-requires-clause-within : goal.write_at-requires-clause-within
write_at-requires-clause-within g c = λ told. place_within g.D.Disk.moment g.D.Disk.image g.D.Disk.synced g.D.Disk.seen c.args.disk.now c.needs_gate.new.disk c.args.count (c.requires.place told) (c.requires.durable told) (c.in-Ok.ensures.rests told)

pub returns-in_default-write_at-clause-any_moment : goal.returns-in_default-write_at-clause-any_moment
returns-in_default-write_at-clause-any_moment g c = λ told. after_end g.D.Disk.moment g.D.Disk.image g.D.Disk.synced g.D.Disk.seen c.args.disk.now c.needs_gate.new.disk c.args.count (c.requires.place told) (c.requires.durable told) (c.in-Ok.ensures.rests told) c.write_at.new.self (c.in-Ok.ensures.needs told c.if-not-needs.false) (c.in_default-write_at.ensures.crash told)

pub returns-in_default-write_at-clause-syncs : goal.returns-in_default-write_at-clause-syncs
returns-in_default-write_at-clause-syncs g c = λ told. end_syncs g.D.Disk.moment g.D.Disk.image g.D.Disk.synced g.D.Disk.seen c.args.disk.now c.needs_gate.new.disk c.args.count (c.requires.place told) (c.requires.durable told) (c.in-Ok.ensures.rests told) c.write_at.new.self (c.in_default-write_at.ensures.crash told).later (c.in_default-write_at.ensures.syncs told)

pub returns-in_default-sync-clause-any_moment : goal.returns-in_default-sync-clause-any_moment
returns-in_default-sync-clause-any_moment g c = λ told.
    goes_on_same g.D.Disk.moment g.D.Disk.image c.args.disk.now c.write_at.new.self c.sync.new.self _
    (after_end g.D.Disk.moment g.D.Disk.image g.D.Disk.synced g.D.Disk.seen c.args.disk.now c.needs_gate.new.disk c.args.count (c.requires.place told) (c.requires.durable told) (c.in-Ok.ensures.rests told) c.write_at.new.self (c.in-Ok.ensures.needs told c.if-not-needs.false) (c.in-Ok-write_at.ensures.crash told)) (c.in_default-sync.ensures.crash told)

pub returns-in_default-sync-clause-syncs : goal.returns-in_default-sync-clause-syncs
returns-in_default-sync-clause-syncs g c = λ told.
    let wrote = after_end g.D.Disk.moment g.D.Disk.image g.D.Disk.synced g.D.Disk.seen c.args.disk.now c.needs_gate.new.disk c.args.count (c.requires.place told) (c.requires.durable told) (c.in-Ok.ensures.rests told) c.write_at.new.self (c.in-Ok.ensures.needs told c.if-not-needs.false) (c.in-Ok-write_at.ensures.crash told) in
    syncs_then _ _ _ _ _ wrote.later (end_syncs g.D.Disk.moment g.D.Disk.image g.D.Disk.synced g.D.Disk.seen c.args.disk.now c.needs_gate.new.disk c.args.count (c.requires.place told) (c.requires.durable told) (c.in-Ok.ensures.rests told) c.write_at.new.self (c.in-Ok-write_at.ensures.crash told).later (c.in-Ok-write_at.ensures.syncs told))
    (syncs_none _ _ _ _ (c.in_default-sync.ensures.syncs told))

pub returns-clause-any_moment : goal.returns-clause-any_moment
returns-clause-any_moment g c = λ told.
    goes_on_same g.D.Disk.moment g.D.Disk.image c.args.disk.now c.write_at.new.self c.sync.new.self _
    (after_end g.D.Disk.moment g.D.Disk.image g.D.Disk.synced g.D.Disk.seen c.args.disk.now c.needs_gate.new.disk c.args.count (c.requires.place told) (c.requires.durable told) (c.in-Ok.ensures.rests told) c.write_at.new.self (c.in-Ok.ensures.needs told c.if-not-needs.false) (c.in-Ok-write_at.ensures.crash told)) (c.in-Ok-sync.ensures.crash told)

pub returns-clause-syncs : goal.returns-clause-syncs
returns-clause-syncs g c = λ told.
    let wrote = after_end g.D.Disk.moment g.D.Disk.image g.D.Disk.synced g.D.Disk.seen c.args.disk.now c.needs_gate.new.disk c.args.count (c.requires.place told) (c.requires.durable told) (c.in-Ok.ensures.rests told) c.write_at.new.self (c.in-Ok.ensures.needs told c.if-not-needs.false) (c.in-Ok-write_at.ensures.crash told) in
    syncs_then _ _ _ _ _ wrote.later (end_syncs g.D.Disk.moment g.D.Disk.image g.D.Disk.synced g.D.Disk.seen c.args.disk.now c.needs_gate.new.disk c.args.count (c.requires.place told) (c.requires.durable told) (c.in-Ok.ensures.rests told) c.write_at.new.self (c.in-Ok-write_at.ensures.crash told).later (c.in-Ok-write_at.ensures.syncs told))
    (syncs_now _ _ _ _ _ _ (c.in-Ok-sync.ensures.syncs told))

pub returns-clause-records : goal.returns-clause-records
returns-clause-records g c = λ told.
    ap records (c.in-Ok-sync.ensures.seen told) ∙ (written_end g.D.Disk.moment g.D.Disk.image g.D.Disk.synced g.D.Disk.seen c.args.disk.now c.needs_gate.new.disk c.args.count (c.requires.place told) (c.requires.durable told) (c.in-Ok.ensures.rests told) c.write_at.new.self (c.in-Ok.ensures.needs told c.if-not-needs.false) (c.in-Ok-write_at.ensures.written told)).0

pub returns-clause-settled : goal.returns-clause-settled
returns-clause-settled g c = λ told.
    let seen = c.in-Ok-sync.ensures.seen told in
    let wrote = written_end g.D.Disk.moment g.D.Disk.image g.D.Disk.synced g.D.Disk.seen c.args.disk.now c.needs_gate.new.disk c.args.count (c.requires.place told) (c.requires.durable told) (c.in-Ok.ensures.rests told) c.write_at.new.self (c.in-Ok.ensures.needs told c.if-not-needs.false) (c.in-Ok-write_at.ensures.written told) in
    let gate : get_or (g.D.Disk.seen c.sync.new.self) (16 * c.args.count) 0 ≡ 0 = ap (λ (l : List ℕ). get_or l (16 * c.args.count) 0) seen ∙ wrote.2 in
    settled_end g.D.Disk.moment g.D.Disk.image g.D.Disk.synced g.D.Disk.seen c.args.disk.now c.needs_gate.new.disk c.args.count (c.requires.place told) (c.requires.durable told) (c.in-Ok.ensures.rests told) c.sync.new.self (ap records seen ∙ wrote.0) (subst (λ (l : List ℕ). 16 * c.args.count < length l) (sym seen) wrote.1)
    (λ one. omega (arith, gate, one)) (λ x i. (c.in-Ok-sync.ensures.syncs told).durable x i ∙ sym seen)
