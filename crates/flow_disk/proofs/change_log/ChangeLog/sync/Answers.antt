use Rattle.flow_disk.proofs.ChangeLemmas.{synced_passes, synced_now, synced_replays}
use Rattle.flow_disk.proofs.change_log.ChangeLog.sync.Goals as goal

pub invariant_of-self : goal.invariant_of-self
invariant_of-self c =
    let old = c.args.self.now in
    record {
      replays = synced_replays old.first.items old.pool.items old.shown.items old.changes.items c.push_reserved.new.self.items old.replays c.push_reserved.ensures.items;
      pool_room = old.pool_room;
      shown_room = old.shown_room;
      fits = old.fits;
    }

pub returns-clause-crash : goal.returns-clause-crash
returns-clause-crash c =
    let old = c.args.self.now in
    synced_passes old.first.items old.pool.items old.shown.items old.changes.items c.push_reserved.new.self.items old.replays c.push_reserved.ensures.items

pub returns-clause-syncs : goal.returns-clause-syncs
returns-clause-syncs c =
    let old = c.args.self.now in
    synced_now old.first.items old.pool.items old.shown.items old.changes.items c.push_reserved.new.self.items old.replays c.push_reserved.ensures.items
