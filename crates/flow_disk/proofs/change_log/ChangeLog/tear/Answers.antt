use Rattle.flow_disk.proofs.ChangeLemmas.{tore_passes, tore_tears, tore_no_sync, tore_replays}
use Rattle.flow_disk.proofs.change_log.ChangeLog.tear.Goals as goal

pub invariant_of-self : goal.invariant_of-self
invariant_of-self c =
    let old = c.args.self.now in
    record {
      replays = tore_replays old.first.items old.pool.items old.shown.items old.changes.items c.push_reserved.new.self.items old.replays
          c.args.at c.args.count c.requires c.push_reserved.ensures.items;
      pool_room = old.pool_room;
      shown_room = old.shown_room;
      fits = old.fits;
    }

pub returns-then-len-capacity-clause-crash : goal.returns-then-len-capacity-clause-crash
returns-then-len-capacity-clause-crash c =
    let old = c.args.self.now in
    tore_passes old.first.items old.pool.items old.shown.items old.changes.items c.push_reserved.new.self.items old.replays c.args.at c.args.count c.requires c.push_reserved.ensures.items

pub returns-then-len-capacity-clause-syncs : goal.returns-then-len-capacity-clause-syncs
returns-then-len-capacity-clause-syncs c =
    let old = c.args.self.now in
    tore_no_sync old.first.items old.pool.items old.shown.items old.changes.items c.push_reserved.new.self.items old.replays c.args.at c.args.count c.requires c.push_reserved.ensures.items

pub returns-then-len-capacity-clause-torn : goal.returns-then-len-capacity-clause-torn
returns-then-len-capacity-clause-torn c = λ place.
    let old = c.args.self.now in
    tore_tears old.first.items old.pool.items old.shown.items old.changes.items c.push_reserved.new.self.items old.replays c.args.at c.args.count c.requires c.push_reserved.ensures.items
