use Rattle.std.proofs.Common.{rules, refl, ◌≡◌, ◌++◌, length}
use Rattle.flow_disk.specs.Change.{written}
use Rattle.flow_disk.proofs.ChangeLemmas.{wrote_passes, wrote_tears, wrote_no_sync, wrote_replays}
use Rattle.flow_disk.proofs.change_log.ChangeLog.write.Goals as goal

pub invariant_of-self : goal.invariant_of-self
invariant_of-self c =
    let old = c.args.self.now in
    let grown : c.extend_from_slice.new.self.items ≡ old.pool.items ++ c.args.bytes.now = search rules in
    let shown : c.put.new.shown.items ≡ written old.shown.items c.args.at c.args.bytes.now = search rules in
    record {
      replays = wrote_replays old.first.items old.pool.items c.extend_from_slice.new.self.items old.shown.items c.args.bytes.now old.changes.items c.push_reserved.new.self.items
          c.args.at (length c.args.bytes.now) old.replays c.requires.within refl grown c.push_reserved.ensures.items c.put.new.shown.items shown;
      pool_room = search rules;
      shown_room = search rules;
      fits = search rules;
    }

pub returns-clause-crash : goal.returns-clause-crash
returns-clause-crash c =
    let old = c.args.self.now in
    let grown : c.extend_from_slice.new.self.items ≡ old.pool.items ++ c.args.bytes.now = search rules in
    wrote_passes old.first.items old.pool.items c.extend_from_slice.new.self.items old.shown.items c.args.bytes.now old.changes.items c.push_reserved.new.self.items
    c.args.at (length c.args.bytes.now) old.replays c.requires.within refl grown c.push_reserved.ensures.items

pub returns-clause-syncs : goal.returns-clause-syncs
returns-clause-syncs c =
    let old = c.args.self.now in
    let grown : c.extend_from_slice.new.self.items ≡ old.pool.items ++ c.args.bytes.now = search rules in
    wrote_no_sync old.first.items old.pool.items c.extend_from_slice.new.self.items old.shown.items c.args.bytes.now old.changes.items c.push_reserved.new.self.items
    c.args.at (length c.args.bytes.now) old.replays c.requires.within refl grown c.push_reserved.ensures.items

pub returns-clause-torn : goal.returns-clause-torn
returns-clause-torn c =
    let old = c.args.self.now in
    let grown : c.extend_from_slice.new.self.items ≡ old.pool.items ++ c.args.bytes.now = search rules in
    wrote_tears old.first.items old.pool.items c.extend_from_slice.new.self.items old.shown.items c.args.bytes.now old.changes.items c.push_reserved.new.self.items
    c.args.at (length c.args.bytes.now) old.replays c.requires.within refl grown c.push_reserved.ensures.items
