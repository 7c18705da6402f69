use Rattle.std.proofs.Common.{arith, ap, length}
use Rattle.flow_facts.proofs.BitFlags.{length-flags_of, is_held-shift}
use Rattle.flow_facts.proofs.database.Database.has.Goals as goal

pub index-requires : goal.index-requires
index-requires c = omega (arith, c.self.invariant, ap length c.self.view_is, length-flags_of c.self.inside.count c.self.inside.words.items)

pub returns : goal.returns
returns c =
    is_held-shift c.self.inside.count c.self.inside.words.items c.args.self.now c.args.fact c.index.result.now
    c.self.view_is c.self.invariant c.requires c.index.ensures
