use Rattle.std.proofs.Common.{arith, ap, sym, length, ◌∙◌}
use Rattle.flow_facts.proofs.BitFlags.{length-flags_of, is_held-delete}
use Rattle.flow_facts.proofs.database.Database.delete.Goals as goal

pub index_mut-requires : goal.index_mut-requires
index_mut-requires c = omega (arith, c.self.invariant, ap length c.self.view_is, length-flags_of c.self.inside.count c.self.inside.words.items)

pub returns-clause-held : goal.returns-clause-held
returns-clause-held c n =
    is_held-delete c.self.inside.count c.self.inside.words.items c.args.self.now c.args.fact c.index_mut.result.now n
    c.self.view_is c.self.invariant c.requires c.index_mut.ensures.value

pub returns-clause-count : goal.returns-clause-count
returns-clause-count c = length-flags_of c.self.inside.count _ ∙ sym (length-flags_of c.self.inside.count c.self.inside.words.items) ∙ ap length c.self.view_is
