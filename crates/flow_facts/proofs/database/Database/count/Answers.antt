use Rattle.std.proofs.Common.{ap, sym, length, ◌∙◌}
use Rattle.flow_facts.proofs.BitFlags.{length-flags_of}
use Rattle.flow_facts.proofs.database.Database.count.Goals as goal

pub returns : goal.returns
returns c = sym (ap length (sym c.self.view_is) ∙ length-flags_of c.self.inside.count c.self.inside.words.items)
