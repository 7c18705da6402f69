use Rattle.std.proofs.Common.{map, ap, ◌∙◌}
use Rattle.std.specs.String.{string_bytes}
use Rattle.flow_case_book.proofs.PeopleLemmas.{map_take}
use Rattle.flow_case_book.proofs.names.Names.forget.Goals as goal

pub returns-clause-names : goal.returns-clause-names
returns-clause-names c = ap (map string_bytes) c.truncate.ensures.items ∙ map_take string_bytes c.args.self.now.names.items c.args.count
