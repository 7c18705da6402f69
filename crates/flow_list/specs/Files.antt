-- The line of a case, from the bytes of its files.
use Rattle.std.specs.Prelude.{ℕ, List}
use Rattle.flow_case_seen.specs.declared.seen.SeenCase.{SeenCase}
use Rattle.flow_case_seen.specs.Texts.{Shared, count_of}
use Rattle.flow_case_seen.specs.Seen.{IsSeen}
use Rattle.flow_list.specs.declared.line.CaseLine.{CaseLine}
use Rattle.flow_list.specs.Line.{IsLineOf}

-- the line is that of the case which is seen in the files
pub record IsLineOfFiles (texts : Shared) (entries trail : List ℕ) (line : CaseLine) : Type 0 where
  pub seen : SeenCase
  pub is_seen : IsSeen texts entries trail seen
  pub line_is : IsLineOf seen.run (count_of texts.users) seen.tellers.items line
