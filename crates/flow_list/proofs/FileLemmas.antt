-- The line of a case that is seen in its files.
use Rattle.std.proofs.Common.{◌≡◌, ℕ, List, subst}
use Rattle.flow_export.specs.declared.log_row.Teller.{Teller}
use Rattle.flow_case_seen.specs.declared.seen.SeenCase.{SeenCase}
use Rattle.flow_case_seen.specs.Texts.{Shared, count_of}
use Rattle.flow_case_seen.specs.Seen.{IsSeen}
use Rattle.flow_list.specs.declared.line.CaseLine.{CaseLine}
use Rattle.flow_list.specs.Line.{IsLineOf}
use Rattle.flow_list.specs.Files.{IsLineOfFiles}

pub line_seen : (texts : Shared) (entries trail : List ℕ) (seen : SeenCase) (users : ℕ) (told : List Teller) (line : CaseLine) → IsSeen texts entries trail seen →
    users ≡ count_of texts.users → told ≡ seen.tellers.items → IsLineOf seen.run users told line → IsLineOfFiles texts entries trail line
line_seen texts entries trail seen users told line is_seen users_are told_is line_is = record {
  seen = seen;
  is_seen = is_seen;
  line_is = subst (λ (n : ℕ). IsLineOf seen.run n seen.tellers.items line) users_are (subst (λ (l : List Teller). IsLineOf seen.run users l line) told_is line_is);
}
