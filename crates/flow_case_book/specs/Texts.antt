-- The texts of a case that is kept.
use Rattle.std.specs.Prelude.{ℕ, List, Option}
use Rattle.std.specs.Option.{option_map}
use Rattle.flow_case_book.specs.declared.opened.KeptTexts.{KeptTexts}

-- its policy, where it has one
abbrev pub policy_in : KeptTexts → Option (List ℕ)
policy_in texts = option_map (λ v. v.items) texts.policy
