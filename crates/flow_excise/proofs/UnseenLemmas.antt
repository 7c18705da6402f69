-- What is found of choices without memory.
use Rattle.std.proofs.Common.{◌≡◌, ◌↔◌, ℕ, Bool, IsTrue, List, Option, Some, ap, ◌∙◌}
use Rattle.std.specs.Cmp.{both_ways}
use Rattle.flow_model.specs.Lists.{◌∈◌}
use Rattle.flow_model.specs.Folding.{is_among}
use Rattle.flow_fold_laws.proofs.BegunNext.{member_test}

-- whether it is among them, by whether it is a member
pub among_these : (b : Bool) (events : List ℕ) (event : ℕ) (found : Option ℕ) → IsTrue b ↔ (event ∈ events) → Some event ≡ found → b ≡ is_among events found
among_these b events event found says is =
    both_ways _ _ (λ yes. (member_test events event).1 (says.0 yes)) (λ yes. says.1 ((member_test events event).0 yes)) ∙ ap (is_among events) is
