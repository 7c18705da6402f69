-- A text to which pieces are added one after another.
use Rattle.std.proofs.Common.{◌≡◌, ◌++◌, ℕ, List, ap, ◌∙◌, append_assoc}

-- a piece behind pieces
pub and_then : (old front more one two : List ℕ) → one ≡ old ++ front → two ≡ one ++ more → two ≡ old ++ (front ++ more)
and_then old front more one two first second = second ∙ ap (λ (text : List ℕ). text ++ more) first ∙ append_assoc old front more
