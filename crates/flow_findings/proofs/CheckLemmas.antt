-- A table of leaves, line by line.
use Rattle.std.proofs.Common.{◌≡◌, ℕ, ◌+◌, List, [], ◌∷◌, ◌++◌, ◌∙◌, ap, append_assoc, append-nil, arith, refl}
use Rattle.std.specs.Prelude.{codes}
use Rattle.std.specs.List.{flat_map}
use Rattle.std.proofs.lemmas.Grind.{flat_map-append}
use Rattle.flow_model.specs.Lists.{numbers_from}
use Rattle.flow_goal.proofs.Numbers.{numbers_from-+}
use Rattle.flow_record.specs.Journal.{leaf_line}
use Rattle.flow_workflow.specs.Definition.{Definition}

-- the line of a leaf in the table
abbrev pub row : Definition → ℕ → List ℕ
row w leaf = codes "leaf " ++ leaf_line w leaf

-- the lines of that many leaves
abbrev pub rows : Definition → ℕ → List ℕ
rows w count = flat_map (row w) (numbers_from 0 count)

-- the lines of one leaf more
pub one_more : (w : Definition) (n : ℕ) (begun text longer : List ℕ) →
    text ≡ begun ++ rows w n → longer ≡ text ++ row w n → longer ≡ begun ++ rows w (n + 1)
one_more w n begun text longer so_far more =
    let numbers : numbers_from 0 (n + 1) ≡ numbers_from 0 n ++ n ∷ [] =
    numbers_from-+ 0 n 1 ∙ ap (λ k. numbers_from 0 n ++ k ∷ []) (omega arith) in
    rw (more, so_far, numbers, flat_map-append) (simp (append_assoc, append-nil) refl)
