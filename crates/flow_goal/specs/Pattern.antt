-- The resolutions of a goal as texts, of which what they have in common is written once.
use Rattle.std.specs.Prelude.{◌≡◌, ◌+◌, ◌*◌, ℕ, Bool, false, List, [], ◌∷◌, ◌++◌, length, map, Some, slice_get}
use Rattle.std.specs.List.{flat_map}
use Rattle.flow_model.specs.Lists.{each_with_each}
use Rattle.flow_model.specs.Process.{Process}
use Rattle.flow_model.specs.Process as process
use Rattle.flow_model.specs.Folding.{fixed_leaves, folded_resolutions}
use Rattle.flow_goal.specs.declared.node.Node.{Node}
use Rattle.flow_goal.specs.declared.text.Text.{Text}
use Rattle.flow_goal.specs.declared.pattern.Pattern.{Pattern, Fixed, Both', Either'}
use Rattle.flow_goal.specs.declared.draft.Draft.{Draft}
use Rattle.flow_goal.specs.Capped.{capped}
use Rattle.flow_goal.specs.Folds.{flags_in}
use Rattle.flow_goal.specs.Written.{nodes_of}

-- marks, leaves, and those of the leaves that stand outside choices
pub record Line : Type 0 where
  pub nodes : List Node
  pub leaves : List ℕ
  pub fixed : List ℕ

abbrev pub nothing : Line
nothing = record { nodes = []; leaves = []; fixed = [] }

-- the one, and then the other
abbrev pub then : Line → Line → Line
then s t = record { nodes = s.nodes ++ t.nodes; leaves = s.leaves ++ t.leaves; fixed = s.fixed ++ t.fixed }

-- the line of a goal whose choices all stay
abbrev pub line : Process → Line
line q = record { nodes = nodes_of q; leaves = process.leaves q; fixed = fixed_leaves q }

-- those of the resolutions of a goal, in which the choices stay that hold no leaf of the test
abbrev pub lines_in : (ℕ → Bool) → Process → List Line
lines_in apart g = map line (folded_resolutions apart g)

abbrev pub line_of : Text → Line
line_of text = record { nodes = text.nodes.items; leaves = text.leaves.items; fixed = text.fixed.items }

abbrev pub lines_of : Pattern → List Line
lines_of (Fixed text) = line_of text ∷ []
lines_of (Both' count p a q b) = each_with_each then (lines_of a) (lines_of b)
lines_of (Either' count p a q b) = lines_of a ++ lines_of b

-- those of each pattern of a list
abbrev pub lines_of_all : List Pattern → List Line
lines_of_all patterns = flat_map lines_of patterns

-- the numbers that the pattern keeps are right
abbrev pub IsCounted : Pattern → Type 0
IsCounted (Fixed text) = Unit {0}
IsCounted (Both' count p a q b) = (count ≡ capped (length (lines_of a) * length (lines_of b))) × IsCounted a × IsCounted b
IsCounted (Either' count p a q b) = (count ≡ capped (length (lines_of a) + length (lines_of b))) × IsCounted a × IsCounted b

-- the line of that number was put behind what was written
abbrev pub Writes : List Line → ℕ → Text → Text → Type 0
Writes lines number old new = (l : Line) × (slice_get lines number ≡ Some l) × (line_of new ≡ then (line_of old) l)

abbrev pub drafted : Draft → List Line
drafted d = each_with_each then (lines_of d.before) (line_of d.last ∷ [])

-- each of the lines was put behind what was drafted
pub record Lays (lines : List Line) (old new : Draft) : Type 0 where
  pub counted : IsCounted old.before → IsCounted new.before
  pub laid : drafted new ≡ each_with_each then (drafted old) lines

-- where the flags begin with those of the goal, the others are left, and its lines were put behind what was drafted
abbrev pub LaysBy : Process → List Bool → List Bool → Draft → Draft → Type 0
LaysBy g flags left old new =
    (apart : ℕ → Bool) (more : List Bool) → flags ≡ flags_in apart false g ++ more → (left ≡ more) × Lays (lines_in apart g) old new

-- the same of a choice of two goals that does not stay, after its own flag
abbrev pub LaysSides : Process → Process → List Bool → List Bool → Draft → Draft → Type 0
LaysSides a b flags left old new =
    (apart : ℕ → Bool) (more : List Bool) → flags ≡ flags_in apart false a ++ (flags_in apart false b ++ more) →
    (left ≡ more) × Lays (lines_in apart a ++ lines_in apart b) old new

-- where the flags begin with those of the goal, the others are left, and its lines are those of the patterns that came behind others
abbrev pub GathersBy : Process → List Bool → List Bool → List Pattern → List Pattern → Type 0
GathersBy g flags left old new =
    (apart : ℕ → Bool) (more : List Bool) → flags ≡ flags_in apart false g ++ more →
    (left ≡ more) × (lines_of_all new ≡ lines_of_all old ++ lines_in apart g)

-- it is the resolution of that number
abbrev pub IsLineOf : (ℕ → Bool) → Process → ℕ → Text → Type 0
IsLineOf apart g number text = (q : Process) × (slice_get (folded_resolutions apart g) number ≡ Some q) × (line_of text ≡ line q)
