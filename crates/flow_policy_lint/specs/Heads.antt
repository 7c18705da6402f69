-- What the statements of a policy begin with, as its symbols are read.
use Rattle.std.specs.Prelude.{◌≡◌, ℕ, if◌then◌else◌, List, [], ◌∷◌, ◌++◌, codes, Option, Some, None, slice_get}
use Rattle.flow_model.specs.Lists.{◌∈◌}
use Rattle.flow_grammar.specs.Symbol.{Symbol, a_name, semicolon}
use Rattle.flow_reader.specs.Symbols.{is}
use Rattle.flow_policy.specs.Statement.{Statement, gives, allows, separates, binds}
use Rattle.flow_policy_lint.specs.declared.heads.Word.{Word}
use Rattle.flow_policy_lint.specs.declared.heads.Word.TheVariants.{Role, Allow, Separate, Bind}
use Rattle.flow_policy_lint.specs.declared.heads.Reading.{Reading}
use Rattle.flow_policy_lint.specs.declared.heads.Reading.TheVariants.{Begins, Behind, Other}
use Rattle.flow_policy_lint.specs.declared.heads.Head.{Head}

-- the word of a statement, and the first name in it
abbrev pub said : Head → Word × List ℕ
said h = (h.word, h.name.now)

abbrev pub head_of : Statement → Word × List ℕ
head_of (gives role user users) = (Role, role)
head_of (allows role event events) = (Allow, role)
head_of (separates e f) = (Separate, e)
head_of (binds e f) = (Bind, e)

abbrev pub word_of : List ℕ → Option Word
word_of n =
    if is n (codes "role") then Some Role else
    (if is n (codes "allow") then Some Allow else (if is n (codes "separate") then Some Separate else (if is n (codes "bind") then Some Bind else None)))

abbrev pub reading_by : Option Word → Reading
reading_by (Some word) = Behind word
reading_by None = Other

abbrev pub reading_after : Reading → Symbol → Reading
reading_after Begins semicolon = Begins
reading_after Begins (a_name n) = reading_by (word_of n)
reading_after Begins other = Other
reading_after (Behind word) semicolon = Begins
reading_after (Behind word) other = Other
reading_after Other semicolon = Begins
reading_after Other other = Other

abbrev pub head_at : Reading → Symbol → List (Word × List ℕ)
head_at (Behind word) (a_name n) = (word, n) ∷ []
head_at reading other = []

abbrev pub heads_from : Reading → List Symbol → List (Word × List ℕ)
heads_from reading [] = []
heads_from reading (t ∷ ts) = head_at reading t ++ heads_from (reading_after reading t) ts

-- the statement gives a role that no `allow` names
abbrev pub IsIdle : List (Word × List ℕ) → Word × List ℕ → Type 0
IsIdle heads (Role, role) = ¬ ((Allow, role) ∈ heads)
IsIdle heads (other, role) = ⊥

-- the statement of that number does
abbrev pub IsIdleRole : List (Word × List ℕ) → ℕ → Type 0
IsIdleRole heads number = (head : Word × List ℕ) × (slice_get heads number ≡ Some head) × IsIdle heads head
