-- The statements of a policy, and how they are written.
use Rattle.std.specs.Prelude.{ℕ, List, [], ◌∷◌, codes}
use Rattle.flow_grammar.specs.Symbol.{Symbol, a_name, equals, comma, semicolon}

-- The names of a list are its first and the others.
pub data Statement : Type 0 where
  -- the role is given to users
  gives : List ℕ → List ℕ → List (List ℕ) → Statement
  -- the role is allowed events
  allows : List ℕ → List ℕ → List (List ℕ) → Statement
  -- tasks of the two events are for different users, or for one
  separates binds : List ℕ → List ℕ → Statement

-- a symbol of a statement, by what it is there for
pub data Part : Type 0 where
  -- a word of the statement itself, or a mark
  fixed : Symbol → Part
  -- a name of which nothing is asked
  free : List ℕ → Part
  -- a name that must be that of a role, or that of an event
  a_role an_event : List ℕ → Part

abbrev pub symbol : Part → Symbol
symbol (fixed t) = t
symbol (free n) = a_name n
symbol (a_role n) = a_name n
symbol (an_event n) = a_name n

-- names, with a comma between each two, and then a semicolon
abbrev pub listed : (List ℕ → Part) → List ℕ → List (List ℕ) → List Part
listed part n [] = part n ∷ fixed semicolon ∷ []
listed part n (m ∷ ms) = part n ∷ fixed comma ∷ listed part m ms

abbrev pub parts : Statement → List Part
parts (gives role user users) = fixed (a_name (codes "role")) ∷ free role ∷ fixed equals ∷ listed free user users
parts (allows role event events) = fixed (a_name (codes "allow")) ∷ a_role role ∷ listed an_event event events
parts (separates e f) = fixed (a_name (codes "separate")) ∷ an_event e ∷ an_event f ∷ fixed semicolon ∷ []
parts (binds e f) = fixed (a_name (codes "bind")) ∷ an_event e ∷ an_event f ∷ fixed semicolon ∷ []
