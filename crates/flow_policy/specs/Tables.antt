-- The tables of a policy: roles by users or events, constraints by events.
use Rattle.std.specs.Prelude.{◌≡◌, ◌<◌, ◌≤◌, ◌⊎◌, ◌++◌, ℕ, List, [], ◌∷◌}
use Rattle.flow_model.specs.Lists.{◌∈◌, Each}
use Rattle.flow_model.specs.Duties.{IsConstraintOf}
use Rattle.flow_policy.specs.declared.tie.Tie.{Tie}
use Rattle.flow_policy.specs.Ties.{Rises}

-- the part are the rows of that key, which stand together
pub record IsPartOf {A : Type 0} (key : A → ℕ) (k : ℕ) (rows part : List A) : Type 0 where
  pub front : List A
  pub back : List A
  pub cut : rows ≡ front ++ (part ++ back)
  pub before : Each (λ row. key row < k) front
  pub here : Each (λ row. key row ≡ k) part
  pub behind : Each (λ row. k < key row) back

-- the second numbers rise
abbrev pub SecondsRise : List (ℕ × ℕ) → Type 0
SecondsRise rows = Rises (λ (p : ℕ × ℕ) (q : ℕ × ℕ). p.1 < q.1) rows

-- a second number stands in both
abbrev pub ShareSecond : List (ℕ × ℕ) → List (ℕ × ℕ) → Type 0
ShareSecond a b = (p q : ℕ × ℕ) × (p ∈ a) × (q ∈ b) × (p.1 ≡ q.1)

-- the event is less, or it is the same and the index is no greater
abbrev pub IsTieBelow : Tie → Tie → Type 0
IsTieBelow a b = (a.event < b.event) ⊎ ((a.event ≡ b.event) × (a.index ≤ b.index))

-- a constraint of the event and the other, in that order or the other way round
abbrev pub IsTied : List (ℕ × ℕ) → Tie → Type 0
IsTied pairs tie = IsConstraintOf pairs tie.index tie.event tie.other

-- each event with each other that a constraint ties to it, and the least number of such a constraint
pub record AreTiesOf (pairs : List (ℕ × ℕ)) (ties : List Tie) : Type 0 where
  pub each : Each (IsTied pairs) ties
  pub all : (i e f : ℕ) → IsConstraintOf pairs i e f → (tie : Tie) × (tie ∈ ties) × (tie.event ≡ e) × (tie.other ≡ f) × (tie.index ≤ i)
  pub rise : Rises IsTieBelow ties

-- Rows of two events and a number, as ties are made of them

-- each is a constraint of the two events
abbrev pub AreTied : List (ℕ × ℕ) → List (ℕ × ℕ × ℕ) → Type 0
AreTied pairs rows = Each (λ (row : ℕ × ℕ × ℕ). IsConstraintOf pairs row.2 row.0 row.1) rows

-- every constraint both ways, of those with numbers below the bound
pub record AreBothWays (pairs : List (ℕ × ℕ)) (bound : ℕ) (rows : List (ℕ × ℕ × ℕ)) : Type 0 where
  pub each : AreTied pairs rows
  pub all : (i e f : ℕ) → i < bound → IsConstraintOf pairs i e f → (e, f, i) ∈ rows

-- a row as a tie
abbrev pub row_of : Tie → ℕ × ℕ × ℕ
row_of tie = (tie.event, tie.other, tie.index)

-- each is one of the rows, and each row has one of the same events with an index that is no greater
pub record AreFirstWays (rows : List (ℕ × ℕ × ℕ)) (ties : List Tie) : Type 0 where
  pub each : Each (λ (tie : Tie). row_of tie ∈ rows) ties
  pub all : (row : ℕ × ℕ × ℕ) → row ∈ rows → (tie : Tie) × (tie ∈ ties) × (tie.event ≡ row.0) × (tie.other ≡ row.1) × (tie.index ≤ row.2)

-- the last tie is of those two events
abbrev pub EndsWith : List Tie → ℕ → ℕ → Type 0
EndsWith ties event other = (front : List Tie) × (tie : Tie) × (ties ≡ front ++ tie ∷ []) × (tie.event ≡ event) × (tie.other ≡ other)

-- of two rows with the same events, the first has the lesser number
abbrev pub IsRowBelow : (ℕ × ℕ × ℕ) → (ℕ × ℕ × ℕ) → Type 0
IsRowBelow a b = a.0 ≡ b.0 → a.1 ≡ b.1 → a.2 ≤ b.2
