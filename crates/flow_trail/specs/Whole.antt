-- Files of whole lines, with bytes behind them that mean nothing.
use Rattle.std.specs.Prelude.{◌≡◌, ◌≢◌, ◌⊎◌, ℕ, ◌-◌, ◌<◌, Bool, false, ◌&&◌, ◌==◌, List, [], ◌∷◌, ◌++◌, length, take, get_or}
use Rattle.std.specs.List.{list_any}

-- a line stands there: the bytes begin with a brace, and a newline comes behind it
abbrev pub is_open : List ℕ → Bool
is_open [] = false
is_open (b ∷ bs) = (b == 123) && list_any (λ x. x == 10) bs

-- the file is just these lines, and behind them no line stands
abbrev pub HasLines : List ℕ → List ℕ → Type 0
HasLines lines file = (behind : List ℕ) × (file ≡ lines ++ behind) × (is_open behind ≡ false)

-- it has these lines, or these and one more
abbrev pub HasEither : List ℕ → List ℕ → List ℕ → Type 0
HasEither lines line file = HasLines lines file ⊎ HasLines (lines ++ line) file

-- up to the place stand lines, at the place a byte that is no brace, and a crash leaves just these bytes
pub record IsSettled (place : ℕ) (seen : List ℕ) (image : List ℕ → Type 0) : Type 0 where
  pub there : place < length seen
  pub shut : get_or seen place 0 ≢ 123
  pub durable : (c : List ℕ) → image c → c ≡ seen

-- the line with its newline, of what is written behind its gate: all but the last byte, which is the next gate
abbrev pub line_of : List ℕ → List ℕ
line_of rest = 123 ∷ take (length rest - 1) rest
