-- What is read of a trail, and which line is the first that is none.
use Rattle.std.specs.Prelude.{◌≡◌, ◌⊎◌, ℕ, ◌+◌, true, List, [], ◌∷◌, ◌++◌, length, get_or, Option, Some, None}
use Rattle.std.specs.Fmt.{decimal}
use Rattle.flow_trail.specs.declared.line.TrailLine.{TrailLine}
use Rattle.flow_trail.specs.declared.line.TrailEnd.{TrailEnd}
use Rattle.flow_trail.specs.Whole.{is_open}
use Rattle.flow_trail.specs.Spelling.{unspelt}
use Rattle.flow_trail.specs.Lines.{Said, told, void, remark, word_of, said_of, IsSayable, line_text, CanFollow, end_behind, end_of, trail_text, AreInOrder}

-- ---- a line by its pieces, which stand between its quotes

-- the text that the piece of that number spells
abbrev pub text_in : List (List ℕ) → ℕ → List ℕ
text_in pieces number = unspelt (get_or pieces number [])

-- where the texts of a line stand among its pieces
abbrev pub IsPicked : List (List ℕ) → Said → Type 0
IsPicked ps (told at by entry task note) =
    (text_in ps 5 ≡ at) × (text_in ps 9 ≡ by) × (text_in ps 13 ≡ entry) × (text_in ps 17 ≡ task)
    × (((length ps ≡ 27) × (text_in ps 21 ≡ note)) ⊎ ((length ps ≡ 23) × (note ≡ [])))
IsPicked ps (void at) = (length ps ≡ 13) × (text_in ps 7 ≡ at)
IsPicked ps (remark about text entry by at) =
    (length ps ≡ 19) × (get_or ps 1 [] ≡ word_of about) × (text_in ps 3 ≡ text) × (get_or ps 6 [] ≡ 58 ∷ (decimal entry ++ 44 ∷ [])) × (text_in ps 9 ≡ by) × (text_in ps 13 ≡ at)

-- whatever line the pieces are of, it is this one
abbrev pub IsGuess : List (List ℕ) → Option TrailLine → Type 0
IsGuess ps None = (said : Said) → IsSayable said → ¬ (IsPicked ps said)
IsGuess ps (Some line) = (said : Said) → IsSayable said → IsPicked ps said → said_of line ≡ said

-- ---- lines

-- the line reads so behind that end
abbrev pub IsRead : TrailEnd → List ℕ → Option (TrailLine × TrailEnd) → Type 0
IsRead e text None = (said : Said) → IsSayable said → CanFollow e said → ¬ (text ≡ line_text e said)
IsRead e text (Some both) = (text ≡ line_text e (said_of both.0)) × CanFollow e (said_of both.0) × (both.1 ≡ end_behind e (said_of both.0))

-- the lines before it are in order, and the line of that number, from 1, is none that may follow them
pub record IsBadLine (e : TrailEnd) (file : List ℕ) (number : ℕ) : Type 0 where
  pub before : List Said
  pub counted : length before + 1 ≡ number
  pub in_order : AreInOrder e before
  pub rest : List ℕ
  pub split : file ≡ trail_text e before ++ rest
  pub there : is_open rest ≡ true
  pub none : (said : Said) (more : List ℕ) → IsSayable said → CanFollow (end_of e before) said → ¬ (rest ≡ line_text (end_of e before) said ++ 10 ∷ more)

-- read so far: these lines, up to that end, with the rest behind them
pub record IsReadTo (e : TrailEnd) (file : List ℕ) (saying : List Said) (now : TrailEnd) (rest : List ℕ) : Type 0 where
  pub in_order : AreInOrder e saying
  pub ends : now ≡ end_of e saying
  pub split : file ≡ trail_text e saying ++ rest
