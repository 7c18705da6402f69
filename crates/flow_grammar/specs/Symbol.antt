-- What a workflow text is written in, without places.
use Rattle.std.specs.Prelude.{◌≡◌, ℕ, List, [], ◌∷◌, ◌++◌}
use Rattle.flow_facts.specs.declared.constant.Const.{Const}
use Rattle.flow_facts.specs.declared.constant.Const.TheVariants.{Word, Number}

pub data Symbol : Type 0 where
  fact_word event_word flow_word goal_word constraint_word : Symbol
  nop_word iso_word ins_word del_word : Symbol
  must_word never_word order_word precedes_word needs_word not_word and_word or_word : Symbol
  done_word fail_word holds_word redundant_word : Symbol
  -- a word that is not reserved
  a_name : List ℕ → Symbol
  a_number : ℕ → Symbol
  -- * | + ( ) , ; = ? !
  star bar plus opening closing comma semicolon equals question exclamation : Symbol

-- a symbol with the number of parentheses and nots, of one goal, rule or declared fact, in which it stands
pub data Placed : Type 0 where
  at : ℕ → Symbol → Placed

abbrev pub symbol : Placed → Symbol
symbol (at n t) = t

abbrev pub symbols : List Placed → List Symbol
symbols [] = []
symbols (at n t ∷ w) = t ∷ symbols w

-- the text begins with these symbols
abbrev pub IsBegunBy : List Symbol → List Placed → Type 0
IsBegunBy ts w = (rest : List Symbol) × (symbols w ≡ ts ++ rest)

-- in what stands after it, one is deeper
abbrev pub Deepens : Symbol → Type 0
Deepens opening = Unit {0}
Deepens not_word = Unit {0}
Deepens _ = ⊥

abbrev pub constant_symbol : Const → Symbol
constant_symbol (Word n) = a_name n
constant_symbol (Number n) = a_number n
