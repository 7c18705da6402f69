-- A fact as a relation and its arguments.
use Rattle.std.specs.Prelude.{ℕ, Bool, false, nat_eq, ◌&&◌, List}
use Rattle.std.specs.Cmp.Lexicographic.{pointwise}
use Rattle.std.proofs.Common.{refl}
use Rattle.std.specs.Coded.{Coded, code_by, coded×, coded_ℕ, coded_list}
use Rattle.flow_facts.specs.declared.constant.Const.{Const}
use Rattle.flow_facts.specs.declared.constant.Const.TheVariants.{Word, Number}
use Rattle.flow_facts.specs.contracts.constant.Const as constant

pub record Atom : Type 0 where
  pub relation : List ℕ
  pub args : List Const

abbrev pub atom_code : Coded Atom
atom_code = code_by (List ℕ × List Const) (coded× (coded_list coded_ℕ) (coded_list constant.the_row.coded))
    (λ a. (a.relation, a.args)) (λ p. record { relation = p.0; args = p.1 }) (λ _. refl)

abbrev pub atom : List ℕ → List Const → Atom
atom relation args = record { relation = relation; args = args }

-- the constants are the same
abbrev pub const_eq : Const → Const → Bool
const_eq (Word a) (Word b) = pointwise nat_eq a b
const_eq (Word a) (Number n) = false
const_eq (Number m) (Word b) = false
const_eq (Number m) (Number n) = nat_eq m n

-- the relations and the arguments are the same
abbrev pub atom_eq : Atom → Atom → Bool
atom_eq a b = pointwise nat_eq a.relation b.relation && pointwise const_eq a.args b.args
