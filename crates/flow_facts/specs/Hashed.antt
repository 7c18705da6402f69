-- What names, constants and facts write into a hasher.
use Rattle.std.specs.Prelude.{ℕ, List, [], ◌∷◌, ◌++◌, nat_eq}
use Rattle.std.specs.List.{flat_map}
use Rattle.std.specs.Cmp.Lexicographic.{pointwise}
use Rattle.std.specs.Hash as fed
use Rattle.std.specs.Hash.{Alike, same_Alike}
use Rattle.flow_facts.specs.declared.constant.Const.{Const}
use Rattle.flow_facts.specs.declared.constant.Const.TheVariants.{Word, Number}
use Rattle.flow_facts.specs.Atom.{Atom, const_eq, atom_eq}
use Rattle.flow_facts.specs.Same.{words_eq-Decides, const_eq-Decides, atom_eq-Decides}

abbrev pub const_input : Const → List (List ℕ)
const_input (Word name) = fed.u8 0 ++ name ∷ []
const_input (Number n) = fed.u8 1 ++ fed.u32 n

abbrev pub atom_input : Atom → List (List ℕ)
atom_input a = (a.relation ∷ []) ++ flat_map const_input a.args

pub names_alike : Alike (pointwise nat_eq) (λ n. n ∷ [])
names_alike = same_Alike (λ n. n ∷ []) words_eq-Decides

pub constants_alike : Alike const_eq const_input
constants_alike = same_Alike const_input const_eq-Decides

pub atoms_alike : Alike atom_eq atom_input
atoms_alike = same_Alike atom_input atom_eq-Decides
