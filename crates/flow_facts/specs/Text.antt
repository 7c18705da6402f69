-- Facts as text.
use Rattle.std.specs.Prelude.{ℕ, List, [], ◌∷◌, ◌++◌, codes}
use Rattle.std.specs.Fmt.{decimal}
use Rattle.flow_facts.specs.declared.constant.Const.{Const}
use Rattle.flow_facts.specs.declared.constant.Const.TheVariants.{Word, Number}
use Rattle.flow_facts.specs.Atom.{Atom}

abbrev pub constant_text : Const → List ℕ
constant_text (Word name) = name
constant_text (Number n) = decimal n

-- each of them after a comma
abbrev pub more_constants : List Const → List ℕ
more_constants [] = []
more_constants (c ∷ cs) = codes "," ++ constant_text c ++ more_constants cs

abbrev pub arguments_text : List Const → List ℕ
arguments_text [] = []
arguments_text (c ∷ cs) = codes "(" ++ constant_text c ++ more_constants cs ++ codes ")"

abbrev pub fact_text : Atom → List ℕ
fact_text a = a.relation ++ arguments_text a.args
