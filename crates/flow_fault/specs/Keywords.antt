-- The reserved words with which a text may go on, by what is wanted.
use Rattle.std.specs.Prelude.{ℕ, Bool, List, [], ◌∷◌, codes}
use Rattle.std.specs.List.{list_any}
use Rattle.flow_form.specs.declared.refusal.Wanted.{Wanted}
use Rattle.flow_form.specs.declared.refusal.Wanted.TheVariants as want
use Rattle.flow_fault.specs.Near.{is_near}

abbrev pub keywords : Wanted → List (List ℕ)
keywords want.Declaration = codes "fact" ∷ codes "event" ∷ codes "flow" ∷ codes "goal" ∷ []
keywords want.Constraint = codes "constraint" ∷ []
keywords want.Rule = codes "must" ∷ codes "never" ∷ codes "order" ∷ codes "precedes" ∷ codes "needs" ∷ codes "not" ∷ []
keywords want.Semicolon = codes "done" ∷ codes "fail" ∷ codes "and" ∷ codes "or" ∷ []
keywords other = []

-- the word is near one of them
abbrev pub is_keyword_near : Wanted → List ℕ → Bool
is_keyword_near wanted word = list_any (is_near word) (keywords wanted)
