-- The sub-workflows that goals name, by their numbers, and how many of them were found laid.
use Rattle.std.specs.Prelude.{◌≡◌, ℕ, ◌<◌, List, map, Some, slice_get, vec_len, option_to_list}
use Rattle.std.specs.List.{flat_map}
use Rattle.std.proofs.Common.{Vec, Global, Bor}
use Rattle.flow_form.specs.declared.form.Form.{Form}
use Rattle.flow_form.specs.Form.{shape_of}
use Rattle.flow_form.specs.Names.{names_in}
use Rattle.flow_expand.specs.declared.directory.Directory.{Directory}
use Rattle.flow_expand.specs.declared.lay.Stage.{Stage}
use Rattle.flow_expand.specs.declared.settlement.Settlement.{Settlement}
use Rattle.flow_expand.specs.Directory.{found_in}
use Rattle.flow_expand.specs.Lay.{IsLaid, IsLaidAt}

-- the numbers of the sub-workflows among the names
abbrev pub calls_in : List (List ℕ) → List (List ℕ) → List ℕ
calls_in flows ns = flat_map (λ n. option_to_list (found_in flows n)) ns

-- for each sub-workflow those that its goal names
abbrev pub AreCalls : Directory → List (Vec ℕ Global) → Type 0
AreCalls d calls = map (λ (v : Vec ℕ Global). v.items) calls ≡ map (λ (f : Bor Form). calls_in d.flows (names_in (shape_of f.now))) d.goals.items

-- so many of the first ones that each sub-workflow names are laid
abbrev pub AreSeen : List (Vec ℕ Global) → List ℕ → List Stage → Type 0
AreSeen calls seen laid = (k i j n : ℕ) (list : Vec ℕ Global) → slice_get calls k ≡ Some list → slice_get seen k ≡ Some n → i < n → slice_get list.items i ≡ Some j → IsLaidAt laid j

-- what is kept of each sub-workflow is true of it
pub record IsSettlement (d : Directory) (s : Settlement) : Type 0 where
  pub laid : IsLaid d s.laid.items s.layout.items
  pub many : vec_len s.laid ≡ vec_len d.goals
  pub calls : AreCalls d s.calls.items
  pub counted : vec_len s.seen ≡ vec_len d.goals
  pub seen : AreSeen s.calls.items s.seen.items s.laid.items
