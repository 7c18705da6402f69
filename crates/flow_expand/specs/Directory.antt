-- What the names of declarations stand for.
use Rattle.std.specs.Prelude.{◌≡◌, ℕ, List, map, Option, Some, None, if◌then◌else◌}
use Rattle.std.specs.List.{flat_map, list_any, position_or_len}
use Rattle.std.specs.Str.{bytes_eq}
use Rattle.std.proofs.Common.{Bor}
use Rattle.flow_model.specs.Lists.{AreDistinct}
use Rattle.flow_form.specs.declared.form.Form.{Form}
use Rattle.flow_form.specs.Form.{shape_of}
use Rattle.flow_form.specs.Script.{Declared, declared}
use Rattle.flow_form.specs.Names.{declared_names, event_names, flow_goal}
use Rattle.flow_expand.specs.declared.directory.Directory.{Directory}
use Rattle.flow_expand.specs.Steps.{flow_names, AreDeclared}

-- the place of a name among names, if it is one of them
abbrev pub found_in : List (List ℕ) → List ℕ → Option ℕ
found_in names n = if list_any (bytes_eq n) names then Some (position_or_len (bytes_eq n) names) else None

-- the declarations that it is of
abbrev pub decls_of : Directory → List Declared
decls_of d = map declared d.decls.now

-- it has the events and sub-workflows that are declared, each name once, and goals name nothing else
pub record IsDirectory (d : Directory) : Type 0 where
  pub events : d.events.now ≡ event_names (decls_of d)
  pub flows : d.flows ≡ flow_names (decls_of d)
  pub goals : map (λ (f : Bor Form). shape_of f.now) d.goals.items ≡ flat_map flow_goal (decls_of d)
  pub once : AreDistinct (declared_names (decls_of d))
  pub closed : AreDeclared (decls_of d)
