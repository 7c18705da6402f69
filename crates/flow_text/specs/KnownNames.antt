-- The roles of a text, gone through once with the names that are known.
use Rattle.std.specs.Prelude.{◌≡◌, ◌↔◌, ℕ, ◌+◌, List, [], ◌∷◌, Bool, true, false, not, cond, Option, Some, None, is_some}
use Rattle.indexmap.specs.IndexMap.{IndexMap, get_by}
use Rattle.std.specs.Str.{bytes_eq}
use Rattle.std.proofs.Common.{Bor}
use Rattle.flow_model.specs.Lists.{◌∈◌, AreDistinct}
use Rattle.flow_facts.specs.declared.text_key.TextKey.{TextKey}
use Rattle.flow_form.specs.Script.{Declared}
use Rattle.flow_form.specs.Names.{declared_names, event_names}
use Rattle.flow_grammar.specs.Roles.{Role, declares, in_goal, in_rule}
use Rattle.flow_text.specs.declared.known.DeclaredAs.{DeclaredAs}
use Rattle.flow_text.specs.declared.known.DeclaredAs.TheVariants.{Event}
use Rattle.flow_text.specs.declared.known.Known.{Known}

-- a set of names, by the test for its members
abbrev pub NameSet : Type 0
NameSet = List ℕ → Bool

abbrev pub no_names : NameSet
no_names name = false

abbrev pub with_name : NameSet → List ℕ → NameSet
with_name set name other = cond (bytes_eq name other) true (set other)

-- its members are those names
abbrev pub HasJust : NameSet → List (List ℕ) → Type 0
HasJust set names = (q : List ℕ) → (set q ≡ true) ↔ (q ∈ names)

-- the set of a map's keys
abbrev pub has : {X : Type 0} → IndexMap (Bor (List ℕ)) X TextKey → NameSet
has m name = is_some (get_by (λ key. bytes_eq name key.now) m)

abbrev pub as_event : Option DeclaredAs → Bool
as_event (Some Event) = true
as_event _ = false

-- the set of those that the map has as events
abbrev pub has_as_event : IndexMap (Bor (List ℕ)) DeclaredAs TextKey → NameSet
has_as_event m name = as_event (get_by (λ key. bytes_eq name key.now) m)

-- the role declares a name of the set
abbrev pub is_again : NameSet → Role → Bool
is_again set (declares n) = set n
is_again set _ = false

-- the set with what the role declares
abbrev pub with_role : NameSet → Role → NameSet
with_role set (declares n) = with_name set n
with_role set _ = set

-- the first role that declares a name of the set or of a role before it; the list's first role is number `place`
abbrev pub repeated_from : NameSet → ℕ → List Role → Option ℕ
repeated_from set place [] = None
repeated_from set place (r ∷ roles) = cond (is_again set r) (Some place) (repeated_from (with_role set r) (place + 1) roles)

-- the role uses a name that is not among the declared, or in a constraint not among the events
abbrev pub is_unknown : NameSet → NameSet → Role → Bool
is_unknown declared events (in_goal n) = not (declared n)
is_unknown declared events (in_rule n) = not (events n)
is_unknown declared events _ = false

-- the names and events are those of the declarations, and where it does not tell so, none is declared a second time
pub record KnowsThose (decls : List Declared) (known : Known) : Type 0 where
  pub declared : HasJust (has known.names) (declared_names decls)
  pub events : HasJust (has_as_event known.names) (event_names decls)
  pub once : known.is_again ≡ false → AreDistinct (declared_names decls)
