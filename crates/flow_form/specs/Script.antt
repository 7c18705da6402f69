-- A workflow as it is written, without pointers.
use Rattle.std.specs.Prelude.{ℕ, List, map}
use Rattle.flow_model.specs.declared.labels.Note.{Note}
use Rattle.flow_facts.specs.Atom.{Atom}
use Rattle.flow_form.specs.declared.script.Decl.{Decl}
use Rattle.flow_form.specs.declared.script.Decl.TheVariants.{Fact, Event, Flow}
use Rattle.flow_form.specs.declared.script.Script.{Script}
use Rattle.flow_form.specs.declared.query.Query.{Query}
use Rattle.flow_form.specs.declared.query.Query.TheVariants.{Holds, Redundant}
use Rattle.flow_form.specs.Form.{Shape, shape_of}
use Rattle.flow_form.specs.RuleForm.{RuleShape, rule_shape_of}

-- one declaration
pub data Declared : Type 0 where
  fact : Atom → Declared
  event : List ℕ → Note → Declared
  flow : List ℕ → Shape → Declared

-- what a text says
pub record Said : Type 0 where
  pub decls : List Declared
  pub goal : Shape
  pub rules : List RuleShape

-- a question about it
pub data Asked : Type 0 where
  holds : RuleShape → Asked
  redundant : ℕ → Asked

abbrev pub declared : Decl → Declared
declared (Fact a) = fact a
declared (Event n note) = event n note
declared (Flow n f) = flow n (shape_of f)

abbrev pub said : Script → Said
said s = record { decls = map declared s.decls.items; goal = shape_of s.goal; rules = map rule_shape_of s.rules.items }

abbrev pub asked : Query → Asked
asked (Holds r) = holds (rule_shape_of r)
asked (Redundant n) = redundant n
