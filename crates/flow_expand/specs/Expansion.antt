-- A goal with each sub-workflow put in place, and its size.
use Rattle.std.specs.Prelude.{ℕ, ◌+◌, max, List, [], ◌∷◌, fold}
use Rattle.flow_model.specs.Lists.{◌∈◌}
pub use Rattle.flow_goal.specs.Capped.{capped}
use Rattle.flow_facts.specs.Atom.{Atom}
use Rattle.flow_form.specs.Form.{Shape, Shapes, nop, named, test, absent, ins, del, iso, serial, beside, either, no_more, followed}
use Rattle.flow_form.specs.Script.{Declared, flow}
use Rattle.flow_form.specs.Names.{event_names}
use Rattle.flow_expand.specs.declared.size.Size.{Size}

pub data Expansion : Type 0 where
  nothing : Expansion
  -- the event of that name
  happens : List ℕ → Expansion
  holds : Atom → Expansion
  lacks : Atom → Expansion
  adds : Atom → Expansion
  takes : Atom → Expansion
  -- the first, and then the second
  in_turn : Expansion → Expansion → Expansion
  -- both, beside one another
  at_once : Expansion → Expansion → Expansion
  one_of : Expansion → Expansion → Expansion
  -- with nothing from outside in between
  alone : Expansion → Expansion

-- the members of a list, joined two by two from the left
abbrev pub joined : (Expansion → Expansion → Expansion) → List Expansion → Expansion
joined join [] = nothing
joined join (e ∷ es) = fold join e es

mutual
  -- what is written becomes that goal, with each sub-workflow put in place
  pub data Becomes (decls : List Declared) : Shape → Expansion → Type 0 where
    becomes_nop : Becomes decls nop nothing
    becomes_event : {n : List ℕ} → n ∈ event_names decls → Becomes decls (named n) (happens n)
    becomes_flow : {n : List ℕ} {s : Shape} {e : Expansion} → flow n s ∈ decls → Becomes decls s e → Becomes decls (named n) e
    becomes_test : {a : Atom} → Becomes decls (test a) (holds a)
    becomes_absent : {a : Atom} → Becomes decls (absent a) (lacks a)
    becomes_ins : {a : Atom} → Becomes decls (ins a) (adds a)
    becomes_del : {a : Atom} → Becomes decls (del a) (takes a)
    becomes_iso : {s : Shape} {e : Expansion} → Becomes decls s e → Becomes decls (iso s) (alone e)
    becomes_serial : {ss : Shapes} {es : List Expansion} → AllBecome decls ss es → Becomes decls (serial ss) (joined in_turn es)
    becomes_beside : {ss : Shapes} {es : List Expansion} → AllBecome decls ss es → Becomes decls (beside ss) (joined at_once es)
    becomes_either : {ss : Shapes} {es : List Expansion} → AllBecome decls ss es → Becomes decls (either ss) (joined one_of es)

  -- each of a list becomes its goal
  pub data AllBecome (decls : List Declared) : Shapes → List Expansion → Type 0 where
    none_becomes : AllBecome decls no_more []
    more_become : {s : Shape} {e : Expansion} {ss : Shapes} {es : List Expansion} →
        Becomes decls s e → AllBecome decls ss es → AllBecome decls (followed s ss) (e ∷ es)

-- its leaves and nothings
abbrev pub ends_in : Expansion → ℕ
ends_in (in_turn a b) = ends_in a + ends_in b
ends_in (at_once a b) = ends_in a + ends_in b
ends_in (one_of a b) = ends_in a + ends_in b
ends_in (alone a) = ends_in a
ends_in e = 1

-- its isolations
abbrev pub isolations_in : Expansion → ℕ
isolations_in (in_turn a b) = isolations_in a + isolations_in b
isolations_in (at_once a b) = isolations_in a + isolations_in b
isolations_in (one_of a b) = isolations_in a + isolations_in b
isolations_in (alone a) = isolations_in a + 1
isolations_in e = 0

-- its leaves and nothings, or its isolations where these are more
abbrev pub size_of : Expansion → ℕ
size_of e = max (ends_in e) (isolations_in e)

-- its numbers in 64 bits
abbrev pub sizes_of : Expansion → Size
sizes_of e = record { ends = capped (ends_in e); isolations = capped (isolations_in e) }
