-- An expanded goal with numbers in place of names and facts.
use Rattle.std.specs.Prelude.{ℕ, ◌+◌, List, [], ◌∷◌, ◌++◌, fold, length, if◌then◌else◌}
use Rattle.std.specs.List.{flat_map, list_any, position_or_len}
use Rattle.flow_model.specs.declared.labels.Label.{Label}
use Rattle.flow_model.specs.declared.labels.Label.TheVariants.{Event, Test, Absent, Ins, Del}
use Rattle.flow_model.specs.declared.labels.Note.{Note}
use Rattle.flow_model.specs.Lists.{numbers_from}
use Rattle.flow_model.specs.Process.{Process, Empty, Task, Sequence, Parallel, Choice, Isolated}
use Rattle.flow_facts.specs.Atom.{Atom, atom_eq}
use Rattle.flow_form.specs.Script.{Declared, fact, event}
use Rattle.flow_form.specs.Names.{event_names}
use Rattle.flow_goal.specs.Labelled.{Labelled}
use Rattle.flow_workflow.specs.Numbers.{event_number}
use Rattle.flow_expand.specs.Expansion.{Expansion, nothing, happens, holds, lacks, adds, takes, in_turn, at_once, one_of, alone}

-- the facts at its leaves, from left to right
abbrev pub facts_in : Expansion → List Atom
facts_in (holds a) = a ∷ []
facts_in (lacks a) = a ∷ []
facts_in (adds a) = a ∷ []
facts_in (takes a) = a ∷ []
facts_in (in_turn a b) = facts_in a ++ facts_in b
facts_in (at_once a b) = facts_in a ++ facts_in b
facts_in (one_of a b) = facts_in a ++ facts_in b
facts_in (alone a) = facts_in a
facts_in e = []

-- the list with one more fact, unless it is there
abbrev pub with_fact : List Atom → Atom → List Atom
with_fact facts a = if list_any (atom_eq a) facts then facts else facts ++ a ∷ []

-- each fact where it comes first
abbrev pub firsts : List Atom → List Atom
firsts facts = fold with_fact [] facts

abbrev pub fact_of : Declared → List Atom
fact_of (fact a) = a ∷ []
fact_of d = []

-- the facts that are declared
abbrev pub declared_facts : List Declared → List Atom
declared_facts decls = flat_map fact_of decls

-- the facts by their numbers: those that are declared, and then those at leaves
abbrev pub facts_of : List Declared → Expansion → List Atom
facts_of decls e = firsts (declared_facts decls ++ facts_in e)

-- the numbers of the facts that are declared
abbrev pub held_of : List Declared → List ℕ
held_of decls = numbers_from 0 (length (firsts (declared_facts decls)))

abbrev pub event_note : Declared → List Note
event_note (event n note) = note ∷ []
event_note d = []

-- the notes of events by their numbers
abbrev pub notes_of : List Declared → List Note
notes_of decls = flat_map event_note decls

-- the number of a fact: its place among them
abbrev pub fact_number : List Atom → Atom → ℕ
fact_number facts a = position_or_len (atom_eq a) facts

-- the labels of its leaves, from left to right
abbrev pub labels_of : List (List ℕ) → List Atom → Expansion → List Label
labels_of events facts nothing = []
labels_of events facts (happens n) = Event (event_number events n) ∷ []
labels_of events facts (holds a) = Test (fact_number facts a) ∷ []
labels_of events facts (lacks a) = Absent (fact_number facts a) ∷ []
labels_of events facts (adds a) = Ins (fact_number facts a) ∷ []
labels_of events facts (takes a) = Del (fact_number facts a) ∷ []
labels_of events facts (in_turn a b) = labels_of events facts a ++ labels_of events facts b
labels_of events facts (at_once a b) = labels_of events facts a ++ labels_of events facts b
labels_of events facts (one_of a b) = labels_of events facts a ++ labels_of events facts b
labels_of events facts (alone a) = labels_of events facts a

-- how many leaves it has
abbrev pub leaf_count : Expansion → ℕ
leaf_count nothing = 0
leaf_count (in_turn a b) = leaf_count a + leaf_count b
leaf_count (at_once a b) = leaf_count a + leaf_count b
leaf_count (one_of a b) = leaf_count a + leaf_count b
leaf_count (alone a) = leaf_count a
leaf_count e = 1

-- the goal with its leaves numbered from that number on, from the left
abbrev pub numbered : ℕ → Expansion → Process
numbered next nothing = Empty
numbered next (in_turn a b) = Sequence (numbered next a) (numbered (next + leaf_count a) b)
numbered next (at_once a b) = Parallel (numbered next a) (numbered (next + leaf_count a) b)
numbered next (one_of a b) = Choice (numbered next a) (numbered (next + leaf_count a) b)
numbered next (alone a) = Isolated (numbered next a)
numbered next e = Task next

-- the goal with labels at its leaves
abbrev pub labelled_of : List Declared → Expansion → Labelled
labelled_of decls e = record { process = numbered 0 e; labels = labels_of (event_names decls) (facts_of decls e) e }
