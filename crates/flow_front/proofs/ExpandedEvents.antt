-- Events of an expanded goal are events that are declared.
use Rattle.std.proofs.Common.{◌≡◌, ◌<◌, ℕ, zero, suc, List, [], ◌∷◌, length, fold, Some, refl, arith}
use Rattle.std.specs.Str.{bytes_eq}
use Rattle.std.specs.Cmp.Lexicographic.{bytes_decides}
use Rattle.flow_model.specs.declared.labels.Label.{Label}
use Rattle.flow_model.specs.Lists.{Each}
use Rattle.flow_model.specs.Facts.{event_in, event_at}
use Rattle.flow_model.proofs.Lists.{each-append}
use Rattle.flow_model.proofs.MadeLists.{some_same}
use Rattle.flow_facts.specs.Atom.{Atom}
use Rattle.flow_form.specs.Form.{Shape, Shapes}
use Rattle.flow_form.specs.Script.{Said, Declared}
use Rattle.flow_form.specs.Names.{event_names}
use Rattle.flow_workflow.specs.Numbers.{event_number}
use Rattle.flow_workflow.proofs.FirstPlaces.{within}
use Rattle.flow_workflow.specs.declared.refusal.ExpandRefusal.{ExpandRefusal}
use Rattle.flow_workflow.specs.declared.refusal.ExpandRefusal.TheVariants as refusal
use Rattle.flow_expand.specs.Expansion.{Expansion, in_turn, at_once, one_of, joined, Becomes, AllBecome, becomes_nop, becomes_event, becomes_flow, becomes_iso, becomes_serial, becomes_beside, becomes_either, none_becomes, more_become}
use Rattle.flow_expand.specs.Numbers.{labels_of, facts_of}
use Rattle.flow_expand.specs.Refusals.{IsRefusal}
use Rattle.flow_findings.specs.Refusing.{IsOfWorkflow}

-- the label's event, if it has one, has a number below the count
abbrev IsBelow : ℕ → Label → Type 0
IsBelow count label = (event : ℕ) → event_in label ≡ Some event → event < count

joined_keeps : (P : Expansion → Type 0) (join : Expansion → Expansion → Expansion) → ((a b : Expansion) → P a → P b → P (join a b)) →
    (e : Expansion) (es : List Expansion) → P e → Each P es → P (fold join e es)
joined_keeps P join keeps e [] p ps = p
joined_keeps P join keeps e (f ∷ es) p ps = joined_keeps P join keeps (join e f) es (keeps e f p ps.0) ps.1

module _ (decls : List Declared) (facts : List Atom) where
  -- each leaf's event is declared
  abbrev AreBelow : Expansion → Type 0
  AreBelow e = Each (IsBelow (length (event_names decls))) (labels_of (event_names decls) facts e)

  both_below : (a b : Expansion) → AreBelow a → AreBelow b → AreBelow (in_turn a b)
  both_below a b p q = each-append (IsBelow (length (event_names decls))) (labels_of (event_names decls) facts a) (labels_of (event_names decls) facts b) p q

  list_below : (join : Expansion → Expansion → Expansion) → ((a b : Expansion) → AreBelow a → AreBelow b → AreBelow (join a b)) →
      (es : List Expansion) → Each AreBelow es → AreBelow (joined join es)
  list_below join keeps [] ps = tt
  list_below join keeps (e ∷ es) ps = joined_keeps AreBelow join keeps e es ps.0 ps.1

  mutual
    pub events_below : (s : Shape) (e : Expansion) → Becomes decls s e → AreBelow e
    events_below s e becomes_nop = tt
    events_below s e (becomes_event {n = n} there) = (
      (λ event at. let known : event_number (event_names decls) n < length (event_names decls) = within bytes_eq bytes_decides n (event_names decls) there in
          let same : event_number (event_names decls) n ≡ event = some_same (event_number (event_names decls) n) event at in omega arith),
      tt,
    )
    events_below s e (becomes_flow {n = n} {s = t} {e = f} there b) = events_below t f b
    events_below s e (becomes_iso {s = t} {e = f} b) = events_below t f b
    events_below s e (becomes_serial {ss = ss} {es = es} all) = list_below in_turn both_below es (all_below ss es all)
    events_below s e (becomes_beside {ss = ss} {es = es} all) = list_below at_once both_below es (all_below ss es all)
    events_below s e (becomes_either {ss = ss} {es = es} all) = list_below one_of both_below es (all_below ss es all)
    events_below s e of_fact = ((λ event at. cc), tt)

    all_below : (ss : Shapes) (es : List Expansion) → AllBecome decls ss es → Each AreBelow es
    all_below ss es none_becomes = tt
    all_below ss es (more_become {s = t} {e = f} {ss = ts} {es = fs} b all) = (events_below t f b, all_below ts fs all)

below-at : (count : ℕ) (labels : List Label) (leaf event : ℕ) → Each (IsBelow count) labels → event_at labels leaf ≡ Some event → event < count
below-at count [] leaf event h at = cc
below-at count (label ∷ labels) zero event h at = h.0 event at
below-at count (label ∷ labels) (suc leaf) event h at = below-at count labels leaf event h.1 at

-- a refusal that is not for want of memory can be told: its event has a name
pub tells_expansion : (s : Said) (r : ExpandRefusal) → IsRefusal s r → ¬ (r ≡ refusal.NoMemory) → IsOfWorkflow (event_names s.decls) r
tells_expansion s (refusal.Twice found) h memory =
    below-at (length (event_names s.decls)) (labels_of (event_names s.decls) (facts_of s.decls h.expansion) h.expansion) found.first found.event
    (events_below s.decls (facts_of s.decls h.expansion) s.goal h.expansion h.measured.fitting.becomes) h.first.twice.at_first
tells_expansion s refusal.NoMemory h memory = absurd (memory refl)
tells_expansion s r h memory = tt
