-- A case begins by its texts, and its kept run begins the same.
use Rattle.std.proofs.Common.{◌≡◌, ◌⊎◌, inl, inr, ℕ, List, [], ◌++◌, Option, None, Some, Result, Ok, Err, IfOk, refl, sym, ap, subst, ◌∙◌}
use Rattle.flow_model.specs.Lists.{AreDistinct}
use Rattle.flow_model.specs.declared.history.Entry.{Entry}
use Rattle.flow_form.specs.Script.{Said}
use Rattle.flow_form.specs.Names.{declared_names, event_names}
use Rattle.flow_workflow.specs.Definition.{Definition}
use Rattle.flow_expand.specs.Workflows.{definition_of, IsExpanded}
use Rattle.flow_expand.proofs.Endings.{becomes_one}
use Rattle.flow_core.specs.Run.{Run}
use Rattle.flow_case.specs.declared.case_run.CaseRun.{CaseRun}
use Rattle.flow_case.specs.declared.case_run.CaseRun.TheVariants.{Free, UnderPolicy}
use Rattle.flow_case.specs.CaseRun.{run_of, case_with}
use Rattle.flow_case.specs.CasePolicy.{CaseSaid, IsCasePolicyOf}
use Rattle.flow_case_begin.specs.declared.texts.TheConstants.{MOST_STEPS}
use Rattle.flow_ask.specs.declared.ask.Ask.{Ask}
use Rattle.flow_core.specs.Ask.{GrowsAtMost}
use Rattle.flow_text.specs.Saying.{Says}
use Rattle.flow_text.proofs.SaidLaws.{texts_say_one_thing}
use Rattle.flow_case_begin.specs.Begun.{IsBegunRun, IsBegun, IsCaseOf, IsRunOf}
use Rattle.flow_case_begin.specs.declared.stop.CaseStop.{CaseStop}
use Rattle.flow_case_begin.specs.Stops.{IsUngoverned, IsUnbegunBy}

-- a run that is started
pub begun_run : (s : Said) (w : Definition) (r : Run) → IsExpanded s w → r ≡ record { definition = w; limit = MOST_STEPS; history = [] } → IsBegunRun s r
begun_run s w r x is = record {
  workflow = subst (IsExpanded s) (sym (ap (λ (a : Run). a.definition) is)) x;
  limit = ap (λ (a : Run). a.limit) is;
  empty = ap (λ (a : Run). a.history) is;
}

-- its events are those that the script declares
pub same_events : (s : Said) (r : Run) → IsBegunRun s r → event_names s.decls ≡ r.definition.events
same_events s r b = sym (ap (λ (w : Definition). w.events) b.workflow.is)

-- the case of that run under a policy
pub governed : (s : Said) (text : List ℕ) (r : Run) (p : CaseSaid) (c : CaseRun) → IsBegunRun s r → IsCasePolicyOf text s r.definition.events p →
    c ≡ UnderPolicy (record { desk = record { run = r; assigned = p.assigned }; rules = p.rules }) → IsBegun s (Some text) c
governed s text r p c b policy is = subst (IsBegun s (Some text)) (sym is) (b, policy)

-- the policy says nothing to that run
pub ungoverned : (s : Said) (text : List ℕ) (r : Run) (stop : CaseStop) → IsBegunRun s r → IsUngoverned text s r.definition.events stop → IsUnbegunBy s (Some text) stop
ungoverned s text r stop b u = inr (text, refl, (r.definition, b.workflow, u))

-- the run of a case that begins
pub run_begun : (s : Said) (policy : Option (List ℕ)) (c : CaseRun) → IsBegun s policy c → IsBegunRun s (run_of c)
run_begun s None (Free r) b = b
run_begun s None (UnderPolicy c) b = absurd b
run_begun s (Some text) (Free r) b = absurd b
run_begun s (Some text) (UnderPolicy c) (b, policy) = b

-- a script has one workflow
expanded_once : (s : Said) → AreDistinct (declared_names s.decls) → (w v : Definition) → IsExpanded s w → IsExpanded s v → w ≡ v
expanded_once s once w v p q =
    p.is ∙ ap (definition_of s) (becomes_one s.decls once s.goal p.expansion q.expansion p.measured.fitting.becomes q.measured.fitting.becomes) ∙ sym q.is

-- the kept run begins as the run of the case
pub begins_same : (s : Said) (r k : Run) → AreDistinct (declared_names s.decls) → IsBegunRun s r → IsExpanded s k.definition → k.limit ≡ MOST_STEPS →
    r ≡ record k { history = [] }
begins_same s r k once b x limit =
    let definition = expanded_once s once r.definition k.definition b.workflow x in
    let limits = b.limit ∙ sym limit in
    λ i. record { definition = definition i; limit = limits i; history = b.empty i }

-- the history of a case that follows entries from its beginning
pub followed : (begun c : CaseRun) (entries : List Entry) → (run_of begun).history ≡ [] → c ≡ case_with begun entries → (run_of c).history ≡ entries
followed (Free r) c entries empty is = ap (λ (x : CaseRun). (run_of x).history) is ∙ ap (λ (h : List Entry). h ++ entries) empty
followed (UnderPolicy u) c entries empty is = ap (λ (x : CaseRun). (run_of x).history) is ∙ ap (λ (h : List Entry). h ++ entries) empty

pub follows : (begun c : CaseRun) (entries : List Entry) → (run_of begun).history ≡ [] → c ≡ case_with begun entries → c ≡ case_with begun (run_of c).history
follows begun c entries empty is = is ∙ ap (case_with begun) (sym (followed begun c entries empty is))

-- what holds of a value that came holds of what follows from it
pub if_ok : {A E : Type 0} (r : Result A E) (P Q : A → Type 0) → ((x : A) → P x → Q x) → IfOk r P → IfOk r Q
if_ok (Ok x) P Q f h = f x h
if_ok (Err e) P Q f h = h

-- Runs of a text

with_entries : (c : CaseRun) (entries : List Entry) → run_of (case_with c entries) ≡ record (run_of c) { history = (run_of c).history ++ entries }
with_entries (Free r) entries = refl
with_entries (UnderPolicy u) entries = refl

-- the run of a case of the text with some entries
pub run_of_text : (workflow : List ℕ) (policy : Option (List ℕ)) (begun c : CaseRun) (entries : List Entry) → IsCaseOf workflow policy begun → c ≡ case_with begun entries → IsRunOf workflow (run_of c)
run_of_text workflow policy begun c entries (s, says, b) is =
    let first = run_begun s policy begun b in
    let whole = ap run_of is ∙ with_entries begun entries in
    record {
      said = s;
      says = says;
      expanded = subst (IsExpanded s) (sym (ap (λ (x : Run). x.definition) whole)) first.workflow;
      limit = ap (λ (x : Run). x.limit) whole ∙ first.limit;
    }

-- a run of the text stays one, whatever it is asked
pub text_stays : (workflow : List ℕ) (r after : Run) (what : Ask) (by : ℕ) → GrowsAtMost r what by after → IsRunOf workflow r → IsRunOf workflow after
text_stays workflow r after what by (inl same) h = subst (IsRunOf workflow) (sym same) h
text_stays workflow r after what by (inr (step, comes, is)) h = record {
  said = h.said;
  says = h.says;
  expanded = subst (IsExpanded h.said) (sym (ap (λ (x : Run). x.definition) is)) h.expanded;
  limit = ap (λ (x : Run). x.limit) is ∙ h.limit;
}

-- the case of the text with the entries of a run of it has that run
pub same_run : (workflow : List ℕ) (policy : Option (List ℕ)) (r : Run) (begun c : CaseRun) (entries : List Entry) → IsRunOf workflow r → IsCaseOf workflow policy begun → c ≡ case_with begun entries →
    entries ≡ r.history → run_of c ≡ r
same_run workflow policy r begun c entries h (s, says, b) is same =
    let first = run_begun s policy begun b in
    let expanded : IsExpanded s r.definition = subst (λ (x : Said). IsExpanded x r.definition) (texts_say_one_thing workflow h.said s h.says says) h.expanded in
    let definition = expanded_once s says.named.once (run_of begun).definition r.definition first.workflow expanded in
    let limit = first.limit ∙ sym h.limit in
    let history : (run_of begun).history ++ entries ≡ r.history = ap (λ (l : List Entry). l ++ entries) first.empty ∙ same in
    let whole : record (run_of begun) { history = (run_of begun).history ++ entries } ≡ r = λ i. record { definition = definition i; limit = limit i; history = history i } in
    ap run_of is ∙ with_entries begun entries ∙ whole
