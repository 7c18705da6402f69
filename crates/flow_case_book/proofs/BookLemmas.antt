-- A case that is asked, and one that is not taken up.
use Rattle.std.proofs.Common.{◌≡◌, ◌⊎◌, inl, inr, ◌↔◌, ◌+◌, ℕ, Vec, Global, Bool, true, false, true≢false, IsTrue, IfOk, List, [], ◌∷◌, ◌++◌, length, Option, None, Some, Result, Ok, Err, IfErr, OnOk, OnErr, refl, sym, ap, subst, ◌∙◌}
use Rattle.std.specs.declared.alloc.AllocError.{AllocError}
use Rattle.flow_model.specs.declared.history.Entry.{Entry}
use Rattle.flow_ask.specs.declared.ask.Ask.{Ask}
use Rattle.flow_ask.specs.declared.made.Made.{Made}
use Rattle.flow_ask.specs.declared.refusal.Refusal.{Refusal}
use Rattle.flow_form.specs.Script.{Said}
use Rattle.flow_text.specs.Saying.{Says}
use Rattle.flow_core.specs.Run.{Run}
use Rattle.flow_core.specs.Ask.{GrowsAtMost}
use Rattle.flow_core.specs.Holding.{IsTakeable}
use Rattle.flow_names.specs.Meaning.{NoneHas}
use Rattle.flow_names.specs.Steps.{IsStepBefore, LeadTo}
use Rattle.flow_names.specs.Tidy.{Tidies}
use Rattle.flow_case.specs.declared.case_run.CaseRun.{CaseRun}
use Rattle.flow_case.specs.declared.case_run.CaseRun.TheVariants.{Free, UnderPolicy}
use Rattle.flow_case.specs.CaseRun.{run_of, case_with, CaseAnswers}
use Rattle.flow_case.proofs.Growth.{case_grows}
use Rattle.flow_keep.specs.Answered.{KeepAnswers}
use Rattle.flow_keep.specs.Records.{records, Keeps}
use Rattle.flow_trail.specs.declared.line.TrailEnd.{TrailEnd}
use Rattle.flow_case_begin.specs.declared.stop.CaseStop.{CaseStop}
use Rattle.flow_case_begin.specs.declared.stop.CaseStop.TheVariants.{Workflow, Policy, LongPolicy, Foreign, Trail, Disk, NoMemory}
use Rattle.flow_case_begin.specs.Begun.{IsBegun, IsCaseOf}
use Rattle.flow_case_begin.specs.Stops.{of_keep, of_trail, IsUnbegun, IsNoCaseOf, IsNoCaseIn}
use Rattle.flow_case_begin.proofs.BeginLemmas.{run_begun, run_of_text, same_run}
use Rattle.flow_case_talk.specs.Means.{AreStepsTo, AreTidySteps}
use Rattle.flow_case_book.specs.Unopened.{IsUnkept, IsUntold, IsNotTakenUp}
use Rattle.flow_keep.specs.declared.refusal.KeepRefusal.{KeepRefusal}
use Rattle.flow_keep.specs.declared.refusal.KeepRefusal.TheVariants as keep
use Rattle.flow_keep.specs.Opened.{IsForeign}
use Rattle.flow_trail.specs.declared.refusal.OpenRefusal.{OpenRefusal}
use Rattle.flow_trail.specs.declared.refusal.OpenRefusal.TheVariants as trail
use Rattle.flow_trail.specs.Lines.{end_of}
use Rattle.flow_trail.specs.Lines as lines
use Rattle.flow_trail.specs.Opened.{TellsCount}
use Rattle.flow_trail.specs.Read.{IsBadLine}
use Rattle.flow_workflow.specs.Definition.{Definition, schema_of}
use Rattle.flow_expand.specs.Workflows.{IsExpanded}
use Rattle.flow_case_begin.specs.declared.texts.TheConstants.{MOST_STEPS}

-- Asks

-- whatever is answered, and whether it is kept or not, the run stays or has one entry more
grows : (b b' : Bool) (c after : CaseRun) (what : Ask) (by : ℕ) (a : Result Made Refusal) → KeepAnswers run_of CaseAnswers b c what by a b' after → GrowsAtMost (run_of c) what by (run_of after)
grows b b' c after what by a (inl (x, y, z, same)) = inl (ap run_of same)
grows b b' c after what by a (inr (inl (x, y, h))) = case_grows c after what by a h
grows b b' c after what by a (inr (inr (x, y, z, (told, h, more)))) = inr more

-- it began as before
begun_before : (b b' : Bool) (c after : CaseRun) (what : Ask) (by : ℕ) (a : Result Made Refusal) → KeepAnswers run_of CaseAnswers b c what by a b' after →
    record (run_of after) { history = [] } ≡ record (run_of c) { history = [] }
begun_before b b' c after what by a h = of (grows b b' c after what by a h)
  where
    of : GrowsAtMost (run_of c) what by (run_of after) → record (run_of after) { history = [] } ≡ record (run_of c) { history = [] }
    of (inl same) = ap (λ (x : Run). record x { history = [] }) same
    of (inr (step, comes, is)) = ap (λ (x : Run). record x { history = [] }) is

-- the case of the texts begins as the run of a case of them, whatever that is asked
pub asked_begun : (workflow : List ℕ) (policy : Option (List ℕ)) (b b' : Bool) (c after : CaseRun) (what : Ask) (by : ℕ) (a : Result Made Refusal) →
    ((begun : CaseRun) → IsCaseOf workflow policy begun → run_of begun ≡ record (run_of c) { history = [] }) → KeepAnswers run_of CaseAnswers b c what by a b' after →
    (begun : CaseRun) → IsCaseOf workflow policy begun → run_of begun ≡ record (run_of after) { history = [] }
asked_begun workflow policy b b' c after what by a first h begun is = first begun is ∙ sym (begun_before b b' c after what by a h)

pub same_begun : (workflow : List ℕ) (policy : Option (List ℕ)) (c after : CaseRun) →
    ((begun : CaseRun) → IsCaseOf workflow policy begun → run_of begun ≡ record (run_of c) { history = [] }) → after ≡ c →
    (begun : CaseRun) → IsCaseOf workflow policy begun → run_of begun ≡ record (run_of after) { history = [] }
same_begun workflow policy c after first same begun is = first begun is ∙ ap (λ (x : CaseRun). record (run_of x) { history = [] }) (sym same)

with_entries : (c : CaseRun) (entries : List Entry) → run_of (case_with c entries) ≡ record (run_of c) { history = (run_of c).history ++ entries }
with_entries (Free r) entries = refl
with_entries (UnderPolicy u) entries = refl

emptied : (c : CaseRun) (entries : List Entry) → record (run_of (case_with c entries)) { history = [] } ≡ record (run_of c) { history = [] }
emptied (Free r) entries = refl
emptied (UnderPolicy u) entries = refl

-- a case of the texts with entries began as each case of them does
pub begins_as : (workflow : List ℕ) (policy : Option (List ℕ)) (begun c : CaseRun) (entries : List Entry) → IsCaseOf workflow policy begun → c ≡ case_with begun entries →
    (other : CaseRun) → IsCaseOf workflow policy other → run_of other ≡ record (run_of c) { history = [] }
begins_as workflow policy begun c entries of is other (s, says, b) =
    let r = run_of c in
    let same = same_run workflow policy r other (case_with other r.history) r.history (run_of_text workflow policy begun c entries of is) (s, says, b) refl refl in
    let empty = (run_begun s policy other b).empty in
    let whole : record (run_of other) { history = [] } ≡ run_of other = λ i. record { definition = (run_of other).definition; limit = (run_of other).limit; history = sym empty i } in
    sym whole ∙ sym (emptied other r.history) ∙ ap (λ (x : Run). record x { history = [] }) same

-- the case of the texts with the entries of another has the same run
pub twin_run : (workflow : List ℕ) (policy : Option (List ℕ)) (c begun twin : CaseRun) (entries : List Entry) →
    ((begun : CaseRun) → IsCaseOf workflow policy begun → run_of begun ≡ record (run_of c) { history = [] }) → IsCaseOf workflow policy begun → twin ≡ case_with begun entries →
    entries ≡ (run_of c).history → run_of twin ≡ run_of c
twin_run workflow policy c begun twin entries first of is same =
    ap run_of is ∙ with_entries begun entries ∙ ap (λ (x : Run). record x { history = x.history ++ entries }) (first begun of)
    ∙ ap (λ (l : List Entry). record (run_of c) { history = l }) same

-- Steps

-- none are wanted
pub takeable_now : (by leaf : ℕ) (c : CaseRun) (r : Run) (b : Bool) (steps : List ℕ) → IsTrue b ↔ IsTakeable r leaf → b ≡ true → r ≡ run_of c → steps ≡ [] → AreStepsTo by c leaf steps
takeable_now by leaf c r b steps may is same empty = record {
  scout = c;
  lead = subst (λ (l : List ℕ). LeadTo run_of CaseAnswers (run_of c) by leaf l c) (sym empty) (inl (refl, subst (λ (s : Run). IsTakeable s leaf) same (may.0 is)));
}

-- there is none
pub none_before : (by leaf : ℕ) (c : CaseRun) (r s : Run) (b w : Bool) (steps : List ℕ) → IsTrue b ↔ IsTakeable r leaf → b ≡ false → r ≡ run_of c →
    IsTrue w ↔ ((step : ℕ) × IsStepBefore s leaf step) → w ≡ false → s ≡ run_of c → steps ≡ [] → AreStepsTo by c leaf steps
none_before by leaf c r s b w steps may is same waits none there empty =
    let cannot : ¬ (IsTakeable (run_of c) leaf) = subst (λ (x : Run). ¬ (IsTakeable x leaf)) same (λ can. true≢false (sym (may.1 can) ∙ is)) in
    let no_step : NoneHas (IsStepBefore (run_of c) leaf) = subst (λ (x : Run). NoneHas (IsStepBefore x leaf)) there (λ n h. true≢false (sym (waits.1 (n, h)) ∙ none)) in
    record { scout = c; lead = inr (empty, ([], refl, cannot, inl no_step)) }

-- those of another run of the same text are the case's
pub steps_of_twin : (found : Result (Vec ℕ Global) AllocError) (by leaf : ℕ) (c twin after : CaseRun) → run_of twin ≡ run_of c →
    IfOk found (λ steps. LeadTo run_of CaseAnswers (run_of twin) by leaf steps.items after) → IfOk found (λ steps. AreStepsTo by c leaf steps.items)
steps_of_twin (Ok steps) by leaf c twin after same lead = record { scout = after; lead = subst (λ (r : Run). LeadTo run_of CaseAnswers r by leaf steps.items after) same lead }
steps_of_twin (Err e) by leaf c twin after same lead = lead

pub tidy_of_twin : (found : Result (Vec ℕ Global) AllocError) (by : ℕ) (c twin after : CaseRun) → run_of twin ≡ run_of c →
    IfOk found (λ leaves. Tidies run_of CaseAnswers (run_of twin) by leaves.items after) → IfOk found (λ leaves. AreTidySteps by c leaves.items)
tidy_of_twin (Ok leaves) by c twin after same tidy = record { scout = after; tidy = subst (λ (r : Run). Tidies run_of CaseAnswers r by leaves.items after) same tidy }
tidy_of_twin (Err e) by c twin after same tidy = tidy

-- Stops

-- what is not taken up is no case of the texts
pub not_opened : (workflow : List ℕ) (policy : Option (List ℕ)) (s : Said) (begun : CaseRun) (start : TrailEnd) (file trail : List ℕ) (stop : CaseStop) → Says workflow s → IsBegun s policy begun →
    IsNotTakenUp s begun start file trail stop → IsNoCaseIn workflow policy start file trail stop
not_opened workflow policy s begun start file trail (Foreign index) says is (inl h) = inl (s, says, h)
not_opened workflow policy s begun start file trail (Foreign index) says is (inr (kept, keeps, inl h)) = absurd h
not_opened workflow policy s begun start file trail (Foreign index) says is (inr (kept, keeps, inr h)) = inr (begun, kept, (s, says, is), keeps, h)
not_opened workflow policy s begun start file trail (Trail why) says is (inl h) = absurd h
not_opened workflow policy s begun start file trail (Trail why) says is (inr (kept, keeps, inl h)) = (kept, keeps, h)
not_opened workflow policy s begun start file trail (Trail why) says is (inr (kept, keeps, inr h)) = absurd h
not_opened workflow policy s begun start file trail Disk says is h = tt
not_opened workflow policy s begun start file trail NoMemory says is h = tt
not_opened workflow policy s begun start file trail (Workflow stop) says is (inl h) = inr (s, says, inl h)
not_opened workflow policy s begun start file trail (Workflow stop) says is (inr (kept, keeps, inl h)) = absurd h
not_opened workflow policy s begun start file trail (Workflow stop) says is (inr (kept, keeps, inr h)) = absurd h
not_opened workflow policy s begun start file trail (Policy why) says is (inl h) = inr (s, says, inl h)
not_opened workflow policy s begun start file trail (Policy why) says is (inr (kept, keeps, inl h)) = absurd h
not_opened workflow policy s begun start file trail (Policy why) says is (inr (kept, keeps, inr h)) = absurd h
not_opened workflow policy s begun start file trail LongPolicy says is (inl h) = inr (s, says, inl h)
not_opened workflow policy s begun start file trail LongPolicy says is (inr (kept, keeps, inl h)) = absurd h
not_opened workflow policy s begun start file trail LongPolicy says is (inr (kept, keeps, inr h)) = absurd h

-- its texts have none
pub no_texts : (workflow : List ℕ) (policy : Option (List ℕ)) (start : TrailEnd) (file trail : List ℕ) (stop : CaseStop) → IsNoCaseOf workflow policy stop → IsNoCaseIn workflow policy start file trail stop
no_texts workflow policy start file trail (Workflow why) h = h
no_texts workflow policy start file trail (Policy why) h = h
no_texts workflow policy start file trail LongPolicy h = h
no_texts workflow policy start file trail Disk h = tt
no_texts workflow policy start file trail NoMemory h = tt
no_texts workflow policy start file trail (Foreign index) (inl h) = absurd h
no_texts workflow policy start file trail (Foreign index) (inr (s, says, inl h)) = absurd h
no_texts workflow policy start file trail (Foreign index) (inr (s, says, inr (text, is, (w, x, h)))) = absurd h
no_texts workflow policy start file trail (Trail why) (inl h) = absurd h
no_texts workflow policy start file trail (Trail why) (inr (s, says, inl h)) = absurd h
no_texts workflow policy start file trail (Trail why) (inr (s, says, inr (text, is, (w, x, h)))) = absurd h

-- want of memory is no case of which anything is said
pub wanting : (workflow : List ℕ) (policy : Option (List ℕ)) (start : TrailEnd) (file trail : List ℕ) (stop : CaseStop) → stop ≡ NoMemory → IsNoCaseIn workflow policy start file trail stop
wanting workflow policy start file trail stop is = subst (IsNoCaseIn workflow policy start file trail) (sym is) tt

-- entries that are not taken up, and a trail that is not
pub unkept : (why : KeepRefusal) (s : Said) (w : Definition) (file : List ℕ) (stop : CaseStop) → IsExpanded s w →
    ((index : ℕ) → why ≡ keep.Foreign index → IsForeign (schema_of w) MOST_STEPS (records file) index) → stop ≡ of_keep why → IsUnkept s file stop
unkept keep.DiskFault s w file stop x foreign is = subst (IsUnkept s file) (sym is) tt
unkept (keep.Foreign index) s w file stop x foreign is = subst (IsUnkept s file) (sym is) (w, x, foreign index refl)
unkept keep.NoMemory s w file stop x foreign is = subst (IsUnkept s file) (sym is) tt

pub untold : (why : OpenRefusal) (start : TrailEnd) (count : ℕ) (file : List ℕ) (stop : CaseStop) →
    ((line : ℕ) → why ≡ trail.BadLine line → IsBadLine start file line) →
    ((told : ℕ) → why ≡ trail.Count told → (saying : List lines.Said) × lines.Says start saying file × ((end_of start saying).count ≡ told) × ¬ (TellsCount (end_of start saying) count)) →
    stop ≡ of_trail why → IsUntold start count file stop
untold trail.DiskFault start count file stop bad other is = subst (IsUntold start count file) (sym is) tt
untold (trail.BadLine line) start count file stop bad other is = subst (IsUntold start count file) (sym is) (bad line refl)
untold (trail.Count told) start count file stop bad other is = subst (IsUntold start count file) (sym is) (other told refl)
untold trail.Full start count file stop bad other is = subst (IsUntold start count file) (sym is) tt
untold trail.NoMemory start count file stop bad other is = subst (IsUntold start count file) (sym is) tt

-- what is said of a result says more
pub on_ok : {T E : Type 0} (r : Result T E) (P Q : Type 0) → (P → Q) → OnOk r P → OnOk r Q
on_ok (Ok x) P Q f h = f h
on_ok (Err e) P Q f h = h

pub on_err : {T E : Type 0} (r : Result T E) (P Q : Type 0) → (P → Q) → OnErr r P → OnErr r Q
on_err (Ok x) P Q f h = h
on_err (Err e) P Q f h = f h

pub if_err : {T E : Type 0} (r : Result T E) (P Q : E → Type 0) → ((e : E) → P e → Q e) → IfErr r P → IfErr r Q
if_err (Ok x) P Q f h = h
if_err (Err e) P Q f h = f e h

-- a trail of so many entries is not taken up
pub not_told : (s : Said) (begun : CaseRun) (start : TrailEnd) (file trail : List ℕ) (stop : CaseStop) (kept : List Entry) (n : ℕ) → Keeps kept file → n ≡ length kept → IsUntold start n trail stop →
    IsNotTakenUp s begun start file trail stop
not_told s begun start file trail stop kept n keeps count h = inr (kept, keeps, inl (subst (λ (m : ℕ). IsUntold start m trail stop) count h))
