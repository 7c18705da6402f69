-- Each ask of a case has one answer, and leaves one case.
use Rattle.std.proofs.Common.{◌≡◌, ◌∙◌, ℕ, List, [], ◌∷◌, ◌++◌, Result, Err, inl, inr, refl, sym, ap, subst, drop}
use Rattle.flow_model.specs.Lists.{◌∈◌}
use Rattle.flow_model.specs.Decided.{cons_same}
use Rattle.flow_model.specs.Schema.{Schema}
use Rattle.flow_model.proofs.Lists.{each_member, mem_here}
use Rattle.flow_model.proofs.MadeLists.{two_cuts}
use Rattle.flow_ask.specs.declared.ask.Ask.{Ask}
use Rattle.flow_ask.specs.declared.ask.Ask.TheVariants as ask
use Rattle.flow_ask.specs.declared.made.Made.{Made}
use Rattle.flow_ask.specs.declared.refusal.Refusal.{Refusal}
use Rattle.flow_core.specs.Run.{schema, now}
use Rattle.flow_core.proofs.SingleLemmas.{answers_once}
use Rattle.flow_roles.proofs.SingleLemmas.{answers_at_desk}
use Rattle.flow_case.specs.declared.bar.Bar.{Bar}
use Rattle.flow_case.specs.declared.bar.Bar.TheVariants as bar
use Rattle.flow_case.specs.declared.case_run.CaseRun.TheVariants.{Free, UnderPolicy}
use Rattle.flow_case.specs.Rules.{Rules, IsFirstFinal, IsFinalLeaf}
use Rattle.flow_case.specs.Ruled.{Ruled}
use Rattle.flow_case.specs.Bar.{of_bar, IsBarred, IsUnbarred}
use Rattle.flow_case.specs.Ask.{RuledAnswers}
use Rattle.flow_case.specs.Single.{CaseAnswersAreSingle}
use Rattle.flow_case.proofs.Governed.{open_once}

-- a list has one first leaf of a final event

one_first : (w : Schema) (rules : Rules) (leaves : List ℕ) (a b : ℕ) → IsFirstFinal w rules leaves a → IsFirstFinal w rules leaves b → a ≡ b
one_first w rules leaves a b (front, back, cut, none, is) (front', back', cut', none', is') =
    elim (two_cuts front (a ∷ back) front' b back' (sym cut ∙ cut')) [
      | inl (m, e, r) ↦ absurd (each_member (λ n. ¬ (IsFinalLeaf w rules n)) front none b (subst (λ (l : List ℕ). b ∈ l) (sym e) (mem_here b front' m)) is')
      | inr (m, e, r) ↦ later m e r
    ]
  where
    later : (m : List ℕ) → front' ≡ front ++ m → a ∷ back ≡ m ++ b ∷ back' → a ≡ b
    later [] e r = (cons_same a b back back' r).0
    later (x ∷ m) e r =
        let same : a ≡ x = (cons_same a x back (m ++ b ∷ back') r).0 in
        absurd (each_member (λ n. ¬ (IsFinalLeaf w rules n)) front' none' a
        (subst (λ (l : List ℕ). a ∈ l) (sym e) (subst (λ (y : ℕ). a ∈ (front ++ y ∷ m)) same (mem_here a front m))) is)

bars_once : (c : Ruled) (what : Ask) (by : ℕ) (a b : Bar) → IsBarred c what by a → IsBarred c what by b → a ≡ b
bars_once c ask.Rewind by bar.Back bar.Back h k = refl
bars_once c ask.Rewind by bar.Back (bar.Final leaf) h k = absurd (h.1 k.0)
bars_once c ask.Rewind by bar.Back bar.Close h k = absurd k
bars_once c ask.Rewind by (bar.Final leaf) bar.Close h k = absurd k
bars_once c ask.Rewind by (bar.Final leaf) bar.Back h k = absurd (k.1 h.0)
bars_once c ask.Rewind by (bar.Final leaf) (bar.Final other) (may, (i, can, first)) (may', (j, can', first')) =
    let one : j ≡ i = open_once (schema c.desk.run) (now c.desk.run) j i can'.allowed can.allowed in
    let there = subst (λ (k : ℕ). IsFirstFinal (schema c.desk.run) c.rules (drop k (now c.desk.run).journal) other) one first' in
    ap bar.Final (one_first (schema c.desk.run) c.rules (drop i (now c.desk.run).journal) leaf other first there)
bars_once c ask.Commit by bar.Close bar.Close h k = refl
bars_once c ask.Commit by bar.Close bar.Back h k = absurd k
bars_once c ask.Commit by bar.Close (bar.Final leaf) h k = absurd k
bars_once c what by a b h k = absurd h

-- a leaf of a final event is none that the rules let be cut
barred_or_not : (c : Ruled) (what : Ask) (by : ℕ) (a : Bar) → IsBarred c what by a → IsUnbarred c what by → ⊥
barred_or_not c ask.Rewind by bar.Back h free = h.1 (free h.0.0 h.0.1).0
barred_or_not c ask.Rewind by (bar.Final leaf) (may, (i, can, (before, after, cut, none, is))) free =
    each_member (λ n. ¬ (IsFinalLeaf (schema c.desk.run) c.rules n)) (drop i (now c.desk.run).journal) (free i can).1 leaf
    (subst (λ (l : List ℕ). leaf ∈ l) (sym cut) (mem_here leaf before after)) is
barred_or_not c ask.Commit by bar.Close h free = h.1 (free h.0)
barred_or_not c what by a h free = absurd h

same_ruled : (a b : Ruled) → a.desk ≡ b.desk → a.rules ≡ b.rules → a ≡ b
same_ruled a b desks rules = λ i. record { desk = desks i; rules = rules i }

ruled_once : (c : Ruled) (what : Ask) (by : ℕ) (a b : Result Made Refusal) (after other : Ruled) → RuledAnswers c what by a after → RuledAnswers c what by b other → (a ≡ b) × (after ≡ other)
ruled_once c what by a b after other (inl (rule, barred, is, same)) (inl (rule', barred', is', same')) =
    let one : rule ≡ rule' = bars_once c what by rule rule' barred barred' in
    (is ∙ ap (λ (r : Bar). Err (of_bar r)) one ∙ sym is', same ∙ sym same')
ruled_once c what by a b after other (inl (rule, barred, is, same)) (inr (free, h, rules)) = absurd (barred_or_not c what by rule barred free)
ruled_once c what by a b after other (inr (free, h, rules)) (inl (rule, barred, is, same)) = absurd (barred_or_not c what by rule barred free)
ruled_once c what by a b after other (inr (free, h, rules)) (inr (free', h', rules')) =
    let both = answers_at_desk c.desk what by a b after.desk other.desk h h' in
    (both.0, same_ruled after other both.1 (rules ∙ sym rules'))

pub cases_once : CaseAnswersAreSingle
cases_once (Free r) what by a b (Free after) (Free other) h k =
    let both = answers_once r what by a b after other h k in
    (both.0, ap Free both.1)
cases_once (Free r) what by a b (UnderPolicy after) other h k = absurd h
cases_once (Free r) what by a b (Free after) (UnderPolicy other) h k = absurd k
cases_once (UnderPolicy c) what by a b (Free after) other h k = absurd h
cases_once (UnderPolicy c) what by a b (UnderPolicy after) (Free other) h k = absurd k
cases_once (UnderPolicy c) what by a b (UnderPolicy after) (UnderPolicy other) h k =
    let both = ruled_once c what by a b after other h k in
    (both.0, ap UnderPolicy both.1)
