-- A case with entries, one after another.
use Rattle.std.proofs.Common.{◌≡◌, ◌<◌, ◌≤◌, ◌+◌, ℕ, List, [], ◌∷◌, ◌++◌, length, take, get_or, sym, ap, ◌∙◌, append-nil, append_assoc}
use Rattle.std.proofs.lemmas.List.{take_more, take_all}
use Rattle.flow_model.specs.declared.history.Entry.{Entry}
use Rattle.flow_case.specs.declared.case_run.CaseRun.{CaseRun}
use Rattle.flow_case.specs.declared.case_run.CaseRun.TheVariants.{Free, UnderPolicy}
use Rattle.flow_case.specs.CaseRun.{case_with}

abbrev with_history : CaseRun → List Entry → CaseRun
with_history (Free r) history = Free (record r { history = history })
with_history (UnderPolicy c) history = UnderPolicy (record c { desk = record c.desk { run = record c.desk.run { history = history } } })

pub with_none : (c : CaseRun) → c ≡ case_with c []
with_none (Free r) = ap (with_history (Free r)) (sym (append-nil r.history))
with_none (UnderPolicy c) = ap (with_history (UnderPolicy c)) (sym (append-nil c.desk.run.history))

with_both : (c : CaseRun) (xs ys : List Entry) → case_with (case_with c xs) ys ≡ case_with c (xs ++ ys)
with_both (Free r) xs ys = ap (with_history (Free r)) (append_assoc r.history xs ys)
with_both (UnderPolicy c) xs ys = ap (with_history (UnderPolicy c)) (append_assoc c.desk.run.history xs ys)

pub with_more : (c now next : CaseRun) (entries : List Entry) (k : ℕ) (d : Entry) → k < length entries → now ≡ case_with c (take k entries) →
    next ≡ case_with now (get_or entries k d ∷ []) → next ≡ case_with c (take (k + 1) entries)
with_more c now next entries k d within is more =
    more ∙ ap (λ (x : CaseRun). case_with x (get_or entries k d ∷ [])) is ∙ with_both c (take k entries) (get_or entries k d ∷ [])
    ∙ ap (case_with c) (sym (take_more entries k d within))

pub with_all : (c now : CaseRun) (entries : List Entry) (k : ℕ) → length entries ≤ k → now ≡ case_with c (take k entries) → now ≡ case_with c entries
with_all c now entries k past is = is ∙ ap (case_with c) (take_all k entries past)
