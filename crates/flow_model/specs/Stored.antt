-- How the logic stores a workflow and a history, so that they can be the value of a type of the code. It says
-- nothing about workflows.
use Rattle.std.specs.Prelude.{◌≡◌, ℕ, zero, suc, List, [], ◌∷◌}
use Rattle.std.proofs.Common.{refl, sym, ◌∙◌, ap}
use Rattle.std.specs.Coded.{Coded, code_by, coded×, coded_ℕ, coded_list}
use base.Stored.{Gv, gnil, gnum, gcons}
use Rattle.flow_model.specs.declared.labels.Label.{Label}
use Rattle.flow_model.specs.contracts.labels.Label as label
use Rattle.flow_model.specs.declared.history.Entry.{Entry}
use Rattle.flow_model.specs.contracts.history.Entry as entry
use Rattle.flow_model.specs.Process.{Process, Empty, Task, Sequence, Parallel, Choice, Isolated}
use Rattle.flow_model.specs.Constraint.{Constraint, Always, Impossible, Must, Never, Order, Not, And, Or}
use Rattle.flow_model.specs.Resolution.{ChoiceOption}

abbrev process_value : Process → Gv
process_value Empty = gcons (gnum 0) gnil
process_value (Task n) = gcons (gnum 1) (gnum n)
process_value (Sequence a b) = gcons (gnum 2) (gcons (process_value a) (process_value b))
process_value (Parallel a b) = gcons (gnum 3) (gcons (process_value a) (process_value b))
process_value (Choice a b) = gcons (gnum 4) (gcons (process_value a) (process_value b))
process_value (Isolated a) = gcons (gnum 5) (process_value a)

abbrev process_back : Gv → Process
process_back (gcons (gnum (suc zero)) (gnum n)) = Task n
process_back (gcons (gnum (suc (suc zero))) (gcons a b)) = Sequence (process_back a) (process_back b)
process_back (gcons (gnum (suc (suc (suc zero)))) (gcons a b)) = Parallel (process_back a) (process_back b)
process_back (gcons (gnum (suc (suc (suc (suc zero))))) (gcons a b)) = Choice (process_back a) (process_back b)
process_back (gcons (gnum (suc (suc (suc (suc (suc zero)))))) a) = Isolated (process_back a)
process_back other = Empty

pub process_again : (g : Process) → process_back (process_value g) ≡ g
process_again Empty = refl
process_again (Task n) = refl
process_again (Sequence a b) = λ i. Sequence (process_again a i) (process_again b i)
process_again (Parallel a b) = λ i. Parallel (process_again a i) (process_again b i)
process_again (Choice a b) = λ i. Choice (process_again a i) (process_again b i)
process_again (Isolated a) = λ i. Isolated (process_again a i)

abbrev pub process_code : Coded Process
process_code = record {
  code = process_value;
  inj = λ x y p. sym (process_again x) ∙ ap process_back p ∙ process_again y;
}

abbrev pub option_code : Coded ChoiceOption
option_code = code_by (Process × List (ℕ × ℕ)) (coded× process_code (coded_list (coded× coded_ℕ coded_ℕ)))
    (λ o. (o.resolution, o.order)) (λ p. record { resolution = p.0; order = p.1 }) (λ _. refl)

abbrev events_value : List ℕ → Gv
events_value [] = gnil
events_value (e ∷ es) = gcons (gnum e) (events_value es)

abbrev events_back : Gv → List ℕ
events_back (gcons (gnum e) rest) = e ∷ events_back rest
events_back other = []

pub events_again : (es : List ℕ) → events_back (events_value es) ≡ es
events_again [] = refl
events_again (e ∷ es) = ap (λ rest. e ∷ rest) (events_again es)

abbrev constraint_value : Constraint → Gv
constraint_value Always = gcons (gnum 0) gnil
constraint_value Impossible = gcons (gnum 1) gnil
constraint_value (Must e) = gcons (gnum 2) (gnum e)
constraint_value (Never e) = gcons (gnum 3) (gnum e)
constraint_value (Order es) = gcons (gnum 4) (events_value es)
constraint_value (Not c) = gcons (gnum 5) (constraint_value c)
constraint_value (And c d) = gcons (gnum 6) (gcons (constraint_value c) (constraint_value d))
constraint_value (Or c d) = gcons (gnum 7) (gcons (constraint_value c) (constraint_value d))

abbrev constraint_back : Gv → Constraint
constraint_back (gcons (gnum (suc zero)) rest) = Impossible
constraint_back (gcons (gnum (suc (suc zero))) (gnum e)) = Must e
constraint_back (gcons (gnum (suc (suc (suc zero)))) (gnum e)) = Never e
constraint_back (gcons (gnum (suc (suc (suc (suc zero))))) es) = Order (events_back es)
constraint_back (gcons (gnum (suc (suc (suc (suc (suc zero)))))) c) = Not (constraint_back c)
constraint_back (gcons (gnum (suc (suc (suc (suc (suc (suc zero))))))) (gcons c d)) = And (constraint_back c) (constraint_back d)
constraint_back (gcons (gnum (suc (suc (suc (suc (suc (suc (suc zero)))))))) (gcons c d)) = Or (constraint_back c) (constraint_back d)
constraint_back other = Always

pub constraint_again : (c : Constraint) → constraint_back (constraint_value c) ≡ c
constraint_again Always = refl
constraint_again Impossible = refl
constraint_again (Must e) = refl
constraint_again (Never e) = refl
constraint_again (Order es) = ap Order (events_again es)
constraint_again (Not c) = ap Not (constraint_again c)
constraint_again (And c d) = λ i. And (constraint_again c i) (constraint_again d i)
constraint_again (Or c d) = λ i. Or (constraint_again c i) (constraint_again d i)

abbrev pub constraint_code : Coded Constraint
constraint_code = record {
  code = constraint_value;
  inj = λ x y p. sym (constraint_again x) ∙ ap constraint_back p ∙ constraint_again y;
}

abbrev pub labels_code : Coded (List Label)
labels_code = coded_list label.the_row.coded

abbrev pub history_code : Coded (List Entry)
history_code = coded_list entry.the_row.coded
