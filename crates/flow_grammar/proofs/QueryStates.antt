-- A whole query: what may follow each state.
use Rattle.std.proofs.Common.{◌≡◌, ℕ, Some, List, [], ◌∷◌, refl, ap, ◌∙◌, subst}
use Rattle.std.proofs.lemmas.Option.{same_Some, none-some}
use Rattle.flow_form.specs.Script.{Asked, holds, redundant}
use Rattle.flow_grammar.specs.Symbol.{Symbol, Placed, at, Deepens, holds_word, redundant_word, a_number, semicolon}
use Rattle.flow_grammar.specs.Grammar.{spell, holds_text, redundant_text}
use Rattle.flow_grammar.specs.Machine.{step_rule, depth_rule, QueryState, query_needed, in_property, number_needed, after_number, query_read, step_query, finish_query, depth_query}
use Rattle.flow_grammar.specs.Texts.{SpellsQuery}
use Rattle.flow_grammar.proofs.Runs.{OnNext, Front, Knows}
use Rattle.flow_grammar.proofs.Carried.{carried_back, front_carried}
use Rattle.flow_grammar.proofs.RuleStates.{RuleRest, rule_forth, rule_back, rule_completes, need_of_rule, rule_of_need, Closing}

abbrev pub Rest : QueryState → List Placed → Asked → Type 0
Rest query_needed w x = SpellsQuery w x
Rest (in_property r) w x = RuleRest r w (λ y v. ([] ≡ v) × (holds y ≡ x))
Rest number_needed w x = (n : ℕ) × (at 0 (a_number n) ∷ at 0 semicolon ∷ [] ≡ w) × (redundant n ≡ x)
Rest (after_number n) w x = (at 0 semicolon ∷ [] ≡ w) × (redundant n ≡ x)
Rest (query_read q) w x = ([] ≡ w) × (q ≡ x)

abbrev Ahead : QueryState → List Placed → Asked → Type 0
Ahead = Front step_query finish_query depth_query Rest

query_forth : (s : QueryState) (w : List Placed) (x : Asked) → Rest s w x → Ahead s w x
query_forth query_needed w x (holds_text y, e, ex) =
    subst (λ v. Ahead query_needed v x) e
    (λ h. refl, need_of_rule (Closing (λ z v. Rest (query_read (holds z)) v x) []) 0 y (at 0 semicolon ∷ []) ([], refl, (refl, ex)))
query_forth query_needed w x (redundant_text n, e, ex) = subst (λ v. Ahead query_needed v x) e (λ h. refl, (n, refl, ex))
query_forth (in_property r) w x h =
    front_carried RuleRest Rest in_property (λ y. query_read (holds y)) _ x step_rule depth_rule step_query finish_query depth_query (λ s' r k. k) (λ y r k. k) r refl (λ t. refl) w
    (rule_forth r w (λ y v. Rest (query_read (holds y)) v x) h)
query_forth number_needed w x (n, e, ex) = subst (λ v. Ahead number_needed v x) e (λ h. refl, (refl, ex))
query_forth (after_number n) w x (e, ex) = subst (λ v. Ahead (after_number n) v x) e (λ h. refl, (refl, ex))
query_forth (query_read q) w x (e, ex) = subst (λ v. Ahead (query_read q) v x) e (ap Some ex)

query_back : (s : QueryState) (t : Symbol) (w : List Placed) (x : Asked) → OnNext Rest (step_query s t) w x →
    (n : ℕ) × (Deepens t → n ≡ depth_query s) × Rest s (at n t ∷ w) x
query_back query_needed holds_word w x h =
    let (y, r, e, (v, e', (e2, ex))) = rule_of_need (Closing (λ z v. Rest (query_read (holds z)) v x) []) 0 w h in
    (0, λ h'. refl, (holds_text y, ap (λ z. at 0 holds_word ∷ z) (ap (spell 0 y) (ap (λ z. at 0 semicolon ∷ z) e2 ∙ e') ∙ e), ex))
query_back query_needed redundant_word w x (n, e, ex) = (0, λ h'. refl, (redundant_text n, ap (λ z. at 0 redundant_word ∷ z) e, ex))
query_back query_needed _ w x h = absurd h
query_back (in_property r) t w x h = rule_back r t w (λ y v. Rest (query_read (holds y)) v x)
    (carried_back RuleRest Rest in_property (λ y. query_read (holds y)) _ x (λ s' r k. k) (λ y r k. k) (step_rule r t) w h)
query_back number_needed (a_number n) w x (e, ex) = (0, λ h'. refl, (n, ap (λ z. at 0 (a_number n) ∷ z) e, ex))
query_back number_needed _ w x h = absurd h
query_back (after_number n) semicolon w x (e, ex) = (0, λ h'. refl, (ap (λ z. at 0 semicolon ∷ z) e, ex))
query_back (after_number n) _ w x h = absurd h
query_back (query_read q) t w x h = absurd h

query_ended : (s : QueryState) (x : Asked) → finish_query s ≡ Some x → Rest s [] x
query_ended (query_read q) x e = (refl, same_Some q x e)
query_ended _ x e = absurd (none-some x e)

query_completes : (s : QueryState) → (w : List Placed) × (x : Asked) × Rest s w x
query_completes query_needed = (_, _, (redundant_text 0, refl, refl))
query_completes (in_property r) = rule_completes r (λ x y v. Rest (query_read (holds y)) v x) (λ y. ([], holds y, (refl, refl)))
query_completes number_needed = (_, _, (0, refl, refl))
query_completes (after_number n) = (_, _, (refl, refl))
query_completes (query_read q) = ([], q, (refl, refl))

pub query_knows : Knows step_query finish_query depth_query Rest
query_knows = record { forth = query_forth; back = query_back; ended = query_ended; completes = query_completes }
