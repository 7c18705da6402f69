-- A list without the member of one index.
use Rattle.std.proofs.Common.{◌≡◌, ℕ, zero, suc, List, [], ◌∷◌, ◌<◌, ◌++◌, length, get_or, option_map, ap, slice_get, map, take, drop, Some, sym, ◌∙◌, subst}
use Rattle.std.proofs.lemmas.List.{map-append, take-map, drop-map, length-map}
use Rattle.std.specs.List.{remove}
use Rattle.std.proofs.lemmas.Option.{slice_get-map, slice_get_read}
use Rattle.flow_model.specs.Lists.{Each}
use Rattle.flow_model.specs.Constraint.{Constraint}
use Rattle.flow_workflow.specs.declared.rule.Rule.{Rule}
use Rattle.flow_workflow.specs.Rule.{rule_of, rules_of}

-- what holds of the others and of this one holds of each
pub each_with : {A : Type 0} (P : A → Type 0) (xs : List A) (i : ℕ) (x : A) → slice_get xs i ≡ Some x → Each P (remove xs i) → P x → Each P xs
each_with P [] i x e others this = tt
each_with P (y ∷ xs) zero x e others this = (subst P (let f : Some y ≡ Some x = e in cc) this, others)
each_with P (y ∷ xs) (suc i) x e others this = (others.0, each_with P xs i x e others.1 this)

-- the mapped members without that of the index
pub map-remove : {A B : Type 0} (f : A → B) (xs : List A) (i : ℕ) → map f (remove xs i) ≡ remove (map f xs) i
map-remove f xs i =
    map-append f (take i xs) (drop (suc i) xs) ∙ (λ k. sym (take-map f i xs) k ++ sym (drop-map f (suc i) xs) k)

-- the rule that stood there, as a constraint
pub rule_at : (items : List Rule) (cs : List Constraint) (i : ℕ) (rule : Rule) → rules_of items ≡ cs → i < length cs →
    rule ≡ get_or items i rule → slice_get cs i ≡ Some (rule_of rule)
rule_at items cs i rule e below is =
    subst (λ ds. slice_get ds i ≡ Some (rule_of rule)) e
    (slice_get-map rule_of items i
    ∙ ap (option_map rule_of) (slice_get_read items (length cs) i rule (sym (ap (λ (ds : List Constraint). length ds) e) ∙ length-map items rule_of) below is))
