-- Names that are looked for goal by goal.
use Rattle.std.proofs.Common.{◌≡◌, ℕ, ◌+◌, ◌<◌, ◌≤◌, Bool, true, false, ◌||◌, List, [], ◌∷◌, ◌++◌, length, drop, get_or, refl, sym, ap, subst, ◌∙◌, ◌↔◌, inl, inr, Option, None, Some, is_some, slice_get, IfSome}
use Rattle.std.specs.List.{list_any}
use Rattle.std.specs.Str.{bytes_eq}
use Rattle.std.proofs.lemmas.Bool.{cases_Bool}
use Rattle.std.proofs.lemmas.Slice.Eq.{bytes_eq-Decides}
use Rattle.flow_model.specs.Lists.{◌∈◌}
use Rattle.flow_form.specs.declared.form.Form.{Form, Name}
use Rattle.flow_form.specs.declared.form.Form.TheVariants.{rolls-Name}
use Rattle.flow_form.specs.declared.form.Form.TheFolds.{fold-roll-Form}
use Rattle.flow_form.specs.declared.form.Form.TheOpen as open_form
use Rattle.flow_form.specs.Form.{Shape, named, shape_step, shape_of}
use Rattle.flow_model.proofs.Lists.{mem-slice_get}
use Rattle.flow_model.proofs.MadeLists.{each_fails, some_passes}
use Rattle.std.proofs.lemmas.List.{at_drop_more, at_drop_all}
use Rattle.std.proofs.lemmas.List.Folds.{list_any-append}

-- one more goal lacks it: what is left tells the same
pub looked_on : {X A : Type 0} (p : A → Bool) (F : List X → List A) (G : X → List A) (xs : List X) (i : ℕ) (x : X) (whole found : Bool) → i < length xs → x ≡ get_or xs i x →
    ((y : X) (ys : List X) → F (y ∷ ys) ≡ G y ++ F ys) → found ≡ list_any p (G x) → found ≡ false → list_any p (F (drop i xs)) ≡ whole → list_any p (F (drop (i + 1) xs)) ≡ whole
looked_on p F G xs i x whole found inside is begins told none left =
    let parts : list_any p (F (drop i xs)) ≡ (list_any p (G x) || list_any p (F (drop (i + 1) xs))) =
    ap (list_any p) (at_drop_more F xs i x inside ∙ ap (λ y. F (y ∷ drop (i + 1) xs)) (sym is) ∙ begins x (drop (i + 1) xs))
    ∙ list_any-append p (G x) (F (drop (i + 1) xs)) in
    let here : list_any p (G x) ≡ false = sym told ∙ none in
    sym (parts ∙ ap (λ b. b || list_any p (F (drop (i + 1) xs))) here) ∙ left

-- it has it
pub here : {X A : Type 0} (p : A → Bool) (F : List X → List A) (G : X → List A) (xs : List X) (i : ℕ) (x : X) (whole found : Bool) → i < length xs → x ≡ get_or xs i x →
    ((y : X) (ys : List X) → F (y ∷ ys) ≡ G y ++ F ys) → found ≡ list_any p (G x) → found ≡ true → list_any p (F (drop i xs)) ≡ whole → true ≡ whole
here p F G xs i x whole found inside is begins told some left =
    let parts : list_any p (F (drop i xs)) ≡ (list_any p (G x) || list_any p (F (drop (i + 1) xs))) =
    ap (list_any p) (at_drop_more F xs i x inside ∙ ap (λ y. F (y ∷ drop (i + 1) xs)) (sym is) ∙ begins x (drop (i + 1) xs))
    ∙ list_any-append p (G x) (F (drop (i + 1) xs)) in
    let there : list_any p (G x) ≡ true = sym told ∙ some in
    sym (parts ∙ ap (λ b. b || list_any p (F (drop (i + 1) xs))) there) ∙ left

-- none has it
pub nowhere : {X A : Type 0} (p : A → Bool) (F : List X → List A) (xs : List X) (i : ℕ) (whole : Bool) → F [] ≡ [] → length xs ≤ i → list_any p (F (drop i xs)) ≡ whole → false ≡ whole
nowhere p F xs i whole none done left = sym (ap (list_any p) (at_drop_all F xs i done ∙ none)) ∙ left

-- an event is found by its name exactly where it is one of them
pub told_event : (events : List (List ℕ)) (name : List ℕ) (found : Option ℕ) → (found ≡ None) ↔ ¬ (name ∈ events) →
    IfSome found (λ number. slice_get events number ≡ Some name) → is_some found ≡ list_any (bytes_eq name) events
told_event events name None none place =
    sym (each_fails (bytes_eq name) events (λ other m. elim (cases_Bool (bytes_eq name other)) [
      | inl same ↦ absurd (none.0 refl (subst (λ n. n ∈ events) (sym ((bytes_eq-Decides name other).0 same)) m))
      | inr differ ↦ differ
    ]))
told_event events name (Some number) none place =
    sym (some_passes (bytes_eq name) name events (mem-slice_get events number name place) ((bytes_eq-Decides name name).1 refl))

pub shape_of-Name : (f : Form) (n : List ℕ) → f ≡ Name n → shape_of f ≡ named n
shape_of-Name f n e = ap shape_of (e ∙ sym (rolls-Name n)) ∙ fold-roll-Form Shape shape_step (open_form.Name n)
