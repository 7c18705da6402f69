-- One step of each loop.
use Rattle.std.proofs.Common.{append-nil, ◌≡◌, ℕ, zero, suc, ◌+◌, ◌-◌, ◌%◌, ◌<◌, ◌≤◌, List, [], ◌∷◌, ◌++◌, length, map, get_or, take, drop, refl, sym, ap, ◌∙◌, append_assoc, length-drop, arith}
use Rattle.std.proofs.Math.Seq.{take-length}
use Rattle.std.proofs.lemmas.List.{drop_more, map-append, at_drop_all}
use Rattle.flow_model.specs.Lists.{numbers_from}
use Rattle.flow_form.specs.declared.form.Form.{Form}
use Rattle.flow_form.specs.declared.rule_form.RuleForm.{RuleForm}
use Rattle.flow_form.specs.Form.{Shape, shape_of, beside, shapes}
use Rattle.flow_form.specs.RuleForm.{RuleShape, rule_shape_of, precedes}
use Rattle.flow_gen.specs.declared.kind.Kind.{Kind}
use Rattle.flow_gen.specs.declared.kind.Kind.TheVariants as kind_of
use Rattle.flow_gen.specs.Generated.{drawn, draws, kind, kinds, choices_in, event_name, block, pairs, constraints}

pub draws_step : (x x' i count : ℕ) (items items' whole : List ℕ) → x' ≡ drawn x → items' ≡ items ++ x' ∷ [] → i < count →
    items ++ draws x (count - i) ≡ whole → items' ++ draws x' (count - (i + 1)) ≡ whole
draws_step x x' i count items items' whole is pushed h so_far =
    let more : count - i ≡ suc (count - (i + 1)) = omega arith in
    ap (λ t. t ++ draws x' (count - (i + 1))) pushed ∙ append_assoc items (x' ∷ []) (draws x' (count - (i + 1)))
    ∙ ap (λ y. items ++ y ∷ draws y (count - (i + 1))) is ∙ ap (λ n. items ++ draws x n) (sym more) ∙ so_far

pub choices_in_le : (k : Kind) → choices_in k ≤ 1
choices_in_le kind_of.Either = omega arith
choices_in_le other = omega arith

pub kinds_step : (choices choices' : ℕ) (k : Kind) (ds : List ℕ) (i : ℕ) (items items' whole : List Kind) → i < length ds → k ≡ kind choices (get_or ds i 0) →
    choices' ≡ choices + choices_in k → items' ≡ items ++ k ∷ [] → items ++ kinds choices (drop i ds) ≡ whole →
    items' ++ kinds choices' (drop (i + 1) ds) ≡ whole
kinds_step choices choices' k ds i items items' whole h is more pushed so_far =
    let rest = drop (i + 1) ds in
    ap (λ (t : List Kind). t ++ kinds choices' rest) pushed ∙ append_assoc items (k ∷ []) (kinds choices' rest)
    ∙ ap (λ n. items ++ k ∷ kinds n rest) more ∙ ap (λ (j : Kind). items ++ j ∷ kinds (choices + choices_in j) rest) is
    ∙ ap (λ ds. items ++ kinds choices ds) (sym (drop_more ds i 0 h)) ∙ so_far

-- one more member, which is the next of those that are left
pub pushed : {A B : Type 0} (f : A → B) (xs xs' : List A) (x : A) (y : B) (rest whole : List B) → xs' ≡ xs ++ x ∷ [] → f x ≡ y →
    map f xs ++ y ∷ rest ≡ whole → map f xs' ++ rest ≡ whole
pushed {A} {B} f xs xs' x y rest whole e is so_far =
    ap (λ (t : List A). map f t ++ rest) e ∙ ap (λ (t : List B). t ++ rest) (map-append f xs (x ∷ [])) ∙ append_assoc (map f xs) (f x ∷ []) rest
    ∙ ap (λ (z : B). map f xs ++ z ∷ rest) is ∙ so_far

-- the same for members made of numbers
pub numbered : {A B : Type 0} (f : A → B) (g : ℕ → B) (n end : ℕ) (xs xs' : List A) (x : A) (whole : List B) → n < end → xs' ≡ xs ++ x ∷ [] → f x ≡ g n →
    map f xs ++ map g (numbers_from n (end - n)) ≡ whole → map f xs' ++ map g (numbers_from (n + 1) (end - (n + 1))) ≡ whole
numbered f g n end xs xs' x whole h e is so_far =
    let more : end - n ≡ suc (end - (n + 1)) = omega arith in
    pushed f xs xs' x (g n) (map g (numbers_from (n + 1) (end - (n + 1)))) whole e is
    (ap (λ c. map f xs ++ map g (numbers_from n c)) (sym more) ∙ so_far)

pub draws_length : (x n : ℕ) → length (draws x n) ≡ n
draws_length x zero = refl
draws_length x (suc n) = ap (λ m. suc m) (draws_length (drawn x) n)

pub kinds_length : (choices : ℕ) (ds : List ℕ) → length (kinds choices ds) ≡ length ds
kinds_length choices [] = refl
kinds_length choices (d ∷ ds) = ap (λ m. suc m) (kinds_length (choices + choices_in (kind choices d)) ds)

-- what is left after two members, as a slice has it
pub after_two : {A : Type 0} (rest : List A) → take (length rest - 2) (drop 2 rest) ≡ drop 2 rest
after_two {A} rest = ap (λ n. take n (drop 2 rest)) (sym (length-drop 2 rest)) ∙ take-length (drop 2 rest)

pub after_two_length : {A : Type 0} (rest : List A) → length (take (length rest - 2) (drop 2 rest)) ≡ length rest - 2
after_two_length {A} rest = ap (λ (l : List A). length l) (after_two rest) ∙ length-drop 2 rest

pub constraints_step : (first : ℕ) (rest more : List ℕ) (rules rules' : List RuleForm) (r : RuleForm) (whole : List RuleShape) → 2 ≤ length rest → more ≡ drop 2 rest →
    rule_shape_of r ≡ precedes (event_name (first + get_or rest 0 0 % 8)) (event_name (first + 8 + get_or rest 1 0 % 8)) → rules' ≡ rules ++ r ∷ [] →
    map rule_shape_of rules ++ constraints first rest ≡ whole → map rule_shape_of rules' ++ constraints (first + 8) more ≡ whole
constraints_step first (f ∷ g ∷ ds) more rules rules' r whole h e is added so_far =
    ap (λ ds. map rule_shape_of rules' ++ constraints (first + 8) ds) e
    ∙ pushed rule_shape_of rules rules' r (precedes (event_name (first + f % 8)) (event_name (first + 8 + g % 8))) (constraints (first + 8) ds) whole added is so_far
constraints_step first fewer more rules rules' r whole h e is added so_far = absurd (omega (arith, h))

pub pairs_step : (first : ℕ) (rest more : List Kind) (d d' : Kind) (forms forms' : List Form) (form : Form) (whole : List Shape) → 2 ≤ length rest → more ≡ drop 2 rest →
    shape_of form ≡ beside (shapes (block first (get_or rest 0 d) ∷ block (first + 8) (get_or rest 1 d') ∷ [])) → forms' ≡ forms ++ form ∷ [] →
    map shape_of forms ++ pairs first rest ≡ whole → map shape_of forms' ++ pairs (first + 16) more ≡ whole
pairs_step first (a ∷ b ∷ ks) more d d' forms forms' form whole h e is added so_far =
    ap (λ (ks : List Kind). map shape_of forms' ++ pairs (first + 16) ks) e
    ∙ pushed shape_of forms forms' form (beside (shapes (block first a ∷ block (first + 8) b ∷ []))) (pairs (first + 16) ks) whole added is so_far
pairs_step first fewer more d d' forms forms' form whole h e is added so_far = absurd (omega (arith, h))

pub two_put : (none one two : List Form) (a b : Form) (s t : Shape) → none ≡ [] → one ≡ none ++ a ∷ [] → two ≡ one ++ b ∷ [] → shape_of a ≡ s → shape_of b ≡ t →
    map shape_of two ≡ s ∷ t ∷ []
two_put none one two a b s t empty first second left right =
    ap (map shape_of) (second ∙ ap (λ (forms : List Form). forms ++ b ∷ []) (first ∙ ap (λ (forms : List Form). forms ++ a ∷ []) empty))
    ∙ ap (λ (x : Shape). x ∷ shape_of b ∷ []) left ∙ ap (λ (y : Shape). s ∷ y ∷ []) right

-- The ends of loops

pub all_left : {A : Type 0} (left : ℕ → List A) (items whole : List A) (n end : ℕ) → left 0 ≡ [] → end ≤ n → items ++ left (end - n) ≡ whole → items ≡ whole
all_left left items whole n end none done so_far =
    let over : end - n ≡ 0 = omega arith in
    sym (append-nil items) ∙ ap (λ l. items ++ l) (sym (ap left over ∙ none)) ∙ so_far

pub all_kinds : (choices i : ℕ) (ds : List ℕ) (items whole : List Kind) → length ds ≤ i → items ++ kinds choices (drop i ds) ≡ whole → items ≡ whole
all_kinds choices i ds items whole done so_far = sym (append-nil items) ∙ ap (λ l. items ++ l) (sym (at_drop_all (kinds choices) ds i done)) ∙ so_far

no_constraints : (first : ℕ) (ds : List ℕ) → length ds < 2 → constraints first ds ≡ []
no_constraints first [] few = refl
no_constraints first (d ∷ []) few = refl
no_constraints first (d ∷ e ∷ ds) few = absurd (omega (arith, few))

pub all_constraints : (first : ℕ) (ds : List ℕ) (items whole : List RuleShape) → length ds < 2 → items ++ constraints first ds ≡ whole → items ≡ whole
all_constraints first ds items whole few so_far = sym (append-nil items) ∙ ap (λ l. items ++ l) (sym (no_constraints first ds few)) ∙ so_far
