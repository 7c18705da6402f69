-- Arrows that come behind others.
use Rattle.std.proofs.Common.{◌≡◌, ◌+◌, ◌-◌, ◌≤◌, ◌<◌, ℕ, zero, suc, Bool, true, false, cond, List, [], ◌∷◌, ◌++◌, length, take, drop, get_or, Box, Vec, Global, arith, refl, sym, ap, ◌∙◌, subst, append_assoc, append-nil, length-append}
use Rattle.std.specs.List.{flat_map, filter}
use Rattle.std.proofs.lemmas.List.Elements.{filter-append}
use Rattle.flow_model.specs.declared.labels.Label.{Label}
use Rattle.flow_model.proofs.MadeLists.{numbers_from_more}
use Rattle.std.proofs.lemmas.Bool.{ltb-true, lt-ltb, le-ltb}
use Rattle.std.proofs.lemmas.Grind.{flat_map-append}
use Rattle.std.proofs.lemmas.List.{length-take, length-take-le, length-map, take-append-le, take_more, take_all, take-append-drop, map-append}
use Rattle.flow_model.specs.Constraint as model
use Rattle.flow_model.specs.Constraint.{Constraint, all_of}
use Rattle.flow_model.specs.Lists.{each_with_each, numbers_from}
use Rattle.flow_goal.proofs.EachLists.{each_with_each-append}
use Rattle.flow_workflow.specs.declared.rule.Rule as rule
use Rattle.flow_workflow.specs.declared.rule.Rule.{Rule}
use Rattle.flow_workflow.specs.Rule.{any_of, rule_of, rules_of}
use Rattle.flow_workflow.proofs.RuleViews.{rule_of-Must, rule_of-Never, rule_of-Order, rule_of-Not, rule_of-And, rule_of-Or}
use Rattle.flow_view.specs.declared.arrow.Arrow.{Arrow}
use Rattle.flow_view.specs.declared.arrows.Arrows.{Arrows}
use Rattle.flow_view.specs.declared.size.TheConstants.{MOST_ARROWS}
use Rattle.flow_view.specs.Arrows.{arrows_between, arrows_from, followers, ordered}
use Rattle.flow_view.specs.Told.{Adds, AreTold}

pub adds_none : (a : Arrows) → Adds [] a a
adds_none a all told = subst (AreTold a) (sym (append-nil all)) told

pub adds_more : (xs ys : List Arrow) (a b c : Arrows) → Adds xs a b → Adds ys b c → Adds (xs ++ ys) a c
adds_more xs ys a b c h k all told = subst (AreTold c) (append_assoc all xs ys) (k (all ++ xs) (h all told))

-- one that is kept
pub one_kept : (old new : Arrows) (x : Arrow) → length old.list.items < MOST_ARROWS → new.list.items ≡ old.list.items ++ x ∷ [] → new.left_out ≡ old.left_out →
    Adds (x ∷ []) old new
one_kept old new x room list out all told =
    let short : length all < MOST_ARROWS = omega (arith, ap length told.list, length-take MOST_ARROWS all) in
    let longer : length (all ++ x ∷ []) ≤ MOST_ARROWS = omega (arith, length-append all (x ∷ [])) in
    let whole : take MOST_ARROWS all ≡ all = take_all MOST_ARROWS all (omega arith) in
    record {
      list = list ∙ ap (λ l. l ++ x ∷ []) (told.list ∙ whole) ∙ sym (take_all MOST_ARROWS (all ++ x ∷ []) longer);
      left_out = out ∙ told.left_out ∙ le-ltb MOST_ARROWS (length all) (omega arith) ∙ sym (le-ltb MOST_ARROWS (length (all ++ x ∷ [])) longer);
    }

-- one that is left out
pub one_left_out : (old new : Arrows) (x : Arrow) → MOST_ARROWS ≤ length old.list.items → new.list.items ≡ old.list.items → new.left_out ≡ true →
    Adds (x ∷ []) old new
one_left_out old new x full list out all told =
    let long : MOST_ARROWS ≤ length all = omega (arith, ap length told.list, length-take MOST_ARROWS all) in
    let longer : MOST_ARROWS < length (all ++ x ∷ []) = omega (arith, length-append all (x ∷ [])) in
    record {
      list = list ∙ told.list ∙ sym (take-append-le MOST_ARROWS all (x ∷ []) long);
      left_out = out ∙ sym (lt-ltb MOST_ARROWS (length (all ++ x ∷ [])) longer);
    }

-- where some are left out, more change nothing
pub more_left_out : (old : Arrows) (more : List Arrow) → old.left_out ≡ true → Adds more old old
more_left_out old more out all told =
    let long : MOST_ARROWS < length all = ltb-true MOST_ARROWS (length all) (sym told.left_out ∙ out) in
    let longer : MOST_ARROWS < length (all ++ more) = omega (arith, length-append all more) in
    record {
      list = told.list ∙ sym (take-append-le MOST_ARROWS all more (omega arith));
      left_out = out ∙ sym (lt-ltb MOST_ARROWS (length (all ++ more)) longer);
    }

-- lists that come one member after another

pub each_none : (f : ℕ → ℕ → Arrow) (xs : List ℕ) → each_with_each f xs [] ≡ []
each_none f [] = refl
each_none f (x ∷ xs) = each_none f xs

pub each_one_none : (f : ℕ → ℕ → Arrow) (x : ℕ) → each_with_each f (x ∷ []) [] ≡ []
each_one_none f x = refl

one_with : (f : ℕ → ℕ → Arrow) (x : ℕ) (ys zs : List ℕ) → each_with_each f (x ∷ []) (ys ++ zs) ≡ each_with_each f (x ∷ []) ys ++ each_with_each f (x ∷ []) zs
one_with f x [] zs = refl
one_with f x (y ∷ ys) zs = ap (λ l. f x y ∷ l) (one_with f x ys zs)

-- to one more
pub to_more : (f : ℕ → ℕ → Arrow) (x : ℕ) (ys : List ℕ) (i : ℕ) (a b c : Arrows) → i < length ys →
    Adds (each_with_each f (x ∷ []) (take i ys)) a b → Adds (f x (get_or ys i 0) ∷ []) b c → Adds (each_with_each f (x ∷ []) (take (i + 1) ys)) a c
to_more f x ys i a b c less h k =
    subst (λ l. Adds l a c) (sym (ap (each_with_each f (x ∷ [])) (take_more ys i 0 less) ∙ one_with f x (take i ys) (get_or ys i 0 ∷ [])))
    (adds_more (each_with_each f (x ∷ []) (take i ys)) (f x (get_or ys i 0) ∷ []) a b c h k)

-- from one more
pub from_more : (f : ℕ → ℕ → Arrow) (xs ys : List ℕ) (i : ℕ) (a b c : Arrows) → i < length xs →
    Adds (each_with_each f (take i xs) ys) a b → Adds (each_with_each f (get_or xs i 0 ∷ []) ys) b c → Adds (each_with_each f (take (i + 1) xs) ys) a c
from_more f xs ys i a b c less h k =
    subst (λ l. Adds l a c) (sym (ap (λ l. each_with_each f l ys) (take_more xs i 0 less) ∙ each_with_each-append f (take i xs) (get_or xs i 0 ∷ []) ys))
    (adds_more (each_with_each f (take i xs) ys) (each_with_each f (get_or xs i 0 ∷ []) ys) a b c h k)

-- the rest of them are left out
pub from_all : (f : ℕ → ℕ → Arrow) (xs ys : List ℕ) (i : ℕ) (a b : Arrows) → b.left_out ≡ true →
    Adds (each_with_each f (take i xs) ys) a b → Adds (each_with_each f xs ys) a b
from_all f xs ys i a b out h =
    subst (λ l. Adds l a b) (sym (each_with_each-append f (take i xs) (drop i xs) ys) ∙ ap (λ l. each_with_each f l ys) (take-append-drop i xs))
    (adds_more (each_with_each f (take i xs) ys) (each_with_each f (drop i xs) ys) a b b h (more_left_out b (each_with_each f (drop i xs) ys) out))

pub followers_more : (es : List ℕ) (i : ℕ) → suc i < length es →
    followers (take (suc (suc i)) es) ≡ followers (take (suc i) es) ++ (get_or es i 0, get_or es (suc i) 0) ∷ []
followers_more [] i h = absurd (omega arith)
followers_more (a ∷ []) i h = absurd (omega arith)
followers_more (a ∷ b ∷ more) zero h = refl
followers_more (a ∷ b ∷ more) (suc i) h = ap (λ l. (a, b) ∷ l) (followers_more (b ∷ more) i (omega arith))

pub no_followers : (es : List ℕ) → followers (take 1 es) ≡ []
no_followers [] = refl
no_followers (a ∷ es) = refl

-- one more event of an order
pub order_more : (f : ℕ × ℕ → List Arrow) (es : List ℕ) (i : ℕ) (a b c : Arrows) → 1 ≤ i → i < length es →
    Adds (flat_map f (followers (take i es))) a b → Adds (f (get_or es (i - 1) 0, get_or es i 0)) b c → Adds (flat_map f (followers (take (i + 1) es))) a c
order_more f es zero a b c some less h k = absurd (omega arith)
order_more f es (suc i) a b c some less h k =
    let e : suc i - 1 ≡ i = omega arith in
    let n : suc i + 1 ≡ suc (suc i) = omega arith in
    let pair : ℕ × ℕ = (get_or es i 0, get_or es (suc i) 0) in
    let last : Adds (f pair) b c = subst (λ j. Adds (f (get_or es j 0, get_or es (suc i) 0)) b c) e k in
    let same : flat_map f (followers (take (suc (suc i)) es)) ≡ flat_map f (followers (take (suc i) es)) ++ f pair =
    ap (flat_map f) (followers_more es i less) ∙ flat_map-append f (followers (take (suc i) es)) (pair ∷ [])
    ∙ ap (λ l. flat_map f (followers (take (suc i) es)) ++ l) (append-nil (f pair)) in
    subst (λ j. Adds (flat_map f (followers (take j es))) a c) (sym n)
    (subst (λ l. Adds l a c) (sym same) (adds_more (flat_map f (followers (take (suc i) es))) (f pair) a b c h last))

-- constraints that are joined

abbrev joined_with : (Constraint → Constraint → Constraint) → Constraint → List Constraint → Constraint
joined_with op c [] = c
joined_with op c (d ∷ ds) = joined_with op (op c d) ds

ordered_joined : (op : Constraint → Constraint → Constraint) → ((c d : Constraint) → ordered (op c d) ≡ ordered c ++ ordered d) →
    (c : Constraint) (cs : List Constraint) → ordered (joined_with op c cs) ≡ ordered c ++ flat_map ordered cs
ordered_joined op h c [] = sym (append-nil (ordered c))
ordered_joined op h c (d ∷ ds) =
    ordered_joined op h (op c d) ds ∙ ap (λ list. list ++ flat_map ordered ds) (h c d) ∙ append_assoc (ordered c) (ordered d) (flat_map ordered ds)

ordered_all : (cs : List Constraint) → ordered (all_of cs) ≡ flat_map ordered cs
ordered_all cs = ordered_joined model.And (λ c d. refl) model.Always cs

ordered_any : (cs : List Constraint) → ordered (any_of cs) ≡ flat_map ordered cs
ordered_any cs = ordered_joined model.Or (λ c d. refl) model.Impossible cs

pub ordered_must : (r : Rule) (event : ℕ) → r ≡ rule.Must event → ordered (rule_of r) ≡ []
ordered_must r event is = ap (λ (x : Rule). ordered (rule_of x)) is ∙ ap ordered (rule_of-Must event)

pub ordered_never : (r : Rule) (event : ℕ) → r ≡ rule.Never event → ordered (rule_of r) ≡ []
ordered_never r event is = ap (λ (x : Rule). ordered (rule_of x)) is ∙ ap ordered (rule_of-Never event)

pub ordered_not : (r : Rule) (part : Box Rule Global) → r ≡ rule.Not part → ordered (rule_of r) ≡ []
ordered_not r part is = ap (λ (x : Rule). ordered (rule_of x)) is ∙ ap ordered (rule_of-Not part)

pub ordered_order : (r : Rule) (events : Vec ℕ Global) → r ≡ rule.Order events → followers events.items ≡ ordered (rule_of r)
ordered_order r events is = sym (ap (λ (x : Rule). ordered (rule_of x)) is ∙ ap ordered (rule_of-Order events))

pub ordered_and : (r : Rule) (parts : Vec Rule Global) → r ≡ rule.And parts → flat_map ordered (rules_of parts.items) ≡ ordered (rule_of r)
ordered_and r parts is = sym (ap (λ (x : Rule). ordered (rule_of x)) is ∙ ap ordered (rule_of-And parts) ∙ ordered_all (rules_of parts.items))

pub ordered_or : (r : Rule) (parts : Vec Rule Global) → r ≡ rule.Or parts → flat_map ordered (rules_of parts.items) ≡ ordered (rule_of r)
ordered_or r parts is = sym (ap (λ (x : Rule). ordered (rule_of x)) is ∙ ap ordered (rule_of-Or parts) ∙ ordered_any (rules_of parts.items))

-- one more rule of a list
pub rule_more : (f : ℕ × ℕ → List Arrow) (rules : List Rule) (i : ℕ) (r : Rule) (a b c : Arrows) → i < length rules → r ≡ get_or rules i r →
    Adds (flat_map f (flat_map ordered (rules_of (take i rules)))) a b → Adds (flat_map f (ordered (rule_of r))) b c →
    Adds (flat_map f (flat_map ordered (rules_of (take (i + 1) rules)))) a c
rule_more f rules i r a b c less is h k =
    let last : take (i + 1) rules ≡ take i rules ++ r ∷ [] = take_more rules i r less ∙ ap (λ z. take i rules ++ z ∷ []) (sym is) in
    let same : flat_map ordered (rules_of (take (i + 1) rules)) ≡ flat_map ordered (rules_of (take i rules)) ++ ordered (rule_of r) =
    ap (λ l. flat_map ordered (rules_of l)) last
    ∙ ap (flat_map ordered) (map-append rule_of (take i rules) (r ∷ []))
    ∙ flat_map-append ordered (rules_of (take i rules)) (rule_of r ∷ [])
    ∙ ap (λ l. flat_map ordered (rules_of (take i rules)) ++ l) (append-nil (ordered (rule_of r))) in
    subst (λ l. Adds l a c) (sym (ap (flat_map f) same ∙ flat_map-append f (flat_map ordered (rules_of (take i rules))) (ordered (rule_of r))))
    (adds_more (flat_map f (flat_map ordered (rules_of (take i rules)))) (flat_map f (ordered (rule_of r))) a b c h k)

-- the arrows of one more constraint
from_end : (labels : List Label) (k : ℕ) (cs : List Constraint) (c : Constraint) →
    arrows_from labels k (cs ++ c ∷ []) ≡ arrows_from labels k cs ++ flat_map (arrows_between labels (k + length cs)) (ordered c)
from_end labels k [] c =
    let e : k ≡ k + 0 = omega arith in
    append-nil (flat_map (arrows_between labels k) (ordered c)) ∙ ap (λ n. flat_map (arrows_between labels n) (ordered c)) e
from_end labels k (d ∷ cs) c =
    let e : k + 1 + length cs ≡ k + length (d ∷ cs) = omega arith in
    ap (λ l. flat_map (arrows_between labels k) (ordered d) ++ l) (from_end labels (k + 1) cs c ∙ ap (λ n. arrows_from labels (k + 1) cs ++ flat_map (arrows_between labels n) (ordered c)) e)
    ∙ sym (append_assoc (flat_map (arrows_between labels k) (ordered d)) (arrows_from labels (k + 1) cs) (flat_map (arrows_between labels (k + length (d ∷ cs))) (ordered c)))

pub numbered_more : (labels : List Label) (rules : List Rule) (i : ℕ) (r : Rule) (b c : Arrows) → i < length rules → r ≡ get_or rules i r →
    AreTold b (arrows_from labels 0 (rules_of (take i rules))) → Adds (flat_map (arrows_between labels i) (ordered (rule_of r))) b c →
    AreTold c (arrows_from labels 0 (rules_of (take (i + 1) rules)))
numbered_more labels rules i r b c less is h k =
    let last : take (i + 1) rules ≡ take i rules ++ r ∷ [] = take_more rules i r less ∙ ap (λ z. take i rules ++ z ∷ []) (sym is) in
    let many : 0 + length (rules_of (take i rules)) ≡ i = omega (arith, length-map (take i rules) rule_of, length-take-le i rules (omega arith)) in
    let same : arrows_from labels 0 (rules_of (take (i + 1) rules)) ≡ arrows_from labels 0 (rules_of (take i rules)) ++ flat_map (arrows_between labels i) (ordered (rule_of r)) =
    ap (λ l. arrows_from labels 0 (rules_of l)) last
    ∙ ap (arrows_from labels 0) (map-append rule_of (take i rules) (r ∷ []))
    ∙ from_end labels 0 (rules_of (take i rules)) (rule_of r)
    ∙ ap (λ n. arrows_from labels 0 (rules_of (take i rules)) ++ flat_map (arrows_between labels n) (ordered (rule_of r))) many in
    subst (AreTold c) (sym same) (k (arrows_from labels 0 (rules_of (take i rules))) h)

-- leaves that are gone over

one_more : (p : ℕ → Bool) (n : ℕ) → filter p (numbers_from 0 (n + 1)) ≡ filter p (numbers_from 0 n) ++ filter p (n ∷ [])
one_more p n =
    let next : n + 1 ≡ suc n = omega arith in
    let same : 0 + n ≡ n = omega arith in
    ap (λ k. filter p (numbers_from 0 k)) next ∙ ap (filter p) (numbers_from_more 0 n) ∙ filter-append p (numbers_from 0 n) ((0 + n) ∷ [])
    ∙ ap (λ k. filter p (numbers_from 0 n) ++ filter p (k ∷ [])) same

filter_one : (p : ℕ → Bool) (n : ℕ) (b : Bool) → p n ≡ b → filter p (n ∷ []) ≡ cond b (n ∷ []) []
filter_one p n b e = ap (λ v. cond v (n ∷ []) []) e

pub leaf_kept : (p : ℕ → Bool) (n : ℕ) (old : List ℕ) → p n ≡ true → old ≡ filter p (numbers_from 0 n) → old ++ n ∷ [] ≡ filter p (numbers_from 0 (n + 1))
leaf_kept p n old passes is = ap (λ l. l ++ n ∷ []) is ∙ ap (λ l. filter p (numbers_from 0 n) ++ l) (sym (filter_one p n true passes)) ∙ sym (one_more p n)

pub leaf_passed : (p : ℕ → Bool) (n : ℕ) (old : List ℕ) → p n ≡ false → old ≡ filter p (numbers_from 0 n) → old ≡ filter p (numbers_from 0 (n + 1))
leaf_passed p n old fails is = is ∙ sym (append-nil (filter p (numbers_from 0 n))) ∙ ap (λ l. filter p (numbers_from 0 n) ++ l) (sym (filter_one p n false fails)) ∙ sym (one_more p n)
