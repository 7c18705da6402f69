-- What is written, looked at from the code.
use Rattle.std.proofs.Common.{◌≡◌, ◌+◌, ◌<◌, ℕ, Bool, true, false, cond, List, [], ◌∷◌, ◌++◌, Some, length, suc, get_or, map, drop, Vec, Global, arith, refl, sym, ap, ◌∙◌, drop-cons, Bor}
use Rattle.std.specs.Str.{bytes_eq}
use Rattle.std.proofs.lemmas.List.{map-append}
use Rattle.std.proofs.Math.ListN.{get_or-map}
use Rattle.flow_model.specs.declared.operators.Operator.{Operator}
use Rattle.flow_model.specs.declared.operators.Operator.TheVariants as operator
use Rattle.flow_model.specs.Lists.{numbers_from}
use Rattle.flow_model.proofs.MadeLists.{numbers_from_more}
use Rattle.flow_form.specs.declared.form.Form.{Form, Serial, Beside, Either}
use Rattle.flow_form.specs.Form.{Shape, shapes, members, shape_of}
use Rattle.flow_form.proofs.Shapes.{shape_of-Serial, shape_of-Beside, shape_of-Either}
use Rattle.flow_view.specs.Drawn.{members_in, if_same, number_from}

members_shapes : (xs : List Shape) → members (shapes xs) ≡ xs
members_shapes [] = refl
members_shapes (s ∷ xs) = ap (λ l. s ∷ l) (members_shapes xs)

pub serial_members : (op : Operator) (f : Form) (v : Vec Form Global) → f ≡ Serial v → if_same op operator.Serial (map shape_of v.items) ≡ members_in op (shape_of f)
serial_members op f v e = sym (ap (members_in op) (shape_of-Serial f v v.items e refl) ∙ ap (if_same op operator.Serial) (members_shapes (map shape_of v.items)))

pub beside_members : (op : Operator) (f : Form) (v : Vec Form Global) → f ≡ Beside v → if_same op operator.Beside (map shape_of v.items) ≡ members_in op (shape_of f)
beside_members op f v e = sym (ap (members_in op) (shape_of-Beside f v v.items e refl) ∙ ap (if_same op operator.Beside) (members_shapes (map shape_of v.items)))

pub either_members : (op : Operator) (f : Form) (v : Vec Form Global) → f ≡ Either v → if_same op operator.Either (map shape_of v.items) ≡ members_in op (shape_of f)
either_members op f v e = sym (ap (members_in op) (shape_of-Either f v v.items e refl) ∙ ap (if_same op operator.Either) (members_shapes (map shape_of v.items)))

-- a list of texts and the next one
pub texts_more : (f : ℕ → List ℕ) (n : ℕ) → map f (numbers_from 0 n) ++ f n ∷ [] ≡ map f (numbers_from 0 (n + 1))
texts_more f n =
    let next : suc n ≡ n + 1 = omega arith in
    let same : 0 + n ≡ n = omega arith in
    ap (λ k. map f (numbers_from 0 n) ++ f k ∷ []) (sym same) ∙ sym (map-append f (numbers_from 0 n) ((0 + n) ∷ [])) ∙ ap (map f) (sym (numbers_from_more 0 n)) ∙ ap (λ k. map f (numbers_from 0 k)) next

from_here : (i : ℕ) (names : List (List ℕ)) (n m : List ℕ) (b : Bool) → i < length names → m ≡ get_or names i m → bytes_eq m n ≡ b →
    number_from i (drop i names) n ≡ cond b (Some i) (number_from (i + 1) (drop (i + 1) names) n)
from_here i names n m b less is e =
    let next : suc i ≡ i + 1 = omega arith in
    let first : drop i names ≡ get_or names i m ∷ drop (suc i) names = drop-cons names i m less in
    ap (λ l. number_from i l n) first ∙ ap (λ k. number_from i (k ∷ drop (suc i) names) n) (sym is)
    ∙ ap (λ v. cond v (Some i) (number_from (i + 1) (drop (suc i) names) n)) e
    ∙ ap (λ j. cond b (Some i) (number_from (i + 1) (drop j names) n)) next

-- the name is found here
pub found_here : (i : ℕ) (names : List (List ℕ)) (n m : List ℕ) → i < length names → m ≡ get_or names i m → bytes_eq m n ≡ true → number_from i (drop i names) n ≡ Some i
found_here i names n m less is e = from_here i names n m true less is e

-- or further on
pub found_later : (i : ℕ) (names : List (List ℕ)) (n m : List ℕ) → i < length names → m ≡ get_or names i m → bytes_eq m n ≡ false →
    number_from i (drop i names) n ≡ number_from (i + 1) (drop (i + 1) names) n
found_later i names n m less is e = from_here i names n m false less is e

-- a name behind a reference
pub name_at : (items : List (Bor (List ℕ))) (i : ℕ) (x : Bor (List ℕ)) → x ≡ get_or items i x → x.now ≡ get_or (map (λ (b : Bor (List ℕ)). b.now) items) i x.now
name_at items i x is = ap (λ (b : Bor (List ℕ)). b.now) is ∙ sym (get_or-map (λ (b : Bor (List ℕ)). b.now) items i x)

pub fused : {X : Type 0} (f : Shape → Shape) (g : X → Shape) (xs : List X) → map (λ x. f (g x)) xs ≡ map f (map g xs)
fused f g [] = refl
fused f g (x ∷ xs) = ap (λ l. f (g x) ∷ l) (fused f g xs)
