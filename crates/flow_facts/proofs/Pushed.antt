-- Texts to which constants are put one after another.
use Rattle.std.proofs.Common.{◌≡◌, ℕ, ◌+◌, ◌-◌, ◌<◌, ◌≤◌, List, [], ◌∷◌, ◌++◌, length, take, drop, get_or, codes, Result, Ok, Err, OnOk, if◌then◌else◌, sym, ap, ◌∙◌, append_assoc, append-nil}
use Rattle.std.specs.Result.{is_ok}
use Rattle.std.proofs.lemmas.List.{at_drop_more, drop_all, drop_more, take_rest}
use Rattle.flow_model.specs.Lists.{Begins}
use Rattle.flow_facts.specs.declared.constant.Const.{Const}
use Rattle.flow_facts.specs.Text.{constant_text, more_constants, arguments_text}

pub begins_longer : {A : Type 0} (a b c : List A) → Begins c b → Begins b a → Begins c a
begins_longer a b c (more, put) (rest, e) = (rest ++ more, put ∙ ap (λ t. t ++ more) e ∙ append_assoc a rest more)

-- a piece that was put, unless there was no memory
pub begins_put : {A U E : Type 0} (r : Result U E) (old new piece : List A) → new ≡ (if is_ok r then old ++ piece else old) → Begins new old
begins_put (Ok u) old new piece put = (piece, put)
begins_put (Err e) old new piece put = ([], put ∙ sym (append-nil old))

-- two pieces that were put, one after the other
pub both_put : {A : Type 0} (a b c p q : List A) → b ≡ a ++ p → c ≡ b ++ q → c ≡ a ++ (p ++ q)
both_put a b c p q one two = two ∙ ap (λ t. t ++ q) one ∙ append_assoc a p q

-- a comma and the constant, and what is left
pub constant_more : (cs : List Const) (i : ℕ) (c : Const) (old mid new all : List ℕ) → i < length cs → c ≡ get_or cs i c
    → mid ≡ old ++ codes "," → new ≡ mid ++ constant_text c → old ++ more_constants (drop i cs) ≡ all → new ++ more_constants (drop (i + 1) cs) ≡ all
constant_more cs i c old mid new all inside is one two left =
    let more = more_constants (drop (i + 1) cs) in
    let next : codes "," ++ constant_text c ++ more ≡ more_constants (drop i cs) = ap (λ x. codes "," ++ constant_text x ++ more) is ∙ sym (at_drop_more more_constants cs i c inside) in
    ap (λ t. t ++ more) (both_put old mid new (codes ",") (constant_text c) one two) ∙ append_assoc old (codes "," ++ constant_text c) more ∙ ap (λ t. old ++ t) next ∙ left

pub constants_all : (cs : List Const) (i : ℕ) (text all : List ℕ) → length cs ≤ i → text ++ more_constants (drop i cs) ≡ all → text ≡ all
constants_all cs i text all done left = sym (ap (λ l. text ++ more_constants l) (drop_all i cs done) ∙ append-nil text) ∙ left

-- the first constant and the others between parentheses
pub arguments_put : {U E : Type 0} (r : Result U E) (cs : List Const) (c : Const) (old begun first more new : List ℕ) → 1 ≤ length cs → c ≡ get_or cs 0 c
    → begun ≡ old ++ codes "(" → first ≡ begun ++ constant_text c → more ≡ first ++ more_constants (take (length cs - 1) (drop 1 cs))
    → new ≡ (if is_ok r then more ++ codes ")" else more) → OnOk r (new ≡ old ++ arguments_text cs)
arguments_put (Ok u) cs c old begun first more new some is one two three four =
    let rest = more_constants (drop 1 cs) in
    let one_more = both_put old begun first (codes "(") (constant_text c) one two in
    let parts = both_put old first more (codes "(" ++ constant_text c) rest one_more (three ∙ ap (λ l. first ++ more_constants l) (take_rest cs 1)) in
    let all : c ∷ drop 1 cs ≡ cs = ap (λ x. x ∷ drop 1 cs) is ∙ sym (drop_more cs 0 c some) in
    both_put old more new (codes "(" ++ constant_text c ++ rest) (codes ")") parts four ∙ ap (λ l. old ++ arguments_text l) all
arguments_put (Err e) cs c old begun first more new some is one two three four = tt
