-- Rising lists, and what each member has, where a part is taken out.
use Rattle.std.proofs.Common.{◌≡◌, ◌<◌, ◌≤◌, ◌+◌, ◌∙◌, ℕ, zero, suc, List, [], ◌∷◌, ◌++◌, arith, sym, ap, inl, inr}
use Rattle.std.specs.List.{range_with_len}
use Rattle.std.proofs.lemmas.List.{map-id}
use Rattle.std.proofs.lemmas.List.FromFn.{map-range_with_len_more}
use Rattle.flow_model.specs.Lists.{◌∈◌, Each}
use Rattle.flow_model.proofs.Lists.{each_member}
use Rattle.flow_conflict.specs.Lists.{IsRising}

each_behind : (P : ℕ → Type 0) (b c : List ℕ) → Each P (b ++ c) → Each P c
each_behind P [] c h = h
each_behind P (x ∷ b) c h = each_behind P b c h.1

-- with the middle part taken out
pub each_outside : (P : ℕ → Type 0) (a b c : List ℕ) → Each P ((a ++ b) ++ c) → Each P (a ++ c)
each_outside P [] b c h = each_behind P b c h
each_outside P (x ∷ a) b c h = (h.0, each_outside P a b c h.1)

rising_behind : (b c : List ℕ) → IsRising (b ++ c) → IsRising c
rising_behind [] c h = h
rising_behind (x ∷ b) c h = rising_behind b c h.1

pub rising_outside : (a b c : List ℕ) → IsRising ((a ++ b) ++ c) → IsRising (a ++ c)
rising_outside [] b c h = rising_behind b c h
rising_outside (x ∷ a) b c h = (each_outside (λ y. x < y) a b c h.0, rising_outside a b c h.1)

-- with one member taken out
pub each_less : (P : ℕ → Type 0) (a : List ℕ) (x : ℕ) (b : List ℕ) → Each P (a ++ x ∷ b) → Each P (a ++ b)
each_less P [] x b h = h.1
each_less P (y ∷ a) x b h = (h.0, each_less P a x b h.1)

pub rising_less : (a : List ℕ) (x : ℕ) (b : List ℕ) → IsRising (a ++ x ∷ b) → IsRising (a ++ b)
rising_less [] x b h = h.1
rising_less (y ∷ a) x b h = (each_less (λ z. y < z) a x b h.0, rising_less a x b h.1)

each_middle : (P : ℕ → Type 0) (a : List ℕ) (x : ℕ) (b : List ℕ) → Each P (a ++ x ∷ b) → P x
each_middle P [] x b h = h.0
each_middle P (y ∷ a) x b h = each_middle P a x b h.1

-- it stands nowhere else
pub rising_once : (a : List ℕ) (x : ℕ) (b : List ℕ) → IsRising (a ++ x ∷ b) → x ∈ (a ++ b) → ⊥
rising_once [] x b h m = let above : x < x = each_member (λ y. x < y) b h.0 x m in omega arith
rising_once (y ∷ a) x b h (inl e) = let above : y < x = each_middle (λ z. y < z) a x b h.0 in omega (arith, e)
rising_once (y ∷ a) x b h (inr m) = rising_once a x b h.1 m

-- Numbers in order

pub range_push : (n : ℕ) → range_with_len 0 (n + 1) ≡ range_with_len 0 n ++ n ∷ []
range_push n =
    sym (map-id (range_with_len 0 (n + 1)))
    ∙ map-range_with_len_more (λ (x : ℕ). x) 0 n n (omega arith)
    ∙ ap (λ (l : List ℕ). l ++ n ∷ []) (map-id (range_with_len 0 n))

range_from : (first n low : ℕ) → low < first → Each (λ y. low < y) (range_with_len first n)
range_from first zero low h = tt
range_from first (suc n) low h = (h, range_from (first + 1) n low (omega arith))

pub range_rises : (first n : ℕ) → IsRising (range_with_len first n)
range_rises first zero = tt
range_rises first (suc n) = (range_from (first + 1) n first (omega arith), range_rises (first + 1) n)

pub range_below : (first n high : ℕ) → first + n ≤ high → Each (λ y. y < high) (range_with_len first n)
range_below first zero high h = tt
range_below first (suc n) high h = (omega arith, range_below (first + 1) n high (omega arith))
