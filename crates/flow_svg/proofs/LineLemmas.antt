-- Long texts in lines.
use Rattle.std.proofs.Common.{◌≡◌, ◌≢◌, ℕ, zero, suc, ◌+◌, ◌-◌, ◌*◌, ◌<◌, ◌≤◌, ◌==◌, true, false, List, [], ◌∷◌, ◌++◌, length, take, drop, get_or, if◌then◌else◌, ap, refl, sym, subst, ◌∙◌, append_assoc, append-nil, arith, length-drop}
use Rattle.std.specs.Prelude.{nat_le}
use Rattle.std.proofs.lemmas.Grind.{common_steps}
use Rattle.flow_svg.specs.Lines.{blank_end, line_end, lines_in, wrapped, line_text, lines_text}

-- The end of a line

found_after : (t : List ℕ) (full n : ℕ) → get_or t n 0 ≡ 32 → blank_end t full (suc n) ≡ suc n
unfolding blank_end
found_after t full n e = rw e refl

passed_after : (t : List ℕ) (full n : ℕ) → (get_or t n 0 == 32) ≡ false → blank_end t full (suc n) ≡ blank_end t full n
unfolding blank_end
passed_after t full n e = rw e refl

other_byte : (b : ℕ) → b ≢ 32 → (b == 32) ≡ false
other_byte b h = grind (arith, common_steps)

pub blank_found : (t : List ℕ) (full n : ℕ) → 0 < n → get_or t (n - 1) 0 ≡ 32 → blank_end t full n ≡ n
blank_found t full n some here =
    let e : suc (n - 1) ≡ n = omega arith in
    subst (λ m. blank_end t full m ≡ m) e (found_after t full (n - 1) here)

pub blank_passed : (t : List ℕ) (full n : ℕ) → 0 < n → get_or t (n - 1) 0 ≢ 32 → blank_end t full n ≡ blank_end t full (n - 1)
blank_passed t full n some here =
    let e : suc (n - 1) ≡ n = omega arith in
    subst (λ m. blank_end t full m ≡ blank_end t full (n - 1)) e (passed_after t full (n - 1) (other_byte (get_or t (n - 1) 0) here))

pub blank_none : (t : List ℕ) (full n : ℕ) → n ≡ 0 → blank_end t full n ≡ full
unfolding blank_end
blank_none t full n e = rw e refl

blank_some : (t : List ℕ) (full n : ℕ) → 0 < full → 0 < blank_end t full n
unfolding blank_end
blank_some t full zero h = h
blank_some t full (suc n) h =
    elim (get_or t n 0 == 32) as (λ b. 0 < (if b then suc n else blank_end t full n)) [ true ↦ omega arith | false ↦ blank_some t full n h ]

line_some : (t : List ℕ) → 0 < length t → 0 < line_end t
line_some t h =
    elim (nat_le (length t) 120) as (λ b. 0 < (if b then length t else blank_end t 120 120)) [ true ↦ h | false ↦ blank_some t 120 120 (omega arith) ]

-- The lines

shorter : (b : ℕ) (bs : List ℕ) (e n : ℕ) → 0 < e → length (b ∷ bs) ≤ suc n → length (drop e (b ∷ bs)) ≤ n
shorter b bs e n some h = omega (arith, length-drop e (b ∷ bs))

fuel : (n m : ℕ) (t : List ℕ) → length t ≤ n → length t ≤ m → lines_in n t ≡ lines_in m t
unfolding lines_in
fuel zero zero t p q = refl
fuel zero (suc m) [] p q = refl
fuel zero (suc m) (b ∷ bs) p q = absurd (omega arith)
fuel (suc n) zero [] p q = refl
fuel (suc n) zero (b ∷ bs) p q = absurd (omega arith)
fuel (suc n) (suc m) [] p q = refl
fuel (suc n) (suc m) (b ∷ bs) p q =
    let e = line_end (b ∷ bs) in
    let some : 0 < line_end (b ∷ bs) = line_some (b ∷ bs) (omega arith) in
    ap (λ ls. take e (b ∷ bs) ∷ ls) (fuel n m (drop e (b ∷ bs)) (shorter b bs e n some p) (shorter b bs e m some q))

pub wrapped_more : (t : List ℕ) → 0 < length t → wrapped t ≡ take (line_end t) t ∷ wrapped (drop (line_end t) t)
unfolding lines_in
wrapped_more [] h = absurd (omega arith)
wrapped_more (b ∷ bs) h =
    let e = line_end (b ∷ bs) in
    ap (λ ls. take e (b ∷ bs) ∷ ls)
    (fuel (length bs) (length (drop e (b ∷ bs))) (drop e (b ∷ bs)) (shorter b bs e (length bs) (line_some (b ∷ bs) h) (omega arith)) (omega arith))

-- one line is added
pub one_line : (whole old new t line rest : List ℕ) (e y down : ℕ) → 0 < length t → e ≡ line_end t → line ≡ take e t → rest ≡ drop e t
    → old ++ lines_text y (wrapped t) ≡ whole → new ≡ old ++ line_text y line → down ≡ y + 20 → new ++ lines_text down (wrapped rest) ≡ whole
one_line whole old new t line rest e y down some end first behind before more lower =
    let left : rest ≡ drop (line_end t) t = behind ∙ ap (λ k. drop k t) end in
    let put : line ≡ take (line_end t) t = first ∙ ap (λ k. take k t) end in
    let cut : wrapped t ≡ line ∷ wrapped rest = wrapped_more t some ∙ (λ i. sym put i ∷ wrapped (sym left i)) in
    ap (λ s. s ++ lines_text down (wrapped rest)) more ∙ ap (λ d. (old ++ line_text y line) ++ lines_text d (wrapped rest)) lower
    ∙ append_assoc old (line_text y line) (lines_text (y + 20) (wrapped rest))
    ∙ sym (ap (λ ls. old ++ lines_text y ls) cut) ∙ before

pub one_down : (whole : ℕ) (t rest : List ℕ) (e y down : ℕ) → 0 < length t → e ≡ line_end t → rest ≡ drop e t
    → y + 20 * length (wrapped t) ≡ whole → down ≡ y + 20 → down + 20 * length (wrapped rest) ≡ whole
one_down whole t rest e y down some end behind before lower =
    let left : rest ≡ drop (line_end t) t = behind ∙ ap (λ k. drop k t) end in
    let cut : length (wrapped t) ≡ suc (length (wrapped rest)) = ap length (wrapped_more t some) ∙ sym (ap (λ r. suc (length (wrapped r))) left) in
    omega arith

-- no line is left
pub none_left : (t : List ℕ) → length t ≡ 0 → wrapped t ≡ []
unfolding lines_in
none_left [] h = refl
none_left (b ∷ bs) h = absurd (omega arith)

pub no_more : (whole old t : List ℕ) (y : ℕ) → length t ≡ 0 → old ++ lines_text y (wrapped t) ≡ whole → old ≡ whole
no_more whole old t y none before = sym (append-nil old) ∙ sym (ap (λ ls. old ++ lines_text y ls) (none_left t none)) ∙ before

pub no_lower : (whole : ℕ) (t : List ℕ) (y : ℕ) → length t ≡ 0 → y + 20 * length (wrapped t) ≡ whole → y ≡ whole
no_lower whole t y none before =
    let e : length (wrapped t) ≡ 0 = ap length (none_left t none) in
    omega arith
