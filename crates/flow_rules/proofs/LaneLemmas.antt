-- A word of a table in which one lane is marked.
use Rattle.std.proofs.Common.{◌≡◌, ◌≢◌, ℕ, ◌*◌, ◌%◌, ◌^◌, ◌<◌, ◌==◌, ◌&&◌, ◌||◌, Bool, true, false, List, length, get_or, set, refl, sym, ap, ◌∙◌, ⊎_elim, bit_or, w64, get_or-set_same, get_or-set_other}
use Rattle.std.proofs.lemmas.Bool.{cases_eq, eq-eqb, ne_eqb}
use Rattle.std.proofs.lemmas.List.{get_or_read}
use Rattle.std.proofs.lemmas.Nat.Bits.{bit_at_set_same, bit_at_set_other}
use Rattle.std.specs.Int.{bit_at}

nowhere : (b x : Bool) → (b && false || x) ≡ x
nowhere true x = refl
nowhere false x = refl

-- the lanes of one word after one of them is marked
marked_lane : (word lane other : ℕ) → lane < 64 →
    (bit_at (bit_or word (1 * 2 ^ lane % 2 ^ 64)) other == 1) ≡ (other == lane && true || bit_at word other == 1)
marked_lane word lane other low = ⊎_elim
    (λ (same : other ≡ lane).
    ap (λ i. bit_at (bit_or word (1 * 2 ^ lane % 2 ^ 64)) i == 1) same
    ∙ eq-eqb (bit_at (bit_or word (1 * 2 ^ lane % 2 ^ 64)) lane) 1 (bit_at_set_same w64 word lane low)
    ∙ sym (ap (λ b. b && true || bit_at word other == 1) (eq-eqb other lane same)))
    (λ (apart : other ≢ lane).
    ap (λ b. b == 1) (bit_at_set_other w64 word lane low other apart)
    ∙ sym (ap (λ b. b && true || bit_at word other == 1) (ne_eqb other lane apart)))
    (cases_eq other lane)

pub marked_word : (words : List ℕ) (event lane other q word : ℕ) → event < length words → lane < 64 → word ≡ get_or words event word →
    (bit_at (get_or (set words event (bit_or word (1 * 2 ^ lane % 2 ^ 64))) q 0) other == 1)
    ≡ (other == lane && event == q || bit_at (get_or words q 0) other == 1)
marked_word words event lane other q word within low read =
    let v : ℕ = bit_or word (1 * 2 ^ lane % 2 ^ 64) in
    let old : Bool = bit_at (get_or words q 0) other == 1 in
    ⊎_elim
    (λ (here : q ≡ event).
    ap (λ e. bit_at (get_or (set words event v) e 0) other == 1) here
    ∙ ap (λ w. bit_at w other == 1) (get_or-set_same words event v 0 within)
    ∙ marked_lane word lane other low
    ∙ ap (λ w. other == lane && true || bit_at w other == 1) (get_or_read words event word within read 0 ∙ ap (λ e. get_or words e 0) (sym here))
    ∙ sym (ap (λ b. other == lane && b || old) (eq-eqb event q (sym here))))
    (λ (apart : q ≢ event).
    ap (λ w. bit_at w other == 1) (get_or-set_other words event q v 0 apart)
    ∙ sym (ap (λ b. other == lane && b || old) (ne_eqb event q (λ e. apart (sym e))) ∙ nowhere (other == lane) old))
    (cases_eq q event)
