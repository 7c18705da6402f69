-- A text is ASCII, or has one first byte that is not.
use Rattle.std.proofs.Common.{◌≡◌, ℕ, zero, suc, ◌<◌, ◌≤◌, List, [], ◌∷◌, length, take, arith}
use Rattle.std.specs.Prelude.{slice_index}
use Rattle.flow_lex.specs.Tokens.{IsAscii, IsFirstNotAscii}

ascii_there : (text : List ℕ) (p : ℕ) → IsAscii text → p < length text → slice_index text p ≤ 127
ascii_there [] p h l = absurd (omega arith)
ascii_there (b ∷ bs) zero (h, hs) l = h
ascii_there (b ∷ bs) (suc p) (h, hs) l = ascii_there bs p hs (omega arith)

ascii_before : (text : List ℕ) (p q : ℕ) → IsAscii (take q text) → p < q → p < length text → slice_index text p ≤ 127
ascii_before [] p q h l m = absurd (omega arith)
ascii_before (b ∷ bs) p zero h l m = absurd (omega arith)
ascii_before (b ∷ bs) zero (suc q) (h, hs) l m = h
ascii_before (b ∷ bs) (suc p) (suc q) (h, hs) l m = ascii_before bs p q hs (omega arith) (omega arith)

pub ascii_has_none : (text : List ℕ) (p : ℕ) → IsAscii text → IsFirstNotAscii text p → ⊥
ascii_has_none text p ascii h = omega (arith, ascii_there text p ascii h.within, h.there)

not_before : (text : List ℕ) (p q : ℕ) → IsFirstNotAscii text p → IsFirstNotAscii text q → p < q → ⊥
not_before text p q h g l = omega (arith, ascii_before text p q g.before l h.within, h.there)

pub one_first_byte : (text : List ℕ) (p q : ℕ) → IsFirstNotAscii text p → IsFirstNotAscii text q → p ≡ q
one_first_byte text p q h g =
    let least : ¬ (p < q) = not_before text p q h g in
    let also : ¬ (q < p) = not_before text q p g h in
    omega (arith, least, also)
