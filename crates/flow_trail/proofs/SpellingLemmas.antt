-- A text that is spelt is read back, and its spelling has no quote and no newline.
use Rattle.std.proofs.Common.{◌≡◌, ℕ, zero, suc, ◌+◌, ◌*◌, ◌/◌, ◌%◌, ◌<◌, Bool, true, false, not, List, [], ◌∷◌, ◌++◌, get_or, refl, sym, ◌∙◌, ap, append_assoc, append-nil, ne_eqb, if◌then◌else◌, arith, inl, inr}
use Rattle.std.specs.Prelude.{◌==◌}
use Rattle.std.proofs.lemmas.Bool.{and_parts, and_from, cases_lt, cases_eq, lt-ltb, le-ltb}
use Rattle.std.proofs.lemmas.List.Folds.{list_all-append}
use Rattle.hex.specs.Hex.{lower_digits, encode_with, encode_lower}
use Rattle.flow_record.proofs.LineLemmas.{lacks}
use Rattle.flow_trail.specs.declared.spelling.Escape.TheVariants.{Out}
use Rattle.flow_trail.specs.Spelling.{is_escaped, hex_digit, spelt_byte, spelt, digit_value, unspelt_from, unspelt}

-- ---- a byte

not_escaped : (b : ℕ) → 126 < b → is_escaped b ≡ false
not_escaped b high = rw (le-ltb b 32 (omega arith), ne_eqb b 34 (λ e. omega arith), ne_eqb b 92 (λ e. omega arith)) refl

digit_back : (d : ℕ) → d < 16 → digit_value (hex_digit d) ≡ d
digit_back d small = elim (cases_lt d 10) [
  | inl low ↦ rw (lt-ltb d 10 low, lt-ltb (48 + d) 58 (omega arith)) (omega arith)
  | inr high ↦ rw (le-ltb d 10 high, le-ltb (87 + d) 58 (omega arith)) (omega arith)
]

digits_back : (b : ℕ) → b < 256 → digit_value (hex_digit (b / 16)) * 16 + digit_value (hex_digit (b % 16)) ≡ b
digits_back b small =
    let high : b / 16 < 16 = omega arith in
    let low : b % 16 < 16 = omega arith in
    omega (arith, digit_back (b / 16) high, digit_back (b % 16) low)

byte_back : (b : ℕ) (t : List ℕ) → unspelt_from (spelt_byte b ++ t) Out ≡ b ∷ unspelt_from t Out
byte_back b t = step (is_escaped b) refl
  where
    step : (e : Bool) → is_escaped b ≡ e → unspelt_from ((if e then 92 ∷ 117 ∷ 48 ∷ 48 ∷ hex_digit (b / 16) ∷ hex_digit (b % 16) ∷ [] else b ∷ []) ++ t) Out ≡ b ∷ unspelt_from t Out
    step true is = elim (cases_lt 126 b) [
      | inl high ↦ let no = sym (not_escaped b high) ∙ is in cc
      | inr low ↦ ap (λ n. n ∷ unspelt_from t Out) (digits_back b (omega arith))
    ]
    step false is = elim (cases_eq b 92) [
      | inl slash ↦ let no : true ≡ false = ap is_escaped (sym slash) ∙ is in cc
      | inr other ↦ rw (ne_eqb b 92 other) refl
    ]

pub spelt_back : (s t : List ℕ) → unspelt_from (spelt s ++ t) Out ≡ s ++ unspelt_from t Out
spelt_back [] t = refl
spelt_back (b ∷ bs) t =
    ap (λ (l : List ℕ). unspelt_from l Out) (append_assoc (spelt_byte b) (spelt bs) t) ∙ byte_back b (spelt bs ++ t) ∙ ap (λ (l : List ℕ). b ∷ l) (spelt_back bs t)

pub unspelt_spelt : (s : List ℕ) → unspelt (spelt s) ≡ s
unspelt_spelt s = ap unspelt (sym (append-nil (spelt s))) ∙ spelt_back s [] ∙ append-nil s

-- ---- bytes that a spelling lacks

above : (x byte : ℕ) → byte < x → not (x == byte) ≡ true
above x byte lt = ap not (ne_eqb x byte (λ e. omega arith))

hex_above : (d byte : ℕ) → byte < 48 → not (hex_digit d == byte) ≡ true
hex_above d byte low = elim (cases_lt d 10) [
  | inl small ↦ rw (lt-ltb d 10 small) (above (48 + d) byte (omega arith))
  | inr large ↦ rw (le-ltb d 10 large) (above (87 + d) byte (omega arith))
]

byte_lacks : (byte b : ℕ) → byte < 48 → is_escaped byte ≡ true → lacks byte (spelt_byte b) ≡ true
byte_lacks byte b low escaped = step (is_escaped b) refl
  where
    step : (e : Bool) → is_escaped b ≡ e → lacks byte (if e then 92 ∷ 117 ∷ 48 ∷ 48 ∷ hex_digit (b / 16) ∷ hex_digit (b % 16) ∷ [] else b ∷ []) ≡ true
    step true is = rw (above 92 byte (omega arith), above 117 byte (omega arith), above 48 byte low, hex_above (b / 16) byte low, hex_above (b % 16) byte low) refl
    step false is = elim (cases_eq b byte) [
      | inl same ↦ let no : false ≡ true = sym is ∙ ap is_escaped same ∙ escaped in cc
      | inr other ↦ rw (ne_eqb b byte other) refl
    ]

pub both_lack : (byte : ℕ) (x y : List ℕ) → lacks byte x ≡ true → lacks byte y ≡ true → lacks byte (x ++ y) ≡ true
both_lack byte x y h k = list_all-append (λ b. not (b == byte)) x y ∙ and_from (lacks byte x) (lacks byte y) h k

pub spelt_lacks : (byte : ℕ) (s : List ℕ) → byte < 48 → is_escaped byte ≡ true → lacks byte (spelt s) ≡ true
spelt_lacks byte [] low escaped = refl
spelt_lacks byte (b ∷ bs) low escaped = both_lack byte (spelt_byte b) (spelt bs) (byte_lacks byte b low escaped) (spelt_lacks byte bs low escaped)

-- ---- hex digits of a seal

table_lacks : (byte d : ℕ) (table : List ℕ) (k : ℕ) → lacks byte (d ∷ table) ≡ true → not (get_or table k d == byte) ≡ true
table_lacks byte d [] k h = (and_parts (not (d == byte)) (lacks byte []) h).0
table_lacks byte d (x ∷ xs) zero h =
    (and_parts (not (x == byte)) (lacks byte xs) (and_parts (not (d == byte)) (lacks byte (x ∷ xs)) h).1).0
table_lacks byte d (x ∷ xs) (suc k) h =
    let one = and_parts (not (d == byte)) (lacks byte (x ∷ xs)) h in
    table_lacks byte d xs k (and_from (not (d == byte)) (lacks byte xs) one.0 (and_parts (not (x == byte)) (lacks byte xs) one.1).1)

pub hex_lacks : (byte : ℕ) (bytes : List ℕ) → lacks byte (0 ∷ lower_digits) ≡ true → lacks byte (encode_lower bytes) ≡ true
unfolding encode_with
hex_lacks byte [] table = refl
hex_lacks byte (b ∷ bs) table =
    and_from (not (get_or lower_digits (b / 16) 0 == byte)) _ (table_lacks byte 0 lower_digits (b / 16) table)
    (and_from (not (get_or lower_digits (b % 16) 0 == byte)) _ (table_lacks byte 0 lower_digits (b % 16) table) (hex_lacks byte bs table))
