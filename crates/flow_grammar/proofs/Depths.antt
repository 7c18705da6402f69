-- What a text means is printed no deeper than the text.
use Rattle.std.proofs.Common.{rules as std_rules, ◌≡◌, refl, ℕ, zero, suc, ◌+◌, ◌<◌, ◌≤◌, Bool, true, false, List, [], ◌∷◌, arith}
use Rattle.flow_model.specs.Lists.{Each}
use Rattle.flow_form.specs.Form.{Shape, beside, either, shapes}
use Rattle.flow_form.specs.RuleForm.{RuleShape, any, rule_shapes}
use Rattle.flow_grammar.specs.Symbol.{Placed, at, closing}
use Rattle.flow_grammar.specs.Grammar.{FactText, bare, applied, spell_fact, mean_fact, Prefix, prefixed, Kind, goals, rules, Meaning, top, list, Text, joined, group_text, nop_text, name_text, fact_text, iso_text, not_text, single_text, order_text, pair_text, must_come, never_come, preceding, needing, More, no_more_text, then_text, spell, spell_more, mean, mean_more}
use Rattle.flow_model.specs.declared.limits.TheConstants.{GREATEST_DEPTH}
use Rattle.flow_grammar.specs.Texts.{IsShallow}
use Rattle.flow_grammar.specs.Print.{in_serial, in_beside, in_either, in_all, in_any, nest, arguments_nesting, nesting, nesting_list, rule_nesting, rules_nesting}
use Rattle.flow_grammar.proofs.MadeTexts.{gathered}
use Rattle.flow_grammar.proofs.Printed.{constants_spelled, names_spelled}

-- whether it stands in parentheses as a member at that level, and how deep its print is
abbrev parted : (k : Kind) → ℕ → Meaning k → Bool
parted goals zero s = in_serial s
parted goals (suc zero) s = in_beside s
parted goals (suc (suc zero)) s = in_either s
parted rules zero x = in_all x
parted rules (suc zero) x = in_any x
parted _ _ m = false

abbrev depth : (k : Kind) → Meaning k → ℕ
depth goals s = nesting s
depth rules x = rule_nesting x

-- a member at that level, inside d others
abbrev Holds : (k : Kind) → ℕ → ℕ → Meaning k → Type 0
Holds k n d m = d + nest (parted k n m) (depth k m) ≤ GREATEST_DEPTH

one_less : (d n most : ℕ) → d + suc n ≤ most → d + n ≤ most
one_less d n most h = omega arith

nest_looser : (b c : Bool) (n d most : ℕ) → (c ≡ true → b ≡ true) → d + nest b n ≤ most → d + nest c n ≤ most
nest_looser true true n d most less h = h
nest_looser true false n d most less h = one_less d n most h
nest_looser false true n d most less h = let f : false ≡ true = less refl in absurd (cc)
nest_looser false false n d most less h = h

beside_serial : (s : Shape) → in_beside s ≡ true → in_serial s ≡ true
beside_serial (beside ss) h = refl
beside_serial (either ss) h = refl
beside_serial _ h = let f : false ≡ true = h in absurd (cc)

either_beside : (s : Shape) → in_either s ≡ true → in_beside s ≡ true
either_beside (either ss) h = refl
either_beside _ h = let f : false ≡ true = h in absurd (cc)

any_all : (x : RuleShape) → in_any x ≡ true → in_all x ≡ true
any_all (any xs) h = refl
any_all _ h = let f : false ≡ true = h in absurd (cc)

looser : (k : Kind) (n d : ℕ) (m : Meaning k) → Holds k n d m → Holds k (suc n) d m
looser goals zero d s h = nest_looser (in_serial s) (in_beside s) (nesting s) d GREATEST_DEPTH (beside_serial s) h
looser goals (suc zero) d s h = nest_looser (in_beside s) (in_either s) (nesting s) d GREATEST_DEPTH (either_beside s) h
looser goals (suc (suc zero)) d s h = nest_looser (in_either s) false (nesting s) d GREATEST_DEPTH (λ f. absurd (cc)) h
looser goals (suc (suc (suc n))) d s h = h
looser rules zero d x h = nest_looser (in_all x) (in_any x) (rule_nesting x) d GREATEST_DEPTH (any_all x) h
looser rules (suc zero) d x h = nest_looser (in_any x) false (rule_nesting x) d GREATEST_DEPTH (λ f. absurd (cc)) h
looser rules (suc (suc n)) d x h = h

goals_within : (part : Shape → Bool) (d : ℕ) (ss : List Shape) → d ≤ GREATEST_DEPTH → Each (λ s. d + nest (part s) (nesting s) ≤ GREATEST_DEPTH) ss → d + nesting_list part (shapes ss) ≤ GREATEST_DEPTH
goals_within part d [] l h = omega arith
goals_within part d (s ∷ ss) l (h, more) = let k = goals_within part d ss l more in omega arith

rules_within : (part : RuleShape → Bool) (d : ℕ) (xs : List RuleShape) → d ≤ GREATEST_DEPTH → Each (λ x. d + nest (part x) (rule_nesting x) ≤ GREATEST_DEPTH) xs →
    d + rules_nesting part (rule_shapes xs) ≤ GREATEST_DEPTH
rules_within part d [] l h = omega arith
rules_within part d (x ∷ xs) l (h, more) = let k = rules_within part d xs l more in omega arith

list_within : (k : Kind) (n d : ℕ) → suc n ≤ top k → d ≤ GREATEST_DEPTH → (m m' : Meaning k) (ms : List (Meaning k)) → Each (Holds k n d) (m ∷ m' ∷ ms) →
    Holds k (suc n) d (list k n (m ∷ m' ∷ ms))
list_within goals (suc (suc (suc n))) d b l m m' ms h = absurd (omega arith)
list_within goals _ d b l m m' ms h = goals_within _ d (m ∷ m' ∷ ms) l h
list_within rules (suc (suc n)) d b l m m' ms h = absurd (omega arith)
list_within rules _ d b l m m' ms h = rules_within _ d (m ∷ m' ∷ ms) l h

nest_few : (b : Bool) (n : ℕ) → nest b n ≤ suc n
nest_few true n = omega arith
nest_few false n = omega arith

group_within : (k : Kind) (d : ℕ) (m : Meaning k) → Holds k (top k) (suc d) m → Holds k 0 d m
group_within goals d m h = let few = nest_few (in_serial m) (nesting m) in omega arith
group_within rules d m h = let few = nest_few (in_all m) (rule_nesting m) in omega arith

pub after_fact : (d : ℕ) (f : FactText) (r : List Placed) → d ≤ GREATEST_DEPTH → IsShallow (spell_fact d f r) →
    (d + arguments_nesting (mean_fact f).args ≤ GREATEST_DEPTH) × IsShallow r
after_fact d (bare n) r l (h, more) = (omega arith, more)
after_fact d (applied n c cs) r l (h, (k, (j, more))) =
    let below : d < GREATEST_DEPTH = k tt in
    (omega arith, ((constants_spelled (suc d) cs (at (suc d) closing ∷ r)).1.0 more).1)

fact_within : (d : ℕ) (p : Prefix) (f : FactText) → d + arguments_nesting (mean_fact f).args ≤ GREATEST_DEPTH → Holds goals 0 d (prefixed p (mean_fact f))
fact_within d p f h = search std_rules

none_more : (d most : ℕ) → d ≤ most → d + 0 ≤ most
none_more d most h = omega arith

mutual
  pub within : {k : Kind} {n : ℕ} (t : Text k n) (d : ℕ) (r : List Placed) → n ≤ top k → d ≤ GREATEST_DEPTH → IsShallow (spell d t r) → Holds k n d (mean t) × IsShallow r
  within {k} (joined {n = n} m ms) d r b l h =
      let (x, j) = within m d (spell_more d ms r) (omega arith) l h in
      let (xs, i) = more_within ms d r (omega arith) l j in
      (gathered (Holds k n d) (Holds k (suc n) d) (list k n) (looser k n d) (list_within k n d b l) (mean m) (mean_more ms) x xs, i)
  within {k} (group_text t) d r b l (below, h) =
      let m : d < GREATEST_DEPTH = below tt in
      let (x, j) = within t (suc d) (at (suc d) closing ∷ r) (omega arith) m h in
      (group_within k d (mean t) x, j.1)
  within (fact_text p f) d r b l (h', h) = let (x, j) = after_fact d f r l h in (fact_within d p f x, j)
  within (iso_text g) d r b l (h', (below, h)) =
      let m : d < GREATEST_DEPTH = below tt in
      let (x, j) = within g (suc d) (at (suc d) closing ∷ r) (omega arith) m h in
      (omega arith, j.1)
  within (not_text u) d r b l (below, h) =
      let m : d < GREATEST_DEPTH = below tt in
      let (x, j) = within u (suc d) r b m h in
      (omega arith, j)
  within (order_text x y ns) d r b l (h, (j, (i, more))) = (omega arith, (names_spelled d ns r).1.0 more)
  within nop_text d r b l h = (none_more d GREATEST_DEPTH l, h.1)
  within (name_text n) d r b l h = (none_more d GREATEST_DEPTH l, h.1)
  within (single_text must_come n) d r b l h = (none_more d GREATEST_DEPTH l, h.1.1)
  within (single_text never_come n) d r b l h = (none_more d GREATEST_DEPTH l, h.1.1)
  within (pair_text preceding x y) d r b l h = (none_more d GREATEST_DEPTH l, h.1.1.1)
  within (pair_text needing x y) d r b l h = (none_more d GREATEST_DEPTH l, h.1.1.1)

  more_within : {k : Kind} {n : ℕ} (ms : More k n) (d : ℕ) (r : List Placed) → n ≤ top k → d ≤ GREATEST_DEPTH → IsShallow (spell_more d ms r) →
      Each (Holds k n d) (mean_more ms) × IsShallow r
  more_within no_more_text d r b l h = (tt, h)
  more_within (then_text m ms) d r b l (h', h) =
      let (x, j) = within m d (spell_more d ms r) b l h in
      let (xs, i) = more_within ms d r b l j in
      ((x, xs), i)
