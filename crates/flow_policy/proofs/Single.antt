-- A text has one answer as a policy.
use Rattle.std.proofs.Common.{◌≡◌, ℕ, zero, suc, ◌<◌, ◌≤◌, List, [], ◌∷◌, ◌++◌, length, take, drop, map, fold, get_or, refl, sym, ap, ◌∙◌, subst, inl, inr, arith, Ok, Err, take-append-drop, append_assoc}
use Rattle.std.specs.Prelude.{Some, None}
use Rattle.std.specs.List.{flat_map}
use Rattle.flow_model.specs.Lists.{◌∈◌, Each}
use Rattle.flow_model.proofs.Lists.{each_member, mem_append_right}
use Rattle.flow_form.specs.Script.{Said}
use Rattle.flow_form.specs.Names.{event_names}
use Rattle.flow_lex.specs.declared.token.Token.{Token}
use Rattle.flow_lex.specs.Tokens.{Lexed, lexed, IsAscii, IsFirstNotAscii}
use Rattle.flow_grammar.specs.Symbol.{Symbol}
use Rattle.flow_reader.specs.Symbols.{symbols_of}
use Rattle.flow_reader.specs.Reading.{place_of}
use Rattle.flow_policy.specs.declared.stage.Stage.TheVariants.{StatementNeeded}
use Rattle.flow_policy.specs.declared.refusal.PolicyRefusal.{PolicyRefusal}
use Rattle.flow_policy.specs.declared.refusal.PolicyRefusal.TheVariants.{NotAscii, BadToken, Expected, Unknown, NoMemory}
use Rattle.flow_policy.specs.Statement.{Statement, Part, parts}
use Rattle.flow_policy.specs.Texts.{SpellsPolicy, IsViable, IsStuckAt, IsCutInto, IsExpectedAt}
use Rattle.flow_policy.specs.Assigned.{Assigned}
use Rattle.flow_policy.specs.Policy.{memberships, allowances, separations, bindings, firsts, users_of, roles_of, IsKnown, numbered_member, numbered_allowance, numbered_pair, turned, IsBelow, AreRising, AreJust, IsPolicyOf, IsUnknownAt, IsPolicyRefusal}
use Rattle.flow_policy.specs.Numbering.{Names, Numbered, nothing_numbered, with_mention, user_at, role_at}
use Rattle.flow_policy.specs.Laws.{PoliciesAreSingle}
use Rattle.flow_policy.proofs.StageLemmas.{trace, steps, part_of, parts_of_all, spelled_is_whole}
use Rattle.flow_policy.proofs.DraftLemmas.{bares, said_names, users_said, roles_said, all_add}
use Rattle.flow_model.proofs.MadeLists.{mem-map}
use Rattle.flow_policy.proofs.TableLemmas.{turned-mem, turned_twice}
use Rattle.flow_lex.proofs.AsciiLemmas.{ascii_has_none, one_first_byte}

-- rising lists with the same members are one

below_not_both : (p q : ℕ × ℕ) → IsBelow p q → IsBelow q p → ⊥
below_not_both p q (inl a) (inl b) = omega arith
below_not_both p q (inl a) (inr (e, b)) = omega arith
below_not_both p q (inr (e, a)) (inl b) = omega arith
below_not_both p q (inr (e, a)) (inr (f, b)) = omega arith

below_not_itself : (p : ℕ × ℕ) → IsBelow p p → ⊥
below_not_itself p h = below_not_both p p h h

same_heads : (x y : ℕ × ℕ) (xs ys : List (ℕ × ℕ)) → AreRising (x ∷ xs) → AreRising (y ∷ ys) → x ∈ (y ∷ ys) → y ∈ (x ∷ xs) → x ≡ y
same_heads x y xs ys h k (inl e) m = e
same_heads x y xs ys h k (inr a) (inl e) = sym e
same_heads x y xs ys h k (inr a) (inr b) = absurd (below_not_both x y (each_member (IsBelow x) xs h.0 y b) (each_member (IsBelow y) ys k.0 x a))

in_tail : (x z : ℕ × ℕ) (y : ℕ × ℕ) (xs ys : List (ℕ × ℕ)) → Each (IsBelow x) xs → x ≡ y → z ∈ xs → z ∈ (y ∷ ys) → z ∈ ys
in_tail x z y xs ys h same m (inr k) = k
in_tail x z y xs ys h same m (inl e) = absurd (below_not_itself x (subst (IsBelow x) (e ∙ sym same) (each_member (IsBelow x) xs h z m)))

rising_single : (xs ys : List (ℕ × ℕ)) → AreRising xs → AreRising ys → ((p : ℕ × ℕ) → p ∈ xs → p ∈ ys) → ((p : ℕ × ℕ) → p ∈ ys → p ∈ xs) → xs ≡ ys
rising_single [] [] h k to from = refl
rising_single [] (y ∷ ys) h k to from = absurd (from y (inl refl))
rising_single (x ∷ xs) [] h k to from = absurd (to x (inl refl))
rising_single (x ∷ xs) (y ∷ ys) h k to from =
    let same = same_heads x y xs ys h k (to x (inl refl)) (from y (inl refl)) in
    let tails = rising_single xs ys h.1 k.1 (λ p m. in_tail x p y xs ys h.0 same m (to p (inr m))) (λ p m. in_tail y p x ys xs k.0 (sym same) m (from p (inr m))) in
    (λ i. same i ∷ tails i)

just_single : (xs ys said : List (ℕ × ℕ)) → AreRising xs → AreRising ys → AreJust xs said → AreJust ys said → xs ≡ ys
just_single xs ys said h k a b = rising_single xs ys h k (λ p m. b.all p (a.none_else p m)) (λ p m. a.all p (b.none_else p m))

just_turned : (xs ys : List (ℕ × ℕ)) → AreJust xs ys → AreJust (map turned xs) (map turned ys)
just_turned xs ys h = record {
  none_else = λ p m. mem-map turned (turned p) ys (h.none_else (turned p) (turned-mem p xs m));
  all = λ p m. mem-map turned (turned p) xs (h.all (turned p) (turned-mem p ys m));
}

turned_single : (xs ys : List (ℕ × ℕ)) → map turned xs ≡ map turned ys → xs ≡ ys
turned_single xs ys e = sym (turned_twice xs) ∙ ap (map turned) e ∙ turned_twice ys

-- What symbols say is one

tokens_single : (text : List ℕ) (a b : List Token) → IsCutInto text a → IsCutInto text b → a ≡ b
tokens_single text a b h k = ap (λ (l : Lexed). l.tokens) (sym h.lexed ∙ k.lexed)

steps_single : (text : List ℕ) (a b : List Token) (s t : List Statement) → IsCutInto text a → IsCutInto text b → SpellsPolicy (symbols_of text a) s → SpellsPolicy (symbols_of text b) t →
    flat_map steps s ≡ flat_map steps t
steps_single text a b s t ca cb h k =
    sym (spelled_is_whole (symbols_of text a) s h).1 ∙ ap (λ l. trace StatementNeeded (symbols_of text l)) (tokens_single text a b ca cb) ∙ (spelled_is_whole (symbols_of text b) t k).1

module _ (s t : List Statement) (same : flat_map steps s ≡ flat_map steps t) where
  parts_single : flat_map parts s ≡ flat_map parts t
  parts_single = sym (parts_of_all s) ∙ ap (map part_of) same ∙ parts_of_all t

  users_single : users_of s ≡ users_of t
  users_single = ap firsts (sym (users_said s) ∙ ap (λ l. flat_map user_at (flat_map bares l)) same ∙ users_said t)

  roles_single : roles_of s ≡ roles_of t
  roles_single = ap firsts (sym (roles_said s) ∙ ap (λ l. flat_map role_at (flat_map bares l)) same ∙ roles_said t)

  drafts_single : (names : Names) → fold (with_mention names) nothing_numbered (said_names s) ≡ fold (with_mention names) nothing_numbered (said_names t)
  drafts_single names = ap (λ l. fold (with_mention names) nothing_numbered (flat_map bares l)) same

  members_single : (users roles events : List (List ℕ)) → map (numbered_member users roles) (flat_map memberships s) ≡ map (numbered_member users roles) (flat_map memberships t)
  members_single users roles events =
      let names : Names = record { users = users; roles = roles; events = events } in
      sym (all_add names nothing_numbered s).members ∙ ap (λ (d : Numbered). d.members) (drafts_single names) ∙ (all_add names nothing_numbered t).members

  allowed_single : (users roles events : List (List ℕ)) → map (numbered_allowance roles events) (flat_map allowances s) ≡ map (numbered_allowance roles events) (flat_map allowances t)
  allowed_single users roles events =
      let names : Names = record { users = users; roles = roles; events = events } in
      turned_single _ _ (sym (all_add names nothing_numbered s).allowed ∙ ap (λ (d : Numbered). d.allowed) (drafts_single names) ∙ (all_add names nothing_numbered t).allowed)

  separate_single : (users roles events : List (List ℕ)) → map (numbered_pair events) (flat_map separations s) ≡ map (numbered_pair events) (flat_map separations t)
  separate_single users roles events =
      let names : Names = record { users = users; roles = roles; events = events } in
      sym (all_add names nothing_numbered s).separate ∙ ap (λ (d : Numbered). d.separate) (drafts_single names) ∙ (all_add names nothing_numbered t).separate

  bound_single : (users roles events : List (List ℕ)) → map (numbered_pair events) (flat_map bindings s) ≡ map (numbered_pair events) (flat_map bindings t)
  bound_single users roles events =
      let names : Names = record { users = users; roles = roles; events = events } in
      sym (all_add names nothing_numbered s).bound ∙ ap (λ (d : Numbered). d.bound) (drafts_single names) ∙ (all_add names nothing_numbered t).bound

policies_single : (text : List ℕ) (s : Said) (p q : Assigned) → IsPolicyOf text s p → IsPolicyOf text s q → p ≡ q
policies_single text s p q h k =
    let events = event_names s.decls in
    let same = steps_single text h.says.tokens k.says.tokens h.statements k.statements h.says.cut k.says.cut h.says.spelled k.says.spelled in
    let users = users_single h.statements k.statements same in
    let roles = roles_single h.statements k.statements same in
    let u = users_of k.statements in
    let r = roles_of k.statements in
    let members_said = (λ i. map (numbered_member (users i) (roles i)) (flat_map memberships h.statements)) ∙ members_single h.statements k.statements same u r events in
    let allowed_said = (λ i. map (numbered_allowance (roles i) events) (flat_map allowances h.statements)) ∙ allowed_single h.statements k.statements same u r events in
    let members = just_single p.duties.members q.duties.members _ h.members_rise k.members_rise (subst (AreJust p.duties.members) members_said h.members_are) k.members_are in
    let allowed = turned_single p.duties.allowed q.duties.allowed (just_single (map turned p.duties.allowed) (map turned q.duties.allowed) _ h.allowed_rise k.allowed_rise
    (just_turned _ _ (subst (AreJust p.duties.allowed) allowed_said h.allowed_are)) (just_turned _ _ k.allowed_are)) in
    let separate = h.separate_are ∙ separate_single h.statements k.statements same u r events ∙ sym k.separate_are in
    let bound = h.bound_are ∙ bound_single h.statements k.statements same u r events ∙ sym k.bound_are in
    let names = h.users_are ∙ users ∙ sym k.users_are in
    (λ i. record { users = names i; duties = record { members = members i; allowed = allowed i; separate = separate i; bound = bound i } })

-- Why there is none, is one

not_bad : (text : List ℕ) (tokens : List Token) (place : ℕ) → IsCutInto text tokens → (lexed text).bad ≡ Some place → ⊥
not_bad text tokens place cut bad = let f : None ≡ Some place = sym (ap (λ (l : Lexed). l.bad) cut.lexed) ∙ bad in absurd (cc)

take_take : {A : Type 0} (j m : ℕ) (l : List A) → j ≤ m → take m l ≡ take j l ++ drop j (take m l)
take_take zero zero [] le = refl
take_take zero (suc m) [] le = refl
take_take zero zero (x ∷ l) le = refl
take_take zero (suc m) (x ∷ l) le = refl
take_take (suc j) zero l le = absurd (omega arith)
take_take (suc j) (suc m) [] le = refl
take_take (suc j) (suc m) (x ∷ l) le = ap (λ k. x ∷ k) (take_take j m l (omega arith))

viable_front : (ts : List Symbol) (j m : ℕ) → j ≤ m → IsViable (take m ts) → IsViable (take j ts)
viable_front ts j m le (rest, sts, e) =
    (drop j (take m ts) ++ rest, sts, sym (append_assoc (take j ts) (drop j (take m ts)) rest) ∙ ap (λ l. l ++ rest) (sym (take_take j m ts le)) ∙ e)

spelled_front : (ts : List Symbol) (n : ℕ) (sts : List Statement) → SpellsPolicy ts sts → IsViable (take n ts)
spelled_front ts n sts e = (drop n ts, sts, take-append-drop n ts ∙ e)

not_stuck : (ts : List Symbol) (k : ℕ) (sts : List Statement) → SpellsPolicy ts sts → IsStuckAt ts k → ⊥
not_stuck ts k sts e (viable, inl (lt, none)) = none (spelled_front ts (suc k) sts e)
not_stuck ts k sts e (viable, inr (end, none)) = none sts e

not_stuck_before : (ts : List Symbol) (j k : ℕ) → IsStuckAt ts j → IsStuckAt ts k → ¬ (j < k)
not_stuck_before ts j k (a, inl (lt, none)) (viable, h) less = none (viable_front ts (suc j) k (omega arith) viable)
not_stuck_before ts j k (a, inr (end, none)) (viable, inl (lt, h)) less = omega (arith, end, lt, less)
not_stuck_before ts j k (a, inr (end, none)) (viable, inr (last, h)) less = omega (arith, end, last, less)

stuck_single : (ts : List Symbol) (j k : ℕ) → IsStuckAt ts j → IsStuckAt ts k → j ≡ k
stuck_single ts j k h l =
    let least : ¬ (j < k) = not_stuck_before ts j k h l in
    let also : ¬ (k < j) = not_stuck_before ts k j l h in
    omega (arith, least, also)

expected_single : (text : List ℕ) (a b : ℕ) → IsExpectedAt text a → IsExpectedAt text b → a ≡ b
expected_single text a b h k =
    let same = tokens_single text h.tokens k.tokens h.cut k.cut in
    let number = stuck_single (symbols_of text k.tokens) h.number k.number (subst (λ l. IsStuckAt (symbols_of text l) h.number) same h.stuck) k.stuck in
    h.there ∙ (λ i. place_of text (same i) (number i)) ∙ sym k.there

expected_not_spelled : (text : List ℕ) (place : ℕ) (tokens : List Token) (sts : List Statement) → IsExpectedAt text place → IsCutInto text tokens → SpellsPolicy (symbols_of text tokens) sts → ⊥
expected_not_spelled text place tokens sts h cut e =
    not_stuck (symbols_of text tokens) h.number sts e (subst (λ l. IsStuckAt (symbols_of text l) h.number) (tokens_single text h.tokens tokens h.cut cut) h.stuck)

first_single : (P : Part → Type 0) (all a b : List Part) (p q : Part) (c d : List Part) → all ≡ a ++ p ∷ c → all ≡ b ++ q ∷ d → ¬ P p → ¬ P q → Each P a → Each P b → length a ≡ length b
first_single P all [] [] p q c d e f bad wrong h k = refl
first_single P all [] (y ∷ b) p q c d e f bad wrong h k = absurd (bad (subst P (let g : y ∷ (b ++ q ∷ d) ≡ p ∷ c = sym f ∙ e in cc) k.0))
first_single P all (x ∷ a) [] p q c d e f bad wrong h k = absurd (wrong (subst P (let g : x ∷ (a ++ p ∷ c) ≡ q ∷ d = sym e ∙ f in cc) h.0))
first_single P all (x ∷ a) (y ∷ b) p q c d e f bad wrong h k =
    let g : x ∷ (a ++ p ∷ c) ≡ y ∷ (b ++ q ∷ d) = sym e ∙ f in
    let tails : a ++ p ∷ c ≡ b ++ q ∷ d = cc in
    ap suc (first_single P (a ++ p ∷ c) a b p q c d refl tails bad wrong h.1 k.1)

unknown_single : (text : List ℕ) (s : Said) (a b : ℕ) → IsUnknownAt text s a → IsUnknownAt text s b → a ≡ b
unknown_single text s a b h k =
    let same = steps_single text h.tokens k.tokens h.statements k.statements h.cut k.cut h.spelled k.spelled in
    let roles = roles_single h.statements k.statements same in
    let P = IsKnown (roles_of k.statements) (event_names s.decls) in
    let number = first_single P (flat_map parts k.statements) h.front k.front h.part k.part h.back k.back
    (sym (parts_single h.statements k.statements same) ∙ h.parted) k.parted
    (λ known. h.unknown (subst (λ r. IsKnown r (event_names s.decls) h.part) (sym roles) known)) k.unknown
    (subst (λ r. Each (IsKnown r (event_names s.decls)) h.front) roles h.first) k.first in
    h.there ∙ (λ i. place_of text (tokens_single text h.tokens k.tokens h.cut k.cut i) (number i)) ∙ sym k.there

policy_not_unknown : (text : List ℕ) (s : Said) (p : Assigned) (place : ℕ) → IsPolicyOf text s p → IsUnknownAt text s place → ⊥
policy_not_unknown text s p place h k =
    let same = steps_single text h.says.tokens k.tokens h.statements k.statements h.says.cut k.cut h.says.spelled k.spelled in
    let known = subst (λ r. Each (IsKnown r (event_names s.decls)) (flat_map parts h.statements)) (roles_single h.statements k.statements same) h.known in
    let cut = parts_single h.statements k.statements same ∙ k.parted in
    k.unknown (each_member (IsKnown (roles_of k.statements) (event_names s.decls)) (k.front ++ k.part ∷ k.back) (subst (Each (IsKnown (roles_of k.statements) (event_names s.decls))) cut known)
    k.part (mem_append_right k.part k.front (k.part ∷ k.back) (inl refl)))

policy_not_refused : (text : List ℕ) (s : Said) (p : Assigned) (refusal : PolicyRefusal) → IsPolicyOf text s p → IsPolicyRefusal text s refusal → ¬ (refusal ≡ NoMemory) → ⊥
policy_not_refused text s p (NotAscii place) h k other = ascii_has_none text place h.says.cut.ascii k
policy_not_refused text s p (BadToken place) h k other = not_bad text h.says.tokens place h.says.cut k.1
policy_not_refused text s p (Expected place) h k other = expected_not_spelled text place h.says.tokens h.statements k h.says.cut h.says.spelled
policy_not_refused text s p (Unknown place) h k other = policy_not_unknown text s p place h k
policy_not_refused text s p NoMemory h k other = other refl

refusals_single : (text : List ℕ) (s : Said) (a b : PolicyRefusal) → IsPolicyRefusal text s a → IsPolicyRefusal text s b → ¬ (a ≡ NoMemory) → ¬ (b ≡ NoMemory) → a ≡ b
refusals_single text s NoMemory b h k x y = absurd (x refl)
refusals_single text s (NotAscii p) NoMemory h k x y = absurd (y refl)
refusals_single text s (BadToken p) NoMemory h k x y = absurd (y refl)
refusals_single text s (Expected p) NoMemory h k x y = absurd (y refl)
refusals_single text s (Unknown p) NoMemory h k x y = absurd (y refl)
refusals_single text s (NotAscii p) (NotAscii q) h k x y = ap NotAscii (one_first_byte text p q h k)
refusals_single text s (NotAscii p) (BadToken q) h k x y = absurd (ascii_has_none text p k.0 h)
refusals_single text s (NotAscii p) (Expected q) h k x y = absurd (ascii_has_none text p k.cut.ascii h)
refusals_single text s (NotAscii p) (Unknown q) h k x y = absurd (ascii_has_none text p k.cut.ascii h)
refusals_single text s (BadToken p) (NotAscii q) h k x y = absurd (ascii_has_none text q h.0 k)
refusals_single text s (BadToken p) (BadToken q) h k x y = let f : Some p ≡ Some q = sym h.1 ∙ k.1 in (let same : p ≡ q = cc in ap BadToken same)
refusals_single text s (BadToken p) (Expected q) h k x y = absurd (not_bad text k.tokens p k.cut h.1)
refusals_single text s (BadToken p) (Unknown q) h k x y = absurd (not_bad text k.tokens p k.cut h.1)
refusals_single text s (Expected p) (NotAscii q) h k x y = absurd (ascii_has_none text q h.cut.ascii k)
refusals_single text s (Expected p) (BadToken q) h k x y = absurd (not_bad text h.tokens q h.cut k.1)
refusals_single text s (Expected p) (Expected q) h k x y = ap Expected (expected_single text p q h k)
refusals_single text s (Expected p) (Unknown q) h k x y = absurd (expected_not_spelled text p k.tokens k.statements h k.cut k.spelled)
refusals_single text s (Unknown p) (NotAscii q) h k x y = absurd (ascii_has_none text q h.cut.ascii k)
refusals_single text s (Unknown p) (BadToken q) h k x y = absurd (not_bad text h.tokens q h.cut k.1)
refusals_single text s (Unknown p) (Expected q) h k x y = absurd (expected_not_spelled text q h.tokens h.statements k h.cut h.spelled)
refusals_single text s (Unknown p) (Unknown q) h k x y = ap Unknown (unknown_single text s p q h k)

pub policies_are_single : PoliciesAreSingle
policies_are_single text s (Ok p) (Ok q) h k = ap Ok (policies_single text s p q h k)
policies_are_single text s (Ok p) (Err b) h k = absurd (policy_not_refused text s p b h k.0 k.1)
policies_are_single text s (Err a) (Ok q) h k = absurd (policy_not_refused text s q a k h.0 h.1)
policies_are_single text s (Err a) (Err b) h k = ap Err (refusals_single text s a b h.0 k.0 h.1 k.1)
