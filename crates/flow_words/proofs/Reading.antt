-- What the command finds in words that it reads.
use Rattle.std.proofs.Common.{◌≡◌, ◌∙◌, ◌<◌, ◌==◌, ℕ, zero, suc, ap, sym, subst, refl, arith, inl, inr, eqb-true, cond, drop, length, List, [], ◌∷◌, map, Bool, true, false, Option, Some, None, codes, IfSome}
use Rattle.std.specs.Prelude.{option_and_then, option_map, pos, slice_get, unwrap_or, Result, Ok, Err, IfOk, MatchResult}
use Rattle.std.specs.List.{All, position_or_len, slice_index_or}
use Rattle.std.specs.Str.{bytes_eq}
use Rattle.std.specs.Str.Parse.{IsNumeral, starts_with_minus, without_leading_plus}
use Rattle.std.specs.Borrow.{Bor}
use Rattle.std.proofs.lemmas.Bool.{not-true}
use Rattle.std.proofs.lemmas.Int.{ints}
use Rattle.std.proofs.lemmas.List.{get_or-map, length-map}
use Rattle.std.proofs.lemmas.List.Elements.{All-get_or}
use Rattle.std.proofs.lemmas.Slice.Eq.{bytes_eq-Decides}
use Rattle.std.proofs.lemmas.Str.Parse.{digit_from_value, without_leading_plus_none}
use Rattle.flow_model.specs.declared.limits.TheConstants.{GREATEST_SEED, GREATEST_SIZE, MOST_ENTRIES, MOST_WORKERS}
use Rattle.clap.specs.Words.{Accepts, App, Rule, Text, app_of, args_of, found_of, groups_of, matched_of, one_text, read_as, reading_of, rule_of, without_minus, FailsBy, HasKind, HasMatchesOf, fault_of, is_simple_and_free}
use Rattle.clap.specs.declared.error.Error.{Error}
use Rattle.clap.specs.Words.{IsParsedFrom, IsSignedIn}
use Rattle.clap.specs.Built.{NamesNoGroup}
use Rattle.clap.specs.Facts.{Entry, EntryPasses, HasReading, PassesArg, ValuesPass, parser_of, parser_of_value}
use Rattle.clap.specs.Walk.{is_simple_arg}
use Rattle.clap.specs.declared.builder.arg.Arg.{Arg}
use Rattle.clap.specs.declared.builder.command.Command.{Command}
use Rattle.clap.specs.declared.builder.command.Command.TheViews.{out-Command}
use Rattle.clap.specs.declared.builder.value_parser.Reading.{Reading}
use Rattle.clap.specs.declared.builder.value_parser.ValueParser.{ValueParser}
use Rattle.clap.specs.declared.builder.value_parser.ValueParser.TheVariants.{Signed}
use Rattle.clap.specs.declared.parser.matches.ArgMatches.{ArgMatches}
use Rattle.clap.specs.declared.parser.matches.Found.{Found}
use Rattle.clap.specs.declared.parser.matches.MatchedArg.{MatchedArg}
use Rattle.clap.proofs.CallerLemmas.{entry_by_id, same_rules_by_id}
use Rattle.clap.proofs.WalkLemmas.{both}
use Rattle.flow_words.specs.Command.{IsBetween, HasNumbers, flow_app, flow_rules, mode_rule, IsReadAs}

-- ---- the value of an entry

-- a first value, of values that all have P
first_value : (P : Bor Text → Type 0) (how : Reading) (values : List (Bor Text)) (text : Text) → All P values
    → option_map (λ s. read_as how s.now) (slice_get values 0) ≡ Some text
    → (value : Bor Text) × (text ≡ read_as how value.now) × P value
first_value P how [] text all e = cc
first_value P how (v ∷ vs) text all e =
    let same : read_as how v.now ≡ text = ap (λ (o : Option Text). unwrap_or o text) e in
    (v, sym same, All-get_or P (v ∷ vs) 0 v (omega arith) all)

-- what is read of an entry
abbrev text_of : Option MatchedArg → Option Text
text_of = option_and_then (λ a. option_map (λ s. read_as a.reading s.now) (slice_get a.vals.items 0))

-- a value that an argument of that id takes, as it is read
abbrev IsRead : Command → Text → Text → Reading → Type 0
IsRead c id text how = (value : Text) × (text ≡ read_as how value) × PassesArg c id value

-- what one entry gives
entry_read : (c : Command) (id text : Text) (how : Reading) (x : MatchedArg) (e : Entry) → groups_of c ≡ [] → (id ≡ [] → ⊥)
    → ((r : Reading) → HasReading c id r → r ≡ how) → option_map (λ s. read_as x.reading s.now) (slice_get x.vals.items 0) ≡ Some text
    → e.1 ≡ x → e.0.now ≡ id → EntryPasses c e → IsRead c id text how
entry_read c id text how x e no_groups named reads first same key pass =
    let no_group : e.1.is_group ≡ true → ⊥ = λ g. elim (pass.3 g) [
      | inl empty ↦ named (sym key ∙ empty)
      | inr some ↦
          let bad : 0 < 0 = rw no_groups at some in
          absurd (omega arith)
    ] in
    let all : All (λ v. PassesArg c id v.now) x.vals.items = elim pass.0 [
      | inl g ↦ absurd (no_group g)
      | inr values ↦ subst (λ (w : Text). All (λ v. PassesArg c w v.now) x.vals.items) key (rw same at values)
    ] in
    let how_is : e.1.reading ≡ how = elim pass.4 [
      | inl g ↦ absurd (no_group g)
      | inr h ↦ reads e.1.reading (subst (λ (w : Text). HasReading c w e.1.reading) key h)
    ] in
    finish (first_value (λ v. PassesArg c id v.now) x.reading x.vals.items text all first) (ap (λ (y : MatchedArg). y.reading) (sym same) ∙ how_is)
  where
    finish : ((value : Bor Text) × (text ≡ read_as x.reading value.now) × PassesArg c id value.now) → x.reading ≡ how → IsRead c id text how
    finish v how_is = (v.0.now, subst (λ (r : Reading). text ≡ read_as r v.0.now) how_is v.1, v.2)

-- what is read of an id is a value that an argument of that id takes, read as one of that id says
value_read : (c : Command) (f : Found) (id text : Text) (how : Reading) → ValuesPass c f → groups_of c ≡ [] → (id ≡ [] → ⊥)
    → ((r : Reading) → HasReading c id r → r ≡ how) → one_text f id ≡ Some text → IsRead c id text how
value_read c f id text how values no_groups named reads is = go (matched_of f id) refl is
  where
    step : (x : MatchedArg) → option_map (λ s. read_as x.reading s.now) (slice_get x.vals.items 0) ≡ Some text
        → ((e : Entry) × (e.1 ≡ x) × (bytes_eq e.0.now id ≡ true) × EntryPasses c e) → IsRead c id text how
    step x first got = entry_read c id text how x got.0 no_groups named reads first got.1 ((bytes_eq-Decides got.0.0.now id).0 got.2) got.3

    go : (o : Option MatchedArg) → matched_of f id ≡ o → text_of o ≡ Some text → IsRead c id text how
    go None found h =
        let bad : ⊥ = cc in
        absurd bad
    go (Some x) found h = step x h (entry_by_id (EntryPasses c) f.entries.items id x values found)

-- ---- numbers

no_plus : (ds : Text) → IsNumeral 10 ds → without_leading_plus ds ≡ ds
no_plus [] h = refl
no_plus (d ∷ ds) h = without_leading_plus_none (d ∷ ds) (λ e. omega (arith, digit_from_value d h.1.0))

without_minus-cond : (t : Text) → without_minus t ≡ cond (starts_with_minus t) (drop 1 t) t
without_minus-cond [] = refl
without_minus-cond (x ∷ xs) = go (x == 45)
  where
    go : (b : Bool) → unwrap_or (cond b (Some xs) None) (x ∷ xs) ≡ cond b xs (x ∷ xs)
    go true = refl
    go false = refl

-- a value in bounds that are not negative is read as a number in them
between_of_signed : (least greatest : ℕ) (v : Text) → IsSignedIn (pos least) (pos greatest) v → IsBetween least greatest (without_minus v)
between_of_signed least greatest v h = subst (IsBetween least greatest) (sym (without_minus-cond v)) (go (starts_with_minus v) refl)
  where
    go : (b : Bool) → starts_with_minus v ≡ b → IsBetween least greatest (cond (starts_with_minus v) (drop 1 v) v)
    go true minus =
        let numeral : IsNumeral 10 (drop 1 v) = rw minus at h.0 in
        let low = rw minus at h.2 in
        let high = rw minus at h.3 in
        let same = no_plus (drop 1 v) numeral in
        rw minus (record { numeral = rw same numeral; not_less = rw same (omega (arith, ints)); not_greater = rw same (omega (arith, ints)) })
    go false minus =
        let low = rw minus at h.2 in
        let high = rw minus at h.3 in
        let numeral : IsNumeral 10 (without_leading_plus v) = rw minus at h.0 in
        rw minus (record { numeral = numeral; not_less = omega (arith, ints); not_greater = omega (arith, ints) })

-- ---- the rules of the command

abbrev rule_at : ℕ → Rule
rule_at k = slice_index_or flow_rules k mode_rule

-- the place of the rule with that id
abbrev place : Text → ℕ
place id = position_or_len (λ r. bytes_eq r.id id) flow_rules

placed : (k : ℕ) → k < 5 → place (rule_at k).id ≡ k
placed zero lt = refl
placed (suc zero) lt = refl
placed (suc (suc zero)) lt = refl
placed (suc (suc (suc zero))) lt = refl
placed (suc (suc (suc (suc zero)))) lt = refl
placed (suc (suc (suc (suc (suc k))))) lt = absurd (omega arith)

not_elsewhere : (k : ℕ) (id : Text) → k < 5 → place id ≡ 5 → (rule_at k).id ≡ id → ⊥
not_elsewhere k id lt outside e = omega (arith, placed k lt, ap place e)

simple_at : (k : ℕ) → (rule_at k).is_simple ≡ true
simple_at zero = refl
simple_at (suc zero) = refl
simple_at (suc (suc zero)) = refl
simple_at (suc (suc (suc zero))) = refl
simple_at (suc (suc (suc (suc zero)))) = refl
simple_at (suc (suc (suc (suc (suc k))))) = refl

nothing_in : {X : Type 0} (xs : List X) → (length xs == 0) ≡ true → xs ≡ []
nothing_in [] e = refl
nothing_in (x ∷ xs) e = absurd (omega (arith, eqb-true (length (x ∷ xs)) 0 e))

-- ---- the command, as it was made

module _ (old : Command) (app : app_of old ≡ flow_app) where
  rules : map rule_of (args_of old) ≡ flow_rules
  rules = ap (λ (a : App). a.top.rules) app

  five : length (args_of old) ≡ 5
  five = sym (length-map (args_of old) rule_of) ∙ ap length rules

  rule_is : (k : ℕ) (d : Arg) → k < 5 → rule_of (slice_index_or (args_of old) k d) ≡ rule_at k
  rule_is k d lt =
      let inside : k < length (args_of old) = omega (arith, five) in
      sym (get_or-map rule_of (args_of old) k d mode_rule inside) ∙ ap (λ rs. slice_index_or rs k mode_rule) rules

  id_is : (k : ℕ) (d : Arg) → k < 5 → (slice_index_or (args_of old) k d).id.now ≡ (rule_at k).id
  id_is k d lt = ap (λ (r : Rule). r.id) (rule_is k d lt)

  no_groups : groups_of old ≡ []
  no_groups =
      let plain : (app_of old).top.is_plain ≡ true = ap (λ (a : App). a.top.is_plain) app in
      nothing_in (groups_of old) (both _ _ plain).0

  no_globals : (out-Command old).has_globals ≡ false
  no_globals =
      let plain : (app_of old).top.is_plain ≡ true = ap (λ (a : App). a.top.is_plain) app in
      not-true (out-Command old).has_globals (both _ _ (both _ _ (both _ _ plain).1).1).0

  names_no_group : NamesNoGroup old
  names_no_group k d lt =
      let inside : k < 5 = omega (arith, five) in
      let simple : is_simple_arg (slice_index_or (args_of old) k d) ≡ true = ap (λ (r : Rule). r.is_simple) (rule_is k d inside) ∙ simple_at k in
      nothing_in (slice_index_or (args_of old) k d).groups.items (both _ _ (both _ _ (both _ _ simple).1).1).0

  module _ (m : ArgMatches) (p : IsParsedFrom old m) where
    -- an argument of the built command with the id of ours has our parser
    parser_is : (k : ℕ) (q : ValueParser) (x : Arg) (j : ℕ) → k < 5 → (rule_at k).parser ≡ Some q → j < length (args_of p.built)
        → slice_index_or (args_of p.built) j x ≡ x → bytes_eq x.id.now (rule_at k).id ≡ true → x.value_parser ≡ Some q
    parser_is k q x j lt parser high at same =
        let inside : k < length (args_of old) = omega (arith, five) in
        let same_id : bytes_eq x.id.now (slice_index_or (args_of old) k x).id.now ≡ true = rw (id_is k x lt) same in
        let ours = same_rules_by_id old m p k x inside
        (λ i e low equal.
        let below : i < 5 = omega (arith, five) in
        let ids : (rule_at i).id ≡ (rule_at k).id = sym (id_is i e below) ∙ (bytes_eq-Decides (slice_index_or (args_of old) i e).id.now (slice_index_or (args_of old) k x).id.now).0 equal ∙ id_is k x lt in
        sym (placed i below) ∙ ap place ids ∙ placed k lt)
        (λ auto. elim auto [
          | inl h ↦ not_elsewhere k (codes "help") lt refl (sym (id_is k x lt) ∙ h)
          | inr h ↦ not_elsewhere k (codes "version") lt refl (sym (id_is k x lt) ∙ h)
        ])
        j x high at same_id in
        ours.parser q (ap (λ (r : Rule). r.parser) (rule_is k x lt) ∙ parser)

    number_found : (k least greatest : ℕ) (text : Text) → k < 5 → (rule_at k).parser ≡ Some (Signed (pos least) (pos greatest))
        → one_text (found_of m) (rule_at k).id ≡ Some text → IsBetween least greatest text
    number_found k least greatest text lt parser is =
        let q : ValueParser = Signed (pos least) (pos greatest) in
        let built_groups : groups_of p.built ≡ [] = (p.from.same_groups names_no_group).1 ∙ no_groups in
        let values = (p.parsed (p.from.globals ∙ no_globals)).values in
        let value = value_read p.built (found_of m) (rule_at k).id text (reading_of q) values built_groups
        (not_elsewhere k [] lt refl)
        (λ r any. sym any.4.1 ∙ ap reading_of (ap parser_of_value (parser_is k q any.1 any.0 lt parser any.2 any.3 any.4.0)))
        is in
        let any = value.2 in
        let same : parser_of any.1 ≡ q = ap parser_of_value (parser_is k q any.1 any.0 lt parser any.2 any.3 any.4.0) in
        let accepted : Accepts any.1.ignore_case q value.0 = subst (λ (w : ValueParser). Accepts any.1.ignore_case w value.0) same any.4.1 in
        subst (IsBetween least greatest) (sym value.1) (between_of_signed least greatest value.0 accepted)

    number_at : (k least greatest : ℕ) → k < 5 → (rule_at k).parser ≡ Some (Signed (pos least) (pos greatest)) → (o : Option Text)
        → one_text (found_of m) (rule_at k).id ≡ o → IfSome o (IsBetween least greatest)
    number_at k least greatest lt parser None is = tt
    number_at k least greatest lt parser (Some text) is = number_found k least greatest text lt parser is

    pub numbers_found : HasNumbers (found_of m)
    numbers_found = record {
      steps = number_at 1 1 MOST_ENTRIES (omega arith) refl (one_text (found_of m) (codes "steps")) refl;
      workers = number_at 2 1 MOST_WORKERS (omega arith) refl (one_text (found_of m) (codes "workers")) refl;
      seed = number_at 3 0 GREATEST_SEED (omega arith) refl (one_text (found_of m) (codes "seed")) refl;
      size = number_at 4 1 GREATEST_SIZE (omega arith) refl (one_text (found_of m) (codes "size")) refl;
    }

-- ---- what is read of the words

module _ (app : App) (is : app ≡ flow_app) (words : List Text) where
  pub words_read : (r : Result ArgMatches Error) → (is_simple_and_free app ≡ true → FailsBy (fault_of app words) r) → IfOk r (HasMatchesOf app words) →
      MatchResult r (IsReadAs words) (HasKind (fault_of flow_app words))
  words_read (Ok m) kinds matches = (
    subst (λ (a : App). is_simple_and_free a ≡ true → fault_of a words ≡ []) is kinds refl,
    (subst (λ (a : App). HasMatchesOf a words m) is matches refl).0,
  )
  words_read (Err e) kinds matches = subst (λ (a : App). is_simple_and_free a ≡ true → HasKind (fault_of a words) e) is kinds refl
