-- The command gives one kind of error at most, since it has no subcommands.
use Rattle.std.proofs.Common.{◌≡◌, ◌∙◌, ℕ, zero, suc, Bool, true, false, List, [], ◌∷◌, Option, Some, None, inl, inr, refl, sym, subst, drop, length}
use Rattle.std.specs.Prelude.{◌==◌, ◌&&◌, ◌||◌, not, is_some, if◌then◌else◌, nat_lt, encode_utf8, slice_get}
use Rattle.std.specs.Option.{option_map_or}
use Rattle.std.specs.Str.{bytes_eq, chars}
use Rattle.clap.specs.ValueTests.{accepts}
use Rattle.clap.specs.Lexer.{long_of, short_of}
use Rattle.clap.specs.Words.{IsAmong, Kinds, fault_of}
use Rattle.clap.specs.Kinds.{check_kinds, or_else, range_kinds, request_kinds, value_kinds, values_kinds}
use Rattle.clap.specs.Facts.{parser_of_value, unwrap_or_range}
use Rattle.clap.specs.Simple.{Shape, argument_words, built}
use Rattle.clap.specs.Walk.{Held, Row, Rule, Step, Text, Waiting, Walk, action_of, arg_by_id, arg_by_index, arg_by_long, arg_by_short, attached_value, has_row, idle, is_empty, is_pending, most_values, nothing_held, reacted, settled, subcommand_met, takes_several, takes_values, value, values_or_missing, walk, walk_from, walked, with_default, word_met}
use Rattle.clap.specs.Faults.{action_fault, bundle_step_fault, count_fault, default_fault, defaults_fault, flag_word_fault, flags_fault, level_fault, long_fault, option_fault, other_fault, react_fault, set_fault, settle_fault, short_fault, step_fault, stray_fault, turn_fault, use_fault, walk_fault, word_fault}
use Rattle.clap.proofs.FaultLemmas.{leaf_fault}
use Rattle.clap.specs.declared.builder.action.ArgAction.{ArgAction}
use Rattle.clap.specs.declared.builder.action.ArgAction.TheVariants.{Set, Append, SetTrue, SetFalse, Count, Help, HelpShort, HelpLong, Version}
use Rattle.clap.specs.declared.builder.value_parser.ValueParser.{ValueParser}
use Rattle.clap.specs.declared.error.kind.ErrorKind.{ErrorKind}
use Rattle.flow_words.specs.Command.{flow_app}

data AtMostOne : Kinds → Type 0 where
  none : AtMostOne []
  one : {kind : ErrorKind} → AtMostOne (kind ∷ [])

same_kind : (ks : Kinds) (a b : ErrorKind) → AtMostOne ks → IsAmong a ks → IsAmong b ks → a ≡ b
same_kind [] a b m p q = absurd p
same_kind (k ∷ []) a b one (inl p) (inl q) = p ∙ sym q
same_kind (k ∷ []) a b one (inl p) (inr q) = absurd q
same_kind (k ∷ []) a b one (inr p) q = absurd p
same_kind (k ∷ (_ ∷ _)) a b m p q = elim m [ ]

first : {a b : Kinds} → AtMostOne a → AtMostOne b → AtMostOne (or_else a b)
first none q = q
first one q = one

branch : (b : Bool) {x y : Kinds} → AtMostOne x → AtMostOne y → AtMostOne (if b then x else y)
branch true p q = p
branch false p q = q

found : {A : Type 0} (f : A → Kinds) (o : Option A) {d : Kinds} → AtMostOne d → ((a : A) → AtMostOne (f a)) → AtMostOne (option_map_or f o d)
found f None p each = p
found f (Some a) p each = each a

-- ---- one use of an argument

of_value : (i : Bool) (p : ValueParser) (t : Text) → AtMostOne (value_kinds i p t)
of_value i p t = branch (accepts i p t) none one

of_values : (i : Bool) (p : ValueParser) (ts : List Text) → AtMostOne (values_kinds i p ts)
of_values i p [] = none
of_values i p (t ∷ ts) = first (of_value i p t) (of_values i p ts)

of_range : (least most n : ℕ) → AtMostOne (range_kinds least most n)
of_range least most n =
    branch (nat_lt 0 least && n == 0) one
    (branch (least == most) (branch (least == n) none one) (branch (nat_lt n least) one (branch (nat_lt most n) one none)))

of_request : (x : ArgAction) → AtMostOne (request_kinds x)
of_request Help = one
of_request HelpShort = one
of_request HelpLong = one
of_request Version = one
of_request other = none

of_set : (again : Bool) (a : Rule) (values : List Text) (rows : List Row) → AtMostOne (set_fault again a values rows)
of_set again a values rows =
    first (branch (has_row a.id rows && not again) one none) (of_values a.ignore_case (parser_of_value a.parser) values)

of_count : (a : Rule) (values : List Text) (rows : List Row) → AtMostOne (count_fault a values rows)
of_count a [] rows = of_value a.ignore_case (parser_of_value a.parser) _
of_count a (v ∷ vs) rows = of_values a.ignore_case (parser_of_value a.parser) (v ∷ vs)

of_action : (x : ArgAction) (again : Bool) (a : Rule) (values : List Text) (rows : List Row) → AtMostOne (action_fault x again a values rows)
of_action Set again a values rows = of_set again a values rows
of_action SetTrue again a values rows = of_set again a values rows
of_action SetFalse again a values rows = of_set again a values rows
of_action Append again a values rows = of_values a.ignore_case (parser_of_value a.parser) values
of_action Count again a values rows = of_count a values rows
of_action other again a values rows = of_request other

of_use : (again : Bool) (a : Rule) (values : List Text) (rows : List Row) → AtMostOne (use_fault again a values rows)
of_use again a values rows =
    first (of_range (unwrap_or_range a.range).start_inclusive (most_values a) (length values))
    (of_action (action_of a) again a (values_or_missing a values) rows)

-- ---- the walk over the words

module _ (c : List Rule) (again : Bool) where
  of_settle : (h : Held) → AtMostOne (settle_fault c again h)
  of_settle h = found _ h.pending none (λ p. found _ (arg_by_id c p.0) none (λ a. of_use again a p.1 h.rows))

  of_react : (a : Rule) (values : List Text) (h : Held) → AtMostOne (react_fault c again a values h)
  of_react a values h = first (of_settle h) (of_use again a values (settled c h).rows)

  of_option : (a : Rule) (v : Option Text) (h : Held) → AtMostOne (option_fault c again a v h)
  of_option a (Some v) h = of_react a (v ∷ []) h
  of_option a None h = of_settle h

  of_long : (o : Option Rule) (v : Option Text) (h : Held) → AtMostOne (long_fault c again o v h)
  of_long None v h = one
  of_long (Some a) v h = branch (takes_values a) (of_option a v h) (branch (is_some v) one (of_react a [] h))

  of_short : (o : Option Rule) (rest : Text) (h : Held) (next : Held → Kinds) → ((g : Held) → AtMostOne (next g)) → AtMostOne (short_fault c again o rest h next)
  of_short None rest h next goes = one
  of_short (Some a) rest h next goes =
      branch (takes_values a) (of_option a (attached_value rest) h) (first (of_react a [] h) (goes (reacted c a [] h)))

  of_step_in_bundle : (o : Option ℕ) (flags : Text) (skip : ℕ) (h : Held) (next : Text → ℕ → Held → Kinds)
      → ((t : Text) (n : ℕ) (g : Held) → AtMostOne (next t n g)) → AtMostOne (bundle_step_fault c again o flags skip h next)
  of_step_in_bundle None flags skip h next goes = none
  of_step_in_bundle (Some x) flags zero h next goes =
      of_short (arg_by_short c x) (drop (length (encode_utf8 x)) flags) h (next (drop (length (encode_utf8 x)) flags) 0) (goes (drop (length (encode_utf8 x)) flags) 0)
  of_step_in_bundle (Some x) flags (suc skip) h next goes = goes (drop (length (encode_utf8 x)) flags) skip h

  of_flags : (k : ℕ) (flags : Text) (skip : ℕ) (h : Held) → AtMostOne (flags_fault c again k flags skip h)
  unfolding flags_fault
  of_flags zero flags skip h = none
  of_flags (suc k) flags skip h = of_step_in_bundle (slice_get (chars flags) 0) flags skip h (flags_fault c again k) (of_flags k)

  of_flag_word : (o : Option (Text × Option Text)) (word : Text) (h : Held) → AtMostOne (flag_word_fault c again o word h)
  of_flag_word (Some p) word h = of_long (arg_by_long c p.0) p.1 h
  of_flag_word None word h = found _ (short_of word) none (λ flags. of_flags (length flags) flags h.skip (record h { skip = 0 }))

  of_positional : (a : Rule) (h : Held) → AtMostOne (if is_pending a h.pending && takes_several a then [] else settle_fault c again h)
  of_positional a h = branch (is_pending a h.pending && takes_several a) none (of_settle h)

no_subcommand : (waiting : Waiting) (word : Text) → subcommand_met [] waiting word ≡ None
no_subcommand idle word = refl
no_subcommand other word = refl

module _ (s : Shape) (leaf : s.is_leaf ≡ true) where
  of_stray : AtMostOne (stray_fault s)
  of_stray = rw leaf one

  of_other : (word : Text) (h : Held) → AtMostOne (other_fault s None word h)
  of_other word h = branch (bytes_eq word (45 ∷ 45 ∷ [])) none (of_flag_word s.rules s.args_override_self (long_of word) word h)

  of_word : (is_trailing : Bool) (waiting : Waiting) (word : Text) (h : Held) → AtMostOne (word_fault s [] is_trailing waiting word h)
  of_word is_trailing waiting word h =
      branch is_trailing none (subst (λ (o : Option Text). AtMostOne (other_fault s o word h)) (sym (no_subcommand waiting word)) (of_other word h))

  of_step : (position : ℕ) (h : Held) (step : Step) → AtMostOne (step_fault s position h step)
  of_step position h value = found _ (arg_by_index s.rules position) of_stray (λ a. of_positional s.rules s.args_override_self a h)
  of_step position h other = none

  of_turn : (w : Walk) (word : Text) → AtMostOne (turn_fault s [] w word)
  of_turn w word =
      branch (is_some w.stopped) none
      (first (of_word w.is_trailing w.waiting word w.held) (of_step w.position (word_met s.rules [] w.is_trailing w.waiting w.position word w.held).0
      (word_met s.rules [] w.is_trailing w.waiting w.position word w.held).1))

  of_walk : (w : Walk) (words : List Text) → AtMostOne (walk_fault s [] w words)
  unfolding walk_fault
  of_walk w [] = none
  of_walk w (word ∷ rest) = first (of_turn w word) (of_walk (walked s.rules [] w word) rest)

  of_default : (rows : List Row) (a : Rule) → AtMostOne (default_fault rows a)
  of_default rows a =
      branch (has_row a.id rows || is_empty a.defaults) none
      (first (of_request (action_of a)) (of_values a.ignore_case (parser_of_value a.parser) a.defaults))

  of_defaults : (rows : List Row) (rules : List Rule) → AtMostOne (defaults_fault rows rules)
  unfolding defaults_fault
  of_defaults rows [] = none
  of_defaults rows (a ∷ rest) = first (of_default rows a) (of_defaults (with_default rows a) rest)

  of_checks : (help subcommand argument : Bool) → AtMostOne (check_kinds help subcommand argument)
  of_checks help subcommand argument = branch help one (branch subcommand one (branch argument one none))

  of_level : (h : Held) (words : List Text) → AtMostOne (level_fault s [] h words false [])
  of_level h words =
      let end = (walk s.rules [] h words).held in
      first (of_walk (walk_from h) words)
      (first none (first (of_settle s.rules s.args_override_self end)
      (first (of_defaults (settled s.rules end).rows s.rules) (of_checks _ _ _))))

-- two kinds that the command may give at the same words are one
pub one_fault : (words : List Text) (a b : ErrorKind) → IsAmong a (fault_of flow_app words) → IsAmong b (fault_of flow_app words) → a ≡ b
one_fault words a b p q =
    let as_leaf = leaf_fault (built flow_app) nothing_held (argument_words flow_app words) refl in
    same_kind (fault_of flow_app words) a b (subst AtMostOne (sym as_leaf) (of_level (built flow_app).top refl nothing_held (argument_words flow_app words))) p q
