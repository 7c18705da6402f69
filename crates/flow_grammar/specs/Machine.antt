-- The push-down machine that reads a workflow text or a query, a symbol a step.
use Rattle.std.specs.Prelude.{ℕ, zero, suc, ◌+◌, Bool, true, false, nat_le, Option, Some, None, option_map, List, [], ◌∷◌, ◌++◌}
use Rattle.flow_form.specs.declared.refusal.Wanted.{Wanted}
use Rattle.flow_form.specs.declared.refusal.Wanted.TheVariants as want
use Rattle.flow_model.specs.declared.labels.Note.TheVariants.{Done, Fail, FailFirst}
use Rattle.flow_model.specs.declared.limits.TheConstants.{GREATEST_DEPTH}
use Rattle.flow_facts.specs.declared.constant.Const.{Const}
use Rattle.flow_facts.specs.declared.constant.Const.TheVariants.{Word, Number}
use Rattle.flow_facts.specs.Atom.{Atom, atom}
use Rattle.flow_form.specs.Form.{Shape, nop, named, iso}
use Rattle.flow_form.specs.RuleForm.{RuleShape, order, negated}
use Rattle.flow_form.specs.Script.{Declared, fact, event, flow, Said, Asked, holds, redundant}
use Rattle.flow_grammar.specs.Symbol.{Symbol, fact_word, event_word, flow_word, goal_word, constraint_word, nop_word, iso_word, ins_word, del_word, must_word, never_word, order_word, precedes_word, needs_word, not_word, and_word, or_word, done_word, fail_word, holds_word, redundant_word, a_name, a_number, star, bar, plus, opening, closing, comma, semicolon, equals, question, exclamation}
use Rattle.flow_grammar.specs.Grammar.{Prefix, asking, denying, adding, taking, prefixed, Single, must_come, never_come, single, Pair, preceding, needing, paired, goals, rules, list, gather}

-- what one symbol makes of a part that is being read
pub data Step (S V : Type 0) : Type 0 where
  reading : S → Step S V
  whole : V → Step S V
  stuck : Step S V

-- what it makes of the whole: within the part, or with its value after it
abbrev pub carry : {S V T : Type 0} → (S → T) → (V → T) → Step S V → Option T
carry within after (reading s) = Some (within s)
carry within after (whole x) = Some (after x)
carry within after stuck = None

-- where a name is needed
abbrev pub with_name : {T : Type 0} → (List ℕ → T) → Symbol → Option T
with_name next (a_name n) = Some (next n)
with_name next _ = None

-- The arguments of a fact

pub data ArgState : Type 0 where
  constant_needed : List ℕ → List Const → ArgState
  after_constant : List ℕ → List Const → ArgState

abbrev pub read_constant : List ℕ → List Const → Symbol → Step ArgState Atom
read_constant n args (a_name c) = reading (after_constant n (args ++ Word c ∷ []))
read_constant n args (a_number c) = reading (after_constant n (args ++ Number c ∷ []))
read_constant n args _ = stuck

abbrev pub end_constant : List ℕ → List Const → Symbol → Step ArgState Atom
end_constant n args comma = reading (constant_needed n args)
end_constant n args closing = whole (atom n args)
end_constant n args _ = stuck

abbrev pub step_arg : ArgState → Symbol → Step ArgState Atom
step_arg (constant_needed n args) t = read_constant n args t
step_arg (after_constant n args) t = end_constant n args t

-- A goal, up to its semicolon

-- the members that are whole, of the three lists that are being read
pub record Level : Type 0 where
  pub eithers : List Shape
  pub besides : List Shape
  pub serials : List Shape

abbrev pub level : List Shape → List Shape → List Shape → Level
level es bs ss = record { eithers = es; besides = bs; serials = ss }

abbrev pub push : Level → Shape → Level
push l s = level l.eithers l.besides (l.serials ++ s ∷ [])

abbrev pub close_serial : Level → Level
close_serial l = level l.eithers (l.besides ++ gather (list goals 0) l.serials ∷ []) []

abbrev pub close_beside : Level → Level
close_beside l = level (l.eithers ++ gather (list goals 1) (close_serial l).besides ∷ []) [] []

abbrev pub close : Level → Shape
close l = gather (list goals 2) (close_beside l).eithers

-- an open parenthesis, with the lists that stand outside it
pub data Frame : Type 0 where
  parenthesis : Level → Frame
  isolation : Level → Frame

abbrev pub wrap : Frame → Shape → Level
wrap (parenthesis l) s = push l s
wrap (isolation l) s = push l (iso s)

pub data GoalState : Type 0 where
  atom_needed : List Frame → Level → GoalState
  after_atom : List Frame → Level → GoalState
  opening_needed : List Frame → Level → GoalState
  fact_needed : Prefix → List Frame → Level → GoalState
  after_relation : Prefix → List ℕ → List Frame → Level → GoalState
  in_args : Prefix → ArgState → List Frame → Level → GoalState

abbrev pub goal_start : GoalState
goal_start = atom_needed [] (level [] [] [])

abbrev pub GoalStep : Type 0
GoalStep = Step GoalState Shape

abbrev pub start_atom : List Frame → Level → Symbol → GoalStep
start_atom fs l nop_word = reading (after_atom fs (push l nop))
start_atom fs l (a_name n) = reading (after_atom fs (push l (named n)))
start_atom fs l question = reading (fact_needed asking fs l)
start_atom fs l exclamation = reading (fact_needed denying fs l)
start_atom fs l ins_word = reading (fact_needed adding fs l)
start_atom fs l del_word = reading (fact_needed taking fs l)
start_atom fs l iso_word = reading (opening_needed fs l)
start_atom fs l opening = reading (atom_needed (parenthesis l ∷ fs) (level [] [] []))
start_atom fs l _ = stuck

abbrev pub join_atom : List Frame → Level → Symbol → GoalStep
join_atom fs l star = reading (atom_needed fs l)
join_atom fs l bar = reading (atom_needed fs (close_serial l))
join_atom fs l plus = reading (atom_needed fs (close_beside l))
join_atom [] l semicolon = whole (close l)
join_atom (f ∷ fs) l closing = reading (after_atom fs (wrap f (close l)))
join_atom _ _ _ = stuck

abbrev pub open_iso : List Frame → Level → Symbol → GoalStep
open_iso fs l opening = reading (atom_needed (isolation l ∷ fs) (level [] [] []))
open_iso fs l _ = stuck

abbrev pub name_relation : Prefix → List Frame → Level → Symbol → GoalStep
name_relation p fs l (a_name n) = reading (after_relation p n fs l)
name_relation p fs l _ = stuck

abbrev pub open_args : Prefix → List ℕ → List Frame → Level → Symbol → GoalStep
open_args p n fs l opening = reading (in_args p (constant_needed n []) fs l)
open_args p n fs l t = join_atom fs (push l (prefixed p (atom n []))) t

abbrev pub after_arg : Prefix → List Frame → Level → Step ArgState Atom → GoalStep
after_arg p fs l (reading a) = reading (in_args p a fs l)
after_arg p fs l (whole f) = reading (after_atom fs (push l (prefixed p f)))
after_arg p fs l stuck = stuck

abbrev pub step_goal : GoalState → Symbol → GoalStep
step_goal (atom_needed fs l) t = start_atom fs l t
step_goal (after_atom fs l) t = join_atom fs l t
step_goal (opening_needed fs l) t = open_iso fs l t
step_goal (fact_needed p fs l) t = name_relation p fs l t
step_goal (after_relation p n fs l) t = open_args p n fs l t
step_goal (in_args p a fs l) t = after_arg p fs l (step_arg a t)

-- in how many parentheses the next symbol stands
abbrev pub height : List Frame → ℕ
height [] = 0
height (f ∷ fs) = suc (height fs)

abbrev pub depth_goal : GoalState → ℕ
depth_goal (atom_needed fs l) = height fs
depth_goal (after_atom fs l) = height fs
depth_goal (opening_needed fs l) = height fs
depth_goal (fact_needed p fs l) = height fs
depth_goal (after_relation p n fs l) = height fs
depth_goal (in_args p a fs l) = suc (height fs)

-- A rule, up to its semicolon

-- the members that are whole, of the two lists that are being read
pub record RuleLevel : Type 0 where
  pub anys : List RuleShape
  pub alls : List RuleShape

abbrev pub rule_level : List RuleShape → List RuleShape → RuleLevel
rule_level ys ls = record { anys = ys; alls = ls }

abbrev pub push_rule : RuleLevel → RuleShape → RuleLevel
push_rule l r = rule_level l.anys (l.alls ++ r ∷ [])

abbrev pub close_all : RuleLevel → RuleLevel
close_all l = rule_level (l.anys ++ gather (list rules 0) l.alls ∷ []) []

abbrev pub close_rule : RuleLevel → RuleShape
close_rule l = gather (list rules 1) (close_all l).anys

-- an open parenthesis, with the lists that stand outside it and the nots directly before it
pub data RuleFrame : Type 0 where
  rule_parenthesis : RuleLevel → ℕ → RuleFrame

-- under so many nots
abbrev pub negate : ℕ → RuleShape → RuleShape
negate zero r = r
negate (suc k) r = negate k (negated r)

abbrev pub wrap_rule : RuleFrame → RuleShape → RuleLevel
wrap_rule (rule_parenthesis l k) r = push_rule l (negate k r)

-- names that are still to be read
pub data Names : Type 0 where
  one : Single → Names
  two : Pair → Names
  second : Pair → List ℕ → Names
  two_or_more : Names
  one_or_more : List ℕ → Names

pub data RuleState : Type 0 where
  unit_needed : List RuleFrame → RuleLevel → ℕ → RuleState
  after_unit : List RuleFrame → RuleLevel → RuleState
  name_needed : Names → List RuleFrame → RuleLevel → ℕ → RuleState
  after_names : List (List ℕ) → List RuleFrame → RuleLevel → ℕ → RuleState

abbrev pub rule_start : RuleState
rule_start = unit_needed [] (rule_level [] []) 0

abbrev pub RuleStep : Type 0
RuleStep = Step RuleState RuleShape

abbrev pub start_unit : List RuleFrame → RuleLevel → ℕ → Symbol → RuleStep
start_unit fs l k not_word = reading (unit_needed fs l (suc k))
start_unit fs l k opening = reading (unit_needed (rule_parenthesis l k ∷ fs) (rule_level [] []) 0)
start_unit fs l k must_word = reading (name_needed (one must_come) fs l k)
start_unit fs l k never_word = reading (name_needed (one never_come) fs l k)
start_unit fs l k order_word = reading (name_needed two_or_more fs l k)
start_unit fs l k precedes_word = reading (name_needed (two preceding) fs l k)
start_unit fs l k needs_word = reading (name_needed (two needing) fs l k)
start_unit fs l k _ = stuck

abbrev pub join_unit : List RuleFrame → RuleLevel → Symbol → RuleStep
join_unit fs l and_word = reading (unit_needed fs l 0)
join_unit fs l or_word = reading (unit_needed fs (close_all l) 0)
join_unit [] l semicolon = whole (close_rule l)
join_unit (f ∷ fs) l closing = reading (after_unit fs (wrap_rule f (close_rule l)))
join_unit _ _ _ = stuck

abbrev pub take_name : Names → List RuleFrame → RuleLevel → ℕ → List ℕ → RuleState
take_name (one s) fs l k n = after_unit fs (push_rule l (negate k (single s n)))
take_name (two p) fs l k n = name_needed (second p n) fs l k
take_name (second p a) fs l k n = after_unit fs (push_rule l (negate k (paired p a n)))
take_name two_or_more fs l k n = name_needed (one_or_more n) fs l k
take_name (one_or_more a) fs l k n = after_names (a ∷ n ∷ []) fs l k

abbrev pub read_name : Names → List RuleFrame → RuleLevel → ℕ → Symbol → RuleStep
read_name names fs l k (a_name n) = reading (take_name names fs l k n)
read_name names fs l k _ = stuck

abbrev pub more_names : List (List ℕ) → List RuleFrame → RuleLevel → ℕ → Symbol → RuleStep
more_names ns fs l k (a_name n) = reading (after_names (ns ++ n ∷ []) fs l k)
more_names ns fs l k t = join_unit fs (push_rule l (negate k (order ns))) t

abbrev pub step_rule : RuleState → Symbol → RuleStep
step_rule (unit_needed fs l k) t = start_unit fs l k t
step_rule (after_unit fs l) t = join_unit fs l t
step_rule (name_needed names fs l k) t = read_name names fs l k t
step_rule (after_names ns fs l k) t = more_names ns fs l k t

-- so many more
abbrev pub nots_in : ℕ → ℕ → ℕ
nots_in zero d = d
nots_in (suc k) d = suc (nots_in k d)

abbrev pub rule_height : List RuleFrame → ℕ
rule_height [] = 0
rule_height (rule_parenthesis l k ∷ fs) = suc (nots_in k (rule_height fs))

-- in how many parentheses and nots a `(` or `not` stands that comes next
abbrev pub depth_rule : RuleState → ℕ
depth_rule (unit_needed fs l k) = nots_in k (rule_height fs)
depth_rule (after_unit fs l) = rule_height fs
depth_rule (name_needed names fs l k) = nots_in k (rule_height fs)
depth_rule (after_names ns fs l k) = rule_height fs

-- A whole text

pub data State : Type 0 where
  declaration_needed : List Declared → State
  fact_to_declare : List Declared → State
  after_declared_relation : List Declared → List ℕ → State
  in_declared_args : List Declared → ArgState → State
  after_fact : List Declared → State
  event_to_declare : List Declared → State
  after_event : List Declared → List ℕ → State
  after_fail : List Declared → List ℕ → State
  after_noted : List Declared → State
  flow_to_declare : List Declared → State
  equals_needed : List Declared → List ℕ → State
  in_flow : List Declared → List ℕ → GoalState → State
  in_goal : List Declared → GoalState → State
  constraint_needed : List Declared → Shape → List RuleShape → State
  in_constraint : List Declared → Shape → List RuleShape → RuleState → State

abbrev pub script_start : State
script_start = declaration_needed []

abbrev pub start_declaration : List Declared → Symbol → Option State
start_declaration ds fact_word = Some (fact_to_declare ds)
start_declaration ds event_word = Some (event_to_declare ds)
start_declaration ds flow_word = Some (flow_to_declare ds)
start_declaration ds goal_word = Some (in_goal ds goal_start)
start_declaration ds _ = None

-- after an item, where the next one of its kind is read by `again`
abbrev pub join_item : (List Declared → State) → List Declared → Symbol → Option State
join_item again ds comma = Some (again ds)
join_item again ds semicolon = Some (declaration_needed ds)
join_item again ds _ = None

abbrev pub open_declared_args : List Declared → List ℕ → Symbol → Option State
open_declared_args ds n opening = Some (in_declared_args ds (constant_needed n []))
open_declared_args ds n t = join_item fact_to_declare (ds ++ fact (atom n []) ∷ []) t

abbrev pub after_declared_arg : List Declared → Step ArgState Atom → Option State
after_declared_arg ds = carry (in_declared_args ds) (λ f. after_fact (ds ++ fact f ∷ []))

abbrev pub note_event : List Declared → List ℕ → Symbol → Option State
note_event ds n done_word = Some (after_noted (ds ++ event n Done ∷ []))
note_event ds n fail_word = Some (after_fail ds n)
note_event ds n t = join_item event_to_declare (ds ++ event n Done ∷ []) t

abbrev pub count_failures : List Declared → List ℕ → Symbol → Option State
count_failures ds n (a_number m) = Some (after_noted (ds ++ event n (FailFirst m) ∷ []))
count_failures ds n t = join_item event_to_declare (ds ++ event n Fail ∷ []) t

abbrev pub begin_flow : List Declared → List ℕ → Symbol → Option State
begin_flow ds n equals = Some (in_flow ds n goal_start)
begin_flow ds n _ = None

abbrev pub after_flow_step : List Declared → List ℕ → GoalStep → Option State
after_flow_step ds n = carry (in_flow ds n) (λ s. declaration_needed (ds ++ flow n s ∷ []))

abbrev pub after_goal_step : List Declared → GoalStep → Option State
after_goal_step ds = carry (in_goal ds) (λ s. constraint_needed ds s [])

abbrev pub start_constraint : List Declared → Shape → List RuleShape → Symbol → Option State
start_constraint ds s rs constraint_word = Some (in_constraint ds s rs rule_start)
start_constraint ds s rs _ = None

abbrev pub after_rule_step : List Declared → Shape → List RuleShape → RuleStep → Option State
after_rule_step ds s rs = carry (in_constraint ds s rs) (λ x. constraint_needed ds s (rs ++ x ∷ []))

abbrev pub step_script : State → Symbol → Option State
step_script (declaration_needed ds) t = start_declaration ds t
step_script (fact_to_declare ds) t = with_name (after_declared_relation ds) t
step_script (after_declared_relation ds n) t = open_declared_args ds n t
step_script (in_declared_args ds a) t = after_declared_arg ds (step_arg a t)
step_script (after_fact ds) t = join_item fact_to_declare ds t
step_script (event_to_declare ds) t = with_name (after_event ds) t
step_script (after_event ds n) t = note_event ds n t
step_script (after_fail ds n) t = count_failures ds n t
step_script (after_noted ds) t = join_item event_to_declare ds t
step_script (flow_to_declare ds) t = with_name (equals_needed ds) t
step_script (equals_needed ds n) t = begin_flow ds n t
step_script (in_flow ds n g) t = after_flow_step ds n (step_goal g t)
step_script (in_goal ds g) t = after_goal_step ds (step_goal g t)
step_script (constraint_needed ds s rs) t = start_constraint ds s rs t
step_script (in_constraint ds s rs r) t = after_rule_step ds s rs (step_rule r t)

-- what the text says if it ends here
abbrev pub finish_script : State → Option Said
finish_script (constraint_needed ds s rs) = Some (record { decls = ds; goal = s; rules = rs })
finish_script _ = None

abbrev pub depth_script : State → ℕ
depth_script (in_declared_args ds a) = 1
depth_script (in_flow ds n g) = depth_goal g
depth_script (in_goal ds g) = depth_goal g
depth_script (in_constraint ds s rs r) = depth_rule r
depth_script _ = 0

-- A whole query

pub data QueryState : Type 0 where
  query_needed : QueryState
  in_property : RuleState → QueryState
  number_needed : QueryState
  after_number : ℕ → QueryState
  query_read : Asked → QueryState

abbrev pub start_query : Symbol → Option QueryState
start_query holds_word = Some (in_property rule_start)
start_query redundant_word = Some number_needed
start_query _ = None

abbrev pub after_property_step : RuleStep → Option QueryState
after_property_step = carry in_property (λ x. query_read (holds x))

abbrev pub read_number : Symbol → Option QueryState
read_number (a_number n) = Some (after_number n)
read_number _ = None

abbrev pub end_number : ℕ → Symbol → Option QueryState
end_number n semicolon = Some (query_read (redundant n))
end_number n _ = None

abbrev pub step_query : QueryState → Symbol → Option QueryState
step_query query_needed t = start_query t
step_query (in_property r) t = after_property_step (step_rule r t)
step_query number_needed t = read_number t
step_query (after_number n) t = end_number n t
step_query (query_read q) t = None

abbrev pub finish_query : QueryState → Option Asked
finish_query (query_read q) = Some q
finish_query _ = None

abbrev pub depth_query : QueryState → ℕ
depth_query (in_property r) = depth_rule r
depth_query _ = 0

-- The kinds: what is wanted, by where the reading stands. docs/FORMATS.md has the same table in words.

abbrev pub wanted_arg : ArgState → Wanted
-- a constant is needed
wanted_arg (constant_needed n args) = want.Constant
-- inside the parentheses of a fact, after a constant
wanted_arg (after_constant n args) = want.Closing

-- after a complete member: inside parentheses or not
abbrev pub wanted_join : {F : Type 0} → List F → Wanted
wanted_join [] = want.Semicolon
wanted_join (f ∷ fs) = want.Closing

abbrev pub wanted_goal : GoalState → Wanted
-- an atom is needed
wanted_goal (atom_needed fs l) = want.Atom
-- after `iso`
wanted_goal (opening_needed fs l) = want.Opening
-- the relation of a fact is needed
wanted_goal (fact_needed p fs l) = want.Fact
wanted_goal (in_args p a fs l) = wanted_arg a
-- after a complete member
wanted_goal (after_atom fs l) = wanted_join fs
wanted_goal (after_relation p n fs l) = wanted_join fs

abbrev pub wanted_rule : RuleState → Wanted
-- a unit of a rule is needed
wanted_rule (unit_needed fs l k) = want.Rule
-- the name of an event is needed: for `order` the first two
wanted_rule (name_needed names fs l k) = want.Name
-- after a complete member
wanted_rule (after_unit fs l) = wanted_join fs
wanted_rule (after_names ns fs l k) = wanted_join fs

abbrev pub wanted_script : State → Wanted
-- a declaration or the goal must begin
wanted_script (declaration_needed ds) = want.Declaration
-- after the goal, or a constraint
wanted_script (constraint_needed ds s rs) = want.Constraint
-- the name of an event or sub-workflow is needed
wanted_script (event_to_declare ds) = want.Name
wanted_script (flow_to_declare ds) = want.Name
-- the relation of a fact is needed
wanted_script (fact_to_declare ds) = want.Fact
wanted_script (in_declared_args ds a) = wanted_arg a
-- after the name of a sub-workflow
wanted_script (equals_needed ds n) = want.Equals
wanted_script (in_flow ds n g) = wanted_goal g
wanted_script (in_goal ds g) = wanted_goal g
wanted_script (in_constraint ds s rs r) = wanted_rule r
-- after a complete fact or event
wanted_script _ = want.Semicolon

abbrev pub wanted_query : QueryState → Wanted
-- a query must begin
wanted_query query_needed = want.Query
-- after `redundant`
wanted_query number_needed = want.Number
wanted_query (after_number n) = want.Semicolon
wanted_query (in_property r) = wanted_rule r
-- after a query
wanted_query (query_read q) = want.End

-- where the reading stands that goes on over these symbols, if each of them leads on
abbrev pub standing : {S : Type 0} → (S → Symbol → Option S) → Option S → List Symbol → Option S
standing step None ts = None
standing step (Some s) [] = Some s
standing step (Some s) (t ∷ ts) = standing step (step s t) ts

-- what is wanted after these symbols of a script, and of a query
abbrev pub script_wants : List Symbol → Option Wanted
script_wants ts = option_map wanted_script (standing step_script (Some script_start) ts)

abbrev pub query_wants : List Symbol → Option Wanted
query_wants ts = option_map wanted_query (standing step_query (Some query_needed) ts)

-- A run over a list of symbols

-- the value, or the place of the symbol (or of the end) that no text has there, with what could come,
-- or the place of the `(` or `not` that stands too deep
pub data Reading (V : Type 0) : Type 0 where
  gives : V → Reading V
  expected : Wanted → ℕ → Reading V
  too_deep : ℕ → Reading V

abbrev pub later : {V : Type 0} → Reading V → Reading V
later (gives v) = gives v
later (expected kind k) = expected kind (suc k)
later (too_deep k) = too_deep (suc k)

-- a `(` or `not` that stands inside so many others is too deep
abbrev pub is_too_deep : Symbol → ℕ → Bool
is_too_deep opening d = nat_le GREATEST_DEPTH d
is_too_deep not_word d = nat_le GREATEST_DEPTH d
is_too_deep _ d = false

-- what is read after the first i symbols, told from the beginning
abbrev pub shifted : {V : Type 0} → ℕ → Reading V → Reading V
shifted i (gives v) = gives v
shifted i (expected kind k) = expected kind (i + k)
shifted i (too_deep k) = too_deep (i + k)

abbrev pub at_end : {V : Type 0} → Option V → Wanted → Reading V
at_end (Some v) kind = gives v
at_end None kind = expected kind 0

abbrev pub go_on : {S V : Type 0} → Option S → Bool → Wanted → (S → Reading V) → Reading V
go_on None deep kind rest = expected kind 0
go_on (Some s) true kind rest = too_deep 0
go_on (Some s) false kind rest = later (rest s)

-- a step for each symbol, and what is read at the end
abbrev pub run : {S V : Type 0} → (S → Symbol → Option S) → (S → Option V) → (S → Wanted) → (S → ℕ) → S → List Symbol → Reading V
run step finish wanted depth s [] = at_end (finish s) (wanted s)
run step finish wanted depth s (t ∷ ts) =
    go_on (step s t) (is_too_deep t (depth s)) (wanted s) (λ next. run step finish wanted depth next ts)

abbrev pub run_script : State → List Symbol → Reading Said
run_script = run step_script finish_script wanted_script depth_script

abbrev pub read_script : List Symbol → Reading Said
read_script = run_script script_start

abbrev pub run_query : QueryState → List Symbol → Reading Asked
run_query = run step_query finish_query wanted_query depth_query

abbrev pub read_query : List Symbol → Reading Asked
read_query = run_query query_needed
