-- From what was read and numbered to the policy of a text, or to why it has none.
use Rattle.std.proofs.Common.{◌≡◌, ◌≢◌, ℕ, suc, ◌<◌, List, [], ◌∷◌, ◌++◌, length, take, map, fold, refl, sym, ap, ◌∙◌, subst, inl, inr, ◌⊎◌}
use Rattle.std.specs.Prelude.{Option, Some, None, Result, Ok, Err, IfOk, IfErr}
use Rattle.std.specs.List.{flat_map}
use Rattle.flow_model.specs.Lists.{◌∈◌, Each}
use Rattle.flow_model.proofs.Lists.{each_parts, each_from_members, mem_append_left, mem_append_right}
use Rattle.flow_form.specs.Script.{Said}
use Rattle.flow_form.specs.Names.{event_names}
use Rattle.flow_lex.specs.declared.token.Token.{Token}
use Rattle.flow_grammar.specs.Symbol.{Symbol, a_name}
use Rattle.flow_reader.specs.Symbols.{symbol_of, symbols_of}
use Rattle.flow_reader.specs.Reading.{place_of}
use Rattle.flow_policy.specs.declared.stage.Stage.{Stage}
use Rattle.flow_policy.specs.declared.stage.Stage.TheVariants.{StatementNeeded, RoleNeeded, UserNeeded, AllowedNeeded, EventNeeded, SeparateFirst, SeparateSecond, BindFirst, BindSecond}
use Rattle.flow_policy.specs.declared.mention.Mention.{Mention}
use Rattle.flow_policy.specs.declared.refusal.PolicyRefusal.{PolicyRefusal}
use Rattle.flow_policy.specs.declared.refusal.PolicyRefusal.TheVariants.{Expected, Unknown, NoMemory}
use Rattle.flow_policy.specs.Statement.{Part, parts}
use Rattle.flow_policy.specs.Texts.{IsCutInto, IsStuckAt}
use Rattle.flow_policy.specs.Assigned.{Assigned}
use Rattle.flow_policy.specs.Policy.{memberships, allowances, firsts, users_of, roles_of, IsKnown, numbered_member, numbered_allowance, turned, AreJust, IsPolicyOf, IsUnknownAt, IsPolicyRefusal}
use Rattle.flow_policy.specs.Stages.{Mentioned, next, behind, reached, mention_of, mentions_from}
use Rattle.flow_policy.specs.Mentions.{said_in, AreMentions, IsReadRefusal}
use Rattle.flow_policy.specs.Numbering.{user_at, role_at, Names, Numbered, nothing_numbered, with_mention, names_of, IsListed, IsFirstUnlisted, IsNumberRefusal, IsAssignedBy, IsMentionedIn}
use Rattle.flow_policy.proofs.StageLemmas.{step, trace, name_part, part_of, parts_of_all, whole_is_spelled, viable_from_reached, not_viable_from_stuck, not_spelled_from_inside}
use Rattle.flow_policy.proofs.FirstLemmas.{member_is_first}
use Rattle.flow_policy.proofs.DraftLemmas.{bare, names_are, users_are, roles_are, pairs_are}
use Rattle.flow_model.proofs.MadeLists.{mem-map}

-- what was numbered is what the names assign
pub mentioned : (ms : List Mentioned) (events : List (List ℕ)) (users : List (List ℕ)) (d : Numbered) (p : Assigned) → users ≡ (names_of ms events).users →
    d ≡ fold (with_mention (names_of ms events)) nothing_numbered ms → Each (IsListed (names_of ms events)) ms → IsAssignedBy users d p → IsMentionedIn ms events p
mentioned ms events users d p same is listed h = record {
  listed = listed;
  assigned = subst (λ u. IsAssignedBy u (fold (with_mention (names_of ms events)) nothing_numbered ms) p) same (subst (λ x. IsAssignedBy users x p) is h);
}

-- Names that are listed, and parts that are known

listed_is_known : (names : Names) (s : Stage) (p : ℕ) (n : List ℕ) → IsListed names (record { stage = s; place = p; name = n }) → IsKnown names.roles names.events (name_part s n)
listed_is_known names AllowedNeeded p n h = h
listed_is_known names EventNeeded p n h = h
listed_is_known names SeparateFirst p n h = h
listed_is_known names SeparateSecond p n h = h
listed_is_known names BindFirst p n h = h
listed_is_known names BindSecond p n h = h
listed_is_known names _ p n h = tt

-- a user, or a role that is given, is listed
abbrev Complete : Names → Mentioned → Type 0
Complete names m = from m.stage
  where
    from : Stage → Type 0
    from RoleNeeded = m.name ∈ names.roles
    from UserNeeded = m.name ∈ names.users
    from _ = Unit {0}

known_is_listed : (names : Names) (s : Stage) (p : ℕ) (n : List ℕ) → Complete names (record { stage = s; place = p; name = n }) →
    IsKnown names.roles names.events (name_part s n) → IsListed names (record { stage = s; place = p; name = n })
known_is_listed names RoleNeeded p n c k = c
known_is_listed names UserNeeded p n c k = c
known_is_listed names AllowedNeeded p n c k = k
known_is_listed names EventNeeded p n c k = k
known_is_listed names SeparateFirst p n c k = k
known_is_listed names SeparateSecond p n c k = k
known_is_listed names BindFirst p n c k = k
known_is_listed names BindSecond p n c k = k
known_is_listed names _ p n c k = tt

mem-flat_map : {A B : Type 0} (f : A → List B) (x : B) (a : A) (list : List A) → x ∈ f a → a ∈ list → x ∈ flat_map f list
mem-flat_map f x a [] h m = absurd m
mem-flat_map f x a (b ∷ list) h (inl e) = mem_append_left x (f b) (flat_map f list) (subst (λ y. x ∈ f y) e h)
mem-flat_map f x a (b ∷ list) h (inr m) = mem_append_right x (f b) (flat_map f list) (mem-flat_map f x a list h m)

complete_one : (ms : List Mentioned) (events : List (List ℕ)) (s : Stage) (p : ℕ) (n : List ℕ) → record { stage = s; place = p; name = n } ∈ ms →
    Complete (names_of ms events) (record { stage = s; place = p; name = n })
complete_one ms events RoleNeeded p n m = member_is_first (flat_map role_at ms) n (mem-flat_map role_at n (record { stage = RoleNeeded; place = p; name = n }) ms (inl refl) m)
complete_one ms events UserNeeded p n m = member_is_first (flat_map user_at ms) n (mem-flat_map user_at n (record { stage = UserNeeded; place = p; name = n }) ms (inl refl) m)
complete_one ms events _ p n m = tt

all_complete : (ms : List Mentioned) (events : List (List ℕ)) → Each (Complete (names_of ms events)) ms
all_complete ms events = each_from_members (Complete (names_of ms events)) ms (λ m k. complete_one ms events m.stage m.place m.name k)

one_known : (names : Names) (s : Stage) (p : ℕ) (t : Symbol) → Each (IsListed names) (mention_of s p t) → IsKnown names.roles names.events (part_of (step s t))
one_known names s p (a_name n) h = listed_is_known names s p n h.0
one_known names s p _ h = tt

known_behind : (names : Names) (text : List ℕ) (ts : List Token) (o : Option Stage) → Each (IsListed names) (behind [] o (λ q. mentions_from text q ts)) →
    ((q : Stage) → Each (IsListed names) (mentions_from text q ts) → Each (IsKnown names.roles names.events) (map part_of (trace q (symbols_of text ts)))) →
    Each (IsKnown names.roles names.events) (map part_of (behind [] o (λ q. trace q (symbols_of text ts))))
known_behind names text ts None h later = tt
known_behind names text ts (Some q) h later = later q h

all_known : (names : Names) (text : List ℕ) (s : Stage) (ts : List Token) → Each (IsListed names) (mentions_from text s ts) →
    Each (IsKnown names.roles names.events) (map part_of (trace s (symbols_of text ts)))
all_known names text s [] h = tt
all_known names text s (t ∷ ts) h =
    let (here, rest) = each_parts (IsListed names) (mention_of s t.start (symbol_of text t)) (behind [] (next s (symbol_of text t)) (λ q. mentions_from text q ts)) h in
    (one_known names s t.start (symbol_of text t) here, known_behind names text ts (next s (symbol_of text t)) rest (λ q. all_known names text q ts))

-- The first name that is not listed is the first part that is not known

abbrev FirstUnlisted : Names → Mentioned → List Mentioned → Type 0
FirstUnlisted names here [] = ⊥
FirstUnlisted names here (m ∷ ms) = ((here ≡ m) × ¬ IsListed names m) ⊎ (IsListed names m × FirstUnlisted names here ms)

from_cut : (names : Names) (front : List Mentioned) (here : Mentioned) (back : List Mentioned) → ¬ IsListed names here → Each (IsListed names) front → FirstUnlisted names here (front ++ here ∷ back)
from_cut names [] here back bad h = inl (refl, bad)
from_cut names (m ∷ front) here back bad h = inr (h.0, from_cut names front here back bad h.1)

record Found (names : Names) (text : List ℕ) (ts : List Token) (place : ℕ) (ps : List Part) : Type 0 where
  front : List Part
  part : Part
  back : List Part
  parted : ps ≡ front ++ part ∷ back
  there : place ≡ place_of text ts (length front)
  unknown : ¬ IsKnown names.roles names.events part
  first : Each (IsKnown names.roles names.events) front

found_more : (names : Names) (text : List ℕ) (t : Token) (ts : List Token) (place : ℕ) (p : Part) (ps : List Part) → IsKnown names.roles names.events p →
    Found names text ts place ps → Found names text (t ∷ ts) place (p ∷ ps)
found_more names text t ts place p ps k f =
    record { front = p ∷ f.front; part = f.part; back = f.back; parted = ap (λ l. p ∷ l) f.parted; there = f.there; unknown = f.unknown; first = (k, f.first) }

at_symbol : (names : Names) (text : List ℕ) (s : Stage) (t : Token) (ts : List Token) (y : Symbol) (here : Mentioned) (rest : List Mentioned) (ps : List Part) →
    (FirstUnlisted names here rest → Each (Complete names) rest → Found names text ts here.place ps) →
    FirstUnlisted names here (mention_of s t.start y ++ rest) → Each (Complete names) (mention_of s t.start y ++ rest) → Found names text (t ∷ ts) here.place (part_of (step s y) ∷ ps)
at_symbol names text s t ts (a_name n) here rest ps later (inl (same, bad)) c =
    record { front = []; part = name_part s n; back = ps; parted = refl; there = ap (λ (m : Mentioned). m.place) same; unknown = λ k. bad (known_is_listed names s t.start n c.0 k); first = tt }
at_symbol names text s t ts (a_name n) here rest ps later (inr (ok, h)) c =
    found_more names text t ts here.place (name_part s n) ps (listed_is_known names s t.start n ok) (later h c.1)
at_symbol names text s t ts y here rest ps later h c = found_more names text t ts here.place (part_of (step s y)) ps tt (later h c)

found_behind : (names : Names) (text : List ℕ) (ts : List Token) (here : Mentioned) (o : Option Stage) →
    ((q : Stage) → FirstUnlisted names here (mentions_from text q ts) → Each (Complete names) (mentions_from text q ts) → Found names text ts here.place (map part_of (trace q (symbols_of text ts)))) →
    FirstUnlisted names here (behind [] o (λ q. mentions_from text q ts)) → Each (Complete names) (behind [] o (λ q. mentions_from text q ts)) →
    Found names text ts here.place (map part_of (behind [] o (λ q. trace q (symbols_of text ts))))
found_behind names text ts here None later h c = absurd h
found_behind names text ts here (Some q) later h c = later q h c

find_unknown : (names : Names) (text : List ℕ) (here : Mentioned) (s : Stage) (ts : List Token) → FirstUnlisted names here (mentions_from text s ts) →
    Each (Complete names) (mentions_from text s ts) → Found names text ts here.place (map part_of (trace s (symbols_of text ts)))
find_unknown names text here s [] h c = absurd h
find_unknown names text here s (t ∷ ts) h c =
    at_symbol names text s t ts (symbol_of text t) here (behind [] (next s (symbol_of text t)) (λ q. mentions_from text q ts)) _
    (found_behind names text ts here (next s (symbol_of text t)) (λ q. find_unknown names text here q ts)) h c

-- The answers

turn_back : (p : ℕ × ℕ) (xs : List (ℕ × ℕ)) → turned p ∈ map turned xs → p ∈ xs
turn_back p [] m = absurd m
turn_back p (x ∷ xs) (inl e) = inl (ap turned e)
turn_back p (x ∷ xs) (inr m) = inr (turn_back p xs m)

just_turned : (xs ys : List (ℕ × ℕ)) → AreJust (map turned xs) (map turned ys) → AreJust xs ys
just_turned xs ys h = record {
  none_else = λ p m. turn_back p ys (h.none_else (turned p) (mem-map turned p xs m));
  all = λ p m. turn_back p xs (h.all (turned p) (mem-map turned p ys m));
}

pub policy_is : (text : List ℕ) (s : Said) (tokens : List Token) (mentions : List Mention) (p : Assigned) → IsCutInto text tokens → AreMentions text tokens mentions →
    IsMentionedIn (map said_in mentions) (event_names s.decls) p → IsPolicyOf text s p
policy_is text s tokens mentions p cut read h =
    let ms = map said_in mentions in
    let events = event_names s.decls in
    let names = names_of ms events in
    let (sts, same, spelled) = whole_is_spelled (symbols_of text tokens) read.whole in
    let bared = ap (map bare) read.said ∙ names_are text tokens sts same in
    let users_same : names.users ≡ users_of sts = ap firsts (users_are ms sts bared) in
    let roles_same : names.roles ≡ roles_of sts = ap firsts (roles_are ms sts bared) in
    let adds = pairs_are names nothing_numbered ms sts bared in
    let a = h.assigned in
    let parts_same : map part_of (trace StatementNeeded (symbols_of text tokens)) ≡ flat_map parts sts = ap (map part_of) same ∙ parts_of_all sts in
    let known = all_known names text StatementNeeded tokens (subst (Each (IsListed names)) read.said h.listed) in
    record {
      statements = sts;
      says = record { tokens = tokens; cut = cut; spelled = spelled };
      known = subst (λ l. Each (IsKnown (roles_of sts) events) l) parts_same
          (subst (λ r. Each (IsKnown r events) (map part_of (trace StatementNeeded (symbols_of text tokens)))) roles_same known);
      users_are = a.users_are ∙ users_same;
      members_rise = a.members_rise;
      members_are = subst (AreJust p.duties.members) (adds.members ∙ (λ i. map (numbered_member (users_same i) (roles_same i)) (flat_map memberships sts))) a.members_are;
      allowed_rise = a.allowed_rise;
      allowed_are = just_turned p.duties.allowed (map (numbered_allowance (roles_of sts) events) (flat_map allowances sts))
          (subst (AreJust (map turned p.duties.allowed)) (adds.allowed ∙ (λ i. map turned (map (numbered_allowance (roles_same i) events) (flat_map allowances sts)))) a.allowed_are);
      separate_are = a.separate_are ∙ adds.separate;
      bound_are = a.bound_are ∙ adds.bound;
    }

pub unknown_is : (text : List ℕ) (s : Said) (tokens : List Token) (mentions : List Mention) (place : ℕ) → IsCutInto text tokens → AreMentions text tokens mentions →
    IsFirstUnlisted (names_of (map said_in mentions) (event_names s.decls)) (map said_in mentions) place → IsUnknownAt text s place
unknown_is text s tokens mentions place cut read u =
    let ms = map said_in mentions in
    let events = event_names s.decls in
    let names = names_of ms events in
    let (sts, same, spelled) = whole_is_spelled (symbols_of text tokens) read.whole in
    let roles_same : names.roles ≡ roles_of sts = ap firsts (roles_are ms sts (ap (map bare) read.said ∙ names_are text tokens sts same)) in
    let first = subst (FirstUnlisted names u.here) (sym u.cut ∙ read.said) (from_cut names u.front u.here u.back u.unlisted u.first) in
    let complete = subst (Each (Complete names)) read.said (all_complete ms events) in
    let f = find_unknown names text u.here StatementNeeded tokens first complete in
    record {
      tokens = tokens;
      cut = cut;
      statements = sts;
      spelled = spelled;
      front = f.front;
      part = f.part;
      back = f.back;
      parted = sym (ap (map part_of) same ∙ parts_of_all sts) ∙ f.parted;
      there = u.there ∙ f.there;
      unknown = λ k. f.unknown (subst (λ r. IsKnown r events f.part) (sym roles_same) k);
      first = subst (λ r. Each (IsKnown r events) f.front) roles_same f.first;
    }

pub number_refusal : (text : List ℕ) (s : Said) (tokens : List Token) (mentions : List Mention) (refusal : PolicyRefusal) → IsCutInto text tokens → AreMentions text tokens mentions →
    IsNumberRefusal (names_of (map said_in mentions) (event_names s.decls)) (map said_in mentions) refusal → IsPolicyRefusal text s refusal
number_refusal text s tokens mentions (Unknown place) cut read u = unknown_is text s tokens mentions place cut read u
number_refusal text s tokens mentions NoMemory cut read u = tt
number_refusal text s tokens mentions _ cut read u = absurd u

take_whole : {A : Type 0} (l : List A) → take (length l) l ≡ l
take_whole [] = refl
take_whole (x ∷ l) = ap (λ m. x ∷ m) (take_whole l)

stuck_is : (ts : List Symbol) (k : ℕ) (stage : Stage) → reached StatementNeeded (take k ts) ≡ Some stage →
    (k < length ts) × (reached StatementNeeded (take (suc k) ts) ≡ None) ⊎ (k ≡ length ts) × (stage ≢ StatementNeeded) → IsStuckAt ts k
stuck_is ts k stage so_far (inl (lt, none)) = (viable_from_reached (take k ts) stage so_far, inl (lt, not_viable_from_stuck (take (suc k) ts) none))
stuck_is ts k stage so_far (inr (end, other)) = (
  viable_from_reached (take k ts) stage so_far,
  inr (end, not_spelled_from_inside ts stage (ap (reached StatementNeeded) (sym (ap (λ n. take n ts) end ∙ take_whole ts)) ∙ so_far) other),
)

pub read_refusal : (text : List ℕ) (s : Said) (tokens : List Token) (refusal : PolicyRefusal) → IsCutInto text tokens → IsReadRefusal text tokens refusal → IsPolicyRefusal text s refusal
read_refusal text s tokens (Expected place) cut h =
    record { tokens = tokens; cut = cut; number = h.number; there = h.there; stuck = stuck_is (symbols_of text tokens) h.number h.stage h.so_far h.no_further }
read_refusal text s tokens NoMemory cut h = tt
read_refusal text s tokens _ cut h = absurd h
