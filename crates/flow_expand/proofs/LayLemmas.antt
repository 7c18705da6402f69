-- Goals in a layout that grows, and what is written there.
use Rattle.std.proofs.Common.{◌≡◌, ℕ, ◌+◌, ◌<◌, List, [], ◌∷◌, ◌++◌, length, slice_get, Some, refl, sym, ap, ◌∙◌, subst, arith, map, fold, get_or, take, Option, None, inl, inr, ⊎_elim, Result, Ok, Err}
use Rattle.std.proofs.lemmas.Option.{slice_get_within}
use Rattle.std.specs.Prelude.{MatchOption}
use Rattle.std.specs.Result.{IfOk}
use Rattle.std.proofs.lemmas.List.{append_assoc, map_more}
use Rattle.flow_model.specs.Process.{Task}
use Rattle.flow_model.specs.Lists.{◌∈◌, Begins, Each}
use Rattle.flow_laws.proofs.Shuffles.{of_shuffle}
use Rattle.flow_facts.specs.Atom.{Atom}
use Rattle.flow_model.specs.declared.operators.Operator.{Operator}
use Rattle.flow_model.specs.declared.operators.Operator.TheVariants as how
use Rattle.flow_goal.specs.Goal.{together}
use Rattle.flow_workflow.proofs.Places.{at_end}
use Rattle.flow_form.specs.declared.form.Form.{Form}
use Rattle.flow_form.specs.Form.{Shape, Shapes, shapes, shape_of, no_more, named, iso}
use Rattle.flow_form.specs.Script.{Declared}
use Rattle.flow_form.specs.Names.{event_names, declared_names}
use Rattle.flow_model.specs.declared.labels.Deed.{Deed}
use Rattle.flow_expand.specs.declared.layout.Piece.{Piece}
use Rattle.flow_expand.specs.declared.layout.Root.{Root}
use Rattle.flow_expand.specs.Expansion.{Expansion, nothing, happens, alone, ends_in, isolations_in, capped, sizes_of, joined, Becomes, AllBecome, none_becomes, more_become, becomes_flow, becomes_iso, becomes_serial, becomes_beside, becomes_either}
use Rattle.flow_expand.specs.Numbers.{facts_in, fact_number, labels_of, leaf_count, numbered}
use Rattle.flow_expand.specs.Layout.{IsPlaced, placed_nothing, placed_event, placed_fact, placed_pair, placed_alone, IsPlain, IsRoot, paired, fact_leaf, label_of}
use Rattle.flow_expand.specs.declared.directory.Directory.{Directory}
use Rattle.flow_expand.specs.declared.lay.Stage.{Stage}
use Rattle.flow_expand.specs.Steps.{flows_of}
use Rattle.flow_expand.specs.Directory.{IsDirectory, decls_of, found_in}
use Rattle.flow_expand.specs.Lay.{Goes, ListGoes, IsFront, IsLaid, IsLaidAt, IsSettled, list_shape}
use Rattle.flow_model.specs.declared.labels.Deed.TheVariants as deed
use Rattle.flow_expand.specs.declared.layout.Piece.TheVariants as piece
use Rattle.flow_expand.specs.declared.lay.Stage.TheVariants as stage
use Rattle.flow_model.proofs.Lists.{slice_get_append_left, mem-slice_get}
use Rattle.flow_expand.proofs.Declarations.{in_flows, names_split, found_none, flow_found}

-- a leaf with a fact, whichever it is
pub record IsFactLeaf (d : Deed) : Type 0 where
  pub sizes : (a : Atom) → sizes_of (fact_leaf d a) ≡ record { ends = 1; isolations = 0 }
  pub facts : (a : Atom) → facts_in (fact_leaf d a) ≡ a ∷ []
  pub labels : (events : List (List ℕ)) (facts : List Atom) (a : Atom) → labels_of events facts (fact_leaf d a) ≡ label_of d (fact_number facts a) ∷ []
  pub task : (next : ℕ) (a : Atom) → numbered next (fact_leaf d a) ≡ Task next

pub fact_kind : (d : Deed) → IsFactLeaf d
fact_kind deed.Test = record { sizes = λ a. refl; facts = λ a. refl; labels = λ events facts a. refl; task = λ next a. refl }
fact_kind deed.Absent = record { sizes = λ a. refl; facts = λ a. refl; labels = λ events facts a. refl; task = λ next a. refl }
fact_kind deed.Ins = record { sizes = λ a. refl; facts = λ a. refl; labels = λ events facts a. refl; task = λ next a. refl }
fact_kind deed.Del = record { sizes = λ a. refl; facts = λ a. refl; labels = λ events facts a. refl; task = λ next a. refl }

-- two goals together, however they are
pub record ArePaired (by : Operator) (a b : Expansion) : Type 0 where
  pub sizes : sizes_of (paired by a b) ≡ record { ends = capped (ends_in a + ends_in b); isolations = capped (isolations_in a + isolations_in b) }
  pub facts : facts_in (paired by a b) ≡ facts_in a ++ facts_in b
  pub labels : (events : List (List ℕ)) (facts : List Atom) → labels_of events facts (paired by a b) ≡ labels_of events facts a ++ labels_of events facts b
  pub leaves : leaf_count (paired by a b) ≡ leaf_count a + leaf_count b
  pub numbers : (next : ℕ) → numbered next (paired by a b) ≡ together by (numbered next a) (numbered (next + leaf_count a) b)

pub pair_kind : (by : Operator) (a b : Expansion) → ArePaired by a b
pair_kind how.Serial a b = record { sizes = refl; facts = refl; labels = λ events facts. refl; leaves = refl; numbers = λ next. refl }
pair_kind how.Beside a b = record { sizes = refl; facts = refl; labels = λ events facts. refl; leaves = refl; numbers = λ next. refl }
pair_kind how.Either a b = record { sizes = refl; facts = refl; labels = λ events facts. refl; leaves = refl; numbers = λ next. refl }

-- what stands in a layout stands in a longer one
pub placed_more : (layout more : List Piece) (events : List (List ℕ)) (e : Expansion) (i : ℕ) → IsPlaced layout events e i → IsPlaced (layout ++ more) events e i
placed_more layout more events e i (placed_nothing {i = p} at) = placed_nothing (slice_get_append_left layout more p piece.Nop at)
placed_more layout more events e i (placed_event {i = p} {k = k} {n = n} at there) = placed_event (slice_get_append_left layout more p (piece.Event k) at) there
placed_more layout more events e i (placed_fact {i = p} {d = d} {f = f} at) = placed_fact (slice_get_append_left layout more p (piece.Fact d f) at)
placed_more layout more events e i (placed_pair {i = p} {j = j} {k = k} {by = by} {a = a} {b = b} at l m x y) =
    placed_pair (slice_get_append_left layout more p (piece.Pair by j k) at) l m (placed_more layout more events a j x) (placed_more layout more events b k y)
placed_more layout more events e i (placed_alone {i = p} {j = j} {a = a} at l x) = placed_alone (slice_get_append_left layout more p (piece.Iso j) at) l (placed_more layout more events a j x)

-- what stands in a layout stands below its end
pub placed_below : (layout : List Piece) (events : List (List ℕ)) (e : Expansion) (i : ℕ) → IsPlaced layout events e i → i < length layout
placed_below layout events e i (placed_nothing {i = p} at) = slice_get_within layout p piece.Nop at
placed_below layout events e i (placed_event {i = p} {k = k} {n = n} at there) = slice_get_within layout p (piece.Event k) at
placed_below layout events e i (placed_fact {i = p} {d = d} {f = f} at) = slice_get_within layout p (piece.Fact d f) at
placed_below layout events e i (placed_pair {i = p} {j = j} {k = k} {by = by} {a = a} {b = b} at l m x y) = slice_get_within layout p (piece.Pair by j k) at
placed_below layout events e i (placed_alone {i = p} {j = j} {a = a} at l x) = slice_get_within layout p (piece.Iso j) at

-- the goal that a piece stands for
abbrev pub IsGoalOf : List Piece → List (List ℕ) → ℕ → Piece → Expansion → Type 0
IsGoalOf layout events i piece.Nop e = IsPlain events piece.Nop e
IsGoalOf layout events i (piece.Event k) e = IsPlain events (piece.Event k) e
IsGoalOf layout events i (piece.Fact d f) e = IsPlain events (piece.Fact d f) e
IsGoalOf layout events i (piece.Pair by j k) e = (a b : Expansion) × (e ≡ paired by a b) × (j < i) × (k < i) × (IsPlaced layout events a j × IsPlaced layout events b k)
IsGoalOf layout events i (piece.Iso j) e = (a : Expansion) × (e ≡ alone a) × (j < i) × IsPlaced layout events a j

module _ (layout : List Piece) (events : List (List ℕ)) where
  same_piece : (i : ℕ) (q p : Piece) → slice_get layout i ≡ Some q → slice_get layout i ≡ Some p → q ≡ p
  same_piece i q p e f = let g : Some q ≡ Some p = sym e ∙ f in cc

  pub goal_of : (i : ℕ) (p : Piece) (e : Expansion) → slice_get layout i ≡ Some p → IsPlaced layout events e i → IsGoalOf layout events i p e
  goal_of i p e at (placed_nothing {i = x} here) = subst (λ q. IsGoalOf layout events x q nothing) (same_piece x piece.Nop p here at) refl
  goal_of i p e at (placed_event {i = x} {k = k} {n = n} here there) =
      subst (λ q. IsGoalOf layout events x q (happens n)) (same_piece x (piece.Event k) p here at) (n, refl, there)
  goal_of i p e at (placed_fact {i = x} {d = d} {f = f} here) =
      subst (λ q. IsGoalOf layout events x q (fact_leaf d f.now)) (same_piece x (piece.Fact d f) p here at) refl
  goal_of i p e at (placed_pair {i = x} {j = j} {k = k} {by = by} {a = a} {b = b} here l m y z) =
      subst (λ q. IsGoalOf layout events x q (paired by a b)) (same_piece x (piece.Pair by j k) p here at) (a, b, refl, l, m, (y, z))
  goal_of i p e at (placed_alone {i = x} {j = j} {a = a} here l y) =
      subst (λ q. IsGoalOf layout events x q (alone a)) (same_piece x (piece.Iso j) p here at) (a, refl, l, y)

-- the piece just put in

put_at : (old : List Piece) (p : Piece) (i : ℕ) → i ≡ length old → slice_get (old ++ p ∷ []) i ≡ Some p
put_at old p i at = ap (slice_get (old ++ p ∷ [])) at ∙ at_end old p

plain_placed : (layout : List Piece) (events : List (List ℕ)) (p : Piece) (i : ℕ) (e : Expansion) → slice_get layout i ≡ Some p → IsPlain events p e → IsPlaced layout events e i
plain_placed layout events piece.Nop i e at h = subst (λ g. IsPlaced layout events g i) (sym h) (placed_nothing at)
plain_placed layout events (piece.Event k) i e at (n, h, there) = subst (λ g. IsPlaced layout events g i) (sym h) (placed_event at there)
plain_placed layout events (piece.Fact d f) i e at h = subst (λ g. IsPlaced layout events g i) (sym h) (placed_fact at)
plain_placed layout events (piece.Pair by j k) i e at h = absurd h
plain_placed layout events (piece.Iso j) i e at h = absurd h

plain_sized : (events : List (List ℕ)) (p : Piece) (e : Expansion) → IsPlain events p e → sizes_of e ≡ record { ends = 1; isolations = 0 }
plain_sized events piece.Nop e h = ap sizes_of h
plain_sized events (piece.Event k) e (n, h, there) = ap sizes_of h
plain_sized events (piece.Fact d f) e h = ap sizes_of h ∙ (fact_kind d).sizes f.now
plain_sized events (piece.Pair by j k) e h = absurd h
plain_sized events (piece.Iso j) e h = absurd h

pub end_root : (old new : List Piece) (p : Piece) (root : Root) → new ≡ old ++ p ∷ [] → root.place ≡ length old → root.size ≡ record { ends = 1; isolations = 0 } →
    (events : List (List ℕ)) (e : Expansion) → IsPlain events p e → IsRoot new events e root
end_root old new p root grown at size events e h = record {
  placed = subst (λ l. IsPlaced l events e root.place) (sym grown) (plain_placed (old ++ p ∷ []) events p root.place e (put_at old p root.place at) h);
  sized = size ∙ sym (plain_sized events p e h);
}

pub capped_sum : (m n : ℕ) → capped (capped m + capped n) ≡ capped (m + n)
capped_sum m n = omega arith

capped_more : (m : ℕ) → capped (capped m + 1) ≡ capped (m + 1)
capped_more m = omega arith

-- a goal that stands before the piece just put in
module _ (old : List Piece) (p : Piece) (i : ℕ) (at : i ≡ length old) (events : List (List ℕ)) where
  lower : (root : Root) (e : Expansion) → IsRoot old events e root → root.place < i
  lower root e h = subst (λ m. root.place < m) (sym at) (placed_below old events e root.place h.placed)

  still : (root : Root) (e : Expansion) → IsRoot old events e root → IsPlaced (old ++ p ∷ []) events e root.place
  still root e h = placed_more old (p ∷ []) events e root.place h.placed

pub joined_root : (old new : List Piece) (by : Operator) (left right whole : Root) → new ≡ old ++ piece.Pair by left.place right.place ∷ [] → whole.place ≡ length old →
    whole.size ≡ record { ends = capped (left.size.ends + right.size.ends); isolations = capped (left.size.isolations + right.size.isolations) } →
    (events : List (List ℕ)) (a b : Expansion) → IsRoot old events a left → IsRoot old events b right → IsRoot new events (paired by a b) whole
joined_root old new by left right whole grown at size events a b x y = record {
  placed = subst (λ l. IsPlaced l events (paired by a b) whole.place) (sym grown)
      (placed_pair (put_at old p whole.place at) (lower old p whole.place at events left a x) (lower old p whole.place at events right b y)
      (still old p whole.place at events left a x) (still old p whole.place at events right b y));
  sized = size
      ∙ (λ t. record { ends = capped ((x.sized t).ends + (y.sized t).ends); isolations = capped ((x.sized t).isolations + (y.sized t).isolations) })
      ∙ (λ t. record { ends = capped_sum (ends_in a) (ends_in b) t; isolations = capped_sum (isolations_in a) (isolations_in b) t })
      ∙ sym (pair_kind by a b).sizes;
}
  where
    p : Piece
    p = piece.Pair by left.place right.place

pub isolated_root : (old new : List Piece) (inner whole : Root) → new ≡ old ++ piece.Iso inner.place ∷ [] → whole.place ≡ length old →
    whole.size ≡ record { ends = inner.size.ends; isolations = capped (inner.size.isolations + 1) } →
    (events : List (List ℕ)) (e : Expansion) → IsRoot old events e inner → IsRoot new events (alone e) whole
isolated_root old new inner whole grown at size events e x = record {
  placed = subst (λ l. IsPlaced l events (alone e) whole.place) (sym grown)
      (placed_alone (put_at old p whole.place at) (lower old p whole.place at events inner e x) (still old p whole.place at events inner e x));
  sized = size
      ∙ (λ t. record { ends = (x.sized t).ends; isolations = capped ((x.sized t).isolations + 1) })
      ∙ (λ t. record { ends = capped (ends_in e); isolations = capped_more (isolations_in e) t });
}
  where
    p : Piece
    p = piece.Iso inner.place

pub root_more : (old new : List Piece) (events : List (List ℕ)) (e : Expansion) (root : Root) → Begins new old → IsRoot old events e root → IsRoot new events e root
root_more old new events e root (more, is) h = record {
  placed = subst (λ l. IsPlaced l events e root.place) (sym is) (placed_more old more events e root.place h.placed);
  sized = h.sized;
}

pub goes_more : (decls : List Declared) (old new : List Piece) (s : Shape) (root : Root) → Begins new old → Goes decls old s root → Goes decls new s root
goes_more decls old new s root grown h = record {
  expansion = h.expansion;
  becomes = h.becomes;
  is_root = root_more old new (event_names decls) h.expansion root grown h.is_root;
}

pub list_more : (decls : List Declared) (old new : List Piece) (by : Operator) (ss : List Shape) (root : Root) → Begins new old → ListGoes decls old by ss root → ListGoes decls new by ss root
list_more decls old new by ss root grown h = record {
  first = h.first;
  more = h.more;
  become = h.become;
  is_root = root_more old new (event_names decls) (fold (paired by) h.first h.more) root grown h.is_root;
}

pub front_more : (decls : List Declared) (old new : List Piece) (by : Operator) (ss : List Shape) (before : Option Root) → Begins new old → IsFront decls old by ss before → IsFront decls new by ss before
front_more decls old new by ss None grown h = h
front_more decls old new by ss (Some root) grown h = list_more decls old new by ss root grown h

pub laid_more : (d : Directory) (laid : List Stage) (old new : List Piece) → Begins new old → IsLaid d laid old → IsLaid d laid new
laid_more d laid old new grown h = record {
  directory = h.directory;
  flows = λ k root n s e f. goes_more (decls_of d) old new s root grown (h.flows k root n s e f);
}

pub begins_twice : {A : Type 0} (a b c : List A) → Begins b a → Begins c b → Begins c a
begins_twice a b c (x, e) (y, f) = (x ++ y, f ∙ ap (λ l. l ++ y) e ∙ append_assoc a x y)

pub goes_as : (decls : List Declared) (layout : List Piece) (s t : Shape) (e : Expansion) (root : Root) → s ≡ t → Becomes decls t e → IsRoot layout (event_names decls) e root → Goes decls layout s root
goes_as decls layout s t e root same b r = record { expansion = e; becomes = subst (λ u. Becomes decls u e) (sym same) b; is_root = r }

fold_end : {A : Type 0} (f : A → A → A) (z : A) (xs : List A) (y : A) → fold f z (xs ++ y ∷ []) ≡ f (fold f z xs) y
fold_end f z [] y = refl
fold_end f z (x ∷ xs) y = fold_end f (f z x) xs y

all_more : (decls : List Declared) (ss : List Shape) (es : List Expansion) (s : Shape) (e : Expansion) → AllBecome decls (shapes ss) es → Becomes decls s e →
    AllBecome decls (shapes (ss ++ s ∷ [])) (es ++ e ∷ [])
all_more decls [] [] s e none_becomes b = more_become b none_becomes
all_more decls [] (f ∷ es) s e x b = elim x [ ]
all_more decls (t ∷ ss) [] s e x b = elim x [ ]
all_more decls (t ∷ ss) (f ∷ es) s e (more_become c all) b = more_become c (all_more decls ss es s e all b)

pub next_first : (decls : List Declared) (layout : List Piece) (by : Operator) (ss : List Shape) (s : Shape) (root : Root) → ss ≡ [] → Goes decls layout s root → ListGoes decls layout by (ss ++ s ∷ []) root
next_first decls layout by ss s root none h = record {
  first = h.expansion;
  more = [];
  become = subst (λ l. AllBecome decls (shapes (l ++ s ∷ [])) (h.expansion ∷ [])) (sym none) (more_become h.becomes none_becomes);
  is_root = h.is_root;
}

pub next_more : (decls : List Declared) (old new : List Piece) (by : Operator) (ss : List Shape) (s : Shape) (left root whole : Root) → ListGoes decls old by ss left → Goes decls old s root →
    ((events : List (List ℕ)) (a b : Expansion) → IsRoot old events a left → IsRoot old events b root → IsRoot new events (paired by a b) whole) →
    ListGoes decls new by (ss ++ s ∷ []) whole
next_more decls old new by ss s left root whole h g put = record {
  first = h.first;
  more = h.more ++ g.expansion ∷ [];
  become = all_more decls ss (h.first ∷ h.more) s g.expansion h.become g.becomes;
  is_root = subst (λ e. IsRoot new (event_names decls) e whole) (sym (fold_end (paired by) h.first h.more g.expansion))
      (put (event_names decls) (fold (paired by) h.first h.more) g.expansion h.is_root g.is_root);
}

becomes_list : (decls : List Declared) (by : Operator) (ss : Shapes) (es : List Expansion) → AllBecome decls ss es → Becomes decls (list_shape by ss) (joined (paired by) es)
becomes_list decls how.Serial ss es h = becomes_serial h
becomes_list decls how.Beside ss es h = becomes_beside h
becomes_list decls how.Either ss es h = becomes_either h

pub end_some : (decls : List Declared) (layout : List Piece) (by : Operator) (ss : List Shape) (root : Root) → ListGoes decls layout by ss root → Goes decls layout (list_shape by (shapes ss)) root
end_some decls layout by ss root h = record {
  expansion = fold (paired by) h.first h.more;
  becomes = becomes_list decls by (shapes ss) (h.first ∷ h.more) h.become;
  is_root = h.is_root;
}

pub end_none : (decls : List Declared) (layout : List Piece) (by : Operator) (ss : List Shape) (root : Root) → ss ≡ [] → IsRoot layout (event_names decls) nothing root → Goes decls layout (list_shape by (shapes ss)) root
end_none decls layout by ss root none h = record {
  expansion = nothing;
  becomes = subst (λ l. Becomes decls (list_shape by (shapes l)) nothing) (sym none) (becomes_list decls by no_more [] none_becomes);
  is_root = h;
}

pub goes_iso : (decls : List Declared) (old new : List Piece) (s t : Shape) (root whole : Root) → t ≡ iso s → Goes decls old s root →
    ((events : List (List ℕ)) (e : Expansion) → IsRoot old events e root → IsRoot new events (alone e) whole) → Goes decls new t whole
goes_iso decls old new s t root whole same h put =
    goes_as decls new t (iso s) (alone h.expansion) whole same (becomes_iso h.becomes) (put (event_names decls) h.expansion h.is_root)

pub goes_flow : (d : Directory) (laid : List Stage) (layout : List Piece) (n : List ℕ) (k : ℕ) (root : Root) → IsLaid d laid layout → found_in d.flows n ≡ Some k →
    slice_get laid k ≡ Some (stage.Laid root) → Goes (decls_of d) layout (named n) root
goes_flow d laid layout n k root h e there =
    let (s, at) = flow_found d h.directory n k e in
    let g = h.flows k root n s there at in
    record {
      expansion = g.expansion;
      becomes = becomes_flow (in_flows (decls_of d) n s (mem-slice_get (flows_of (decls_of d)) k (n, s) at)) g.becomes;
      is_root = g.is_root;
    }

-- a leaf, or nothing
pub goes_plain : {E : Type 0} (r : Result Root E) (Q : Root → Type 0) (decls : List Declared) (layout : List Piece) (s t : Shape) (e : Expansion) → s ≡ t → Becomes decls t e →
    ((root : Root) → Q root → IsRoot layout (event_names decls) e root) → IfOk r Q → IfOk r (Goes decls layout s)
goes_plain (Ok root) Q decls layout s t e same b put h = goes_as decls layout s t e root same b (put root h)
goes_plain (Err x) Q decls layout s t e same b put h = h

-- which names are ready

-- where all sub-workflows among them were laid, all are
pub ready : (d : Directory) (laid : List Stage) (ns : List (List ℕ)) → IsDirectory d → Each (λ n. n ∈ declared_names (decls_of d)) ns →
    ((n : List ℕ) (k : ℕ) → n ∈ ns → found_in d.flows n ≡ Some k → IsLaidAt laid k) → Each (IsSettled d laid) ns
ready d laid [] h declared all = tt
ready d laid (n ∷ ns) h (here, declared) all = (go (found_in d.flows n) refl, ready d laid ns h declared (λ m k i e. all m k (inr i) e))
  where
    go : (o : Option ℕ) → found_in d.flows n ≡ o → MatchOption o (n ∈ d.events.now) (IsLaidAt laid)
    go (Some k) e = all n k (inl refl) e
    go None e =
        ⊎_elim (λ m. subst (λ l. n ∈ l) (sym h.events) m) (λ m. absurd (found_none d.flows n e (subst (λ l. n ∈ l) (sym h.flows) m))) (of_shuffle (names_split (decls_of d)) n here)

pub list_step : (decls : List Declared) (layout : List Piece) (by : Operator) (forms : List Form) (i : ℕ) (item : Form) (root : Root) → i < length forms → item ≡ get_or forms i item →
    ListGoes decls layout by (map shape_of (take i forms) ++ shape_of item ∷ []) root → ListGoes decls layout by (map shape_of (take (i + 1) forms)) root
list_step decls layout by forms i item root lt is h =
    subst (λ l. ListGoes decls layout by l root) (ap (λ f. map shape_of (take i forms) ++ shape_of f ∷ []) is ∙ sym (map_more shape_of forms i item lt)) h
