-- How a lock is opened and closed, and how a pass is split from the root and joined into it.
use Rattle.std.proofs.Common.{◌≡◌, ◌≢◌, ℕ, ◌+◌, ◌^◌, ◌<◌, ◌≤◌, List, [], ◌∷◌, ◌++◌, length, set, sym, refl, ap, ◌∙◌, subst, ⊎_elim, inl, inr, arith, Option, Some, length-set, length-append}
use mathlib.Core.Option.{some, some-injective}
use mathlib.Core.Option as maybe
use lib.ListN.{get_elem?}
use Rattle.flow_model.specs.Lists.{Begins, Each}
use Rattle.flow_model.proofs.Lists.{each-append}
use Rattle.atomic_table.specs.Table.{State, opening, Final, Seen, Splits, Joins}
use Rattle.atomic_table.proofs.Lists.{at_set, set_here, set_else, at_longer}
use Rattle.atomic_table.specs.Seated.{TableId}
use Rattle.atomic_table.specs.declared.shared.Seat.{Seat}
use Rattle.flow_turn.specs.declared.view.View.{View}
use Rattle.flow_turn.specs.declared.view.Stage.TheVariants.{Idle, Serving, Joined}
use Rattle.flow_turn.specs.Entries.{made_by, AreMade, Finds}
use Rattle.flow_turn.specs.Turns.{tickets_at, living_at, tickets_of, living_of, Knows, IsGone, IsHome, IsOut, Place, IsInTurns, root_view}
use Rattle.flow_turn.specs.Steps.{giving, given_view, taking, joined_view}
use Rattle.flow_turn.specs.Passes.{Knowledge, IsAtRest, known_of, root_pass, split_pass}
use Rattle.flow_turn.proofs.TurnLemmas.{value_in, known_by}
use Rattle.flow_turn.proofs.ListLemmas.{total-set, total-append, total-two, Each-map, at_below, at_more, made_by-none}
use Rattle.flow_turn.proofs.RuleLemmas.{serving_at, not_serving, each_set, stays, gone_elsewhere, IsGone-set}

module _ {T E F : Type 0} (entries : T → List E) (caller : E → ℕ) (fixed : T → F) (part : F) where
  abbrev V : Type 0
  V = View E F

  abbrev Rule : State (Option T) V → Type 0
  Rule = IsInTurns entries caller fixed part

  pub opens : (value : T) → entries value ≡ [] → fixed value ≡ part → Rule (opening (0 ∷ 0 ∷ 0 ∷ []) (Some value ∷ []) (root_view part))
  opens value empty same = record {
    drawn = 0;
    served = 0;
    log = [];
    words = refl;
    value = inl record {
      value = value;
      slot = refl;
      list = empty;
      stays = same;
      unserved = λ j v there. let is = only j v there in λ serves. not_serving Idle refl (ap (λ (z : V). z.stage) is.1 ∙ serves);
    };
    tickets = refl;
    root = λ v there. let is = only 0 v there in let given = ap (λ (z : V). z.given) is.1 in let outs = ap (λ (z : V). z.outs) is.1 in (omega arith, omega arith);
    few = omega arith;
    callers = tt;
    knows = λ j v there live. let is = only j v there in subst (λ (z : ℕ × V). Knows caller part 0 0 [] z.0 z.1) (λ i. (sym is.0 i, is.1 i))
        record { named = refl; fixed = refl; seen = ([], refl); beside = ([], refl); mine = refl; joined = tt; stands = tt };
    gone = λ j v there. let is = only j v there in subst (λ (z : V). let views : List V = root_view part ∷ [] in Each (λ c. IsGone views c.0) z.joined) is.1 tt;
    apart = λ i j v w here there one two same. (only i v here).0 ∙ sym (only j w there).0;
  }
    where
      only : (j : ℕ) (v : V) → get_elem? (root_view part ∷ []) j ≡ some v → (j ≡ 0) × (root_view part ≡ v)
      only j v there = ⊎_elim (λ (gone : get_elem? [] j ≡ some v). let out = at_below [] j v gone in absurd (omega arith)) (λ (t : (j ≡ 0) × (root_view part ≡ v)). t) (at_more [] (root_view part) j v there)

  -- the value stays where it is, where a view is added that is not served
  one_more : (homes : List (maybe.Option (Option T))) (log : List E) (views : List V) (x : V) → x.stage ≢ Serving → Place entries fixed part homes log views → Place entries fixed part homes log (views ++ x ∷ [])
  one_more homes log views x unserved (inl h) = inl record {
    value = h.value;
    slot = h.slot;
    list = h.list;
    stays = h.stays;
    unserved = λ j u there. ⊎_elim (λ (old : get_elem? views j ≡ some u). h.unserved j u old)
        (λ (new : (j ≡ length views) × (x ≡ u)). λ serves. unserved (ap (λ (z : V). z.stage) new.1 ∙ serves)) (at_more views x j u there);
  }
  one_more homes log views x unserved (inr o) = inr record { slot = o.slot; seat = o.seat; view = o.view; there = at_longer views (x ∷ []) o.seat o.view o.there; served = o.served }

  -- a view that keeps its ticket
  apart_still : (s : State (Option T) V) (r : Rule s) (id : ℕ) (v w : V) → get_elem? s.views id ≡ some v → w.ticket ≡ v.ticket → tickets_of w ≡ tickets_of v
      → (i j : ℕ) (a b : V) → get_elem? (set s.views id w) i ≡ some a → get_elem? (set s.views id w) j ≡ some b → tickets_of a ≡ 1 → tickets_of b ≡ 1 → a.ticket ≡ b.ticket → i ≡ j
  apart_still s r id v w at ticket has i j a b here there one two same =
      let before = (λ (i : ℕ) (a : V) (now : get_elem? (set s.views id w) i ≡ some a). ⊎_elim
      (λ (p : (i ≡ id) × (w ≡ a)). let u : (z : V) × (get_elem? s.views i ≡ some z) × (z.ticket ≡ a.ticket) × (tickets_of z ≡ tickets_of a) =
      (v, subst (λ (n : ℕ). get_elem? s.views n ≡ some v) (sym p.0) at, sym ticket ∙ ap (λ (z : V). z.ticket) p.1, sym has ∙ ap tickets_of p.1) in u)
      (λ (p : (i ≢ id) × (get_elem? s.views i ≡ some a)). (a, p.1, refl, refl))
      (at_set s.views id i w a now)) in
      let p = before i a here in
      let q = before j b there in
      r.apart i j p.0 q.0 p.1 q.1 (p.3 ∙ one) (q.3 ∙ two) (p.2 ∙ (same ∙ sym q.2))

  -- The root, with v as its view, splits off a pass
  pub splits : (id : ℕ) (v : V) → v.stage ≡ Idle → v.number ≡ 0 → v.given + 1 < 2 ^ 32 → Splits Rule id v (giving v) (given_view v)
  splits id v idle root room s r at =
      let w : V = giving v in
      let x : V = given_view v in
      let kept : List V = set s.views id w in
      let live : living_of v ≡ 1 = ap living_at idle in
      let unserved = not_serving v.stage (ap serving_at idle) in
      let k = r.knows id v at live in
      let first : id ≡ 0 = sym k.named ∙ root in
      let at_first : get_elem? s.views 0 ≡ some v = subst (λ (n : ℕ). get_elem? s.views n ≡ some v) first at in
      let counted = r.root v at_first in
      let long : length kept ≡ length s.views = length-set s.views id w in
      let longer : length (kept ++ x ∷ []) ≡ length s.views + 1 = (let more = length-append kept (x ∷ []) in omega arith) in
      let living = total-append living_of kept x in
      let tickets = total-append tickets_of kept x in
      let living_same = total-set living_of s.views id v w at in
      let tickets_same = total-set tickets_of s.views id v w at in
      let all = counted.0 in
      let out = counted.1 in record {
        drawn = r.drawn;
        served = r.served;
        log = r.log;
        words = r.words;
        value = one_more s.homes r.log kept x (not_serving Idle refl) (stays entries caller fixed part s.homes r.log s.views id v w at unserved unserved r.value);
        tickets = (let before = r.tickets in omega arith);
        root = λ u there.
            let here : get_elem? kept 0 ≡ some w = subst (λ (n : ℕ). get_elem? kept n ≡ some w) first (set_here s.views id w (at_below s.views id v at)) in
            let same : w ≡ u = some-injective w u (sym (at_longer kept (x ∷ []) 0 w here) ∙ there) in
            let given : w.given ≡ u.given = ap (λ (z : V). z.given) same in
            let outs : w.outs ≡ u.outs = ap (λ (z : V). z.outs) same in
            (omega arith, omega arith);
        few = omega arith;
        callers = Each-map (λ e. caller e < length s.views) (λ e. caller e < length (kept ++ x ∷ [])) r.log (λ e below. omega arith) r.callers;
        knows = λ j u there alive. ⊎_elim
            (λ (old : get_elem? kept j ≡ some u). each_set entries caller fixed part (λ i z. living_of z ≡ 1 → Knows caller part r.drawn r.served r.log i z) s.views id w
            (λ _. record { named = k.named; fixed = k.fixed; seen = k.seen; beside = k.beside; mine = k.mine; joined = k.joined; stands = k.stands })
            (λ i z other here lives. r.knows i z here lives) j u old alive)
            (λ (new : (j ≡ length kept) × (x ≡ u)).
            subst (λ (z : ℕ × V). Knows caller part r.drawn r.served r.log z.0 z.1) (λ i. (sym new.0 i, new.1 i)) record {
              named = omega arith;
              fixed = k.fixed;
              seen = k.seen;
              beside = (r.log, refl);
              mine = made_by-none caller (length kept) r.log (Each-map (λ e. caller e < length s.views) (λ e. caller e ≢ length kept) r.log (λ e below same. omega arith) r.callers);
              joined = tt;
              stands = tt;
            })
            (at_more kept x j u there);
        gone = λ j u there. ⊎_elim
            (λ (old : get_elem? kept j ≡ some u). Each-map (λ c. IsGone s.views c.0) (λ c. IsGone (kept ++ x ∷ []) c.0) u.joined
            (λ c gone. let h = IsGone-set entries caller fixed part s.views id v w at live c.0 gone in (h.0, at_longer kept (x ∷ []) c.0 h.0 h.1, h.2))
            (each_set entries caller fixed part (λ i z. Each (λ c. IsGone s.views c.0) z.joined) s.views id w (r.gone id v at) (λ i z other here. r.gone i z here) j u old))
            (λ (new : (j ≡ length kept) × (x ≡ u)). subst (λ (z : V). Each (λ c. IsGone (kept ++ x ∷ []) c.0) z.joined) new.1 tt)
            (at_more kept x j u there);
        apart = λ i j a b here there one two same. ⊎_elim
            (λ (p : get_elem? kept i ≡ some a). ⊎_elim
            (λ (q : get_elem? kept j ≡ some b). apart_still s r id v w at refl refl i j a b p q one two same)
            (λ (q : (j ≡ length kept) × (x ≡ b)). let no_ticket = ap tickets_of q.1 in absurd (omega arith))
            (at_more kept x j b there))
            (λ (p : (i ≡ length kept) × (x ≡ a)). let no_ticket = ap tickets_of p.1 in absurd (omega arith))
            (at_more kept x i a here);
      }

  -- a pass, with w as its view, is joined into the root
  pub joins : (id : ℕ) (v : V) (other : ℕ) (w : V) → v.stage ≡ Idle → v.number ≡ 0 → w.stage ≡ Idle → Joins Rule id v other w (taking v w) joined_view
  joins id v other w idle root idle_too s r at apart there =
      let x : V = taking v w in
      let gone : V = joined_view in
      let first_set : List V = set s.views id x in
      let unserved = not_serving v.stage (ap serving_at idle) in
      let k = r.knows id v at (ap living_at idle) in
      let first : id ≡ 0 = sym k.named ∙ root in
      let at_first : get_elem? s.views 0 ≡ some v = subst (λ (n : ℕ). get_elem? s.views n ≡ some v) first at in
      let there_before : get_elem? s.views other ≡ some w = sym (set_else s.views id other x apart) ∙ there in
      let known = r.knows other w there_before (ap living_at idle_too) in
      let counted = r.root v at_first in
      let all = counted.0 in
      let out = counted.1 in
      let long = length-set s.views id x in
      let long_too = length-set first_set other gone in
      let lives : living_of v ≡ 1 = ap living_at idle in
      let lives_too : living_of w ≡ 1 = ap living_at idle_too in
      let idles_too : tickets_of w ≡ 0 = ap tickets_at idle_too in
      let after : List V = set first_set other gone in
      let still_gone = (λ (number : ℕ) (g : IsGone s.views number).
      let h = IsGone-set entries caller fixed part s.views id v x at lives number g in
      let g' : IsGone after number = (h.0, set_else first_set other number gone (gone_elsewhere entries caller fixed part s.views other w there_before lives_too number g) ∙ h.1, h.2) in g') in
      let joined : AreMade caller x.joined r.log = each-append (λ c. made_by caller c.0 r.log ≡ c.1) v.joined ((w.number, w.mine) ∷ []) k.joined (ap (λ (n : ℕ). made_by caller n r.log) known.named ∙ known.mine, tt) in
      let two = total-two living_of s.views id other v w (λ e. apart (sym e)) at there_before in
      let living = total-set living_of s.views id v x at in
      let living_too = total-set living_of first_set other w gone there in
      let tickets = total-set tickets_of s.views id v x at in
      let tickets_too = total-set tickets_of first_set other w gone there in record {
        drawn = r.drawn;
        served = r.served;
        log = r.log;
        words = r.words;
        value = stays entries caller fixed part s.homes r.log first_set other w gone there (not_serving w.stage (ap serving_at idle_too)) (not_serving Joined refl)
            (stays entries caller fixed part s.homes r.log s.views id v x at unserved unserved r.value);
        tickets = (let before = r.tickets in omega arith);
        root = λ u here.
            let root_there : get_elem? first_set 0 ≡ some x = subst (λ (n : ℕ). get_elem? first_set n ≡ some x) first (set_here s.views id x (at_below s.views id v at)) in
            let same : x ≡ u = some-injective x u (sym root_there ∙ (sym (set_else first_set other 0 gone (λ e. apart (sym e ∙ sym first))) ∙ here)) in
            let given : x.given ≡ u.given = ap (λ (z : V). z.given) same in
            let outs : x.outs ≡ u.outs = ap (λ (z : V). z.outs) same in
            (omega arith, omega arith);
        few = (let few = r.few in omega arith);
        callers = subst (λ (n : ℕ). Each (λ e. caller e < n) r.log) (sym (long_too ∙ long)) r.callers;
        knows = each_set entries caller fixed part (λ i z. living_of z ≡ 1 → Knows caller part r.drawn r.served r.log i z) first_set other gone
            (λ none_lives. absurd (omega arith))
            (λ j u _ here. each_set entries caller fixed part (λ i z. living_of z ≡ 1 → Knows caller part r.drawn r.served r.log i z) s.views id x
            (λ _. record { named = k.named; fixed = k.fixed; seen = k.seen; beside = known.seen; mine = k.mine; joined = joined; stands = k.stands })
            (λ i z _ before. r.knows i z before) j u here);
        gone = each_set entries caller fixed part (λ j u. Each (λ c. IsGone after c.0) u.joined) first_set other gone tt
            (λ j u _ here. each_set entries caller fixed part (λ i z. Each (λ c. IsGone after c.0) z.joined) s.views id x
            (each-append (λ c. IsGone after c.0) v.joined ((w.number, w.mine) ∷ []) (Each-map (λ c. IsGone s.views c.0) (λ c. IsGone after c.0) v.joined (λ c. still_gone c.0) (r.gone id v at))
            (subst (IsGone after) (sym known.named) (gone, set_here first_set other gone (at_below first_set other w there), refl), tt))
            (λ i z _ before. Each-map (λ c. IsGone s.views c.0) (λ c. IsGone after c.0) z.joined (λ c. still_gone c.0) (r.gone i z before)) j u here);
        apart = λ i j a b here there_now one two_too same.
            let before = (λ (i : ℕ) (a : V) (at_now : get_elem? (set first_set other gone) i ≡ some a) (one : tickets_of a ≡ 1). ⊎_elim
            (λ (p : (i ≡ other) × (gone ≡ a)). let no_ticket = ap tickets_of p.1 in absurd {A = get_elem? first_set i ≡ some a} (omega arith))
            (λ (p : (i ≢ other) × (get_elem? first_set i ≡ some a)). p.1)
            (at_set first_set other i gone a at_now)) in
            apart_still s r id v x at refl refl i j a b (before i a here one) (before j b there_now two_too) one two_too same;
      }

  -- where all other passes were joined, the value is at home
  pub closes : (id : ℕ) (v : V) (words : List ℕ) (slots : List (Option T)) → v.stage ≡ Idle → v.number ≡ 0 → v.outs ≡ 0 → Final (Seen Rule id v) words slots
      → (value : T) × (get_elem? slots 0 ≡ some (Some value)) × Finds entries caller fixed v.number v.seen v.mine v.joined v.part value × Each (λ e. caller e ≤ v.given) (entries value)
  closes id v words slots idle root joined end =
      let s = end.0 in
      let r = end.1.0 in
      let at = end.1.1 in
      let k = r.knows id v at (ap living_at idle) in
      let first : id ≡ 0 = sym k.named ∙ root in
      let counted = r.root v (subst (λ (n : ℕ). get_elem? s.views n ≡ some v) first at) in
      let all = counted.0 in
      let out = counted.1 in
      let home = ⊎_elim (λ (h : IsHome entries fixed part s.homes r.log s.views). h) (λ (o : IsOut s.homes s.views).
      let lives : living_of v ≡ 1 = ap living_at idle in
      let lives_too : living_of o.view ≡ 1 = ap living_at o.served in
      let two = total-two living_of s.views id o.seat v o.view
      (λ same. not_serving v.stage (ap serving_at idle) (ap (λ (z : V). z.stage) (some-injective v o.view (sym at ∙ (ap (get_elem? s.views) same ∙ o.there))) ∙ o.served)) at o.there in
      absurd {A = IsHome entries fixed part s.homes r.log s.views} (omega arith)) r.value in (
        home.value,
        end.4 0 (Some home.value) (ap (λ (hs : List (maybe.Option (Option T))). get_elem? hs 0) home.slot),
        record {
          begins = subst (λ (l : List E). Begins l v.seen) (sym home.list) k.seen;
          own = (λ i. made_by caller (k.named i) (home.list i)) ∙ k.mine;
          others = subst (AreMade caller v.joined) (sym home.list) k.joined;
          stays = k.fixed ∙ ap (λ (f : F). Some f) (sym home.stays);
        },
        subst (Each (λ e. caller e ≤ v.given)) (sym home.list) (Each-map (λ e. caller e < length s.views) (λ e. caller e ≤ v.given) r.log (λ e below. omega arith) r.callers),
      )

module _ {T E F : Type 0} where
  pub knows_root : (seat : Seat (Option T) (View E F)) (table : TableId) (part : F) → seat.table_id ≡ table → seat.me ≡ (root_view part, []) → known_of seat ≡ root_pass table part
  knows_root seat table part of_table me = λ i. known_by (of_table i) (me i).0

  pub split_knows : (old new : Seat (Option T) (View E F)) → new.table_id ≡ old.table_id → new.me ≡ (given_view old.me.0, []) → known_of new ≡ split_pass (known_of old)
  split_knows old new table me = λ i. known_by (table i) (me i).0

  -- what is in the slot when the lock is closed
  module _ (entries : T → List E) (caller : E → ℕ) (fixed : T → F) (part : F) (seat : Seat (Option T) (View E F)) (root : Knowledge E F) (words : List ℕ) (slots : List (Option T)) (found : Option T)
      (rest : IsAtRest seat) (known : known_of seat ≡ root) (number : root.number ≡ 0) (outs : root.outs ≡ 0) (final : Final (Seen (IsInTurns entries caller fixed part) seat.id seat.me.0) words slots)
      (there : get_elem? slots 0 ≡ some found) where
    abbrev IsLeft : T → Type 0
    IsLeft value = Finds entries caller fixed root.number root.seen root.mine root.joined root.part value × Each (λ e. caller e ≤ root.given) (entries value)

    pub closes_with : (value : T) × (found ≡ Some value) × IsLeft value
    closes_with =
        let end = closes entries caller fixed part seat.id seat.me.0 words slots rest.0 (ap (λ (k : Knowledge E F). k.number) known ∙ number) (ap (λ (k : Knowledge E F). k.outs) known ∙ outs) final in
        let both = subst (λ (k : Knowledge E F). Finds entries caller fixed k.number k.seen k.mine k.joined k.part end.0 × Each (λ e. caller e ≤ k.given) (entries end.0)) known (end.2, end.3) in
        (end.0, some-injective found (Some end.0) (sym there ∙ end.1), both)

    pub closes_as : (value : T) → found ≡ Some value → IsLeft value
    closes_as value is = subst IsLeft (ap (value_in closes_with.0) (sym closes_with.1 ∙ is)) closes_with.2
