-- Each step of a lock keeps its rule.
use Rattle.std.proofs.Common.{◌≡◌, ◌≢◌, ℕ, ◌+◌, ◌%◌, ◌^◌, ◌<◌, ◌≤◌, ◌==◌, List, [], ◌∷◌, ◌++◌, length, drop, slice_index, set, sym, refl, ap, ◌∙◌, subst, ⊎_elim, inl, inr, arith, Option, Some, None, append_assoc, length-set, length-append}
use Rattle.std.proofs.Math.Nat.{mod-add-mod}
use Rattle.std.proofs.Math.Seq.{drop-append_seam}
use Rattle.std.proofs.lemmas.List.{append-nil}
use Rattle.std.proofs.lemmas.List.Elements.{filter-append}
use mathlib.Core.Logic.{dite}
use mathlib.Core.Option.{none, some, some-injective}
use mathlib.Core.Option as maybe
use native.Mathlib.Decide.{ℕ_discrete}
use lib.ListN.{get_elem?}
use Rattle.flow_model.specs.Lists.{Begins, Each}
use Rattle.flow_model.proofs.Lists.{each-append}
use Rattle.atomic_table.specs.Table.{State, Me, keeps, takes, gives, put_back, rest, Allows}
use Rattle.atomic_table.proofs.Lists.{at_set, set_here, set_else, one_turn}
use Rattle.flow_turn.specs.declared.view.View.{View}
use Rattle.flow_turn.specs.declared.view.Stage.{Stage}
use Rattle.flow_turn.specs.declared.view.Stage.TheVariants.{Idle, Waiting, Serving, Joined}
use Rattle.flow_turn.specs.Entries.{made_by, AreMade}
use Rattle.flow_turn.specs.Turns.{tickets_at, living_at, tickets_of, living_of, Stands, Knows, IsGone, IsHome, IsOut, Place, IsInTurns}
use Rattle.flow_turn.specs.Steps.{drew, looked, list_in, counted, passed, settled}
use Rattle.flow_turn.proofs.ListLemmas.{total-set, total-at, total-le, Each-map, at_below, made_by-own, made_by-none}

-- 1 where it is the caller's turn
abbrev pub serving_at : Stage → ℕ
serving_at Serving = 1
serving_at other = 0

pub not_serving : (stage : Stage) → serving_at stage ≡ 0 → stage ≢ Serving
not_serving stage nobody is = let one = ap serving_at is in absurd (omega arith)

-- a word that counts to n counts to n + k, modulo 2^64
counts : (n k : ℕ) → (n % 2 ^ 64 + k) % 2 ^ 64 ≡ (n + k) % 2 ^ 64
counts n k = mod-add-mod n (2 ^ 64) k

module _ {T E F : Type 0} (entries : T → List E) (caller : E → ℕ) (fixed : T → F) (part : F) where
  abbrev V : Type 0
  V = View E F

  abbrev St : Type 0
  St = State (Option T) V

  abbrev Homes : Type 0
  Homes = List (maybe.Option (Option T))

  abbrev Rule : St → Type 0
  Rule = IsInTurns entries caller fixed part

  -- what holds of the view that was put, and of each other, holds of each
  pub each_set : (P : ℕ → V → Type 0) (views : List V) (id : ℕ) (w : V) → P id w → ((j : ℕ) (u : V) → j ≢ id → get_elem? views j ≡ some u → P j u)
      → (j : ℕ) (u : V) → get_elem? (set views id w) j ≡ some u → P j u
  each_set P views id w mine others j u at = ⊎_elim (λ (t : (j ≡ id) × (w ≡ u)). subst (λ (z : ℕ × V). P z.0 z.1) (λ i. (sym t.0 i, t.1 i)) mine)
      (λ (t : (j ≢ id) × (get_elem? views j ≡ some u)). others j u t.0 t.1) (at_set views id j w u at)

  some_is : (x y : F) → (let a : Option F = Some x in let b : Option F = Some y in a ≡ b) → x ≡ y
  some_is x y e = ap (some_or x) e
    where
      some_or : F → Option F → F
      some_or d None = d
      some_or d (Some z) = z

  -- a list that grew begins as it did
  begins-more : (log added front : List E) → Begins log front → Begins (log ++ added) front
  begins-more log added front b = (b.0 ++ added, ap (λ l. l ++ added) b.1 ∙ append_assoc front b.0 added)

  -- a caller of whom nothing was added
  made_by-more : (log added : List E) (number : ℕ) → made_by caller number added ≡ [] → made_by caller number (log ++ added) ≡ made_by caller number log
  made_by-more log added number nothing =
      filter-append (λ e. caller e == number) log added ∙ (ap (λ l. made_by caller number log ++ l) nothing ∙ append-nil (made_by caller number log))

  AreMade-more : (log added : List E) (callers : List (ℕ × List E)) → AreMade caller callers log → Each (λ c. made_by caller c.0 added ≡ []) callers → AreMade caller callers (log ++ added)
  AreMade-more log added [] made nothing = tt
  AreMade-more log added (c ∷ cs) made nothing = (made_by-more log added c.0 nothing.0 ∙ made.0, AreMade-more log added cs made.1 nothing.1)

  -- a pass that was joined is not the one that takes a step
  pub gone_elsewhere : (views : List V) (id : ℕ) (v : V) → get_elem? views id ≡ some v → living_of v ≡ 1 → (number : ℕ) → IsGone views number → number ≢ id
  gone_elsewhere views id v at live number gone same =
      let one : gone.0 ≡ v = some-injective gone.0 v (sym gone.1 ∙ (ap (get_elem? views) same ∙ at)) in
      let none_lives = gone.2 in
      let lives = ap living_of one in
      absurd (omega arith)

  pub IsGone-set : (views : List V) (id : ℕ) (v w : V) → get_elem? views id ≡ some v → living_of v ≡ 1 → (number : ℕ) → IsGone views number → IsGone (set views id w) number
  IsGone-set views id v w at live number gone = (gone.0, set_else views id number w (gone_elsewhere views id v at live number gone) ∙ gone.1, gone.2)

  -- a view that did not change, where others went on
  still : (drawn served drawn' served' : ℕ) (log added : List E) (number : ℕ) (u : V) → Knows caller part drawn served log number u → made_by caller number added ≡ []
      → Each (λ c. made_by caller c.0 added ≡ []) u.joined → Stands served' drawn' (log ++ added) u.ticket u.seen u.stage → Knows caller part drawn' served' (log ++ added) number u
  still drawn served drawn' served' log added number u k nothing others stands = record {
    named = k.named;
    fixed = k.fixed;
    seen = begins-more log added u.seen k.seen;
    beside = begins-more log added u.beside k.beside;
    mine = made_by-more log added number nothing ∙ k.mine;
    joined = AreMade-more log added u.joined k.joined others;
    stands = stands;
  }

  -- who waits goes on to wait, where its ticket is not the one that was served
  moved_on : (served drawn served' drawn' : ℕ) (log log' : List E) (ticket : ℕ) (seen : List E) (stage : Stage) → (tickets_at stage ≡ 1 → ticket ≢ served) → served' ≤ served + 1 → drawn ≤ drawn'
      → Stands served drawn log ticket seen stage → Stands served' drawn' log' ticket seen stage
  moved_on served drawn served' drawn' log log' ticket seen Waiting apart le more stands = let from = stands.0 in let to = stands.1 in let other = apart refl in (omega arith, omega arith)
  moved_on served drawn served' drawn' log log' ticket seen Serving apart le more stands = absurd (apart refl stands.0)
  moved_on served drawn served' drawn' log log' ticket seen other apart le more stands = tt

  -- a step by which the view of one seat goes from v to w
  changed : (s : St) (r : Rule s) (id : ℕ) (v w : V) (words' : List ℕ) (homes' : Homes) (drawn' served' : ℕ) (log' added : List E) → get_elem? s.views id ≡ some v → living_of v ≡ 1
      → words' ≡ drawn' % 2 ^ 64 ∷ served' % 2 ^ 64 ∷ length log' % 2 ^ 64 ∷ [] → log' ≡ r.log ++ added → Place entries fixed part homes' log' (set s.views id w)
      → served' + r.drawn + tickets_of w ≡ drawn' + r.served + tickets_of v → (living_of w ≡ living_of v) × (w.given ≡ v.given) × (w.outs ≡ v.outs) × (w.joined ≡ v.joined)
      → Each (λ e. caller e < length s.views) added
      → ((j : ℕ) → j ≢ id → made_by caller j added ≡ [])
      → ((j : ℕ) (u : V) → j ≢ id → get_elem? s.views j ≡ some u → living_of u ≡ 1 → Stands served' drawn' log' u.ticket u.seen u.stage)
      → (living_of w ≡ 1 → Knows caller part drawn' served' log' id w)
      → ((j : ℕ) (u : V) → j ≢ id → get_elem? s.views j ≡ some u → tickets_of u ≡ 1 → tickets_of w ≡ 1 → u.ticket ≢ w.ticket)
      → Rule record { words = words'; homes = homes'; views = set s.views id w }
  changed s r id v w words' homes' drawn' served' log' added at live words grown place tickets same named foreign others mine apart = record {
    drawn = drawn';
    served = served';
    log = log';
    words = words;
    value = place;
    tickets = (let old = r.tickets in let step = total-set tickets_of s.views id v w at in omega arith);
    root = λ u there. ⊎_elim
        (λ (t : (0 ≡ id) × (w ≡ u)).
        let old = r.root v (subst (λ (k : ℕ). get_elem? s.views k ≡ some v) (sym t.0) at) in
        let step = total-set living_of s.views id v w at in
        let given : w.given ≡ u.given = ap (λ (z : V). z.given) t.1 in
        let outs : w.outs ≡ u.outs = ap (λ (z : V). z.outs) t.1 in
        let long = length-set s.views id w in
        let a = same.0 in let b = same.1 in let c = same.2 in let d = old.0 in let e = old.1 in
        (omega arith, omega arith))
        (λ (t : (0 ≢ id) × (get_elem? s.views 0 ≡ some u)).
        let old = r.root u t.1 in
        let step = total-set living_of s.views id v w at in
        let long = length-set s.views id w in
        let a = same.0 in let d = old.0 in let e = old.1 in
        (omega arith, omega arith))
        (at_set s.views id 0 w u there);
    few = (let few = r.few in let long = length-set s.views id w in omega arith);
    callers = subst (λ (n : ℕ). Each (λ e. caller e < n) log') (sym (length-set s.views id w))
        (subst (Each (λ e. caller e < length s.views)) (sym grown) (each-append (λ e. caller e < length s.views) r.log added r.callers named));
    knows = each_set (λ j u. living_of u ≡ 1 → Knows caller part drawn' served' log' j u) s.views id w mine
        (λ j u other there alive. subst (λ (l : List E). Knows caller part drawn' served' l j u) (sym grown)
        (still r.drawn r.served drawn' served' r.log added j u (r.knows j u there alive) (foreign j other)
        (Each-map (λ c. IsGone s.views c.0) (λ c. made_by caller c.0 added ≡ []) u.joined (λ c gone. foreign c.0 (gone_elsewhere s.views id v at live c.0 gone)) (r.gone j u there))
        (subst (λ (l : List E). Stands served' drawn' l u.ticket u.seen u.stage) grown (others j u other there alive))));
    gone = each_set (λ j u. Each (λ c. IsGone (set s.views id w) c.0) u.joined) s.views id w
        (subst (Each (λ c. IsGone (set s.views id w) c.0)) (sym same.3)
        (Each-map (λ c. IsGone s.views c.0) (λ c. IsGone (set s.views id w) c.0) v.joined (λ c. IsGone-set s.views id v w at live c.0) (r.gone id v at)))
        (λ j u other there. Each-map (λ c. IsGone s.views c.0) (λ c. IsGone (set s.views id w) c.0) u.joined (λ c. IsGone-set s.views id v w at live c.0) (r.gone j u there));
    apart = λ i j x y here there one two match. ⊎_elim
        (λ (t : (i ≡ id) × (w ≡ x)). ⊎_elim
        (λ (q : (j ≡ id) × (w ≡ y)). t.0 ∙ sym q.0)
        (λ (q : (j ≢ id) × (get_elem? s.views j ≡ some y)). absurd (apart j y q.0 q.1 two (ap tickets_of t.1 ∙ one) (sym match ∙ ap (λ (z : V). z.ticket) (sym t.1))))
        (at_set s.views id j w y there))
        (λ (t : (i ≢ id) × (get_elem? s.views i ≡ some x)). ⊎_elim
        (λ (q : (j ≡ id) × (w ≡ y)). absurd (apart i x t.0 t.1 one (ap tickets_of q.1 ∙ two) (match ∙ ap (λ (z : V). z.ticket) (sym q.1))))
        (λ (q : (j ≢ id) × (get_elem? s.views j ≡ some y)). r.apart i j x y t.1 q.1 one two match)
        (at_set s.views id j w y there))
        (at_set s.views id i w x here);
  }

  -- a step that adds nothing to the list
  quiet : (s : St) (r : Rule s) (id : ℕ) (v w : V) (words' : List ℕ) (homes' : Homes) (drawn' served' : ℕ) → get_elem? s.views id ≡ some v → living_of v ≡ 1
      → words' ≡ drawn' % 2 ^ 64 ∷ served' % 2 ^ 64 ∷ length r.log % 2 ^ 64 ∷ [] → Place entries fixed part homes' r.log (set s.views id w)
      → served' + r.drawn + tickets_of w ≡ drawn' + r.served + tickets_of v → (living_of w ≡ living_of v) × (w.given ≡ v.given) × (w.outs ≡ v.outs) × (w.joined ≡ v.joined)
      → ((j : ℕ) (u : V) → j ≢ id → get_elem? s.views j ≡ some u → living_of u ≡ 1 → Stands served' drawn' r.log u.ticket u.seen u.stage)
      → (living_of w ≡ 1 → Knows caller part drawn' served' r.log id w)
      → ((j : ℕ) (u : V) → j ≢ id → get_elem? s.views j ≡ some u → tickets_of u ≡ 1 → tickets_of w ≡ 1 → u.ticket ≢ w.ticket)
      → Rule record { words = words'; homes = homes'; views = set s.views id w }
  quiet s r id v w words' homes' drawn' served' at live words place tickets same others mine apart =
      changed s r id v w words' homes' drawn' served' r.log [] at live words (sym (append-nil r.log)) place tickets same tt (λ j _. refl) others mine apart

  -- the value stays where it is, where the view of one who is not served changes
  pub stays : (homes : Homes) (log : List E) (views : List V) (id : ℕ) (v w : V) → get_elem? views id ≡ some v → v.stage ≢ Serving → w.stage ≢ Serving → Place entries fixed part homes log views → Place entries fixed part homes log (set views id w)
  stays homes log views id v w at before after (inl h) = inl record {
    value = h.value;
    slot = h.slot;
    list = h.list;
    stays = h.stays;
    unserved = each_set (λ _ u. u.stage ≢ Serving) views id w after (λ j u _ there. h.unserved j u there);
  }
  stays homes log views id v w at before after (inr o) = inr record {
    slot = o.slot;
    seat = o.seat;
    view = o.view;
    there = set_else views id o.seat w (λ same. before (ap (λ (u : V). u.stage) (some-injective v o.view (sym at ∙ (ap (get_elem? views) (sym same) ∙ o.there))) ∙ o.served)) ∙ o.there;
    served = o.served;
  }

  -- who has another seat and a ticket has another ticket
  others_apart : (s : St) (r : Rule s) (id : ℕ) (v : V) → get_elem? s.views id ≡ some v → tickets_of v ≡ 1 → (j : ℕ) (u : V) → j ≢ id → get_elem? s.views j ≡ some u → tickets_of u ≡ 1 → u.ticket ≢ v.ticket
  others_apart s r id v at has j u other there one same = other (r.apart j id u v there at one has same)

  -- tickets are drawn, and the list stays
  drawn_more : (served drawn drawn' : ℕ) (log : List E) (ticket : ℕ) (seen : List E) (stage : Stage) → drawn ≤ drawn' → Stands served drawn log ticket seen stage → Stands served drawn' log ticket seen stage
  drawn_more served drawn drawn' log ticket seen Waiting more stands = let to = stands.1 in (stands.0, omega arith)
  drawn_more served drawn drawn' log ticket seen other more stands = stands

  has_drawn : (served drawn : ℕ) (log : List E) (ticket : ℕ) (seen : List E) (stage : Stage) → tickets_at stage ≡ 1 → served < drawn → Stands served drawn log ticket seen stage → ticket < drawn
  has_drawn served drawn log ticket seen Waiting one less stands = stands.1
  has_drawn served drawn log ticket seen Serving one less stands = let now = stands.0 in omega arith
  has_drawn served drawn log ticket seen other one less stands = absurd (omega arith)

  has_one : (stage : Stage) → tickets_at stage ≡ 1 → living_at stage ≡ 1
  has_one Joined one = absurd (omega arith)
  has_one other one = refl

  -- each ticket was drawn
  below_drawn : (s : St) (r : Rule s) (j : ℕ) (u : V) → get_elem? s.views j ≡ some u → tickets_of u ≡ 1 → u.ticket < r.drawn
  below_drawn s r j u there one =
      let waiting = total-at tickets_of s.views j u there in
      let all = r.tickets in
      has_drawn r.served r.drawn r.log u.ticket u.seen u.stage one (omega arith) (r.knows j u there (has_one u.stage one)).stands

  one_at_most : (stage : Stage) → tickets_at stage ≤ 1
  one_at_most Joined = omega arith
  one_at_most other = omega arith

  -- where a caller who waits has the ticket that is served, the value is at home
  at_home : (s : St) (r : Rule s) (id : ℕ) (v : V) → get_elem? s.views id ≡ some v → v.stage ≡ Waiting → r.served ≡ v.ticket → IsHome entries fixed part s.homes r.log s.views
  at_home s r id v at waits now = ⊎_elim (λ (h : IsHome entries fixed part s.homes r.log s.views). h)
      (λ (o : IsOut s.homes s.views).
      let u : V = o.view in
      let turn = subst (Stands r.served r.drawn r.log u.ticket u.seen) o.served (r.knows o.seat u o.there (ap living_at o.served)).stands in
      let same : o.seat ≡ id = r.apart o.seat id u v o.there at (ap tickets_at o.served) (ap tickets_at waits) (turn.0 ∙ now) in
      let one : v ≡ u = some-injective v u (sym at ∙ (ap (get_elem? s.views) (sym same) ∙ o.there)) in
      absurd (not_serving v.stage (ap serving_at waits) (ap (λ (z : V). z.stage) one ∙ o.served)))
      r.value

  pub draws : (slots id : ℕ) (me : Me (Option T) V) → me.0.stage ≡ Idle → Allows Rule slots id me 0 (λ n. (n + 1) % 2 ^ 64) (drew me)
  draws slots id me idle s r _ at _ =
      let v : V = me.0 in
      let w : V = record v { stage = Waiting; ticket = r.drawn } in
      let live : living_of v ≡ 1 = ap living_at idle in
      let without : tickets_of v ≡ 0 = ap tickets_at idle in
      let k = r.knows id v at live in
      let found : slice_index s.words 0 ≡ r.drawn % 2 ^ 64 = ap (λ (ws : List ℕ). slice_index ws 0) r.words in
      let all = r.tickets in (
        w,
        keeps,
        tt,
        quiet s r id v w _ s.homes (r.drawn + 1) r.served at live
            (ap (λ (ws : List ℕ). set ws 0 ((slice_index ws 0 + 1) % 2 ^ 64)) r.words ∙ ap (λ (n : ℕ). n ∷ r.served % 2 ^ 64 ∷ length r.log % 2 ^ 64 ∷ []) (counts r.drawn 1))
            (stays s.homes r.log s.views id v w at (not_serving v.stage (ap serving_at idle)) (not_serving Waiting refl) r.value)
            (omega arith)
            (sym live, refl, refl, refl)
            (λ j u other there alive. drawn_more r.served r.drawn (r.drawn + 1) r.log u.ticket u.seen u.stage (omega arith) (r.knows j u there alive).stands)
            (λ _. record { named = k.named; fixed = k.fixed; seen = k.seen; beside = k.beside; mine = k.mine; joined = k.joined; stands = (omega arith, omega arith) })
            (λ j u other there one _ match. let less = below_drawn s r j u there one in omega arith),
        (r.drawn, refl, found),
      )

  -- a step that tells of the word as it is, and changes at most what the caller has seen
  pub looks : (slots id : ℕ) (me : Me (Option T) V) → me.0.stage ≡ Waiting → Allows Rule slots id me 1 (λ n. n) (looked entries caller fixed me)
  looks slots id me waits s r _ at _ =
      let v : V = me.0 in
      let live : living_of v ≡ 1 = ap living_at waits in
      let has : tickets_of v ≡ 1 = ap tickets_at waits in
      let k = r.knows id v at live in
      let found : slice_index s.words 1 ≡ r.served % 2 ^ 64 = ap (λ (ws : List ℕ). slice_index ws 1) r.words in
      let same_words : set s.words 1 (slice_index s.words 1) ≡ r.drawn % 2 ^ 64 ∷ r.served % 2 ^ 64 ∷ length r.log % 2 ^ 64 ∷ [] = ap (λ (ws : List ℕ). set ws 1 (slice_index ws 1)) r.words in
      let apart = others_apart s r id v at has in
      let all = r.tickets in
      dite (ℕ_discrete (slice_index s.words 1) (v.ticket % 2 ^ 64))
      (λ hit.
      let waiting = subst (Stands r.served r.drawn r.log v.ticket v.seen) waits k.stands in
      let from = waiting.0 in
      let to = waiting.1 in
      let many = total-le tickets_of s.views (λ u. one_at_most u.stage) in
      let few = r.few in
      let now : r.served ≡ v.ticket = one_turn r.served v.ticket (2 ^ 64) from (omega arith) (sym found ∙ hit) in
      let home = at_home s r id v at waits now in
      let w : V = record v { stage = Serving; seen = entries home.value } in
      let whole : Begins r.log (entries home.value) = ([], sym home.list ∙ sym (append-nil (entries home.value))) in (
        w,
        takes 0 (Some home.value),
        ap (λ (hs : Homes). get_elem? hs 0) home.slot,
        quiet s r id v w _ _ r.drawn r.served at live same_words
            (inr record { slot = ap (λ (hs : Homes). set hs 0 none) home.slot; seat = id; view = w; there = set_here s.views id w (at_below s.views id v at); served = refl })
            (omega arith)
            (sym live, refl, refl, refl)
            (λ j u other there alive. (r.knows j u there alive).stands)
            (λ _. record { named = k.named; fixed = k.fixed; seen = whole; beside = k.beside; mine = k.mine; joined = k.joined; stands = (sym now, home.list) })
            (λ j u other there one _. apart j u other there one),
        (
          (λ _. (
            home.value,
            refl,
            record {
              begins = subst (λ (l : List E). Begins l v.seen) (sym home.list) k.seen;
              own = (λ i. made_by caller (k.named i) (home.list i)) ∙ k.mine;
              others = subst (AreMade caller v.joined) (sym home.list) k.joined;
              stays = k.fixed ∙ ap (λ (f : F). Some f) (sym home.stays);
            },
          )),
          (λ miss. absurd (miss hit)),
        ),
      ))
      (λ miss. (
        v,
        keeps,
        tt,
        quiet s r id v v _ s.homes r.drawn r.served at live same_words
            (stays s.homes r.log s.views id v v at (not_serving v.stage (ap serving_at waits)) (not_serving v.stage (ap serving_at waits)) r.value)
            (omega arith)
            (refl, refl, refl, refl)
            (λ j u other there alive. (r.knows j u there alive).stands)
            (λ _. k)
            (λ j u other there one _. apart j u other there one),
        ((λ hit. absurd (miss hit)), (λ _. refl)),
      ))

  -- who is served has its turn, and the value is out with it
  out_with : (s : St) (r : Rule s) (id : ℕ) (v : V) → get_elem? s.views id ≡ some v → v.stage ≡ Serving → s.homes ≡ none ∷ []
  out_with s r id v at serves = ⊎_elim (λ (h : IsHome entries fixed part s.homes r.log s.views). absurd (h.unserved id v at serves)) (λ (o : IsOut s.homes s.views). o.slot) r.value

  -- nobody else has the ticket that is served
  others_wait : (s : St) (r : Rule s) (id : ℕ) (v : V) → get_elem? s.views id ≡ some v → v.stage ≡ Serving → v.ticket ≡ r.served → (served' drawn' : ℕ) (log' : List E) → served' ≤ r.served + 1 → r.drawn ≤ drawn'
      → (j : ℕ) (u : V) → j ≢ id → get_elem? s.views j ≡ some u → living_of u ≡ 1 → Stands served' drawn' log' u.ticket u.seen u.stage
  others_wait s r id v at serves now served' drawn' log' le more j u other there alive =
      moved_on r.served r.drawn served' drawn' r.log log' u.ticket u.seen u.stage
      (λ one same. others_apart s r id v at (ap tickets_at serves) j u other there one (same ∙ sym now)) le more (r.knows j u there alive).stands

  pub count_step : (slots id : ℕ) (me : Me (Option T) V) (value : T) (added : List E) (k : ℕ) → me.0.stage ≡ Serving → me.1 ≡ (0, Some value) ∷ [] → entries value ≡ me.0.seen ++ added
      → Each (λ e. caller e ≡ me.0.number) added → length added ≡ k → Allows Rule slots id me 2 (λ n. (n + k) % 2 ^ 64) (λ _ n. counted entries me n)
  count_step slots id me value added k serves slot grows own many s r _ at _ =
      let v : V = me.0 in
      let list : List E = list_in entries me.1 in
      let w : V = record v { seen = list; mine = v.mine ++ drop (length v.seen) list } in
      let live : living_of v ≡ 1 = ap living_at serves in
      let known = r.knows id v at live in
      let turn = subst (Stands r.served r.drawn r.log v.ticket v.seen) serves known.stands in
      let list_is : list ≡ entries value = ap (list_in entries) slot in
      let grown : list ≡ r.log ++ added = list_is ∙ (grows ∙ ap (λ l. l ++ added) turn.1) in
      let new_ones : drop (length v.seen) list ≡ added = ap (drop (length v.seen)) (list_is ∙ grows) ∙ drop-append_seam v.seen added in
      let longer : length r.log + k ≡ length list = (let sum = length-append r.log added in let same = ap length grown in omega arith) in
      let foreign = (λ (j : ℕ) (other : j ≢ id). made_by-none caller j added (Each-map (λ e. caller e ≡ v.number) (λ e. caller e ≢ j) added (λ e named same. other (sym same ∙ (named ∙ known.named))) own)) in
      let mine : made_by caller id list ≡ w.mine =
      ap (made_by caller id) grown ∙ (filter-append (λ e. caller e == id) r.log added
      ∙ (λ i. (known.mine ∙ refl) i ++ (made_by-own caller id added (subst (λ (n : ℕ). Each (λ e. caller e ≡ n) added) known.named own) ∙ sym new_ones) i)) in (
        w,
        keeps,
        tt,
        changed s r id v w _ s.homes r.drawn r.served list added at live
            (ap (λ (ws : List ℕ). set ws 2 ((slice_index ws 2 + k) % 2 ^ 64)) r.words
            ∙ ap (λ (n : ℕ). r.drawn % 2 ^ 64 ∷ r.served % 2 ^ 64 ∷ n ∷ []) (counts (length r.log) k ∙ ap (λ (n : ℕ). n % 2 ^ 64) longer))
            grown
            (inr record { slot = out_with s r id v at serves; seat = id; view = w; there = set_here s.views id w (at_below s.views id v at); served = serves })
            (omega arith)
            (refl, refl, refl, refl)
            (Each-map (λ e. caller e ≡ v.number) (λ e. caller e < length s.views) added
            (λ e named. let id_is = known.named in let inside = at_below s.views id v at in omega arith) own)
            foreign
            (λ j u other there alive. others_wait s r id v at serves turn.0 r.served r.drawn list (omega arith) (omega arith) j u other there alive)
            (λ _. record {
              named = known.named;
              fixed = known.fixed;
              seen = ([], sym (append-nil list));
              beside = subst (λ l. Begins l v.beside) (sym grown) (begins-more r.log added v.beside known.beside);
              mine = mine;
              joined = subst (AreMade caller v.joined) (sym grown) (AreMade-more r.log added v.joined known.joined (Each-map (λ c. IsGone s.views c.0) (λ c. made_by caller c.0 added ≡ []) v.joined
                  (λ c gone. foreign c.0 (gone_elsewhere s.views id v at live c.0 gone)) (r.gone id v at)));
              stands = subst (Stands r.served r.drawn list v.ticket list) (sym serves) (turn.0, refl);
            })
            (λ j u other there one has. others_apart s r id v at has j u other there one),
        refl,
      )

  pub pass_step : (slots id : ℕ) (me : Me (Option T) V) (value : T) → me.0.stage ≡ Serving → me.1 ≡ (0, Some value) ∷ [] → entries value ≡ me.0.seen → me.0.part ≡ Some (fixed value)
      → Allows Rule slots id me 1 (λ n. (n + 1) % 2 ^ 64) (λ _ n. passed me n)
  pass_step slots id me value serves slot list stays_fixed s r _ at _ =
      let v : V = me.0 in
      let w : V = record v { stage = Idle } in
      let live : living_of v ≡ 1 = ap living_at serves in
      let has : tickets_of v ≡ 1 = ap tickets_at serves in
      let k = r.knows id v at live in
      let turn = subst (Stands r.served r.drawn r.log v.ticket v.seen) serves k.stands in
      let empty = out_with s r id v at serves in (
        w,
        gives,
        tt,
        quiet s r id v w _ _ r.drawn (r.served + 1) at live
            (ap (λ (ws : List ℕ). set ws 1 ((slice_index ws 1 + 1) % 2 ^ 64)) r.words ∙ ap (λ (n : ℕ). r.drawn % 2 ^ 64 ∷ n ∷ length r.log % 2 ^ 64 ∷ []) (counts r.served 1))
            (inl record {
              value = value;
              slot = (λ i. put_back (empty i) (slot i));
              list = list ∙ turn.1;
              stays = some_is (fixed value) part (sym stays_fixed ∙ k.fixed);
              unserved = each_set (λ _ u. u.stage ≢ Serving) s.views id w (not_serving Idle refl)
                  (λ j u other there serves_too.
                  let other_turn = subst (Stands r.served r.drawn r.log u.ticket u.seen) serves_too (r.knows j u there (ap living_at serves_too)).stands in
                  others_apart s r id v at has j u other there (ap tickets_at serves_too) (other_turn.0 ∙ sym turn.0));
            })
            (omega arith)
            (sym live, refl, refl, refl)
            (λ j u other there alive. others_wait s r id v at serves turn.0 (r.served + 1) r.drawn r.log (omega arith) (omega arith) j u other there alive)
            (λ _. record { named = k.named; fixed = k.fixed; seen = k.seen; beside = k.beside; mine = k.mine; joined = k.joined; stands = tt })
            (λ j u other there one none_left. absurd (omega arith)),
        (λ i. (w, rest (slot i))),
      )

  pub settle_step : (slots id : ℕ) (me : Me (Option T) V) → me.0.stage ≡ Idle → Allows Rule slots id me 0 (λ n. n) (λ _ n. settled me n)
  settle_step slots id me idle s r _ at _ =
      let v : V = me.0 in
      let w : V = record v { seen = r.log; beside = [] } in
      let live : living_of v ≡ 1 = ap living_at idle in
      let k = r.knows id v at live in
      let unserved = not_serving v.stage (ap serving_at idle) in (
        w,
        keeps,
        tt,
        quiet s r id v w _ s.homes r.drawn r.served at live
            (ap (λ (ws : List ℕ). set ws 0 (slice_index ws 0)) r.words)
            (stays s.homes r.log s.views id v w at unserved unserved r.value)
            (omega arith)
            (refl, refl, refl, refl)
            (λ j u other there alive. (r.knows j u there alive).stands)
            (λ _. record {
              named = k.named;
              fixed = k.fixed;
              seen = ([], sym (append-nil r.log));
              beside = (r.log, refl);
              mine = k.mine;
              joined = k.joined;
              stands = subst (Stands r.served r.drawn r.log v.ticket r.log) (sym idle) tt;
            })
            (λ j u other there one has. others_apart s r id v at has j u other there one),
        (r.log, refl, k.seen, k.beside),
      )
