-- What a seat has in hand in its turn, and what it knows after its job.
use Rattle.std.proofs.Common.{◌≡◌, ℕ, ◌+◌, ◌-◌, ◌%◌, ◌^◌, List, [], ◌∷◌, ◌++◌, length, drop, sym, refl, ap, ◌∙◌, subst, arith, Option, Some, None, length-append}
use Rattle.std.proofs.Math.Seq.{drop-append_seam}
use Rattle.flow_model.specs.Lists.{Each}
use Rattle.atomic_table.specs.Table.{rest, Allows}
use Rattle.atomic_table.specs.Seated.{TableId}
use Rattle.atomic_table.specs.declared.shared.Seat.{Seat}
use Rattle.flow_turn.specs.declared.view.View.{View}
use Rattle.flow_turn.specs.declared.view.Stage.TheVariants.{Serving}
use Rattle.flow_turn.specs.Entries.{Grows, Finds}
use Rattle.flow_turn.specs.Turns.{IsInTurns}
use Rattle.flow_turn.specs.Steps.{Seated, list_in, counted, drew, Takes}
use Rattle.flow_turn.specs.Passes.{Knowledge, known_of, Works, Turned}
use Rattle.flow_turn.proofs.RuleLemmas.{count_step}

module _ {T : Type 0} where
  -- the value in a slot, in place of the one given
  abbrev pub value_in : T → Option T → T
  value_in other None = other
  value_in other (Some value) = value

  abbrev first_of_slots : T → List (ℕ × Option T) → T
  first_of_slots other [] = other
  first_of_slots other (x ∷ xs) = value_in other x.1

  -- a seat has one value in hand
  pub same_value : (slots : List (ℕ × Option T)) (value got : T) (found : Option T) → slots ≡ (0, Some value) ∷ [] → slots ≡ (0, found) ∷ rest slots → found ≡ Some got → value ≡ got
  same_value slots value got found held taken is = ap (first_of_slots value) (sym held ∙ taken) ∙ ap (value_in value) is

module _ {E F : Type 0} where
  abbrev pub known_by : TableId → View E F → Knowledge E F
  known_by table v = record { lock = table; number = v.number; given = v.given; outs = v.outs; seen = v.seen; mine = v.mine; joined = v.joined; part = v.part }

module _ {T E F : Type 0} (entries : T → List E) where
  pub counts_work : (caller : E → ℕ) (fixed : T → F) (part : F) (slots id : ℕ) (me put : Seated T E F) (value after : T) (by before now : ℕ) → me.0.stage ≡ Serving → me.0.seen ≡ entries value → me.0.number ≡ by
      → put ≡ (me.0, (0, Some after) ∷ []) → (grown : Grows caller by (entries value) (entries after)) → before ≡ length (entries value) → now ≡ length (entries after)
      → Allows (IsInTurns entries caller fixed part) slots id put 2 (λ n. (n + (now - before)) % 2 ^ 64) (λ _ n. counted entries put n)
  counts_work caller fixed part slots id me put value after by before now serves seen number in_hand grown counted_before counted_now =
      let added = grown.0 in
      let longer : now ≡ before + length added = counted_now ∙ (ap length grown.1 ∙ (length-append (entries value) added ∙ ap (λ (n : ℕ). n + length added) (sym counted_before))) in
      subst (λ (m : Seated T E F). Allows (IsInTurns entries caller fixed part) slots id m 2 (λ n. (n + (now - before)) % 2 ^ 64) (λ _ n. counted entries m n)) (sym in_hand)
      (count_step entries caller fixed part slots id (me.0, (0, Some after) ∷ []) after added (now - before) serves refl (grown.1 ∙ ap (λ l. l ++ added) (sym seen))
      (subst (λ (n : ℕ). Each (λ e. caller e ≡ n) added) (sym number) grown.2) (omega arith))

  pub learns : (old last new : Seat (Option T) (View E F)) (after : T) (added : List E) → last.table_id ≡ old.table_id → new.table_id ≡ last.table_id
      → last.me ≡ (old.me.0, (0, Some after) ∷ []) → counted entries last.me new.me → (let v : View E F = old.me.0 in entries after ≡ v.seen ++ added)
      → (let known : Knowledge E F = known_of old in known_of new ≡ record known { seen = entries after; mine = known.mine ++ added })
  learns old last new after added same again in_hand count grows =
      let v : View E F = old.me.0 in
      let new_ones : drop (length v.seen) (entries after) ≡ added = ap (drop (length v.seen)) grows ∙ drop-append_seam v.seen added in
      (λ i. known_by ((again ∙ same) i) (count i).0)
      ∙ ((λ i. let m : Seated T E F = in_hand i in let u : View E F = m.0 in known_by old.table_id (record u { seen = list_in entries m.1; mine = u.mine ++ drop (length u.seen) (list_in entries m.1) }))
      ∙ (λ i. known_by old.table_id (record v { seen = entries after; mine = v.mine ++ new_ones i })))

  pub works : {A : Type 0} (caller : E → ℕ) (fixed : T → F) (does : T → ℕ → A → T → Type 0) (old last new : Seat (Option T) (View E F)) (value after : T) (by : ℕ) (answer : A)
      → last.table_id ≡ old.table_id → new.table_id ≡ last.table_id → last.me ≡ (old.me.0, (0, Some after) ∷ []) → counted entries last.me new.me → (let v : View E F = old.me.0 in (v.seen ≡ entries value) × (v.number ≡ by))
      → (grown : Grows caller by (entries value) (entries after)) → fixed after ≡ fixed value → does value by answer after → Works entries caller fixed does value (known_of old) answer (known_of new)
  works caller fixed does old last new value after by answer same again in_hand count is grown stays done = record {
    after = after;
    added = grown.0;
    done = subst (λ (n : ℕ). does value n answer after) (sym is.1) done;
    list = grown.1;
    own = subst (λ (n : ℕ). Each (λ e. caller e ≡ n) grown.0) (sym is.1) grown.2;
    stays = stays;
    learns = learns old last new after grown.0 same again in_hand count (grown.1 ∙ ap (λ l. l ++ grown.0) (sym is.0));
  }

  -- one turn: a ticket is drawn, the value is taken, the job is done with it, and what the caller knows stays as it passes the turn on
  pub turns : {A : Type 0} (caller : E → ℕ) (fixed : T → F) (does : T → ℕ → A → T → Type 0) (old drawn served worked new : Seat (Option T) (View E F)) (ticket : ℕ) (answer : A)
      → drawn.table_id ≡ old.table_id → served.table_id ≡ drawn.table_id → drew old.me ticket drawn.me → Takes entries caller fixed drawn.me served.me
      → ((before : T) × (served.me.1 ≡ (0, Some before) ∷ []) × Works entries caller fixed does before (known_of served) answer (known_of worked))
      → known_of new ≡ known_of worked → Turned entries caller fixed does (known_of old) answer (known_of new)
  turns {A} caller fixed does old drawn served worked new ticket answer same again draws takes work kept =
      let known : Knowledge E F = known_of old in
      let value = work.0 in
      let knows : known_of served ≡ record known { seen = entries takes.0 } =
      (λ i. known_by ((again ∙ same) i) (takes.1 i).0)
      ∙ (λ i. let v : View E F = (draws.1 i).0 in known_by old.table_id (record v { stage = Serving; seen = entries takes.0 })) in
      let w : Works entries caller fixed does value (record known { seen = entries takes.0 }) answer (known_of worked) =
      subst (λ (k : Knowledge E F). Works entries caller fixed does value k answer (known_of worked)) knows work.2 in
      let found = subst (λ (m : Seated T E F). Finds entries caller fixed m.0.number m.0.seen m.0.mine m.0.joined m.0.part takes.0) draws.1 takes.2 in
      record {
        value = value;
        finds = subst (Finds entries caller fixed known.number known.seen known.mine known.joined known.part) (sym (ap (first_of_slots value) (sym work.1 ∙ ap (λ m. m.1) takes.1))) found;
        works = record { after = w.after; added = w.added; done = w.done; list = w.list; own = w.own; stays = w.stays; learns = kept ∙ w.learns };
      }
