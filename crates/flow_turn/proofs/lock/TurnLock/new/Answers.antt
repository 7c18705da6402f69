use Rattle.std.proofs.Common.{◌≡◌, ◌-◌, ◌<◌, ℕ, ap, arith, get_or, length, ◌∙◌, sym, subst, List, [], ◌∷◌, ◌++◌, Option, Some}
use Rattle.atomic_table.specs.Table.{opening}
use Rattle.flow_turn.specs.Passes.{root_pass}
use Rattle.flow_turn.specs.Turns.{IsInTurns, root_view}
use Rattle.flow_turn.proofs.PassLemmas.{opens, knows_root}
use Rattle.flow_turn.proofs.lock.TurnLock.new.Goals as goal

same_some : {A : Type 0} (x y : A) (o : Option A) → o ≡ Some x → o ≡ Some y → x ≡ y
same_some x y o one two = let e : Some x ≡ Some y = sym one ∙ two in cc

one_there : {A : Type 0} (xs : List A) (n : ℕ) (x : A) → n ≡ length xs → xs ≡ x ∷ [] → 0 < n
one_there xs n x long is = omega (arith, long, ap length is)

-- the value of the only slot comes back
last_popped : {A : Type 0} (xs : List (Option A)) (n : ℕ) (popped : Option (Option A)) (held : Option A) (x y : A) → n ≡ length xs → xs ≡ Some x ∷ [] →
    ((d : Option A) → 0 < n → popped ≡ Some (get_or xs (n - 1) d)) → popped ≡ Some held → held ≡ Some y → y ≡ x
last_popped xs n popped held x y long is value one two =
    let place : n - 1 ≡ 0 = omega (arith, long, ap length is) in
    let there : get_or xs (n - 1) held ≡ Some x = ap (λ k. get_or xs k held) place ∙ ap (λ l. get_or l 0 held) is in
    same_some y x held two (same_some held (Some x) popped one (value held (one_there xs n (Some x) long is) ∙ ap Some there))

pub new-requires : goal.new-requires
new-requires g c =
    let items = c.in_default.ensures.items ∙ ap (λ xs. xs ++ Some c.args.value ∷ []) c.new-slots.ensures.items in
    let part = g.T.Kept.fixed c.of-key.result.value in
    subst (λ (xs : List (Option g.row.T.Denot)). IsInTurns g.T.Kept.entries g.T.Kept.caller g.T.Kept.fixed part (opening (0 ∷ 0 ∷ 0 ∷ []) xs (root_view part))) (sym items)
    (opens g.T.Kept.entries g.T.Kept.caller g.T.Kept.fixed part c.args.value c.requires (ap g.T.Kept.fixed (sym c.of-key.ensures)))

pub returns-in-Ok-clause-ok : goal.returns-in-Ok-clause-ok
returns-in-Ok-clause-ok g c =
    let made = c.in-Ok.ensures.ok in knows_root c.in-Ok.seat c.in-Ok.table.shared.table_id _ made.2 made.4 ∙ ap (λ part. root_pass c.in-Ok.table.shared.table_id (g.T.Kept.fixed part)) c.of-key.ensures

pub returns-in-Err-clause-err : goal.returns-in-Err-clause-err
returns-in-Err-clause-err g c = same_some c.unwrap.result c.args.value c.in-Err.failed.value c.unwrap.ensures c.in-Err.ensures.value_returned

pub unwrap-requires-in-Err-new : goal.unwrap-requires-in-Err-new
unwrap-requires-in-Err-new g c =
    let slots = c.in-Err-new.field-0.slots in
    let held = c.in-Err-new.ensures.err ∙ c.in_default.ensures.items ∙ ap (λ xs. xs ++ Some c.args.value ∷ []) c.new-slots.ensures.items in
    c.pop.ensures.variant.1 (one_there slots.items slots.len (Some c.args.value) slots.ok.0 held)

pub returns-clause-err : goal.returns-clause-err
returns-clause-err g c =
    let slots = c.in-Err-new.field-0.slots in
    let held = c.in-Err-new.ensures.err ∙ c.in_default.ensures.items ∙ ap (λ xs. xs ++ Some c.args.value ∷ []) c.new-slots.ensures.items in
    last_popped slots.items slots.len c.pop.result c.unwrap-in-Err-new.result c.args.value c.unwrap-in-Err-new-2.result slots.ok.0 held c.pop.ensures.value
    c.unwrap-in-Err-new.ensures c.unwrap-in-Err-new-2.ensures
