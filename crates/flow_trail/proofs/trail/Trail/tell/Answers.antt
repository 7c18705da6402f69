use Rattle.std.proofs.Common.{◌≡◌, ◌+◌, ◌-◌, ◌≤◌, ◌^◌, ◌∷◌, ◌++◌, [], List, ℕ, map, length, take, drop, false, ap, sym, ◌∙◌, subst, arith}
use Rattle.std.specs.Result.{is_err}
use Rattle.std.proofs.lemmas.List.{map-append}
use Rattle.flow_trail.specs.Whole.{IsSettled, line_of}
use Rattle.flow_trail.specs.Lines.{Said, said_of, end_of, line_text, trail_text, CanFollow, AreInOrder, Says}
use Rattle.flow_trail.specs.Kept.{HoldsLines}
use Rattle.flow_trail.proofs.TellLemmas.{held_says, nothing, told_leaves, held_more, place_more, order_more, end_more, on_ok}
use Rattle.flow_trail.proofs.trail.Trail.tell.Goals as goal

pub returns-in_err-rest-clause-any_moment : goal.returns-in_err-rest-clause-any_moment
returns-in_err-rest-clause-any_moment g c = λ told whole.
    let t = c.args.self.now in nothing g.D.Disk.moment g.D.Disk.image g.D.Disk.seen t.start (map said_of t.lines.items) (said_of c.args.line) t.place t.in_order t.disk (t.held told whole)

pub returns-in_err-rest-clause-durable : goal.returns-in_err-rest-clause-durable
returns-in_err-rest-clause-durable g c = λ told whole file i.
    let t = c.args.self.now in held_says t.start (map said_of t.lines.items) t.place (g.D.Disk.seen t.disk) (g.D.Disk.image t.disk (g.D.Disk.moment t.disk)) t.in_order (t.held told whole) file i

pub returns-in_err-push-clause-any_moment : goal.returns-in_err-push-clause-any_moment
returns-in_err-push-clause-any_moment g c = λ told whole.
    let t = c.args.self.now in nothing g.D.Disk.moment g.D.Disk.image g.D.Disk.seen t.start (map said_of t.lines.items) (said_of c.args.line) t.place t.in_order t.disk (t.held told whole)

pub returns-in_err-push-clause-durable : goal.returns-in_err-push-clause-durable
returns-in_err-push-clause-durable g c = λ told whole file i.
    let t = c.args.self.now in
    let says = held_says t.start (map said_of t.lines.items) t.place (g.D.Disk.seen t.disk) (g.D.Disk.image t.disk (g.D.Disk.moment t.disk)) t.in_order (t.held told whole) file i in
    rw c.in_err-push.ensures.items says

pub invariant_of-self-2 : goal.invariant_of-self-2
invariant_of-self-2 g c =
    let t = c.args.self.now in
    let before : List Said = map said_of t.lines.items in
    let said : Said = said_of c.args.line in
    let after : map said_of c.push.new.self.items ≡ before ++ said ∷ [] = ap (map said_of) c.in_ok-push.ensures.items ∙ map-append said_of t.lines.items (c.args.line ∷ []) in
    let rest = c.deref.result.now in
    let same : rest ≡ c.in_ok-rest.rest.items = c.deref.ensures.value in
    let line : line_of rest ≡ line_text (end_of t.start before) said ++ 10 ∷ [] =
    subst (λ (l : List ℕ). line_of l ≡ line_text (end_of t.start before) said ++ 10 ∷ []) (sym same) c.in_ok-rest.ensures.line in
    let shut : drop (length rest - 1) rest ≡ 10 ∷ [] = subst (λ (l : List ℕ). drop (length l - 1) l ≡ 10 ∷ []) (sym same) c.in_ok-rest.ensures.shut in
    let size : length c.as_slice.result.now ≡ length rest = ap length (c.as_slice.ensures.value ∙ sym same) in
    let follows : CanFollow (end_of t.start before) said = c.in_ok-rest.ensures.follows in
    let place : t.place + length rest ≡ t.place + length c.as_slice.result.now = omega (arith, size) in
    let room : t.place + length c.as_slice.result.now ≤ 2 ^ 40 = omega (arith, c.in_ok-rest.ensures.room, ap length c.as_slice.ensures.value) in
    record {
      in_order = subst (AreInOrder t.start) (sym after) (order_more t.start before said t.in_order follows);
      ends = c.in_ok-rest.ensures.behind ∙ end_more t.start before said t.in_order follows ∙ ap (end_of t.start) (sym after);
      placed = sym place ∙ place_more t.start before said t.place rest t.in_order follows t.placed line shut ∙ ap (λ (l : List Said). length (trail_text t.start l)) (sym after);
      room = room;
      held = λ told whole.
          let fine : is_err c.append-kept.result ≡ false = sym c.is_err-self.ensures.value ∙ whole in
          let new = c.append-kept.new.disk in
          let settled : IsSettled (t.place + length rest) (g.D.Disk.seen new) (g.D.Disk.image new (g.D.Disk.moment new)) = on_ok c.append-kept.result _ fine c.append-kept.ensures.settled told in
          let written : take (t.place + length rest) (g.D.Disk.seen new) ≡ take t.place (g.D.Disk.seen t.disk) ++ line_of rest = on_ok c.append-kept.result _ fine c.append-kept.ensures.written told in
          let holds = held_more g.D.Disk.moment g.D.Disk.image g.D.Disk.seen t.start before said t.place t.in_order follows rest line t.disk new (t.held told c.in_ok-rest.ensures.whole) settled written in
          subst (λ (l : List Said). HoldsLines t.start l (t.place + length c.as_slice.result.now) (g.D.Disk.seen new) (g.D.Disk.image new (g.D.Disk.moment new))) (sym after)
          (subst (λ n. HoldsLines t.start (before ++ said ∷ []) n (g.D.Disk.seen new) (g.D.Disk.image new (g.D.Disk.moment new))) place holds);
    }

pub returns-in-Ok-clause-any_moment : goal.returns-in-Ok-clause-any_moment
returns-in-Ok-clause-any_moment g c = λ told whole.
    let t = c.args.self.now in
    let before : List Said = map said_of t.lines.items in
    let said : Said = said_of c.args.line in
    let line : line_of c.deref.result.now ≡ line_text (end_of t.start before) said ++ 10 ∷ [] =
    subst (λ (l : List ℕ). line_of l ≡ line_text (end_of t.start before) said ++ 10 ∷ []) (sym c.deref.ensures.value) c.in_ok-rest.ensures.line in
    told_leaves g.D.Disk.moment g.D.Disk.image g.D.Disk.seen t.start before said t.place t.in_order c.in_ok-rest.ensures.follows c.deref.result.now line t.disk c.append-kept.new.disk (t.held told whole)
    (c.append-kept.ensures.any_moment told)

pub returns-clause-any_moment : goal.returns-clause-any_moment
returns-clause-any_moment g c = λ told whole.
    let t = c.args.self.now in
    let before : List Said = map said_of t.lines.items in
    let said : Said = said_of c.args.line in
    let line : line_of c.deref.result.now ≡ line_text (end_of t.start before) said ++ 10 ∷ [] =
    subst (λ (l : List ℕ). line_of l ≡ line_text (end_of t.start before) said ++ 10 ∷ []) (sym c.deref.ensures.value) c.in_ok-rest.ensures.line in
    told_leaves g.D.Disk.moment g.D.Disk.image g.D.Disk.seen t.start before said t.place t.in_order c.in_ok-rest.ensures.follows c.deref.result.now line t.disk c.append-kept.new.disk (t.held told whole)
    (c.append-kept.ensures.any_moment told)

pub returns-in-Ok-clause-durable : goal.returns-in-Ok-clause-durable
returns-in-Ok-clause-durable g c = λ told whole file i.
    let t = c.args.self.now in
    let before : List Said = map said_of t.lines.items in
    let said : Said = said_of c.args.line in
    let after : map said_of c.push.new.self.items ≡ before ++ said ∷ [] = ap (map said_of) c.in_ok-push.ensures.items ∙ map-append said_of t.lines.items (c.args.line ∷ []) in
    let rest = c.deref.result.now in
    let follows : CanFollow (end_of t.start before) said = c.in_ok-rest.ensures.follows in
    let line : line_of rest ≡ line_text (end_of t.start before) said ++ 10 ∷ [] =
    subst (λ (l : List ℕ). line_of l ≡ line_text (end_of t.start before) said ++ 10 ∷ []) (sym c.deref.ensures.value) c.in_ok-rest.ensures.line in
    let fine : is_err c.append-kept.result ≡ false = sym c.is_err-self.ensures.value ∙ whole in
    let new = c.append-kept.new.disk in
    let settled : IsSettled (t.place + length rest) (g.D.Disk.seen new) (g.D.Disk.image new (g.D.Disk.moment new)) = on_ok c.append-kept.result _ fine c.append-kept.ensures.settled told in
    let written : take (t.place + length rest) (g.D.Disk.seen new) ≡ take t.place (g.D.Disk.seen t.disk) ++ line_of rest = on_ok c.append-kept.result _ fine c.append-kept.ensures.written told in
    let holds = held_more g.D.Disk.moment g.D.Disk.image g.D.Disk.seen t.start before said t.place t.in_order follows rest line t.disk new (t.held told c.in_ok-rest.ensures.whole) settled written in
    subst (λ (l : List Said). Says t.start l file) (sym after)
    (held_says t.start (before ++ said ∷ []) (t.place + length rest) (g.D.Disk.seen new) (g.D.Disk.image new (g.D.Disk.moment new)) (order_more t.start before said t.in_order follows) holds file i)
