use Rattle.std.proofs.Common.{true≢false, ap, sym, refl, subst, ◌∙◌, [], ◌∷◌, ◌++◌}
use Rattle.std.specs.Prelude.{is_some, ◌||◌}
use Rattle.flow_form.specs.Form.{shape_of}
use Rattle.flow_form.specs.Names.{declared_names}
use Rattle.flow_form.specs.Script.{declared}
use Rattle.flow_text.specs.KnownNames.{HasJust, as_event, has}
use Rattle.flow_text.proofs.KnownNames.{given, given_flow, held_more, held_again, event_known, flow_known}
use Rattle.flow_text.proofs.known.Known.add.Goals as goal

pub returns-in_ok-earlier-in-Event : goal.returns-in_ok-earlier-in-Event
returns-in_ok-earlier-in-Event c = λ ds h.
    event_known ds (declared c.args.decl.now) c.in-Event.name c.in-Event.field-1 c.args.self.now _ (ap declared c.in-Event.is) h
    (given is_some c.args.self.now.names c.insert.new.self c.in-Event.name _ refl c.in_ok-earlier-in-Event.ensures.updates)
    (given as_event c.args.self.now.names c.insert.new.self c.in-Event.name _ refl c.in_ok-earlier-in-Event.ensures.updates)
    (ap (λ z. c.args.self.now.is_again || z) (c.is_some.ensures ∙ ap is_some c.in_ok-earlier-in-Event.ensures.old))

pub returns-then-contains_key : goal.returns-then-contains_key
returns-then-contains_key c = λ ds h.
    flow_known ds (declared c.args.decl.now) c.in-Flow.name (shape_of c.in-Flow.field-1) c.args.self.now _ (ap declared c.in-Flow.is) h
    (held_again (has c.args.self.now.names) (declared_names ds) c.in-Flow.name (sym c.contains_key.ensures ∙ c.if-contains_key.true) h.declared) refl (λ e. absurd (true≢false e))

pub returns-in_ok-insert-in-Flow : goal.returns-in_ok-insert-in-Flow
returns-in_ok-insert-in-Flow c = λ ds h.
    let new = sym c.contains_key.ensures ∙ c.if-contains_key.false in
    flow_known ds (declared c.args.decl.now) c.in-Flow.name (shape_of c.in-Flow.field-1) c.args.self.now _ (ap declared c.in-Flow.is) h
    (subst (λ z. HasJust z (declared_names ds ++ c.in-Flow.name ∷ []))
    (sym (given is_some c.args.self.now.names c.insert-else-contains_key.new.self c.in-Flow.name _ refl c.in_ok-insert-in-Flow.ensures.updates))
    (held_more (has c.args.self.now.names) (declared_names ds) c.in-Flow.name h.declared))
    (given_flow c.args.self.now.names c.insert-else-contains_key.new.self c.in-Flow.name new c.in_ok-insert-in-Flow.ensures.updates) (λ e. (e, new))
