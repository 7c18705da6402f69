use Rattle.std.proofs.Common.{◌≡◌, ◌<◌, ◌∙◌, ℕ, List, [], length, ap, arith}
use Rattle.std.proofs.lemmas.Option.{slice_get-get_or}
use Rattle.flow_model.specs.declared.history.Entry.{Entry}
use Rattle.flow_model.specs.Run.{current_claims, state_of}
use Rattle.flow_core.specs.Run.{Run, schema, now}
use Rattle.flow_reason.proofs.bad.why_bad.Goals as goal

pub returns-clause-bad : goal.returns-clause-bad
returns-clause-bad c =
    let journal : List ℕ = c.args.journal.now in
    let place : ℕ = c.args.place in
    let w = schema c.args.core.now in
    let fresh : (now c.args.core.now).bans ≡ [] = ap (λ (h : List Entry). (state_of w h).bans) c.requires in
    let past = c.if-journal-place.false in
    let below : place < length journal = omega arith in record {
      made = ap (λ (r : Run). (now r).journal) c.look_ahead.ensures ∙ c.has_made.ensures c.if-not-has_made.false;
      untouched = record {
        no_bans = ap (λ (r : Run). (now r).bans) c.look_ahead.ensures ∙ c.come_all.ensures.bans fresh;
        no_claims = ap (λ (r : Run). current_claims (now r)) c.look_ahead.ensures ∙ c.has_none_out.ensures c.if-not-has_none_out.false;
      };
      leaf_is = slice_get-get_or journal place 0 below;
      reason_is = c.in_ok-reason.ensures;
      instead_are = c.in_ok-instead.ensures;
    }
