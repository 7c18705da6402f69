use Rattle.std.proofs.Common.{◌≡◌, Some, slice_get, get_or, subst, ap, ◌∙◌, arith, below_more, []}
use Rattle.std.specs.Prelude.{All}
use Rattle.std.specs.String.{string_bytes}
use Rattle.std.proofs.lemmas.Option.{slice_get-get_or}
use Rattle.flow_model.specs.declared.history.Entry.{Entry}
use Rattle.flow_model.specs.declared.history.Step.TheVariants.{Took}
use Rattle.flow_record.specs.History.{IsSmall, entry_line, history_text, history_of}
use Rattle.flow_record.proofs.HistoryLemmas.{history_there}
use Rattle.flow_record.proofs.PieceLemmas.{flat_more, flat_all}
use Rattle.flow_record.proofs.history.print_history.Goals as goal

pub loop-entry-preserved : goal.loop-entry-preserved
loop-entry-preserved c =
    let xs = c.args.entries.now in
    let i = c.loop-entry.entry-index in
    let read : Entry = record { by = 0; step = Took 0 0 } in
    record {
      text = flat_more entry_line xs i read [] (string_bytes c.loop-entry.text) (string_bytes c.push_entry.new.text) c.loop-entry-test.true
          c.loop-entry.invariant.text c.in_ok-push_entry.ensures.text;
      small = below_more (λ k. (d : Entry) → IsSmall (get_or xs k d)) i c.loop-entry.invariant.small (λ d.
          let here : slice_get xs i ≡ Some (get_or xs i read) = slice_get-get_or xs i read c.loop-entry-test.true in
          let there : slice_get xs i ≡ Some (get_or xs i d) = slice_get-get_or xs i d c.loop-entry-test.true in
          let same : get_or xs i read ≡ get_or xs i d = cc in
          subst IsSmall same c.push_entry.ensures.small);
    }

pub returns-clause-text : goal.returns-clause-text
returns-clause-text c =
    flat_all entry_line c.args.entries.now c.loop-entry.entry-index [] c.into_bytes.result.items c.loop-entry-test.false
    (ap (λ v. v.items) c.into_bytes.ensures.value ∙ c.loop-entry.invariant.text)

pub returns-clause-read_back : goal.returns-clause-read_back
returns-clause-read_back c =
    let small : All IsSmall c.args.entries.now = λ k d h. c.loop-entry.invariant.small k (omega arith) d in
    let text : c.into_bytes.result.items ≡ history_text c.args.entries.now =
    flat_all entry_line c.args.entries.now c.loop-entry.entry-index [] c.into_bytes.result.items c.loop-entry-test.false
    (ap (λ v. v.items) c.into_bytes.ensures.value ∙ c.loop-entry.invariant.text) in
    ap history_of text ∙ history_there c.args.entries.now small
