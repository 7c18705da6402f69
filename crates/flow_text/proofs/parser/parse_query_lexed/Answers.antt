use Rattle.std.proofs.Common.{rules}
use Rattle.std.proofs.lemmas.Result.{err_from_is_err_and}
use Rattle.flow_form.specs.Script.{asked}
use Rattle.flow_grammar.proofs.Reading.{queries_are_read}
use Rattle.flow_text.proofs.ParserLemmas.{derived, written, refused}
use Rattle.flow_text.proofs.parser.parse_query_lexed.Goals as goal

pub returns-in_err-query-clause-refused : goal.returns-in_err-query-clause-refused
returns-in_err-query-clause-refused c =
    let p = err_from_is_err_and c.from_residual.result c.from_residual.ensures.1 in
    rw (p.1, p.2) (refused queries_are_read c.lexed.view_is c.deref.ensures.value _ _ _ c.lexed.invariant c.in_err-query.ensures.refused)

pub check_query_names-requires : goal.check_query_names-requires
check_query_names-requires c = derived queries_are_read c.lexed.view_is c.deref.ensures.value (asked c.in_ok-query.query) c.in_ok-query.ensures.ok

pub returns-in-Ok-clause-ok : goal.returns-in-Ok-clause-ok
returns-in-Ok-clause-ok c = record {
  writes = written queries_are_read c.lexed.view_is c.deref.ensures.value (asked c.in_ok-query.query) c.lexed.invariant c.in_ok-query.ensures.ok;
  of_events = search rules;
}
