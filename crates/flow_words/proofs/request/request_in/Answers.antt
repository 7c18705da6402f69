use Rattle.std.proofs.Common.{rules, codes}
use Rattle.clap.specs.Words.{found_of}
use Rattle.flow_words.proofs.Requests.{in_bounds, mode_found, no_request, with_no_mode, without_mode}
use Rattle.flow_words.proofs.request.request_in.Goals as goal

pub returns-in_err-get_str-clause-call : goal.returns-in_err-get_str-clause-call
returns-in_err-get_str-clause-call c =
    no_request (found_of c.args.matches.now) c.from_residual.result (search rules) (without_mode (found_of c.args.matches.now) (search rules))

pub returns-in_err-mode_called-clause-call : goal.returns-in_err-mode_called-clause-call
returns-in_err-mode_called-clause-call c =
    no_request (found_of c.args.matches.now) c.from_residual-in_err-mode_called.result (search rules)
    (with_no_mode (found_of c.args.matches.now) c.in_ok-get_str.field-0.now c.in_ok-get_str.ensures c.in_err-mode_called.ensures)

pub returns-in_err-number_in-clause-call : goal.returns-in_err-number_in-clause-call
returns-in_err-number_in-clause-call c =
    no_request (found_of c.args.matches.now) c.from_residual-in_err-number_in.result (search rules) (λ request of. c.in_err-number_in.ensures request.steps of.steps)

pub returns-in_err-number_in-2-clause-call : goal.returns-in_err-number_in-2-clause-call
returns-in_err-number_in-2-clause-call c =
    no_request (found_of c.args.matches.now) c.from_residual-in_err-number_in-2.result (search rules) (λ request of. c.in_err-number_in-2.ensures request.workers of.workers)

pub returns-in_err-number_in-3-clause-call : goal.returns-in_err-number_in-3-clause-call
returns-in_err-number_in-3-clause-call c =
    no_request (found_of c.args.matches.now) c.from_residual-in_err-number_in-3.result (search rules) (λ request of. c.in_err-number_in-3.ensures request.seed of.seed)

pub returns-in_err-number_in-4-clause-call : goal.returns-in_err-number_in-4-clause-call
returns-in_err-number_in-4-clause-call c =
    no_request (found_of c.args.matches.now) c.from_residual-in_err-number_in-4.result (search rules) (λ request of. c.in_err-number_in-4.ensures request.size of.size)

pub returns-clause-call : goal.returns-clause-call
returns-clause-call c = record {
  mode = mode_found (found_of c.args.matches.now) c.in_ok-get_str.field-0.now c.in_ok-mode_called.field-0 c.in_ok-get_str.ensures c.in_ok-mode_called.ensures;
  steps = c.in_ok-number_in.ensures;
  workers = c.in_ok-number_in-2.ensures;
  seed = c.in_ok-number_in-3.ensures;
  size = c.in_ok-number_in-4.ensures;
}

pub returns-clause-within : goal.returns-clause-within
returns-clause-within c =
    let steps = in_bounds (found_of c.args.matches.now) (codes "steps") c.in_ok-number_in.field-0 1 1000000 c.in_ok-number_in.ensures c.requires.steps in
    let workers = in_bounds (found_of c.args.matches.now) (codes "workers") c.in_ok-number_in-2.field-0 1 64 c.in_ok-number_in-2.ensures c.requires.workers in
    let seed = in_bounds (found_of c.args.matches.now) (codes "seed") c.in_ok-number_in-3.field-0 0 65536 c.in_ok-number_in-3.ensures c.requires.seed in
    let size = in_bounds (found_of c.args.matches.now) (codes "size") c.in_ok-number_in-4.field-0 1 128 c.in_ok-number_in-4.ensures c.requires.size in
    record {
      steps_some = steps.0;
      steps_few = steps.1;
      workers_some = workers.0;
      workers_few = workers.1;
      seed = seed.1;
      size_some = size.0;
      size_few = size.1;
    }
