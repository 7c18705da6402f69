use Rattle.std.proofs.Common.{◌≡◌, ◌≤◌, ◌+◌, ℕ, List, length, take, arith, refl, ap}
use Rattle.std.proofs.lemmas.List.{length-take-le, take_rest}
use Rattle.flow_fault.proofs.Starts.{spot_begins, spot_line, spot_within}
use Rattle.flow_fault.proofs.spot.spot_of.Goals as goal

pub returns : goal.returns
returns c =
    let text : List ℕ = c.args.text.now in
    let place : ℕ = c.args.place in
    let start : ℕ = c.line_start-start.result in
    let size : length (take place text) ≡ place = length-take-le place text c.requires in
    let before : start ≤ place = omega (arith, size, c.line_start-start.ensures.within) in
    let line_is = spot_line text _ _ start c.line_length-length.result (take_rest text start) c.line_length-length.ensures.length refl in
    record {
      start = start;
      begins = spot_begins text start place before c.line_start-start.ensures.begins;
      line_is = line_is;
      behind = before;
      within = spot_within text _ start place before c.requires c.line_start-start.ensures.no_feed line_is;
      line = ap (λ n. n + 1) c.feeds.ensures.count;
      column = omega (arith, before);
    }
