use Rattle.std.proofs.Common.{take, map}
use Rattle.flow_model.specs.Lists.{Begins}
use Rattle.flow_form.specs.Form.{shape_of}
use Rattle.flow_expand.specs.Directory.{decls_of}
use Rattle.flow_expand.specs.Lay.{IsFront, IsLaid}
use Rattle.flow_expand.proofs.lay.+laying.Given as goal

abbrev pub invariant-lay_list-loop-place : goal.invariant-lay_list-loop-place
invariant-lay_list-loop-place l = record {
  grown : Begins l.layout.items l.fn.layout.items;
  laid : IsLaid l.directory l.laid l.layout.items;
  front : IsFront (decls_of l.directory) l.layout.items l.how (map shape_of (take l.place l.forms)) l.before;
}
