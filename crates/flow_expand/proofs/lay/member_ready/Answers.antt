use Rattle.std.proofs.Common.{map, subst}
use Rattle.flow_model.specs.Lists.{Each}
use Rattle.flow_form.specs.Form.{shape_of}
use Rattle.flow_form.specs.Names.{names_in}
use Rattle.flow_expand.specs.Lay.{IsSettled}
use Rattle.flow_expand.proofs.Members.{each_of_one}
use Rattle.flow_expand.proofs.Declarations.{names_in_shapes}
use Rattle.flow_expand.proofs.lay.member_ready.Goals as goal

pub returns : goal.returns
returns c =
    let P = IsSettled c.args.directory.now c.args.laid.now in
    each_of_one P names_in shape_of c.args.forms.now c.args.place c.args.form.now c.requires.within c.requires.is
    (subst (Each P) (names_in_shapes (map shape_of c.args.forms.now)) c.requires.ready)
