-- The workflow that a text says, and what it is compiled to.
use Rattle.std.specs.Prelude.{ℕ, List}
use Rattle.flow_form.specs.Script.{Said}
use Rattle.flow_text.specs.Saying.{Says}
use Rattle.flow_front.specs.Prepared.{IsPrepared}
use Rattle.flow_front.specs.Refusal.{workflow_part}
use Rattle.flow_front.specs.declared.prepared.Prepared.{Prepared}

abbrev pub IsPreparedOf : List ℕ → Prepared → Type 0
IsPreparedOf text p = (s : Said) × Says (workflow_part text) s × IsPrepared s p.workflow p.compiled
