-- The status of a process.
use Rattle.std.specs.Prelude.{ℕ}
use Rattle.flow_front.specs.Status as front
use Rattle.flow_keep_cli.specs.declared.status.KeepStatus.{KeepStatus}
use Rattle.flow_keep_cli.specs.declared.status.KeepStatus.TheVariants.{Of, Disk}

-- that of `flow`, and one more
abbrev pub code_of : KeepStatus → ℕ
code_of (Of status) = front.code_of status
code_of Disk = 8
