-- The numbers that the program ends with.
use Rattle.std.specs.Prelude.{ℕ}
use Rattle.mdl_cli.specs.declared.status.Status.{Status}
use Rattle.mdl_cli.specs.declared.status.Status.TheVariants as status

abbrev pub exit_number : Status → ℕ
exit_number status.Done = 0
exit_number status.Refused = 1
exit_number status.Usage = 2
exit_number status.ReadFault = 3
exit_number status.WriteFault = 4
exit_number status.PostFails = 5
exit_number status.StepLimit = 6
exit_number status.Endless = 7
exit_number status.UniformBroken = 8
exit_number status.OutOfMemory = 9
