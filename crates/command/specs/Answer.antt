-- The command that an answer of `parse` is. Assumes nothing.
use Rattle.std.specs.Prelude.{Option as Answer, Some, None}
use Rattle.std.proofs.Math.Option.{Option, none, some}
use Rattle.command.specs.Command.{Command, join, leave, deliver, turn, settle, find, print}
use Rattle.command.specs.declared.Command.{Command as Parsed}
use Rattle.command.specs.declared.Command.TheVariants.{Join, Leave, Deliver, Turn, Settle, Find, Print}

abbrev pub command_as : Parsed → Command
command_as (Join s n v c) = join s n v c
command_as (Leave s) = leave s
command_as (Deliver k t a l d) = deliver k t a l d
command_as Turn = turn
command_as Settle = settle
command_as (Find s n) = find s n
command_as Print = print

abbrev pub as_command : Answer Parsed → Option Command
as_command None = none
as_command (Some c) = some (command_as c)
