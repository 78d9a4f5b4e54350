-- The numbers of the refusals, as in the table of refusals.
use Rattle.std.specs.Prelude.{ℕ}
use Rattle.command_line.specs.declared.fault.TableFault.{TableFault}
use Rattle.command_line.specs.declared.fault.TableFault.TheVariants.{Shape, Memory}

-- the number of a text that is no table of nodes
abbrev pub table_number : TableFault → ℕ
table_number Shape = 10
table_number Memory = 12
