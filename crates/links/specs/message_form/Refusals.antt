-- The numbers of the refusals, as in the table of refusals.
use Rattle.std.specs.Prelude.{ℕ}
use Rattle.links.specs.declared.message_form.write_fault.WriteFault.{WriteFault}
use Rattle.links.specs.declared.message_form.write_fault.WriteFault.TheVariants.{TooLarge, Memory}

-- the number of a message that is not written
abbrev pub write_number : WriteFault → ℕ
write_number TooLarge = 4
write_number Memory = 12
