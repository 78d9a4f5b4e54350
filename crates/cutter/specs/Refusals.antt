-- The numbers of a cutter's errors.
use Rattle.std.specs.Prelude.{ℕ, Option, Some}
use Rattle.packet.specs.Refusals.{decode_number}
use Rattle.cutter.specs.declared.error.CutError.{CutError}
use Rattle.cutter.specs.declared.error.CutError.TheVariants as errors

-- the number of each error, as in the table of refusals
abbrev pub cut_number : CutError → Option ℕ
cut_number (errors.Decode fault) = decode_number fault
cut_number errors.Memory = Some 12
cut_number errors.Failed = Some 13
