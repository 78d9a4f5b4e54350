-- The fault of a line, from that of a field.
use Rattle.topics.specs.declared.malformed.MalformedKind.{MalformedKind}
use Rattle.topics.specs.declared.malformed.MalformedKind.TheVariants as kinds
use Rattle.script.specs.declared.error.FieldFault.{FieldFault}
use Rattle.script.specs.declared.error.FieldFault.TheVariants as faults

-- a malformed text is a fault of form; that memory ran out is none
abbrev pub field_fault : MalformedKind → FieldFault
field_fault kinds.Memory = faults.Memory
field_fault _ = faults.Form
