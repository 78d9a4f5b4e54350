use Rattle.std.proofs.Common.{arith}
use Rattle.links.proofs.of_message_form.Answered.{is_found, is_read}
use Rattle.links.proofs.message_form.message_readers.read_message.Goals as goal

pub returns-clause-found : goal.returns-clause-found
returns-clause-found c =
    is_found c.args.bytes.now c.read_kind_of_fault.result (λ i. omega (arith, c.type_inv.bytes i)) c.read_kind_of_fault.ensures.exact

pub returns-clause-only : goal.returns-clause-only
returns-clause-only c = is_read c.args.bytes.now c.read_kind_of_fault.result c.read_kind_of_fault.ensures.exact
