use Rattle.std.proofs.Common.{arith}
use Rattle.links.proofs.ParcelsFound.{is_found}
use Rattle.links.proofs.parcel_readers.read_parcel.Goals as goal

pub returns-clause-found : goal.returns-clause-found
returns-clause-found c =
    is_found c.args.bytes.now c.read_kind_of_fault.result (λ i. omega (arith, c.type_inv.bytes i)) c.read_kind_of_fault.ensures.exact
