use Rattle.std.proofs.Common.{refl}
use Rattle.packet_base.proofs.rows.numbers_of_fields.Goals as goal

pub returns : goal.returns
returns c =
    record { empty = λ text e. rw e refl; shortest = λ text e. rw e refl; longest = λ text e. rw e refl; longer = λ text e. rw e refl }
