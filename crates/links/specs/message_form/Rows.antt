-- Worked examples: messages of numbers and members from node 3, and their bytes written by hand.
use Rattle.std.specs.Prelude.{◌≡◌, ℕ, List, [], ◌∷◌, Ok}
use Rattle.std.specs.List.{AllByRecursion}
use Rattle.ballot_base.specs.declared.message.Body.{Body}
use Rattle.ballot_base.specs.declared.message.Body.TheVariants as bodies
use Rattle.ballot_base.specs.declared.message.Message.{Message}
use Rattle.broker_spec.specs.declared.command.Command.{Command}
use Rattle.links.specs.message_form.Messages.{written}
use Rattle.links.specs.message_form.Outcome.{message_of}

-- what a message says, and its bytes
abbrev pub Row : Type 0
Row = Body Command × List ℕ

-- a message from node 3
abbrev pub from_node_3 : Body Command → Message Command
from_node_3 body = record { from = 3; body = body }

-- each message is written so
abbrev pub AreWrittenSo : List Row → Type 0
AreWrittenSo rows = AllByRecursion (λ row. written (from_node_3 row.0) ≡ row.1) rows

-- and read so
abbrev pub AreReadSo : List Row → Type 0
AreReadSo rows = AllByRecursion (λ row. message_of row.1 ≡ Ok (from_node_3 row.0)) rows

-- of one number, and of two
abbrev pub number_rows : List Row
number_rows =
    (bodies.Activate 7, 6 ∷ 3 ∷ 0 ∷ 0 ∷ 0 ∷ 0 ∷ 0 ∷ 0 ∷ 0 ∷ 7 ∷ [])
    ∷ (bodies.Activated 258, 7 ∷ 3 ∷ 0 ∷ 0 ∷ 0 ∷ 0 ∷ 0 ∷ 0 ∷ 1 ∷ 2 ∷ [])
    ∷ (bodies.Superseded 0x100000000, 8 ∷ 3 ∷ 0 ∷ 0 ∷ 0 ∷ 1 ∷ 0 ∷ 0 ∷ 0 ∷ 0 ∷ [])
    ∷ (
      bodies.Join 258 1,
      2 ∷ 3 ∷ 0 ∷ 0 ∷ 0 ∷ 0 ∷ 0 ∷ 0 ∷ 1 ∷ 2 ∷ 0 ∷ 0 ∷ 0 ∷ 0 ∷ 0 ∷ 0 ∷ 0 ∷ 1 ∷ [],
    )
    ∷ (
      bodies.Installed 7 256,
      5 ∷ 3 ∷ 0 ∷ 0 ∷ 0 ∷ 0 ∷ 0 ∷ 0 ∷ 0 ∷ 7 ∷ 0 ∷ 0 ∷ 0 ∷ 0 ∷ 0 ∷ 0 ∷ 1 ∷ 0 ∷ [],
    )
    ∷ (
      bodies.Held 7 255,
      10 ∷ 3 ∷ 0 ∷ 0 ∷ 0 ∷ 0 ∷ 0 ∷ 0 ∷ 0 ∷ 7 ∷ 0 ∷ 0 ∷ 0 ∷ 0 ∷ 0 ∷ 0 ∷ 0 ∷ 255 ∷ [],
    )
    ∷ (
      bodies.Commit 7 0x0102030405060708,
      11 ∷ 3 ∷ 0 ∷ 0 ∷ 0 ∷ 0 ∷ 0 ∷ 0 ∷ 0 ∷ 7 ∷ 1 ∷ 2 ∷ 3 ∷ 4 ∷ 5 ∷ 6 ∷ 7 ∷ 8 ∷ [],
    )
    ∷ []

-- ballot 2 of nodes 1 and 3, after ballot 1 of nodes 1, 2 and 254
abbrev pub member_rows : List Row
member_rows = (
  bodies.NewBallot 2 (1 ∷ 3 ∷ []) 1 (1 ∷ 2 ∷ 254 ∷ []),
  1 ∷ 3 ∷ 0 ∷ 0 ∷ 0 ∷ 0 ∷ 0 ∷ 0 ∷ 0 ∷ 2 ∷ 2 ∷ 1 ∷ 3
      ∷ 0 ∷ 0 ∷ 0 ∷ 0 ∷ 0 ∷ 0 ∷ 0 ∷ 1 ∷ 3 ∷ 1 ∷ 2 ∷ 254 ∷ [],
) ∷ []
