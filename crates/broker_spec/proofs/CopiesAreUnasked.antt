-- What is sent of the copies that a place makes answers nothing: each is a PUBLISH.
use Rattle.std.proofs.Common.{◌≡◌, true, length, List, ◌∷◌, Option, Some, None}
use Rattle.std.specs.Prelude.{flat_map}
use Rattle.std.specs.List.{AllByRecursion}
use Rattle.broker_spec.specs.Connection.{ConnectionName}
use Rattle.broker_spec.specs.Place.{Client, Place, Past, Limits}
use Rattle.broker_spec.specs.Sessions.{current_connection}
use Rattle.broker_spec.specs.Entries.{copies_at}
use Rattle.broker_spec.specs.Readings.{made_at}
use Rattle.broker_spec.specs.Times.{entries_of}
use Rattle.broker_spec.specs.Sends.{copy_outputs, handed_to, deliveries_to}
use Rattle.broker_spec.specs.AnswerTheorems.{is_unasked}
use Rattle.broker_spec.specs.declared.command.Output.{Output}
use Rattle.broker_spec.proofs.AnswersAreAddressed.{Unasked, weaker, of-each, handed-unasked}

abbrev pub AnswersNothing : Output → Type 0
AnswersNothing answer = is_unasked answer ≡ true

one_client : (limits : Limits) (place : Place) (past : Past) (c : Client) → AllByRecursion AnswersNothing (deliveries_to limits place past c)
one_client limits place past c = by (current_connection past c)
  where
    by : (current : Option ConnectionName) → AllByRecursion AnswersNothing (handed_to current (length past) (copies_at place past c) (made_at (length past) (entries_of limits (place ∷ past) c)))
    by None = tt
    by (Some x) =
        weaker (Unasked x) AnswersNothing (λ answer h. h.1) (copy_outputs x (length past) (copies_at place past c) (made_at (length past) (entries_of limits (place ∷ past) c)))
        (handed-unasked x (length past) (copies_at place past c) (made_at (length past) (entries_of limits (place ∷ past) c)))

pub copies_are_unasked : (limits : Limits) (place : Place) (past : Past) (cs : List Client) → AllByRecursion AnswersNothing (flat_map (deliveries_to limits place past) cs)
copies_are_unasked limits place past cs = of-each AnswersNothing (deliveries_to limits place past) cs (one_client limits place past)
