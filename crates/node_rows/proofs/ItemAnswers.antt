-- ItemAnswers.antt: the item of a step, by its word.
use Rattle.std.proofs.Common.{◌≡◌, true, ℕ, [], ◌∷◌, Some, Ok, codes, bytes_eq, subst}
use Rattle.rows.specs.Fields.{Text, number_of}
use Rattle.ballot_base.specs.declared.message.Message.{Message}
use Rattle.broker_spec.specs.declared.command.Command.{Command}
use Rattle.links.specs.message_form.Outcome.{message_of}
use Rattle.world_base.specs.declared.node_connections.port.Port.{Port}
use Rattle.world_base.specs.declared.node_core.item.Item.TheVariants as items
use Rattle.node_rows.specs.Items.{Items}
use Rattle.node_rows.specs.Values.{IsPort}

pub message_item : (word field bytes : Text) (message : Message Command) → bytes_eq word (codes "message") ≡ true
    → bytes ≡ field → message_of bytes ≡ Ok message → Items (word ∷ field ∷ []) (items.Peer message)
message_item word field bytes message is same read =
    Items.message message is (subst (λ (b : Text). message_of b ≡ Ok message) same read)

pub tick_item : (word digits : Text) (time : ℕ) → bytes_eq word (codes "tick") ≡ true → number_of digits ≡ Some time
    → Items (word ∷ digits ∷ []) (items.Tick time)
tick_item word digits time is read = Items.tick time is read

pub opened_item : (word digits when : Text) (port : Port) (time : ℕ) → bytes_eq word (codes "opened") ≡ true
    → IsPort digits port → number_of when ≡ Some time → Items (word ∷ digits ∷ when ∷ []) (items.Opened port time)
opened_item word digits when port time is reads read = Items.opened port time is reads read

pub bytes_item : (word digits when field bytes piece : Text) (port : Port) (time : ℕ) → bytes_eq word (codes "bytes") ≡ true
    → IsPort digits port → number_of when ≡ Some time → bytes ≡ field → piece ≡ bytes
    → Items (word ∷ digits ∷ when ∷ field ∷ []) (items.Bytes port piece time)
bytes_item word digits when field bytes piece port time is reads read same copied =
    subst (λ (b : Text). Items (word ∷ digits ∷ when ∷ b ∷ []) (items.Bytes port piece time)) same
    (subst (λ (b : Text). Items (word ∷ digits ∷ when ∷ b ∷ []) (items.Bytes port piece time)) copied
    (Items.bytes port time is reads read))

pub ended_item : (word digits : Text) (port : Port) → bytes_eq word (codes "ended") ≡ true → IsPort digits port
    → Items (word ∷ digits ∷ []) (items.Ended port)
ended_item word digits port is reads = Items.ended port is reads

pub expel_item : (word field client : Text) → bytes_eq word (codes "expel") ≡ true → client ≡ field
    → Items (word ∷ field ∷ []) (items.Expel client)
expel_item word field client is same =
    subst (λ (c : Text). Items (word ∷ c ∷ []) (items.Expel client)) same (Items.expel is)

pub cut_item : (word : Text) → bytes_eq word (codes "cut") ≡ true → Items (word ∷ []) items.Cut
cut_item word is = Items.cut is

pub crash_item : (word : Text) → bytes_eq word (codes "crash") ≡ true → Items (word ∷ []) items.Crash
crash_item word is = Items.crash is
