-- What is no message needs no sender.
use Rattle.std.proofs.Common.{◌≡◌, ℕ, false, List, true≢false}
use Rattle.ballot_base.specs.declared.message.Message.{Message}
use Rattle.broker_spec.specs.declared.command.Command.{Command}
use Rattle.world_base.specs.declared.node_core.item.Item.{Item}
use Rattle.world_base.specs.declared.node_core.item.Item.TheVariants.{Peer, Tick, Opened, Bytes, Ended, Expel, Cut, Crash}
use Rattle.run_history.specs.Sending.{WasSentTo, is_message}

pub outside_sent : (sent : List (ℕ × Message Command)) (number : ℕ) (item : Item) → is_message item ≡ false → WasSentTo sent number item
outside_sent sent number (Peer message) none = absurd (true≢false none)
outside_sent sent number (Tick now) none = tt
outside_sent sent number (Opened port now) none = tt
outside_sent sent number (Bytes port piece now) none = tt
outside_sent sent number (Ended port) none = tt
outside_sent sent number (Expel client) none = tt
outside_sent sent number Cut none = tt
outside_sent sent number Crash none = tt
