-- That messages were sent.
use Rattle.std.specs.Prelude.{ℕ, ◌+◌, Bool, true, false, List}
use Rattle.lists.specs.Lists.{Each, In}
use Rattle.ballot_base.specs.declared.message.Effect.{Effect}
use Rattle.ballot_base.specs.declared.message.Effect.TheVariants.{To, Out}
use Rattle.ballot_base.specs.declared.message.Message.{Message}
use Rattle.broker_spec.specs.declared.command.Command.{Command}
use Rattle.broker_spec.specs.declared.command.Output.{Output}
use Rattle.world_base.specs.declared.node_core.item.Item.{Item}
use Rattle.world_base.specs.declared.node_core.item.Item.TheVariants.{Peer}

-- a message with the number of its receiver
pub record Addressed : Type 0 where
  pub receiver : ℕ
  pub message : Message Command

-- if the item is a message, it is among those sent to the node of this number
abbrev pub WasSentTo : List (ℕ × Message Command) → ℕ → Item → Type 0
WasSentTo sent number (Peer message) = In (number, message) sent
WasSentTo sent number item = Unit {0}

-- if the item is a message, it is among those sent to the node at this index
abbrev pub ItemWasSent : List (ℕ × Message Command) → ℕ → Item → Type 0
ItemWasSent sent node item = WasSentTo sent (node + 1) item

-- true for a message
abbrev pub is_message : Item → Bool
is_message (Peer message) = true
is_message item = false

-- if the effect is a message, it is among those sent to its receiver
abbrev pub EffectWasSent : List (ℕ × Message Command) → Effect Command Output → Type 0
EffectWasSent sent (To receiver message) = In (receiver, message) sent
EffectWasSent sent (Out place output) = Unit {0}

-- each message among these effects was sent
abbrev pub AllSent : List (ℕ × Message Command) → List (Effect Command Output) → Type 0
AllSent sent effects = Each (EffectWasSent sent) effects
