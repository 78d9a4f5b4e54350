-- Definitions for the worked examples of worlds: a client that publishes to itself, and the list
-- over a takeover.
use Rattle.std.specs.Prelude.{true, false, List, [], ◌∷◌}
use Rattle.packet_base.specs.declared.qos.QoS.TheVariants as qos_levels
use Rattle.packet.specs.declared.subscribe.Subscribe.{Subscribe}
use Rattle.packet.specs.declared.packet.Packet.TheVariants as packets
use Rattle.session_base.specs.declared.publication.Publication.{Publication}
use Rattle.session_base.specs.Publication.{publish_for}
use Rattle.broker_spec.specs.Connection.{ConnectionName, first_connection}
use Rattle.broker_spec.specs.Place.{Client}
use Rattle.broker_spec.specs.declared.command.Command.{Command}
use Rattle.broker_spec.specs.declared.command.Command.TheVariants as commands

-- a client that subscribes to what it publishes
abbrev pub writer : Client
writer = 119 ∷ []

-- the writer's connection in the second ballot
abbrev pub second_connection : ConnectionName
second_connection = record { ballot = 2; count = 1 }

-- what the writer publishes: one byte at QoS 2
abbrev pub news : Publication
news = record { retain = false; qos = qos_levels.ExactlyOnce; topic = 110 ∷ []; payload = 1 ∷ [] }

-- the writer's SUBSCRIBE to the topic of `news`
abbrev pub asks_for_news : Subscribe
asks_for_news =
    record { id = 1; filters = record { filter = 110 ∷ []; qos = qos_levels.ExactlyOnce } ∷ [] }

-- the list of commands, the newest first: it has the publication twice, and the publication is new
-- once
abbrev pub commands_there : List Command
commands_there =
    commands.Packet second_connection (packets.Pubcomp 1)
    ∷ commands.Packet second_connection (packets.Pubrel 1)
    ∷ commands.Packet second_connection (packets.Pubrec 1)
    ∷ commands.Packet second_connection (packets.Publish (publish_for true 1 news))
    ∷ commands.Connect second_connection writer false
    ∷ commands.Start 2
    ∷ commands.Packet first_connection (packets.Publish (publish_for false 1 news))
    ∷ commands.Packet first_connection (packets.Subscribe asks_for_news)
    ∷ commands.Connect first_connection writer false
    ∷ []
