-- A short run of a world, computed to its end: another node takes over while a publication is in
-- transit.
use Rattle.std.specs.Prelude.{◌≡◌, List, [], ◌∷◌, map, reverse}
use Rattle.session_base.specs.declared.publication.Publication.{Publication}
use Rattle.exactly_once.specs.Acceptance.{accepted_on}
use Rattle.exactly_once.specs.Rows.{writer, news, commands_there}
use Rattle.headline.specs.packet_world.World.{ClientEnds, PacketWorld}
use Rattle.headline.specs.packet_world.Steps.{Reached}

-- what a client accepted at QoS 2, on all of its connections
abbrev pub accepted_by : ClientEnds → List Publication
accepted_by client = accepted_on client.connections

-- a world reaches the list of the worked example, and what was published once is accepted once
pub record AcceptsOnce : Type 0 where
  pub end : PacketWorld
  pub reached : Reached (writer ∷ []) end
  pub agreed : reverse end.agreed ≡ commands_there
  pub accepted : map accepted_by end.clients ≡ (news ∷ []) ∷ []
