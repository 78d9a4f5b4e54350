-- The packets that a client with its history writes, and the publication of each packet (MQTT 3.3,
-- 4.4).
use Rattle.std.specs.Prelude.{ℕ, Bool, true, false, List, [], ◌∷◌, ◌++◌, map, Some, None}
use Rattle.packet.specs.declared.packet.Packet.{Packet}
use Rattle.packet.specs.declared.packet.Packet.TheVariants as packets
use Rattle.session_base.specs.declared.publication.Publication.{Publication}
use Rattle.session_base.specs.Publication.{publish_for}
use Rattle.client_base.specs.Keeper.{Own, Written, ClientConnection, Keeper, Side}

-- a packet that carries no publication of the client's own
abbrev pub plain : Packet → Written
plain packet = record { packet = packet; number = None }

-- the PUBLISH of a publication, by its number and identifier
abbrev pub written_publish : Bool → ℕ → ℕ → Publication → Written
written_publish dup number id publication =
    record { packet = packets.Publish (publish_for dup id publication); number = Some number }

-- PUBLISH with DUP 1 for each sent publication
abbrev pub written_again : List Own → List Written
written_again (Own.Sent number publication id ∷ own) =
    written_publish true number id publication ∷ written_again own
written_again (_ ∷ own) = written_again own
written_again [] = []

-- PUBLISH with DUP 0 for each queued publication
abbrev pub written_first : List Own → List Written
written_first (Own.Queued number publication id ∷ own) =
    written_publish false number id publication ∷ written_first own
written_first (_ ∷ own) = written_first own
written_first [] = []

-- after a CONNACK 0: PUBREL for each released publication, PUBLISH with DUP 1 for each sent one,
-- then the queued ones with DUP 0
abbrev pub resent_written : Keeper → List Written
resent_written keeper =
    map (λ id. plain (packets.Pubrel id)) keeper.releases
    ++ written_again keeper.own ++ written_first keeper.own

-- all publications once the queued ones are sent
abbrev pub sent_all : List Own → List Own
sent_all (Own.Queued number publication id ∷ own) = Own.Sent number publication id ∷ sent_all own
sent_all (first ∷ own) = first ∷ sent_all own
sent_all [] = []

-- packets are appended to those that were written on a connection
abbrev pub writes : {Name : Type 0} → List Written → ClientConnection Name → ClientConnection Name
writes more connection = record connection { written = connection.written ++ more }

-- more is written on the connection of a client
abbrev pub writing : {Name : Type 0} → List Written → Side Name → Side Name
writing more side = record side { connection = writes more side.connection }

-- packets are appended to those of the connection that was opened last
abbrev pub writes_first : {Name : Type 0} → List Written → List (ClientConnection Name)
    → List (ClientConnection Name)
writes_first more (connection ∷ connections) = writes more connection ∷ connections
writes_first more [] = []
