-- OpensReached.antt: a world in code opens as one of the model does.
use Rattle.std.proofs.Common.{◌≡◌, ℕ, true, List, [], Some, map, slice_get, sym, ap, ◌∙◌}
use Rattle.std.proofs.lemmas.Option.{none-some}
use Rattle.ballot_base.specs.LawfulConfig.{max_node}
use Rattle.ballot_base.specs.declared.config.Config.{Config}
use Rattle.agreement.specs.World.{can_open}
use Rattle.broker_spec.specs.Place.{Client}
use Rattle.headline.specs.packet_world.World.{ClientsAreApart}
use Rattle.headline.specs.node_group.Group.{opening_group}
use Rattle.world_base.specs.declared.node_connections.port.Port.{Port}
use Rattle.headline.specs.byte_world.World.{ClientPipes, Pipe, new_client, opening}
use Rattle.headline.specs.byte_world.Steps.Reached.{begins}
use Rattle.world_nodes.specs.Nodes.{NodesStandFor}
use Rattle.world_pipes.specs.declared.pair.PipePair.{PipePair}
use Rattle.world_pipes.specs.declared.clients.world_client.WorldClient.{WorldClient}
use Rattle.world_pipes.specs.clients.SlotsAreValid.{SlotsAreValid, connection_targets, targets_of_clients}
use Rattle.world_pipes.specs.clients.Clients.{ClientsStand}
use Rattle.world.specs.StandsFor.{IsReached, WorldStandsFor, asked_on}
use Rattle.world.specs.World.{WorldState}
use Rattle.world.proofs.ClientsStand.{client_at}
use Rattle.world.proofs.Joined.{is_reached, is_reached_asked}
use Rattle.world_pipes.proofs.of_clients.Turned.{mapped_from}
use Rattle.world.proofs.PairsStand.{pipe_at}

-- ---- its clients

-- none of them has a connection
pub housed_none : (clients : List WorldClient) (ids : List Client) → ClientsStand clients (map new_client ids) → SlotsAreValid (targets_of_clients clients) []
housed_none clients ids all =
    record {
      known = λ n place e. absurd (none-some place e);
      used = λ i at node port pairs there e. absurd (none_there i at node port pairs there e);
    }
  where
    no_pipe : (c : ClientPipes) (j : ℕ) (p : Pipe) → c.pipes ≡ [] → slice_get c.pipes j ≡ Some p → ⊥
    no_pipe c j p bare e = none-some p (sym (ap (λ (l : List Pipe). slice_get l j) bare) ∙ e)

    none_there : (i at node : ℕ) (port : Port) (pairs : List (ℕ × Port)) → slice_get (targets_of_clients clients) i ≡ Some pairs → slice_get pairs at ≡ Some (node, port) → ⊥
    none_there i at node port pairs there e =
        let client = mapped_from (λ (c : WorldClient). connection_targets c.piped.pairs) clients i pairs there in
        let c = client_at clients (map new_client ids) i client.x all client.found in
        let id = mapped_from new_client ids i c.c c.at in
        let pair = mapped_from (λ (w : PipePair). (w.node, w.port)) client.x.piped.pairs at (node, port) (ap (λ (l : List (ℕ × Port)). slice_get l at) client.is ∙ e) in
        let x = pipe_at client.x.piped c.c at pair.x c.stands pair.found in
        no_pipe c.c x.turned.place x.p (ap (λ (z : ClientPipes). z.pipes) (sym id.is)) x.pipe

-- ---- the world

pub opens_reached : (nodes : ℕ) (config : Config) (ids : List Client) (w : WorldState) → can_open max_node nodes config ≡ true → NodesStandFor (opening_group max_node nodes config) w.nodes
    → ClientsStand w.clients (map new_client ids) → ClientsAreApart ids → (reached : IsReached nodes config ids w) × (asked_on reached ≡ [])
opens_reached nodes config ids w possible stands clients apart =
    let so : WorldStandsFor (opening max_node nodes config ids) w = record { nodes = stands; clients = clients } in
    let trail = begins max_node possible in
    (is_reached nodes config ids (opening max_node nodes config ids) w apart trail so, is_reached_asked nodes config ids (opening max_node nodes config ids) w apart trail so)
