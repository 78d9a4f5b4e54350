-- The run of the row: a client connects to a node, and its CONNECT is answered.
use Rattle.std.specs.Prelude.{nat_lt, nat_le}
use Rattle.std.specs.Str.{chars, is_utf8}
use lib.Utf8.{encode}
use Rattle.std.proofs.Common.{◌≡◌, ◌<◌, ◌≤◌, ℕ, true, [], ◌∷◌, refl, sym, arith}
use Rattle.std.proofs.lemmas.List.{append-nil}
use Rattle.packet.specs.Spelling.{IsPacket, spelling}
use Rattle.client_base.specs.Connected.{new_connection}
use Rattle.client_base.specs.Handled.{lost}
use Rattle.client_base.specs.Keeper.{Keeper, new_keeper}
use Rattle.exactly_once.specs.Rows.{writer}
use Rattle.broker_spec.specs.Connection.{first_connection}
use Rattle.exactly_once.specs.Sides.{ClientConnection}
use Rattle.ballot_base.specs.LawfulConfig.{max_node}
use Rattle.world_base.specs.declared.node_core.item.Item.TheVariants.{Opened}
use Rattle.world_base.specs.node_connections.Connections.{fresh}
use Rattle.headline.specs.node_group.Group.{opening_group}
use Rattle.headline.specs.node_moves.Moves.NodeCall.{takes}
use Rattle.headline.specs.node_moves.Puts.{spelled}
use Rattle.headline.specs.byte_world.Steps.{Reached}
use Rattle.headline.specs.byte_world.Steps.Reached.{begins, goes_on}
use Rattle.headline.specs.byte_world.Steps.ByteWorldStep.{connects}
use Rattle.headline.specs.byte_world.World.{new_client, packets_of}
use Rattle.headline.specs.Rows.{AClientIsServed, one_node}
use Rattle.headline.proofs.RowGoes.{Row, client_with, pipe_with, row_arrives, row_down, row_handles, row_up, the_port, turned}
use Rattle.headline.proofs.ServedNode.{connack, connect, core_at_first, core_opened, it_connects, it_hands, it_opens, list_connected, serving}

pub less_by : (n m : ℕ) → nat_lt n m ≡ true → n < m
less_by n m e = grind (arith, e)

pub within_by : (n m : ℕ) → nat_le n m ≡ true → n ≤ m
within_by n m e = grind (arith, e)

connect_whole : IsPacket connect
unfolding is_utf8 chars encode
connect_whole = ((less_by _ _ refl, refl), tt, within_by _ _ refl)

connack_whole : IsPacket connack
connack_whole = (tt, tt, within_by _ _ refl)

-- the client with the connection that it opens
abbrev pub keeper_opens : Keeper
keeper_opens = record (lost (new_keeper writer)) { is_open = true }

abbrev pub its_connection : ClientConnection
its_connection = new_connection writer first_connection

abbrev pub keeper_served : Keeper
keeper_served = record keeper_opens { is_online = true; was_served = true }

abbrev pub connection_served : ClientConnection
connection_served = record its_connection { handled = 1; confirmed = true }

row_opens : Row core_opened (client_with keeper_opens its_connection (pipe_with (spelled (packets_of its_connection.written)) [] []))
row_opens =
    let opened : Reached 1 one_node (writer ∷ []) _ = begins max_node refl in
    let t = turned (opening_group max_node 1 one_node) 0 (takes (Opened the_port 0)) core_at_first core_opened refl tt it_opens in
    record {
      group = t.does.after;
      trail = goes_on opened (connects 0 0 (new_client writer) the_port 0 t.does core_opened (fresh the_port first_connection) refl refl t.stands refl connect_whole);
      stands = t.stands;
    }

-- its CONNECT is answered
pub its_session : Row (serving list_connected []) (client_with keeper_served connection_served (pipe_with [] [] []))
its_session =
    let read = row_up row_opens (serving list_connected (spelling connack)) (spelling connect) [] 0 refl it_connects in
    let given = row_down read (serving list_connected []) (spelling connack) refl (it_hands list_connected (spelling connack)) in
    let came = row_arrives given (spelling connack) [] (sym (append-nil (spelling connack))) in
    row_handles came connack [] _ refl refl connack_whole (sym (append-nil (spelling connack))) tt

pub a_client_is_served : AClientIsServed
a_client_is_served = record { end = _; trail = its_session.trail; served = refl }
