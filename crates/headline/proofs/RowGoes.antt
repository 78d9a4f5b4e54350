-- A world of one node and one client with one connection: what may happen in it, each with what the
-- node keeps after it.
use Rattle.std.proofs.Common.{◌≡◌, ℕ, true, false, List, [], ◌∷◌, ◌++◌, Some, slice_get, refl, sym, ap, ◌∙◌, subst}
use Rattle.packet.specs.Spelling.{IsPacket, spelling}
use Rattle.packet.specs.Verdict.{verdict}
use Rattle.packet.specs.declared.packet.Packet.{Packet}
use Rattle.packet.proofs.OneSpelling.{spelling_is}
use Rattle.packet.proofs.PacketReads.{verdict_again}
use Rattle.broker_spec.specs.Commands.{usual_limits}
use Rattle.broker_spec.specs.Connection.{ConnectionName}
use Rattle.client_base.specs.Handled.{packet_handled}
use Rattle.client_base.specs.Keeper.{Keeper}
use Rattle.exactly_once.specs.Rows.{writer}
use Rattle.exactly_once.specs.Sides.{ClientConnection, Side}
use Rattle.exactly_once.specs.Story.{StoryStep, Story}
use Rattle.headline.specs.packet_world.Steps.{is_call}
use Rattle.world_base.specs.declared.node_core.item.Item.TheVariants.{Bytes}
use Rattle.world_base.specs.declared.node_connections.port.Port.{Port}
use Rattle.world_base.specs.node_core.Core.{CoreState}
use Rattle.headline.specs.node_moves.Moves.{NodeCall, done}
use Rattle.headline.specs.node_moves.Moves.NodeCall.{takes, hands_out}
use Rattle.headline.specs.node_moves.Puts.{spelled}
use Rattle.headline.specs.node_group.Group.{Group, group_after_outcome, with_record}
use Rattle.headline.specs.node_group.Proposals.{recorded_in}
use Rattle.headline.specs.node_group.Steps.{all_given}
use Rattle.headline.specs.node_group.Steps.GroupStep.{node_acts}
use Rattle.headline.proofs.of_node_group.Placed.{get_of_set}
use Rattle.headline.specs.node_group.Streams.{goes_down}
use Rattle.headline.specs.byte_world.NodeCalls.{NodeCallWasSent}
use Rattle.headline.specs.byte_world.Steps.{DoesCall, Reached, going_with}
use Rattle.headline.specs.byte_world.ClientSteps.{WritesCanBeSpelled, story_alone}
use Rattle.headline.specs.byte_world.Steps.Reached.{goes_on}
use Rattle.headline.specs.byte_world.Steps.ByteWorldStep.{calls, comes_up, goes_down as step_down, arrives, handles}
use Rattle.headline.specs.byte_world.World.{ClientPipes, Pipe, ByteWorld, after_writing, newly_written}
use Rattle.headline.proofs.of_byte_world.NodeCallsCarry.{node_calls_carry_their_bytes}
use Rattle.headline.specs.Rows.{one_node}

-- ---- a call of a node

pub record Turned (g : Group) (n : ℕ) (node_call : NodeCall) (core later : CoreState) : Type 0 where
  pub does : DoesCall g (Some (n, node_call))
  pub stands : slice_get does.after.nodes n ≡ Some later
  pub down : (x : ConnectionName) → goes_down x does.step ≡ going_with x node_call core

pub turned : (g : Group) (n : ℕ) (node_call : NodeCall) (core later : CoreState) → slice_get g.nodes n ≡ Some core → NodeCallWasSent g n core node_call → (done node_call core).core ≡ later → Turned g n node_call core later
turned g n node_call core later at sent is =
    let r = node_calls_carry_their_bytes g n node_call core sent in
    record {
      does = record {
        after = group_after_outcome (with_record g (recorded_in g.archive r.run)) n (done node_call core) (all_given r.run);
        step = node_acts n core node_call (done node_call core) r.run at refl r.first r.sent;
        is = refl;
        faithful = r.bytes;
      };
      stands = get_of_set g.nodes n core (done node_call core).core at ∙ ap (λ (z : CoreState). Some z) is;
      down = λ x. (r.bytes x).1;
    }

-- ---- the world

abbrev pub the_port : Port
the_port = record { 0 = 0 }

abbrev pub pipe_with : List ℕ → List ℕ → List ℕ → Pipe
pipe_with up down held = record { node = 0; port = the_port; up = up; down = down; came = record { bytes = held; failed = false } }

abbrev pub client_with : Keeper → ClientConnection → Pipe → ClientPipes
client_with keeper κ p = record { keeper = keeper; connections = κ ∷ []; pipes = p ∷ [] }

abbrev pub world_with : Group → ClientPipes → ByteWorld
world_with g c = record { group = g; clients = c ∷ [] }

-- such a world is reached, in which the node keeps this
pub record Row (core : CoreState) (c : ClientPipes) : Type 0 where
  pub group : Group
  pub trail : Reached 1 one_node (writer ∷ []) (world_with group c)
  pub stands : slice_get group.nodes 0 ≡ Some core

module _ {core : CoreState} {keeper : Keeper} {κ : ClientConnection} {up down held : List ℕ} (r : Row core (client_with keeper κ (pipe_with up down held))) where
  -- bytes come to the node
  pub row_up : (later : CoreState) (piece rest : List ℕ) (now : ℕ) → up ≡ piece ++ rest → (done (takes (Bytes the_port piece now)) core).core ≡ later
      → Row later (client_with keeper κ (pipe_with rest down held))
  row_up later piece rest now e is =
      let t = turned r.group 0 (takes (Bytes the_port piece now)) core later r.stands tt is in
      record {
        group = t.does.after;
        trail = goes_on r.trail (comes_up 0 0 (client_with keeper κ (pipe_with up down held)) κ (pipe_with up down held) piece rest now t.does
            (record { client = refl; connection = refl; pipe = refl }) e);
        stands = t.stands;
      }

  -- the node hands over what it sent
  pub row_down : (later : CoreState) (bytes : List ℕ) → going_with κ.name (hands_out the_port) core ≡ bytes → (done (hands_out the_port) core).core ≡ later
      → Row later (client_with keeper κ (pipe_with up (down ++ bytes) held))
  row_down later bytes put is =
      let t = turned r.group 0 (hands_out the_port) core later r.stands tt is in
      record {
        group = t.does.after;
        trail = subst (λ (l : List ℕ). Reached 1 one_node (writer ∷ []) (world_with t.does.after (client_with keeper κ (pipe_with up (down ++ l) held)))) (t.down κ.name ∙ put)
            (goes_on r.trail (step_down 0 0 (client_with keeper κ (pipe_with up down held)) κ (pipe_with up down held) t.does
            (record { client = refl; connection = refl; pipe = refl })));
        stands = t.stands;
      }

  -- bytes come to the client
  pub row_arrives : (piece rest : List ℕ) → down ≡ piece ++ rest → Row core (client_with keeper κ (pipe_with up rest (held ++ piece)))
  row_arrives piece rest e =
      record {
        group = r.group;
        trail = goes_on r.trail (arrives 0 0 (client_with keeper κ (pipe_with up down held)) κ (pipe_with up down held) piece rest
            (record { client = refl; connection = refl; pipe = refl }) e);
        stands = r.stands;
      }

  -- the client handles a packet
  pub row_handles : (packet : Packet) (rest : List ℕ) (side : Side) → side ≡ packet_handled packet (record { keeper = keeper; connection = κ }) → keeper.is_open ≡ true → IsPacket packet
      → held ≡ spelling packet ++ rest → WritesCanBeSpelled (κ ∷ []) (side.connection ∷ [])
      → Row core (client_with side.keeper side.connection (pipe_with (up ++ spelled (newly_written (κ ∷ []) (side.connection ∷ []))) down rest))
  row_handles packet rest side same is_open whole e fits =
      let spells = (spelling_is packet whole).0 in
      record {
        group = r.group;
        trail = subst (λ (s : Side). Reached 1 one_node (writer ∷ [])
            (world_with r.group (client_with s.keeper s.connection (pipe_with (up ++ spelled (newly_written (κ ∷ []) (s.connection ∷ []))) down rest)))) (sym same)
            (goes_on r.trail (handles 0 (client_with keeper κ (pipe_with up down held)) κ [] (pipe_with up down held) [] packet
            (record { bytes = rest; failed = false }) refl refl refl is_open
            (refl, ap verdict e ∙ verdict_again packet (spelling packet) rest whole spells, (spelling packet, spells, whole, e), refl)
            (subst (λ (s : Side). WritesCanBeSpelled (κ ∷ []) (s.connection ∷ [])) same fits)));
        stands = r.stands;
      }

  -- the client calls, and writes on its connection
  pub row_calls : (t : Story) (later : ClientConnection) (h : StoryStep usual_limits (story_alone (client_with keeper κ (pipe_with up down held))) t) → is_call h ≡ true → t.connections ≡ later ∷ []
      → WritesCanBeSpelled (κ ∷ []) (later ∷ []) → Row core (client_with t.keeper later (pipe_with (up ++ spelled (newly_written (κ ∷ []) (later ∷ []))) down held))
  row_calls t later h call same fits =
      record {
        group = r.group;
        trail = subst (λ (l : List ClientConnection). Reached 1 one_node (writer ∷ []) (world_with r.group (after_writing t.keeper l (client_with keeper κ (pipe_with up down held))))) same
            (goes_on r.trail (calls 0 (client_with keeper κ (pipe_with up down held)) t h refl call
            (subst (λ (l : List ClientConnection). WritesCanBeSpelled (κ ∷ []) l) (sym same) fits)));
        stands = r.stands;
      }
