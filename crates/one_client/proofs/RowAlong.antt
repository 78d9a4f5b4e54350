-- One client with one connection, along the steps of one node: what may happen, each with what the node keeps after it.
use Rattle.std.proofs.Common.{◌≡◌, ℕ, true, false, List, [], ◌∷◌, ◌++◌, drop, length, Option, Some, slice_get, refl, sym, ap, ap₂, ◌∙◌, subst}
use Rattle.std.specs.List.{list_any}
use Rattle.std.proofs.lemmas.Bool.{both_ways}
use Rattle.lists.proofs.Tests.{none_or}
use Rattle.client_base.specs.Connected.{new_connection}
use Rattle.lists.specs.Lists.{Each}
use Rattle.packet.specs.Spelling.{IsPacket, spelling}
use Rattle.packet.specs.Verdict.{verdict}
use Rattle.packet.specs.declared.packet.Packet.{Packet}
use Rattle.packet.proofs.OneSpelling.{spelling_is}
use Rattle.packet.proofs.PacketReads.{verdict_again}
use Rattle.cutter.specs.Stream.{Stream}
use Rattle.session_base.specs.declared.publication.Publication.{Publication}
use Rattle.broker_spec.specs.Commands.{usual_limits}
use Rattle.client_base.specs.Handled.{packet_handled}
use Rattle.client_base.specs.Keeper.{Keeper}
use Rattle.exactly_once.specs.Rows.{writer}
use Rattle.exactly_once.specs.Sides.{ClientConnection, Side}
use Rattle.exactly_once.specs.Story.{Story, StoryStep}
use Rattle.world_base.specs.node_core.Core.{CoreState}
use Rattle.headline.specs.Rows.{one_node}
use Rattle.headline.specs.packet_world.Steps.{is_call}
use Rattle.headline.specs.node_moves.Moves.{NodeCall, done}
use Rattle.headline.specs.node_moves.Puts.{spelled}
use Rattle.headline.specs.node_group.Group.{Group, group_after_outcome, with_record}
use Rattle.headline.specs.node_group.Proposals.{recorded_in}
use Rattle.headline.specs.node_group.Steps.{GroupStep, GroupTrace, all_given}
use Rattle.headline.specs.node_group.Steps.GroupStep.{node_acts}
use Rattle.headline.specs.node_group.Steps.GroupTrace.{then_went}
use Rattle.headline.proofs.of_node_group.Placed.{get_of_set}
use Rattle.headline.specs.byte_world.ClientSteps.{WritesCanBeSpelled, after_packet, story_alone}
use Rattle.headline.specs.byte_world.NodeCalls.{NodeCallWasSent, RunsAs}
use Rattle.headline.specs.byte_world.Published.{published_by_call}
use Rattle.headline.specs.byte_world.World.{ClientPipes, Pipe, after_writing, newly_written, packets_of, with_pipe}
use Rattle.headline.proofs.of_byte_world.NodeCallsCarry.{node_calls_carry_their_bytes}
use Rattle.one_client.specs.Along.{Along, TakesWritten, after_step, pipe_after, published_along}
use Rattle.one_client.specs.Along.Along.{goes, calls, reads, handles}
use Rattle.one_client.specs.Calls.{BringsBytes, bytes_at, calls_on, handed_with, opens_at, was_opened}
use Rattle.one_client.specs.Names.{OpensOnce}
use Rattle.one_client.specs.Rows.{lost_port, own_port, spare_name}
use Rattle.one_client.proofs.PortBytes.{dropped}

abbrev pub pipe_with : List ℕ → List ℕ → List ℕ → Pipe
pipe_with up down held = record { node = 0; port = own_port; up = up; down = down; came = record { bytes = held; failed = false } }

-- the connection that the client gave up
abbrev pub lost_connection : ClientConnection
lost_connection = new_connection writer spare_name

abbrev pub lost_pipe : Pipe
lost_pipe = record { node = 0; port = lost_port; up = spelled (packets_of lost_connection.written) ++ []; down = []; came = record { bytes = []; failed = false } }

abbrev pub client_with : Keeper → ClientConnection → Pipe → ClientPipes
client_with keeper κ p = record { keeper = keeper; connections = κ ∷ lost_connection ∷ []; pipes = p ∷ lost_pipe ∷ [] }

-- a call that has nothing to do with the port of that connection
pub record IsElsewhere (node_call : NodeCall) (core : CoreState) : Type 0 where
  pub untold : opens_at 0 lost_port (Some (0, node_call)) ≡ false
  pub nothing : bytes_at 0 lost_port (Some (0, node_call)) ≡ []
  pub handed : handed_with 0 lost_port 0 node_call core ≡ []

-- such a client goes along such steps, after which the node keeps this
pub record Row (core : CoreState) (c : ClientPipes) (history : List (Option (ℕ × NodeCall))) (published : List Publication) : Type 0 where
  pub group : Group
  pub went : GroupTrace 1 one_node group
  pub one : ClientPipes
  pub along : Along 1 one_node writer group went one
  pub is : one ≡ c
  pub stands : slice_get group.nodes 0 ≡ Some core
  pub calls_are : calls_on went ≡ history
  pub once : OpensOnce 0 own_port (calls_on went)
  pub untold : was_opened 0 lost_port went ≡ false
  pub said : published_along along ≡ published

-- ---- the node

-- moves that do a call
abbrev runs : (g : Group) (node_call : NodeCall) (core : CoreState) → NodeCallWasSent g 0 core node_call → RunsAs g 0 node_call core (done node_call core)
runs g node_call core sent = node_calls_carry_their_bytes g 0 node_call core sent

abbrev pub group_then : (g : Group) (node_call : NodeCall) (core : CoreState) → NodeCallWasSent g 0 core node_call → Group
group_then g node_call core sent =
    group_after_outcome (with_record g (recorded_in g.archive (runs g node_call core sent).run)) 0 (done node_call core) (all_given (runs g node_call core sent).run)

abbrev pub step_then : (g : Group) (node_call : NodeCall) (core : CoreState) (at : slice_get g.nodes 0 ≡ Some core) (sent : NodeCallWasSent g 0 core node_call) → GroupStep g (group_then g node_call core sent)
step_then g node_call core at sent =
    node_acts 0 core node_call (done node_call core) (runs g node_call core sent).run at refl (runs g node_call core sent).first (runs g node_call core sent).sent

module _ {core : CoreState} {keeper : Keeper} {κ : ClientConnection} {up down held : List ℕ} {history : List (Option (ℕ × NodeCall))} {published : List Publication}
    (r : Row core (client_with keeper κ (pipe_with up down held)) history published) where
  -- the node does a call
  pub row_goes : (node_call : NodeCall) (later : CoreState) (rest : List ℕ) → (sent : NodeCallWasSent r.group 0 core node_call) → (done node_call core).core ≡ later → BringsBytes (Some (0, node_call))
      → (opens_at 0 own_port (Some (0, node_call)) ≡ true → list_any (opens_at 0 own_port) history ≡ false) → (list_any (opens_at 0 own_port) history ≡ false → bytes_at 0 own_port (Some (0, node_call)) ≡ [])
      → up ≡ bytes_at 0 own_port (Some (0, node_call)) ++ rest → IsElsewhere node_call core
      → Row later (client_with keeper κ (pipe_with rest (down ++ handed_with 0 own_port 0 node_call core) held)) (Some (0, node_call) ∷ history) published
  row_goes node_call later rest sent is brings once after front apart =
      let step = step_then r.group node_call core r.stands sent in
      let was : was_opened 0 own_port r.went ≡ list_any (opens_at 0 own_port) history = ap (list_any (opens_at 0 own_port)) r.calls_are in
      let takes : TakesWritten r.went step (pipe_with up down held) = record {
        once = λ e. was ∙ once e;
        after = λ e. after (sym was ∙ e);
        written = record { rest = rest; is = front };
      } in
      let leaves : TakesWritten r.went step lost_pipe = record {
        once = λ e. absurd (both_ways (opens_at 0 lost_port (Some (0, node_call))) apart.untold e);
        after = λ e. apart.nothing;
        written = record { rest = lost_pipe.up; is = sym (ap (λ l. l ++ lost_pipe.up) apart.nothing) };
      } in
      let left : pipe_after step lost_pipe ≡ lost_pipe =
      ap₂ (λ (u d : List ℕ). let q : Pipe = record lost_pipe { up = drop (length u) lost_pipe.up; down = d } in q) apart.nothing apart.handed in
      record {
        group = group_then r.group node_call core sent;
        went = then_went r.went step;
        one = after_step step r.one;
        along = goes r.along step (runs r.group node_call core sent).bytes brings (subst (λ (z : ClientPipes). Each (TakesWritten r.went step) z.pipes) (sym r.is) (takes, (leaves, tt)));
        is = ap (after_step step) r.is
            ∙ ap₂ (λ (u : List ℕ) (q : Pipe). let z : ClientPipes = record {
              keeper = keeper;
              connections = κ ∷ lost_connection ∷ [];
              pipes = pipe_with u (down ++ handed_with 0 own_port 0 node_call core) held ∷ q ∷ [];
            } in z) (ap (drop (length (bytes_at 0 own_port (Some (0, node_call))))) front ∙ dropped (bytes_at 0 own_port (Some (0, node_call))) rest) left;
        stands = get_of_set r.group.nodes 0 core (done node_call core).core r.stands ∙ ap (λ (z : CoreState). Some z) is;
        calls_are = ap (λ (l : List (Option (ℕ × NodeCall))). Some (0, node_call) ∷ l) r.calls_are;
        once = (λ e. was ∙ once e, r.once);
        untold = none_or (opens_at 0 lost_port (Some (0, node_call))) (was_opened 0 lost_port r.went) apart.untold r.untold;
        said = r.said;
      }

  -- ---- the client

  -- bytes come to it
  pub row_arrives : (piece rest : List ℕ) → down ≡ piece ++ rest → Row core (client_with keeper κ (pipe_with up rest (held ++ piece))) history published
  row_arrives piece rest e =
      let q : Pipe = pipe_with up rest (held ++ piece) in
      record {
        group = r.group;
        went = r.went;
        one = with_pipe 0 q r.one;
        along = reads r.along 0 (pipe_with up down held) piece rest (ap (λ (z : ClientPipes). slice_get z.pipes 0) r.is) e;
        is = ap (with_pipe 0 q) r.is;
        stands = r.stands;
        calls_are = r.calls_are;
        once = r.once;
        untold = r.untold;
        said = r.said;
      }

  -- it handles a packet
  abbrev side_of : Packet → ClientPipes → Side
  side_of packet z = packet_handled packet (record { keeper = z.keeper; connection = κ })

  abbrev then_has : Packet → Stream → ClientPipes → ClientPipes
  then_has packet left z = after_packet (lost_connection ∷ []) (lost_pipe ∷ []) (pipe_with up down held) left (side_of packet z) z

  pub row_handles : (packet : Packet) (rest : List ℕ) (side : Side) → side ≡ packet_handled packet (record { keeper = keeper; connection = κ }) → keeper.is_open ≡ true → IsPacket packet
      → held ≡ spelling packet ++ rest → WritesCanBeSpelled (κ ∷ []) (side.connection ∷ [])
      → Row core (client_with side.keeper side.connection (pipe_with (up ++ spelled (newly_written (κ ∷ []) (side.connection ∷ []))) down rest)) history published
  row_handles packet rest side same is_open whole e fits =
      let spells = (spelling_is packet whole).0 in
      let left : Stream = record { bytes = rest; failed = false } in
      record {
        group = r.group;
        went = r.went;
        one = then_has packet left r.one;
        along = handles r.along κ (lost_connection ∷ []) (pipe_with up down held) (lost_pipe ∷ []) packet left (ap (λ (z : ClientPipes). z.connections) r.is) (ap (λ (z : ClientPipes). z.pipes) r.is)
            (ap (λ (z : ClientPipes). z.keeper.is_open) r.is ∙ is_open) (refl, ap verdict e ∙ verdict_again packet (spelling packet) rest whole spells, (spelling packet, spells, whole, e), refl)
            (subst (λ (z : ClientPipes). WritesCanBeSpelled z.connections ((side_of packet z).connection ∷ lost_connection ∷ [])) (sym r.is)
            (subst (λ (s : Side). WritesCanBeSpelled (κ ∷ []) (s.connection ∷ [])) same fits));
        is = ap (then_has packet left) r.is
            ∙ ap (λ (s : Side). client_with s.keeper s.connection (pipe_with (up ++ spelled (newly_written (κ ∷ []) (s.connection ∷ []))) down rest)) (sym same);
        stands = r.stands;
        calls_are = r.calls_are;
        once = r.once;
        untold = r.untold;
        said = r.said;
      }

  -- it calls, and writes on its connection
  pub row_calls : (t : ClientPipes → Story) (later : ClientConnection) (h : StoryStep usual_limits (story_alone r.one) (t r.one)) (more : List Publication) → is_call h ≡ true → published_by_call h ≡ more
      → (t (client_with keeper κ (pipe_with up down held))).connections ≡ later ∷ lost_connection ∷ [] → WritesCanBeSpelled (κ ∷ []) (later ∷ [])
      → Row core (client_with (t (client_with keeper κ (pipe_with up down held))).keeper later (pipe_with (up ++ spelled (newly_written (κ ∷ []) (later ∷ []))) down held)) history (published ++ more)
  row_calls t later h more call says same fits =
      let c : ClientPipes = client_with keeper κ (pipe_with up down held) in
      record {
        group = r.group;
        went = r.went;
        one = after_writing (t r.one).keeper (t r.one).connections r.one;
        along = calls r.along (t r.one) h call
            (subst (λ (z : ClientPipes). WritesCanBeSpelled z.connections (t z).connections) (sym r.is) (subst (λ (l : List ClientConnection). WritesCanBeSpelled (κ ∷ lost_connection ∷ []) l) (sym same) fits));
        is = ap (λ (z : ClientPipes). after_writing (t z).keeper (t z).connections z) r.is ∙ ap (λ (l : List ClientConnection). after_writing (t c).keeper l c) same;
        stands = r.stands;
        calls_are = r.calls_are;
        once = r.once;
        untold = r.untold;
        said = ap (λ l. l ++ published_by_call h) r.said ∙ ap (λ l. published ++ l) says;
      }
