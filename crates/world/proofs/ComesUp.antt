-- ComesUp.antt: bytes that come to a node are no longer on the connection.
use Rattle.std.proofs.Common.{◌≡◌, ◌-◌, ◌≤◌, ℕ, suc, List, [], ◌++◌, take, drop, length, slice_get, Some, refl, sym, ap, ◌∙◌, subst, arith}
use Rattle.std.proofs.lemmas.List.{take-append-drop, take-append-le, drop-append-le}
use Rattle.std.proofs.lemmas.Option.{same_Some}
use Rattle.world_base.specs.declared.node_core.item.Item.TheVariants.{Bytes}
use Rattle.world_base.specs.declared.node_connections.port.Port.{Port}
use Rattle.headline.specs.node_moves.Moves.NodeCall.{takes}
use Rattle.headline.specs.byte_world.World.{HasPipe, Pipe, ByteWorld, with_client, with_pipe}
use Rattle.headline.specs.byte_world.Steps.ByteWorldStep.{comes_up}
use Rattle.world_nodes.specs.ExactSteps.{NodeDoesCall}
use Rattle.world_nodes.specs.Nodes.{NodesState}
use Rattle.world_pipes.specs.declared.pair.PipePair.{PipePair}
use Rattle.world_pipes.specs.Piped.{Piped}
use Rattle.world_pipes.specs.declared.clients.connection_slot.ConnectionSlot.{ConnectionSlot}
use Rattle.world_pipes.specs.declared.clients.world_client.WorldClient.{WorldClient}
use Rattle.world_pipes.specs.clients.SlotsAreValid.{LeadsThere, targets_of_clients}
use Rattle.world_pipes.specs.clients.Transport.{with_less}
use Rattle.world_pipes.specs.clients.Transport.{CarriesUp}
use Rattle.world.specs.StandsFor.{ModelStepsTo, WorldStandsFor, FollowsModel}
use Rattle.world.specs.StandsFor.WorldSteps.{rests, goes_on}
use Rattle.world.specs.World.{WorldState}
use Rattle.world.proofs.ClientsStand.{StandsAt, client_at, stand_set}
use Rattle.world.proofs.GoesDown.{put_down}
use Rattle.world_pipes.proofs.of_clients.LeadsKept.{led}
use Rattle.world.proofs.PairsStand.{PipeAt, pipe_at, pair_changes}

taken_up : (old : WorldState) (m : ByteWorld) (s : WorldStandsFor m old) (place : ConnectionSlot) (client : WorldClient) (one : StandsAt m.clients place.client client.piped) (pair : PipePair)
    (x : PipeAt client.piped one.c place.at pair) (new : NodesState) (count : ℕ) → count ≤ length pair.up
    → NodeDoesCall x.p.node (takes (Bytes x.p.port (take count pair.up) 0)) old.nodes new → ModelStepsTo [] m (put_down place.client client (with_less place.at count pair client.piped) new old)
taken_up old m s place client one pair x new count part acts =
    let d = acts m.group s.nodes in
    let has : HasPipe m place.client one.c x.turned.place x.κ x.p = record { client = one.at; connection = x.connection; pipe = x.pipe } in
    let more = x.is.up.rest in
    let front : take count x.p.up ≡ take count pair.up = ap (take count) x.is.up.is ∙ take-append-le count pair.up more part in
    let whole : x.p.up ≡ take count pair.up ++ drop count x.p.up = sym (take-append-drop count x.p.up) ∙ ap (λ (l : List ℕ). l ++ drop count x.p.up) front in
    let q : Pipe = record x.p { up = drop count x.p.up } in
    let later : PipePair = record pair { up = drop count pair.up } in
    record {
      after = with_client place.client (with_pipe x.turned.place q one.c) (record m { group = d.does.after });
      steps = goes_on rests (comes_up place.client x.turned.place one.c x.κ x.p (take count pair.up) (drop count x.p.up) 0 d.does has whole);
      asked_is = refl;
      stands = record {
        nodes = d.stands;
        clients = stand_set old.clients m.clients place.client (record client { piped = with_less place.at count pair client.piped }) (with_pipe x.turned.place q one.c) s.clients
            (pair_changes client.piped one.c place.at pair later x q one.stands
            (record {
              node = x.is.node;
              port = x.is.port;
              up = record { rest = more; is = ap (drop count) x.is.up.is ∙ drop-append-le count pair.up more part };
              down = x.is.down;
            })
            (λ e. ap (drop count) e) refl);
      };
    }

pub takes_up : (old : WorldState) (number count : ℕ) (place : ConnectionSlot) (client : WorldClient) (new : NodesState) (later : Piped) → LeadsThere (targets_of_clients old.clients) number place
    → slice_get old.clients place.client ≡ Some client → CarriesUp place (record { 0 = number }) count old.nodes client.piped new later
    → FollowsModel old (put_down place.client client later new old)
takes_up old number count place client new later there at t nodes config cs m trail s =
    let l = led old.clients number place client there at in
    let one = client_at old.clients m.clients place.client client s.clients at in
    let x = pipe_at client.piped one.c place.at t.pair one.stands t.found in
    let same : l.pair ≡ t.pair = same_Some l.pair t.pair (sym l.found ∙ t.found) in
    let port : (let q : Port = record { 0 = number } in q) ≡ x.p.port = sym l.port ∙ ap (λ (z : PipePair). z.port) same ∙ sym x.is.port in
    let leads : place.node ≡ suc x.p.node = sym l.node ∙ ap (λ (z : PipePair). suc z.node) same ∙ ap suc (sym x.is.node) in
    let low : place.node - 1 ≡ x.p.node = omega (arith, leads) in
    subst (λ (z : Piped). ModelStepsTo [] m (put_down place.client client z new old)) (sym t.is)
    (taken_up old m s place client one t.pair x new count t.part
    (subst (λ (k : ℕ). NodeDoesCall k (takes (Bytes x.p.port (take count t.pair.up) 0)) old.nodes new) low
    (subst (λ (q : Port). NodeDoesCall (place.node - 1) (takes (Bytes q (take count t.pair.up) 0)) old.nodes new) port t.acts)))
