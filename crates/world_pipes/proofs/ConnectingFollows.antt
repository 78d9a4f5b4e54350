-- ConnectingFollows.antt: a new connection is the model's.
use Rattle.std.proofs.Common.{◌≡◌, ℕ, suc, true, false, inl, inr, List, [], ◌∷◌, length, reverse, Result, Ok, Err, IsTrue, refl, ap, ap₂, sym, subst, ◌∙◌, arith}
use Rattle.std.proofs.lemmas.Bool.{both_ways}
use Rattle.std.proofs.lemmas.List.{append-nil}
use Rattle.packet_base.specs.ClientId.{is_client}
use Rattle.packet_base.proofs.Clients.{client_short}
use Rattle.packet.specs.Spelling.{IsPacket}
use Rattle.packet.specs.declared.packet.Packet.TheVariants as packets
use Rattle.broker_spec.specs.Connection.{ConnectionName}
use Rattle.client_base.specs.declared.error.ClientError.{ClientError}
use Rattle.client_base.specs.State.{ClientState, is_open}
use Rattle.client_base.specs.Connected as opens_history
use Rattle.client_base.specs.Handled as handling
use Rattle.client_base.specs.History as history
use Rattle.client_base.specs.Keeper.{Keeper}
use Rattle.client_base.specs.Steps.{Call, keeper_step}
use Rattle.client.specs.Core.{AppendsAll, Core, OpensConnection}
use Rattle.headline.specs.node_moves.Puts.{spelled}
use Rattle.world_base.specs.declared.node_connections.port.Port.{Port}
use Rattle.headline.specs.byte_world.World.{ClientPipes, new_client}
use Rattle.headline.specs.byte_world.ClientSteps.{after_connecting}
use Rattle.world_pipes.specs.declared.pair.PipePair.{PipePair}
use Rattle.world_pipes.specs.ModelSteps.{ConnectingFollows, FollowsAll}
use Rattle.world_pipes.specs.Steps.{ClientTrace}
use Rattle.world_pipes.specs.Piped.{SendsConnect, Piped, is_holding, new_piped, new_pair, piped, piped_up}
use Rattle.exactly_once.specs.Acceptance.{accepted_on}
use Rattle.world_pipes.specs.StandsFor.{ArePipePairs, CanGoOut, ClientStandsFor}
use Rattle.headline.specs.byte_world.Accepted.{accepted_at_qos2}
use Rattle.world_pipes.proofs.PacketsHandled.{appended}
use Rattle.world_pipes.proofs.TakenBack.{opened_and_lost}
use Rattle.world_pipes.proofs.Pairs.{with_newest}

-- ---- a client that was never connected

pub new_stands : (client : List ℕ) → IsTrue (is_client client) → ClientStandsFor (new_piped client) (new_client client)
new_stands client fits =
    record {
      keeper = record {
        client = refl;
        released = refl;
        sent = refl;
        queued = refl;
        received = λ id. refl;
        requests = refl;
        is_open = refl;
        is_online = refl;
        was_served = refl;
        releases_are = λ id. refl;
        sent_first = tt;
        online_sent = λ on. refl;
      };
      fits = record { keep_alive = refl; client = fits; released = tt; sent = tt; queued = tt };
      accepted = refl;
      many = refl;
      pairs = tt;
      held = λ up. absurd (both_ways false refl up);
    }

-- ---- CONNECT

connect_is_packet : (client : List ℕ) → IsTrue (is_client client) → IsPacket (packets.Connect (record { client = client; clean = false; keep_alive = 0 }))
connect_is_packet client fits = ((omega arith, fits), tt, (let short = client_short client fits in omega (arith, short)))

opened_stands : (keeper : Keeper) (state : ClientState) → history.KeeperStandsFor keeper state →
    history.KeeperStandsFor (record (handling.lost keeper) { is_open = true }) (keeper_step Call.Opens state).state
opened_stands keeper state s =
    record {
      client = s.client;
      released = s.released;
      sent = s.sent;
      queued = s.queued;
      received = s.received;
      requests = refl;
      is_open = refl;
      is_online = refl;
      was_served = s.was_served;
      releases_are = s.releases_are;
      sent_first = s.sent_first;
      online_sent = λ on. absurd (both_ways false refl on);
    }

-- ---- a connection is opened

not_there : (client : Piped) (m : ClientPipes) → is_holding client ≡ false → is_holding client ≡ true → ⊥
not_there client m closed up = both_ways (is_holding client) closed up

opened_fits : (state : ClientState) → CanGoOut state → CanGoOut (keeper_step Call.Opens state).state
opened_fits state fits = record { keep_alive = fits.keep_alive; client = fits.client; released = fits.released; sent = fits.sent; queued = fits.queued }

connected : (node : ℕ) (port : Port) (old : Piped) (core : Core) (m : ClientPipes) (x : ConnectionName) → ClientStandsFor old m →
    OpensConnection (keeper_step Call.Opens old.core.state) old.core (Ok tt) core → ClientStandsFor (piped_up core old.pairs (new_pair node port)) (after_connecting x node port m)
connected node port old core m x s opens =
    let client : old.core.state.client ≡ m.keeper.client = s.keeper.client in
    let is : packets.Connect (record { client = old.core.state.client; clean = false; keep_alive = old.core.state.keep_alive })
    ≡ packets.Connect (record { client = m.keeper.client; clean = false; keep_alive = 0 }) =
    ap₂ (λ c k. packets.Connect (record { client = c; clean = false; keep_alive = k })) client s.fits.keep_alive in
    let fits = connect_is_packet m.keeper.client (subst (λ c. IsTrue (is_client c)) client s.fits.client) in
    let out : core.out ≡ spelled (packets.Connect (record { client = m.keeper.client; clean = false; keep_alive = 0 }) ∷ []) =
    appended [] core.out (packets.Connect (record { client = m.keeper.client; clean = false; keep_alive = 0 }) ∷ []) (fits, tt)
    (subst (λ p. AppendsAll [] core.out (p ∷ [])) is opens.1) in
    let pair : PipePair = record (new_pair node port) { up = core.out } in
    record {
      keeper = subst (history.KeeperStandsFor (record (handling.lost m.keeper) { is_open = true })) (sym opens.0) (opened_stands m.keeper old.core.state s.keeper);
      fits = subst CanGoOut (sym opens.0) (opened_fits old.core.state s.fits);
      accepted = ap (λ (state : ClientState). accepted_at_qos2 state.accepted) opens.0 ∙ s.accepted ∙ sym (append-nil (accepted_on m.connections));
      many = ap suc s.many;
      pairs = with_newest old.pairs pair m.pipes _
          (record { node = refl; port = refl; up = record { rest = []; is = sym out ∙ sym (append-nil core.out) }; down = refl }) s.pairs;
      held = λ up. record {
        connection = opens_history.new_connection m.keeper.client x;
        others = m.connections;
        connections = refl;
        pipe = record {
          node = node;
          port = port;
          up = spelled (packets.Connect (record { client = m.keeper.client; clean = false; keep_alive = 0 }) ∷ []);
          down = [];
          came = record { bytes = []; failed = false };
        };
        further = m.pipes;
        pipes = refl;
        older = old.pairs;
        pair = pair;
        pairs = refl;
        up = sym out;
        came = sym opens.2;
        sent = refl;
      };
    }

pub connecting_follows : (node : ℕ) (port : Port) (old new : Piped) (result : Result (Unit {0}) ClientError) → is_holding old ≡ false →
    SendsConnect node port (keeper_step Call.Opens old.core.state) old result new → ConnectingFollows node port old result new
connecting_follows node port old new (Ok done) closed (core, opens, is) = λ m x s. (
  subst (λ p. ClientStandsFor p (after_connecting x node port m)) (sym is) (connected node port old core m x s opens),
  connect_is_packet m.keeper.client (subst (λ c. IsTrue (is_client c)) s.keeper.client s.fits.client),
)
connecting_follows node port old new (Err cause) closed (memory, pairs, inl same) = λ m s.
    record { next = m; goes = ClientTrace.stays; publishes = refl; stands = subst (λ p. ClientStandsFor p m) (sym (ap₂ piped same pairs)) s }
connecting_follows node port old new (Err cause) closed (memory, pairs, inr (core, opens, lost)) =
    subst (λ p. FollowsAll old p) (sym (ap₂ piped lost pairs)) (opened_and_lost old core opens.0)
