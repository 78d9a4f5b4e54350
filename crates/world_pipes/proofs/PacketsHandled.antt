-- PacketsHandled.antt: a client that handles the packets that came goes as the model's, packet by packet.
use Rattle.std.proofs.Common.{◌≡◌, ℕ, true, List, [], ◌∷◌, ◌++◌, Some, Ok, refl, ap, ap₂, sym, subst, ◌∙◌, append_assoc}
use Rattle.std.proofs.lemmas.List.{append-nil}
use Rattle.packet.specs.Spelling.{IsPacket, spelling}
use Rattle.packet.specs.declared.packet.Packet.{Packet}
use Rattle.packet.proofs.OneSpelling.{spelling_is}
use Rattle.cutter.specs.Stream.{Stream, Takes}
use Rattle.lists.specs.Lists.{Each}
use Rattle.client_base.specs.State.{ClientState, is_open}
use Rattle.client_base.specs.Answered.{ClientOutcome}
use Rattle.client_base.specs.Handled.{packet_handled}
use Rattle.client_base.specs.History as history
use Rattle.client_base.specs.Keeper as keepers
use Rattle.client_base.proofs.FollowsHandled.{handled_follows}
use Rattle.client_base.proofs.FollowsPackets.{Same}
use Rattle.client.specs.Core.{AppendsAll, Core, IsDone}
use Rattle.client.specs.Input.{Handles, ReadsPacket, outcome_of_packet}
use Rattle.headline.specs.node_moves.Puts.{spelled}
use Rattle.exactly_once.specs.Sides.{ClientConnection, Side}
use Rattle.headline.specs.byte_world.World.{ClientPipes, Pipe, newly_written}
use Rattle.headline.specs.byte_world.ClientSteps.{after_packet}
use Rattle.headline.proofs.of_byte_world.OnTheWay.{newly_is}
use Rattle.world_pipes.specs.Steps.{ClientTrace, ClientStep, published_in_steps, published_with}
use Rattle.exactly_once.specs.Acceptance.{accepted_on}
use Rattle.world_pipes.specs.StandsFor.{CanGoOut}
use Rattle.headline.specs.byte_world.Accepted.{accepted_at_qos2}
use Rattle.world_pipes.proofs.AcceptedAlike.{accepts_alike}
use Rattle.world_pipes.proofs.Renamed.{handled_renamed, renamed}
use Rattle.world_pipes.proofs.StaysOpen.{handled_stays}
use Rattle.world_pipes.proofs.Spellable.{AllSpelled, received_fits}

-- ---- bytes

-- packets that are written one after another are their spellings, joined
pub appended : (old new : List ℕ) (packets : List Packet) → Each IsPacket packets → AppendsAll old new packets → new ≡ old ++ spelled packets
appended old new [] fits same = same ∙ sym (append-nil old)
appended old new (p ∷ packets) fits (between, (bytes, spells, is), more) =
    appended between new packets fits.1 more
    ∙ ap (λ l. l ++ spelled packets) (is ∙ ap (λ b. old ++ b) ((spelling_is p fits.0).1 bytes spells))
    ∙ append_assoc old (spelling p) (spelled packets)

-- ---- in the midst of a call

-- The client corresponds to the model's, whose newest connection has this pipe: what was in transit
-- before, and after it what the client wrote.
pub record IsInMidst (before : List ℕ) (core : Core) (m : ClientPipes) (others : List ClientConnection) (p₀ : Pipe) (further : List Pipe) : Type 0 where
  pub keeper : history.KeeperStandsFor m.keeper core.state
  pub fits : CanGoOut core.state
  pub accepted : accepted_at_qos2 core.state.accepted ≡ accepted_on m.connections
  pub connection : ClientConnection
  pub connections : m.connections ≡ connection ∷ others
  pub pipe : Pipe
  pub pipes : m.pipes ≡ pipe ∷ further
  pub leads : (pipe.node ≡ p₀.node) × (pipe.port ≡ p₀.port) × (pipe.down ≡ p₀.down)
  pub up : pipe.up ≡ before ++ core.out
  pub came : pipe.came ≡ core.unread

-- one packet more
pub record GoesOn (before : List ℕ) (core : Core) (m : ClientPipes) (others : List ClientConnection) (p₀ : Pipe) (further : List Pipe) : Type 0 where
  pub next : ClientPipes
  pub step : ClientStep m next
  pub silent : published_with step ≡ []
  pub stands : IsInMidst before core next others p₀ further

taken_fits : (old left : Stream) (packet : Packet) → Takes old (Ok (Some packet)) left → IsPacket packet
taken_fits old left packet (a, b, (front, spells, is, e), c) = is

pub one_goes : (before : List ℕ) (core next after : Core) (m : ClientPipes) (others : List ClientConnection) (p₀ : Pipe) (further : List Pipe) (packet : Packet) →
    is_open core.state.stage ≡ true → IsInMidst before core m others p₀ further → ReadsPacket core packet next → IsDone (outcome_of_packet packet next) next after →
    GoesOn before after m others p₀ further
one_goes before core next after m others p₀ further packet up s reads done =
    let κ = s.connection in
    let p = s.pipe in
    let side : Side = record { keeper = m.keeper; connection = κ } in
    let later : Side = packet_handled packet side in
    let outcome : ClientOutcome = outcome_of_packet packet next in
    let stands : history.KeeperStandsFor m.keeper next.state = subst (history.KeeperStandsFor m.keeper) (sym reads.1) s.keeper in
    let opened : is_open next.state.stage ≡ true = ap (λ (state : ClientState). is_open state.stage) reads.1 ∙ up in
    let whole : AllSpelled outcome =
    received_fits packet next.state.stage next.state (taken_fits core.unread next.unread packet reads.0).0 (subst CanGoOut (sym reads.1) s.fits) in
    let same : Same (renamed side) (renamed later) outcome =
    subst (λ (after : keepers.Side ℕ). Same (renamed side) after outcome) (handled_renamed packet side)
    (handled_follows packet next.state.stage m.keeper.is_online (renamed side) next.state stands opened (sym stands.is_open ∙ opened) stands.is_online) in
    let more = same.writes.0 in
    let newly : newly_written m.connections (later.connection ∷ others) ≡ outcome.writes =
    ap (λ l. newly_written l (later.connection ∷ others)) s.connections ∙ newly_is κ later.connection others others more same.writes.1 ∙ same.writes.2 in
    let out : after.out ≡ core.out ++ spelled outcome.writes =
    appended next.out after.out outcome.writes whole.writes done.1 ∙ ap (λ o. o ++ spelled outcome.writes) reads.2 in
    record {
      next = after_packet others further p next.unread later m;
      step = ClientStep.handles κ others p further packet next.unread s.connections s.pipes (sym s.keeper.is_open ∙ up)
          (subst (λ (came : Stream). Takes came (Ok (Some packet)) next.unread) (sym s.came) reads.0)
          (subst (Each IsPacket) (sym newly) whole.writes);
      silent = refl;
      stands = record {
        keeper = subst (history.KeeperStandsFor later.keeper) (sym done.0) same.stands;
        fits = subst CanGoOut (sym done.0) whole.left;
        accepted = ap (λ (state : ClientState). accepted_at_qos2 state.accepted) done.0
            ∙ accepts_alike (accepted_on others) packet next.state.stage side next.state opened stands.is_online stands.received
            (ap (λ (state : ClientState). accepted_at_qos2 state.accepted) reads.1 ∙ s.accepted ∙ ap accepted_on s.connections);
        connection = later.connection;
        connections = refl;
        pipe = record p { came = next.unread; up = p.up ++ spelled (newly_written m.connections (later.connection ∷ others)) };
        pipes = refl;
        leads = s.leads;
        up = ap₂ (λ u l. u ++ spelled l) s.up newly ∙ append_assoc before core.out (spelled outcome.writes) ∙ ap (λ l. before ++ l) (sym out);
        came = sym done.2;
      };
    }

-- all that were handled
pub record GoFar (before : List ℕ) (core : Core) (m : ClientPipes) (others : List ClientConnection) (p₀ : Pipe) (further : List Pipe) : Type 0 where
  pub last : ClientPipes
  pub steps : ClientTrace m last
  pub silent : published_in_steps steps ≡ []
  pub stands : IsInMidst before core last others p₀ further

pub all_go : (before : List ℕ) (start last : Core) (m : ClientPipes) (others : List ClientConnection) (p₀ : Pipe) (further : List Pipe) → is_open start.state.stage ≡ true →
    IsInMidst before start m others p₀ further → Handles start last → GoFar before last m others p₀ further
all_go before start last m others p₀ further up s Handles.none = record { last = m; steps = ClientTrace.stays; silent = refl; stands = s }
all_go before start last m others p₀ further up s (Handles.more {before = mid} {read = next} packet run reads taken done) =
    let far = all_go before start mid m others p₀ further up s run in
    let one = one_goes before mid next last far.last others p₀ further packet (handled_stays start mid run up) far.stands reads done in
    record { last = one.next; steps = ClientTrace.goes_on far.steps one.step; silent = ap₂ (λ a b. a ++ b) far.silent one.silent; stands = one.stands }
