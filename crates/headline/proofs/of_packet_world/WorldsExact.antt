-- Every world that is reached is exact.
use Rattle.std.proofs.Common.{ℕ, List, set, refl}
use Rattle.broker_spec.specs.Place.{Client}
use Rattle.broker_spec.specs.Commands.{usual_limits}
use Rattle.broker_spec.proofs.NothingAfterTheEnd.{nothing_after_the_end}
use Rattle.broker_spec.proofs.PacketOfNobody.{window_is_steady}
use Rattle.lists.proofs.OfEach.{each_then}
use Rattle.exactly_once.specs.Sides.{ClientConnection}
use Rattle.exactly_once.proofs.sessions.LivesExact.{lives_exact}
use Rattle.headline.specs.packet_world.World.{End, ClientEnds, PacketWorld, ClientsAreApart, story_of, with_client}
use Rattle.headline.specs.packet_world.Steps.{PacketWorldStep, Reached, HasPipe}
use Rattle.headline.specs.packet_world.Steps.PacketWorldStep.{calls, opens, handles, reads, answers, closes, agrees, agrees_else}
use Rattle.headline.specs.packet_world.Steps.Reached.{begins, goes_on}
use Rattle.headline.specs.packet_world.Exact.{PipesInOrder, PacketWorldsAreExact, IsExactInStep}
use Rattle.headline.proofs.of_packet_world.Lists.{each_get}
use Rattle.headline.proofs.of_packet_world.Ends.{PipeHolds, pipe_at, pipes_in_order, end_set, more_read, more_shown, end_closed}
use Rattle.headline.proofs.of_packet_world.Parted.{opened_parted}
use Rattle.headline.proofs.of_packet_world.Holds.{IsTold, HasPipes, Holds, opening_holds, keeps_party}
use Rattle.headline.proofs.of_packet_world.Calls.{keeps_call}
use Rattle.headline.proofs.of_packet_world.Handling.{keeps_handled, keeps_opened}
use Rattle.headline.proofs.of_packet_world.Agrees.{keeps_agreed, keeps_else}

-- a node's end becomes another
keeps_end : (w : PacketWorld) (i j : ℕ) (c : ClientEnds) (κ : ClientConnection) (e later : End) → Holds w → HasPipe w i c j κ e → (PipeHolds w.agreed κ e → PipeHolds w.agreed κ later)
    → Holds (with_client i (record c { ends = set c.ends j later }) w)
keeps_end w i j c κ e later h pipe keeps =
    let pipes = each_get (HasPipes w.agreed) w.clients i c h.pipes pipe.client in
    keeps_party w i c (record c { ends = set c.ends j later }) h pipe.client (each_get (IsTold w.agreed) w.clients i c h.told pipe.client)
    (end_set w.agreed c.connections c.ends j κ later pipes pipe.connection (keeps (pipe_at w.agreed c.connections c.ends j κ e pipes pipe.connection pipe.end)))
    (record { client = refl; names = λ test. refl })

holds_on : (v w : PacketWorld) → Holds v → PacketWorldStep v w → Holds w
holds_on v w h (calls i c t happens there' call) = keeps_call v i c t happens h there' call
holds_on v w h (opens i c x seen there' fresh within) = keeps_opened v i c x seen h there' fresh within (opened_parted v.clients i c x seen h.apart there' fresh)
holds_on v w h (handles i c κ e others ends packet there' are ends_are opened next) = keeps_handled v i c κ e others ends packet h there' are ends_are opened next
holds_on v w h (reads i j c κ e pipe opened less) = keeps_end v i j c κ e _ h pipe (λ p. more_read v.agreed κ e p less)
holds_on v w h (answers i j c κ e command pipe opened next) = keeps_end v i j c κ e _ h pipe (λ p. more_shown v.agreed κ e command p next)
holds_on v w h (closes i j c κ e pipe) = keeps_end v i j c κ e _ h pipe (end_closed v.agreed κ e)
holds_on v w h (agrees i j c κ e written pipe less next) = keeps_agreed v i j c κ e written h pipe less next
holds_on v w h (agrees_else command other) = keeps_else v command h other

pub reached_holds : (cs : List Client) (w : PacketWorld) → ClientsAreApart cs → Reached cs w → Holds w
reached_holds cs w apart begins = opening_holds cs apart
reached_holds cs w apart (goes_on {old = v} reached goes) = holds_on v w (reached_holds cs v apart reached) goes

pub packet_worlds_are_exact : PacketWorldsAreExact
packet_worlds_are_exact cs w apart reached =
    let h = reached_holds cs w apart reached in
    record {
      pipes = each_then (HasPipes w.agreed) (λ (c : ClientEnds). PipesInOrder w.agreed c.connections c.ends) w.clients (λ c p. pipes_in_order w.agreed c.connections c.ends p) h.pipes;
      clients = each_then (IsTold w.agreed) (IsExactInStep w.agreed) w.clients (λ c lived. lives_exact usual_limits window_is_steady.0 c.keeper.client (story_of w.agreed c) lived) h.told;
      names = λ x. (h.once x).1;
      sessions = nothing_after_the_end usual_limits w.agreed;
    }
