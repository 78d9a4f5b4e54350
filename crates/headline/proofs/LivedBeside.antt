-- To each client of a world, and to each list on which its nodes agree, there is a life that it lived.
use Rattle.std.proofs.Common.{◌≡◌, ℕ, List, Some, ap, ◌∙◌}
use Rattle.std.specs.Prelude.{slice_get}
use Rattle.ballot_base.specs.declared.config.Config.{Config}
use Rattle.broker_spec.specs.declared.command.Command.{Command}
use Rattle.broker_spec.specs.Commands.{past_of, usual_limits}
use Rattle.broker_spec.specs.Place.{Client}
use Rattle.exactly_once.specs.Lives.{Lived}
use Rattle.exactly_once.specs.Story.{Story}
use Rattle.headline.specs.packet_world.World.{ClientsAreApart, ClientEnds, story_of}
use Rattle.headline.proofs.of_packet_world.Holds.{IsTold}
use Rattle.headline.proofs.of_packet_world.Lists.{each_get}
use Rattle.headline.proofs.of_packet_world.WorldsExact.{reached_holds}
use Rattle.headline.specs.node_group.Steps.{GroupTrace}
use Rattle.headline.specs.byte_world.World.{ClientPipes, ByteWorld}
use Rattle.headline.proofs.of_node_group.CarriedInOrder.{IsAgreedSo}
use Rattle.headline.proofs.of_node_group.Placed.{get_mapped}
use Rattle.headline.proofs.Beside.{Alone, Beside, ends_alone}
use Rattle.headline.proofs.GoesBeside.{GoesBeside}
use Rattle.headline.proofs.Places.{map_back}
use Rattle.headline.proofs.Untaken.{AreSameUntaken}
use Rattle.headline.proofs.WorldsWrite.{clients_alone, pipes_alone}

pub record HasLife (agreed : List Command) (c : ClientPipes) : Type 0 where
  pub story : Story
  pub lived : Lived usual_limits story.keeper.client story
  pub past : story.past ≡ past_of usual_limits agreed
  pub keeper : story.keeper ≡ c.keeper
  pub connections : AreSameUntaken story.connections c.connections

pub lived_beside : {nodes : ℕ} {config : Config} {cs : List Client} → ClientsAreApart cs → (w : ByteWorld) (went : GroupTrace nodes config w.group) (s : GoesBeside nodes config cs w went)
    (agreed : List Command) → IsAgreedSo s.so agreed → (i : ℕ) (c : ClientPipes) → slice_get w.clients i ≡ Some c → HasLife agreed c
lived_beside {cs = cs} apart w went s agreed is i c at = by (map_back ends_alone b.world.clients i (pipes_alone c) (ap (λ l. slice_get l i) b.same ∙ get_mapped pipes_alone w.clients i c at))
  where
    b : Beside cs agreed (clients_alone w)
    b = s.beside agreed is

    by : (d : ClientEnds) × (slice_get b.world.clients i ≡ Some d) × (ends_alone d ≡ pipes_alone c) → HasLife agreed c
    by (d, there, same) =
        record {
          story = story_of b.world.agreed d;
          lived = each_get (IsTold b.world.agreed) b.world.clients i d (reached_holds cs b.world apart b.reached).told there;
          past = ap (past_of usual_limits) b.is;
          keeper = ap (λ (a : Alone). a.keeper) same;
          connections = ap (λ (a : Alone). a.connections) same;
        }
