-- What is known about a world on the way, together with a world of `model`; and that a step of the
-- group, and the carrying of bytes, keeps it.
use Rattle.std.proofs.Common.{◌≡◌, ℕ, List, map, set, Some, refl, sym, ◌∙◌, subst}
use Rattle.std.specs.Prelude.{slice_get}
use Rattle.std.proofs.lemmas.List.{length-set}
use Rattle.ballot_base.specs.declared.config.Config.{Config}
use Rattle.broker_spec.specs.declared.command.Command.{Command}
use Rattle.broker_spec.specs.Place.{Client}
use Rattle.lists.specs.Lists.{Each}
use Rattle.agreement.proofs.of_cut_logs.MomentsAgree.{has_agreed}
use Rattle.headline.specs.packet_world.World.{ClientsAreApart}
use Rattle.headline.proofs.of_packet_world.Lists.{each_get, each_set}
use Rattle.headline.proofs.of_packet_world.TakenOn.{map_set}
use Rattle.world_base.specs.node_core.Core.{rules}
use Rattle.headline.specs.node_group.Group.{Group, moment_of_nodes}
use Rattle.headline.specs.node_group.Steps.{GroupStep, GroupTrace}
use Rattle.headline.specs.node_group.Steps.GroupTrace.{then_went}
use Rattle.headline.specs.byte_world.World.{ClientPipes, Pipe, ByteWorld, with_client, with_pipe}
use Rattle.headline.proofs.of_byte_world.WorldsHold.{Holds}
use Rattle.headline.proofs.Beside.{Beside, grows_beside}
use Rattle.headline.proofs.of_node_group.CarriedInOrder.{CarriedSo, IsAgreedSo, carried_on}
use Rattle.headline.proofs.WorldsWrite.{HasAllPipes, clients_alone, is_of_written, pipes_alone}

-- a past of all steps of its group, and for each list that is agreed at its end a world of `model`
pub record GoesBeside (nodes : ℕ) (config : Config) (cs : List Client) (w : ByteWorld) (went : GroupTrace nodes config w.group) : Type 0 where
  pub holds : Holds w went
  pub piped : Each HasAllPipes w.clients
  pub so : CarriedSo went
  pub beside : (agreed : List Command) → IsAgreedSo so agreed → Beside cs agreed (clients_alone w)

-- ---- the group continues

pub group_beside : {nodes : ℕ} {config : Config} {cs : List Client} → ClientsAreApart cs → (w : ByteWorld) (g : Group) (went : GroupTrace nodes config g) (so : CarriedSo went) (step : GroupStep g w.group)
    → ((agreed : List Command) → IsAgreedSo so agreed → Beside cs agreed (clients_alone w)) → Holds w (then_went went step) → Each HasAllPipes w.clients
    → GoesBeside nodes config cs w (then_went went step)
group_beside {config = config} {cs = cs} apart w g went so step beside holds piped =
    let on = carried_on g w.group went so step in
    let xs = has_agreed rules config (moment_of_nodes g) so.of.earlier so.of.moments in
    record {
      holds = holds;
      piped = piped;
      so = on.now;
      beside = λ agreed is.
          grows_beside cs apart xs.0 agreed (clients_alone w) (beside xs.0 xs.1) (on.grows xs.0 agreed xs.1 is)
          (is_of_written w (then_went went step) holds piped on.now agreed is);
    }

-- ---- one pipe of a client becomes another

pub piped_still : (clients : List ClientPipes) (i j : ℕ) (c : ClientPipes) (q : Pipe) → slice_get clients i ≡ Some c → Each HasAllPipes clients
    → Each HasAllPipes (set clients i (with_pipe j q c))
piped_still clients i j c q at piped =
    each_set HasAllPipes clients i (with_pipe j q c) piped (length-set c.pipes j q ∙ each_get HasAllPipes clients i c piped at)

pub alone_still : (clients : List ClientPipes) (i j : ℕ) (c : ClientPipes) (q : Pipe) → slice_get clients i ≡ Some c
    → map pipes_alone (set clients i (with_pipe j q c)) ≡ map pipes_alone clients
alone_still clients i j c q at = map_set pipes_alone clients i c (with_pipe j q c) at refl

-- while the group continues
pub pipe_beside : {nodes : ℕ} {config : Config} {cs : List Client} → ClientsAreApart cs → (v : ByteWorld) (went : GroupTrace nodes config v.group) (g : Group) (i j : ℕ) (c : ClientPipes) (q : Pipe)
    (s : GoesBeside nodes config cs v went) (step : GroupStep v.group g) → slice_get v.clients i ≡ Some c → Holds (with_client i (with_pipe j q c) (record v { group = g })) (then_went went step)
    → GoesBeside nodes config cs (with_client i (with_pipe j q c) (record v { group = g })) (then_went went step)
pipe_beside {cs = cs} apart v went g i j c q s step at holds =
    group_beside apart (with_client i (with_pipe j q c) (record v { group = g })) v.group went s.so step
    (λ agreed is. subst (Beside cs agreed) (sym (alone_still v.clients i j c q at)) (s.beside agreed is)) holds (piped_still v.clients i j c q at s.piped)

-- while it rests
pub pipe_rests : {nodes : ℕ} {config : Config} {cs : List Client} (v : ByteWorld) (went : GroupTrace nodes config v.group) (i j : ℕ) (c : ClientPipes) (q : Pipe)
    (s : GoesBeside nodes config cs v went) → slice_get v.clients i ≡ Some c
    → Holds (with_client i (with_pipe j q c) v) went → GoesBeside nodes config cs (with_client i (with_pipe j q c) v) went
pipe_rests {cs = cs} v went i j c q s at holds =
    record {
      holds = holds;
      piped = piped_still v.clients i j c q at s.piped;
      so = s.so;
      beside = λ agreed is. subst (Beside cs agreed) (sym (alone_still v.clients i j c q at)) (s.beside agreed is);
    }
