-- What a world's steps are in its group.
use Rattle.std.specs.Prelude.{ℕ, List}
use Rattle.ballot_base.specs.declared.config.Config.{Config}
use Rattle.broker_spec.specs.Place.{Client}
use Rattle.headline.specs.node_group.Steps.{GroupTrace}
use Rattle.headline.specs.node_group.Steps.GroupTrace.{opened, then_went}
use Rattle.headline.specs.node_group.Carried.{Carries}
use Rattle.headline.specs.byte_world.World.{ByteWorld}
use Rattle.headline.specs.byte_world.Steps.{Reached, ByteWorldStep}
use Rattle.headline.specs.byte_world.Steps.Reached.{begins, goes_on}
use Rattle.headline.specs.byte_world.Steps.ByteWorldStep.{group_goes, calls, connects, is_taken_back, comes_up, goes_down, arrives, handles}

-- if a step of a world has a step of its group, the group does that step
abbrev pub went_on : {nodes : ℕ} {config : Config} {before after : ByteWorld} →
    GroupTrace nodes config before.group → ByteWorldStep before after →
    GroupTrace nodes config after.group
went_on went (group_goes node_call done apart) = then_went went done.step
went_on went (calls index client after step at call spelled) = went
went_on went (connects index node client port now done core end at unused after there spelled) =
    then_went went done.step
went_on went (is_taken_back node port now done core unused after none) = then_went went done.step
went_on went (comes_up index nth client connection pipe piece rest now done has is) =
    then_went went done.step
went_on went (goes_down index nth client connection pipe done has) = then_went went done.step
went_on went (arrives index nth client connection pipe piece rest has is) = went
went_on went
    (handles index client connection others pipe pipes packet left at first piped is_open takes
    spelled) = went

-- the steps of the group of a world on this way to it
abbrev pub trace_of : {nodes : ℕ} {config : Config} {clients : List Client} {world : ByteWorld} →
    Reached nodes config clients world → GroupTrace nodes config world.group
trace_of (begins greatest can) = opened greatest can
trace_of (goes_on before step) = went_on (trace_of before) step

-- on each way to a world, each connection carries its packets in order in the steps of the world's
-- group
abbrev pub WorldsCarryInOrder : Type 0
WorldsCarryInOrder =
    (nodes : ℕ) (config : Config) (clients : List Client) (world : ByteWorld)
    (trail : Reached nodes config clients world) → Carries (trace_of trail)
