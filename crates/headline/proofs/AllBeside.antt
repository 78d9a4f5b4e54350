-- Beside every world that is reached goes one of `model`.
use Rattle.std.proofs.Common.{◌≡◌, ℕ, List, [], ◌++◌, true, map, refl, sym, ◌∙◌}
use Rattle.ballot_base.specs.declared.config.Config.{Config}
use Rattle.broker_spec.specs.Place.{Client}
use Rattle.lists.specs.Lists.{Each}
use Rattle.agreement.specs.World.{can_open}
use Rattle.headline.specs.packet_world.World.{ClientsAreApart, ClientEnds, opening as opening_beside, story_of as story_beside}
use Rattle.headline.specs.packet_world.World as model
use Rattle.headline.specs.packet_world.Steps.Reached.{begins as begins_beside}
use Rattle.headline.proofs.of_packet_world.Lists.{each_by}
use Rattle.headline.specs.node_group.Steps.{GroupTrace}
use Rattle.headline.specs.node_group.Steps.GroupTrace.{opened}
use Rattle.headline.specs.byte_world.Carried.{trace_of, went_on}
use Rattle.headline.specs.byte_world.Steps.{Reached, ByteWorldStep}
use Rattle.headline.specs.byte_world.Steps.Reached.{begins, goes_on}
use Rattle.headline.specs.byte_world.Steps.ByteWorldStep.{group_goes, calls, connects, is_taken_back, comes_up, goes_down, arrives, handles}
use Rattle.headline.specs.byte_world.World.{ByteWorld, new_client, opening}
use Rattle.headline.proofs.of_byte_world.PipesInOrder.{opens_hold, step_holds}
use Rattle.headline.proofs.of_byte_world.WorldsHold.{Holds}
use Rattle.headline.proofs.AllPutOut.{IsFull}
use Rattle.headline.proofs.Beside.{Beside, ends_alone, grows_beside}
use Rattle.headline.proofs.ClientsGo.{calls_so, connects_so, handles_so}
use Rattle.headline.proofs.GoesBeside.{GoesBeside, group_beside, pipe_beside, pipe_rests}
use Rattle.headline.proofs.of_node_group.CarriedInOrder.{carried_at_first}
use Rattle.headline.proofs.Places.{each_of_made, map_twice}
use Rattle.headline.proofs.WorldsWrite.{HasAllPipes, clients_alone, is_of_written, pipes_alone}

-- ---- as it opens

-- at the same time a world of `model` opens
opens_beside : (cs : List Client) → Beside cs [] (map pipes_alone (map new_client cs))
opens_beside cs =
    record {
      world = opening_beside cs;
      reached = begins_beside;
      is = refl;
      full = each_of_made model.new_client (IsFull []) cs (each_by (λ c. IsFull [] (model.new_client c)) cs (λ i c at. refl));
      same = map_twice model.new_client ends_alone cs ∙ sym (map_twice new_client pipes_alone cs);
    }

opens_so : (greatest nodes : ℕ) (config : Config) (cs : List Client) → ClientsAreApart cs → (can : can_open greatest nodes config ≡ true)
    → GoesBeside nodes config cs (opening greatest nodes config cs) (opened greatest can)
opens_so greatest nodes config cs apart can =
    let so = carried_at_first greatest nodes config can in
    let holds = opens_hold greatest nodes config cs (opened greatest can) (λ x. (refl, refl)) in
    let piped : Each HasAllPipes (opening greatest nodes config cs).clients = each_of_made new_client HasAllPipes cs (each_by (λ c. HasAllPipes (new_client c)) cs (λ i c at. refl)) in
    record {
      holds = holds;
      piped = piped;
      so = so;
      beside = λ agreed is.
          grows_beside cs apart [] agreed (clients_alone (opening greatest nodes config cs)) (opens_beside cs) (record { rest = agreed; is = refl })
          (is_of_written (opening greatest nodes config cs) (opened greatest can) holds piped so agreed is);
    }

-- ---- each step

step_goes : {nodes : ℕ} {config : Config} {cs : List Client} → ClientsAreApart cs → (v w : ByteWorld) (went : GroupTrace nodes config v.group) → GoesBeside nodes config cs v went
    → (step : ByteWorldStep v w) → Holds w (went_on went step) → GoesBeside nodes config cs w (went_on went step)
step_goes apart v w went s (group_goes node_call d is_apart) holds =
    group_beside apart (record v { group = d.after }) v.group went s.so d.step (λ agreed is. s.beside agreed is) holds s.piped
step_goes apart v w went s (calls i c t h at call spelled) holds = calls_so v went i c t h s at call holds
step_goes apart v w went s (connects i n c port now d core end at unused after there_so spelled) holds = connects_so apart v went i n c end.name port now d s at holds
step_goes apart v w went s (is_taken_back n port now d core unused after none) holds =
    group_beside apart (record v { group = d.after }) v.group went s.so d.step (λ agreed is. s.beside agreed is) holds s.piped
step_goes apart v w went s (comes_up i j c κ p piece rest now d has is) holds = pipe_beside apart v went d.after i j c (record p { up = rest }) s d.step has.client holds
step_goes apart v w went s (goes_down i j c κ p d has) holds = pipe_beside apart v went d.after i j c _ s d.step has.client holds
step_goes apart v w went s (arrives i j c κ p piece rest has is) holds =
    pipe_rests v went i j c (record p { down = rest; came = record p.came { bytes = p.came.bytes ++ piece } }) s has.client holds
step_goes apart v w went s (handles i c κ others p pipes packet left at first piped is_open cut spelled) holds =
    handles_so v went i c κ others p pipes packet left s at first piped is_open cut holds

pub goes_beside : {nodes : ℕ} {config : Config} {cs : List Client} → ClientsAreApart cs → (w : ByteWorld) (trail : Reached nodes config cs w) → GoesBeside nodes config cs w (trace_of trail)
goes_beside {nodes = nodes} {config = config} {cs = cs} apart w (begins greatest can) = opens_so greatest nodes config cs apart can
goes_beside apart w (goes_on {old = v} before step) =
    let s = goes_beside apart v before in step_goes apart v w (trace_of before) s step (step_holds v w (trace_of before) s.holds step)
