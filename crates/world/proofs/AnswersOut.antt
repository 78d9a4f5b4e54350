-- The CONNECT of a client comes to the primary of the new ballot, and is answered: at once, or when the others have answered.
use Rattle.std.proofs.Common.{◌≡◌, ◌<◌, ◌+◌, ◌*◌, ℕ, suc, true, List, [], ◌∷◌, ◌++◌, Option, Some, length, map, slice_get, refl, sym, ◌∙◌}
use Rattle.std.specs.List.{position}
use Rattle.ballot_base.specs.declared.config.Config.{Config}
use Rattle.broker_spec.specs.declared.command.Command.{Command}
use Rattle.broker_spec.specs.Connection.{ConnectionName}
use Rattle.broker_spec.specs.declared.command.Output.{Output}
use Rattle.broker_base.specs.State.{State}
use Rattle.client.specs.Core.{Core}
use Rattle.world_nodes.specs.recoveries.Answered.{CanAsk, begun_log}
use Rattle.recovery.specs.replicas.CutDeliveries.Delivered.{all_came}
use Rattle.recovery.specs.replicas.Deliveries.{NumbersAreApart, NodeIs}
use Rattle.recovery.specs.replicas.LedStates.{Follows, LeadsIn}
use Rattle.world_nodes.proofs.of_recoveries.ClientAnswered.{AwaitsOthers, others_are_awaited, others_let_the_client_be_answered, sole_member_answers_the_client, waits_on}
use Rattle.world_nodes.proofs.of_recoveries.NodesFollow.{deliveries_are_followed}
use Rattle.agreement.specs.cut_logs.Moments.{Moment, Moments, whole_moment}
use Rattle.agreement.specs.cut_logs.Whole.{whole}
use Rattle.headline.specs.node_group.Group.{replica_of}
use Rattle.headline.specs.node_moves.Moves.{NodeCall}
use Rattle.headline.specs.node_moves.Moves.NodeCall.{takes}
use Rattle.lists.specs.Lists.{In}
use Rattle.lists.proofs.Places.{get_set}
use Rattle.packet.specs.declared.connect.Connect.{Connect}
use Rattle.world_base.specs.node_core.Core.{CountedCore, rules}
use Rattle.world_base.specs.declared.node_core.item.Item.{Item}
use Rattle.world_base.specs.declared.node_core.item.Item.TheVariants.{Bytes}
use Rattle.world_base.specs.node_core.Step.{node_step}
use Rattle.world_nodes.specs.ExactSteps.{after_node_call}
use Rattle.world_nodes.specs.Nodes.{NodesState}
use Rattle.world_nodes.proofs.Acts.{acts}
use Rattle.world_pipes.specs.declared.events.event.Event.{Event}
use Rattle.world_pipes.specs.declared.events.event.Event.TheVariants as events
use Rattle.world_pipes.specs.clients.Clients.{is_named}
use Rattle.world.specs.Found.{port_at_node}
use Rattle.world.specs.NodeOutput.{Gathers}
use Rattle.world.specs.Trace.{WorldLosesNothing}
use Rattle.world_pipes.specs.clients.NodesGoOn.{NodesGo}
use Rattle.world.specs.Events.{EventsHappen}
use Rattle.world_pipes.specs.clients.SlotsAreValid.{SlotsAreValid, targets_of_clients}
use Rattle.world.specs.World.{WorldState}
use Rattle.world.proofs.ExactRuns.{in_two}
use Rattle.world_pipes.proofs.of_clients.NodesGoOn.{acts_go}
use Rattle.world.proofs.GroupGoes.{with_nodes}
use Rattle.world.proofs.LedOn.{IsLedAt, RunOn, bytes_run_on, come_runs, led_bytes}
use Rattle.world_pipes.proofs.of_clients.NodesGoOn.{nodes_go_join}
use Rattle.world.proofs.PassesOn.{Passes, gathers_passes, passes_join}
use Rattle.world.proofs.PutsFirst.{AnsweredTo, BeforeLast, IsAnswered, answers_last, numbers_before, put_first}
use Rattle.world.proofs.StandsOn.{IsNewest}
use Rattle.world.proofs.WaitsOn.{own_waits, walk_waiting}

-- A CONNECT, `piece`, is taken from the newest connection of the world `w`, and comes to the
-- primary at this index; what that queues then goes down, to the world `after`.
module _ (name : List ℕ) (i at number place : ℕ) (core : Core) (up : List ℕ) (w after : WorldState) (node : CountedCore) (positive : 0 < number)
    (stands : slice_get w.nodes.nodes place ≡ Some node) (piece : List ℕ)
    (gathers : Gathers true (suc place) (with_nodes (after_node_call place node (takes (Bytes (port_at_node number) piece 0)) w.nodes) w) after)
    (housed : SlotsAreValid (targets_of_clients w.clients) w.connections)
    (s : IsNewest i at number (suc place) core up [] true (with_nodes (after_node_call place node (takes (Bytes (port_at_node number) piece 0)) w.nodes) w))
    (first : position (is_named name) w.clients ≡ Some i)
    (config : Config) (a : Moment State Command Output) (moments : List (Moment State Command Output)) (came : Moments rules config (a ∷ moments)) (ballot start : ℕ) (x : ConnectionName)
    (list : List Command) (connect : Connect) where
  abbrev item : Item
  item = Bytes (port_at_node number) piece 0

  abbrev taken : NodesState
  taken = after_node_call place node (takes item) w.nodes

  abbrev turned : CountedCore
  turned = record node { core = (node_step item node.core).core }

  passes : Passes [] (with_nodes taken w) after
  passes = gathers_passes (suc place) (with_nodes taken w) after gathers housed

  goes : NodesGo w.nodes taken
  goes = acts_go (let node_call : Option (ℕ × NodeCall) = Some (place, takes item) in node_call) w.nodes taken (acts w.nodes place node (takes item) stands (λ g t. tt))

  runs : RunOn w.nodes taken
  runs = bytes_run_on w.nodes place node (port_at_node number) piece 0 stands

  led : LeadsIn ballot (whole a.world.archive (replica_of node.core)) → IsLedAt ballot place taken
  led l = led_bytes ballot place w.nodes node (port_at_node number) piece 0 stands (record { runs = l.runs; joined = l.joined; role = l.role })

  -- a sole member answers at once
  pub answers_alone : CanAsk a w.nodes ballot place node [] (port_at_node number) x list start piece connect → IsAnswered name i at number place core ballot w.nodes after.nodes after
  answers_alone possible =
      put_first name i at number place core up (with_nodes taken w) after turned positive (get_set w.nodes.nodes place node turned stands)
      (sole_member_answers_the_client config a moments came w.nodes ballot place node (port_at_node number) x list start 0 piece connect possible)
      gathers housed s first ballot (led possible.serves.leads) w.nodes (nodes_go_join w.nodes taken after.nodes goes passes.nodes) refl
      (λ m e. come_runs taken after.nodes [] passes.come m (runs m e))

  -- ---- with others

  module _ (front : List ℕ) (last : ℕ) (possible : CanAsk a w.nodes ballot place node (front ++ last ∷ []) (port_at_node number) x list start piece connect)
      (apart : NumbersAreApart (front ++ last ∷ [])) (out : In (place + 1) (front ++ last ∷ []) → ⊥)
      (each : (m : ℕ) → In m (front ++ last ∷ []) → NodeIs (Follows ballot (begun_log list start)) (whole_moment a).world.nodes m)
      (more : List Event) (new : WorldState) where
    abbrev ks : List ℕ
    ks = numbers_before (length w.nodes.sent) (length front)

    abbrev index : ℕ
    index = length w.nodes.sent + 2 * length front + 1

    awaits : AwaitsOthers ballot place (port_at_node number) x ks taken
    awaits = others_are_awaited config a moments came w.nodes ballot place node front last (port_at_node number) x list start 0 piece connect possible apart out each

    newest : IsNewest i at number (suc place) core up [] true after
    newest = own_waits i at number place core up x (with_nodes taken w) after awaits.waits.node positive awaits.waits.stands awaits.waits.waits gathers housed s

    -- all but the last answer
    others_answer : EventsHappen (map events.Deliver ks ++ events.Deliver index ∷ more) after new → WorldLosesNothing after new →
        BeforeLast ks i at number place core up index ballot more (with_nodes taken w) new
    others_answer run none =
        let t = in_two (map events.Deliver ks) (events.Deliver index ∷ more) after new run none in
        let f = deliveries_are_followed ballot awaits.moment awaits.moment [] all_came taken after.nodes passes.come awaits.seen awaits.calm in
        let v = walk_waiting ballot place x i at number core up positive awaits.moment awaits.before ks awaits.delivered after t.mid t.first t.whole_first f.seen f.calm passes.housed
        (waits_on ballot place (port_at_node number) x awaits.moment awaits.moment [] all_came taken after.nodes passes.come awaits.seen awaits.calm awaits.waits) newest in
        record {
          mid = t.mid;
          passes = passes_join [] ks (with_nodes taken w) after t.mid passes v.passes;
          newest = v.newest;
          led = record { node = v.waits.node; stands = v.waits.stands; leads = record { runs = v.waits.leads.runs; joined = v.waits.leads.joined; role = v.waits.leads.role } };
          rest = t.last;
          whole = t.whole_last;
        }

    pub answers_with_others : EventsHappen (map events.Deliver ks ++ events.Deliver index ∷ more) after new → WorldLosesNothing after new → AnsweredTo name i at number place core ballot w.nodes more new
    answers_with_others run none =
        let b = others_answer run none in
        let f = deliveries_are_followed ballot awaits.moment awaits.before ks awaits.delivered taken b.mid.nodes b.passes.come awaits.seen awaits.calm in
        answers_last name ks i at number place core up index last ballot (begun_log list start) more (with_nodes taken w) new positive b
        (others_let_the_client_be_answered config a moments came w.nodes b.mid.nodes ballot place node front last (port_at_node number) x list start 0 piece connect possible apart out each b.passes.come)
        first w.nodes (nodes_go_join w.nodes taken b.mid.nodes goes b.passes.nodes) (sym f.seen.master ∙ awaits.master)
        (λ m e. come_runs taken b.mid.nodes ks b.passes.come m (runs m e))
