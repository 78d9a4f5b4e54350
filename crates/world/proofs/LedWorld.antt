-- The group's part of a way out: an Assign and the messages that lead its ballot to the start.
use Rattle.std.proofs.Common.{◌≡◌, inr, ◌<◌, ◌-◌, ◌+◌, ℕ, Bool, true, false, if◌then◌else◌, List, ◌∷◌, ◌++◌, None, Some, length, map, refl, ap, ◌∙◌, subst, arith}
use Rattle.std.specs.Prelude.{nat_le}
use Rattle.std.proofs.lemmas.Bool.{leb-false}
use Rattle.agreement.specs.MasterState.{MasterState}
use Rattle.machine.specs.Ballots.{max_ballot}
use Rattle.agreement.specs.MasterState.AssignRefusal.{bad_members, ballots_spent}
use Rattle.ballot_base.specs.declared.config.Config.{Config}
use Rattle.ballot_base.specs.LawfulConfig.{is_lawful}
use Rattle.ballot_base.specs.declared.message.Message.{Message}
use Rattle.broker_spec.specs.declared.command.Command.{Command}
use Rattle.broker_spec.specs.declared.command.Output.{Output}
use Rattle.broker_spec.specs.Place.{Client}
use Rattle.broker_base.specs.State.{State}
use Rattle.world_nodes.specs.recoveries.Deliveries.{AreCalm, AreFollowed, IsSeen}
use Rattle.recovery.specs.replicas.CutDeliveries.{Delivered, assigned_moment}
use Rattle.recovery.specs.replicas.CutTheorems.{LeadsOut}
use Rattle.recovery.specs.replicas.Deliveries.{recovery_messages}
use Rattle.world_nodes.proofs.of_recoveries.LedOut.{assigned_seen, low_before, recovery_of}
use Rattle.world_nodes.proofs.of_recoveries.NodesFollow.{deliveries_are_followed}
use Rattle.headline.specs.node_group.Group.{Group, moment_of_nodes}
use Rattle.agreement.specs.cut_logs.Moments.{Moment, Moments}
use Rattle.world_base.specs.node_core.Core.{rules}
use Rattle.world_nodes.specs.RecoveryChecks.{whole_log_of}
use Rattle.world_nodes.specs.ExactSteps.{after_giving}
use Rattle.world_nodes.specs.Nodes.{NodesState, NodesStandFor}
use Rattle.world_nodes.proofs.MasterActs.{gives_exactly}
use Rattle.world_pipes.specs.declared.events.event.Event.{Event}
use Rattle.world_pipes.specs.declared.events.event.Event.TheVariants as events
use Rattle.world.specs.Recovery.{CanEscape, configuration_of}
use Rattle.world.specs.Trace.{WorldLosesNothing}
use Rattle.world_pipes.specs.clients.NodesGoOn.{NodesGo}
use Rattle.world.specs.Events.{EventsHappen}
use Rattle.world_pipes.specs.clients.SlotsAreValid.{SlotsAreValid, targets_of_clients}
use Rattle.world.specs.StandsFor.{FollowsModel}
use Rattle.world.specs.World.{WorldState}
use Rattle.world.proofs.CanLead.{can_be_led, seen_as}
use Rattle.world.proofs.DeliversOn.{walk}
use Rattle.world.proofs.ExactRuns.{first_done, in_two}
use Rattle.world.proofs.GroupGoes.{goes_apart, with_nodes}
use Rattle.world.proofs.GroupGoes.GoesApart.{acts as goes_by}
use Rattle.world.proofs.Joined.{world_goes_join}
use Rattle.world_pipes.proofs.of_clients.NodesGoOn.{nodes_go_join}
use Rattle.world.proofs.PassesOn.{seen_of}

-- the world then, and the events after it
pub record LedTo (config : Config) (g : Group) (moments : List (Moment State Command Output)) (members : List ℕ) (index : ℕ) (log : List Command) (more : List Event)
    (w new : WorldState) : Type 0 where
  pub pair : LeadsOut rules config (moment_of_nodes g ∷ moments) (moment_of_nodes g) (configuration_of members) index log
  pub mid : WorldState
  pub followed : AreFollowed (g.master.given + 1) pair.last (after_giving (configuration_of members) w.nodes) mid.nodes
  pub nodes : NodesGo w.nodes mid.nodes
  pub world : FollowsModel w mid
  pub housed : SlotsAreValid (targets_of_clients mid.clients) mid.connections
  pub clients : map seen_of mid.clients ≡ map seen_of w.clients
  pub many : length mid.connections ≡ length w.connections
  pub rest : EventsHappen more mid new
  pub whole : WorldLosesNothing mid new

-- of the group's events with these after them
abbrev pub group_events : WorldState → List ℕ → ℕ → List Event
group_events w members index =
    events.Assign (configuration_of members)
    ∷ map events.Deliver (recovery_messages (length w.nodes.sent) (length w.nodes.master.members) index (length (configuration_of members).members - 1))

module _ (config : Config) (g : Group) (moments : List (Moment State Command Output)) (came : Moments rules config (moment_of_nodes g ∷ moments)) (w : WorldState) (s : NodesStandFor g w.nodes)
    (housed : SlotsAreValid (targets_of_clients w.clients) w.connections) (members : List ℕ) (name : Client) (possible : CanEscape members name w) (more : List Event) (new : WorldState) where
  abbrev conf : Config
  conf = configuration_of members

  abbrev numbers : List ℕ
  numbers = recovery_messages (length w.nodes.sent) (length w.nodes.master.members) possible.index (length conf.members - 1)

  pair : LeadsOut rules config (moment_of_nodes g ∷ moments) (moment_of_nodes g) conf possible.index (whole_log_of w.nodes possible.source)
  pair = recovery_of config (moment_of_nodes g) moments came conf possible.index possible.source (whole_log_of w.nodes possible.source) (can_be_led config g moments came w s members name possible)

  seen : IsSeen (moment_of_nodes g) w.nodes
  seen = seen_as g w.nodes s

  same : recovery_messages (length g.sent) (length g.master.members) possible.index (length conf.members - 1) ≡ numbers
  same = ap (λ (l : List (ℕ × Message Command)). recovery_messages (length l) (length g.master.members) possible.index (length conf.members - 1)) s.sent
      ∙ ap (λ (m : MasterState). recovery_messages (length w.nodes.sent) (length m.members) possible.index (length conf.members - 1)) s.master

  pub led_to : EventsHappen (group_events w members possible.index ++ more) w new → WorldLosesNothing w new → LedTo config g moments members possible.index (whole_log_of w.nodes possible.source) more w new
  led_to run none =
      let f = first_done (events.Assign conf) (map events.Deliver numbers ++ more) w new run none (λ cannot. cannot possible.granted) in
      let given : WorldState = with_nodes (after_giving conf w.nodes) w in
      let is : f.after ≡ given = f.does.2 ∙ ap (λ (n : NodesState). with_nodes n w) f.does.1 in
      let rest : EventsHappen (map events.Deliver numbers ++ more) given new = subst (λ (v : WorldState). EventsHappen (map events.Deliver numbers ++ more) v new) is f.rest in
      let whole : WorldLosesNothing given new = subst (λ (v : WorldState). WorldLosesNothing v new) is f.whole in
      let on = goes_apart w (after_giving conf w.nodes) (omega arith) (goes_by None refl (λ h t. (gives_exactly w.nodes conf possible.granted h t).0)) in
      let t = in_two (map events.Deliver numbers) more given new rest whole in
      let calm : AreCalm (g.master.given + 1) given.nodes = λ at node there. inr (low_before config (moment_of_nodes g) moments came w.nodes seen at node there) in
      let first_seen : IsSeen (assigned_moment conf (moment_of_nodes g)) given.nodes = assigned_seen (moment_of_nodes g) w.nodes conf seen in
      let delivered = subst (λ (ks : List ℕ). Delivered rules (g.master.given + 1) (assigned_moment conf (moment_of_nodes g)) ks pair.last) same pair.delivered in
      let p = walk (g.master.given + 1) (assigned_moment conf (moment_of_nodes g)) pair.last numbers delivered given t.mid t.first t.whole_first first_seen calm housed in
      record {
        pair = pair;
        mid = t.mid;
        followed = deliveries_are_followed (g.master.given + 1) (assigned_moment conf (moment_of_nodes g)) pair.last numbers delivered given.nodes t.mid.nodes p.come first_seen calm;
        nodes = nodes_go_join w.nodes given.nodes t.mid.nodes on.nodes.goes p.nodes;
        world = world_goes_join w given t.mid on.goes p.world;
        housed = p.housed;
        clients = p.clients;
        many = p.many;
        rest = t.last;
        whole = t.whole_last;
      }

  -- ---- the ballot that it gives is one that there is

  pub lawful : (is_lawful w.nodes.master.greatest conf.members conf.primary ≡ true) × (w.nodes.master.given < max_ballot)
  lawful = by (is_lawful w.nodes.master.greatest conf.members conf.primary) (nat_le max_ballot w.nodes.master.given) refl refl possible.granted
    where
      by : (l t : Bool) → is_lawful w.nodes.master.greatest conf.members conf.primary ≡ l → nat_le max_ballot w.nodes.master.given ≡ t →
          (if l then (if t then Some ballots_spent else None) else Some bad_members) ≡ None → (is_lawful w.nodes.master.greatest conf.members conf.primary ≡ true) × (w.nodes.master.given < max_ballot)
      by true false e f h = (e, leb-false max_ballot w.nodes.master.given f)
      by true true e f h = cc
      by false t e f h = cc
