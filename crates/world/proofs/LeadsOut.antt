-- The events of a way out lead out: to the next ballot, and to the client online with its session present.
use Rattle.std.proofs.Common.{◌≡◌, ◌-◌, ◌+◌, ℕ, suc, Bool, true, List, [], ◌∷◌, ◌++◌, length, map, refl, sym, ap, ◌∙◌, subst, append_assoc, arith}
use Rattle.std.specs.List.{list_all}
use Rattle.std.proofs.lemmas.Option.{none-some}
use Rattle.agreement.specs.MasterState.{MasterState}
use Rattle.agreement.specs.MasterState.AssignRefusal.{bad_members}
use Rattle.ballot_base.specs.declared.config.Config.{Config}
use Rattle.ballot_base.specs.declared.message.Message.{Message}
use Rattle.broker_spec.specs.declared.command.Command.{Command}
use Rattle.broker_spec.specs.declared.command.Output.{Output}
use Rattle.broker_spec.specs.Place.{Client}
use Rattle.broker_base.specs.State.{State}
use Rattle.client.specs.Core.{AppendsAll, Core}
use Rattle.client_base.specs.State.{is_open}
use Rattle.world_nodes.specs.recoveries.Answered.{begun_log}
use Rattle.world_nodes.specs.recoveries.Opened.{CanOpen}
use Rattle.recovery.specs.replicas.Deliveries.{asked_and_answered}
use Rattle.headline.specs.node_group.Group.{Group, moment_of_nodes}
use Rattle.agreement.specs.cut_logs.Moments.{Moment, Moments}
use Rattle.headline.specs.byte_world.Carried.{trace_of}
use Rattle.lists.specs.Lists.{In, IsPrefixOf}
use Rattle.lists.specs.Lists.In.{here, there}
use Rattle.packet.specs.declared.packet.Packet.TheVariants as packets
use Rattle.world_base.specs.node_core.Core.{rules}
use Rattle.world_nodes.specs.Agreed.{AgreeOn}
use Rattle.world_nodes.specs.RecoveryChecks.{whole_log_of}
use Rattle.world_nodes.specs.Nodes.{NodesState}
use Rattle.world_nodes.specs.RunningNodes.{is_running, numbered_node}
use Rattle.world_pipes.specs.StandsFor.{CanGoOut}
use Rattle.world_pipes.specs.declared.events.event.Event.{Event}
use Rattle.world_pipes.specs.declared.events.event.Event.TheVariants as events
use Rattle.world_pipes.specs.declared.clients.connection_slot.ConnectionSlot.{ConnectionSlot}
use Rattle.world.specs.Opening.{next_connection_number}
use Rattle.world.specs.Recovery.{CanEscape, HasEscaped, LeadsClientOut, ServesIn}
use Rattle.world.specs.Found.{port_at_node}
use Rattle.world.specs.Trace.{AreReached, WorldLosesNothing}
use Rattle.world_pipes.specs.clients.NodesGoOn.{NodesGo}
use Rattle.world.specs.Events.{EventsHappen}
use Rattle.world_pipes.specs.clients.SlotsAreValid.{SlotsAreValid, targets_of_clients}
use Rattle.world_pipes.specs.events.EscapeEvents.{answer_events, client_events, leaving}
use Rattle.world.specs.Inside.RecoveryEvents.{escaping_events, sent_then}
use Rattle.world.specs.StandsFor.{IsReached}
use Rattle.world.specs.World.{WorldState}
use Rattle.world.proofs.AgreedOnlyGrows.{agreed_grows}
use Rattle.world.proofs.AsksOut.{answers_out}
use Rattle.world.proofs.CanLead.{long}
use Rattle.world.proofs.ClientsStand.{client_at}
use Rattle.world.proofs.ConnackComes.{IsOnline, connack_comes}
use Rattle.world.proofs.ConnectSpelled.{connect_spelled, keeps}
use Rattle.world.proofs.LeavesOut.{HasLeft, leaves}
use Rattle.world.proofs.LedOn.{IsLedAt, all_pass, follower_runs, led_runs, led_serves}
use Rattle.world.proofs.LedWorld.{LedTo, lawful, led_to}
use Rattle.world.proofs.NamesKept.{core_seen, named_there}
use Rattle.world.proofs.NewPrimary.{IsNewPrimary, new_primary}
use Rattle.world.proofs.StaysReached.{are_reached}
use Rattle.world_pipes.proofs.of_clients.NodesGoOn.{nodes_go_join}
use Rattle.world.proofs.OneAgreed.{reached_agree}
use Rattle.world.proofs.OpensOut.{HasOpened, opens_out}
use Rattle.world.proofs.PutsFirst.{AnsweredTo}

module _ (name : Client) (w : WorldState) (housed : SlotsAreValid (targets_of_clients w.clients) w.connections) (first : ℕ) (os : List ℕ) (possible : CanEscape (first ∷ os) name w) (holds : Bool)
    (held : holds ≡ is_open possible.core.state.stage) (nodes : ℕ) (config : Config) (cs : List Client) (r : IsReached nodes config cs w) (new : WorldState) where
  abbrev g : Group
  g = r.world.group

  abbrev moments : List (Moment State Command Output)
  moments = r.exact.of.earlier

  came : Moments rules config (moment_of_nodes g ∷ moments)
  came = r.exact.of.moments

  abbrev ballot : ℕ
  ballot = g.master.given + 1

  abbrev list : List Command
  list = whole_log_of w.nodes possible.source

  abbrev log : List Command
  log = begun_log list ballot

  abbrev number : ℕ
  number = suc (length w.connections)

  abbrev bytes : ℕ
  bytes = 14 + length possible.core.state.client

  -- ---- the events after those of the group

  abbrev more : List Event
  more =
      client_events holds name first number bytes ++ answer_events (sent_then w (length (first ∷ os) - 1)) (length (first ∷ os) - 1) number

  abbrev last_event : List Event
  last_event = events.CarryDown number 4 ∷ []

  abbrev asking : ℕ → List Event
  asking sent = events.CarryUp number bytes ∷ (map events.Deliver (asked_and_answered sent (length os)) ++ last_event)

  abbrev opening : ℕ → List Event
  opening node = events.Open name node ∷ asking (sent_then w (length os))

  more_is : (node : ℕ) → first ≡ node → more ≡ leaving holds name ++ opening node
  more_is node same =
      append_assoc (leaving holds name) (events.Open name first ∷ events.CarryUp number bytes ∷ [])
      (answer_events (sent_then w (length (first ∷ os) - 1)) (length (first ∷ os) - 1) number)
      ∙ ap (λ (k : ℕ). leaving holds name ++ (events.Open name first ∷ events.CarryUp number bytes ∷ answer_events (sent_then w k) k number))
      (let e : length (first ∷ os) - 1 ≡ length os = omega arith in e)
      ∙ ap (λ (n : ℕ). leaving holds name ++ opening n) same

  -- ---- what the client keeps can be spelled

  fits : CanGoOut possible.core.state
  fits =
      let t = named_there name possible.core w.clients possible.client in
      subst (λ (k : Core). CanGoOut k.state) t.is (client_at w.clients r.world.clients t.at t.client r.stands.clients t.found).stands.fits

  module _ (l : LedTo config g moments (first ∷ os) possible.index list more w new) (p : IsNewPrimary l.pair.last ballot log first os l.mid)
      (left : HasLeft name possible.core (opening (suc p.index)) l.mid new) where
    abbrev b : Moment State Command Output
    b = l.pair.last

    same_number : next_connection_number left.after ≡ number
    same_number = ap (λ (c : List ConnectionSlot). suc (length c)) left.connections ∙ ap suc l.many

    can_open : CanOpen b left.after.nodes ballot p.index p.node os log (port_at_node (next_connection_number left.after))
    can_open =
        subst (λ (n : NodesState). CanOpen b n ballot p.index p.node os log (port_at_node (next_connection_number left.after))) (sym left.nodes)
        (subst (λ (c : List ConnectionSlot). CanOpen b l.mid.nodes ballot p.index p.node os log (port_at_node (suc (length c)))) (sym left.connections) p.possible)

    -- from the world in which the connection was opened
    module _ (v : WorldState) (h : HasOpened name left.before.state b ballot p.index os log number left.after v)
        (run : EventsHappen (asking (sent_then w (length os))) v new) (none : WorldLosesNothing v new) where
      sent_is : sent_then w (length os) ≡ length v.nodes.sent
      sent_is =
          let all = l.pair.sent in
          let now = ap (λ (xs : List (ℕ × Message Command)). length xs) h.awaits.seen.sent in
          let before = ap (λ (xs : List (ℕ × Message Command)). length xs) r.stands.nodes.sent in
          let members = ap (λ (x : MasterState). length x.members) r.stands.nodes.master in
          omega (arith, all, now, before, members)

      written : AppendsAll [] h.up (packets.Connect (keeps possible.core.state.client left.before.state.keep_alive) ∷ [])
      written = subst (λ (c : List ℕ). AppendsAll [] h.up (packets.Connect (keeps c left.before.state.keep_alive) ∷ [])) left.client h.written

      answered : AnsweredTo name h.i h.at number p.index h.core ballot v.nodes last_event new
      answered =
          let c = connect_spelled possible.core.state.client fits.client left.before.state.keep_alive h.up (left.keep_alive ∙ fits.keep_alive) written in
          answers_out name v h.i h.at number p.index h.core h.up (omega arith) h.newest h.housed h.first config b (l.pair.goes.between ++ moment_of_nodes g ∷ moments) l.pair.goes.came ballot os
          list h.awaits (long config g moments came w r.stands.nodes (first ∷ os) name possible) (keeps possible.core.state.client left.before.state.keep_alive) possible.session c.0 refl
          bytes c.1 (omega arith) p.apart p.out p.each last_event new (subst (λ (k : ℕ). EventsHappen (asking k) v new) sent_is run) none

      served : (a : AnsweredTo name h.i h.at number p.index h.core ballot v.nodes last_event new) → IsOnline name a.after new
      served a =
          connack_comes name h.i h.at number (suc p.index) h.core a.is.up a.is.down a.is.is_open a.after a.is.newest (omega arith) h.stage h.unread a.is.begins a.is.first new
          (ap is_open h.stage) a.rest a.whole

      goes : (a : AnsweredTo name h.i h.at number p.index h.core ballot v.nodes last_event new) → NodesGo w.nodes new.nodes
      goes a =
          let one : NodesGo w.nodes left.after.nodes = subst (λ (n : NodesState). NodesGo w.nodes n) (sym left.nodes) l.nodes in
          let two : NodesGo w.nodes v.nodes = nodes_go_join w.nodes left.after.nodes v.nodes one h.nodes in
          subst (λ (n : NodesState). NodesGo w.nodes n) (sym (served a).nodes) (nodes_go_join w.nodes v.nodes a.after.nodes two a.is.nodes)

      active : (a : AnsweredTo name h.i h.at number p.index h.core ballot v.nodes last_event new) → new.nodes.master.active ≡ w.nodes.master.given + 1
      active a =
          ap (λ (n : NodesState). n.master.active) (served a).nodes
          ∙ ap (λ (x : MasterState). x.active) (a.is.master ∙ sym h.awaits.seen.master)
          ∙ l.pair.led.active
          ∙ ap (λ (x : MasterState). x.given + 1) r.stands.nodes.master

      members_are : (a : AnsweredTo name h.i h.at number p.index h.core ballot v.nodes last_event new) → new.nodes.master.members ≡ first ∷ os
      members_are a =
          ap (λ (n : NodesState). n.master.members) (served a).nodes
          ∙ ap (λ (x : MasterState). x.members) (a.is.master ∙ sym h.awaits.seen.master)
          ∙ l.pair.led.members

      led : (a : AnsweredTo name h.i h.at number p.index h.core ballot v.nodes last_event new) → IsLedAt ballot p.index new.nodes
      led a = subst (IsLedAt ballot p.index) (sym (served a).nodes) a.is.led

      live : (a : AnsweredTo name h.i h.at number p.index h.core ballot v.nodes last_event new) → list_all (is_running new.nodes.nodes) (first ∷ os) ≡ true
      live a = all_pass (is_running new.nodes.nodes) (first ∷ os) by
        where
          by : (m : ℕ) → In m (first ∷ os) → is_running new.nodes.nodes m ≡ true
          by m here = subst (λ (k : ℕ). is_running new.nodes.nodes k ≡ true) (sym p.number) (led_runs ballot p.index new.nodes (led a))
          by m (there i) =
              subst (λ (n : NodesState). is_running n.nodes m ≡ true) (sym (served a).nodes)
              (a.is.run m (follower_runs b v.nodes h.awaits.seen ballot log m (p.each m i)))

      primary : (a : AnsweredTo name h.i h.at number p.index h.core ballot v.nodes last_event new) → ServesIn (w.nodes.master.given + 1) first new.nodes
      primary a =
          let l_end = led a in
          record {
            node = l_end.node;
            numbered = ap (numbered_node new.nodes.nodes) p.number ∙ l_end.stands;
            joined = l_end.leads.joined ∙ ap (λ (x : MasterState). x.given + 1) r.stands.nodes.master;
            active = led_serves ballot p.index new.nodes l_end;
          }

      agreed : NodesGo w.nodes new.nodes → (before after : List Command) → AgreeOn w.nodes before → AgreeOn new.nodes after → IsPrefixOf before after
      agreed go before after x y =
          let reached : AreReached nodes config w.nodes = are_reached nodes config g w.nodes (trace_of r.trail) r.stands.nodes in
          let grown = agreed_grows w.nodes new.nodes go nodes config reached in
          subst (λ (xs : List Command). IsPrefixOf xs after) (sym (reached_agree w.nodes before x nodes config reached))
          (subst (λ (ys : List Command). IsPrefixOf reached.list ys) (sym (reached_agree new.nodes after y nodes config grown.0)) grown.1)

      escaped : HasEscaped (first ∷ os) name w new
      escaped =
          let a = answered in
          let z = served a in
          record {
            active = active a;
            formed = members_are a;
            live = live a;
            primary = primary a;
            agreed = agreed (goes a);
            core = z.core;
            client = z.client;
            online = z.online;
            present = z.present;
          }

    opened : HasEscaped (first ∷ os) name w new
    opened =
        let o = opens_out name left.before b ballot p.index p.node os log left.after left.there can_open left.housed (asking (sent_then w (length os))) new left.closed left.rest left.whole in
        escaped o.after (subst (λ (k : ℕ). HasOpened name left.before.state b ballot p.index os log k left.after o.after) same_number o.has) o.rest o.whole

  leads : EventsHappen (escaping_events w (first ∷ os) possible.index holds name bytes) w new → WorldLosesNothing w new → HasEscaped (first ∷ os) name w new
  leads run none =
      let l = led_to config g moments came w r.stands.nodes housed (first ∷ os) name possible more new run none in
      let lawful_is = lawful config g moments came w r.stands.nodes housed (first ∷ os) name possible more new in
      let p = new_primary config r.world r.trail w r.stands moments came first os name possible more new l lawful_is.0 lawful_is.1 in
      opened l p
      (leaves name possible.core (opening (suc p.index)) l.mid new (core_seen name possible.core l.mid.clients w.clients l.clients possible.client) l.housed holds held
      (subst (λ (es : List Event). EventsHappen es l.mid new) (more_is (suc p.index) p.number) l.rest) l.whole)

-- whichever members they are
pub escaping_leads_out : (members : List ℕ) (name : Client) (w : WorldState) (possible : CanEscape members name w) (holds : Bool) → holds ≡ is_open possible.core.state.stage →
    SlotsAreValid (targets_of_clients w.clients) w.connections → LeadsClientOut members name w (escaping_events w members possible.index holds name (14 + length possible.core.state.client))
escaping_leads_out [] name w possible holds held housed nodes config cs new r run none = absurd (none-some bad_members (sym possible.granted))
escaping_leads_out (first ∷ os) name w possible holds held housed nodes config cs new r run none = leads name w housed first os possible holds held nodes config cs r new run none
