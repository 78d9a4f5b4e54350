-- The primary puts the CONNACK out first, and it is in transit down: at once, or with the last
-- answer of the others.
use Rattle.std.proofs.Common.{◌≡◌, ◌<◌, ◌+◌, ◌*◌, ℕ, zero, suc, Bool, true, List, [], ◌∷◌, ◌++◌, Option, Some, None, length, slice_get, refl, sym, ap, ◌∙◌, subst, append_assoc, arith}
use Rattle.std.specs.List.{position}
use Rattle.std.proofs.lemmas.Option.{none-some, same_Some}
use Rattle.ballot_base.specs.declared.message.Message.{Message}
use Rattle.broker_spec.specs.declared.command.Command.{Command}
use Rattle.client.specs.Core.{Core}
use Rattle.world_nodes.specs.recoveries.Answered.{PutsOutAtLast, last_answer, session_present}
use Rattle.world_nodes.specs.recoveries.Deliveries.{Come}
use Rattle.world_nodes.specs.recoveries.Deliveries.Come.{all_came as none_comes, hands}
use Rattle.recovery.specs.replicas.Deliveries.{asked_and_answered, numbers_from}
use Rattle.recovery.specs.one_node.FirstAnswer.{PutsOutFirst}
use Rattle.headline.specs.node_moves.Moves.NodeCall.{takes}
use Rattle.lists.specs.Lists.{IsPrefixOf}
use Rattle.lists.proofs.Places.{get_set}
use Rattle.packet.specs.Spelling.{spelling}
use Rattle.world_base.specs.node_core.Core.{CountedCore}
use Rattle.world_base.specs.declared.node_core.item.Item.TheVariants.{Peer}
use Rattle.world_base.specs.node_connections.PendingOutput.{pending_bytes}
use Rattle.world_base.specs.node_core.Step.{node_step}
use Rattle.world_nodes.specs.ExactSteps.{ComesToNobody, after_node_call}
use Rattle.world_nodes.specs.RunningNodes.{numbered_node, running}
use Rattle.world_nodes.specs.Nodes.{NodesState}
use Rattle.world_pipes.specs.declared.events.event.Event.{Event}
use Rattle.world_pipes.specs.declared.events.event.Event.TheVariants as events
use Rattle.world_pipes.specs.clients.Clients.{is_named}
use Rattle.world.specs.Found.{port_at_node}
use Rattle.world.specs.NodeOutput.{Gathers}
use Rattle.world_pipes.specs.clients.NodeOutput.{is_reported_open, bytes_put_out}
use Rattle.world.specs.Trace.{WorldLosesNothing}
use Rattle.world_pipes.specs.clients.NodesGoOn.{NodesGo}
use Rattle.world.specs.Events.{EventsHappen}
use Rattle.world_pipes.specs.clients.SlotsAreValid.{SlotsAreValid, targets_of_clients}
use Rattle.world.specs.World.{WorldState}
use Rattle.world.proofs.DeliversOn.{AtNode, at_node}
use Rattle.world.proofs.ExactRuns.{first_done}
use Rattle.world.proofs.GroupGoes.{with_nodes}
use Rattle.world.proofs.LedOn.{IsLedAt, RunOn, come_runs, led_handed, led_held}
use Rattle.world.proofs.NamesKept.{names_seen, position_kept}
use Rattle.world.proofs.NewestFound.{running_at}
use Rattle.world_pipes.proofs.of_clients.NodesGoOn.{nodes_go_join}
use Rattle.world.proofs.PassesOn.{Passes, gathers_passes}
use Rattle.world.proofs.StandsOn.{IsNewest, own_gathered}
use Rattle.world.proofs.WaitsOn.{newest_with}

-- the CONNACK comes first of what is in transit down on a client's newest connection
pub record IsAnswered (name : List ℕ) (i at number place : ℕ) (core : Core) (ballot : ℕ) (old after : NodesState) (w : WorldState) : Type 0 where
  pub up : List ℕ
  pub down : List ℕ
  pub is_open : Bool
  pub newest : IsNewest i at number (suc place) core up down is_open w
  pub begins : IsPrefixOf (spelling session_present) down
  pub first : position (is_named name) w.clients ≡ Some i
  pub nodes : NodesGo old after
  pub master : after.master ≡ old.master
  pub run : RunOn old after
  pub led : IsLedAt ballot place after

-- .. in a world from which a run continues
pub record AnsweredTo (name : List ℕ) (i at number place : ℕ) (core : Core) (ballot : ℕ) (old : NodesState) (more : List Event) (new : WorldState) : Type 0 where
  pub after : WorldState
  pub is : IsAnswered name i at number place core ballot old after.nodes after
  pub rest : EventsHappen more after new
  pub whole : WorldLosesNothing after new

-- handing bytes over does nothing to the master
pub master_stays : (n new : NodesState) → Come n [] new → new.master ≡ n.master
master_stays n new none_comes = refl
master_stays n new (hands at node port there more) = master_stays _ new more

module _ (name : List ℕ) (i at number place : ℕ) (core : Core) (up : List ℕ) (w after : WorldState) (node : CountedCore) (positive : 0 < number)
    (stands : slice_get w.nodes.nodes place ≡ Some node) (puts : PutsOutFirst (port_at_node number) (spelling session_present) node.core)
    (gathers : Gathers true (suc place) w after) (housed : SlotsAreValid (targets_of_clients w.clients) w.connections) (s : IsNewest i at number (suc place) core up [] true w)
    (first : position (is_named name) w.clients ≡ Some i) (ballot : ℕ) (led : IsLedAt ballot place w.nodes) where
  passes : Passes [] w after
  passes = gathers_passes (suc place) w after gathers housed

  pub put_first : (old : NodesState) → NodesGo old after.nodes → w.nodes.master ≡ old.master → RunOn old after.nodes → IsAnswered name i at number place core ballot old after.nodes after
  put_first old goes same run =
      record {
        up = up;
        down = bytes_put_out (port_at_node number) (numbered_node w.nodes.nodes (suc place));
        is_open = is_reported_open (port_at_node number) (numbered_node w.nodes.nodes (suc place));
        newest = own_gathered i at number (suc place) core up positive [] w after (let e : 0 < suc place = omega arith in e) gathers housed s;
        begins = subst (λ (l : List ℕ). IsPrefixOf (spelling session_present) l)
            (sym (ap (λ (o : Option CountedCore). bytes_put_out (port_at_node number) o) stands ∙ ap pending_bytes puts.listed)) puts.first;
        first = position_kept name after.clients w.clients (names_seen after.clients w.clients passes.clients) ∙ first;
        nodes = goes;
        master = master_stays w.nodes after.nodes passes.come ∙ same;
        run = run;
        led = led_handed ballot place w.nodes after.nodes passes.come led;
      }

-- ---- the numbers of the messages, the last one apart

last_number : (k count : ℕ) → numbers_from k (suc count) ≡ numbers_from k count ++ (k + count) ∷ []
last_number k zero = ap (λ (j : ℕ). j ∷ []) (let e : k ≡ k + 0 = omega arith in e)
last_number k (suc count) =
    ap (λ (l : List ℕ). k ∷ l) (last_number (k + 1) count ∙ ap (λ (j : ℕ). numbers_from (k + 1) count ++ j ∷ []) (let e : k + 1 + count ≡ k + suc count = omega arith in e))

abbrev pub numbers_before : ℕ → ℕ → List ℕ
numbers_before sent front = numbers_from sent (front + 1) ++ numbers_from (sent + (front + 1)) front

pub last_apart : (sent front others : ℕ) → others ≡ front + 1 → asked_and_answered sent others ≡ numbers_before sent front ++ (sent + 2 * front + 1) ∷ []
last_apart sent front others one =
    ap (asked_and_answered sent) one
    ∙ ap (λ (j : ℕ). numbers_from sent (front + 1) ++ numbers_from (sent + (front + 1)) j) (let e : front + 1 ≡ suc front = omega arith in e)
    ∙ ap (λ (l : List ℕ). numbers_from sent (front + 1) ++ l) (last_number (sent + (front + 1)) front)
    ∙ ap (λ (j : ℕ). numbers_from sent (front + 1) ++ (numbers_from (sent + (front + 1)) front ++ j ∷ [])) (let e : sent + (front + 1) + front ≡ sent + 2 * front + 1 = omega arith in e)
    ∙ sym (append_assoc (numbers_from sent (front + 1)) (numbers_from (sent + (front + 1)) front) ((sent + 2 * front + 1) ∷ []))

-- ---- the last answer comes

-- all messages but the last came, and the connection waits still
pub record BeforeLast (ks : List ℕ) (i at number place : ℕ) (core : Core) (up : List ℕ) (index ballot : ℕ) (more : List Event) (old new : WorldState) : Type 0 where
  pub mid : WorldState
  pub passes : Passes ks old mid
  pub newest : IsNewest i at number (suc place) core up [] true mid
  pub led : IsLedAt ballot place mid.nodes
  pub rest : EventsHappen (events.Deliver index ∷ more) mid new
  pub whole : WorldLosesNothing mid new

module _ (name : List ℕ) (ks : List ℕ) (i at number place : ℕ) (core : Core) (up : List ℕ) (index last ballot : ℕ) (log : List Command) (more : List Event) (w new : WorldState)
    (positive : 0 < number) (b : BeforeLast ks i at number place core up index ballot more w new) (p : PutsOutAtLast place index (port_at_node number) (last_answer last ballot log) b.mid.nodes)
    (first : position (is_named name) w.clients ≡ Some i) where
  abbrev message : Message Command
  message = last_answer last ballot log

  cannot : ComesToNobody (slice_get b.mid.nodes.sent index) b.mid.nodes → ⊥
  cannot none =
      let here : slice_get b.mid.nodes.sent index ≡ Some (suc place, message) =
      p.comes ∙ ap (λ (n : ℕ). let o : Option (ℕ × Message Command) = Some (n, message) in o) (let e : place + 1 ≡ suc place = omega arith in e) in
      let nobody : running b.mid.nodes.nodes (suc place) ≡ None = subst (λ (o : Option (ℕ × Message Command)). ComesToNobody o b.mid.nodes) here none in
      none-some p.node (sym nobody ∙ running_at place b.mid.nodes.nodes p.node p.stands p.runs)

  by_node : (after : WorldState) → AtNode index place message b.mid after → (old : NodesState) → NodesGo old b.mid.nodes → b.mid.nodes.master ≡ old.master → RunOn old b.mid.nodes →
      IsAnswered name i at number place core ballot old after.nodes after
  by_node after n old goes same run =
      let turned : CountedCore = record n.node { core = (node_step (Peer message) n.node.core).core } in
      let acted : NodesState = after_node_call place n.node (takes (Peer message)) b.mid.nodes in
      put_first name i at number place core up (with_nodes acted b.mid) after turned positive (get_set b.mid.nodes.nodes place n.node turned n.there)
      (subst (λ (c : CountedCore). PutsOutFirst (port_at_node number) (spelling session_present) (node_step (Peer message) c.core).core)
      (same_Some p.node n.node (sym p.stands ∙ n.there)) p.puts)
      n.gathers b.passes.housed (newest_with i at number (suc place) core up [] true b.mid acted b.newest)
      (position_kept name b.mid.clients w.clients (names_seen b.mid.clients w.clients b.passes.clients) ∙ first)
      ballot (led_held ballot place b.mid.nodes n.node last ballot (length log + 1) n.there b.led)
      old (nodes_go_join old b.mid.nodes after.nodes goes n.passes.nodes) same
      (λ m e. come_runs b.mid.nodes after.nodes (index ∷ []) n.passes.come m (run m e))

  pub answers_last : (old : NodesState) → NodesGo old b.mid.nodes → b.mid.nodes.master ≡ old.master → RunOn old b.mid.nodes → AnsweredTo name i at number place core ballot old more new
  answers_last old goes same run =
      let f = first_done (events.Deliver index) more b.mid new b.rest b.whole cannot in
      record {
        after = f.after;
        is = by_node f.after (at_node index place message b.mid f.after p.comes f.does b.passes.housed) old goes same run;
        rest = f.rest;
        whole = f.whole;
      }
