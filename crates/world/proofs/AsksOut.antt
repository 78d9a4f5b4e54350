-- All that is in transit up comes to the new primary, which awaits it: the CONNECT of a client
-- whose session is there. Its answer is in transit down after the messages of the others, if there
-- are any.
use Rattle.std.proofs.Common.{◌≡◌, ◌⊎◌, inl, inr, ◌<◌, ◌≤◌, ◌+◌, ◌*◌, ℕ, suc, true, false, List, [], ◌∷◌, ◌++◌, Some, Ok, drop, length, map, refl, ap, ◌∙◌, subst, append_assoc, arith}
use Rattle.std.specs.List.{position}
use Rattle.std.proofs.lemmas.List.{length-append, map-append}
use Rattle.ballot_base.specs.declared.config.Config.{Config}
use Rattle.ballot_base.specs.Service.{max_places}
use Rattle.broker_spec.specs.declared.command.Command.{Command}
use Rattle.broker_spec.specs.declared.command.Command.TheVariants as commands
use Rattle.broker_spec.specs.Commands.{past_of, usual_limits}
use Rattle.broker_spec.specs.declared.command.Output.{Output}
use Rattle.broker_spec.specs.Sessions.{clean_session_of}
use Rattle.broker_base.specs.State.{State}
use Rattle.client.specs.Core.{Core}
use Rattle.world_nodes.specs.recoveries.Answered.{CanAsk, begun_log}
use Rattle.world_nodes.specs.recoveries.Opened.{IsOpened, first_of}
use Rattle.recovery.specs.replicas.Deliveries.{NumbersAreApart, NodeIs, asked_and_answered}
use Rattle.recovery.specs.replicas.LedStates.{Follows}
use Rattle.agreement.specs.cut_logs.Moments.{Moment, Moments, whole_moment}
use Rattle.headline.specs.node_moves.Moves.NodeCall.{takes}
use Rattle.lists.specs.Lists.{In}
use Rattle.packet.specs.declared.connect.Connect.{Connect}
use Rattle.packet.specs.declared.packet.Packet.TheVariants as packets
use Rattle.packet.specs.Verdict.{verdict}
use Rattle.world_base.specs.node_core.Core.{rules}
use Rattle.world_base.specs.declared.node_core.item.Item.TheVariants.{Bytes}
use Rattle.world_nodes.specs.ExactSteps.{after_node_call}
use Rattle.world_nodes.specs.Nodes.{NodesState}
use Rattle.world_pipes.specs.declared.events.event.Event.{Event}
use Rattle.world_pipes.specs.declared.events.event.Event.TheVariants as events
use Rattle.world_pipes.specs.clients.Clients.{is_named}
use Rattle.world.specs.Found.{port_at_node}
use Rattle.world.specs.NodeOutput.{Gathers}
use Rattle.world.specs.Trace.{WorldLosesNothing}
use Rattle.world.specs.Events.{EventsHappen}
use Rattle.world_pipes.specs.clients.SlotsAreValid.{SlotsAreValid, targets_of_clients}
use Rattle.world.specs.World.{WorldState}
use Rattle.world.proofs.AnswersOut.{answers_alone, answers_with_others}
use Rattle.world.proofs.ExactRuns.{First, first_done}
use Rattle.world.proofs.GroupGoes.{with_nodes}
use Rattle.world.proofs.NamesKept.{position_kept}
use Rattle.world.proofs.NewestFound.{can_come_up, come_up, emptied, emptied_housed, emptied_names, emptied_newest}
use Rattle.world.proofs.PutsFirst.{AnsweredTo, last_apart, numbers_before}
use Rattle.world.proofs.StandsOn.{IsNewest}

-- ---- a list, its last one apart

record EndsWith (xs : List ℕ) : Type 0 where
  front : List ℕ
  last : ℕ
  is : xs ≡ front ++ last ∷ []

split : (xs : List ℕ) → (xs ≡ []) ⊎ EndsWith xs
split [] = inl refl
split (x ∷ xs) = by (split xs)
  where
    by : (xs ≡ []) ⊎ EndsWith xs → ((x ∷ xs) ≡ []) ⊎ EndsWith (x ∷ xs)
    by (inl none) = inr (record { front = []; last = x; is = ap (λ (l : List ℕ). x ∷ l) none })
    by (inr e) = inr (record { front = x ∷ e.front; last = e.last; is = ap (λ (l : List ℕ). x ∷ l) e.is })

-- ---- the CONNECT

module _ (name : List ℕ) (v : WorldState) (i at number place : ℕ) (core : Core) (up : List ℕ) (positive : 0 < number) (newest : IsNewest i at number (suc place) core up [] true v)
    (housed : SlotsAreValid (targets_of_clients v.clients) v.connections) (first : position (is_named name) v.clients ≡ Some i)
    (config : Config) (a : Moment State Command Output) (moments : List (Moment State Command Output)) (came : Moments rules config (a ∷ moments)) (ballot : ℕ) (os : List ℕ)
    (list : List Command) (o : IsOpened a v.nodes ballot place os (begun_log list ballot) (port_at_node number)) (room : length list + 2 ≤ max_places) (connect : Connect)
    (session : clean_session_of (past_of usual_limits list) connect.client ≡ Some false) (is_connect : verdict up ≡ Ok (packets.Connect connect, [])) (kept : connect.clean ≡ false)
    (count : ℕ) (many : length up ≡ count) (some : 0 < count) (apart : NumbersAreApart os) (out : In (place + 1) os → ⊥)
    (each : (m : ℕ) → In m os → NodeIs (Follows ballot (begun_log list ballot)) (whole_moment a).world.nodes m) (more : List Event) (new : WorldState) where
  asks : CanAsk a v.nodes ballot place o.node os (port_at_node number) (first_of ballot) list ballot up connect
  asks =
      record {
        seen = o.seen;
        calm = o.calm;
        stands = o.stands;
        serves = o.serves;
        room = (let longer = length-append list (commands.Start ballot ∷ []) in omega (arith, longer, room));
        awaits = o.awaits;
        session = session;
        is_connect = is_connect;
        kept = kept;
      }

  abbrev asked : List Event
  asked = map events.Deliver (asked_and_answered (length v.nodes.sent) (length os)) ++ more

  abbrev taken : NodesState
  taken = after_node_call place o.node (takes (Bytes (port_at_node number) up 0)) v.nodes

  abbrev w : WorldState
  w = emptied i at number place core up v newest positive o.node o.stands count many

  w_newest : IsNewest i at number (suc place) core (drop count newest.pair.up) [] true (with_nodes taken w)
  w_newest = emptied_newest i at number place core up v newest positive o.node o.stands count many taken

  w_housed : SlotsAreValid (targets_of_clients w.clients) w.connections
  w_housed = emptied_housed i at number place core up v newest positive o.node o.stands count many housed

  w_first : position (is_named name) w.clients ≡ Some i
  w_first = position_kept name w.clients v.clients (emptied_names i at number place core up v newest positive o.node o.stands count many) ∙ first

  answered : (f : First (events.CarryUp number count) asked v new) → Gathers true (suc place) (with_nodes taken w) f.after → (os ≡ []) ⊎ EndsWith os →
      AnsweredTo name i at number place core ballot v.nodes more new
  answered f gathers (inl none) =
      record {
        after = f.after;
        is = answers_alone name i at number place core (drop count newest.pair.up) w f.after o.node positive o.stands up gathers w_housed w_newest w_first config a moments came ballot ballot
            (first_of ballot) list connect
            (subst (λ (xs : List ℕ). CanAsk a v.nodes ballot place o.node xs (port_at_node number) (first_of ballot) list ballot up connect) none asks);
        rest = subst (λ (xs : List ℕ). EventsHappen (map events.Deliver (asked_and_answered (length v.nodes.sent) (length xs)) ++ more) f.after new) none f.rest;
        whole = f.whole;
      }
  answered f gathers (inr e) =
      answers_with_others name i at number place core (drop count newest.pair.up) w f.after o.node positive o.stands up gathers w_housed w_newest w_first config a moments came ballot ballot
      (first_of ballot) list connect e.front e.last
      (subst (λ (xs : List ℕ). CanAsk a v.nodes ballot place o.node xs (port_at_node number) (first_of ballot) list ballot up connect) e.is asks)
      (subst NumbersAreApart e.is apart) (subst (λ (xs : List ℕ). In (place + 1) xs → ⊥) e.is out)
      (subst (λ (xs : List ℕ). (m : ℕ) → In m xs → NodeIs (Follows ballot (begun_log list ballot)) (whole_moment a).world.nodes m) e.is each)
      more new (subst (λ (es : List Event). EventsHappen es f.after new) in_parts f.rest) f.whole
    where
      counted : length os ≡ length e.front + 1
      counted =
          let both = length-append e.front (e.last ∷ []) in
          ap (λ (xs : List ℕ). length xs) e.is ∙ (let x : length (e.front ++ e.last ∷ []) ≡ length e.front + 1 = omega (arith, both) in x)

      before : List ℕ
      before = numbers_before (length v.nodes.sent) (length e.front)

      index : ℕ
      index = length v.nodes.sent + 2 * length e.front + 1

      in_parts : asked ≡ map events.Deliver before ++ events.Deliver index ∷ more
      in_parts =
          ap (λ (ks : List ℕ). map events.Deliver ks ++ more) (last_apart (length v.nodes.sent) (length e.front) (length os) counted)
          ∙ ap (λ (es : List Event). es ++ more) (map-append events.Deliver before (index ∷ []))
          ∙ append_assoc (map events.Deliver before) (events.Deliver index ∷ []) more

  pub answers_out : EventsHappen (events.CarryUp number count ∷ asked) v new → WorldLosesNothing v new → AnsweredTo name i at number place core ballot v.nodes more new
  answers_out run none =
      let f = first_done (events.CarryUp number count) asked v new run none
      (can_come_up i at number place core up v newest positive o.node o.stands count many o.serves.leads.runs some) in
      answered f (come_up i at number place core up v newest positive o.node o.stands count many f.after f.does) (split os)
