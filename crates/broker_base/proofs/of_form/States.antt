-- A command of the log keeps a state in its ranges, and so every list of commands does.
use Rattle.std.proofs.Common.{◌≡◌, ℕ, ◌<◌, ◌^◌, if◌then◌else◌, Option, Some, None, [], ◌∷◌, refl, sym, subst}
use Rattle.std.specs.declared.cmp.Ordering.{Ordering}
use Rattle.std.specs.declared.cmp.Ordering.TheVariants.{Less, Equal, Greater}
use Rattle.std.specs.Ordering.{is_eq}
use Rattle.std.specs.List.{AllByRecursion}
use Rattle.packet.specs.declared.packet.Packet.TheVariants as packets
use Rattle.packet.specs.declared.publish.Publish.{Publish}
use Rattle.retained.specs.Retained.{RetainedTopics}
use Rattle.session_base.specs.Publication.{publication_of}
use Rattle.broker_spec.specs.Connection.{ConnectionName}
use Rattle.broker_spec.specs.Place.{Client, by_bytes, Mark, Place, Limits}
use Rattle.broker_spec.specs.Logged.{IsBrokerCommand}
use Rattle.broker_spec.proofs.ClientsInOrder.{equal_is}
use Rattle.broker_spec.specs.declared.command.Command.{Command}
use Rattle.broker_spec.specs.declared.command.Command.TheVariants as commands
use Rattle.broker_base.specs.ClientSession.{ClientSession}
use Rattle.broker_base.specs.SessionStep.{session_connected}
use Rattle.broker_base.specs.State.{Sessions, keyed, session_in}
use Rattle.broker_base.specs.StateTheorems.{AllSound}
use Rattle.broker_base.specs.Decisions.{place_in, mark_in}
use Rattle.broker_base.specs.Step.{session_after, sessions_left, sessions_with, window_after}
use Rattle.broker_base.proofs.StatesStaySound.{stays_sound}
use Rattle.session_base.specs.InRange.{CanBeSent}
use Rattle.broker_base.specs.form.InRange.{IsRetained, IsSession}
use Rattle.broker_base.specs.form.RangeTheorems.{StaysInRange}
use Rattle.broker_base.proofs.of_form.Publications.{carried}
use Rattle.broker_base.proofs.of_form.Sessions.{IfSession, connected, session_in_range}
use Rattle.broker_base.proofs.of_form.Rooms.{AllInRange, AllHaveRoom, rooms}
use Rattle.lists.proofs.Tables.{all_put}
use Rattle.broker_base.proofs.of_form.Counts.{few_sessions, stays_retained}

keyed_in_range : (limits : Limits) (c : Client) (o : Option ClientSession) (rows : Sessions) → IfSession limits c o → AllInRange limits rows →
    AllInRange limits (keyed c o rows)
keyed_in_range limits c None rows h k = k
keyed_in_range limits c (Some kept) rows h k = (h, k)

left_in_range : (w : ℕ) (limits : Limits) (place : Place) (content : RetainedTopics) (rows : Sessions) → limits.entries < 2 ^ 16 →
    IsBrokerCommand place.command → AllByRecursion IsRetained content → AllSound rows → AllHaveRoom limits place content rows → AllInRange limits rows →
    AllInRange limits (sessions_left w place content rows)
left_in_range w limits place content [] m k r sound room h = tt
left_in_range w limits place content (row ∷ rows) m k r sound room h =
    keyed_in_range limits row.0 (session_after w place content row.0 row.1) (sessions_left w place content rows)
    (session_in_range w limits place content row.0 row.1 m k r sound.0 room.0 h.0)
    (left_in_range w limits place content rows m k r sound.1 room.1 h.1)

pub found_in_range : (limits : Limits) (c : Client) (rows : Sessions) → AllInRange limits rows → IfSession limits c (session_in c rows)
found_in_range limits c [] h = tt
found_in_range limits c (row ∷ rows) h = by (by_bytes c row.0) refl (found_in_range limits c rows h.1)
  where
    by : (o : Ordering) → by_bytes c row.0 ≡ o → IfSession limits c (session_in c rows) → IfSession limits c (if is_eq o then Some row.1 else session_in c rows)
    by Less e k = k
    by Equal e k = subst (λ (d : Client). IsSession limits d row.1) (sym (equal_is c row.0 e)) h.0
    by Greater e k = k

with_in_range : (w : ℕ) (limits : Limits) (place : Place) (content : RetainedTopics) (rows : Sessions) (command : Command) (mark : Mark) → limits.entries < 2 ^ 16 →
    IsBrokerCommand command → AllInRange limits rows → AllInRange limits (sessions_left w place content rows) →
    AllInRange limits (sessions_with w place content rows command mark)
with_in_range w limits place content rows (commands.Connect x c clean) Mark.Accepted m k h left =
    all_put (λ row. IsSession limits row.0 row.1) c (session_connected w (x, clean) (session_in c rows)) (sessions_left w place content rows) one
    (λ b e. subst (λ (d : Client). IsSession limits d (session_connected w (x, clean) (session_in c rows))) (equal_is c b e) one) left
  where
    one : IsSession limits c (session_connected w (x, clean) (session_in c rows))
    one = connected w limits c (x, clean) (session_in c rows) m k.0 k.1 (found_in_range limits c rows h)
with_in_range w limits place content rows command mark m k h left = left

sent_of : (command : Command) (x : ConnectionName) (p : Publish) → IsBrokerCommand command → command ≡ commands.Packet x (packets.Publish p) → CanBeSent (publication_of p)
sent_of command x p k e = by (subst IsBrokerCommand e k)
  where
    by : IsBrokerCommand (commands.Packet x (packets.Publish p)) → CanBeSent (publication_of p)
    by h = carried p (h.1, h.2.0, h.2.1)

pub stays_in_range : StaysInRange
stays_in_range limits later state command m k h =
    let w = window_after later command state.window in
    let content = stays_retained limits state command (λ x p e. sent_of command x p k e)
    (record { rising = h.rising; few = h.few_topics; each = h.retained }) in
    record {
      sound = stays_sound limits later state command h.sound;
      few_sessions = few_sessions limits later state command h.sound.by_client h.few_sessions;
      sessions =
          with_in_range w limits (place_in limits state command) state.retained state.sessions command (mark_in limits state command) m k h.sessions
          (left_in_range w limits (place_in limits state command) state.retained state.sessions m k h.retained h.sound.sessions
          (rooms limits state command h.sound.by_client h.sessions) h.sessions);
      rising = content.rising;
      few_topics = content.few;
      retained = content.each;
    }
