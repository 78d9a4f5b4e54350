-- A Connect of another client comes next in the list.
use Rattle.std.proofs.Common.{◌≡◌, ℕ, Bool, true, false, not, ◌==◌, if◌then◌else◌, List, [], ◌∷◌, ◌++◌, length, map, Option, Some, None, refl, ap, ap₂, sym, ◌∙◌, ◌⊎◌, inl, inr}
use Rattle.std.specs.Prelude.{flat_map}
use Rattle.std.proofs.lemmas.Bool.{cases_Bool}
use Rattle.packet.specs.declared.connack.Connack.TheVariants as connacks
use Rattle.packet.specs.declared.packet.Packet.TheVariants as packets
use Rattle.broker_spec.specs.Connection.{ConnectionName, same_connection}
use Rattle.broker_spec.specs.Place.{Client, same_client, Mark, Place, Past, Limits}
use Rattle.broker_spec.specs.Sessions.{accepts, ends_any, current_connection, begins}
use Rattle.broker_spec.specs.Entries.{Entry}
use Rattle.broker_spec.specs.Readings.{released_below}
use Rattle.broker_spec.specs.Times.{entries_of}
use Rattle.broker_spec.specs.Sends.{publish_output, repeated_output, all_started, resent_outputs}
use Rattle.broker_spec.specs.Answers.{close_outputs, welcome}
use Rattle.broker_spec.specs.AnswersInOrder.{answers_at}
use Rattle.broker_spec.specs.NobodyTheorems.{IsSteady}
use Rattle.broker_spec.specs.declared.command.Command.TheVariants as commands
use Rattle.broker_spec.specs.declared.command.Output.{Output}
use Rattle.broker_spec.specs.declared.command.Output.TheVariants.{Send}
use Rattle.broker_spec.proofs.ClientsInOrder.{same_is}
use Rattle.broker_base.proofs.ConnectionsOfSessions.{same_turned}
use Rattle.exactly_once.specs.Sends.{sends_to}
use Rattle.exactly_once.specs.Story.{Story}
use Rattle.exactly_once.specs.StoryCommands.{any_named}
use Rattle.exactly_once.specs.Inside.AsSubscriber.{forward_of}
use Rattle.exactly_once.specs.Inside.Shape.{HasShape}
use Rattle.exactly_once.proofs.Deliveries.{sends_append, started_elsewhere}
use Rattle.exactly_once.proofs.subscribing.Plain.{IsPlain}
use Rattle.exactly_once.proofs.subscribing.Elsewhere.{goes_elsewhere}
use Rattle.exactly_once.proofs.subscribing.places.Publishes.{none_handed}
use Rattle.exactly_once.proofs.subscribing.events.Others.{named_not, not_ended}

-- what one that comes back is sent goes to its connection
pub resent_elsewhere : (x y : ConnectionName) (n : ℕ) (es : List Entry) → same_connection x y ≡ false → sends_to x (resent_outputs y n es) ≡ []
resent_elsewhere x y n es e =
    sends_append x (map (λ id. Send y (packets.Pubrel id)) (released_below n es) ++ flat_map (repeated_output y n) es) (all_started y n es)
    ∙ ap₂ (λ a b. a ++ b)
    (sends_append x (map (λ id. Send y (packets.Pubrel id)) (released_below n es)) (flat_map (repeated_output y n) es) ∙ ap₂ (λ a b. a ++ b) (pubrels (released_below n es)) (again es))
    (started_elsewhere x y n es e)
  where
    pubrels : (ids : List ℕ) → sends_to x (map (λ id. Send y (packets.Pubrel id)) ids) ≡ []
    pubrels [] = refl
    pubrels (id ∷ ids) = goes_elsewhere x y (packets.Pubrel id) (map (λ id. Send y (packets.Pubrel id)) ids) e ∙ pubrels ids

    one : (entry : Entry) → sends_to x (repeated_output y n entry) ≡ []
    one (Entry.Queued made p) = refl
    one (Entry.Sent made p id start) = by (start == n)
      where
        by : (b : Bool) → sends_to x (if b then [] else publish_output y true id p ∷ []) ≡ []
        by true = refl
        by false = rw e refl
    one (Entry.Released made p id start release) = refl
    one (Entry.Done made p id start release finish) = refl

    again : (es : List Entry) → sends_to x (flat_map (repeated_output y n) es) ≡ []
    again [] = refl
    again (entry ∷ es) = sends_append x (repeated_output y n entry) (flat_map (repeated_output y n) es) ∙ ap₂ (λ a b. a ++ b) (one entry) (again es)

-- what closes a connection is no packet
pub closed_none : (x : ConnectionName) (o : Option ConnectionName) (more : List Output) → sends_to x (close_outputs o ++ more) ≡ sends_to x more
closed_none x None more = refl
closed_none x (Some y) more = refl

-- the place of a Connect
abbrev pub at_connect : ConnectionName → Client → Bool → Mark → Place
at_connect y d clean mark = record { command = commands.Connect y d clean; mark = mark }

-- a Connect answers its own connection
pub connect_elsewhere : (limits : Limits) (past : Past) (x y : ConnectionName) (d : Client) (clean : Bool) (mark : Mark) → same_connection x y ≡ false → sends_to x (answers_at limits (at_connect y d clean mark) past) ≡ []
connect_elsewhere limits past x y d clean Mark.Accepted e =
    let place = at_connect y d clean Mark.Accepted in
    closed_none x (current_connection past d) (welcome y (not (begins place past d)) ∷ resent_outputs y (length past) (entries_of limits (place ∷ past) d))
    ∙ goes_elsewhere x y (packets.Connack (connacks.Accepted (not (begins place past d)))) (resent_outputs y (length past) (entries_of limits (place ∷ past) d)) e
    ∙ resent_elsewhere x y (length past) (entries_of limits (place ∷ past) d) e
connect_elsewhere limits past x y d clean Mark.Full e = rw e refl
connect_elsewhere limits past x y d clean _ e = refl

-- it ends no other connection
pub connect_ends : (y : ConnectionName) (d : Client) (clean : Bool) (mark : Mark) (current : Option ConnectionName) → ((x : ConnectionName) → current ≡ Some x → same_connection y x ≡ false)
    → ends_any (at_connect y d clean mark) [] current ≡ false
connect_ends y d clean mark None h = refl
connect_ends y d clean mark (Some x) h = h x refl

-- and is accepted only for its own client
pub not_accepted : (y : ConnectionName) (d c : Client) (clean : Bool) (mark : Mark) → same_client d c ≡ false → accepts (commands.Connect y d clean) mark c ≡ None
not_accepted y d c clean Mark.Accepted e = rw e refl
not_accepted y d c clean _ e = refl

-- a Connect of another client
pub other_connect : (limits : Limits) (s : Story) → HasShape limits s → IsSteady limits → (y : ConnectionName) (d : Client) (clean : Bool) (mark : Mark) → any_named (λ z. same_connection y z) s.connections ≡ false
    → (d ≡ s.keeper.client → ⊥) → IsPlain limits s (at_connect y d clean mark)
other_connect limits s shape steady y d clean mark fresh other =
    record {
      opens = not_accepted y d s.keeper.client clean mark (another (cases_Bool (same_client d s.keeper.client)));
      goes = connect_ends y d clean mark (current_connection s.past s.keeper.client) (not_ended limits s shape y fresh);
      answers = refl;
      window = steady (at_connect y d clean mark) s.past refl;
      sends = λ x h. ap forward_of (connect_elsewhere limits s.past x y d clean mark (same_turned x y ∙ named_not y x s.connections fresh h))
          ∙ sym (ap (λ l. forward_of (sends_to x l)) (none_handed limits (at_connect y d clean mark) s.past s.keeper.client refl));
    }
  where
    another : (same_client d s.keeper.client ≡ true) ⊎ (same_client d s.keeper.client ≡ false) → same_client d s.keeper.client ≡ false
    another (inr f) = f
    another (inl f) = absurd (other (same_is d s.keeper.client f))
