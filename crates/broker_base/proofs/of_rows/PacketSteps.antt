-- The step at a packet of a served client, if its connection continues, and at one without a
-- client.
use Rattle.std.proofs.Common.{◌≡◌, ℕ, if◌then◌else◌, [], ◌∷◌, Option, Some, refl, ap, ap₂, ◌∙◌}
use Rattle.std.specs.Prelude.{map}
use Rattle.packet.specs.declared.packet.Packet.{Packet}
use Rattle.packet.specs.declared.packet.Packet.TheVariants as packets
use Rattle.session_base.specs.Publication.{publication_of}
use Rattle.session_base.specs.EntryPackets.{copies_sent}
use Rattle.broker_spec.specs.Connection.{ConnectionName}
use Rattle.broker_spec.specs.Place.{Client, Mark, Place}
use Rattle.broker_spec.specs.Subscriptions.{granted_of}
use Rattle.broker_spec.specs.Entries.{copies_for_all}
use Rattle.broker_spec.specs.Answers.{acknowledged, codes_of}
use Rattle.broker_base.specs.ClientSession.{ClientSession}
use Rattle.broker_base.specs.State.{State, session_in}
use Rattle.broker_base.specs.StepAnswers.{handled_in, sent_on, copies_to, answers_by_state}
use Rattle.broker_base.specs.Decisions.{is_refused_in, packet_mark_in}
use Rattle.broker_spec.specs.declared.command.Command.TheVariants as commands
use Rattle.broker_spec.specs.declared.command.Output.{Output}
use Rattle.broker_spec.specs.declared.command.Output.TheVariants.{Send}
use Rattle.broker_spec.proofs.ClientsInOrder.{same_self}
use Rattle.broker_base.specs.rows.Served.{ServesClient, with_session, with_content}
use Rattle.broker_base.specs.rows.PacketTheorems.{handled_state, HandledStep, subscribed_to, subscribe_answers, SubscribeStep}
use Rattle.broker_base.specs.rows.IdlePacketTheorems.{PingreqStep, RepeatStep}
use Rattle.broker_base.proofs.of_rows.ServedStep.{served_on, served_found, written_same, served_step}
use Rattle.broker_base.proofs.of_rows.ServedGoesOn.{packet_at, handled_is, subscribe_is, repeat_is}

-- a session is replaced by an equal one
same_session : (state : State) (x : ConnectionName) (c : Client) (kept : ClientSession) → ServesClient state x c kept → with_session c (Some kept) state ≡ state
same_session state x c kept served =
    ap (λ sessions. record { window = state.window; sessions = sessions; retained = state.retained })
    (written_same c kept state.sessions (served_found state x c kept served))

-- the answers to a handled packet
answered : (w : ℕ) (place : Place) (state : State) (x : ConnectionName) (packet : Packet) (c : Client) (o : Option ClientSession) → session_in c state.sessions ≡ o →
    answers_by_state w place state (commands.Packet x packet) (Mark.Handled c) ≡ handled_in w x o packet
answered w place state x packet c o found = by packet ∙ ap (λ o. handled_in w x o packet) found
  where
    by : (packet : Packet) → answers_by_state w place state (commands.Packet x packet) (Mark.Handled c) ≡ handled_in w x (session_in c state.sessions) packet
    by (packets.Publish p) = refl
    by _ = refl

-- PUBACK, PUBREC, PUBREL, PUBCOMP, UNSUBSCRIBE, PINGREQ
pub handled_step : HandledStep
handled_step limits later state x c kept served packet marked =
    served_step limits later state (commands.Packet x packet) x c kept (Mark.Handled c) (Some (with_content (handled_state state.window packet kept.state) kept))
    (handled_in state.window x (Some kept) packet) served refl refl (ap (packet_mark_in limits state packet) served.owner ∙ marked) refl
    (handled_is state.window x state.retained c kept (served_on state x c kept served) packet)
    (answered state.window (packet_at x packet (Mark.Handled c)) state x packet c (Some kept) (served_found state x c kept served))

-- PINGREQ
pub pingreq_step : PingreqStep
pingreq_step limits later state x c kept served =
    handled_step limits later state x c kept served packets.Pingreq refl
    ∙ ap (λ s. (s, Send x packets.Pingresp ∷ [])) (same_session state x c kept served)

-- SUBSCRIBE
pub subscribe_step : SubscribeStep
subscribe_step limits later state x c kept served s which granted =
    served_step limits later state (commands.Packet x (packets.Subscribe s)) x c kept (Mark.Granted c which)
    (Some (with_content (subscribed_to state.window state.retained (granted_of s.filters which) kept.state) kept))
    (map (Send x) (subscribe_answers state.window state.retained s which kept.state)) served refl refl
    (ap (packet_mark_in limits state (packets.Subscribe s)) served.owner ∙ ap (Mark.Granted c) granted) refl
    (subscribe_is state.window x state.retained c kept (served_on state x c kept served) s which)
    (ap (λ o. suback ∷ copies_to state.window (packet_at x (packets.Subscribe s) (Mark.Granted c which)) state.retained c o) (served_found state x c kept served)
    ∙ ap₂ (λ connection b. suback ∷ sent_on connection (copies_sent state.window (if b then copies_for_all state.retained (granted_of s.filters which) else []) kept.state.queue))
    (served_on state x c kept served) (same_self c))
  where
    suback : Output
    suback = Send x (packets.Suback (record { id = s.id; codes = codes_of s.filters which }))

-- a PUBLISH that was taken before
pub repeat_step : RepeatStep
repeat_step limits later state x c kept served p again =
    served_step limits later state (commands.Packet x (packets.Publish p)) x c kept (Mark.Repeat c) (Some kept) (acknowledged x p.delivery) served refl refl
    (ap (packet_mark_in limits state (packets.Publish p)) served.owner
    ∙ ap (λ b. if b then Mark.Repeat c else if is_refused_in limits state (publication_of p) then Mark.Refused c else Mark.Taken c) again) refl
    (repeat_is state.window x state.retained c kept (served_on state x c kept served) p) refl
    ∙ ap (λ s. (s, acknowledged x p.delivery)) (same_session state x c kept served)
