-- The effect of publishing on a client, and when it is refused (MQTT 4.3).
use Rattle.std.specs.Prelude.{ℕ, Bool, false, not, ◌+◌, ◌&&◌, nat_lt, if◌then◌else◌, [], ◌∷◌, ◌++◌}
use Rattle.std.specs.Prelude.{length, Option, Some, None}
use Rattle.packet.specs.declared.packet.Packet.{Packet}
use Rattle.packet.specs.declared.packet.Packet.TheVariants as packets
use Rattle.packet.specs.Spelling.{body, max_body}
use Rattle.session_base.specs.declared.publication.Publication.{Publication}
use Rattle.session_base.specs.Publication.{publish_for, is_answered}
use Rattle.session_base.specs.Identifiers.{least_free, max_id}
use Rattle.client_base.specs.declared.error.ClientError.{ClientError}
use Rattle.client_base.specs.declared.error.ClientError.TheVariants as errors
use Rattle.client_base.specs.declared.limits.TheConstants.{MAX_KEPT}
use Rattle.client_base.specs.declared.unacknowledged_publication.UnacknowledgedPublication.{UnacknowledgedPublication}
use Rattle.client_base.specs.State.{ClientState, is_online, kept_count, used_ids}
use Rattle.client_base.specs.Answered.{ClientOutcome, going_on}

-- the identifier that the next publication or request gets
abbrev pub next_id : ClientState → ℕ
next_id state = least_free (used_ids state)

-- whether an identifier is free for the next publication or request
abbrev pub has_free_id : ClientState → Bool
has_free_id state = nat_lt (next_id state) (max_id + 1)

-- the most publications that a client keeps
abbrev pub max_kept : ℕ
max_kept = MAX_KEPT

-- the PUBLISH of a publication, with the next identifier
abbrev pub publish_packet : Publication → ClientState → Packet
publish_packet publication state = packets.Publish (publish_for false (next_id state) publication)

-- whether the packet is too large to be spelled
abbrev pub is_over_limit : Packet → Bool
is_over_limit packet = nat_lt max_body (length (body packet))

-- the error of a publication: at QoS 1 and 2 if `max_kept` are kept or no identifier is free, at
-- QoS 0 if the client is offline, or if it is too large
abbrev pub publish_refusal : Publication → ClientState → Option ClientError
publish_refusal publication state =
    if is_answered publication.qos && not (nat_lt (kept_count state) max_kept && has_free_id state)
    then Some errors.WindowFull else
    if not (is_answered publication.qos) && not (is_online state.stage)
    then Some errors.NotActive else
    if is_over_limit (publish_packet publication state) then Some errors.TooLarge else None

-- a publication at QoS 1 or 2 is kept; each is sent at once if the client is online (MQTT 4.3)
abbrev pub published : Publication → ClientState → ClientOutcome
published publication state =
    let kept : UnacknowledgedPublication =
    record { id = next_id state; publication = publication } in
    if is_online state.stage
    then going_on
    (if is_answered publication.qos then record state { sent = state.sent ++ kept ∷ [] } else state)
    (publish_packet publication state ∷ [])
    else going_on (record state { queued = state.queued ++ kept ∷ [] }) []
