-- The fields of answers of a client.
use Rattle.std.specs.Prelude.{◌^◌, ◌-◌, Bool, List, [], ◌∷◌, ◌++◌, codes}
use Rattle.std.specs.Prelude.{length, Result, Ok, Err, min}
use Rattle.rows.specs.Fields.{Text}
use Rattle.packet_base.specs.Spelling.{bit}
use Rattle.packet_base.specs.QoS.{qos_number}
use Rattle.client.specs.Core.{Core}
use Rattle.client_base.specs.Refusals.{client_number}
use Rattle.client_base.specs.State.{is_online, kept_count}
use Rattle.client_base.specs.declared.accepted.Accepted.{Accepted}
use Rattle.client_base.specs.declared.error.ClientError.{ClientError}
use Rattle.node_rows.specs.Answers.{number_fields}

-- a word and a flag, 0 or 1
abbrev pub flag_fields : Text → Bool → List Text
flag_fields word flag = number_fields word (bit flag)

-- `refused 18`, if a call is refused
abbrev pub refusal_fields : Result (Unit {0}) ClientError → List Text
refusal_fields (Ok done) = []
refusal_fields (Err cause) = number_fields (codes "refused") (client_number cause)

-- how a call ended, the bytes that the client had written, how many publications it keeps, and how
-- many it accepted that were not taken
abbrev pub call_fields : Result (Unit {0}) ClientError → Core → List Text
call_fields result core = refusal_fields result ++ codes "wrote" ∷ core.out
    ∷ number_fields (codes "kept") (min (kept_count core.state) (2 ^ 64 - 1))
    ++ number_fields (codes "accepted") (length core.state.accepted)

-- `online 1 present 0`
abbrev pub state_fields : Core → List Text
state_fields core = flag_fields (codes "online") (is_online core.state.stage)
    ++ flag_fields (codes "present") core.state.session_present

-- `session 1 qos 2 retain 1`
abbrev pub mark_fields : Accepted → List Text
mark_fields one = number_fields (codes "session") one.session
    ++ number_fields (codes "qos") (qos_number one.qos)
    ++ flag_fields (codes "retain") one.retain

-- `topic "t/1" payload "x"`
abbrev pub content_fields : Accepted → List Text
content_fields one = codes "topic" ∷ one.topic ∷ codes "payload" ∷ one.payload ∷ []

-- `session 1 qos 2 retain 1 topic "t/1" payload "x"`
unfoldable pub accepted_fields : Accepted → List Text
accepted_fields one = mark_fields one ++ content_fields one
