-- Why a client is not made: its texts are checked in order, and memory may run out at any time.
use Rattle.std.specs.Prelude.{◌≡◌, ◌⊎◌, ℕ, true, false, List, Option, Some, None, option_map}
use Rattle.client_base.specs.Publications.{is_over_limit, publish_packet}
use Rattle.client_base.specs.Refusals.{client_number}
use Rattle.client_base.specs.State.{new_client_state}
use Rattle.client_base.specs.declared.error.ClientError.{ClientError}
use Rattle.client_base.specs.declared.error.ClientError.TheVariants as errors
use Rattle.packet_base.specs.ClientId.{client_fault}
use Rattle.packet.specs.declared.packet.Packet.{Packet}
use Rattle.session_base.specs.declared.publication.Publication.{Publication}
use Rattle.topics.specs.Refusals.{malformed_number}
use Rattle.topics.specs.Text.{filter_fault, topic_fault}
use Rattle.topics.specs.declared.malformed.MalformedKind.{MalformedKind}
use Rattle.topics.specs.declared.malformed.MalformedKind.TheVariants as kinds
use Rattle.user_client.specs.declared.user_client_error.UserClientError.{UserClientError}
use Rattle.user_client.specs.declared.user_client_error.UserClientError.TheVariants as clients

-- the error for a malformed text
abbrev pub error_of_text : MalformedKind → UserClientError
error_of_text kinds.Memory = clients.Memory
error_of_text kind = clients.Refused (malformed_number kind)

-- the error for a call that is refused
abbrev pub error_of_call : ClientError → UserClientError
error_of_call errors.Memory = clients.Memory
error_of_call cause = clients.Refused (client_number cause)

-- a call is refused for this cause, if there is one; otherwise only because memory ran out
abbrev pub IsRefusedFor : Option ClientError → UserClientError → Type 0
IsRefusedFor cause it = (option_map error_of_call cause ≡ Some it) ⊎ (it ≡ clients.Memory)

-- a text is refused for its first fault; without one, only because memory ran out
abbrev pub IsRefusedBy : Option MalformedKind → UserClientError → Type 0
IsRefusedBy fault it =
    (option_map error_of_text fault ≡ Some it) ⊎ ((fault ≡ None) × (it ≡ clients.Memory))

-- a subscriber is refused for its identifier, and only then for its filter
abbrev pub RefusesListener : List ℕ → List ℕ → UserClientError → Type 0
RefusesListener id filter it =
    IsRefusedBy (client_fault id) it
    ⊎ ((client_fault id ≡ None) × IsRefusedBy (filter_fault filter) it)

-- the PUBLISH of a new client's first publication
abbrev pub first_publish : List ℕ → Publication → Packet
first_publish id publication = publish_packet publication (new_client_state id 0)

-- a packet is refused if it is over the limit; if it is not, only because memory ran out
abbrev pub RefusesPacket : Packet → UserClientError → Type 0
RefusesPacket packet it =
    ((is_over_limit packet ≡ true) × (it ≡ error_of_call errors.TooLarge)) ⊎ (it ≡ clients.Memory)

-- a publisher is refused for its identifier, only then for its topic, and only then for the size of
-- its packet
abbrev pub RefusesPublisher : List ℕ → Publication → UserClientError → Type 0
RefusesPublisher id publication it =
    IsRefusedBy (client_fault id) it
    ⊎ (((client_fault id ≡ None) × IsRefusedBy (topic_fault publication.topic) it)
    ⊎ ((client_fault id ≡ None) × (topic_fault publication.topic ≡ None)
    × RefusesPacket (first_publish id publication) it))

-- nothing is wrong with its identifier, its topic and the size of its packet
abbrev pub IsPublishable : List ℕ → Publication → Type 0
IsPublishable id publication =
    (client_fault id ≡ None) × (topic_fault publication.topic ≡ None)
    × (is_over_limit (first_publish id publication) ≡ false)
