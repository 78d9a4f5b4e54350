-- What a client that has had one session is promised: no less than if no session is ever ended.
use Rattle.std.specs.Prelude.{◌≡◌, false, List, ◌++◌, map}
use Rattle.lists.specs.Lists.{Each}
use Rattle.session_base.specs.declared.publication.Publication.{Publication}
use Rattle.broker_spec.specs.Commands.{usual_limits}
use Rattle.broker_spec.specs.Entries.{Entry}
use Rattle.broker_spec.specs.Place.{Client, Past}
use Rattle.broker_spec.specs.Readings.{publication_in}
use Rattle.broker_spec.specs.Times.{entries_of}
use Rattle.client_base.specs.State.{ClientState}
use Rattle.exactly_once.specs.Acceptance.{is_entry_released, qos2_entries}
use Rattle.exactly_once.specs.InStep.{IsFirstSession}
use Rattle.headline.specs.Promise.{PromiseInStep}
use Rattle.headline.specs.Shown.{at_qos2, new_of, unacknowledged_of}
use Rattle.headline.specs.byte_world.Accepted.{accepted_at_qos2}

-- the promise to this client, by the places of the list
pub record PromiseOfOne (client : Client) (published : List Publication) (past : Past)
    (state : ClientState) : Type 0 where
  -- its QoS 2 publications are new in the order in which it was asked for them, each once; those
  -- that are not new yet it still keeps
  pub waiting : List Publication
  pub in_order : at_qos2 published ≡ new_of client past ++ waiting
  pub again : List Publication
  pub unacknowledged : at_qos2 (unacknowledged_of state) ≡ again ++ waiting
  -- what it accepted at QoS 2 is a prefix of the QoS 2 entries of its session, each once, with
  -- every one that is released
  pub prefix : List Entry
  pub others : List Entry
  pub entries : qos2_entries (entries_of usual_limits past client) ≡ prefix ++ others
  pub accepted : accepted_at_qos2 state.accepted ≡ map publication_in prefix
  pub rest : Each (λ (entry : Entry). is_entry_released entry ≡ false) others

-- while a client's first session lasts, its promise over sessions says all of the promise for one
abbrev pub OneSessionIsPromised : Type 0
OneSessionIsPromised =
    (client : Client) (published : List Publication) (past : Past) (state : ClientState) →
    IsFirstSession past client → PromiseInStep client published past state →
    PromiseOfOne client published past state
