-- The answers to a taken publication are sent only to the clients of the granted rows, in order.
use Rattle.std.proofs.Common.{◌≡◌, ℕ, List, [], ◌∷◌, ◌++◌, Option, Some, None, refl, ap₂, sym}
use Rattle.std.specs.Prelude.{flat_map, option_map}
use Rattle.packet_base.specs.declared.qos.QoS.{QoS}
use Rattle.packet.specs.declared.publish.Publish.{Publish}
use Rattle.packet.specs.declared.packet.Packet.TheVariants as packets
use Rattle.retained.specs.Retained.{RetainedTopics}
use Rattle.session_base.specs.Publication.{publication_of}
use Rattle.packet_base.specs.QoS.{lower_qos}
use Rattle.session_base.specs.EntryPackets.{copies_sent}
use Rattle.broker_spec.specs.Connection.{ConnectionName}
use Rattle.broker_spec.specs.Place.{Client, Mark, Place}
use Rattle.session_base.specs.Subscriptions.{granted_qos}
use Rattle.broker_spec.specs.Entries.{copy_of}
use Rattle.broker_base.specs.ClientSession.{ClientSession}
use Rattle.broker_base.specs.State.{Sessions, session_in}
use Rattle.broker_base.specs.StepAnswers.{sent_on, copies_answered}
use Rattle.broker_base.specs.StateTheorems.{AreByClient}
use Rattle.broker_spec.specs.declared.command.Command.TheVariants as commands
use Rattle.broker_spec.specs.declared.command.Output.{Output}
use Rattle.subs_base.specs.Granted.{row_of}
use Rattle.broker_base.specs.rows.Published.{granted_rows, copy_answered}
use Rattle.broker_base.proofs.of_rows.FindsEach.{Finds, finds_each}

-- the place of a taken PUBLISH
abbrev pub taken : ConnectionName → Publish → Client → Place
taken x p d = record { command = commands.Packet x (packets.Publish p); mark = Mark.Taken d }

-- no packets are no answers
none_sent : (connection : Option ConnectionName) → sent_on connection [] ≡ []
none_sent (Some x) = refl
none_sent None = refl

-- with any look-up that finds each row's session
answers_by : (w : ℕ) (x : ConnectionName) (p : Publish) (d : Client) (content : RetainedTopics) (look : Client → Option ClientSession) (rows : Sessions) → Finds look rows →
    flat_map (copies_answered w (taken x p d) content) rows
    ≡ flat_map (λ row. copy_answered w (publication_of p) row.1 (look row.0)) (granted_rows p.topic rows)
answers_by w x p d content look [] finds = refl
answers_by w x p d content look (row ∷ rows) finds = by (granted_qos p.topic row.1.state.subscriptions) (answers_by w x p d content look rows finds.1)
  where
    by : (granted : Option QoS) →
        flat_map (copies_answered w (taken x p d) content) rows
        ≡ flat_map (λ row. copy_answered w (publication_of p) row.1 (look row.0)) (granted_rows p.topic rows) →
        (sent_on row.1.connection (copies_sent w (copy_of (publication_of p) (option_map (lower_qos (publication_of p).qos) granted)) row.1.state.queue)
        ++ flat_map (copies_answered w (taken x p d) content) rows)
        ≡ flat_map (λ row. copy_answered w (publication_of p) row.1 (look row.0)) (row_of row.0 granted ++ granted_rows p.topic rows)
    by None more = ap₂ (λ (here : List Output) bs. here ++ bs) (none_sent row.1.connection) more
    by (Some qos) more = ap₂ (λ found bs. copy_answered w (publication_of p) qos found ++ bs) (sym finds.0) more

-- with the look-up in the sessions themselves
pub answers_of_granted : (w : ℕ) (x : ConnectionName) (p : Publish) (d : Client) (content : RetainedTopics) (rows : Sessions) → AreByClient rows →
    flat_map (copies_answered w (taken x p d) content) rows
    ≡ flat_map (λ row. copy_answered w (publication_of p) row.1 (session_in row.0 rows)) (granted_rows p.topic rows)
answers_of_granted w x p d content rows by_client = answers_by w x p d content (λ c. session_in c rows) rows (finds_each rows by_client)
