-- A body that is read is spelled so, and one that is spelled is read: a line for each packet.
use Rattle.std.proofs.Common.{◌≡◌, ℕ, ◌<◌, Bool, List, [], length, Result, Ok, refl, ap, ◌∙◌}
use Rattle.std.specs.Prelude.{IfOk}
use Rattle.packet_base.specs.declared.stop.Stop.{Stop}
use Rattle.packet_base.specs.declared.header.DeliveryFlags.{DeliveryFlags}
use Rattle.packet_base.specs.declared.header.Header.{Header}
use Rattle.packet_base.specs.declared.header.Header.TheVariants as headers
use Rattle.packet_base.specs.Spelling.{number, IsId}
use Rattle.packet_base.specs.Readers.{AreBytes, ◌>>=◌, ended}
use Rattle.packet_base.proofs.Steps.{then_if, seq_if}
use Rattle.packet_base.proofs.FieldsFound.{ended_found}
use Rattle.packet.specs.declared.packet.Packet.{Packet}
use Rattle.packet.specs.declared.packet.Packet.TheVariants as packets
use Rattle.packet.specs.declared.publish.Publish.{Publish}
use Rattle.packet.specs.Connect.{connect_body, connect_of, FitsConnect}
use Rattle.packet.specs.Connack.{connack_body, connack_of}
use Rattle.packet.specs.Delivery.{delivery_flags}
use Rattle.packet.specs.Publish.{publish_of}
use Rattle.packet.specs.IdAlone.{id_alone_of}
use Rattle.packet.specs.Subscribe.{subscribe_body, subscribe_of, FitsSubscribe}
use Rattle.packet.specs.Suback.{suback_body, suback_of, FitsSuback}
use Rattle.packet.specs.Unsubscribe.{unsubscribe_body, unsubscribe_of, FitsUnsubscribe}
use Rattle.packet.specs.Spelling.{header, body, Fits, IsListed}
use Rattle.packet.specs.Verdict.{body_of}
use Rattle.packet.proofs.ConnectReads.{connect_found, connect_again}
use Rattle.packet.proofs.ConnackReads.{connack_found, connack_again}
use Rattle.packet.proofs.PublishReads.{IsPublish, publish_found, publish_again}
use Rattle.packet.proofs.IdAloneReads.{id_alone_found, id_alone_again}
use Rattle.packet.proofs.ListPacketsRead.{subscribe_found, subscribe_again, suback_found, suback_again, unsubscribe_found, unsubscribe_again}

-- the packet after this first byte that these bytes are the body of
pub record IsBody (h : Header) (bytes : List ℕ) (p : Packet) : Type 0 where
  pub said : header p ≡ h
  pub spelled : bytes ≡ body p
  pub fits : Fits p
  pub listed : IsListed p

header_said : (flags : DeliveryFlags) (retain : Bool) {bytes : List ℕ} (p : Publish) → IsPublish flags retain bytes p
    → headers.Publish (delivery_flags p.delivery) p.retain ≡ headers.Publish flags retain
header_said flags retain p is =
    ap (λ (f : DeliveryFlags). headers.Publish f p.retain) is.flags_said ∙ ap (λ (b : Bool). headers.Publish flags b) is.retain_said

pub body_found : (h : Header) (bytes : List ℕ) → AreBytes bytes → IfOk (body_of h bytes) (IsBody h bytes)
body_found headers.Connect bytes fits =
    then_if (connect_of bytes) _ (λ c. (bytes ≡ connect_body c) × FitsConnect c) (IsBody headers.Connect bytes) (connect_found bytes fits)
    (λ c x. record { said = refl; spelled = x.0; fits = x.1; listed = tt })
body_found headers.Connack bytes fits =
    then_if (connack_of bytes) _ (λ c. bytes ≡ connack_body c) (IsBody headers.Connack bytes) (connack_found bytes fits)
    (λ c x. record { said = refl; spelled = x; fits = tt; listed = tt })
body_found (headers.Publish flags retain) bytes fits =
    then_if (publish_of flags retain bytes) _ (IsPublish flags retain bytes) (IsBody (headers.Publish flags retain) bytes) (publish_found flags retain bytes fits)
    (λ p x. record { said = header_said flags retain p x; spelled = x.spelled; fits = x.fits; listed = tt })
body_found headers.Puback bytes fits =
    then_if (id_alone_of bytes) _ (λ id. (bytes ≡ number id) × IsId id) (IsBody headers.Puback bytes) (id_alone_found bytes fits)
    (λ id x. record { said = refl; spelled = x.0; fits = x.1; listed = tt })
body_found headers.Pubrec bytes fits =
    then_if (id_alone_of bytes) _ (λ id. (bytes ≡ number id) × IsId id) (IsBody headers.Pubrec bytes) (id_alone_found bytes fits)
    (λ id x. record { said = refl; spelled = x.0; fits = x.1; listed = tt })
body_found headers.Pubrel bytes fits =
    then_if (id_alone_of bytes) _ (λ id. (bytes ≡ number id) × IsId id) (IsBody headers.Pubrel bytes) (id_alone_found bytes fits)
    (λ id x. record { said = refl; spelled = x.0; fits = x.1; listed = tt })
body_found headers.Pubcomp bytes fits =
    then_if (id_alone_of bytes) _ (λ id. (bytes ≡ number id) × IsId id) (IsBody headers.Pubcomp bytes) (id_alone_found bytes fits)
    (λ id x. record { said = refl; spelled = x.0; fits = x.1; listed = tt })
body_found headers.Subscribe bytes fits =
    then_if (subscribe_of bytes) _ (λ s. (bytes ≡ subscribe_body s) × FitsSubscribe s × (0 < length s.filters)) (IsBody headers.Subscribe bytes) (subscribe_found bytes fits)
    (λ s x. record { said = refl; spelled = x.0; fits = x.1; listed = x.2 })
body_found headers.Suback bytes fits =
    then_if (suback_of bytes) _ (λ s. (bytes ≡ suback_body s) × FitsSuback s × (0 < length s.codes)) (IsBody headers.Suback bytes) (suback_found bytes fits)
    (λ s x. record { said = refl; spelled = x.0; fits = x.1; listed = x.2 })
body_found headers.Unsubscribe bytes fits =
    then_if (unsubscribe_of bytes) _ (λ u. (bytes ≡ unsubscribe_body u) × FitsUnsubscribe u × (0 < length u.filters)) (IsBody headers.Unsubscribe bytes) (unsubscribe_found bytes fits)
    (λ u x. record { said = refl; spelled = x.0; fits = x.1; listed = x.2 })
body_found headers.Unsuback bytes fits =
    then_if (id_alone_of bytes) _ (λ id. (bytes ≡ number id) × IsId id) (IsBody headers.Unsuback bytes) (id_alone_found bytes fits)
    (λ id x. record { said = refl; spelled = x.0; fits = x.1; listed = tt })
body_found headers.Pingreq bytes fits =
    seq_if (ended bytes) _ (bytes ≡ []) (IsBody headers.Pingreq bytes) (ended_found bytes) (λ e. record { said = refl; spelled = e; fits = tt; listed = tt })
body_found headers.Pingresp bytes fits =
    seq_if (ended bytes) _ (bytes ≡ []) (IsBody headers.Pingresp bytes) (ended_found bytes) (λ e. record { said = refl; spelled = e; fits = tt; listed = tt })
body_found headers.Disconnect bytes fits =
    seq_if (ended bytes) _ (bytes ≡ []) (IsBody headers.Disconnect bytes) (ended_found bytes) (λ e. record { said = refl; spelled = e; fits = tt; listed = tt })

-- a body that was read, as a packet
wrapped : {A : Type 0} (r : Result A Stop) (x : A) (wrap : A → Packet) → r ≡ Ok x → (r >>= (λ y. Ok (wrap y))) ≡ Ok (wrap x)
wrapped r x wrap e = rw e refl

pub body_again : (p : Packet) → Fits p → IsListed p → body_of (header p) (body p) ≡ Ok p
body_again (packets.Connect c) fits listed = wrapped _ c packets.Connect (connect_again c fits)
body_again (packets.Connack c) fits listed = wrapped _ c packets.Connack (connack_again c)
body_again (packets.Publish p) fits listed = wrapped _ p packets.Publish (publish_again p fits)
body_again (packets.Puback id) fits listed = wrapped _ id packets.Puback (id_alone_again id fits)
body_again (packets.Pubrec id) fits listed = wrapped _ id packets.Pubrec (id_alone_again id fits)
body_again (packets.Pubrel id) fits listed = wrapped _ id packets.Pubrel (id_alone_again id fits)
body_again (packets.Pubcomp id) fits listed = wrapped _ id packets.Pubcomp (id_alone_again id fits)
body_again (packets.Subscribe s) fits listed = wrapped _ s packets.Subscribe (subscribe_again s fits listed)
body_again (packets.Suback s) fits listed = wrapped _ s packets.Suback (suback_again s fits listed)
body_again (packets.Unsubscribe u) fits listed = wrapped _ u packets.Unsubscribe (unsubscribe_again u fits listed)
body_again (packets.Unsuback id) fits listed = wrapped _ id packets.Unsuback (id_alone_again id fits)
body_again packets.Pingreq fits listed = refl
body_again packets.Pingresp fits listed = refl
body_again packets.Disconnect fits listed = refl
