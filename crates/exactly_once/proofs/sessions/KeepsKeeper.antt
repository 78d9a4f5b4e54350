-- What a packet or a call leaves of a client that was never served.
use Rattle.std.proofs.Common.{◌≡◌, ◌+◌, ℕ, suc, Bool, true, false, if◌then◌else◌, List, [], ◌∷◌, ◌++◌, length, refl, sym, ◌∙◌, ap, subst, arith, inl}
use Rattle.std.proofs.lemmas.Bool.{both_ways}
use Rattle.packet.specs.declared.connack.Connack.TheVariants as connacks
use Rattle.packet.specs.declared.packet.Packet.{Packet}
use Rattle.packet.specs.declared.packet.Packet.TheVariants as packets
use Rattle.session_base.specs.declared.publication.Publication.{Publication}
use Rattle.session_base.specs.Publication.{is_answered}
use Rattle.session_base.specs.Identifiers.{least_free}
use Rattle.lists.specs.Lists.{IsDistinct}
use Rattle.broker_spec.specs.Place.{Client}
use Rattle.client_base.specs.Keeper.{Own, Keeper, ids_in_use}
use Rattle.client_base.specs.Called.{adds_own}
use Rattle.client_base.specs.Handled.{packet_handled, handled_online, handled_first, lost}
use Rattle.exactly_once.specs.Sides.{Side}
use Rattle.exactly_once.specs.StoryTrace.{AreQueued, unserved}
use Rattle.exactly_once.proofs.publishing.kept.KeepsCalls.{ids_next}
use Rattle.exactly_once.proofs.subscribing.Given.{one_handled}
use Rattle.exactly_once.proofs.keeping.Settled.{leaves_online}
use Rattle.exactly_once.proofs.sessions.Anew.{waiting}
use Rattle.exactly_once.proofs.sessions.Life.{is_welcome, IsUnserved}

-- ---- a first packet that is no CONNACK 0 ends the connection

first_ends : (packet : Packet) (side : Side) → is_welcome packet ≡ false → handled_first packet side ≡ record side { keeper = lost side.keeper }
first_ends (packets.Connack (connacks.Accepted present)) side e = absurd (both_ways true e refl)
first_ends (packets.Connack (connacks.Refused code)) side e = refl
first_ends _ side e = refl

pub unwelcome_ends : (packet : Packet) (side : Side) → side.keeper.is_online ≡ false → is_welcome packet ≡ false → packet_handled packet side ≡ record (one_handled side) { keeper = lost side.keeper }
unwelcome_ends packet side off e =
    ap (λ b. if b then handled_online packet (one_handled side) else handled_first packet (one_handled side)) off ∙ first_ends packet (one_handled side) e

-- a CONNACK 0 serves it
welcome_serves : (packet : Packet) (side : Side) → is_welcome packet ≡ true → (handled_first packet side).keeper.was_served ≡ true
welcome_serves (packets.Connack (connacks.Accepted present)) side e = refl
welcome_serves (packets.Connack (connacks.Refused code)) side e = absurd (both_ways false refl e)
welcome_serves (packets.Connect q) side e = absurd (both_ways false refl e)
welcome_serves (packets.Publish q) side e = absurd (both_ways false refl e)
welcome_serves (packets.Puback q) side e = absurd (both_ways false refl e)
welcome_serves (packets.Pubrec q) side e = absurd (both_ways false refl e)
welcome_serves (packets.Pubrel q) side e = absurd (both_ways false refl e)
welcome_serves (packets.Pubcomp q) side e = absurd (both_ways false refl e)
welcome_serves (packets.Subscribe q) side e = absurd (both_ways false refl e)
welcome_serves (packets.Suback q) side e = absurd (both_ways false refl e)
welcome_serves (packets.Unsubscribe q) side e = absurd (both_ways false refl e)
welcome_serves (packets.Unsuback q) side e = absurd (both_ways false refl e)
welcome_serves packets.Pingreq side e = absurd (both_ways false refl e)
welcome_serves packets.Pingresp side e = absurd (both_ways false refl e)
welcome_serves packets.Disconnect side e = absurd (both_ways false refl e)

-- who was served stays so
first_served : (packet : Packet) (side : Side) → side.keeper.was_served ≡ true → (handled_first packet side).keeper.was_served ≡ true
first_served (packets.Connack (connacks.Accepted present)) side e = refl
first_served (packets.Connack (connacks.Refused code)) side e = e
first_served _ side e = e

stays_served : (packet : Packet) (side : Side) → side.keeper.was_served ≡ true → (packet_handled packet side).keeper.was_served ≡ true
stays_served packet side e = by side.keeper.is_online
  where
    by : (b : Bool) → (if b then handled_online packet (one_handled side) else handled_first packet (one_handled side)).keeper.was_served ≡ true
    by true = (leaves_online packet (one_handled side)).served ∙ e
    by false = first_served packet (one_handled side) e

-- ---- never served

lost_unserved : (c : Client) (keeper : Keeper) → IsUnserved c keeper → IsUnserved c (lost keeper)
lost_unserved c keeper u = record { is = ap lost u.is; queued = u.queued; apart = u.apart }

pub unserved_lost : (c : Client) (keeper : Keeper) → (keeper.was_served ≡ false → IsUnserved c keeper) → (lost keeper).was_served ≡ false → IsUnserved c (lost keeper)
unserved_lost c keeper h e = lost_unserved c keeper (h e)

pub unserved_opened : (c : Client) (keeper : Keeper) → (keeper.was_served ≡ false → IsUnserved c keeper) → keeper.was_served ≡ false → IsUnserved c (record (lost keeper) { is_open = true })
unserved_opened c keeper h e = let u = h e in record { is = ap (λ (k : Keeper). record (lost k) { is_open = true }) u.is; queued = u.queued; apart = u.apart }

-- who is not served after a packet was not before, and the packet ended the connection
pub unserved_ends : (c : Client) (packet : Packet) (side : Side) → (side.keeper.was_served ≡ false → IsUnserved c side.keeper) → (packet_handled packet side).keeper.was_served ≡ false
    → (side.keeper.was_served ≡ false) × (packet_handled packet side ≡ record (one_handled side) { keeper = lost side.keeper })
unserved_ends c packet side h e = by side.keeper.was_served refl
  where
    two : (b : Bool) → is_welcome packet ≡ b → IsUnserved c side.keeper → packet_handled packet side ≡ record (one_handled side) { keeper = lost side.keeper }
    two true w u =
        let off : side.keeper.is_online ≡ false = ap (λ (k : Keeper). k.is_online) u.is in
        absurd (both_ways (packet_handled packet side).keeper.was_served e
        (ap (λ b. (if b then handled_online packet (one_handled side) else handled_first packet (one_handled side)).keeper.was_served) off ∙ welcome_serves packet (one_handled side) w))
    two false w u = unwelcome_ends packet side (ap (λ (k : Keeper). k.is_online) u.is) w

    by : (b : Bool) → side.keeper.was_served ≡ b → (side.keeper.was_served ≡ false) × (packet_handled packet side ≡ record (one_handled side) { keeper = lost side.keeper })
    by true f = absurd (both_ways (packet_handled packet side).keeper.was_served e (stays_served packet side f))
    by false f = (f, two (is_welcome packet) refl (h f))

pub unserved_handled : (c : Client) (packet : Packet) (side : Side) → (side.keeper.was_served ≡ false → IsUnserved c side.keeper) → (packet_handled packet side).keeper.was_served ≡ false
    → IsUnserved c (packet_handled packet side).keeper
unserved_handled c packet side h e =
    let ends = unserved_ends c packet side h e in
    subst (λ (z : Side). IsUnserved c z.keeper) (sym ends.1) (lost_unserved c side.keeper (h ends.0))

-- one more publication
queued_more : (n : ℕ) (own : List Own) (p : Publication) (id : ℕ) → AreQueued n own → AreQueued n (own ++ Own.Queued (n + length own) p id ∷ [])
queued_more n [] p id h = (omega arith, tt)
queued_more n (Own.Queued k q j ∷ own) p id h =
    let same : suc n + length own ≡ n + suc (length own) = omega arith in
    (h.0, subst (λ (m : ℕ). AreQueued (suc n) (own ++ Own.Queued m p id ∷ [])) same (queued_more (suc n) own p id h.1))
queued_more n (Own.Sent k q j ∷ own) p id h = absurd h
queued_more n (Own.Released k q j ∷ own) p id h = absurd h
queued_more n (Own.Done k q ∷ own) p id h = absurd h

one_queued : (c : Client) (own : List Own) (opened : Bool) (p : Publication) → AreQueued 0 own → IsDistinct (ids_in_use (unserved c [] own)) → is_answered p.qos ≡ true → IsUnserved c (adds_own p (waiting c [] own opened))
one_queued c own opened p queued apart answered =
    subst (λ (b : Bool). IsUnserved c (record (waiting c [] own opened) { own = own ++ (if b then Own.Queued (0 + length own) p id else Own.Done (0 + length own) p) ∷ [] })) (sym answered)
    (record { is = refl; queued = queued_more 0 own p id queued; apart = ids_next (unserved c [] own) (Own.Queued (0 + length own) p id) apart (inl refl) })
  where
    id : ℕ
    id = least_free (ids_in_use (unserved c [] own))

pub unserved_publishes : (c : Client) (keeper : Keeper) (p : Publication) → (is_answered p.qos ≡ false → keeper.is_online ≡ true) → (keeper.was_served ≡ false → IsUnserved c keeper) → keeper.was_served ≡ false
    → IsUnserved c (adds_own p keeper)
unserved_publishes c keeper p needs h e = by (is_answered p.qos) refl
  where
    u : IsUnserved c keeper
    u = h e

    by : (b : Bool) → is_answered p.qos ≡ b → IsUnserved c (adds_own p keeper)
    by true f = subst (λ (k : Keeper). IsUnserved c (adds_own p k)) (sym u.is) (one_queued c keeper.own keeper.is_open p u.queued u.apart f)
    by false f = absurd (both_ways keeper.is_online (ap (λ (k : Keeper). k.is_online) u.is) (needs f))
