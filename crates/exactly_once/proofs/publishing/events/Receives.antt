-- A packet that the client handles is a run of the handshake in which it publishes.
use Rattle.std.proofs.Common.{◌≡◌, ℕ, zero, suc, Bool, true, false, if◌then◌else◌, List, [], ◌∷◌, Some, refl, ap, sym, ◌∙◌, subst, inl, inr, ◌⊎◌}
use Rattle.std.specs.Prelude.{slice_get}
use Rattle.std.proofs.lemmas.Bool.{cases_Bool}
use Rattle.std.proofs.lemmas.List.{append-nil}
use Rattle.packet.specs.declared.connack.Connack.TheVariants as connacks
use Rattle.packet.specs.declared.packet.Packet.{Packet}
use Rattle.packet.specs.declared.packet.Packet.TheVariants as packets
use Rattle.broker_spec.specs.Place.{Past, Limits}
use Rattle.lists.specs.Lists.{Each}
use Rattle.exactly_once.specs.Handshake.{Handshake}
use Rattle.exactly_once.specs.HandshakeInvariant.{IsGood}
use Rattle.exactly_once.specs.Sends.{put_to}
use Rattle.exactly_once.specs.Sides.{ClientConnection}
use Rattle.client_base.specs.Keeper.{Keeper}
use Rattle.client_base.specs.Handled.{lost, packet_handled, handled_first, handled_online}
use Rattle.exactly_once.specs.Story.{with_side}
use Rattle.exactly_once.specs.Inside.Projections.{last_confirmed, as_publisher, GoesTo}
use Rattle.exactly_once.specs.Inside.Shape.{HeldInShape}
use Rattle.exactly_once.specs.Inside.OwnShape.{OwnInShape}
use Rattle.exactly_once.specs.Inside.ConnectionShape.{ConnectionInShape}
use Rattle.exactly_once.proofs.publishing.kept.Numbers.{same_numbers, same_written}
use Rattle.exactly_once.proofs.publishing.First.{story_by, counted_within}
use Rattle.exactly_once.proofs.publishing.Answered.{counted_side}
use Rattle.exactly_once.proofs.publishing.Online.{handles_online}
use Rattle.exactly_once.proofs.publishing.Confirms.{confirms}
use Rattle.exactly_once.proofs.publishing.Calls.{leaves_all}

-- it holds for one that is among them
pub each_at : {A : Type 0} (P : A → Type 0) (n : ℕ) (xs : List A) (x : A) → slice_get xs n ≡ Some x → Each P xs → P x
each_at P n [] x e h = cc
each_at P zero (y ∷ xs) x e h = let same : y ≡ x = cc in subst P same h.0
each_at P (suc n) (y ∷ xs) x e h = each_at P n xs x e h.1

-- any other first packet ends the connection
ends_first : (limits : Limits) (past : Past) (keeper : Keeper) (κ : ClientConnection) (others : List ClientConnection) → ConnectionInShape limits past keeper.client κ → κ.confirmed ≡ false
    → GoesTo (as_publisher limits (story_by past (κ ∷ others) keeper)) (as_publisher limits (story_by past ((counted_side keeper κ).connection ∷ others) (lost keeper)))
ends_first limits past keeper κ others shape unconfirmed =
    let after = (counted_side keeper κ).connection in
    leaves_all limits past keeper (lost keeper) (κ ∷ others) (after ∷ others) refl refl refl
    (ap (λ b. if b then Some κ else last_confirmed others) unconfirmed ∙ sym (ap (λ b. if b then Some after else last_confirmed others) unconfirmed))
    (sym (same_numbers (κ ∷ others) (after ∷ others) past (same_written past κ after others [] refl (sym (append-nil κ.written)) (counted_within limits past keeper κ shape))))

handles_first : (limits : Limits) (past : Past) (keeper : Keeper) (κ : ClientConnection) (others : List ClientConnection) (packet : Packet) → OwnInShape keeper
    → ConnectionInShape limits past keeper.client κ → κ.confirmed ≡ false
    → (keeper.was_served ≡ true → (packet ≡ packets.Connack (connacks.Accepted false)) → ⊥) → slice_get (put_to limits past κ.name) κ.handled ≡ Some packet
    → GoesTo (as_publisher limits (story_by past (κ ∷ others) keeper)) (as_publisher limits (with_side (story_by past (κ ∷ others) keeper) others (handled_first packet (counted_side keeper κ))))
handles_first limits past keeper κ others (packets.Connack (connacks.Accepted present)) own shape unconfirmed kept next =
    confirms limits past keeper κ others present own shape unconfirmed (served (cases_Bool keeper.was_served)) next
  where
    served : (keeper.was_served ≡ true) ⊎ (keeper.was_served ≡ false) → present ≡ false → keeper.was_served ≡ false
    served (inl w) e = absurd (kept w (ap (λ b. packets.Connack (connacks.Accepted b)) e))
    served (inr w) e = w
handles_first limits past keeper κ others (packets.Connack (connacks.Refused code)) own shape unconfirmed kept next = ends_first limits past keeper κ others shape unconfirmed
handles_first limits past keeper κ others _ own shape unconfirmed kept next = ends_first limits past keeper κ others shape unconfirmed

pub receives_it : (limits : Limits) (past : Past) (keeper : Keeper) (κ : ClientConnection) (others : List ClientConnection) (packet : Packet) → OwnInShape keeper
    → Each (ConnectionInShape limits past keeper.client) (κ ∷ others) → HeldInShape limits past keeper (κ ∷ others) → keeper.is_open ≡ true
    → slice_get (put_to limits past κ.name) κ.handled ≡ Some packet → IsGood (as_publisher limits (story_by past (κ ∷ others) keeper))
    → GoesTo (as_publisher limits (story_by past (κ ∷ others) keeper))
    (as_publisher limits (with_side (story_by past (κ ∷ others) keeper) others (packet_handled packet (record { keeper = keeper; connection = κ }))))
receives_it limits past keeper κ others packet own each held opened next good = by (cases_Bool keeper.is_online)
  where
    h : Handshake ℕ
    h = as_publisher limits (story_by past (κ ∷ others) keeper)

    after : Bool → Handshake ℕ
    after b = as_publisher limits (with_side (story_by past (κ ∷ others) keeper) others (if b then handled_online packet (counted_side keeper κ) else handled_first packet (counted_side keeper κ)))

    by : (keeper.is_online ≡ true) ⊎ (keeper.is_online ≡ false) → GoesTo h (after keeper.is_online)
    by (inl on) =
        subst (λ (b : Bool). GoesTo h (after b)) (sym on)
        (handles_online limits past keeper κ others packet (record { shape = each.0; on = on; confirmed = held.0 opened ∙ on; next = next }) good)
    by (inr off) =
        subst (λ (b : Bool). GoesTo h (after b)) (sym off)
        (handles_first limits past keeper κ others packet own each.0 (held.0 opened ∙ off)
        (λ served. each_at (λ (q : Packet). (q ≡ packets.Connack (connacks.Accepted false)) → ⊥) κ.handled (put_to limits past κ.name) packet next (held.2 opened off served)) next)
