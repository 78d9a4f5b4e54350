-- Spelled.antt: packets that are written one after another.
use Rattle.std.proofs.Common.{◌≡◌, ℕ, true, false, ◌+◌, ◌<◌, List, [], ◌∷◌, ◌++◌, length, map, take, get_or, append_assoc, append-nil, refl, ap, sym, subst, ◌∙◌}
use Rattle.std.proofs.lemmas.List.{map_more}
use Rattle.packet.specs.declared.packet.Packet.{Packet}
use Rattle.packet.specs.declared.packet.Packet.TheVariants as packets
use Rattle.packet.specs.Spelling.{AppendsSpelling}
use Rattle.client_base.specs.declared.unacknowledged_publication.UnacknowledgedPublication.{UnacknowledgedPublication}
use Rattle.client_base.specs.State.{ClientState, publish_kept, resent}
use Rattle.client.specs.Core.{AppendsAll}

-- what is written after is written after both
pub appends_join : (old between new : List ℕ) (packets others : List Packet) → AppendsAll old between packets → AppendsAll between new others
    → AppendsAll old new (packets ++ others)
appends_join old between new [] others same more = subst (λ (bytes : List ℕ). AppendsAll bytes new others) same more
appends_join old between new (packet ∷ packets) others first more = (first.0, first.1, appends_join first.0 between new packets others first.2 more)

pub appends_one : (old new : List ℕ) (packet : Packet) → AppendsSpelling old new packet → AppendsAll old new (packet ∷ [])
appends_one old new packet spelled = (new, spelled, refl)

-- one more of a list
pub appends_next : {X : Type 0} (f : X → Packet) (xs : List X) (i : ℕ) (x : X) (old between new : List ℕ) → i < length xs → x ≡ get_or xs i x
    → AppendsAll old between (map f (take i xs)) → AppendsSpelling between new (f x) → AppendsAll old new (map f (take (i + 1) xs))
appends_next f xs i x old between new within is front spelled =
    let more : map f (take (i + 1) xs) ≡ map f (take i xs) ++ f x ∷ [] =
    map_more f xs i x within ∙ ap (λ y. map f (take i xs) ++ f y ∷ []) (sym is) in
    subst (λ (packets : List Packet). AppendsAll old new packets) (sym more)
    (appends_join old between new (map f (take i xs)) (f x ∷ []) front (appends_one between new (f x) spelled))

-- ---- the same after other bytes

spelled_after : (front old new : List ℕ) (packet : Packet) → AppendsSpelling old new packet → AppendsSpelling (front ++ old) (front ++ new) packet
spelled_after front old new packet spelled =
    (spelled.0, spelled.1, ap (λ bytes. front ++ bytes) spelled.2 ∙ sym (append_assoc front old spelled.0))

appends_further : (front old new : List ℕ) (packets : List Packet) → AppendsAll old new packets → AppendsAll (front ++ old) (front ++ new) packets
appends_further front old new [] same = ap (λ bytes. front ++ bytes) same
appends_further front old new (packet ∷ packets) all =
    (front ++ all.0, spelled_after front old all.0 packet all.1, appends_further front all.0 new packets all.2)

pub appends_after : (front bytes : List ℕ) (packets : List Packet) → AppendsAll [] bytes packets → AppendsAll front (front ++ bytes) packets
appends_after front bytes packets all =
    subst (λ (old : List ℕ). AppendsAll old (front ++ bytes) packets) (append-nil front) (appends_further front [] bytes packets all)

-- ---- what is kept

pub all_resent : (state : ClientState) (none released sent queued : List ℕ) (ids : List ℕ) (again first : List UnacknowledgedPublication) → none ≡ []
    → ids ≡ state.released → again ≡ state.sent → first ≡ state.queued
    → AppendsAll none released (map packets.Pubrel ids) → AppendsAll released sent (map (publish_kept true) again)
    → AppendsAll sent queued (map (publish_kept false) first) → AppendsAll [] queued (resent state)
all_resent state none released sent queued ids again first is is_released is_sent is_queued a b c =
    rw (← is, ← is_released, ← is_sent, ← is_queued)
    (appends_join none sent queued (map packets.Pubrel ids ++ map (publish_kept true) again) (map (publish_kept false) first)
    (appends_join none released sent (map packets.Pubrel ids) (map (publish_kept true) again) a b) c)
