-- What the client writes, read as answers of the handshake in which it subscribes.
use Rattle.std.proofs.Common.{◌≡◌, ◌≤◌, ℕ, List, [], ◌∷◌, ◌++◌, length, map, drop, refl, ap, sym, ◌∙◌}
use Rattle.std.proofs.lemmas.List.{append-nil, drop-append-le}
use Rattle.packet.specs.declared.packet.Packet.{Packet}
use Rattle.packet.specs.declared.packet.Packet.TheVariants as packets
use Rattle.exactly_once.specs.Handshake.{Backward}
use Rattle.client_base.specs.Keeper.{Own, Written, Keeper}
use Rattle.client_base.specs.Written.{plain, written_again, written_first, resent_written}
use Rattle.exactly_once.specs.Inside.AsSubscriber.{backward_of}

-- one packet in front
abbrev pub backward_one : Packet → List Backward → List Backward
backward_one (packets.Pubrec id) b = Backward.Pubrec id ∷ b
backward_one (packets.Pubcomp id) b = Backward.Pubcomp id ∷ b
backward_one _ b = b

-- it is read packet by packet
pub backward_first : (w : Written) (more : List Written) → backward_of (w ∷ more) ≡ backward_one w.packet (backward_of more)
backward_first w more = by w.packet
  where
    by : (packet : Packet) → backward_of (record { packet = packet; number = w.number } ∷ more) ≡ backward_one packet (backward_of more)
    by (packets.Pubrec id) = refl
    by (packets.Pubcomp id) = refl
    by _ = refl

-- one packet in front of two lists
one_of_two : (packet : Packet) (a b : List Backward) → backward_one packet (a ++ b) ≡ backward_one packet a ++ b
one_of_two (packets.Pubrec id) a b = refl
one_of_two (packets.Pubcomp id) a b = refl
one_of_two _ a b = refl

-- what comes after comes after
pub backward_append : (ws more : List Written) → backward_of (ws ++ more) ≡ backward_of ws ++ backward_of more
backward_append [] more = refl
backward_append (w ∷ ws) more =
    backward_first w (ws ++ more)
    ∙ ap (backward_one w.packet) (backward_append ws more)
    ∙ one_of_two w.packet (backward_of ws) (backward_of more)
    ∙ ap (λ l. l ++ backward_of more) (sym (backward_first w ws))

-- what is written after is to be taken after
pub taken_after : (n : ℕ) (ws more : List Written) → n ≤ length ws → backward_of (drop n (ws ++ more)) ≡ backward_of (drop n ws) ++ backward_of more
taken_after n ws more h = ap backward_of (drop-append-le n ws more h) ∙ backward_append (drop n ws) more

-- what is no answer changes nothing
pub taken_same : (n : ℕ) (ws more : List Written) → n ≤ length ws → backward_of more ≡ [] → backward_of (drop n (ws ++ more)) ≡ backward_of (drop n ws)
taken_same n ws more h e = taken_after n ws more h ∙ ap (λ l. backward_of (drop n ws) ++ l) e ∙ append-nil (backward_of (drop n ws))

-- ---- a CONNACK's writing

-- PUBRELs are no answers
no_pubrels : (ids : List ℕ) → backward_of (map (λ id. plain (packets.Pubrel id)) ids) ≡ []
no_pubrels [] = refl
no_pubrels (id ∷ ids) = no_pubrels ids

-- nor is what is sent again
none_again : (own : List Own) → backward_of (written_again own) ≡ []
none_again [] = refl
none_again (Own.Queued k p id ∷ own) = none_again own
none_again (Own.Sent k p id ∷ own) = none_again own
none_again (Own.Released k p id ∷ own) = none_again own
none_again (Own.Done k p ∷ own) = none_again own

-- or for the first time
none_first : (own : List Own) → backward_of (written_first own) ≡ []
none_first [] = refl
none_first (Own.Queued k p id ∷ own) = none_first own
none_first (Own.Sent k p id ∷ own) = none_first own
none_first (Own.Released k p id ∷ own) = none_first own
none_first (Own.Done k p ∷ own) = none_first own

-- two lists without answers
none_both : (ws more : List Written) → backward_of ws ≡ [] → backward_of more ≡ [] → backward_of (ws ++ more) ≡ []
none_both ws more e f = backward_append ws more ∙ ap (λ l. l ++ backward_of more) e ∙ f

-- what is written after a CONNACK has no answers
pub none_resent : (keeper : Keeper) → backward_of (resent_written keeper) ≡ []
none_resent keeper =
    none_both (map (λ id. plain (packets.Pubrel id)) keeper.releases ++ written_again keeper.own) (written_first keeper.own)
    (none_both (map (λ id. plain (packets.Pubrel id)) keeper.releases) (written_again keeper.own) (no_pubrels keeper.releases) (none_again keeper.own))
    (none_first keeper.own)
