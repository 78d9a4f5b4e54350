-- What a client that comes back is sent is the resending of the handshake, and then what starts.
use Rattle.std.proofs.Common.{◌≡◌, ◌<◌, ℕ, Bool, true, false, ◌==◌, nat_lt, if◌then◌else◌, List, [], ◌∷◌, ◌++◌, length, map, refl, ap, ap₂, sym, ◌∙◌, arith}
use Rattle.std.specs.Prelude.{flat_map}
use Rattle.packet.specs.declared.packet.Packet.TheVariants as packets
use Rattle.session_base.specs.declared.publication.Publication.{Publication}
use Rattle.session_base.specs.Identifiers.{least_free}
use Rattle.broker_spec.specs.Connection.{ConnectionName}
use Rattle.broker_spec.specs.Entries.{Entry}
use Rattle.broker_spec.specs.Readings.{released_below}
use Rattle.broker_spec.specs.Times.{start_all}
use Rattle.broker_spec.specs.Sends.{repeated_output, all_started, resent_outputs}
use Rattle.broker_spec.specs.declared.command.Output.{Output}
use Rattle.broker_spec.specs.declared.command.Output.TheVariants.{Send}
use Rattle.broker_base.proofs.flights.StartsInFlight.{released_started}
use Rattle.broker_spec.proofs.EntriesStartedBefore.{StartedBefore}
use Rattle.exactly_once.specs.Handshake.{Forward, publishing, sender_resends}
use Rattle.exactly_once.specs.Items.{SenderItem, sent}
use Rattle.lists.proofs.Tests.{eq_same}
use Rattle.exactly_once.specs.Sends.{sends_to}
use Rattle.exactly_once.specs.Carried.{is_qos2}
use Rattle.exactly_once.specs.Inside.AsSubscriber.{items_of_entries, forward_of}
use Rattle.exactly_once.proofs.Deliveries.{sends_append}
use Rattle.exactly_once.proofs.Starts.{rows_started}
use Rattle.exactly_once.proofs.Sent.{NoneStartedAt, forward_publish, sends_publish, forward_started}
use Rattle.exactly_once.proofs.Takes.{same_name_self}
use Rattle.exactly_once.proofs.subscribing.Forward.{forward_append}

-- ---- PUBRELs

-- PUBRELs to the connection
pub forward_pubrels : (x : ConnectionName) (ids : List ℕ) → forward_of (sends_to x (map (λ id. Send x (packets.Pubrel id)) ids)) ≡ map (λ id. Forward.Pubrel id) ids
forward_pubrels x [] = refl
forward_pubrels x (id ∷ ids) = rw (same_name_self x) (ap (λ l. Forward.Pubrel id ∷ l) (forward_pubrels x ids))

-- ---- what was sent

-- an earlier place is another
earlier : (start n : ℕ) → start < n → (start == n) ≡ false
earlier start n h = grind arith

-- what starts now is not sent again
again_of : (x : ConnectionName) (w n : ℕ) (ids : List ℕ) (es : List Entry) → flat_map (repeated_output x n) (start_all w n ids es) ≡ flat_map (repeated_output x n) es
again_of x w n ids [] = refl
again_of x w n ids (Entry.Queued made p ∷ es) = by (nat_lt (length ids) w) (again_of x w n (least_free ids ∷ ids) es)
  where
    by : (b : Bool) → flat_map (repeated_output x n) (start_all w n (least_free ids ∷ ids) es) ≡ flat_map (repeated_output x n) es
        → flat_map (repeated_output x n) (if b then Entry.Sent made p (least_free ids) n ∷ start_all w n (least_free ids ∷ ids) es else Entry.Queued made p ∷ es) ≡ flat_map (repeated_output x n) es
    by true e = rw (eq_same n) e
    by false e = refl
again_of x w n ids (Entry.Sent made p id start ∷ es) = ap (λ l. repeated_output x n (Entry.Sent made p id start) ++ l) (again_of x w n (id ∷ ids) es)
again_of x w n ids (Entry.Released made p id start release ∷ es) = again_of x w n (id ∷ ids) es
again_of x w n ids (Entry.Done made p id start release finish ∷ es) = again_of x w n ids es

-- what is no sent item is skipped
skip : (b : Bool) (item : SenderItem Publication) (items : List (SenderItem Publication)) → sent (item ∷ items) ≡ sent items → sent items ≡ sent (if b then item ∷ items else items)
skip true item items e = sym e
skip false item items e = refl

-- what was sent before is sent again
pub forward_again : (x : ConnectionName) (n : ℕ) (es : List Entry) → StartedBefore n es → forward_of (sends_to x (flat_map (repeated_output x n) es)) ≡ map publishing (sent (items_of_entries es))
forward_again x n [] h = refl
forward_again x n (Entry.Queued made p ∷ es) h = forward_again x n es h ∙ ap (map publishing) (skip (is_qos2 p.qos) (SenderItem.Queued p) (items_of_entries es) refl)
forward_again x n (Entry.Sent made p id start ∷ es) h =
    rw (earlier start n h.0)
    (ap forward_of (sends_publish x true id p (flat_map (repeated_output x n) es))
    ∙ forward_publish true id p (sends_to x (flat_map (repeated_output x n) es))
    ∙ by (is_qos2 p.qos) (forward_again x n es h.1))
  where
    by : (b : Bool) → forward_of (sends_to x (flat_map (repeated_output x n) es)) ≡ map publishing (sent (items_of_entries es))
        → (if b then Forward.Publish id p ∷ forward_of (sends_to x (flat_map (repeated_output x n) es)) else forward_of (sends_to x (flat_map (repeated_output x n) es)))
        ≡ map publishing (sent (if b then SenderItem.Sent p id ∷ items_of_entries es else items_of_entries es))
    by true e = ap (λ l. Forward.Publish id p ∷ l) e
    by false e = e
forward_again x n (Entry.Released made p id start release ∷ es) h = forward_again x n es h ∙ ap (map publishing) (skip (is_qos2 p.qos) (SenderItem.Released p id) (items_of_entries es) refl)
forward_again x n (Entry.Done made p id start release finish ∷ es) h = forward_again x n es h ∙ ap (map publishing) (skip (is_qos2 p.qos) (SenderItem.Done p) (items_of_entries es) refl)

-- ---- all of it

-- none started at a place after
pub none_here : (n : ℕ) (es : List Entry) → StartedBefore n es → NoneStartedAt n es
none_here n [] h = tt
none_here n (Entry.Queued made p ∷ es) h = none_here n es h
none_here n (Entry.Sent made p id start ∷ es) h = (earlier start n h.0, none_here n es h.1)
none_here n (Entry.Released made p id start release ∷ es) h = none_here n es h
none_here n (Entry.Done made p id start release finish ∷ es) h = none_here n es h

-- what is sent again, then what starts
pub forward_resent : (x : ConnectionName) (w n : ℕ) (es : List Entry) → StartedBefore n es
    → forward_of (sends_to x (resent_outputs x n (start_all w n [] es))) ≡ sender_resends (released_below n es) (items_of_entries es) ++ map publishing (rows_started w [] es)
forward_resent x w n es h =
    ap forward_of (sends_append x (pubrels ++ again) (all_started x n entries))
    ∙ forward_append (sends_to x (pubrels ++ again)) (sends_to x (all_started x n entries))
    ∙ ap₂ (λ a b. a ++ b)
    (ap forward_of (sends_append x pubrels again)
    ∙ forward_append (sends_to x pubrels) (sends_to x again)
    ∙ ap₂ (λ a b. a ++ b)
    (forward_pubrels x (released_below n entries) ∙ ap (map (λ id. Forward.Pubrel id)) (released_started n w n [] es))
    (ap (λ l. forward_of (sends_to x l)) (again_of x w n [] es) ∙ forward_again x n es h))
    (forward_started x w n [] es (none_here n es h))
  where
    entries : List Entry
    entries = start_all w n [] es

    pubrels : List Output
    pubrels = map (λ id. Send x (packets.Pubrel id)) (released_below n entries)

    again : List Output
    again = flat_map (repeated_output x n) entries
