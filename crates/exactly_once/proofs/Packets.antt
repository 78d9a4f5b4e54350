-- What a packet on a client's current connection leaves of connection, session and received
-- identifiers, if it does not end the connection; and which of the answers belong to the handshake
-- in which the client publishes.
use Rattle.std.proofs.Common.{◌≡◌, ℕ, Bool, true, false, not, ◌&&◌, ◌||◌, ◌==◌, if◌then◌else◌, List, [], ◌∷◌, ◌++◌, length, take, drop, Option, Some, None, refl, ap, ◌∙◌}
use Rattle.std.specs.Prelude.{flat_map}
use Rattle.packet.specs.declared.packet.Packet.{Packet}
use Rattle.packet.specs.declared.packet.Packet.TheVariants as packets
use Rattle.session_base.specs.declared.publication.Publication.{Publication}
use Rattle.session_base.specs.Publication.{is_answered, publish_for}
use Rattle.broker_spec.specs.Connection.{ConnectionName, same_connection}
use Rattle.broker_spec.specs.Place.{Client, Mark, Place, Past, Limits, only_if}
use Rattle.broker_spec.specs.Sessions.{is_leaving, ends_any, newest_clean_session, current_connection, clean_session_of, in_session}
use Rattle.broker_spec.specs.Received.{received_by, received_of}
use Rattle.broker_spec.specs.Entries.{Entry, copies_at}
use Rattle.broker_spec.specs.Readings.{made_at}
use Rattle.broker_spec.specs.Times.{entries_of}
use Rattle.broker_spec.specs.Sends.{publish_output, first_output, all_started, copy_outputs, handed_to, deliveries_to}
use Rattle.broker_spec.specs.declared.command.Command.TheVariants as commands
use Rattle.broker_spec.specs.declared.command.Output.{Output}
use Rattle.exactly_once.specs.Sends.{sends_to}
use Rattle.exactly_once.specs.Inside.Projections.{backward_of_own}
use Rattle.exactly_once.proofs.Deliveries.{sends_append}

-- the place of a packet
abbrev pub at_packet : ConnectionName → Packet → Mark → Place
at_packet x packet mark = record { command = commands.Packet x packet; mark = mark }

and_false : (b m : Bool) → m ≡ false → (b && m) ≡ false
and_false true m e = e
and_false false m e = refl

-- it ends no connection
ends_none : (x : ConnectionName) (packet : Packet) (mark : Mark) (current : Option ConnectionName) → is_leaving mark ≡ false → ends_any (at_packet x packet mark) [] current ≡ false
ends_none x packet mark None e = refl
ends_none x packet mark (Some y) e = and_false (same_connection x y) (is_leaving mark) e

pub current_packet : (past : Past) (c : Client) (x : ConnectionName) (packet : Packet) (mark : Mark) → is_leaving mark ≡ false
    → current_connection (at_packet x packet mark ∷ past) c ≡ current_connection past c
unfolding current_connection
current_packet past c x packet mark e = ap (λ b. only_if (not b) (current_connection past c)) (ends_none x packet mark (current_connection past c) e)

session_by : (session : Option Bool) (over : Bool) → over ≡ false → newest_clean_session None false over session ≡ session
session_by None over e = refl
session_by (Some true) over e = rw e refl
session_by (Some false) over e = refl

pub session_packet : (past : Past) (c : Client) (x : ConnectionName) (packet : Packet) (mark : Mark) → is_leaving mark ≡ false
    → clean_session_of (at_packet x packet mark ∷ past) c ≡ clean_session_of past c
unfolding clean_session_of
session_packet past c x packet mark e = session_by (clean_session_of past c) (ends_any (at_packet x packet mark) c (current_connection past c)) (ends_none x packet mark (current_connection past c) e)

kept_by : {A : Type 0} (session : Option Bool) (clean : Bool) (fresh kept : A) → session ≡ Some clean → in_session session false fresh kept ≡ kept
kept_by session clean fresh kept e = rw e refl

pub received_packet : (past : Past) (c : Client) (x : ConnectionName) (packet : Packet) (mark : Mark) (clean : Bool) → is_leaving mark ≡ false → clean_session_of past c ≡ Some clean
    → received_of (at_packet x packet mark ∷ past) c ≡ received_by (commands.Packet x packet) mark c (received_of past c)
unfolding received_of
received_packet past c x packet mark clean e s =
    kept_by (clean_session_of (at_packet x packet mark ∷ past) c) clean [] (received_by (commands.Packet x packet) mark c (received_of past c)) (session_packet past c x packet mark e ∙ s)

-- ---- identifiers kept in order

or_swap : (x y z : Bool) → (x || (y || z)) ≡ (y || (x || z))
or_swap true true z = refl
or_swap true false z = refl
or_swap false y z = refl

or_twice : (x y : Bool) → (x || y) ≡ (x || (x || y))
or_twice true y = refl
or_twice false y = refl

-- ---- copies are no answers of the handshake

none_two : (x : ConnectionName) (xs ys : List Output) → backward_of_own (sends_to x xs) ≡ [] → backward_of_own (sends_to x ys) ≡ [] → backward_of_own (sends_to x (xs ++ ys)) ≡ []
none_two x xs ys e f = ap backward_of_own (sends_append x xs ys) ∙ joined (sends_to x xs) (sends_to x ys) e f
  where
    no_cons : {A : Type 0} (a : A) (as' : List A) → a ∷ as' ≡ [] → ⊥
    no_cons a as' e = cc

    joined : (ps qs : List Packet) → backward_of_own ps ≡ [] → backward_of_own qs ≡ [] → backward_of_own (ps ++ qs) ≡ []
    joined [] qs e f = f
    joined (packets.Pubrec id ∷ ps) qs e f = absurd (no_cons _ (backward_of_own ps) e)
    joined (packets.Pubcomp id ∷ ps) qs e f = absurd (no_cons _ (backward_of_own ps) e)
    joined (packets.Publish p ∷ ps) qs e f = joined ps qs e f
    joined (packets.Connect c ∷ ps) qs e f = joined ps qs e f
    joined (packets.Connack c ∷ ps) qs e f = joined ps qs e f
    joined (packets.Puback id ∷ ps) qs e f = joined ps qs e f
    joined (packets.Pubrel id ∷ ps) qs e f = joined ps qs e f
    joined (packets.Subscribe s ∷ ps) qs e f = joined ps qs e f
    joined (packets.Suback s ∷ ps) qs e f = joined ps qs e f
    joined (packets.Unsubscribe u ∷ ps) qs e f = joined ps qs e f
    joined (packets.Unsuback id ∷ ps) qs e f = joined ps qs e f
    joined (packets.Pingreq ∷ ps) qs e f = joined ps qs e f
    joined (packets.Pingresp ∷ ps) qs e f = joined ps qs e f
    joined (packets.Disconnect ∷ ps) qs e f = joined ps qs e f

one_copy : (x y : ConnectionName) (dup : Bool) (id : ℕ) (p : Publication) (more : List Output) → backward_of_own (sends_to x more) ≡ [] → backward_of_own (sends_to x (publish_output y dup id p ∷ more)) ≡ []
one_copy x y dup id p more e = by (same_connection x y)
  where
    by : (b : Bool) → backward_of_own (if b then packets.Publish (publish_for dup id p) ∷ sends_to x more else sends_to x more) ≡ []
    by true = e
    by false = e

first_none : (x y : ConnectionName) (n : ℕ) (entry : Entry) → backward_of_own (sends_to x (first_output y n entry)) ≡ []
first_none x y n (Entry.Queued made p) = refl
first_none x y n (Entry.Sent made p id start) = by (start == n)
  where
    by : (b : Bool) → backward_of_own (sends_to x (if b then publish_output y false id p ∷ [] else [])) ≡ []
    by true = one_copy x y false id p [] refl
    by false = refl
first_none x y n (Entry.Released made p id start release) = refl
first_none x y n (Entry.Done made p id start release finish) = refl

pub started_none : (x y : ConnectionName) (n : ℕ) (es : List Entry) → backward_of_own (sends_to x (all_started y n es)) ≡ []
started_none x y n [] = refl
started_none x y n (entry ∷ es) = none_two x (first_output y n entry) (all_started y n es) (first_none x y n entry) (started_none x y n es)

handed_none : (x y : ConnectionName) (n : ℕ) (copies : List Publication) (es : List Entry) → backward_of_own (sends_to x (copy_outputs y n copies es)) ≡ []
handed_none x y n [] es = refl
handed_none x y n (p ∷ copies) es = by (is_answered p.qos) (handed_none x y n copies (drop 1 es)) (handed_none x y n copies es)
  where
    by : (b : Bool) → backward_of_own (sends_to x (copy_outputs y n copies (drop 1 es))) ≡ [] → backward_of_own (sends_to x (copy_outputs y n copies es)) ≡ []
        → backward_of_own (sends_to x (if b then all_started y n (take 1 es) ++ copy_outputs y n copies (drop 1 es) else publish_output y false 0 p ∷ copy_outputs y n copies es)) ≡ []
    by true f g = none_two x (all_started y n (take 1 es)) (copy_outputs y n copies (drop 1 es)) (started_none x y n (take 1 es)) f
    by false f g = one_copy x y false 0 p (copy_outputs y n copies es) g

pub copies_none : (limits : Limits) (place : Place) (past : Past) (x : ConnectionName) (ds : List Client) → backward_of_own (sends_to x (flat_map (deliveries_to limits place past) ds)) ≡ []
copies_none limits place past x [] = refl
copies_none limits place past x (d ∷ ds) =
    none_two x (deliveries_to limits place past d) (flat_map (deliveries_to limits place past) ds) (by (current_connection past d)) (copies_none limits place past x ds)
  where
    by : (current : Option ConnectionName) → backward_of_own (sends_to x (handed_to current (length past) (copies_at place past d) (made_at (length past) (entries_of limits (place ∷ past) d)))) ≡ []
    by (Some y) = handed_none x y (length past) (copies_at place past d) (made_at (length past) (entries_of limits (place ∷ past) d))
    by None = refl
