-- A packet on a connection that is no client's current one: nothing changes, and there is no
-- output.
use Rattle.std.proofs.Common.{◌≡◌, ℕ, ◌≤◌, Bool, true, false, not, ◌&&◌, nat_lt, if◌then◌else◌, List, [], ◌∷◌, length, Option, Some, None, ◌⊎◌, inl, inr, refl, sym, ◌∙◌, ap, arith, append-nil}
use Rattle.session_base.specs.Subscriptions.{GrantedSubscription}
use Rattle.packet.specs.declared.packet.Packet.{Packet}
use Rattle.packet.specs.declared.packet.Packet.TheVariants as packets
use Rattle.retained.specs.Retained.{RetainedTopics}
use Rattle.broker_spec.specs.Connection.{ConnectionName, same_connection}
use Rattle.broker_spec.specs.Place.{Client, Mark, Place, Past, Limits, only_if}
use Rattle.broker_spec.specs.Sessions.{any_connection, current_connection, clean_session_of, newest_clean_session, begins, in_session}
use Rattle.broker_spec.specs.Subscriptions.{subscriptions_after, subscriptions_of}
use Rattle.broker_spec.specs.Received.{received_by, received_of}
use Rattle.broker_spec.specs.Retained.{retained_by, retained_publications}
use Rattle.broker_spec.specs.Entries.{Entry, copies_by}
use Rattle.session_base.specs.Identifiers.{least_free}
use Rattle.broker_spec.specs.Times.{entries_of, window_at, start_all, started, answered_by}
use Rattle.broker_spec.specs.Answers.{packet_answers}
use Rattle.broker_spec.specs.NobodyTheorems.{IsSteady, PacketOfNobodyIsNothing, WindowIsSteady}
use Rattle.broker_spec.specs.declared.command.Command.TheVariants as commands
use Rattle.broker_spec.proofs.NothingWaits.{IsFull, full-at}

-- the place of such a packet
abbrev pub nobodys : ConnectionName → Packet → Place
nobodys x packet = record { command = commands.Packet x packet; mark = Mark.Unmarked }

no-subscription : (packet : Packet) (x : ConnectionName) (c : Client) (held : List GrantedSubscription) → subscriptions_after (commands.Packet x packet) Mark.Unmarked c held ≡ held
no-subscription (packets.Connect q) x c held = refl
no-subscription (packets.Connack q) x c held = refl
no-subscription (packets.Publish p) x c held = refl
no-subscription (packets.Puback i) x c held = refl
no-subscription (packets.Pubrec i) x c held = refl
no-subscription (packets.Pubrel i) x c held = refl
no-subscription (packets.Pubcomp i) x c held = refl
no-subscription (packets.Subscribe s) x c held = refl
no-subscription (packets.Suback q) x c held = refl
no-subscription (packets.Unsubscribe u) x c held = refl
no-subscription (packets.Unsuback i) x c held = refl
no-subscription packets.Pingreq x c held = refl
no-subscription packets.Pingresp x c held = refl
no-subscription packets.Disconnect x c held = refl

no-identifier : (packet : Packet) (x : ConnectionName) (c : Client) (ids : List ℕ) → received_by (commands.Packet x packet) Mark.Unmarked c ids ≡ ids
no-identifier (packets.Connect q) x c ids = refl
no-identifier (packets.Connack q) x c ids = refl
no-identifier (packets.Publish p) x c ids = refl
no-identifier (packets.Puback i) x c ids = refl
no-identifier (packets.Pubrec i) x c ids = refl
no-identifier (packets.Pubrel i) x c ids = refl
no-identifier (packets.Pubcomp i) x c ids = refl
no-identifier (packets.Subscribe s) x c ids = refl
no-identifier (packets.Suback q) x c ids = refl
no-identifier (packets.Unsubscribe u) x c ids = refl
no-identifier (packets.Unsuback i) x c ids = refl
no-identifier packets.Pingreq x c ids = refl
no-identifier packets.Pingresp x c ids = refl
no-identifier packets.Disconnect x c ids = refl

no-retained : (packet : Packet) (x : ConnectionName) (content : RetainedTopics) → retained_by (commands.Packet x packet) Mark.Unmarked content ≡ content
no-retained (packets.Connect q) x content = refl
no-retained (packets.Connack q) x content = refl
no-retained (packets.Publish p) x content = refl
no-retained (packets.Puback i) x content = refl
no-retained (packets.Pubrec i) x content = refl
no-retained (packets.Pubrel i) x content = refl
no-retained (packets.Pubcomp i) x content = refl
no-retained (packets.Subscribe s) x content = refl
no-retained (packets.Suback q) x content = refl
no-retained (packets.Unsubscribe u) x content = refl
no-retained (packets.Unsuback i) x content = refl
no-retained packets.Pingreq x content = refl
no-retained packets.Pingresp x content = refl
no-retained packets.Disconnect x content = refl

no-reply : (packet : Packet) (x : ConnectionName) (n : ℕ) (c : Client) (es : List Entry) → answered_by (commands.Packet x packet) Mark.Unmarked n c es ≡ es
no-reply (packets.Connect q) x n c es = refl
no-reply (packets.Connack q) x n c es = refl
no-reply (packets.Publish p) x n c es = refl
no-reply (packets.Puback i) x n c es = refl
no-reply (packets.Pubrec i) x n c es = refl
no-reply (packets.Pubrel i) x n c es = refl
no-reply (packets.Pubcomp i) x n c es = refl
no-reply (packets.Subscribe s) x n c es = refl
no-reply (packets.Suback q) x n c es = refl
no-reply (packets.Unsubscribe u) x n c es = refl
no-reply (packets.Unsuback i) x n c es = refl
no-reply packets.Pingreq x n c es = refl
no-reply packets.Pingresp x n c es = refl
no-reply packets.Disconnect x n c es = refl

no-copy : (packet : Packet) (x : ConnectionName) (past : Past) (c : Client) → copies_by (commands.Packet x packet) Mark.Unmarked past c ≡ []
no-copy (packets.Connect q) x past c = refl
no-copy (packets.Connack q) x past c = refl
no-copy (packets.Publish p) x past c = refl
no-copy (packets.Puback i) x past c = refl
no-copy (packets.Pubrec i) x past c = refl
no-copy (packets.Pubrel i) x past c = refl
no-copy (packets.Pubcomp i) x past c = refl
no-copy (packets.Subscribe s) x past c = refl
no-copy (packets.Suback q) x past c = refl
no-copy (packets.Unsubscribe u) x past c = refl
no-copy (packets.Unsuback i) x past c = refl
no-copy packets.Pingreq x past c = refl
no-copy packets.Pingresp x past c = refl
no-copy packets.Disconnect x past c = refl

pub no-answer : (packet : Packet) (limits : Limits) (place : Place) (past : Past) (x : ConnectionName) → packet_answers limits place past x packet Mark.Unmarked ≡ []
no-answer (packets.Connect q) limits place past x = refl
no-answer (packets.Connack q) limits place past x = refl
no-answer (packets.Publish p) limits place past x = refl
no-answer (packets.Puback i) limits place past x = refl
no-answer (packets.Pubrec i) limits place past x = refl
no-answer (packets.Pubrel i) limits place past x = refl
no-answer (packets.Pubcomp i) limits place past x = refl
no-answer (packets.Subscribe s) limits place past x = refl
no-answer (packets.Suback q) limits place past x = refl
no-answer (packets.Unsubscribe u) limits place past x = refl
no-answer (packets.Unsuback i) limits place past x = refl
no-answer packets.Pingreq limits place past x = refl
no-answer packets.Pingresp limits place past x = refl
no-answer packets.Disconnect limits place past x = refl

-- ---- connection and session

and-false : (b : Bool) → b && false ≡ false
and-false true = refl
and-false false = refl

none-ends : (x : ConnectionName) (current : Option ConnectionName) → any_connection (λ y. same_connection x y && false) current ≡ false
none-ends x None = refl
none-ends x (Some y) = and-false (same_connection x y)

same-session : (over : Bool) (session : Option Bool) → over ≡ false → newest_clean_session None false over session ≡ session
same-session over None e = refl
same-session over (Some clean) e = rw e (by clean)
  where
    by : (clean : Bool) → only_if (not (clean && false)) (Some clean) ≡ Some clean
    by true = refl
    by false = refl

same-connection : (past : Past) (x : ConnectionName) (packet : Packet) (c : Client) → current_connection (nobodys x packet ∷ past) c ≡ current_connection past c
unfolding current_connection
same-connection past x packet c = ap (λ b. only_if (not b) (current_connection past c)) (none-ends x (current_connection past c))

still-session : (past : Past) (x : ConnectionName) (packet : Packet) (c : Client) → clean_session_of (nobodys x packet ∷ past) c ≡ clean_session_of past c
unfolding clean_session_of
still-session past x packet c = same-session (any_connection (λ y. same_connection x y && false) (current_connection past c)) (clean_session_of past c) (none-ends x (current_connection past c))

-- ---- what a session keeps

kept-none : {A : Type 0} (session : Option Bool) (beginning : Bool) (fresh kept : A) → session ≡ None → in_session session beginning fresh kept ≡ fresh
kept-none None beginning fresh kept e = refl
kept-none (Some clean) beginning fresh kept e = cc

kept-on : {A : Type 0} (session : Option Bool) (fresh kept : A) → (session ≡ None → kept ≡ fresh) → in_session session false fresh kept ≡ kept
kept-on (Some clean) fresh kept e = refl
kept-on None fresh kept e = sym (e refl)

no-subscriptions : (past : Past) (c : Client) → clean_session_of past c ≡ None → subscriptions_of past c ≡ []
unfolding subscriptions_of
no-subscriptions [] c e = refl
no-subscriptions (place ∷ past) c e = kept-none (clean_session_of (place ∷ past) c) (begins place past c) [] _ e

no-identifiers : (past : Past) (c : Client) → clean_session_of past c ≡ None → received_of past c ≡ []
unfolding received_of
no-identifiers [] c e = refl
no-identifiers (place ∷ past) c e = kept-none (clean_session_of (place ∷ past) c) (begins place past c) [] _ e

no-entries : (limits : Limits) (past : Past) (c : Client) → clean_session_of past c ≡ None → entries_of limits past c ≡ []
unfolding entries_of
no-entries limits [] c e = refl
no-entries limits (place ∷ past) c e = kept-none (clean_session_of (place ∷ past) c) (begins place past c) [] _ e

same-subscriptions : (past : Past) (x : ConnectionName) (packet : Packet) (c : Client) → subscriptions_of (nobodys x packet ∷ past) c ≡ subscriptions_of past c
unfolding subscriptions_of
same-subscriptions past x packet c =
    ap (in_session (clean_session_of (nobodys x packet ∷ past) c) false []) (no-subscription packet x c (subscriptions_of past c))
    ∙ ap (λ z. in_session z false [] (subscriptions_of past c)) (still-session past x packet c)
    ∙ kept-on (clean_session_of past c) [] (subscriptions_of past c) (no-subscriptions past c)

same-received : (past : Past) (x : ConnectionName) (packet : Packet) (c : Client) → received_of (nobodys x packet ∷ past) c ≡ received_of past c
unfolding received_of
same-received past x packet c =
    ap (in_session (clean_session_of (nobodys x packet ∷ past) c) false []) (no-identifier packet x c (received_of past c))
    ∙ ap (λ z. in_session z false [] (received_of past c)) (still-session past x packet c)
    ∙ kept-on (clean_session_of past c) [] (received_of past c) (no-identifiers past c)

-- ---- entries: where each that waits has a full window before it, nothing starts

stays : (w n : ℕ) (busy : List ℕ) (es : List Entry) → IsFull w (length busy) es → start_all w n busy es ≡ es
stays w n busy [] f = refl
stays w n busy (Entry.Queued made p ∷ es) f = by (nat_lt (length busy) w) refl
  where
    by : (b : Bool) → nat_lt (length busy) w ≡ b
        → (if b then Entry.Sent made p (least_free busy) n ∷ start_all w n (least_free busy ∷ busy) es else Entry.Queued made p ∷ es) ≡ Entry.Queued made p ∷ es
    by true e = let g : w ≤ length busy = f.0 in grind (arith, e, g)
    by false e = refl
stays w n busy (Entry.Sent made p id start ∷ es) f = ap (λ z. Entry.Sent made p id start ∷ z) (stays w n (id ∷ busy) es f)
stays w n busy (Entry.Released made p id start release ∷ es) f = ap (λ z. Entry.Released made p id start release ∷ z) (stays w n (id ∷ busy) es f)
stays w n busy (Entry.Done made p id start release finish ∷ es) f = ap (λ z. Entry.Done made p id start release finish ∷ z) (stays w n busy es f)

starts-nothing : (w n : ℕ) (current : Option ConnectionName) (es : List Entry) → (current ≡ None) ⊎ IsFull w 0 es → started w n current es ≡ es
starts-nothing w n None es q = refl
starts-nothing w n (Some x) es (inl e) = cc
starts-nothing w n (Some x) es (inr f) = stays w n [] es f

same-entries : (limits : Limits) (past : Past) (x : ConnectionName) (packet : Packet) (c : Client) → IsSteady limits
    → entries_of limits (nobodys x packet ∷ past) c ≡ entries_of limits past c
unfolding entries_of
same-entries limits past x packet c steady =
    ap (in_session (clean_session_of (nobodys x packet ∷ past) c) false [])
    (rw (no-reply packet x (length past) c (entries_of limits past c), no-copy packet x past c, append-nil (entries_of limits past c), same-connection past x packet c, steady (nobodys x packet) past refl)
    (starts-nothing (window_at limits past) (length past) (current_connection past c) (entries_of limits past c) (full-at limits past c)))
    ∙ ap (λ z. in_session z false [] (entries_of limits past c)) (still-session past x packet c)
    ∙ kept-on (clean_session_of past c) [] (entries_of limits past c) (no-entries limits past c)

-- ---- the law

same-retained : (past : Past) (x : ConnectionName) (packet : Packet) → retained_publications (nobodys x packet ∷ past) ≡ retained_publications past
unfolding retained_publications
same-retained past x packet = no-retained packet x (retained_publications past)

pub packet_of_nobody_is_nothing : PacketOfNobodyIsNothing
packet_of_nobody_is_nothing limits past x packet steady none =
    rw none (
      (λ c. record { connection = same-connection past x packet c; session = still-session past x packet c; subscriptions = same-subscriptions past x packet c; received = same-received past x packet c; entries = same-entries limits past x packet c steady }),
      same-retained past x packet,
      no-answer packet limits (nobodys x packet) past x,
    )

pub window_is_steady : WindowIsSteady
window_is_steady = ((λ place past e. refl), (λ first place past e. rw e refl))
