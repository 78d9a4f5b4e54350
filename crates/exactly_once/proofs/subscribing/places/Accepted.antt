-- What the place of an accepted Connect does to its client's connection and entries, and what it
-- sends.
use Rattle.std.proofs.Common.{◌≡◌, ◌≤◌, ℕ, suc, Bool, true, false, not, if◌then◌else◌, List, [], ◌∷◌, ◌++◌, length, map, Option, Some, None, refl, ap, sym, ◌∙◌, subst, ◌⊎◌, inl, inr, arith}
use Rattle.std.proofs.lemmas.List.{append-nil}
use Rattle.std.proofs.lemmas.Bool.{both_ways}
use Rattle.packet.specs.declared.connack.Connack.TheVariants as connacks
use Rattle.packet.specs.declared.packet.Packet.TheVariants as packets
use Rattle.broker_spec.specs.Connection.{ConnectionName, same_connection}
use Rattle.broker_spec.specs.Place.{Client, same_client, Mark, Place, Past, Limits, only_if}
use Rattle.broker_spec.specs.Sessions.{accepts, expels, ends_any, newest_connection, newest_clean_session, is_beginning, current_connection, clean_session_of, begins, in_session}
use Rattle.broker_spec.specs.Entries.{Entry}
use Rattle.broker_spec.specs.Readings.{released_below}
use Rattle.broker_spec.specs.Times.{start_all, started, window_at, entries_of}
use Rattle.broker_spec.specs.Sends.{resent_outputs}
use Rattle.broker_spec.specs.Answers.{welcome}
use Rattle.broker_spec.specs.AnswersInOrder.{answers_at}
use Rattle.broker_spec.specs.declared.command.Command.{Command}
use Rattle.broker_spec.specs.declared.command.Command.TheVariants as commands
use Rattle.broker_spec.proofs.ClientsInOrder.{same_self}
use Rattle.broker_spec.proofs.EntriesStartedBefore.{before_below}
use Rattle.broker_base.proofs.QueueAfter.{sound_entries}
use Rattle.exactly_once.specs.Handshake.{publishing, sender_resends}
use Rattle.exactly_once.specs.Sends.{sends_to}
use Rattle.exactly_once.specs.StoryCommands.{is_packet_of, packet_count}
use Rattle.exactly_once.specs.Inside.AsSubscriber.{items_of_entries, forward_of}
use Rattle.exactly_once.proofs.Starts.{rows_started}
use Rattle.exactly_once.proofs.Takes.{same_name_self}
use Rattle.exactly_once.proofs.subscribing.Resending.{forward_resent}
use Rattle.exactly_once.proofs.subscribing.events.OtherConnects.{at_connect, closed_none}
use Rattle.exactly_once.proofs.subscribing.places.Publishes.{skips}
use Rattle.exactly_once.proofs.subscribing.places.Quiet.{no_entries}

-- the place of the client's accepted Connect
abbrev pub at_accepted : ConnectionName → Client → Place
at_accepted y c = at_connect y c false Mark.Accepted

-- it is accepted
pub opened : (y : ConnectionName) (c : Client) → accepts (commands.Connect y c false) Mark.Accepted c ≡ Some (y, false)
opened y c = ap (λ b. only_if b (Some (y, false))) (same_self c)

-- and the current connection
pub accepted_current : (past : Past) (y : ConnectionName) (c : Client) → current_connection (at_accepted y c ∷ past) c ≡ Some y
unfolding current_connection
accepted_current past y c = ap (λ o. newest_connection o (ends_any (at_accepted y c) c (current_connection past c)) (current_connection past c)) (opened y c)

-- the flag of what is opened
abbrev flag_of : Option (ConnectionName × Bool) → Bool
flag_of (Some a) = a.1
flag_of None = false

-- its name
abbrev name_of : ConnectionName → Option (ConnectionName × Bool) → ConnectionName
name_of x (Some a) = a.0
name_of x None = x

-- a session that is not clean continues, or none was there
in_accepted : (o : Option (ConnectionName × Bool)) (y : ConnectionName) (expelled over : Bool) (session : Option Bool) (w n : ℕ) (current : Option ConnectionName) (es : List Entry)
    → o ≡ Some (y, false) → current ≡ Some y → ((session ≡ None) × (es ≡ [])) ⊎ (session ≡ Some false)
    → in_session (newest_clean_session o expelled over session) (is_beginning o session) [] (started w n current es) ≡ start_all w n [] es
in_accepted (Some (z, true)) y expelled over session w n current es e f h = absurd (both_ways true (ap flag_of e) refl)
in_accepted (Some (z, false)) y expelled over session w n None es e f h = absurd (cc)
in_accepted (Some (z, false)) y expelled over None w n (Some x) es e f (inl h) = sym (ap (start_all w n []) h.1)
in_accepted (Some (z, false)) y expelled over None w n (Some x) es e f (inr h) = absurd (cc)
in_accepted (Some (z, false)) y expelled over (Some true) w n (Some x) es e f (inl h) = absurd (cc)
in_accepted (Some (z, false)) y expelled over (Some true) w n (Some x) es e f (inr h) = absurd (cc)
in_accepted (Some (z, false)) y expelled over (Some false) w n (Some x) es e f h = refl
in_accepted None y expelled over session w n current es e f h = absurd (cc)

-- its entries continue, and what may starts
pub accepted_entries : (limits : Limits) (past : Past) (y : ConnectionName) (c : Client) → (clean_session_of past c ≡ None) ⊎ (clean_session_of past c ≡ Some false)
    → entries_of limits (at_accepted y c ∷ past) c ≡ start_all (window_at limits (at_accepted y c ∷ past)) (length past) [] (entries_of limits past c)
unfolding entries_of clean_session_of
accepted_entries limits past y c session =
    in_accepted (accepts (commands.Connect y c false) Mark.Accepted c) y (expels (commands.Connect y c false) c) (ends_any (at_accepted y c) c (current_connection past c)) (clean_session_of past c) (window_at limits (at_accepted y c ∷ past)) (length past)
    (current_connection (at_accepted y c ∷ past) c) (entries_of limits past c ++ []) (opened y c) (accepted_current past y c) (by session)
    ∙ ap (start_all (window_at limits (at_accepted y c ∷ past)) (length past) []) (append-nil (entries_of limits past c))
  where
    by : (clean_session_of past c ≡ None) ⊎ (clean_session_of past c ≡ Some false) → ((clean_session_of past c ≡ None) × (entries_of limits past c ++ [] ≡ [])) ⊎ (clean_session_of past c ≡ Some false)
    by (inl e) = inl (e, append-nil (entries_of limits past c) ∙ no_entries limits past c e)
    by (inr e) = inr e

-- what its connection is sent
pub accepted_sends : (limits : Limits) (past : Past) (y : ConnectionName) (c : Client) → (clean_session_of past c ≡ None) ⊎ (clean_session_of past c ≡ Some false)
    → forward_of (sends_to y (answers_at limits (at_accepted y c) past))
    ≡ sender_resends (released_below (length past) (entries_of limits past c)) (items_of_entries (entries_of limits past c))
    ++ map publishing (rows_started (window_at limits (at_accepted y c ∷ past)) [] (entries_of limits past c))
accepted_sends limits past y c session =
    let place = at_accepted y c in
    let n = length past in
    ap forward_of (closed_none y (current_connection past c) (welcome y (not (begins place past c)) ∷ resent_outputs y n (entries_of limits (place ∷ past) c)))
    ∙ skips y y (packets.Connack (connacks.Accepted (not (begins place past c)))) (resent_outputs y n (entries_of limits (place ∷ past) c)) (λ f. refl)
    ∙ ap (λ (l : List Entry). forward_of (sends_to y (resent_outputs y n l))) (accepted_entries limits past y c session)
    ∙ forward_resent y (window_at limits (place ∷ past)) n (entries_of limits past c) (before_below n (entries_of limits past c) (sound_entries limits past c).below)

-- ---- a connection on which a client is served has a Connect in the list

-- a place more counts no less
more_counted : (b : Bool) (n : ℕ) → 1 ≤ n → 1 ≤ (if b then suc n else n)
more_counted true n h = omega (arith, h)
more_counted false n h = h

-- an accepted Connect is counted
accepts_counted : (command : Command) (mark : Mark) (c : Client) (y : ConnectionName) (clean : Bool) (n : ℕ) → accepts command mark c ≡ Some (y, clean) → 1 ≤ (if is_packet_of command y then suc n else n)
accepts_counted (commands.Connect z d clean') Mark.Accepted c y clean n e = by (same_client d c) e
  where
    self : (z : ConnectionName) → same_connection z z ≡ true
    self z = same_name_self z

    found : Option (ConnectionName × Bool)
    found = Some (z, clean')

    by : (b : Bool) → only_if b found ≡ Some (y, clean) → 1 ≤ (if same_connection z y then suc n else n)
    by true e = let f : z ≡ y = ap (name_of z) e in subst (λ (b : Bool). 1 ≤ (if b then suc n else n)) (sym (ap (same_connection z) (sym f) ∙ self z)) (omega arith)
    by false e = absurd (cc)
accepts_counted _ _ c y clean n e = absurd (cc)

-- by what the place opens
served_by : (o : Option (ConnectionName × Bool)) (over : Bool) (old : Option ConnectionName) (x : ConnectionName) (b : Bool) (n : ℕ)
    → ((clean : Bool) → o ≡ Some (x, clean) → 1 ≤ (if b then suc n else n)) → (old ≡ Some x → 1 ≤ n) → newest_connection o over old ≡ Some x → 1 ≤ (if b then suc n else n)
served_by (Some (y, clean)) over old x b n f g e = f clean (let h : y ≡ x = cc in ap (λ z. Some (z, clean)) h)
served_by None true old x b n f g e = absurd (cc)
served_by None false old x b n f g e = more_counted b n (g e)

-- it has
pub served_counted : (past : Past) (c : Client) (x : ConnectionName) → current_connection past c ≡ Some x → 1 ≤ packet_count x past
unfolding current_connection
served_counted [] c x e = absurd (cc)
served_counted (place ∷ past) c x e =
    served_by (accepts place.command place.mark c) (ends_any place c (current_connection past c)) (current_connection past c) x (is_packet_of place.command x) (packet_count x past)
    (λ clean f. accepts_counted place.command place.mark c x clean (packet_count x past) f) (λ f. served_counted past c x f) e
