-- QoSOfEntries.antt: an entry is released only at QoS 2, and finished without a release only at QoS
-- 1.
use Rattle.std.proofs.Common.{◌≡◌, ℕ, Bool, true, false, not, ◌&&◌, ◌==◌, nat_lt, if◌then◌else◌, List, [], ◌∷◌, ◌++◌, length, map, Option, Some, None, refl}
use Rattle.std.specs.List.{AllByRecursion}
use Rattle.packet.specs.declared.packet.Packet.TheVariants as packets
use Rattle.session_base.specs.declared.publication.Publication.{Publication}
use Rattle.session_base.specs.Identifiers.{least_free}
use Rattle.session_base.specs.Publication.{is_qos1}
use Rattle.broker_spec.specs.Connection.{ConnectionName}
use Rattle.broker_spec.specs.Place.{Client, same_client, Mark}
use Rattle.broker_spec.specs.Sessions.{current_connection, clean_session_of, begins, in_session}
use Rattle.broker_spec.specs.Entries.{Entry, copies_at, queued}
use Rattle.broker_spec.specs.Times.{at_puback, at_pubrec, at_pubcomp, answered_by, start_all, started, window_at, entries_of}
use Rattle.core_tests.specs.Guards.{FitsItsQoS, EntriesFitTheirQoS}
use Rattle.broker_spec.specs.declared.command.Command.{Command}
use Rattle.broker_spec.specs.declared.command.Command.TheVariants as commands

abbrev AllFit : List Entry → Type 0
AllFit = AllByRecursion FitsItsQoS

-- ---- the client's answers

puback_fits : (n i : ℕ) (entry : Entry) → FitsItsQoS entry → FitsItsQoS (at_puback n i entry)
puback_fits n i (Entry.Queued made p) h = h
puback_fits n i (Entry.Sent made p id start) h = by (i == id) (is_qos1 p.qos) refl
  where
    by : (a b : Bool) → is_qos1 p.qos ≡ b → FitsItsQoS (if a && b then Entry.Done made p id start None n else Entry.Sent made p id start)
    by true true e = e
    by true false e = tt
    by false b e = tt
puback_fits n i (Entry.Released made p id start release) h = h
puback_fits n i (Entry.Done made p id start release finish) h = h

pubrec_fits : (n i : ℕ) (entry : Entry) → FitsItsQoS entry → FitsItsQoS (at_pubrec n i entry)
pubrec_fits n i (Entry.Queued made p) h = h
pubrec_fits n i (Entry.Sent made p id start) h = by (i == id) (is_qos1 p.qos) refl
  where
    by : (a b : Bool) → is_qos1 p.qos ≡ b → FitsItsQoS (if a && not b then Entry.Released made p id start n else Entry.Sent made p id start)
    by true true e = tt
    by true false e = e
    by false b e = tt
pubrec_fits n i (Entry.Released made p id start release) h = h
pubrec_fits n i (Entry.Done made p id start release finish) h = h

pubcomp_fits : (n i : ℕ) (entry : Entry) → FitsItsQoS entry → FitsItsQoS (at_pubcomp n i entry)
pubcomp_fits n i (Entry.Queued made p) h = h
pubcomp_fits n i (Entry.Sent made p id start) h = h
pubcomp_fits n i (Entry.Released made p id start release) h = by (i == id)
  where
    by : (a : Bool) → FitsItsQoS (if a then Entry.Done made p id start (Some release) n else Entry.Released made p id start release)
    by true = h
    by false = h
pubcomp_fits n i (Entry.Done made p id start release finish) h = h

each_fits : (f : Entry → Entry) → ((entry : Entry) → FitsItsQoS entry → FitsItsQoS (f entry)) → (entries : List Entry) → AllFit entries → AllFit (map f entries)
each_fits f to [] h = tt
each_fits f to (entry ∷ entries) h = (to entry h.0, each_fits f to entries h.1)

one_of : (b : Bool) (xs ys : List Entry) → AllFit xs → AllFit ys → AllFit (if b then xs else ys)
one_of true xs ys h k = h
one_of false xs ys h k = k

answered_fit : (command : Command) (mark : Mark) (n : ℕ) (c : Client) (entries : List Entry) → AllFit entries → AllFit (answered_by command mark n c entries)
answered_fit (commands.Packet x (packets.Puback i)) (Mark.Handled d) n c entries h =
    one_of (same_client d c) (map (at_puback n i) entries) entries (each_fits (at_puback n i) (puback_fits n i) entries h) h
answered_fit (commands.Packet x (packets.Pubrec i)) (Mark.Handled d) n c entries h =
    one_of (same_client d c) (map (at_pubrec n i) entries) entries (each_fits (at_pubrec n i) (pubrec_fits n i) entries h) h
answered_fit (commands.Packet x (packets.Pubcomp i)) (Mark.Handled d) n c entries h =
    one_of (same_client d c) (map (at_pubcomp n i) entries) entries (each_fits (at_pubcomp n i) (pubcomp_fits n i) entries h) h
answered_fit command mark n c entries h = h

-- ---- what is made and what starts

more_fit : (n : ℕ) (entries : List Entry) (ps : List Publication) → AllFit entries → AllFit (entries ++ map (Entry.Queued n) ps)
more_fit n [] [] h = tt
more_fit n [] (p ∷ ps) h = (tt, more_fit n [] ps h)
more_fit n (entry ∷ entries) ps h = (h.0, more_fit n entries ps h.1)

start_fits : (window n : ℕ) (busy : List ℕ) (entries : List Entry) → AllFit entries → AllFit (start_all window n busy entries)
start_fits window n busy [] h = tt
start_fits window n busy (Entry.Queued made p ∷ entries) h = by (nat_lt (length busy) window) (start_fits window n (least_free busy ∷ busy) entries h.1)
  where
    by : (b : Bool) → AllFit (start_all window n (least_free busy ∷ busy) entries) →
        AllFit (if b then Entry.Sent made p (least_free busy) n ∷ start_all window n (least_free busy ∷ busy) entries else Entry.Queued made p ∷ entries)
    by true rest = (tt, rest)
    by false rest = h
start_fits window n busy (Entry.Sent made p id start ∷ entries) h = (tt, start_fits window n (id ∷ busy) entries h.1)
start_fits window n busy (Entry.Released made p id start release ∷ entries) h = (h.0, start_fits window n (id ∷ busy) entries h.1)
start_fits window n busy (Entry.Done made p id start release finish ∷ entries) h = (h.0, start_fits window n busy entries h.1)

started_fit : (window n : ℕ) (current : Option ConnectionName) (entries : List Entry) → AllFit entries → AllFit (started window n current entries)
started_fit window n (Some x) entries h = start_fits window n [] entries h
started_fit window n None entries h = h

kept_fit : (session : Option Bool) (beginning : Bool) (entries : List Entry) → AllFit entries → AllFit (in_session session beginning [] entries)
kept_fit (Some clean) false entries h = h
kept_fit (Some clean) true entries h = tt
kept_fit None beginning entries h = tt

pub entries_fit_their_qos : EntriesFitTheirQoS
unfolding entries_of
entries_fit_their_qos limits [] c = tt
entries_fit_their_qos limits (place ∷ past) c =
    kept_fit (clean_session_of (place ∷ past) c) (begins place past c) _
    (started_fit (window_at limits (place ∷ past)) (length past) (current_connection (place ∷ past) c) _
    (more_fit (length past) (answered_by place.command place.mark (length past) c (entries_of limits past c)) (queued (copies_at place past c))
    (answered_fit place.command place.mark (length past) c (entries_of limits past c) (entries_fit_their_qos limits past c))))
