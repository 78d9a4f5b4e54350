-- The entries of every past are of QoS 1 or 2, and the released ones of QoS 2.
use Rattle.std.proofs.Common.{◌≡◌, ℕ, Bool, true, false, not, ◌&&◌, ◌==◌, nat_lt, if◌then◌else◌, List, [], ◌∷◌, ◌++◌, length, map, Option, Some, None, refl, ◌⊎◌, inl, inr}
use Rattle.std.proofs.lemmas.Bool.{both_ways, cases_Bool}
use Rattle.packet_base.specs.declared.qos.QoS.{QoS}
use Rattle.packet_base.specs.declared.qos.QoS.TheVariants as qos_levels
use Rattle.packet.specs.declared.packet.Packet.TheVariants as packets
use Rattle.session_base.specs.declared.publication.Publication.{Publication}
use Rattle.session_base.specs.Publication.{is_qos1, is_answered}
use Rattle.session_base.specs.Identifiers.{least_free}
use Rattle.broker_spec.specs.Connection.{ConnectionName}
use Rattle.broker_spec.specs.Place.{Client, same_client, Mark, Past, Limits}
use Rattle.broker_spec.specs.Sessions.{current_connection, clean_session_of, begins, in_session}
use Rattle.broker_spec.specs.Entries.{Entry, copies_at, queued}
use Rattle.broker_spec.specs.Times.{at_puback, at_pubrec, at_pubcomp, answered_by, start_all, started, window_at, entries_of}
use Rattle.broker_spec.specs.declared.command.Command.{Command}
use Rattle.broker_spec.specs.declared.command.Command.TheVariants as commands
use Rattle.exactly_once.specs.Carried.{is_qos2}

-- each is of QoS 1 or 2, and a released one of QoS 2
abbrev pub AreKept : List Entry → Type 0
AreKept (Entry.Queued made p ∷ es) = (is_answered p.qos ≡ true) × AreKept es
AreKept (Entry.Sent made p id start ∷ es) = (is_answered p.qos ≡ true) × AreKept es
AreKept (Entry.Released made p id start release ∷ es) = (is_qos2 p.qos ≡ true) × AreKept es
AreKept (Entry.Done made p id start release finish ∷ es) = (is_answered p.qos ≡ true) × AreKept es
AreKept [] = Unit {0}

-- what is answered otherwise than by a PUBACK is of QoS 2
two_of : (q : QoS) → is_answered q ≡ true → is_qos1 q ≡ false → is_qos2 q ≡ true
two_of qos_levels.AtMostOnce a e = absurd (both_ways false refl a)
two_of qos_levels.AtLeastOnce a e = absurd (both_ways true e refl)
two_of qos_levels.ExactlyOnce a e = refl

-- QoS 2 is answered
pub two_answered : (q : QoS) → is_qos2 q ≡ true → is_answered q ≡ true
two_answered qos_levels.AtMostOnce e = absurd (both_ways false refl e)
two_answered qos_levels.AtLeastOnce e = refl
two_answered qos_levels.ExactlyOnce e = refl

-- PUBACK leaves it so
kept_puback : (n i : ℕ) (es : List Entry) → AreKept es → AreKept (map (at_puback n i) es)
kept_puback n i [] h = tt
kept_puback n i (Entry.Queued made p ∷ es) h = (h.0, kept_puback n i es h.1)
kept_puback n i (Entry.Sent made p id start ∷ es) h = by ((i == id) && is_qos1 p.qos) (kept_puback n i es h.1)
  where
    by : (b : Bool) → AreKept (map (at_puback n i) es) → AreKept ((if b then Entry.Done made p id start None n else Entry.Sent made p id start) ∷ map (at_puback n i) es)
    by true k = (h.0, k)
    by false k = (h.0, k)
kept_puback n i (Entry.Released made p id start release ∷ es) h = (h.0, kept_puback n i es h.1)
kept_puback n i (Entry.Done made p id start release finish ∷ es) h = (h.0, kept_puback n i es h.1)

-- the same for PUBREC
kept_pubrec : (n i : ℕ) (es : List Entry) → AreKept es → AreKept (map (at_pubrec n i) es)
kept_pubrec n i [] h = tt
kept_pubrec n i (Entry.Queued made p ∷ es) h = (h.0, kept_pubrec n i es h.1)
kept_pubrec n i (Entry.Sent made p id start ∷ es) h = by (i == id) (cases_Bool (is_qos1 p.qos)) (kept_pubrec n i es h.1)
  where
    by : (b : Bool) → (is_qos1 p.qos ≡ true) ⊎ (is_qos1 p.qos ≡ false) → AreKept (map (at_pubrec n i) es)
        → AreKept ((if b && not (is_qos1 p.qos) then Entry.Released made p id start n else Entry.Sent made p id start) ∷ map (at_pubrec n i) es)
    by true (inl e) k = rw e (h.0, k)
    by true (inr e) k = rw e (two_of p.qos h.0 e, k)
    by false e k = (h.0, k)
kept_pubrec n i (Entry.Released made p id start release ∷ es) h = (h.0, kept_pubrec n i es h.1)
kept_pubrec n i (Entry.Done made p id start release finish ∷ es) h = (h.0, kept_pubrec n i es h.1)

-- and PUBCOMP
kept_pubcomp : (n i : ℕ) (es : List Entry) → AreKept es → AreKept (map (at_pubcomp n i) es)
kept_pubcomp n i [] h = tt
kept_pubcomp n i (Entry.Queued made p ∷ es) h = (h.0, kept_pubcomp n i es h.1)
kept_pubcomp n i (Entry.Sent made p id start ∷ es) h = (h.0, kept_pubcomp n i es h.1)
kept_pubcomp n i (Entry.Released made p id start release ∷ es) h = by (i == id) (kept_pubcomp n i es h.1)
  where
    by : (b : Bool) → AreKept (map (at_pubcomp n i) es) → AreKept ((if b then Entry.Done made p id start (Some release) n else Entry.Released made p id start release) ∷ map (at_pubcomp n i) es)
    by true k = (two_answered p.qos h.0, k)
    by false k = (h.0, k)
kept_pubcomp n i (Entry.Done made p id start release finish ∷ es) h = (h.0, kept_pubcomp n i es h.1)

-- whether the answer is the client's or not
kept_if : (b : Bool) (es fs : List Entry) → AreKept es → AreKept fs → AreKept (if b then es else fs)
kept_if true es fs h g = h
kept_if false es fs h g = g

-- every answer leaves it so
pub kept_answered : (command : Command) (mark : Mark) (n : ℕ) (c : Client) (es : List Entry) → AreKept es → AreKept (answered_by command mark n c es)
kept_answered (commands.Packet x (packets.Puback i)) (Mark.Handled d) n c es h = kept_if (same_client d c) (map (at_puback n i) es) es (kept_puback n i es h) h
kept_answered (commands.Packet x (packets.Pubrec i)) (Mark.Handled d) n c es h = kept_if (same_client d c) (map (at_pubrec n i) es) es (kept_pubrec n i es h) h
kept_answered (commands.Packet x (packets.Pubcomp i)) (Mark.Handled d) n c es h = kept_if (same_client d c) (map (at_pubcomp n i) es) es (kept_pubcomp n i es h) h
kept_answered _ _ n c es h = h

-- what is queued is of QoS 1 or 2
pub kept_copies : (n : ℕ) (ps : List Publication) → AreKept (map (Entry.Queued n) (queued ps))
kept_copies n [] = tt
kept_copies n (p ∷ ps) = by (cases_Bool (is_answered p.qos)) (kept_copies n ps)
  where
    by : (is_answered p.qos ≡ true) ⊎ (is_answered p.qos ≡ false) → AreKept (map (Entry.Queued n) (queued ps)) → AreKept (map (Entry.Queued n) (if is_answered p.qos then p ∷ queued ps else queued ps))
    by (inl e) k = rw e (e, k)
    by (inr e) k = rw e k

-- two lists of such
pub kept_both : (es fs : List Entry) → AreKept es → AreKept fs → AreKept (es ++ fs)
kept_both [] fs h g = g
kept_both (Entry.Queued made p ∷ es) fs h g = (h.0, kept_both es fs h.1 g)
kept_both (Entry.Sent made p id start ∷ es) fs h g = (h.0, kept_both es fs h.1 g)
kept_both (Entry.Released made p id start release ∷ es) fs h g = (h.0, kept_both es fs h.1 g)
kept_both (Entry.Done made p id start release finish ∷ es) fs h g = (h.0, kept_both es fs h.1 g)

-- what starts was such
kept_starts : (w n : ℕ) (ids : List ℕ) (es : List Entry) → AreKept es → AreKept (start_all w n ids es)
kept_starts w n ids [] h = tt
kept_starts w n ids (Entry.Queued made p ∷ es) h = by (nat_lt (length ids) w) (kept_starts w n (least_free ids ∷ ids) es h.1)
  where
    by : (b : Bool) → AreKept (start_all w n (least_free ids ∷ ids) es)
        → AreKept (if b then Entry.Sent made p (least_free ids) n ∷ start_all w n (least_free ids ∷ ids) es else Entry.Queued made p ∷ es)
    by true k = (h.0, k)
    by false k = h
kept_starts w n ids (Entry.Sent made p id start ∷ es) h = (h.0, kept_starts w n (id ∷ ids) es h.1)
kept_starts w n ids (Entry.Released made p id start release ∷ es) h = (h.0, kept_starts w n (id ∷ ids) es h.1)
kept_starts w n ids (Entry.Done made p id start release finish ∷ es) h = (h.0, kept_starts w n ids es h.1)

-- in a session and on a connection
kept_in : (session : Option Bool) (beginning : Bool) (w n : ℕ) (current : Option ConnectionName) (es : List Entry) → AreKept es → AreKept (in_session session beginning [] (started w n current es))
kept_in None beginning w n current es h = tt
kept_in (Some clean) true w n current es h = tt
kept_in (Some clean) false w n None es h = h
kept_in (Some clean) false w n (Some x) es h = kept_starts w n [] es h

-- the entries of every past
pub kept_entries : (limits : Limits) (past : Past) (c : Client) → AreKept (entries_of limits past c)
unfolding entries_of
kept_entries limits [] c = tt
kept_entries limits (place ∷ past) c =
    kept_in (clean_session_of (place ∷ past) c) (begins place past c) (window_at limits (place ∷ past)) (length past) (current_connection (place ∷ past) c)
    (answered_by place.command place.mark (length past) c (entries_of limits past c) ++ map (Entry.Queued (length past)) (queued (copies_at place past c)))
    (kept_both (answered_by place.command place.mark (length past) c (entries_of limits past c)) (map (Entry.Queued (length past)) (queued (copies_at place past c)))
    (kept_answered place.command place.mark (length past) c (entries_of limits past c) (kept_entries limits past c)) (kept_copies (length past) (copies_at place past c)))
