-- Entries that started below a place: answers and new entries keep them so.
use Rattle.std.proofs.Common.{ℕ, ◌<◌, Bool, true, false, not, ◌&&◌, ◌==◌, if◌then◌else◌, Some, None, List, [], ◌∷◌, ◌++◌, map}
use Rattle.packet.specs.declared.packet.Packet.TheVariants as packets
use Rattle.session_base.specs.declared.publication.Publication.{Publication}
use Rattle.session_base.specs.Publication.{is_qos1}
use Rattle.broker_spec.specs.Place.{Client, same_client, Mark}
use Rattle.broker_spec.specs.Entries.{Entry}
use Rattle.broker_spec.specs.Times.{at_puback, at_pubrec, at_pubcomp, answered_by}
use Rattle.broker_spec.specs.declared.command.Command.{Command}
use Rattle.broker_spec.specs.declared.command.Command.TheVariants as commands
use Rattle.broker_spec.proofs.SoundEntries.{IsBelow}

-- ---- entries that started below n

abbrev pub StartedBefore : ℕ → List Entry → Type 0
StartedBefore n (Entry.Sent made p id start ∷ es) = (start < n) × StartedBefore n es
StartedBefore n (_ ∷ es) = StartedBefore n es
StartedBefore n [] = Unit {0}

pub before_below : (n : ℕ) (es : List Entry) → IsBelow n es → StartedBefore n es
before_below n [] h = tt
before_below n (Entry.Queued made p ∷ es) h = before_below n es h.1
before_below n (Entry.Sent made p id start ∷ es) h = (h.1, before_below n es h.2)
before_below n (Entry.Released made p id start release ∷ es) h = before_below n es h.3
before_below n (Entry.Done made p id start release finish ∷ es) h = before_below n es h.1

before_puback : (n i : ℕ) (es : List Entry) → StartedBefore n es → StartedBefore n (map (at_puback n i) es)
before_puback n i [] h = tt
before_puback n i (Entry.Queued made p ∷ es) h = before_puback n i es h
before_puback n i (Entry.Sent made p id start ∷ es) h = one ((i == id) && is_qos1 p.qos) (before_puback n i es h.1)
  where
    one : (b : Bool) → StartedBefore n (map (at_puback n i) es) →
        StartedBefore n ((if b then Entry.Done made p id start None n else Entry.Sent made p id start) ∷ map (at_puback n i) es)
    one true k = k
    one false k = (h.0, k)
before_puback n i (Entry.Released made p id start release ∷ es) h = before_puback n i es h
before_puback n i (Entry.Done made p id start release finish ∷ es) h = before_puback n i es h

before_pubrec : (n i : ℕ) (es : List Entry) → StartedBefore n es → StartedBefore n (map (at_pubrec n i) es)
before_pubrec n i [] h = tt
before_pubrec n i (Entry.Queued made p ∷ es) h = before_pubrec n i es h
before_pubrec n i (Entry.Sent made p id start ∷ es) h = one ((i == id) && not (is_qos1 p.qos)) (before_pubrec n i es h.1)
  where
    one : (b : Bool) → StartedBefore n (map (at_pubrec n i) es) →
        StartedBefore n ((if b then Entry.Released made p id start n else Entry.Sent made p id start) ∷ map (at_pubrec n i) es)
    one true k = k
    one false k = (h.0, k)
before_pubrec n i (Entry.Released made p id start release ∷ es) h = before_pubrec n i es h
before_pubrec n i (Entry.Done made p id start release finish ∷ es) h = before_pubrec n i es h

before_pubcomp : (n i : ℕ) (es : List Entry) → StartedBefore n es → StartedBefore n (map (at_pubcomp n i) es)
before_pubcomp n i [] h = tt
before_pubcomp n i (Entry.Queued made p ∷ es) h = before_pubcomp n i es h
before_pubcomp n i (Entry.Sent made p id start ∷ es) h = (h.0, before_pubcomp n i es h.1)
before_pubcomp n i (Entry.Released made p id start release ∷ es) h = one (i == id) (before_pubcomp n i es h)
  where
    one : (b : Bool) → StartedBefore n (map (at_pubcomp n i) es) →
        StartedBefore n ((if b then Entry.Done made p id start (Some release) n else Entry.Released made p id start release) ∷ map (at_pubcomp n i) es)
    one true k = k
    one false k = k
before_pubcomp n i (Entry.Done made p id start release finish ∷ es) h = before_pubcomp n i es h

before_if : (n : ℕ) (b : Bool) (es fs : List Entry) → StartedBefore n es → StartedBefore n fs → StartedBefore n (if b then es else fs)
before_if n true es fs h k = h
before_if n false es fs h k = k

pub before_answered : (command : Command) (mark : Mark) (n : ℕ) (c : Client) (es : List Entry) → StartedBefore n es → StartedBefore n (answered_by command mark n c es)
before_answered (commands.Packet x (packets.Puback i)) (Mark.Handled d) n c es h = before_if n (same_client d c) _ _ (before_puback n i es h) h
before_answered (commands.Packet x (packets.Pubrec i)) (Mark.Handled d) n c es h = before_if n (same_client d c) _ _ (before_pubrec n i es h) h
before_answered (commands.Packet x (packets.Pubcomp i)) (Mark.Handled d) n c es h = before_if n (same_client d c) _ _ (before_pubcomp n i es h) h
before_answered _ _ n c es h = h

pub before_new : (n : ℕ) (es : List Entry) (ps : List Publication) → StartedBefore n es → StartedBefore n (es ++ map (Entry.Queued n) ps)
before_new n [] [] h = tt
before_new n [] (p ∷ ps) h = before_new n [] ps tt
before_new n (Entry.Queued made p ∷ es) ps h = before_new n es ps h
before_new n (Entry.Sent made p id start ∷ es) ps h = (h.0, before_new n es ps h.1)
before_new n (Entry.Released made p id start release ∷ es) ps h = before_new n es ps h
before_new n (Entry.Done made p id start release finish ∷ es) ps h = before_new n es ps h
