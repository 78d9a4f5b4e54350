-- The next packet that a client cuts off a connection is the next of the answers to it.
use Rattle.std.proofs.Common.{◌≡◌, ℕ, false, List, [], ◌∷◌, ◌++◌, length, Some, Ok, ap, sym, ◌∙◌, append_assoc}
use Rattle.std.specs.Prelude.{slice_get}
use Rattle.std.proofs.lemmas.List.{append_cancel_left}
use Rattle.lists.specs.Lists.{Each, IsPrefixOf}
use Rattle.packet.specs.declared.packet.Packet.{Packet}
use Rattle.packet.specs.Spelling.{IsPacket, Spells, spelling}
use Rattle.packet.proofs.OneSpelling.{none_begins, spelling_is}
use Rattle.cutter.specs.Stream.{GoesOnWith, Stream, Takes}
use Rattle.headline.specs.node_moves.Puts.{spelled}

no_bytes : (first : ℕ) (more : List ℕ) → first ∷ more ≡ [] → ⊥
no_bytes first more e = cc

-- a packet has bytes
has_bytes : (p : Packet) (front rest : List ℕ) → Spells p front → front ++ rest ≡ [] → ⊥
has_bytes p [] rest spells e = let h = spells.2 in cc
has_bytes p (first ∷ front) rest spells e = no_bytes first (front ++ rest) e

after : (p : Packet) (handled : List Packet) (held rest : List ℕ) → (spelled (p ∷ handled) ++ held) ++ rest ≡ spelling p ++ ((spelled handled ++ held) ++ rest)
after p handled held rest =
    ap (λ l. l ++ rest) (append_assoc (spelling p) (spelled handled) held) ∙ append_assoc (spelling p) (spelled handled ++ held) rest

next_of : (handled put : List Packet) (held rest left : List ℕ) (packet : Packet) → Each IsPacket handled → Each IsPacket put → spelled put ≡ (spelled handled ++ held) ++ rest
    → GoesOnWith held packet left → slice_get put (length handled) ≡ Some packet
next_of [] [] held rest left packet whole fits e (front, spells, is_packet, begins) =
    absurd (has_bytes packet front (left ++ rest) spells (sym (append_assoc front left rest) ∙ ap (λ l. l ++ rest) (sym begins) ∙ sym e))
next_of [] (q ∷ put) held rest left packet whole fits e (front, spells, is_packet, begins) =
    ap (λ (z : Packet). Some z)
    (none_begins q packet (spelling q) front (spelled put) (left ++ rest) fits.0 is_packet (spelling_is q fits.0).0 spells
    (e ∙ ap (λ l. l ++ rest) begins ∙ append_assoc front left rest)).0
next_of (p ∷ handled) [] held rest left packet whole fits e goes =
    absurd (has_bytes p (spelling p) ((spelled handled ++ held) ++ rest) (spelling_is p whole.0).0 (sym (after p handled held rest) ∙ sym e))
next_of (p ∷ handled) (q ∷ put) held rest left packet whole fits e goes =
    let one = none_begins p q (spelling p) (spelling q) ((spelled handled ++ held) ++ rest) (spelled put) whole.0 fits.0 (spelling_is p whole.0).0 (spelling_is q fits.0).0
    (sym (after p handled held rest) ∙ sym e) in
    next_of handled put held rest left packet whole.1 fits.1
    (append_cancel_left (spelling q) (spelled put) ((spelled handled ++ held) ++ rest) (e ∙ after p handled held rest ∙ ap (λ l. l ++ ((spelled handled ++ held) ++ rest)) one.1)) goes

-- if what was handled, spelled, with the bytes that came and those in transit, is a prefix of the
-- spelled answers
pub next_answer : (handled put : List Packet) (came left : Stream) (down : List ℕ) (packet : Packet) → Each IsPacket handled → Each IsPacket put → came.failed ≡ false
    → IsPrefixOf (spelled handled ++ (came.bytes ++ down)) (spelled put) → Takes came (Ok (Some packet)) left → slice_get put (length handled) ≡ Some packet
next_answer handled put came left down packet whole fits sound front takes =
    next_of handled put came.bytes (down ++ front.rest) left.bytes packet whole fits
    (front.is ∙ ap (λ l. l ++ front.rest) (sym (append_assoc (spelled handled) came.bytes down)) ∙ append_assoc (spelled handled ++ came.bytes) down front.rest) takes.2
