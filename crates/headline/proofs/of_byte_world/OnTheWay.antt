-- The bytes of a connection in transit: packets that are written, and packets that are handled.
use Rattle.std.proofs.Common.{◌≡◌, ℕ, suc, false, List, [], ◌∷◌, ◌++◌, length, drop, refl, sym, ap, ◌∙◌, subst, append_assoc, length-append, arith}
use Rattle.std.proofs.lemmas.List.{append-nil}
use Rattle.packet.specs.Spelling.{IsPacket, spelling}
use Rattle.packet.specs.declared.packet.Packet.{Packet}
use Rattle.packet.proofs.OneSpelling.{spelling_is}
use Rattle.client_base.specs.Keeper.{Written}
use Rattle.cutter.specs.Stream.{GoesOnWith, Stream}
use Rattle.lists.specs.Lists.{Each}
use Rattle.lists.proofs.OfEach.{each_append}
use Rattle.headline.specs.node_moves.Pipe.{Joins}
use Rattle.headline.specs.node_moves.Puts.{spelled}
use Rattle.exactly_once.specs.Sides.{ClientConnection}
use Rattle.headline.specs.byte_world.World.{newly_written, packets_of}

-- ---- packets as bytes

-- more packets are written after
pub joins_more : (ps qs : List Packet) (bytes : List ℕ) → Each IsPacket qs → Joins ps bytes → Joins (ps ++ qs) (bytes ++ spelled qs)
joins_more [] [] bytes whole j = append-nil bytes ∙ j
joins_more [] (q ∷ qs) bytes whole j =
    (spelling q, spelled qs, (spelling_is q whole.0).0, whole.0, ap (λ l. l ++ spelled (q ∷ qs)) j, joins_more [] qs [] whole.1 refl)
joins_more (p ∷ ps) qs bytes whole (front, rest, sp, kp, e, j) =
    (front, rest ++ spelled qs, sp, kp, ap (λ l. l ++ spelled qs) e ∙ append_assoc front rest (spelled qs), joins_more ps qs rest whole j)

spelled_push : (ps : List Packet) (p : Packet) → spelled (ps ++ p ∷ []) ≡ spelled ps ++ spelling p
spelled_push [] p = append-nil (spelling p)
spelled_push (q ∷ ps) p = ap (λ l. spelling q ++ l) (spelled_push ps p) ∙ sym (append_assoc (spelling q) (spelled ps) (spelling p))

-- ---- up: the packets that were written are those whose bytes came up, and the bytes in transit

-- more is written: its bytes go after those in transit
pub written_up : (written more : List Packet) (came up : List ℕ) → Each IsPacket more → Joins written (came ++ up) → Joins (written ++ more) (came ++ (up ++ spelled more))
written_up written more came up whole j = subst (Joins (written ++ more)) (append_assoc came up (spelled more)) (joins_more written more (came ++ up) whole j)

-- a piece comes up
pub piece_up : (written : List Packet) (came piece rest up : List ℕ) → up ≡ piece ++ rest → Joins written (came ++ up) → Joins written ((came ++ piece) ++ rest)
piece_up written came piece rest up e j = subst (Joins written) (ap (λ l. came ++ l) e ∙ sym (append_assoc came piece rest)) j

-- ---- down: the packets that were handled, what is not cut yet, and what is in transit, are all
-- that went down

pub record IsHandled (count : ℕ) (came : Stream) (down went : List ℕ) : Type 0 where
  pub handled : List Packet
  pub counted : length handled ≡ count
  pub whole : Each IsPacket handled
  pub is : spelled handled ++ (came.bytes ++ down) ≡ went
  pub sound : came.failed ≡ false

-- more goes down
pub more_down : (count : ℕ) (came : Stream) (down went more : List ℕ) → IsHandled count came down went → IsHandled count came (down ++ more) (went ++ more)
more_down count came down went more h =
    record {
      handled = h.handled;
      counted = h.counted;
      whole = h.whole;
      is = ap (λ l. spelled h.handled ++ l) (sym (append_assoc came.bytes down more)) ∙ sym (append_assoc (spelled h.handled) (came.bytes ++ down) more) ∙ ap (λ l. l ++ more) h.is;
      sound = h.sound;
    }

-- a piece comes to the client
pub piece_down : (count : ℕ) (came : Stream) (down piece rest went : List ℕ) → down ≡ piece ++ rest → IsHandled count came down went
    → IsHandled count (record came { bytes = came.bytes ++ piece }) rest went
piece_down count came down piece rest went e h =
    record {
      handled = h.handled;
      counted = h.counted;
      whole = h.whole;
      is = ap (λ l. spelled h.handled ++ l) (append_assoc came.bytes piece rest ∙ ap (λ l. came.bytes ++ l) (sym e)) ∙ h.is;
      sound = h.sound;
    }

-- the next packet is handled
pub one_handled : (count : ℕ) (came left : Stream) (down went : List ℕ) (packet : Packet) → GoesOnWith came.bytes packet left.bytes → left.failed ≡ false → IsHandled count came down went
    → IsHandled (suc count) left down went
one_handled count came left down went packet (front, sp, kp, e) sound h =
    let long = length-append h.handled (packet ∷ []) in
    let counted = h.counted in
    let same : front ≡ spelling packet = (spelling_is packet kp).1 front sp in
    record {
      handled = h.handled ++ packet ∷ [];
      counted = omega (arith, long, counted);
      whole = each_append IsPacket h.handled (packet ∷ []) h.whole (kp, tt);
      is = ap (λ l. l ++ (left.bytes ++ down)) (spelled_push h.handled packet)
          ∙ append_assoc (spelled h.handled) (spelling packet) (left.bytes ++ down)
          ∙ ap (λ l. spelled h.handled ++ l) (sym (append_assoc (spelling packet) left.bytes down) ∙ ap (λ l. l ++ down) (sym (e ∙ ap (λ l. l ++ left.bytes) same)))
          ∙ h.is;
      sound = sound;
    }

-- ---- what is newly written

dropped : {X : Type 0} (xs ys : List X) → drop (length xs) (xs ++ ys) ≡ ys
dropped [] ys = refl
dropped (x ∷ xs) ys = dropped xs ys

packets_joined : (xs ys : List Written) → packets_of (xs ++ ys) ≡ packets_of xs ++ packets_of ys
packets_joined [] ys = refl
packets_joined (x ∷ xs) ys = ap (λ l. x.packet ∷ l) (packets_joined xs ys)

pub newly_is : (κ later : ClientConnection) (others more : List ClientConnection) (new : List Written) → later.written ≡ κ.written ++ new
    → newly_written (κ ∷ others) (later ∷ more) ≡ packets_of new
newly_is κ later others more new e = ap packets_of (ap (drop (length κ.written)) e ∙ dropped κ.written new)

pub packets_after : (κ later : ClientConnection) (new : List Written) → later.written ≡ κ.written ++ new → packets_of later.written ≡ packets_of κ.written ++ packets_of new
packets_after κ later new e = ap packets_of e ∙ packets_joined κ.written new
