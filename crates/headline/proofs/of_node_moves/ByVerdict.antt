-- A pipe whose bytes are read by the verdict on what is held: it gives the packets that were written, in order.
use Rattle.std.proofs.Common.{◌≡◌, ℕ, List, [], ◌∷◌, ◌++◌, Result, Ok, refl, ap, sym, ◌∙◌, subst, append_assoc}
use Rattle.packet_base.proofs.Growing.{StandsWithMore}
use Rattle.packet_base.specs.declared.stop.Stop.{Stop}
use Rattle.packet.specs.declared.packet.Packet.{Packet}
use Rattle.packet.specs.Verdict.{verdict}
use Rattle.packet.proofs.PacketReads.{verdict_again}
use Rattle.packet.proofs.MoreBytes.{verdict_grows}
use Rattle.headline.specs.node_moves.Pipe.{Joins, IsPiped}
use Rattle.headline.specs.node_moves.Ends.{stream_of}

no_packet : (p : Packet) (rest : List ℕ) → verdict [] ≡ Ok (p, rest) → ⊥
unfolding verdict
no_packet p rest e = cc

same_packet : (a b : Packet × List ℕ) → (let r : Result (Packet × List ℕ) Stop = Ok a in r) ≡ Ok b → a ≡ b
same_packet a b e = cc

longer_read : (held in_transit rest : List ℕ) (p : Packet) → verdict held ≡ Ok (p, rest) → verdict (held ++ in_transit) ≡ Ok (p, rest ++ in_transit)
longer_read held in_transit rest p e = subst (λ (r : Result (Packet × List ℕ) Stop). StandsWithMore in_transit r (verdict (held ++ in_transit))) e (verdict_grows held in_transit)

pub gives_next : (written read : List Packet) (held in_transit rest : List ℕ) (p : Packet) → IsPiped written read (stream_of held) in_transit → verdict held ≡ Ok (p, rest)
    → IsPiped written (read ++ p ∷ []) (stream_of rest) in_transit
gives_next written read held in_transit rest p h e = by h.rest h.is h.joined
  where
    whole : verdict (held ++ in_transit) ≡ Ok (p, rest ++ in_transit)
    whole = longer_read held in_transit rest p e

    by : (more : List Packet) → written ≡ read ++ more → Joins more (held ++ in_transit) → IsPiped written (read ++ p ∷ []) (stream_of rest) in_transit
    by [] is j = absurd (no_packet p (rest ++ in_transit) (sym (ap verdict j) ∙ whole))
    by (q ∷ more) is (front, left, sq, kq, eq, j) =
        let same = same_packet (p, rest ++ in_transit) (q, left) (sym whole ∙ ap verdict eq ∙ verdict_again q front left kq sq) in
        record {
          rest = more;
          is = is ∙ ap (λ (x : Packet × List ℕ). read ++ x.0 ∷ more) (sym same) ∙ sym (append_assoc read (p ∷ []) more);
          joined = subst (Joins more) (sym (ap (λ (x : Packet × List ℕ). x.1) same)) j;
          sound = refl;
        }
