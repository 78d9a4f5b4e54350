-- Every list of bytes is cut into packets and a rest, and after the last whole packet all were
-- given.
use Rattle.std.proofs.Common.{◌≡◌, ◌≤◌, ℕ, zero, suc, List, [], ◌∷◌, ◌++◌, length, Result, Ok, Err, refl, sym, ap, ◌∙◌, subst, arith, length-append}
use Rattle.std.specs.Prelude.{IfOk}
use Rattle.packet_base.specs.declared.stop.Stop.{Stop}
use Rattle.packet.specs.declared.packet.Packet.{Packet}
use Rattle.packet.specs.Theorems.{NoneBeginsAnother}
use Rattle.packet.specs.Spelling.{Spells}
use Rattle.packet.specs.Verdict.{verdict}
use Rattle.packet.proofs.PacketReads as reads
use Rattle.packet.proofs.PacketReads.{verdict_found, verdict_again}
use Rattle.cutter.specs.Stream.{HasNoFront, CutsInto}
use Rattle.packet_base.specs.Readers.{AreBytes}
use Rattle.cutter.specs.Theorems.{EveryStreamIsCut, NoPacketIsLeft, CuttingsAgree}
use Rattle.cutter.proofs.OneWay.{Begins, ran-begins, one-way}

-- ---- if the verdict is no packet, there is none at the front

two_kinds : {A E : Type 0} (a : A) (x : E) → (let b : Result A E = Ok a in b) ≡ Err x → ⊥
two_kinds a x e = cc

no_front : (bytes : List ℕ) (stop : Stop) → verdict bytes ≡ Err stop → HasNoFront bytes
no_front bytes stop e packet rest (front, spelled, whole, parts) =
    two_kinds (packet, rest) stop (sym (ap verdict parts ∙ verdict_again packet front rest whole spelled) ∙ e)

-- ---- every stream

-- a spelling has a byte
has_byte : (p : Packet) (front : List ℕ) → Spells p front → 1 ≤ length front
has_byte p [] s = let h = s.2 in cc
has_byte p (first ∷ front) s = omega arith

bytes_after : (front rest : List ℕ) → AreBytes (front ++ rest) → AreBytes rest
bytes_after [] rest fits = fits
bytes_after (first ∷ front) rest fits = bytes_after front rest (λ i. fits (suc i))

-- the bytes are cut
abbrev pub IsCut : List ℕ → Type 0
IsCut bytes = (packets : List Packet) × (rest : List ℕ) × CutsInto bytes packets rest

cut_none : (bytes : List ℕ) → length bytes ≤ 0 → (r : Result (Packet × List ℕ) Stop) → verdict bytes ≡ r
    → IfOk r (λ x. reads.Begins bytes x.0 x.1) → IsCut bytes
cut_none bytes few (Err stop) e found = ([], bytes, (refl, no_front bytes stop e))
cut_none bytes few (Ok (p, rest)) e found =
    let some = has_byte p found.front found.spelled in
    absurd (omega (arith, some, few, ap length found.parts, length-append found.front rest))

cut_more : (fuel : ℕ) → ((rest : List ℕ) → AreBytes rest → length rest ≤ fuel → IsCut rest)
    → (bytes : List ℕ) → AreBytes bytes → length bytes ≤ suc fuel → (r : Result (Packet × List ℕ) Stop) → verdict bytes ≡ r
    → IfOk r (λ x. reads.Begins bytes x.0 x.1) → IsCut bytes
cut_more fuel again bytes fits few (Err stop) e found = ([], bytes, (refl, no_front bytes stop e))
cut_more fuel again bytes fits few (Ok (p, rest)) e found =
    let some = has_byte p found.front found.spelled in
    let fewer : length rest ≤ fuel = omega (arith, some, few, ap length found.parts, length-append found.front rest) in
    let more = again rest (bytes_after found.front rest (subst AreBytes found.parts fits)) fewer in
    (p ∷ more.0, more.1, (rest, (found.front, found.spelled, found.whole, found.parts), more.2))

cut_from : (fuel : ℕ) (bytes : List ℕ) → AreBytes bytes → length bytes ≤ fuel → IsCut bytes
cut_from zero bytes fits few = cut_none bytes few (verdict bytes) refl (verdict_found bytes fits)
cut_from (suc fuel) bytes fits few =
    cut_more fuel (cut_from fuel) bytes fits few (verdict bytes) refl (verdict_found bytes fits)

pub every_stream : EveryStreamIsCut
every_stream bytes fits = cut_from (length bytes) bytes fits (omega arith)

-- ---- all packets were given

cuts_of : (bytes : List ℕ) (packets : List Packet) (held : List ℕ) → Begins bytes packets held → HasNoFront held → CutsInto bytes packets held
cuts_of bytes [] held b none = (b, none)
cuts_of bytes (p ∷ ps) held (left, goes, more) none = (left, goes, cuts_of left ps held more none)

pub none_left : NoPacketIsLeft
none_left fed given s t ran takes = cuts_of fed given s.bytes (ran-begins fed given s ran) (no_front s.bytes _ takes.1)

pub cuttings_agree : NoneBeginsAnother → CuttingsAgree
cuttings_agree law fed given others s t u v ran takes ran' takes' =
    one-way law fed given others s.bytes u.bytes (none_left fed given s t ran takes) (none_left fed others u v ran' takes')
