-- What more bytes change of a verdict: nothing, unless the bytes were too few.
use Rattle.std.proofs.Common.{◌≡◌, ◌≢◌, ℕ, ◌≤◌, Bool, true, false, leb, List, [], ◌∷◌, ◌++◌, length, take, drop, Result, Ok, Err, refl, sym, ap, ◌∙◌, arith}
use Rattle.std.proofs.lemmas.Bool.{le-leb, leb-true}
use Rattle.std.proofs.lemmas.List.{append-nil, length-append, take-append-le, drop-append-le}
use Rattle.packet_base.specs.declared.stop.Stop.{Stop}
use Rattle.packet_base.specs.declared.stop.Stop.TheVariants as stops
use Rattle.packet_base.specs.declared.header.Header.{Header}
use Rattle.packet_base.specs.Header.{header_of}
use Rattle.packet_base.specs.Readers.{◌>>=◌, ◌>>◌, check, length_at}
use Rattle.packet_base.proofs.Growing.{StandsWithMore, grows_check, grows_same, grows_then, length_grows}
use Rattle.packet.specs.declared.packet.Packet.{Packet}
use Rattle.packet.specs.Spelling.{max_body}
use Rattle.packet.specs.Verdict.{body_of, verdict}
use Rattle.packet.specs.Theorems.{FrontsAreUnfinished, FaultsStay}
use Rattle.packet.proofs.PacketReads.{verdict_again}
use Rattle.packet.proofs.After.{ok_is}

-- a body that is there, with more bytes after it
body_there : (more : List ℕ) (h : Header) (n : ℕ) (rest : List ℕ) → n ≤ length rest
    → StandsWithMore more
    (body_of h (take n rest) >>= (λ p. Ok (p, drop n rest)))
    (body_of h (take n (rest ++ more)) >>= (λ p. Ok (p, drop n (rest ++ more))))
body_there more h n rest there =
    rw (take-append-le n rest more there, drop-append-le n rest more there)
    (grows_same more (body_of h (take n rest)) _ _ (λ p _. refl))

-- a body that may not be there yet
body_grows : (more : List ℕ) (h : Header) (n : ℕ) (rest : List ℕ) (b : Bool) → leb n (length rest) ≡ b
    → StandsWithMore more
    (check b stops.More >> (body_of h (take n rest) >>= (λ p. Ok (p, drop n rest))))
    (check (leb n (length (rest ++ more))) stops.More >> (body_of h (take n (rest ++ more)) >>= (λ p. Ok (p, drop n (rest ++ more)))))
body_grows more h n rest true e =
    let there : n ≤ length rest = leb-true n (length rest) e in
    let longer : leb n (length (rest ++ more)) ≡ true = le-leb _ _ (omega (arith, there, length-append rest more)) in
    rw longer (body_there more h n rest there)
body_grows more h n rest false e = tt

pub verdict_grows : (bytes more : List ℕ) → StandsWithMore more (verdict bytes) (verdict (bytes ++ more))
unfolding verdict
verdict_grows [] more = tt
verdict_grows (first ∷ bytes) more =
    grows_same more (header_of first) _ _ (λ h _.
    grows_then more (length_at 3 bytes) (length_at 3 (bytes ++ more)) _ _ (length_grows 3 bytes more) (λ n rest.
    grows_check more (leb n max_body) _ _ _ (λ _.
    body_grows more h n rest (leb n (length rest)) refl)))

abbrev failed : Stop → Result (Packet × List ℕ) Stop
failed stop = Err stop

err_is : (s t : Stop) → failed s ≡ failed t → s ≡ t
err_is s t e = cc

fault_grows : (more : List ℕ) (r longer : Result (Packet × List ℕ) Stop) (stop : Stop) → StandsWithMore more r longer → stop ≢ stops.More → r ≡ Err stop → longer ≡ Err stop
fault_grows more (Ok x) longer stop grows fault e = absurd cc
fault_grows more (Err stops.More) longer stop grows fault e = absurd (fault (err_is stop stops.More (sym e)))
fault_grows more (Err (stops.Malformed kind)) longer stop grows fault e = grows ∙ e
fault_grows more (Err (stops.Refused code)) longer stop grows fault e = grows ∙ e

pub faults_stay_so : FaultsStay
faults_stay_so bytes more stop fault e = fault_grows more (verdict bytes) (verdict (bytes ++ more)) stop (verdict_grows bytes more) fault e

-- what becomes a packet with nothing after it, once more bytes have come, is unfinished
unfinished : (next : ℕ) (more : List ℕ) (p : Packet) (r longer : Result (Packet × List ℕ) Stop) → StandsWithMore (next ∷ more) r longer → longer ≡ Ok (p, []) → r ≡ Err stops.More
unfinished next more p (Ok x) longer grows whole =
    let same = ok_is (x.0, x.1 ++ next ∷ more) (p, []) (sym grows ∙ whole) in
    let left : x.1 ++ next ∷ more ≡ [] = ap (λ (y : Packet × List ℕ). y.1) same in
    absurd (omega (arith, ap length left, length-append x.1 (next ∷ more)))
unfinished next more p (Err stops.More) longer grows whole = refl
unfinished next more p (Err (stops.Malformed kind)) longer grows whole = absurd cc
unfinished next more p (Err (stops.Refused code)) longer grows whole = absurd cc

pub fronts_unfinished : FrontsAreUnfinished
fronts_unfinished p front more next is spelled =
    let all = front ++ next ∷ more in
    let whole : verdict all ≡ Ok (p, []) = ap verdict (sym (append-nil all)) ∙ verdict_again p all [] is spelled in
    unfinished next more p (verdict front) (verdict all) (verdict_grows front (next ∷ more)) whole
