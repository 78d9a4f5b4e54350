-- Packets that are written into a pipe come out of the cutter in order, however the bytes are cut.
use Rattle.std.proofs.Common.{◌≡◌, ℕ, List, [], ◌∷◌, ◌++◌, length, Some, Result, Ok, Err, refl, ap, sym, ◌∙◌, subst, append_assoc}
use Rattle.std.specs.Prelude.{slice_get}
use Rattle.std.proofs.lemmas.List.{append-nil, append_cancel_left}
use Rattle.std.proofs.lemmas.Bool.{both_ways}
use Rattle.packet_base.specs.declared.stop.Stop.{Stop}
use Rattle.packet_base.specs.declared.stop.Stop.TheVariants as stops
use Rattle.packet.specs.declared.packet.Packet.{Packet}
use Rattle.packet.specs.declared.error.DecodeFault.{DecodeFault}
use Rattle.packet.specs.declared.error.DecodeFault.TheVariants as faults
use Rattle.packet.specs.Spelling.{Spells, IsPacket}
use Rattle.packet.specs.Verdict.{verdict}
use Rattle.packet.proofs.PacketReads.{verdict_again}
use Rattle.packet.proofs.MoreBytes.{faults_stay_so}
use Rattle.packet.proofs.OneSpelling.{none_begins}
use Rattle.cutter.specs.Stream.{GoesOnWith, IsFault}
use Rattle.cutter.specs.declared.error.CutError.TheVariants as errors
use Rattle.headline.specs.node_moves.Pipe.{Joins, IsPiped, PipeGrows, PipeCarries, PipeGives, PipeGivesNext, PipeHasNoFault, PipeOpens}

-- ---- opening

pub pipe_opens : PipeOpens
pipe_opens = record { rest = []; is = refl; joined = refl; sound = refl }

-- ---- writing

joins_more : (ps : List Packet) (bytes more : List ℕ) (p : Packet) → Joins ps bytes → Spells p more → IsPacket p → Joins (ps ++ p ∷ []) (bytes ++ more)
joins_more [] bytes more p j s k = (more, [], s, k, ap (λ z. z ++ more) j ∙ sym (append-nil more), refl)
joins_more (q ∷ ps) bytes more p (front, rest, sq, kq, e, j) s k =
    (front, rest ++ more, sq, kq, ap (λ z. z ++ more) e ∙ append_assoc front rest more, joins_more ps rest more p j s k)

pub pipe_grows : PipeGrows
pipe_grows written handled s in_transit bytes p h spelled packet =
    record {
      rest = h.rest ++ p ∷ [];
      is = ap (λ z. z ++ p ∷ []) h.is ∙ append_assoc handled h.rest (p ∷ []);
      joined = subst (Joins (h.rest ++ p ∷ [])) (append_assoc s.bytes in_transit bytes) (joins_more h.rest (s.bytes ++ in_transit) bytes p h.joined spelled packet);
      sound = h.sound;
    }

pub pipe_carries : PipeCarries
pipe_carries written handled s piece in_transit h =
    record { rest = h.rest; is = h.is; joined = subst (Joins h.rest) (sym (append_assoc s.bytes piece in_transit)) h.joined; sound = h.sound }

-- ---- taking

no_bytes : (first : ℕ) (more : List ℕ) → first ∷ more ≡ [] → ⊥
no_bytes first more e = cc

nothing_there : (p : Packet) (front rest : List ℕ) → Spells p front → front ++ rest ≡ [] → ⊥
nothing_there p [] rest s e = let h = s.2 in cc
nothing_there p (first ∷ front) rest s e = no_bytes first (front ++ rest) e

pub pipe_gives : PipeGives
pipe_gives written handled s t in_transit p h takes = by h.rest h.is h.joined takes.2
  where
    by : (rest : List Packet) → written ≡ handled ++ rest → Joins rest (s.bytes ++ in_transit) → GoesOnWith s.bytes p t.bytes → IsPiped written (handled ++ p ∷ []) t in_transit
    by [] is j (front, sp, kp, e) =
        absurd (nothing_there p front (t.bytes ++ in_transit) sp (sym (append_assoc front t.bytes in_transit) ∙ ap (λ z. z ++ in_transit) (sym e) ∙ j))
    by (q ∷ rest) is (other, left, sq, kq, eq, j) (front, sp, kp, e) =
        let same : front ++ (t.bytes ++ in_transit) ≡ other ++ left = sym (append_assoc front t.bytes in_transit) ∙ ap (λ z. z ++ in_transit) (sym e) ∙ eq in
        let one = none_begins p q front other (t.bytes ++ in_transit) left kp kq sp sq same in
        let left_is : t.bytes ++ in_transit ≡ left = append_cancel_left front (t.bytes ++ in_transit) left (same ∙ ap (λ z. z ++ left) (sym one.1)) in
        record {
          rest = rest;
          is = is ∙ ap (λ x. handled ++ x ∷ rest) (sym one.0) ∙ sym (append_assoc handled (p ∷ []) rest);
          joined = subst (Joins rest) (sym left_is) j;
          sound = takes.3;
        }

-- ---- no fault

-- it is the one that comes after those handled
stands_next : (ps rest : List Packet) (p : Packet) → slice_get ((ps ++ p ∷ []) ++ rest) (length ps) ≡ Some p
stands_next [] rest p = refl
stands_next (q ∷ ps) rest p = stands_next ps rest p

pub pipe_gives_next : PipeGivesNext
pipe_gives_next written handled s t in_transit p piped takes =
    let after = pipe_gives written handled s t in_transit p piped takes in
    ap (λ l. slice_get l (length handled)) after.is ∙ stands_next handled after.rest p

abbrev pub fault_of : DecodeFault → Stop
fault_of (faults.Malformed kind) = stops.Malformed kind
fault_of (faults.Refused code) = stops.Refused code

fault_says : (fault : DecodeFault) (bytes : List ℕ) → IsFault fault bytes → verdict bytes ≡ Err (fault_of fault)
fault_says (faults.Malformed kind) bytes f = f.1
fault_says (faults.Refused code) bytes f = f

not_more : (fault : DecodeFault) → fault_of fault ≡ stops.More → ⊥
not_more (faults.Malformed kind) e = cc
not_more (faults.Refused code) e = cc

is_more : verdict [] ≡ Err stops.More
unfolding verdict
is_more = refl

same_stop : {A : Type 0} (x y : Stop) → (let a : Result A Stop = Err x in a) ≡ Err y → x ≡ y
same_stop x y e = cc

two_kinds : {A : Type 0} (a : A) (x : Stop) → (let b : Result A Stop = Ok a in b) ≡ Err x → ⊥
two_kinds a x e = cc

no_fault : (rest : List Packet) (held in_transit : List ℕ) (fault : DecodeFault) → Joins rest (held ++ in_transit) → IsFault fault held → ⊥
no_fault [] [] in_transit fault j f = not_more fault (same_stop (fault_of fault) stops.More (sym (fault_says fault [] f) ∙ is_more))
no_fault [] (first ∷ held) in_transit fault j f = no_bytes first (held ++ in_transit) j
no_fault (p ∷ rest) held in_transit fault (front, left, sp, kp, e, j) f =
    let stays = faults_stay_so held in_transit (fault_of fault) (not_more fault) (fault_says fault held f) in
    two_kinds (p, left) (fault_of fault) (sym (ap verdict e ∙ verdict_again p front left kp sp) ∙ stays)

pub pipe_has_no_fault : PipeHasNoFault
pipe_has_no_fault written handled s t in_transit (errors.Decode fault) h takes = absurd (no_fault h.rest s.bytes in_transit fault h.joined takes.1)
pipe_has_no_fault written handled s t in_transit errors.Memory h takes = refl
pipe_has_no_fault written handled s t in_transit errors.Failed h takes = absurd (both_ways s.failed h.sound takes.0)
