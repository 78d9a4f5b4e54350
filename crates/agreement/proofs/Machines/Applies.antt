-- Applies.antt: whatever a step does, its machine continues by the places that it newly applies.
use Rattle.std.proofs.Common.{◌≡◌, ℕ, ◌+◌, ◌<◌, ◌≤◌, ◌⊎◌, inl, inr, List, [], ◌∷◌, ◌++◌, length, take, drop, refl, ap, sym, ◌∙◌, subst, arith}
use Rattle.std.proofs.lemmas.Bool.{cases_lt}
use Rattle.std.proofs.lemmas.List.{take-take, take-append-drop, take-append-le, drop-append-le, length-take-le}
use Rattle.machine.specs.Machine.{Rules, replay_from}
use Rattle.agreement.specs.whole_logs.Application.{applied_to}
use Rattle.agreement.specs.whole_logs.Replica.{ReplicaState}
use Rattle.agreement.specs.whole_logs.StepOutcome.{Outcome}
use Rattle.agreement.specs.whole_logs.Service.{added, commit_at}
use Rattle.ballot_base.specs.Service.{least}
use Rattle.ballot_base.proofs.AppliesInOrder.{part_none, replay_from-append}
use Rattle.agreement.proofs.of_whole_logs.StepRows.{commit_at-stays, commit_at-goes, added-is}

-- a replica after a step has applied no less, and its machine has done the places that are new
pub record Applies {S C O : Type 0} (rules : Rules S C O) (old new : ReplicaState S C) : Type 0 where
  pub up : old.committed ≤ new.committed
  pub machine : new.machine ≡ replay_from rules old.machine (drop old.committed (take new.committed new.log))

-- nothing was applied
pub applies_nothing : {S C O : Type 0} (rules : Rules S C O) (old new : ReplicaState S C) → new.committed ≡ old.committed →
    new.machine ≡ old.machine → Applies rules old new
applies_nothing rules old new same still =
    record {
      up = omega (arith, same);
      machine = still ∙ sym (ap (replay_from rules old.machine)
          (ap (λ k. drop old.committed (take k new.log)) same ∙ part_none new.log old.committed));
    }

-- places up to a length were applied
pub applies_to : {S C O : Type 0} (rules : Rules S C O) (old r : ReplicaState S C) (held : ℕ) → r.committed ≡ old.committed → r.machine ≡ old.machine →
    old.committed ≤ held → Applies rules old (applied_to rules r held)
applies_to rules old r held same still up =
    record {
      up = up;
      machine = ap (λ t. replay_from rules t (drop r.committed (take held r.log))) still
          ∙ ap (λ k. replay_from rules old.machine (drop k (take held r.log))) same;
    }

-- a commit of a replica that applied as much before
pub commit_applies : {S C O : Type 0} (rules : Rules S C O) (old r : ReplicaState S C) (held : ℕ) → r.committed ≡ old.committed →
    r.machine ≡ old.machine → Applies rules old (commit_at rules r held).state
commit_applies {S = S} {C = C} {O = O} rules old r held same still = by_order (cases_lt r.committed held)
  where
    by_order : (r.committed < held) ⊎ (held ≤ r.committed) → Applies rules old (commit_at rules r held).state
    by_order (inl above) =
        subst (λ (o : Outcome S C O). Applies rules old o.state) (sym (commit_at-goes rules r held above))
        (applies_to rules old r held same still (omega (arith, same, above)))
    by_order (inr below) =
        subst (λ (o : Outcome S C O). Applies rules old o.state) (sym (commit_at-stays rules r held below))
        (applies_nothing rules old r same still)

-- a command that is added
pub added_applies : {S C O : Type 0} (rules : Rules S C O) (r : ReplicaState S C) (c : C) → Applies rules r (added rules r c).state
added_applies {S = S} {C = C} {O = O} rules r c =
    subst (λ (o : Outcome S C O). Applies rules r o.state) (sym (added-is rules r c))
    (commit_applies rules r (record r { log = r.log ++ c ∷ [] }) (least (length (r.log ++ c ∷ [])) r.progress) refl refl)

-- the places from one length to a third are those up to a second, and those after it
pub parts_join : {C : Type 0} (log : List C) (from mid to : ℕ) → from ≤ mid → mid ≤ to → mid ≤ length log →
    drop from (take to log) ≡ drop from (take mid log) ++ drop mid (take to log)
parts_join log from mid to low high within =
    let long = length-take-le mid log within in
    ap (drop from) (sym (take-append-drop mid (take to log))
    ∙ ap (λ us. us ++ drop mid (take to log)) (take-take mid to log high))
    ∙ drop-append-le from (take mid log) (drop mid (take to log)) (omega (arith, long, low))

-- a replica that applied its whole log, and then added a command
pub added_after : {S C O : Type 0} (rules : Rules S C O) (old x y : ReplicaState S C) (c : C) → old.committed ≤ length old.log →
    x.log ≡ old.log → x.committed ≡ length old.log → Applies rules old x → y.log ≡ old.log ++ c ∷ [] → Applies rules x y → Applies rules old y
added_after rules old x y c within log whole first more second =
    let front : take x.committed x.log ≡ take x.committed y.log =
    ap (take x.committed) log ∙ sym (ap (take x.committed) more ∙ take-append-le x.committed old.log (c ∷ []) (omega (arith, whole))) in
    let low = first.up in let high = second.up in
    let long : length y.log ≡ length old.log + 1 = ap length more ∙ length_pushed old.log c in
    record {
      up = omega (arith, low, high);
      machine = second.machine ∙ ap (λ t. replay_from rules t (drop x.committed (take y.committed y.log)))
          (first.machine ∙ ap (λ us. replay_from rules old.machine (drop old.committed us)) front)
          ∙ sym (replay_from-append rules old.machine (drop old.committed (take x.committed y.log)) (drop x.committed (take y.committed y.log)))
          ∙ ap (replay_from rules old.machine) (sym (parts_join y.log old.committed x.committed y.committed low high (omega (arith, whole, long))));
    }
  where
    length_pushed : {X : Type 0} (xs : List X) (x : X) → length (xs ++ x ∷ []) ≡ length xs + 1
    length_pushed [] x = refl
    length_pushed (z ∷ xs) x = let e = length_pushed xs x in omega (arith, e)
