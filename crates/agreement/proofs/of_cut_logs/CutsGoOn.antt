-- CutsGoOn.antt: a cut changes nothing on whole logs, and keeps what holds; and so whatever happens to a node.
use Rattle.std.proofs.Common.{◌≡◌, ℕ, zero, suc, ◌≤◌, ◌⊎◌, inl, inr, false, cond, List, [], ◌∷◌, ◌++◌, length, map, take, set, Some, refl, ap, ap₂, sym, ◌∙◌, subst, arith}
use Rattle.std.specs.Prelude.{slice_get, ◌==◌}
use Rattle.std.proofs.lemmas.Bool.{cases_eq}
use Rattle.std.proofs.lemmas.List.{append-nil}
use Rattle.machine.specs.Machine.{Rules, replay}
use Rattle.lists.specs.Lists.{In, IsPrefixOf}
use Rattle.lists.proofs.Prefixes.{prefix_length, take_prefix}
use Rattle.lists.proofs.Places.{get_set, get_set_other}
use Rattle.ballot_base.specs.declared.config.Config.{Config}
use Rattle.agreement.specs.whole_logs.Messages.{Message as WholeMessage}
use Rattle.agreement.specs.whole_logs.Replica.{ReplicaState as WholeState}
use Rattle.agreement.specs.Agreement.{Agrees, Holds}
use Rattle.agreement.specs.LeftOutputs.{LeftInOrder}
use Rattle.agreement.specs.MasterState.{MasterState}
use Rattle.agreement.specs.Moments.{Moment, Moments, IsAgreed}
use Rattle.agreement.specs.Steps.MayHappen.{node_stops}
use Rattle.agreement.specs.World.{GroupWorld as WholeWorld}
use Rattle.agreement.proofs.Agreed.MomentsAgree.{has_agreed, machines_replay, nodes_agree}
use Rattle.ballot_base.specs.Logs.{Log, places}
use Rattle.agreement.specs.cut_logs.Whole.{whole_log, whole}
use Rattle.ballot_base.specs.declared.message.Body.{Body}
use Rattle.ballot_base.specs.declared.message.Body.TheVariants.{NewBallot, Join, State, Install, Installed, Activate, Activated, Superseded, Append, Held, Commit}
use Rattle.ballot_base.specs.Replica.{ReplicaState}
use Rattle.ballot_base.specs.Compaction.{cut}
use Rattle.ballot_base.specs.Losses.{halted}
use Rattle.agreement.specs.cut_logs.World.{CutGroupWorld, NodeGoes, moved, recorded, whole_sent, whole_world}
use Rattle.agreement.specs.cut_logs.World.NodeGoes.{takes, stops, cuts}
use Rattle.agreement.specs.cut_logs.NodeOutputs.{given_by_node}
use Rattle.agreement.specs.cut_logs.Proposals.{proposed_to, taken_as, taken_by_node}
use Rattle.agreement.proofs.of_cut_logs.Agreed.{WasApplied}
use Rattle.agreement.proofs.of_cut_logs.Cuts.{IsWithin, Recorded, body_stays, is_recorded, map_alike, map_alike_at, recorded_longer}
use Rattle.agreement.proofs.of_cut_logs.Fronts.{whole_long}
use Rattle.agreement.proofs.of_cut_logs.GoesOn.{held_within, lost, takes_on}
use Rattle.agreement.proofs.of_cut_logs.Continues.{none_more}
use Rattle.agreement.proofs.of_cut_logs.Adds.{Added, Adds, StepAdds, added_by_node, added_whole, adds_as, adds_nothing, nothing_added, proposed_whole, taken_whole}
use Rattle.agreement.proofs.of_cut_logs.Kept.{Carries, GoesOn, IsSnapshot, Kept, KeptWith}
use Rattle.agreement.proofs.of_cut_logs.LogsGoOn.{moment}
use Rattle.agreement.proofs.of_cut_logs.Taking.{cut_stays, longer_record}
use Rattle.agreement.proofs.of_cut_logs.Views.{get_whole, map_set, moved_whole, outputs_whole}

set_there : {X : Type 0} (xs : List X) (n : ℕ) (x : X) → slice_get xs n ≡ Some x → set xs n x ≡ xs
set_there [] n x e = refl
set_there (y ∷ xs) zero x e = let h : x ≡ y = cc in ap (λ z. z ∷ xs) h
set_there (y ∷ xs) (suc n) x e = ap (λ zs. y ∷ zs) (set_there xs n x e)

-- a longer record
snapshot_longer : {S C O : Type 0} (rules : Rules S C O) (archive more : List C) (log : Log C) → IsPrefixOf archive more →
    IsSnapshot rules archive log → IsSnapshot rules more log
snapshot_longer rules archive more log p s =
    record {
      within = (let a = s.within in let b = prefix_length p in omega (arith, a, b));
      read = λ up. s.read up ∙ ap (λ us. Some (replay rules us)) (sym (take_prefix log.base p s.within));
      bytes = λ up. s.bytes up ∙ ap (λ us. rules.frozen (replay rules us)) (sym (take_prefix log.base p s.within));
    }

carries_longer : {S C O : Type 0} (rules : Rules S C O) (moments : List (Moment S C O)) (archive more : List C) (body : Body C) → IsPrefixOf archive more →
    Carries rules moments archive body → Carries rules moments more body
carries_longer {C = C} rules moments archive more (State b log) p (s, was) =
    (snapshot_longer rules archive more log p s, λ up. subst (λ (us : List C). WasApplied moments b log.base us) (sym (take_prefix log.base p s.within)) (was up))
carries_longer {C = C} rules moments archive more (Install b log) p (s, was) =
    (snapshot_longer rules archive more log p s, λ up. subst (λ (us : List C). WasApplied moments b log.base us) (sym (take_prefix log.base p s.within)) (was up))
carries_longer rules moments archive more (NewBallot b members a old) p x = tt
carries_longer rules moments archive more (Join b a) p x = tt
carries_longer rules moments archive more (Installed b held) p x = tt
carries_longer rules moments archive more (Activate b) p x = tt
carries_longer rules moments archive more (Activated b) p x = tt
carries_longer rules moments archive more (Superseded b) p x = tt
carries_longer rules moments archive more (Append b place c) p x = tt
carries_longer rules moments archive more (Held b held) p x = tt
carries_longer rules moments archive more (Commit b held) p x = tt

carries_within : {S C O : Type 0} (rules : Rules S C O) (moments : List (Moment S C O)) (archive : List C) (body : Body C) →
    Carries rules moments archive body → IsWithin (length archive) body
carries_within rules moments archive (State b log) x = x.0.within
carries_within rules moments archive (Install b log) x = x.0.within
carries_within rules moments archive (NewBallot b members a old) x = tt
carries_within rules moments archive (Join b a) x = tt
carries_within rules moments archive (Installed b held) x = tt
carries_within rules moments archive (Activate b) x = tt
carries_within rules moments archive (Activated b) x = tt
carries_within rules moments archive (Superseded b) x = tt
carries_within rules moments archive (Append b place c) x = tt
carries_within rules moments archive (Held b held) x = tt
carries_within rules moments archive (Commit b held) x = tt

-- a cut
pub cuts_on : {S C O : Type 0} (rules : Rules S C O) (config : Config) (m : MasterState) (w : CutGroupWorld S C O) (earlier : List (Moment S C O)) (n : ℕ)
    (r : ReplicaState S C) → (k : Kept rules config m w earlier) → slice_get w.nodes n ≡ Some r → r.stopped ≡ false → rules.thawed (rules.frozen r.machine) ≡ Some r.machine →
    (moment m (record (moved w n (cut rules r) []) { archive = recorded w.archive r }) ≡ moment m w)
    × KeptWith rules config m (record (moved w n (cut rules r) []) { archive = recorded w.archive r }) earlier k.came (nothing_added C O)
cuts_on {S = S} {C = C} {O = O} rules config m w earlier n r k stands runs faithful = (
  same,
  record {
    kept = record {
      came = moments.0;
      nodes = λ i x e. by_place i x e (cases_eq i n);
      each_sent = λ to x i. subst (λ (u : Moment S C O). Carries rules (u ∷ earlier) rec x.body) (sym same)
          (carries_longer rules (moment m w ∷ earlier) w.archive rec x.body longer (k.each_sent to x (subst (λ us. In (to, x) us) (append-nil w.sent) i)));
      begins = λ us agreed. (recorded_by us (subst (λ (u : Moment S C O). IsAgreed config (u ∷ earlier) us) same agreed)).begins;
    };
    adds = moments.1;
  },
)
  where
    rec : List C
    rec = recorded w.archive r

    v : CutGroupWorld S C O
    v = record (moved w n (cut rules r) []) { archive = rec }

    old : IsSnapshot rules w.archive r.log × (r.log.base ≤ r.committed)
    old = k.nodes n r stands

    held : r.committed ≤ places r.log
    held = held_within rules config m w earlier n r k stands

    there_now : slice_get (whole_world w).nodes n ≡ Some (whole w.archive r)
    there_now = get_whole (whole w.archive) w.nodes n r stands

    longer : IsPrefixOf w.archive rec
    longer = recorded_longer w.archive r

    recorded_by : (xs : List C) → IsAgreed config (moment m w ∷ earlier) xs → Recorded w.archive r xs
    recorded_by xs agreed =
        is_recorded w.archive r xs (let a = whole_long w.archive r.log old.0.within in omega (arith, a, held)) (k.begins xs agreed)
        ((nodes_agree rules config (moment m w) earlier xs k.came agreed).0.applied n (whole w.archive r) there_now)

    xs : (us : List C) × IsAgreed config (moment m w ∷ earlier) us
    xs = has_agreed rules config (moment m w) earlier k.came

    z : Recorded w.archive r xs.0
    z = recorded_by xs.0 xs.1

    one_view : whole rec r ≡ whole w.archive r
    one_view = longer_record w.archive rec r longer old.0.within

    front : take r.committed (whole_log rec r.log) ≡ take r.committed rec
    front = ap (λ (x : WholeState S C). take r.committed x.log) one_view ∙ z.has

    cut_view : whole rec (cut rules r) ≡ whole w.archive r
    cut_view =
        cut_stays rules rec r (record { within = (let a = old.0.within in let b = prefix_length longer in omega (arith, a, b)); low = old.1 }) z.long held front ∙ one_view

    nodes : map (whole rec) (set w.nodes n (cut rules r)) ≡ map (whole w.archive) w.nodes
    nodes =
        map_set (whole rec) w.nodes n (cut rules r)
        ∙ ap₂ (λ (us : List (WholeState S C)) (x : WholeState S C). set us n x)
        (map_alike_at (whole rec) (whole w.archive) w.nodes (λ i x e. longer_record w.archive rec x longer (k.nodes i x e).0.within)) cut_view
        ∙ set_there (map (whole w.archive) w.nodes) n (whole w.archive r) there_now

    each_sent : map (whole_sent rec) (w.sent ++ []) ≡ map (whole_sent w.archive) w.sent
    each_sent =
        ap (map (whole_sent rec)) (append-nil w.sent)
        ∙ map_alike (whole_sent rec) (whole_sent w.archive) w.sent
        (λ x i. ap (λ body. let y : WholeMessage C = record { from = x.1.from; body = body } in (x.0, y))
        (body_stays w.archive rec x.1.body longer (carries_within rules (moment m w ∷ earlier) w.archive x.1.body (k.each_sent x.0 x.1 i))))

    same : moment m v ≡ moment m w
    same =
        ap (λ ns. let u : Moment S C O = record { master = m; world = record { nodes = ns; sent = map (whole_sent rec) (w.sent ++ []); left = w.left ++ [] } } in u) nodes
        ∙ ap (λ us. let u : Moment S C O = record { master = m; world = record { nodes = map (whole w.archive) w.nodes; sent = us; left = w.left ++ [] } } in u) each_sent
        ∙ ap (λ us. let u : Moment S C O = record { master = m; world = record { nodes = map (whole w.archive) w.nodes; sent = map (whole_sent w.archive) w.sent; left = us } } in u)
        (append-nil w.left)

    ran : r.machine ≡ replay rules (take r.committed rec)
    ran = machines_replay rules config (moment m w) earlier k.came n (whole w.archive r) there_now runs ∙ ap (replay rules) z.has

    snap : IsSnapshot rules rec (cut rules r).log
    snap = record {
      within = z.long;
      read = λ up. faithful ∙ ap Some ran;
      bytes = λ up. ap rules.frozen ran;
    }

    by_place : (i : ℕ) (x : ReplicaState S C) → slice_get (set w.nodes n (cut rules r)) i ≡ Some x → (i ≡ n) ⊎ (i ≡ n → ⊥) → IsSnapshot rules rec x.log × (x.log.base ≤ x.committed)
    by_place i x e (inl at) =
        let a : Some (cut rules r) ≡ Some x = sym (get_set w.nodes n r (cut rules r) stands) ∙ ap (slice_get (set w.nodes n (cut rules r))) (sym at) ∙ e in
        let b : cut rules r ≡ x = cc in subst (λ (y : ReplicaState S C). IsSnapshot rules rec y.log × (y.log.base ≤ y.committed)) b (snap, omega arith)
    by_place i x e (inr other) =
        let a = k.nodes i x (sym (get_set_other w.nodes n i (cut rules r) other) ∙ e) in (snapshot_longer rules w.archive rec x.log longer a.0, a.1)

    moments : (came : Moments rules config (moment m v ∷ earlier)) × Adds k.came came (nothing_added C O)
    moments = subst (λ (u : Moment S C O). (came : Moments rules config (u ∷ earlier)) × Adds k.came came (nothing_added C O)) (sym same) (k.came, adds_nothing k.came)

-- what it adds
abbrev pub added_of_node : {S C O : Type 0} {rules : Rules S C O} {w v : CutGroupWorld S C O} → NodeGoes rules w v → Added C O
added_of_node goes =
    record { proposed = proposed_to goes; taken = taken_as goes; taken_at = λ n. taken_by_node n goes; given = λ n. given_by_node n goes }

-- whatever happens to a node
pub node_goes_on : {S C O : Type 0} (rules : Rules S C O) (config : Config) (m : MasterState) (w v : CutGroupWorld S C O) (earlier : List (Moment S C O)) →
    (k : Kept rules config m w earlier) → (goes : NodeGoes rules w v) → GoesOn rules config m v k.came (added_of_node goes)
node_goes_on rules config m w v earlier k (takes n r input {new = new} {given = given} stands runs may loses) =
    let q = takes_on rules config m w earlier n r input new given k stands runs may loses in
    let taken = taken_whole w.archive r new input (k.nodes n r stands).0.within (q.kept.nodes n new (get_set w.nodes n r new stands)).0.within in
    record {
      more = q.more;
      kept = q.kept;
      continues = q.continues;
      adds = adds_as k.came q.kept.came (added_whole w.archive n r input new given) (added_by_node n r input new given)
          (proposed_whole w.archive r input) taken (λ i. ap (λ us. cond (n == i) us []) taken)
          (λ i. ap (λ us. cond (n == i) us []) (sym (outputs_whole w.archive given))) q.adds;
    }
node_goes_on {S = S} {C = C} {O = O} rules config m w v earlier k (stops n r stands) =
    lost rules config m w earlier n r (halted rules r) [] (nothing_added C O) k stands
    (subst (λ (u : WholeWorld S C O). StepAdds rules m (whole_world w) m u (nothing_added C O)) (sym (moved_whole w n (halted rules r) [])) (
      node_stops n (whole w.archive r) (get_whole (whole w.archive) w.nodes n r stands),
      record { proposes = refl; takes = refl; takes_at = λ i. refl; gives = λ i. refl },
    ))
    refl refl refl
node_goes_on rules config m w v earlier k (cuts n r stands runs over faithful) =
    let z = cuts_on rules config m w earlier n r k stands runs faithful in
    record { more = earlier; kept = z.1.kept; continues = none_more (moment m w) (moment m v) earlier z.0; adds = z.1.adds }

-- so at each moment there is an agreed list, the nodes agree on it, and what left is its answers in order
pub cut_worlds_agree : {S C O : Type 0} (rules : Rules S C O) (config : Config) (m : MasterState) (w : CutGroupWorld S C O) (earlier : List (Moment S C O)) →
    Kept rules config m w earlier → (xs : List C) × IsAgreed config (moment m w ∷ earlier) xs
    × Agrees rules m (whole_world w) xs × Holds m (whole_world w) xs × LeftInOrder rules (moment m w ∷ earlier) (whole_world w) xs × IsPrefixOf w.archive xs
cut_worlds_agree rules config m w earlier k =
    let xs = has_agreed rules config (moment m w) earlier k.came in
    let z = nodes_agree rules config (moment m w) earlier xs.0 k.came xs.1 in
    (xs.0, xs.1, z.0, z.1, z.2, k.begins xs.0 xs.1)
