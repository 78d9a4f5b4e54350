-- StepsOfNodes.antt: a call of one replica is a step of its group, and the messages are parted from it.
use Rattle.std.proofs.Common.{◌≡◌, ℕ, zero, suc, ◌+◌, ◌-◌, ◌^◌, ◌<◌, ◌≤◌, ◌⊎◌, inl, inr, Bool, true, false, cond, List, [], ◌∷◌, ◌++◌, length, map, set, take, drop, get_or, Some, None, refl, ap, sym, ◌∙◌, subst, arith}
use Rattle.std.specs.Prelude.{slice_get, ◌&&◌}
use Rattle.std.proofs.lemmas.List.{map-append, map-set, append-nil, take-append-le, length-map}
use Rattle.std.proofs.Math.Seq.{take-length, drop-append_seam}
use Rattle.machine.specs.Machine.{Rules}
use Rattle.ballot_base.specs.declared.message.Message.{Message}
use Rattle.ballot_base.specs.declared.message.Effect.{Effect}
use Rattle.ballot_base.specs.Replica.{ReplicaState, CountedReplica, opening, status_of}
use Rattle.ballot_base.specs.Losses.{SendsAndAddsNothing, Loses, Thinned, halted, one_more}
use Rattle.ballot_base.specs.Losses.Thinned.{none, keeps, loses}
use Rattle.ballot_base.specs.StepOutcome.{Outcome}
use Rattle.ballot_base.specs.Protocol.{Input, replica_step}
use Rattle.ballot_base.specs.LawfulConfig.{max_node}
use Rattle.ballot_base.specs.declared.config.Config.{Config}
use Rattle.agreement.specs.MasterState.{MasterState, opening_master}
use Rattle.agreement.specs.cut_logs.Moments.{Moment, opening_moment}
use Rattle.ballot_base.specs.declared.status.Status.{Status}
use Rattle.agreement.specs.cut_logs.World.{CutGroupWorld, messages, outputs, moved, recorded}
use Rattle.ballot_base.specs.Compaction.{cut}
use Rattle.agreement.specs.cut_logs.Moments.{opening_nodes, opening_world}
use Rattle.master.specs.Outcomes.{NodeOutcome, cut_outcome, running, unless_stopped}
use Rattle.master.specs.Group.{GroupState}
use Rattle.master.proofs.Archived.{recorded_by}
use Rattle.master.proofs.Calling.{thinned_nothing}
use Rattle.master.proofs.LossesCounted.{quiet_count}
use Rattle.master.specs.Inside.{RunsAt, moment_of, world_of}
use Rattle.master.specs.Inside.Losses.{IsRead, GroupCutOrLost, InputStepOrLost, Parted, GroupNodeStepOrLost}

-- messages that are missing of messages that are missing
thinned_then : {C O : Type 0} {xs ys zs : List (Effect C O)} → Thinned xs ys → Thinned ys zs → Thinned xs zs
thinned_then t none = t
thinned_then (keeps t) (keeps s) = keeps (thinned_then t s)
thinned_then (loses t) (keeps s) = loses (thinned_then t s)
thinned_then t (loses s) = loses (thinned_then t s)

-- more messages are lost
lost_more : {S C O : Type 0} (rules : Rules S C O) {old : ReplicaState S C} {o : Outcome S C O} {new : ReplicaState S C} {given kept : List (Effect C O)} →
    Loses rules old o new given → Thinned kept given → Loses rules old o new kept
lost_more rules (inl (e, t)) s = inl (e, thinned_then s t)
lost_more rules (inr (inl (e, t))) s = inr (inl (e, thinned_nothing t s))
lost_more rules (inr (inr (e, t))) s = inr (inr (e, thinned_nothing t s))

state_at : {S C : Type 0} (nodes : List (CountedReplica S C)) (n : ℕ) (d : CountedReplica S C) → n < length nodes →
    slice_get (map (λ (r : CountedReplica S C). r.state) nodes) n ≡ Some (get_or nodes n d).state
state_at [] n d below = absurd (omega arith)
state_at (r ∷ nodes) zero d below = refl
state_at (r ∷ nodes) (suc n) d below = state_at nodes n d (omega arith)

pub stands_at : {S C : Type 0} (nodes : List (CountedReplica S C)) (n : ℕ) (old : CountedReplica S C) → n < length nodes → old ≡ get_or nodes n old →
    slice_get (map (λ (r : CountedReplica S C). r.state) nodes) n ≡ Some old.state
stands_at {S = S} {C = C} nodes n old below read = state_at nodes n old below ∙ ap (λ (r : CountedReplica S C). Some r.state) (sym read)

moved_is : {S C O : Type 0} (archive : List C) (nodes : List (CountedReplica S C)) (sent more : List (ℕ × Message C)) (left parted kept : List (Effect C O)) (n : ℕ) (new : CountedReplica S C) →
    more ≡ sent ++ messages kept → outputs parted ≡ outputs left ++ outputs kept →
    world_of archive (set nodes n new) more parted ≡ moved (world_of archive nodes sent left) n new.state kept
moved_is {S = S} {C = C} {O = O} archive nodes sent more left parted kept n new e f =
    ap (λ xs. let z : CutGroupWorld S C O = record { nodes = xs; sent = more; left = outputs parted; archive = archive } in z) (map-set (λ (r : CountedReplica S C). r.state) nodes n new)
    ∙ ap (λ xs. let z : CutGroupWorld S C O = record { nodes = set (map (λ (r : CountedReplica S C). r.state) nodes) n new.state; sent = xs; left = outputs parted; archive = archive } in z) e
    ∙ ap (λ xs. let z : CutGroupWorld S C O = record { nodes = set (map (λ (r : CountedReplica S C). r.state) nodes) n new.state; sent = sent ++ messages kept; left = xs; archive = archive } in z) f

-- how losses were counted
pub count_is : (first second : Bool) (losses counted : ℕ) → counted ≡ cond (first && second) losses (one_more losses) →
    ((first ≡ true) × (second ≡ true) × (counted ≡ losses)) ⊎ (counted ≡ one_more losses)
count_is true true losses counted e = inl (refl, refl, e)
count_is true false losses counted e = inr e
count_is false second losses counted e = inr e

-- a step of a group
pub took_turn : {S C O : Type 0} {rules : Rules S C O} (archive : List C) (m : MasterState) (nodes : List (CountedReplica S C)) (sent more : List (ℕ × Message C)) (left after parted : List (Effect C O))
    (losses counted n from : ℕ) (old new : CountedReplica S C) (input : Input C) (r : ReplicaState S C) (whole kept : Bool) →
    n < length nodes → old ≡ get_or nodes n old → slice_get (map (λ (z : CountedReplica S C). z.state) nodes) n ≡ Some r → from ≡ length left →
    InputStepOrLost rules old input new left after whole → Parted (drop from after) (take from after) parted sent more kept →
    counted ≡ cond (whole && kept) losses (one_more losses) → IsRead rules r input → old.losses ≤ losses → losses ≤ 2 ^ 64 - 1 →
    GroupNodeStepOrLost rules (record { moment = moment_of archive m nodes sent left; losses = losses })
    (record { index = n; before = r; outcome = replica_step rules r input })
    (record { moment = moment_of archive m (set nodes n new) more parted; losses = counted })
took_turn {S = S} {C = C} {O = O} {rules = rules} archive m nodes sent more left after parted losses counted n from old new input r whole kept below read stands at t p count reads low high =
    record {
      state = new.state;
      given = p.kept;
      moment = ap (λ (w : CutGroupWorld S C O). let z : Moment S C O = record { master = m; world = w } in z)
          (moved_is archive nodes sent more left parted p.kept n new p.sent_is (p.outputs_are ∙ ap (λ us. outputs us ++ outputs p.kept) front));
      way = by_way (count_is whole kept losses counted count);
      quiet = quietly;
    }
  where
    o : ReplicaState S C → Outcome S C O
    o s = replica_step rules s input

    same : old.state ≡ r
    same = let e = sym (stands_at nodes n old below read) ∙ stands in cc

    front : take from after ≡ left
    front = ap (take from) t.appended ∙ ap (λ k. take k (left ++ t.given)) at
        ∙ take-append-le (length left) left t.given (omega arith) ∙ take-length left

    rest : drop from after ≡ t.given
    rest = ap (drop from) t.appended ∙ ap (λ k. drop k (left ++ t.given)) at ∙ drop-append_seam left t.given

    lossy : Loses rules r (o r) new.state p.kept
    lossy = subst (λ (s : ReplicaState S C). Loses rules s (o s) new.state p.kept) same
        (lost_more rules t.loses (subst (λ (us : List (Effect C O)). Thinned p.kept us) rest p.thinned))

    by_way : ((whole ≡ true) × (kept ≡ true) × (counted ≡ losses)) ⊎ (counted ≡ one_more losses) →
        ((new.state ≡ (o r).state) × (p.kept ≡ (o r).effects) × (counted ≡ losses))
        ⊎ (Loses rules r (o r) new.state p.kept × (counted ≡ one_more losses))
    by_way (inl (a, b, c)) = inl ((t.exact a).0 ∙ ap (λ (s : ReplicaState S C). (o s).state) same, p.exact b ∙ rest ∙ (t.exact a).1 ∙ ap (λ (s : ReplicaState S C). (o s).effects) same, c)
    by_way (inr c) = inr (lossy, c)

    quietly : SendsAndAddsNothing r (o r) → (new.state ≡ (o r).state) × (p.kept ≡ (o r).effects) × (counted ≡ losses)
    quietly q =
        let z = t.quiet (subst (λ (s : ReplicaState S C). SendsAndAddsNothing s (o s)) (sym same) q) (subst (λ (s : ReplicaState S C). IsRead rules s input) (sym same) reads) in
        let nothing : drop from after ≡ [] = rest ∙ z.1 ∙ ap (λ (s : ReplicaState S C). (o s).effects) same ∙ q.nothing_sent in (
          z.0 ∙ ap (λ (s : ReplicaState S C). (o s).state) same,
          thinned_nothing nothing p.thinned ∙ sym q.nothing_sent,
          quiet_count whole kept losses counted old.losses count (p.idle nothing) low high (λ below. t.told z.2 below),
        )

-- the node of a number
pub runs_at : {S C : Type 0} (nodes : List (CountedReplica S C)) (node : ℕ) (r : CountedReplica S C) → 0 < node → node ≤ length nodes → r ≡ get_or nodes (node - 1) r →
    r.state.stopped ≡ false → RunsAt (map (λ (z : CountedReplica S C). z.state) nodes) node (node - 1)
runs_at nodes zero r positive below read going = absurd (omega arith)
runs_at {S = S} {C = C} nodes (suc n) r positive below read going =
    let e : suc n - 1 ≡ n = omega arith in
    let stands = stands_at nodes n r (omega (arith, below)) (subst (λ k. r ≡ get_or nodes k r) e read) in
    subst (λ k. RunsAt (map (λ (z : CountedReplica S C). z.state) nodes) (suc n) k) (sym e)
    (record {
      replica = r.state;
      index = sym e;
      positive = omega arith;
      below = (let long = length-map nodes (λ (z : CountedReplica S C). z.state) in omega (arith, long, below));
      stands = stands;
      runs = ap unless_stopped stands ∙ ap (λ b. cond b None (Some r.state)) going;
      going = going;
    })

pub stopped_there : {S C : Type 0} (nodes : List (CountedReplica S C)) (node : ℕ) (r : CountedReplica S C) (status : Status) → 0 < node → node ≤ length nodes → r ≡ get_or nodes (node - 1) r →
    status ≡ status_of r.state → status.stopped ≡ true → running (map (λ (z : CountedReplica S C). z.state) nodes) node ≡ None
stopped_there nodes zero r status positive below read s stopped = absurd (omega arith)
stopped_there {S = S} {C = C} nodes (suc n) r status positive below read s stopped =
    let e : suc n - 1 ≡ n = omega arith in
    let stands = stands_at nodes n r (omega (arith, below)) (subst (λ k. r ≡ get_or nodes k r) e read) in
    ap unless_stopped stands ∙ ap (λ b. cond b None (Some r.state)) (sym (ap (λ (z : Status). z.stopped) s) ∙ stopped)

-- a place that is there
pub below_of : {S C : Type 0} (nodes : List (CountedReplica S C)) (n : ℕ) (r : ReplicaState S C) →
    slice_get (map (λ (z : CountedReplica S C). z.state) nodes) n ≡ Some r → n < length nodes
below_of [] n r e = cc
below_of (z ∷ nodes) zero r e = omega arith
below_of (z ∷ nodes) (suc n) r e = let b = below_of nodes n r e in omega (arith, b)

pub going_of : {S C : Type 0} (nodes : List (CountedReplica S C)) (n : ℕ) (old : CountedReplica S C) (r : ReplicaState S C) →
    old ≡ get_or nodes n old → slice_get (map (λ (z : CountedReplica S C). z.state) nodes) n ≡ Some r → r.stopped ≡ false → old.state.stopped ≡ false
going_of {S = S} {C = C} nodes n old r read stands going =
    let e : Some old.state ≡ Some r = sym (stands_at nodes n old (below_of nodes n r stands) read) ∙ stands in
    let same : old.state ≡ r = cc in
    ap (λ (s : ReplicaState S C). s.stopped) same ∙ going

-- a node that stops
pub crash_turn : {S C O : Type 0} (rules : Rules S C O) (archive : List C) (m : MasterState) (nodes : List (CountedReplica S C)) (sent : List (ℕ × Message C)) (left : List (Effect C O))
    (losses n : ℕ) (old new : CountedReplica S C) (r : ReplicaState S C) →
    old ≡ get_or nodes n old → slice_get (map (λ (z : CountedReplica S C). z.state) nodes) n ≡ Some r → new.state ≡ halted rules old.state →
    GroupNodeStepOrLost rules (record { moment = moment_of archive m nodes sent left; losses = losses })
    (record { index = n; before = r; outcome = record { state = halted rules r; effects = [] } })
    (record { moment = moment_of archive m (set nodes n new) sent left; losses = losses })
crash_turn {S = S} {C = C} {O = O} rules archive m nodes sent left losses n old new r read stands stopped =
    record {
      state = halted rules r;
      given = [];
      moment = ap (λ (w : CutGroupWorld S C O). let z : Moment S C O = record { master = m; world = w } in z)
          (moved_is archive nodes sent sent left left [] n new (sym (append-nil sent)) (sym (append-nil (outputs left)))
          ∙ ap (λ (s : ReplicaState S C). moved (world_of archive nodes sent left) n s []) (stopped ∙ ap (halted rules) same));
      way = inl (refl, refl, refl);
      quiet = λ q. (refl, refl, refl);
    }
  where
    same : old.state ≡ r
    same = let e = sym (stands_at nodes n old (below_of nodes n r stands) read) ∙ stands in cc

-- and the group then
pub crash_group : {S C O : Type 0} (rules : Rules S C O) (archive : List C) (m : MasterState) (nodes : List (CountedReplica S C)) (sent : List (ℕ × Message C)) (left : List (Effect C O))
    (losses n : ℕ) (old new : CountedReplica S C) (r : ReplicaState S C) →
    old ≡ get_or nodes n old → slice_get (map (λ (z : CountedReplica S C). z.state) nodes) n ≡ Some r → new.state ≡ halted rules old.state →
    (let z : GroupState S C O = record { moment = moment_of archive m (set nodes n new) sent left; losses = losses } in z)
    ≡ record { moment = record (moment_of archive m nodes sent left) { world = moved (world_of archive nodes sent left) n (halted rules r) [] }; losses = losses }
crash_group {S = S} {C = C} {O = O} rules archive m nodes sent left losses n old new r read stands stopped =
    let e : Some old.state ≡ Some r = sym (stands_at nodes n old (below_of nodes n r stands) read) ∙ stands in
    let same : old.state ≡ r = cc in
    ap (λ (w : CutGroupWorld S C O). let z : GroupState S C O = record { moment = record { master = m; world = w }; losses = losses } in z)
    (moved_is archive nodes sent sent left left [] n new (sym (append-nil sent)) (sym (append-nil (outputs left)))
    ∙ ap (λ (s : ReplicaState S C). moved (world_of archive nodes sent left) n s []) (stopped ∙ ap (halted rules) same))

-- a replica that is read at a node's place
pub same_replica : {S C : Type 0} (nodes : List (CountedReplica S C)) (n : ℕ) (old : CountedReplica S C) (r : ReplicaState S C) →
    old ≡ get_or nodes n old → slice_get (map (λ (z : CountedReplica S C). z.state) nodes) n ≡ Some r → old.state ≡ r
same_replica nodes n old r read stands = let e = sym (stands_at nodes n old (below_of nodes n r stands) read) ∙ stands in cc

-- a group that opened
opened_group : {S C O : Type 0} (rules : Rules S C O) (archive : List C) (config : Config) (nodes at : ℕ) (items : List (CountedReplica S C)) (sent : List (ℕ × Message C)) (left : List (Effect C O)) →
    map (λ (z : CountedReplica S C). z.state) items ≡ opening_nodes rules at config → at ≡ nodes → sent ≡ [] → left ≡ [] → archive ≡ [] →
    world_of archive items sent left ≡ opening_world rules nodes config
opened_group {S = S} {C = C} {O = O} rules archive config nodes at items sent left before same a b d =
    ap (λ xs. let z : CutGroupWorld S C O = record { nodes = xs; sent = sent; left = outputs left; archive = archive } in z) (before ∙ ap (λ k. opening_nodes rules k config) same)
    ∙ ap (λ xs. let z : CutGroupWorld S C O = record { nodes = opening_nodes rules nodes config; sent = xs; left = outputs left; archive = archive } in z) a
    ∙ ap (λ (xs : List (Effect C O)). let z : CutGroupWorld S C O = record { nodes = opening_nodes rules nodes config; sent = []; left = outputs xs; archive = archive } in z) b
    ∙ ap (λ xs. let z : CutGroupWorld S C O = record { nodes = opening_nodes rules nodes config; sent = []; left = []; archive = xs } in z) d

-- one node more is opened
pub opened_more : {S C O : Type 0} (rules : Rules S C O) (config : Config) (items more : List (CountedReplica S C)) (new : CountedReplica S C) (at : ℕ) →
    map (λ (z : CountedReplica S C). z.state) items ≡ opening_nodes rules at config → new.state ≡ opening rules (at + 1) config → more ≡ items ++ new ∷ [] →
    map (λ (z : CountedReplica S C). z.state) more ≡ opening_nodes rules (at + 1) config
opened_more {S = S} {C = C} rules config items more new at before opens pushed =
    let next : at + 1 ≡ suc at = omega arith in
    ap (map (λ (z : CountedReplica S C). z.state)) pushed ∙ map-append (λ (z : CountedReplica S C). z.state) items (new ∷ [])
    ∙ ap (λ us. us ++ new.state ∷ []) before ∙ ap (λ s. opening_nodes rules at config ++ s ∷ []) opens
    ∙ sym (ap (λ k. opening_nodes rules k config) next)

pub opened_moment : {S C O : Type 0} (rules : Rules S C O) (archive : List C) (config : Config) (nodes at : ℕ) (m : MasterState) (items : List (CountedReplica S C)) (sent : List (ℕ × Message C)) (left : List (Effect C O)) →
    m ≡ opening_master max_node config → map (λ (z : CountedReplica S C). z.state) items ≡ opening_nodes rules at config → at ≡ nodes → sent ≡ [] → left ≡ [] → archive ≡ [] →
    moment_of archive m items sent left ≡ opening_moment rules max_node nodes config
opened_moment {S = S} {C = C} {O = O} rules archive config nodes at m items sent left opens before same a b d =
    ap (λ x. let z : Moment S C O = record { master = x; world = world_of archive items sent left } in z) opens
    ∙ ap (λ w. let z : Moment S C O = record { master = opening_master max_node config; world = w } in z) (opened_group rules archive config nodes at items sent left before same a b d)

-- the node at an index, once more
set_there : {S C : Type 0} (nodes : List (CountedReplica S C)) (n : ℕ) (old new : CountedReplica S C) → n < length nodes → old ≡ get_or nodes n old →
    new.state ≡ old.state → map (λ (z : CountedReplica S C). z.state) (set nodes n new) ≡ map (λ (z : CountedReplica S C). z.state) nodes
set_there [] n old new below read same = refl
set_there {S = S} {C = C} (r ∷ nodes) zero old new below read same =
    ap (λ s. s ∷ map (λ (z : CountedReplica S C). z.state) nodes) (same ∙ ap (λ (z : CountedReplica S C). z.state) read)
set_there (r ∷ nodes) (suc n) old new below read same = ap (λ ss. r.state ∷ ss) (set_there nodes n old new (omega arith) read same)

-- a node whose log was cut, and one for whose cut memory ran out
pub cut_done : {S C O : Type 0} (rules : Rules S C O) (archive more : List C) (m : MasterState) (nodes : List (CountedReplica S C)) (sent : List (ℕ × Message C))
    (left : List (Effect C O)) (losses n : ℕ) (old new : CountedReplica S C) (r : ReplicaState S C) →
    old ≡ get_or nodes n old → slice_get (map (λ (z : CountedReplica S C). z.state) nodes) n ≡ Some r → new.state ≡ cut rules old.state →
    more ≡ recorded archive old.state → rules.thawed (rules.frozen old.state.machine) ≡ Some old.state.machine →
    GroupCutOrLost rules (record { moment = moment_of archive m nodes sent left; losses = losses }) (cut_outcome rules n r)
    (record { moment = moment_of more m (set nodes n new) sent left; losses = losses })
cut_done {S = S} {C = C} {O = O} rules archive more m nodes sent left losses n old new r read stands is grown thaws =
    record {
      way = inl (
        ap (λ (w : CutGroupWorld S C O). let z : Moment S C O = record { master = m; world = w } in z)
            (moved_is more nodes sent sent left left [] n new (sym (append-nil sent)) (sym (append-nil (outputs left)))
            ∙ ap (λ (s : ReplicaState S C). moved (world_of more nodes sent left) n s []) (is ∙ ap (cut rules) same)
            ∙ ap (λ us. let z : CutGroupWorld S C O = record (moved (world_of archive nodes sent left) n (cut rules r) []) { archive = us } in z)
            (grown ∙ ap (recorded archive) same)),
        refl,
        subst (λ (s : ReplicaState S C). rules.thawed (rules.frozen s.machine) ≡ Some s.machine) same thaws,
      );
    }
  where
    same : old.state ≡ r
    same = same_replica nodes n old r read stands

pub cut_lost : {S C O : Type 0} (rules : Rules S C O) (archive more : List C) (m : MasterState) (nodes later : List (CountedReplica S C)) (sent : List (ℕ × Message C))
    (left : List (Effect C O)) (losses counted : ℕ) (t : NodeOutcome S C O) → more ≡ archive →
    map (λ (z : CountedReplica S C). z.state) later ≡ map (λ (z : CountedReplica S C). z.state) nodes → counted ≡ one_more losses →
    GroupCutOrLost rules (record { moment = moment_of archive m nodes sent left; losses = losses }) t
    (record { moment = moment_of more m later sent left; losses = counted })
cut_lost {S = S} {C = C} {O = O} rules archive more m nodes later sent left losses counted t kept same count =
    record {
      way = inr (
          ap (λ us. let z : GroupState S C O = record { moment = moment_of us m later sent left; losses = counted } in z) kept
          ∙ ap (λ ss. let z : GroupState S C O = record { moment = record { master = m; world = record { nodes = ss; sent = sent; left = outputs left; archive = archive } }; losses = counted } in z) same
          ∙ ap (λ k. let z : GroupState S C O = record { moment = moment_of archive m nodes sent left; losses = k } in z) count
          );
    }

-- a node that did not change
pub cut_not : {S C : Type 0} (nodes : List (CountedReplica S C)) (n : ℕ) (old new : CountedReplica S C) (r : ReplicaState S C) →
    old ≡ get_or nodes n old → slice_get (map (λ (z : CountedReplica S C). z.state) nodes) n ≡ Some r → new.state ≡ old.state →
    map (λ (z : CountedReplica S C). z.state) (set nodes n new) ≡ map (λ (z : CountedReplica S C). z.state) nodes
cut_not nodes n old new r read stands same = set_there nodes n old new (below_of nodes n r stands) read same

-- the same cut, by what was read of the replica before
pub cut_read : {S C O : Type 0} (rules : Rules S C O) (archive more rest : List C) (m : MasterState) (nodes : List (CountedReplica S C)) (sent : List (ℕ × Message C))
    (left : List (Effect C O)) (losses n base : ℕ) (read old new : CountedReplica S C) (status : Status) (r : ReplicaState S C) → r.log.base ≤ length archive →
    read ≡ get_or nodes n read → old ≡ get_or nodes n old → slice_get (map (λ (z : CountedReplica S C). z.state) nodes) n ≡ Some r →
    base ≡ read.state.log.base → status ≡ status_of read.state → rest ≡ read.state.log.rest →
    more ≡ archive ++ drop (length archive - base) (take (status.committed - base) rest) →
    new ≡ record old { state = cut rules old.state } → rules.thawed (rules.frozen old.state.machine) ≡ Some old.state.machine →
    GroupCutOrLost rules (record { moment = moment_of archive m nodes sent left; losses = losses }) (cut_outcome rules n r)
    (record { moment = moment_of more m (set nodes n new) sent left; losses = losses })
cut_read {S = S} {C = C} {O = O} rules archive more rest m nodes sent left losses n base read old new status r within seen there stands based told kept added done thaws =
    cut_done rules archive more m nodes sent left losses n old new r there stands (ap (λ (z : CountedReplica S C). z.state) done)
    (recorded_by archive more rest base status.committed r within (based ∙ ap (λ (s : ReplicaState S C). s.log.base) same)
    (ap (λ (s : Status). s.committed) told ∙ ap (λ (s : ReplicaState S C). s.committed) same) (kept ∙ ap (λ (s : ReplicaState S C). s.log.rest) same) added
    ∙ ap (recorded archive) (sym (same_replica nodes n old r there stands)))
    thaws
  where
    same : read.state ≡ r
    same = same_replica nodes n read r seen stands
