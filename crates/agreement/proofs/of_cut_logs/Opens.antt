-- Opens.antt: a world whose logs are cut opens so, and the master's moves keep what holds.
use Rattle.std.proofs.Common.{cond, Bool, ◌≡◌, ℕ, zero, suc, ◌+◌, ◌≤◌, ◌⊎◌, inl, inr, true, false, List, [], ◌∷◌, ◌++◌, map, refl, ap, ap₂, sym, ◌∙◌, subst, arith}
use Rattle.std.specs.Prelude.{◌==◌}
use Rattle.std.proofs.lemmas.List.{map-append}
use Rattle.machine.specs.Machine.{Rules}
use Rattle.lists.specs.Lists.{In}
use Rattle.lists.specs.Lists.In.{here, there}
use Rattle.lists.proofs.Prefixes.{prefix_then}
use Rattle.lists.proofs.Members.{in_append, in_at}
use Rattle.ballot_base.specs.declared.config.Config.{Config}
use Rattle.agreement.specs.whole_logs.Replica.{ReplicaState as WholeState, opening as whole_opening, opening_member as whole_member}
use Rattle.ballot_base.specs.Replica.{others, progress_at, ReplicaState, opening, opening_member}
use Rattle.ballot_base.specs.declared.status.Role.TheVariants.{Active}
use Rattle.agreement.specs.MasterState.{MasterState, opening_master}
use Rattle.agreement.specs.Moments.{Moment, Moments}
use Rattle.agreement.specs.Moments.Moments.{began, went_on}
use Rattle.agreement.specs.World.{can_open, opening_nodes as whole_opening_nodes}
use Rattle.agreement.specs.cut_logs.Moments.{opening_nodes, opening_world}
use Rattle.agreement.proofs.Agreed.MomentsAgree.{has_agreed}
use Rattle.ballot_base.specs.Logs.{Log, empty_log}
use Rattle.ballot_base.specs.declared.message.Body.{Body}
use Rattle.ballot_base.specs.declared.message.Message.{Message}
use Rattle.ballot_base.specs.declared.message.Body.TheVariants.{NewBallot, Join, State, Install, Installed, Activate, Activated, Superseded, Append, Held, Commit}
use Rattle.agreement.specs.cut_logs.Whole.{whole, whole_body}
use Rattle.agreement.specs.cut_logs.World.{CutGroupWorld, whole_sent, whole_world}
use Rattle.agreement.proofs.of_cut_logs.Adds.{Adds, SaysNothing, StepAdds, adds_one, nothing_added}
use Rattle.agreement.proofs.of_cut_logs.Kept.{Carries, IsSnapshot, Kept, KeptWith, carries_in}
use Rattle.agreement.proofs.of_cut_logs.MoreMoments.{grows_in}
use Rattle.agreement.proofs.of_cut_logs.LogsGoOn.{moment}
use Rattle.agreement.proofs.of_cut_logs.Plain.{IsPlainBody}

opens_whole : {S C O : Type 0} (rules : Rules S C O) (id : ℕ) (config : Config) → whole [] (opening rules id config) ≡ whole_opening rules id config
opens_whole {S = S} {C = C} rules id config = by (id == config.primary)
  where
    by : (b : Bool) →
        whole [] (cond b (record (opening_member rules id config) { role = Active; members = config.members; progress = progress_at 0 (others id config.members) }) (opening_member rules id config))
        ≡ cond b (record (whole_member rules id config) { role = Active; members = config.members; progress = progress_at 0 (others id config.members) }) (whole_member rules id config)
    by true = refl
    by false = refl

nodes_whole : {S C O : Type 0} (rules : Rules S C O) (nodes : ℕ) (config : Config) → map (whole []) (opening_nodes rules nodes config) ≡ whole_opening_nodes rules nodes config
nodes_whole rules zero config = refl
nodes_whole {S = S} {C = C} rules (suc n) config =
    map-append (whole []) (opening_nodes rules n config) (opening rules (n + 1) config ∷ [])
    ∙ ap₂ (λ (us : List (WholeState S C)) (x : WholeState S C). us ++ x ∷ []) (nodes_whole rules n config) (opens_whole rules (n + 1) config)

only_one : {X : Type 0} (x y : X) → In x (y ∷ []) → x ≡ y
only_one x y here = refl
only_one x y (there j) = elim j [ ]

opens_empty : {S C O : Type 0} (rules : Rules S C O) (nodes : ℕ) (config : Config) (x : ReplicaState S C) → In x (opening_nodes rules nodes config) → x.log ≡ empty_log C
opens_empty rules zero config x i = elim i [ ]
opens_empty {S = S} {C = C} rules (suc n) config x i = by_place (λ j. opens_empty rules n config x j) (in_append (opening_nodes rules n config) (opening rules (n + 1) config ∷ []) i)
  where
    one : (b : Bool) → (cond b (record (opening_member rules (n + 1) config) { role = Active; members = config.members; progress = progress_at 0 (others (n + 1) config.members) }) (opening_member rules (n + 1) config)).log ≡ empty_log C
    one true = refl
    one false = refl

    last : In x (opening rules (n + 1) config ∷ []) → x.log ≡ empty_log C
    last j = ap (λ (y : ReplicaState S C). y.log) (only_one x (opening rules (n + 1) config) j) ∙ one (n + 1 == config.primary)

    by_place : (In x (opening_nodes rules n config) → x.log ≡ empty_log C) → In x (opening_nodes rules n config) ⊎ In x (opening rules (n + 1) config ∷ []) → x.log ≡ empty_log C
    by_place before (inl j) = before j
    by_place before (inr j) = last j

-- it opens so
pub opens_kept : {S C O : Type 0} (rules : Rules S C O) (greatest nodes : ℕ) (config : Config) → can_open greatest nodes config ≡ true →
    Kept rules config (opening_master greatest config) (opening_world rules nodes config) []
opens_kept {S = S} {C = C} {O = O} rules greatest nodes config can =
    record {
      came = began greatest nodes can (ap (λ ns. let x : Moment S C O = record { master = opening_master greatest config; world = record { nodes = ns; sent = []; left = [] } } in x) (nodes_whole rules nodes config));
      nodes = λ n r e. at r (opens_empty rules nodes config r (in_at (opening_nodes rules nodes config) n r e));
      each_sent = λ to x i. elim i [ ];
      begins = λ xs agreed. record { rest = xs; is = refl };
    }
  where
    at : (r : ReplicaState S C) → r.log ≡ empty_log C → IsSnapshot rules [] r.log × (r.log.base ≤ r.committed)
    at r e = (
      record {
        within = (let a = ap (λ (l : Log C). l.base) e in omega (arith, a));
        read = λ up. let a = ap (λ (l : Log C). l.base) e in absurd (omega (arith, a, up));
        bytes = λ up. let a = ap (λ (l : Log C). l.base) e in absurd (omega (arith, a, up));
      },
      (let a = ap (λ (l : Log C). l.base) e in omega (arith, a)),
    )

-- .. and nothing was proposed, taken or given
pub opens_silent : {S C O : Type 0} (rules : Rules S C O) (greatest nodes : ℕ) (config : Config) (can : can_open greatest nodes config ≡ true) →
    SaysNothing (opens_kept {O = O} rules greatest nodes config can).came
unfolding opens_kept
opens_silent rules greatest nodes config can = record { proposes = refl; takes = refl; takes_at = λ n. refl; gives = λ n. refl }

-- ---- the master

plain_carries : {S C O : Type 0} (rules : Rules S C O) (moments : List (Moment S C O)) (archive : List C) (body : Body C) → IsPlainBody body →
    Carries rules moments archive body
plain_carries rules moments archive (State b log) p = absurd p
plain_carries rules moments archive (Install b log) p = absurd p
plain_carries rules moments archive (NewBallot b members a old) p = tt
plain_carries rules moments archive (Join b a) p = tt
plain_carries rules moments archive (Installed b held) p = tt
plain_carries rules moments archive (Activate b) p = tt
plain_carries rules moments archive (Activated b) p = tt
plain_carries rules moments archive (Superseded b) p = tt
plain_carries rules moments archive (Append b place c) p = tt
plain_carries rules moments archive (Held b held) p = tt
plain_carries rules moments archive (Commit b held) p = tt

-- a message of the master carries no log
pub master_kept : {S C O : Type 0} (rules : Rules S C O) (config : Config) (m k : MasterState) (w : CutGroupWorld S C O) (earlier : List (Moment S C O))
    (receiver : ℕ) (body : Body C) → (q : Kept rules config m w earlier) → IsPlainBody body →
    StepAdds rules m (whole_world w) k (record (whole_world w) { sent = (whole_world w).sent ++ (receiver, record { from = 0; body = whole_body w.archive body }) ∷ [] })
    (nothing_added C O) →
    KeptWith rules config k (record w { sent = w.sent ++ (receiver, record { from = 0; body = body }) ∷ [] }) (moment m w ∷ earlier) q.came (nothing_added C O)
master_kept {S = S} {C = C} {O = O} rules config m k w earlier receiver body q plain step =
    record {
      kept = record {
        came = moments.0;
        nodes = q.nodes;
        each_sent = λ to x i. by_age to x (in_append w.sent ((receiver, record { from = 0; body = body }) ∷ []) i);
        begins = λ ys agreed. let xs = has_agreed rules config (moment m w) earlier q.came in
            prefix_then (q.begins xs.0 xs.1) (grows_in config (moment m w ∷ earlier) (moment k v ∷ moment m w ∷ earlier) xs.0 ys (λ c i. there i) xs.1 agreed);
      };
      adds = moments.1;
    }
  where
    moments : (came : Moments rules config (moment k (record w { sent = w.sent ++ (receiver, record { from = 0; body = body }) ∷ [] }) ∷ moment m w ∷ earlier))
        × Adds q.came came (nothing_added C O)
    moments = subst (λ us. let x : Moment S C O = record { master = k; world = record (whole_world w) { sent = us } } in
        (came : Moments rules config (x ∷ moment m w ∷ earlier)) × Adds q.came came (nothing_added C O))
        (sym (map-append (whole_sent w.archive) w.sent ((receiver, record { from = 0; body = body }) ∷ [])))
        (went_on q.came step.0, adds_one q.came (nothing_added C O) step)

    v : CutGroupWorld S C O
    v = record w { sent = w.sent ++ (receiver, record { from = 0; body = body }) ∷ [] }

    new : (to : ℕ) (x : Message C) → In {X = ℕ × Message C} (to, x) ((receiver, record { from = 0; body = body }) ∷ []) → Carries rules (moment k v ∷ moment m w ∷ earlier) w.archive x.body
    new to x here = plain_carries rules (moment k v ∷ moment m w ∷ earlier) w.archive body plain
    new to x (there i) = elim i [ ]

    by_age : (to : ℕ) (x : Message C) → In (to, x) w.sent ⊎ In {X = ℕ × Message C} (to, x) ((receiver, record { from = 0; body = body }) ∷ []) →
        Carries rules (moment k v ∷ moment m w ∷ earlier) w.archive x.body
    by_age to x (inl i) = carries_in rules (moment m w ∷ earlier) (moment k v ∷ moment m w ∷ earlier) w.archive x.body (λ c j. there j) (q.each_sent to x i)
    by_age to x (inr i) = new to x i

-- .. or it was lost
pub master_unheard : {S C O : Type 0} (rules : Rules S C O) (config : Config) (m k : MasterState) (w : CutGroupWorld S C O) (earlier : List (Moment S C O)) →
    (q : Kept rules config m w earlier) → StepAdds rules m (whole_world w) k (whole_world w) (nothing_added C O) →
    KeptWith rules config k w (moment m w ∷ earlier) q.came (nothing_added C O)
master_unheard {S = S} {C = C} {O = O} rules config m k w earlier q step =
    record {
      kept = record {
        came = went_on q.came step.0;
        nodes = q.nodes;
        each_sent = λ to x i. carries_in rules (moment m w ∷ earlier) (moment k w ∷ moment m w ∷ earlier) w.archive x.body (λ c j. there j) (q.each_sent to x i);
        begins = λ ys agreed. let xs = has_agreed rules config (moment m w) earlier q.came in
            prefix_then (q.begins xs.0 xs.1) (grows_in config (moment m w ∷ earlier) (moment k w ∷ moment m w ∷ earlier) xs.0 ys (λ c i. there i) xs.1 agreed);
      };
      adds = adds_one q.came (nothing_added C O) step;
    }
