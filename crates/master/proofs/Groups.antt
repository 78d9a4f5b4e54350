-- Groups.antt: what a group counts and how it came to be, after each thing that it does.
use Rattle.std.proofs.Common.{◌≡◌, ℕ, zero, suc, ◌+◌, ◌<◌, ◌≤◌, ◌⊎◌, inl, inr, Bool, true, false, cond, max, List, [], ◌∷◌, ◌++◌, length, map, drop, take, take_all, get_or, Some, None, Option, refl, ap, sym, ◌∙◌, subst, arith}
use Rattle.std.specs.Prelude.{slice_get, ◌==◌, ◌&&◌}
use Rattle.std.proofs.lemmas.Bool.{cases_eq, cases_Bool, eqb-true}
use Rattle.std.proofs.lemmas.List.{drop_more, length-append, take-append-le, take_more}
use Rattle.std.proofs.Math.Seq.{take-length}
use Rattle.machine.specs.Machine.{Rules}
use Rattle.lists.specs.Lists.{In}
use Rattle.lists.specs.Lists.In.{here, there}
use Rattle.lists.proofs.Members.{in_append}
use Rattle.ballot_base.specs.LawfulConfig.{max_node}
use Rattle.ballot_base.specs.declared.config.Config.{Config}
use Rattle.ballot_base.specs.declared.message.Message.{Message}
use Rattle.ballot_base.specs.declared.message.Body.{Body}
use Rattle.ballot_base.specs.declared.message.Body.TheVariants.{NewBallot, Activate, Activated, Superseded}
use Rattle.ballot_base.specs.declared.message.Effect.{Effect}
use Rattle.ballot_base.specs.Replica.{ReplicaState, CountedReplica}
use Rattle.agreement.specs.cut_logs.World.{CutGroupWorld, messages, moved, outputs}
use Rattle.agreement.specs.World.{can_open}
use Rattle.agreement.specs.MasterState.{MasterState, assigning, activating, refusal}
use Rattle.agreement.specs.cut_logs.Masters.{assigned, activated}
use Rattle.agreement.specs.cut_logs.Moments.{Moment, Moments, opening_moment}
use Rattle.agreement.specs.cut_logs.Moments.Moments.{began, went_on}
use Rattle.agreement.specs.cut_logs.Steps.{sends_from_master}
use Rattle.master.specs.AcknowledgedLengths.{max_acknowledged, acknowledged_by, acknowledged_in}
use Rattle.master.proofs.Untold.{whole_untold}
use Rattle.master.proofs.WholeTold.{max_told_whole}
use Rattle.agreement.specs.cut_logs.Moments.{whole_moment}
use Rattle.agreement.proofs.of_cut_logs.MomentsKept.{moments_stand}
use Rattle.std.specs.Bool.{OnTrue, OnFalse}
use Rattle.ballot_base.specs.Losses.{Loses, Thinned, halted, one_more}
use Rattle.ballot_base.specs.StepOutcome.{Outcome}
use Rattle.ballot_base.specs.Protocol.{Input, replica_step}
use Rattle.ballot_base.proofs.ThinnedEffects.{Thinned-same}
use Rattle.agreement.specs.cut_logs.World.{MayTake}
use Rattle.master.specs.Group.{GroupState}
use Rattle.agreement.specs.cut_logs.Masters.{MasterOutcome}
use Rattle.master.specs.declared.activation.Activation.{Activation}
use Rattle.master.specs.declared.activation.Activation.TheVariants.{Activated as Granted, Superseded as Refused}
use Rattle.master.specs.Inside.{HasCounted, IsGroup, AcknowledgedIn, activation_answer, least_but_one, next_least, moment_of, world_of}
use Rattle.master.specs.Inside.Losses.{GroupCutOrLost, GroupMasterStepOrLost, GroupNodeStepOrLost}
use Rattle.master.specs.Exact.{moment_after_event}
use Rattle.master.specs.Outcomes.{cut_outcome}
use Rattle.master.specs.Outcomes.EventOutcome.{by_cut}
use Rattle.master.specs.Steps.{Freezes}
use Rattle.ballot_base.specs.Compaction.{can_cut}
use Rattle.master.proofs.Happening.{MayGo, IsMasterTurn, cut_may, master_may, master_turn_lost, node_may}
use Rattle.master.proofs.Happening.IsTurn.{it_takes, it_stops}
use Rattle.master.proofs.Happening.IsMasterTurn.{it_gives, it_answers}

-- a message more
pub max_told_more : {C : Type 0} (m b : ℕ) (sent more : List (ℕ × Message C)) →
    max_acknowledged m b (sent ++ more) ≡ max (max_acknowledged m b sent) (max_acknowledged m b more)
max_told_more m b [] more = let e : max_acknowledged m b more ≡ max 0 (max_acknowledged m b more) = omega arith in e
max_told_more m b (x ∷ sent) more =
    let e = max_told_more m b sent more in
    ap (max (acknowledged_in m b x.1)) e
    ∙ (let f : max (acknowledged_in m b x.1) (max (max_acknowledged m b sent) (max_acknowledged m b more)) ≡ max (max (acknowledged_in m b x.1) (max_acknowledged m b sent)) (max_acknowledged m b more) = omega arith in f)

-- messages that say nothing
pub max_told_none : {C : Type 0} (m b : ℕ) (sent : List (ℕ × Message C)) → ((x : ℕ × Message C) → In x sent → acknowledged_in m b x.1 ≡ 0) →
    max_acknowledged m b sent ≡ 0
max_told_none m b [] all = refl
max_told_none m b (x ∷ sent) all =
    let e = all x here in let f = max_told_none m b sent (λ y i. all y (there i)) in omega (arith, e, f)

-- what is counted stays so after a message that says nothing
pub counted_still : {C : Type 0} (sent : List (ℕ × Message C)) (x : ℕ × Message C) (t : AcknowledgedIn) → ((m b : ℕ) → acknowledged_in m b x.1 ≡ 0) →
    HasCounted sent t → HasCounted (sent ++ x ∷ []) t
counted_still {C = C} sent x t none h m low =
    let e = max_told_more m t.ballot sent (x ∷ []) in
    let f : max_acknowledged m t.ballot (x ∷ []) ≡ 0 = (let z = none m t.ballot in omega (arith, z)) in
    let y = h m low in omega (arith, e, f, y)

-- what one body acknowledges
silent : {C : Type 0} (m b from : ℕ) (body : Body C) → acknowledged_by b body ≡ 0 → acknowledged_in m b (record { from = from; body = body }) ≡ 0
silent m b from body e = by_sender (cases_Bool (from == m))
  where
    by_sender : ((from == m) ≡ true) ⊎ ((from == m) ≡ false) → cond (from == m) (acknowledged_by b body) 0 ≡ 0
    by_sender (inl f) = ap (λ k. cond k (acknowledged_by b body) 0) f ∙ e
    by_sender (inr f) = ap (λ k. cond k (acknowledged_by b body) 0) f

-- the master acknowledges no length
pub new_ballot_silent : (C : Type 0) (receiver from ballot previous : ℕ) (members old : List ℕ) (m b : ℕ) →
    acknowledged_in {C = C} m b (record { from = from; body = NewBallot ballot members previous old }) ≡ 0
new_ballot_silent C receiver from ballot previous members old m b = silent {C = C} m b from (NewBallot ballot members previous old) refl

pub answer_silent : (C : Type 0) (from ballot : ℕ) (granted : Bool) (m b : ℕ) →
    acknowledged_in {C = C} m b (record { from = from; body = cond granted (Activated ballot) (Superseded ballot) }) ≡ 0
answer_silent C from ballot true m b = silent {C = C} m b from (Activated ballot) refl
answer_silent C from ballot false m b = silent {C = C} m b from (Superseded ballot) refl

-- nothing was acknowledged in the ballot that comes next
pub untold_next : {S C O : Type 0} (rules : Rules S C O) (config : Config) (a : Moment S C O) (moments : List (Moment S C O)) → Moments rules config (a ∷ moments) →
    (m : ℕ) → max_acknowledged m (a.master.given + 1) a.world.sent ≡ 0
untold_next {S = S} {C = C} {O = O} rules config a moments came m =
    let q = moments_stand rules config a moments came in
    max_told_whole m (a.master.given + 1) a.world.archive a.world.sent ∙ whole_untold rules config (whole_moment a) q.earlier q.kept.came m

-- a group opens
pub group_opens : {S C O : Type 0} (rules : Rules S C O) (nodes : ℕ) (config : Config) (a : Moment S C O) (told next : AcknowledgedIn) → can_open max_node nodes config ≡ true →
    a ≡ opening_moment rules max_node nodes config → told.ballot ≡ 1 → ((m : ℕ) → get_or told.held m 0 ≡ 0) → ((m : ℕ) → get_or next.held m 0 ≡ 0) →
    IsGroup rules a told next
group_opens {S = S} {C = C} {O = O} rules nodes config a told next lawful is one none none_next =
    subst (λ (v : Moment S C O). IsGroup rules v told next) (sym is)
    (record {
      config = config;
      moments = [];
      came = began max_node nodes lawful refl;
      bounded = refl;
      active = one;
      counted = λ m low. none m;
      waits = λ b c e. cc;
      counted_next = λ m low. none_next m;
    })

-- a node did something
pub group_goes : {S C O : Type 0} (rules : Rules S C O) (a v : Moment S C O) (told next told' next' : AcknowledgedIn) → IsGroup rules a told next → MayGo rules a v →
    v.master ≡ a.master → told'.ballot ≡ told.ballot → HasCounted v.world.sent told' → next'.ballot ≡ next.ballot → HasCounted v.world.sent next' →
    IsGroup rules v told' next'
group_goes {S = S} {C = C} {O = O} rules a v told next told' next' g may same one counted two counted_next =
    record {
      config = g.config;
      moments = a ∷ g.moments;
      came = went_on g.came may;
      bounded = ap (λ (m : MasterState). m.greatest) same ∙ g.bounded;
      active = one ∙ g.active ∙ sym (ap (λ (m : MasterState). m.active) same);
      counted = counted;
      waits = λ b c e. two ∙ g.waits b c (sym (ap (λ (m : MasterState). m.waiting) same) ∙ e);
      counted_next = counted_next;
    }

-- messages after those before
pub front_of : {X : Type 0} (n : ℕ) (xs ys more : List X) → more ≡ xs ++ ys → n ≡ length xs → take n more ≡ xs
front_of {X = X} n xs ys more is at =
    ap (take n) is ∙ ap (λ k. take k (xs ++ ys)) at ∙ take-append-le (length xs) xs ys (omega arith) ∙ take-length xs

-- the master gave a ballot: it was sent to its primary, or not
pub group_gives : {S C O : Type 0} (rules : Rules S C O) (a v : Moment S C O) (config : Config) (told next next' : AcknowledgedIn) → IsGroup rules a told next →
    refusal a.master config ≡ None → v.master ≡ assigning a.master config →
    (v.world ≡ sends_from_master a.world (assigned C a.master config)) ⊎ (v.world ≡ a.world) →
    next'.ballot ≡ a.master.given + 1 → ((m : ℕ) → get_or next'.held m 0 ≡ 0) → IsGroup rules v told next'
group_gives {S = S} {C = C} {O = O} rules a v config told next next' g granted master world ballot none = by_world world
  where
    acts : IsMasterTurn a (assigned C a.master config)
    acts = it_gives config granted refl

    waits : (b : ℕ) (c : Config) → v.master.waiting ≡ Some (b, c) → next'.ballot ≡ b
    waits b c e =
        let f : ◌≡◌ {A = Option (ℕ × Config)} (Some (a.master.given + 1, config)) (Some (b, c)) = sym (ap (λ (m : MasterState). m.waiting) master) ∙ e in
        let both : ◌≡◌ {A = ℕ × Config} (a.master.given + 1, config) (b, c) = cc in
        ballot ∙ ap (λ (y : ℕ × Config). y.0) both

    empty : HasCounted a.world.sent next'
    empty m low = none m ∙ sym (untold_next rules g.config a g.moments g.came m) ∙ ap (λ b. max_acknowledged m b a.world.sent) (sym ballot)

    made : (w : CutGroupWorld S C O) → MayGo rules a (record { master = assigning a.master config; world = w }) → v.world ≡ w →
        HasCounted w.sent told → HasCounted w.sent next' → IsGroup rules v told next'
    made w may is counted counted_next =
        record {
          config = g.config;
          moments = a ∷ g.moments;
          came = went_on g.came (subst (λ (u : Moment S C O). MayGo rules a u) (sym (whole is)) may);
          bounded = ap (λ (m : MasterState). m.greatest) master ∙ g.bounded;
          active = g.active ∙ sym (ap (λ (m : MasterState). m.active) master);
          counted = subst (λ (u : CutGroupWorld S C O). HasCounted u.sent told) (sym is) counted;
          waits = waits;
          counted_next = subst (λ (u : CutGroupWorld S C O). HasCounted u.sent next') (sym is) counted_next;
        }
      where
        whole : v.world ≡ w → v ≡ record { master = assigning a.master config; world = w }
        whole e =
            ap (λ m. let u : Moment S C O = record { master = m; world = v.world } in u) master
            ∙ ap (λ x. let u : Moment S C O = record { master = assigning a.master config; world = x } in u) e

    by_world : (v.world ≡ sends_from_master a.world (assigned C a.master config)) ⊎ (v.world ≡ a.world) → IsGroup rules v told next'
    by_world (inl e) =
        made (sends_from_master a.world (assigned C a.master config)) (master_may rules a (assigned C a.master config) acts) e
        (counted_still a.world.sent _ told (λ m b. new_ballot_silent C config.primary 0 (a.master.given + 1) a.master.active config.members a.master.members m b) g.counted)
        (counted_still a.world.sent _ next' (λ m b. new_ballot_silent C config.primary 0 (a.master.given + 1) a.master.active config.members a.master.members m b) empty)
    by_world (inr e) = made a.world (master_turn_lost rules a (assigned C a.master config) acts) e g.counted empty

-- which ballot is active and which one waits after an Activate
pub record Stays (m k : MasterState) : Type 0 where
  pub same_active : k.active ≡ m.active
  pub waits : (b : ℕ) (c : Config) → k.waiting ≡ Some (b, c) → m.waiting ≡ Some (b, c)

pub record Turns (m k : MasterState) : Type 0 where
  pub config : Config
  pub waited : m.waiting ≡ Some (k.active, config)
  pub none : (b : ℕ) (c : Config) → k.waiting ≡ Some (b, c) → ⊥

pub stays_or_turns : (m : MasterState) (b : ℕ) (waiting : Option (ℕ × Config)) → m.waiting ≡ waiting →
    Stays m (activating m b waiting) ⊎ Turns m (activating m b waiting)
stays_or_turns m b None e = inl (record { same_active = refl; waits = λ x c f. f })
stays_or_turns m b (Some (x, config)) e = by_ballot (cases_Bool (b == x))
  where
    by_ballot : ((b == x) ≡ true) ⊎ ((b == x) ≡ false) →
        Stays m (activating m b (Some (x, config))) ⊎ Turns m (activating m b (Some (x, config)))
    by_ballot (inl f) =
        rw f (inr (record { config = config; waited = e ∙ ap (λ y. Some (y, config)) (sym (eqb-true b x f)); none = λ y c g. cc }))
    by_ballot (inr f) = rw f (inl (record { same_active = refl; waits = λ y c g. g }))

-- an Activate does not change which numbers members may have
same_bound : (m : MasterState) (b : ℕ) (waiting : Option (ℕ × Config)) → (activating m b waiting).greatest ≡ m.greatest
same_bound m b None = refl
same_bound m b (Some (x, config)) = by_ballot (b == x)
  where
    by_ballot : (same : Bool) → (cond same (record m { active = b; members = config.members; waiting = None }) m).greatest ≡ m.greatest
    by_ballot true = refl
    by_ballot false = refl

-- the master answered: the counters of the ballot that waited are those of the active one now, if it
-- is active now
pub group_answers : {S C O : Type 0} (rules : Rules S C O) (a v : Moment S C O) (from b : ℕ) (told next told' next' : AcknowledgedIn) → IsGroup rules a told next →
    In (0, record { from = from; body = Activate b }) a.world.sent → v.master ≡ activating a.master b a.master.waiting →
    (v.world ≡ sends_from_master a.world (activated C a.master b from a.master.waiting)) ⊎ (v.world ≡ a.world) →
    ((v.master.active ≡ a.master.active) × (told' ≡ told) × (next' ≡ next))
    ⊎ ((v.master.active ≡ a.master.active → ⊥) × (told' ≡ next) × (next' ≡ told)) →
    IsGroup rules v told' next'
group_answers {S = S} {C = C} {O = O} rules a v from b told next told' next' g sent master world way = by_world world
  where
    acts : IsMasterTurn a (activated C a.master b from a.master.waiting)
    acts = it_answers from b sent refl

    turns : Stays a.master v.master ⊎ Turns a.master v.master
    turns = subst (λ (k : MasterState). Stays a.master k ⊎ Turns a.master k) (sym master) (stays_or_turns a.master b a.master.waiting refl)

    both : (P : AcknowledgedIn → Type 0) → P told → P next → P told' × P next'
    both P x y = by_way way
      where
        by_way : ((v.master.active ≡ a.master.active) × (told' ≡ told) × (next' ≡ next))
            ⊎ ((v.master.active ≡ a.master.active → ⊥) × (told' ≡ next) × (next' ≡ told)) → P told' × P next'
        by_way (inl (s, e, f)) = (subst P (sym e) x, subst P (sym f) y)
        by_way (inr (s, e, f)) = (subst P (sym e) y, subst P (sym f) x)

    active : told'.ballot ≡ v.master.active
    active = by_way way turns
      where
        by_way : ((v.master.active ≡ a.master.active) × (told' ≡ told) × (next' ≡ next))
            ⊎ ((v.master.active ≡ a.master.active → ⊥) × (told' ≡ next) × (next' ≡ told)) → Stays a.master v.master ⊎ Turns a.master v.master →
            told'.ballot ≡ v.master.active
        by_way (inl (s, e, f)) t = ap (λ (x : AcknowledgedIn). x.ballot) e ∙ g.active ∙ sym s
        by_way (inr (s, e, f)) (inl t) = absurd (s t.same_active)
        by_way (inr (s, e, f)) (inr t) = ap (λ (x : AcknowledgedIn). x.ballot) e ∙ g.waits v.master.active t.config t.waited

    waits : (x : ℕ) (c : Config) → v.master.waiting ≡ Some (x, c) → next'.ballot ≡ x
    waits x c is = by_way way turns
      where
        by_way : ((v.master.active ≡ a.master.active) × (told' ≡ told) × (next' ≡ next))
            ⊎ ((v.master.active ≡ a.master.active → ⊥) × (told' ≡ next) × (next' ≡ told)) → Stays a.master v.master ⊎ Turns a.master v.master →
            next'.ballot ≡ x
        by_way (inl (s, e, f)) (inl t) = ap (λ (y : AcknowledgedIn). y.ballot) f ∙ g.waits x c (t.waits x c is)
        by_way (inl (s, e, f)) (inr t) = absurd (t.none x c is)
        by_way (inr (s, e, f)) (inl t) = absurd (s t.same_active)
        by_way (inr (s, e, f)) (inr t) = absurd (t.none x c is)

    made : (w : CutGroupWorld S C O) → MayGo rules a (record { master = activating a.master b a.master.waiting; world = w }) → v.world ≡ w →
        ((t : AcknowledgedIn) → HasCounted a.world.sent t → HasCounted w.sent t) → IsGroup rules v told' next'
    made w may is keeps =
        let z = both (λ t. HasCounted w.sent t) (keeps told g.counted) (keeps next g.counted_next) in
        record {
          config = g.config;
          moments = a ∷ g.moments;
          came = went_on g.came (subst (λ (u : Moment S C O). MayGo rules a u) (sym (whole is)) may);
          bounded = ap (λ (m : MasterState). m.greatest) master ∙ same_bound a.master b a.master.waiting ∙ g.bounded;
          active = active;
          counted = subst (λ (u : CutGroupWorld S C O). HasCounted u.sent told') (sym is) z.0;
          waits = waits;
          counted_next = subst (λ (u : CutGroupWorld S C O). HasCounted u.sent next') (sym is) z.1;
        }
      where
        whole : v.world ≡ w → v ≡ record { master = activating a.master b a.master.waiting; world = w }
        whole e =
            ap (λ m. let u : Moment S C O = record { master = m; world = v.world } in u) master
            ∙ ap (λ x. let u : Moment S C O = record { master = activating a.master b a.master.waiting; world = x } in u) e

    by_world : (v.world ≡ sends_from_master a.world (activated C a.master b from a.master.waiting)) ⊎ (v.world ≡ a.world) → IsGroup rules v told' next'
    by_world (inl e) =
        made (sends_from_master a.world (activated C a.master b from a.master.waiting)) (master_may rules a (activated C a.master b from a.master.waiting) acts) e
        (λ t h. counted_still a.world.sent _ t (λ m x. answer_silent C 0 b _ m x) h)
    by_world (inr e) = made a.world (master_turn_lost rules a (activated C a.master b from a.master.waiting) acts) e (λ t h. h)

-- one message more is received
pub counted_next : {C : Type 0} (sent : List (ℕ × Message C)) (i : ℕ) (x : ℕ × Message C) (t u : AcknowledgedIn) → i < length sent → x ≡ get_or sent i x →
    u.ballot ≡ t.ballot → ((m : ℕ) → m < 16 → get_or u.held m 0 ≡ max (get_or t.held m 0) (acknowledged_in m t.ballot x.1)) →
    HasCounted (take i sent) t → HasCounted (take (i + 1) sent) u
counted_next {C = C} sent i x t u below read ballot heard h m low =
    let now : take (i + 1) sent ≡ take i sent ++ x ∷ [] = take_more sent i x below ∙ ap (λ (y : ℕ × Message C). take i sent ++ y ∷ []) (sym read) in
    let e = max_told_more m t.ballot (take i sent) (x ∷ []) in
    let a = heard m low in let b = h m low in
    a ∙ (let z : max (get_or t.held m 0) (acknowledged_in m t.ballot x.1) ≡ max_acknowledged m t.ballot (take i sent ++ x ∷ []) = omega (arith, b, e) in z)
    ∙ ap (λ us. max_acknowledged m t.ballot us) (sym now) ∙ ap (λ k. max_acknowledged m k (take (i + 1) sent)) (sym ballot)

-- all of them were received
pub counted_all : {C : Type 0} (sent : List (ℕ × Message C)) (i : ℕ) (t : AcknowledgedIn) → length sent ≤ i → HasCounted (take i sent) t → HasCounted sent t
counted_all {C = C} sent i t moments h = subst (λ us. HasCounted us t) (take_all i sent moments) h

-- an item of a list
pub in_item : {X : Type 0} (xs : List X) (i : ℕ) (d : X) → i < length xs → In (get_or xs i d) xs
in_item [] i d below = absurd (omega (arith, below))
in_item (x ∷ xs) zero d below = here
in_item (x ∷ xs) (suc i) d below = there (in_item xs i d (omega (arith, below)))

-- the master says something, or its message is lost
pub master_sends : {S C O : Type 0} (archive : List C) (nodes : List (CountedReplica S C)) (sent more : List (ℕ × Message C)) (left : List (Effect C O)) (losses counted : ℕ) (o : MasterOutcome C)
    (body : Body C) (whole : Bool) → body ≡ o.body → OnTrue whole (more ≡ sent ++ (o.receiver, record { from = 0; body = body }) ∷ []) → OnFalse whole (more ≡ sent) →
    counted ≡ cond (whole && true) losses (one_more losses) →
    ((world_of archive nodes more left ≡ sends_from_master (world_of archive nodes sent left) o) × (counted ≡ losses))
    ⊎ ((world_of archive nodes more left ≡ world_of archive nodes sent left) × (counted ≡ one_more losses))
master_sends {S = S} {C = C} {O = O} archive nodes sent more left losses counted o body true same told lost count =
    inl (ap (λ us. world_of archive nodes us left) (told ∙ ap (λ x. sent ++ (o.receiver, let z : Message C = record { from = 0; body = x } in z) ∷ []) same), count)
master_sends {S = S} {C = C} {O = O} archive nodes sent more left losses counted o body false same told lost count = inr (ap (λ us. world_of archive nodes us left) lost, count)

-- so it took its step
pub master_took : {S C O : Type 0} (archive : List C) (m k : MasterState) (nodes : List (CountedReplica S C)) (sent more : List (ℕ × Message C)) (left : List (Effect C O)) (losses counted : ℕ)
    (o : MasterOutcome C) → k ≡ o.state →
    ((world_of archive nodes more left ≡ sends_from_master (world_of archive nodes sent left) o) × (counted ≡ losses))
    ⊎ ((world_of archive nodes more left ≡ world_of archive nodes sent left) × (counted ≡ one_more losses)) →
    GroupMasterStepOrLost (record { moment = moment_of archive m nodes sent left; losses = losses }) o (record { moment = moment_of archive k nodes more left; losses = counted })
master_took {S = S} {C = C} {O = O} archive m k nodes sent more left losses counted o is (inl (e, f)) =
    record {
      way = inl (
        ap (λ x. let z : Moment S C O = record { master = x; world = world_of archive nodes more left } in z) is
            ∙ ap (λ w. let z : Moment S C O = record { master = o.state; world = w } in z) e,
        f,
      );
    }
master_took {S = S} {C = C} {O = O} archive m k nodes sent more left losses counted o is (inr (e, f)) =
    record {
      way = inr (
        ap (λ x. let z : Moment S C O = record { master = x; world = world_of archive nodes more left } in z) is
            ∙ ap (λ w. let z : Moment S C O = record { master = o.state; world = w } in z) e,
        f,
      );
    }

pub world_is : {X Y : Type 0} {P Q : Type 0} → (P × X) ⊎ (Q × Y) → P ⊎ Q
world_is (inl (e, f)) = inl e
world_is (inr (e, f)) = inr e

-- what the master answers
pub answer_is : {C : Type 0} (b : ℕ) (granted : Bool) (activation : Activation) (body : Body C) → activation ≡ cond granted Granted Refused →
    body ≡ activation_answer activation b → body ≡ cond granted (Activated b) (Superseded b)
answer_is b true activation body e is = is ∙ ap (λ a. activation_answer a b) e
answer_is b false activation body e is = is ∙ ap (λ a. activation_answer a b) e

-- which counters correspond to the active ballot after an Activate
pub turned : (told next told' next' : AcknowledgedIn) (before moment_after_event : ℕ) →
    (before ≡ moment_after_event → (told' ≡ told) × (next' ≡ next)) → ((before ≡ moment_after_event → ⊥) → (told' ≡ next) × (next' ≡ told)) →
    ((moment_after_event ≡ before) × (told' ≡ told) × (next' ≡ next)) ⊎ ((moment_after_event ≡ before → ⊥) × (told' ≡ next) × (next' ≡ told))
turned told next told' next' before moment_after_event stays turns = by_ballot (cases_eq before moment_after_event)
  where
    by_ballot : (before ≡ moment_after_event) ⊎ (before ≡ moment_after_event → ⊥) →
        ((moment_after_event ≡ before) × (told' ≡ told) × (next' ≡ next)) ⊎ ((moment_after_event ≡ before → ⊥) × (told' ≡ next) × (next' ≡ told))
    by_ballot (inl e) = inl (sym e, (stays e).0, (stays e).1)
    by_ballot (inr ne) = inr (λ e. ne (sym e), (turns ne).0, (turns ne).1)

-- a node took its step
pub group_turns : {S C O : Type 0} (rules : Rules S C O) (a v : Moment S C O) (told next told' next' : AcknowledgedIn) (old new : GroupState S C O) (input : Input C)
    (n from : ℕ) (r : ReplicaState S C) (more : List (Effect C O)) (sent : List (ℕ × Message C)) → IsGroup rules a told next → old.moment ≡ a → new.moment ≡ v →
    slice_get a.world.nodes n ≡ Some r → r.stopped ≡ false → MayTake a.world n input →
    GroupNodeStepOrLost rules old (record { index = n; before = r; outcome = replica_step rules r input }) new →
    v.world.sent ≡ sent → from ≡ length a.world.sent → sent ≡ a.world.sent ++ messages more →
    told'.ballot ≡ told.ballot → (HasCounted (take from sent) told → HasCounted sent told') →
    next'.ballot ≡ next.ballot → (HasCounted (take from sent) next → HasCounted sent next') → IsGroup rules v told' next'
group_turns {S = S} {C = C} {O = O} rules a v told next told' next' old new input n from r more sent g is_old is_new stands going may took sent_is at grown one counts two counts_next =
    group_goes rules a v told next told' next' g
    (subst (λ (u : Moment S C O). MayGo rules a u) (sym moved_so) (node_may rules a.master a.world _ took.state took.given (it_takes input stands going may refl) loses))
    (ap (λ (u : Moment S C O). u.master) moved_so) one
    (subst (λ us. HasCounted us told') (sym sent_is) (counts (subst (λ us. HasCounted us told) (sym before) g.counted))) two
    (subst (λ us. HasCounted us next') (sym sent_is) (counts_next (subst (λ us. HasCounted us next) (sym before) g.counted_next)))
  where
    moved_so : v ≡ record a { world = moved a.world n took.state took.given }
    moved_so = sym is_new ∙ took.moment ∙ ap (λ (u : Moment S C O). let z : Moment S C O = record u { world = moved u.world n took.state took.given } in z) is_old

    before : take from sent ≡ a.world.sent
    before = front_of from a.world.sent (messages more) sent grown at

    loses : Loses rules r (replica_step rules r input) took.state took.given
    loses = by_way took.way
      where
        by_way : ((took.state ≡ (replica_step rules r input).state) × (took.given ≡ (replica_step rules r input).effects) × (new.losses ≡ old.losses))
            ⊎ (Loses rules r (replica_step rules r input) took.state took.given × (new.losses ≡ one_more old.losses)) →
            Loses rules r (replica_step rules r input) took.state took.given
        by_way (inl (e, f, l)) = inl (e, subst (λ (us : List (Effect C O)). Thinned us (replica_step rules r input).effects) (sym f) (Thinned-same (replica_step rules r input).effects))
        by_way (inr (l, c)) = l

-- one more of the two least
pub least_more : (told ms : List ℕ) (i : ℕ) (pair more : ℕ × ℕ) (held x : ℕ) → i < length ms → more ≡ next_least pair.0 pair.1 held →
    held ≡ get_or told (get_or ms i 0) 0 → least_but_one told pair.0 pair.1 (drop i ms) ≡ x → least_but_one told more.0 more.1 (drop (i + 1) ms) ≡ x
least_more told ms i pair more held x below next read so =
    ap (λ (p : ℕ × ℕ). least_but_one told p.0 p.1 (drop (i + 1) ms)) (next ∙ ap (next_least pair.0 pair.1) read)
    ∙ ap (least_but_one told pair.0 pair.1) (sym (drop_more ms i 0 below)) ∙ so

-- there are at least as many as before
pub more_than : {X : Type 0} (n : ℕ) (xs ys more now : List X) → now ≡ more → more ≡ xs ++ ys → n ≡ length xs → n ≤ length now
more_than n xs ys more now is grown at =
    let e = ap length is ∙ ap length grown ∙ length-append xs ys in omega (arith, e, at)

-- a node stopped
pub group_stops : {S C O : Type 0} (rules : Rules S C O) (a v : Moment S C O) (told next : AcknowledgedIn) (old new : GroupState S C O)
    (n : ℕ) (r : ReplicaState S C) → IsGroup rules a told next → old.moment ≡ a → new.moment ≡ v →
    slice_get a.world.nodes n ≡ Some r → r.stopped ≡ false →
    GroupNodeStepOrLost rules old (record { index = n; before = r; outcome = record { state = halted rules r; effects = [] } }) new →
    v.world.sent ≡ a.world.sent → IsGroup rules v told next
group_stops {S = S} {C = C} {O = O} rules a v told next old new n r g is_old is_new stands going took sent_is =
    group_goes rules a v told next told next g
    (subst (λ (u : Moment S C O). MayGo rules a u) (sym moved_so) (node_may rules a.master a.world _ took.state took.given (it_stops stands going refl) loses))
    (ap (λ (u : Moment S C O). u.master) moved_so) refl
    (subst (λ us. HasCounted us told) (sym sent_is) g.counted) refl
    (subst (λ us. HasCounted us next) (sym sent_is) g.counted_next)
  where
    stopped : Outcome S C O
    stopped = record { state = halted rules r; effects = [] }

    moved_so : v ≡ record a { world = moved a.world n took.state took.given }
    moved_so = sym is_new ∙ took.moment ∙ ap (λ (u : Moment S C O). let z : Moment S C O = record u { world = moved u.world n took.state took.given } in z) is_old

    loses : Loses rules r stopped took.state took.given
    loses = by_way took.way
      where
        by_way : ((took.state ≡ stopped.state) × (took.given ≡ stopped.effects) × (new.losses ≡ old.losses))
            ⊎ (Loses rules r stopped took.state took.given × (new.losses ≡ one_more old.losses)) → Loses rules r stopped took.state took.given
        by_way (inl (e, f, l)) = inl (e, subst (λ (us : List (Effect C O)). Thinned us stopped.effects) (sym f) (Thinned-same stopped.effects))
        by_way (inr (l, c)) = l

-- the same for the group as it is seen
pub took_as_seen : {S C O : Type 0} (archive : List C) (m k : MasterState) (nodes : List (CountedReplica S C)) (sent more : List (ℕ × Message C)) (left : List (Effect C O)) (losses counted : ℕ)
    (o : MasterState → MasterOutcome C) (seen : GroupState S C O) → (let z : GroupState S C O = record { moment = moment_of archive m nodes sent left; losses = losses } in z) ≡ seen →
    k ≡ (o m).state →
    ((world_of archive nodes more left ≡ sends_from_master (world_of archive nodes sent left) (o m)) × (counted ≡ losses))
    ⊎ ((world_of archive nodes more left ≡ world_of archive nodes sent left) × (counted ≡ one_more losses)) →
    GroupMasterStepOrLost seen (o seen.moment.master) (record { moment = moment_of archive k nodes more left; losses = counted })
took_as_seen {S = S} {C = C} {O = O} archive m k nodes sent more left losses counted o seen is state way =
    subst (λ (z : GroupState S C O). GroupMasterStepOrLost z (o z.moment.master) (record { moment = moment_of archive k nodes more left; losses = counted })) is
    (master_took archive m k nodes sent more left losses counted (o m) state way)

-- the same if a ballot was given
pub took_given : {S C O : Type 0} (archive : List C) (m k : MasterState) (nodes : List (CountedReplica S C)) (sent more : List (ℕ × Message C)) (left : List (Effect C O)) (losses counted : ℕ)
    (config : Config) (seen : GroupState S C O) → (let z : GroupState S C O = record { moment = moment_of archive m nodes sent left; losses = losses } in z) ≡ seen →
    k ≡ assigning m config →
    ((world_of archive nodes more left ≡ sends_from_master (world_of archive nodes sent left) (assigned C m config)) × (counted ≡ losses))
    ⊎ ((world_of archive nodes more left ≡ world_of archive nodes sent left) × (counted ≡ one_more losses)) →
    GroupMasterStepOrLost seen (assigned C seen.moment.master config) (record { moment = moment_of archive k nodes more left; losses = counted })
took_given {S = S} {C = C} {O = O} archive m k nodes sent more left losses counted config seen is state way =
    took_as_seen archive m k nodes sent more left losses counted (λ x. assigned C x config) seen is state way

-- the message of a new ballot
pub new_ballot_is : {C : Type 0} (b : ℕ) (m : MasterState) (config given : Config) (members old : List ℕ) (previous : ℕ) → given ≡ config → members ≡ config.members →
    b ≡ m.given + 1 → previous ≡ m.active → old ≡ m.members →
    ◌≡◌ {A = Body C} (NewBallot b members previous old) (NewBallot (m.given + 1) config.members m.active m.members)
new_ballot_is {C = C} b m config given members old previous e f h i j =
    ap (λ x. let z : Body C = NewBallot x members previous old in z) h ∙ ap (λ x. let z : Body C = NewBallot (m.given + 1) x previous old in z) f
    ∙ ap (λ x. let z : Body C = NewBallot (m.given + 1) config.members x old in z) i
    ∙ ap (λ x. let z : Body C = NewBallot (m.given + 1) config.members m.active x in z) j

-- a list of one
pub sole_is : (xs : List ℕ) → length xs ≡ 1 → xs ≡ get_or xs 0 0 ∷ []
sole_is [] e = absurd (omega (arith, e))
sole_is (x ∷ []) e = refl
sole_is (x ∷ (y ∷ xs)) e = absurd (omega (arith, e))

-- the item of a list of one
only_item : (m x : ℕ) → In m (x ∷ []) → m ≡ x
only_item m x here = refl
only_item m x (there i) = elim i [ ]

-- what holds for each item so far holds for one more, and in the end of all
pub in_nothing : {P : Type 0} (m : ℕ) → In m [] → P
in_nothing m i = elim i [ ]

pub in_taken : (xs : List ℕ) (i : ℕ) (P : ℕ → Type 0) → i < length xs → ((m : ℕ) → In m (take i xs) → P m) → P (get_or xs i 0) →
    (m : ℕ) → In m (take (i + 1) xs) → P m
in_taken xs i P below before now m j = by_place (in_append (take i xs) (get_or xs i 0 ∷ []) (subst (λ us. In m us) (take_more xs i 0 below) j))
  where
    last : In m (get_or xs i 0 ∷ []) → P m
    last k = subst P (sym (only_item m (get_or xs i 0) k)) now

    by_place : In m (take i xs) ⊎ In m (get_or xs i 0 ∷ []) → P m
    by_place (inl k) = before m k
    by_place (inr k) = last k

pub in_whole : (xs : List ℕ) (i m : ℕ) → length xs ≤ i → In m xs → In m (take i xs)
in_whole xs i m moments j = subst (λ us. In m us) (sym (take_all i xs moments)) j

-- a node cut its log, or memory ran out for that
pub group_cuts : {S C O : Type 0} (rules : Rules S C O) (a v : Moment S C O) (told next : AcknowledgedIn) (old new : GroupState S C O)
    (n : ℕ) (r : ReplicaState S C) → IsGroup rules a told next → old.moment ≡ a → new.moment ≡ v →
    slice_get a.world.nodes n ≡ Some r → can_cut r ≡ true → GroupCutOrLost rules old (cut_outcome rules n r) new → v.world.sent ≡ a.world.sent →
    IsGroup rules v told next
group_cuts {S = S} {C = C} {O = O} rules a v told next old new n r g is_old is_new stands can took sent_is = by_way took.way
  where
    by_way : ((new.moment ≡ moment_after_event old.moment (Some (by_cut (cut_outcome rules n r)))) × (new.losses ≡ old.losses) × Freezes rules (Some (by_cut (cut_outcome rules n r))))
        ⊎ (new ≡ record old { losses = one_more old.losses }) → IsGroup rules v told next
    by_way (inl (is, same, freezes)) =
        let so : v ≡ moment_after_event a (Some (by_cut (cut_outcome rules n r))) =
        sym is_new ∙ is ∙ ap (λ (u : Moment S C O). moment_after_event u (Some (by_cut (cut_outcome rules n r)))) is_old in
        group_goes rules a v told next told next g
        (subst (λ (u : Moment S C O). MayGo rules a u) (sym so)
        (cut_may rules a.master a.world (cut_outcome rules n r) (record { stands = stands; can = can; is = refl }) freezes))
        (ap (λ (u : Moment S C O). u.master) so) refl
        (subst (λ us. HasCounted us told) (sym sent_is) g.counted) refl
        (subst (λ us. HasCounted us next) (sym sent_is) g.counted_next)
    by_way (inr lost) =
        subst (λ (u : Moment S C O). IsGroup rules u told next) (sym (sym is_new ∙ ap (λ (z : GroupState S C O). z.moment) lost ∙ is_old)) g

-- a group of which the record and the nodes are as they were
pub group_kept : {S C O : Type 0} (rules : Rules S C O) (archive more : List C) (m : MasterState) (nodes later : List (CountedReplica S C)) (sent : List (ℕ × Message C))
    (left : List (Effect C O)) (told next : AcknowledgedIn) → more ≡ archive →
    map (λ (z : CountedReplica S C). z.state) later ≡ map (λ (z : CountedReplica S C). z.state) nodes →
    IsGroup rules (moment_of archive m nodes sent left) told next → IsGroup rules (moment_of more m later sent left) told next
group_kept {S = S} {C = C} {O = O} rules archive more m nodes later sent left told next kept same g =
    subst (λ (a : Moment S C O). IsGroup rules a told next)
    (sym (ap (λ us. moment_of us m later sent left) kept
    ∙ ap (λ ss. let z : Moment S C O = record { master = m; world = record { nodes = ss; sent = sent; left = outputs left; archive = archive } } in z) same)) g
