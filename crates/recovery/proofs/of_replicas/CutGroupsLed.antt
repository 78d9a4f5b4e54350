-- CutGroupsLed.antt: from every moment of a group whose nodes cut their logs there is a way out.
use Rattle.std.proofs.Common.{◌≡◌, ℕ, ◌+◌, ◌-◌, ◌⊎◌, inl, inr, List, [], ◌∷◌, ◌++◌, length, map, None, Option, refl, ap, sym, ◌∙◌, subst, length-append, ◌*◌}
use Rattle.std.proofs.lemmas.Bool.{both_ways}
use Rattle.std.proofs.lemmas.List.{length-map, map-append}
use Rattle.lists.specs.Lists.{In}
use Rattle.machine.specs.Machine.{Rules}
use Rattle.agreement.specs.MasterState.{AssignRefusal, MasterState, master_after, refusal}
use Rattle.agreement.specs.Moments.{Moment as WholeMoment, Moments as WholeMoments}
use Rattle.agreement.specs.Moments.Moments.{went_on as whole_went_on}
use Rattle.agreement.specs.Steps.{MayHappen as WholeMayHappen, world_after as whole_after}
use Rattle.agreement.specs.Steps.MayHappen.{master_assigns as whole_assigns}
use Rattle.agreement.specs.whole_logs.Messages.Body.{Held}
use Rattle.agreement.specs.whole_logs.Messages.{Message as WholeMessage}
use Rattle.agreement.specs.whole_logs.Replica.{ReplicaState as WholeState}
use Rattle.ballot_base.specs.Replica.{is_active}
use Rattle.agreement.proofs.Changing.OtherMembers.{others_in}
use Rattle.agreement.proofs.Masters.Assigns.{lawful_is, not_refused}
use Rattle.ballot_base.specs.declared.config.Config.{Config}
use Rattle.ballot_base.specs.Replica.{others}
use Rattle.agreement.specs.cut_logs.Moments.{IsAgreed, Moment, Moments, whole_moment}
use Rattle.agreement.specs.cut_logs.Moments.Moments.{went_on}
use Rattle.agreement.specs.cut_logs.Steps.{MayHappen, world_after}
use Rattle.agreement.specs.cut_logs.Steps.MayHappen.{master_assigns}
use Rattle.agreement.specs.cut_logs.Whole.{whole}
use Rattle.agreement.specs.cut_logs.World.{whole_sent}
use Rattle.agreement.proofs.of_cut_logs.Continues.{agreed_back}
use Rattle.agreement.proofs.of_cut_logs.MomentsAgree.{agreed_grows}
use Rattle.agreement.proofs.of_cut_logs.MomentsKept.{StandsFor, moments_stand}
use Rattle.agreement.proofs.of_cut_logs.Views.{get_whole}
use Rattle.recovery.specs.replicas.Deliveries.{Delivered as WholeDelivered, NodeIs, recovery_messages}
use Rattle.recovery.specs.replicas.Deliveries.{assigned_moment as whole_assigned}
use Rattle.recovery.specs.replicas.LedStates.{Follows, LeadsWhole}
use Rattle.recovery.specs.replicas.Theorems.{CanBeLed, IsLed, StartsGiveNothing}
use Rattle.recovery.specs.replicas.Theorems.{LeadsOut as WholeLeadsOut}
use Rattle.recovery.proofs.of_replicas.AllAgreed.{what_all_hold_is_agreed}
use Rattle.recovery.proofs.of_replicas.HasRecovery.{has_recovery}
use Rattle.recovery.specs.replicas.CutDeliveries.{assigned_moment}
use Rattle.recovery.specs.replicas.CutTheorems.{CutGroupsHaveRecoveries, LeadsOut}
use Rattle.recovery.proofs.of_replicas.Ahead.{IsLike}
use Rattle.recovery.proofs.of_replicas.Followed.{Followed, Goes, MomentLike, followed, get_back}

-- ---- the Assign

assign_goes : {S C O : Type 0} (rules : Rules S C O) (config : Config) (a : Moment S C O) (moments : List (Moment S C O)) (new : Config) →
    Moments rules config (a ∷ moments) → refusal a.master new ≡ None → Goes rules config (a ∷ moments) (assigned_moment new a)
assign_goes {S = S} {C = C} {O = O} rules config a moments new came granted =
    record {
      between = [];
      came = went_on came (subst (λ (o : Option AssignRefusal). MayHappen rules a.master a.world (master_after a.master new o) (world_after a.master a.world new o)) granted
          (master_assigns new));
      grown = λ xs ys p q. agreed_grows rules config (assigned_moment new a) (a ∷ moments) xs ys p q;
    }

whole_assign : {S C O : Type 0} (rules : Rules S C O) (config : Config) (a : WholeMoment S C O) (moments : List (WholeMoment S C O)) (new : Config) →
    WholeMoments rules config (a ∷ moments) → refusal a.master new ≡ None → WholeMoments rules config (whole_assigned new a ∷ a ∷ moments)
whole_assign rules config a moments new came granted =
    whole_went_on came (subst (λ (o : Option AssignRefusal). WholeMayHappen rules a.master a.world (master_after a.master new o) (whole_after a.master a.world new o)) granted
    (whole_assigns new))

assign_like : {S C O : Type 0} (rules : Rules S C O) (ballot : ℕ) (a : Moment S C O) (new : Config) → MomentLike rules ballot (whole_assigned new (whole_moment a)) (assigned_moment new a)
assign_like rules ballot a new =
    record {
      master = refl;
      sent = map-append (whole_sent a.world.archive) a.world.sent _;
      nodes = λ n p e. let z = get_back (whole a.world.archive) a.world.nodes n p e in record { replica = z.0; stands = z.1; like = inl z.2 };
    }

-- ---- at the end

pub serves_still : {S C O : Type 0} (rules : Rules S C O) (ballot b : ℕ) (log : List C) (os : List ℕ) (m : ℕ) (p s : WholeState S C) → IsLike rules ballot p s → LeadsWhole b log os m p → LeadsWhole b log os m s
serves_still {S = S} {C = C} rules ballot b log os m p s (inl same) z = subst (λ (x : WholeState S C). LeadsWhole b log os m x) (sym same) z
serves_still rules ballot b log os m p s (inr a) z = absurd (both_ways (is_active p.role) a.passive (ap is_active z.leads.role))

pub follows_still : {S C O : Type 0} (rules : Rules S C O) (ballot b : ℕ) (log : List C) (m : ℕ) (p s : WholeState S C) → IsLike rules ballot p s → Follows b log m p → Follows b log m s
follows_still {S = S} {C = C} rules ballot b log m p s (inl same) z = subst (λ (x : WholeState S C). Follows b log m x) (sym same) z
follows_still {S = S} {C = C} rules ballot b log m p s (inr a) z =
    subst (λ (x : WholeState S C). Follows b log m x) (sym a.is)
    (record { runs = z.runs; id = z.id; joined = z.joined; held = z.held; role = z.role; log_is = z.log_is })

pub node_still : {S C O : Type 0} (rules : Rules S C O) (ballot : ℕ) (P : ℕ → WholeState S C → Type 0) (m : ℕ) (a : WholeMoment S C O) (b : Moment S C O) → MomentLike rules ballot a b →
    ((p s : WholeState S C) → IsLike rules ballot p s → P m p → P m s) → NodeIs P a.world.nodes m → NodeIs P (whole_moment b).world.nodes m
node_still rules ballot P m a b like keeps z =
    let n = like.nodes z.index z.replica z.stands in
    record {
      index = z.index;
      number = z.number;
      replica = whole b.world.archive n.replica;
      stands = get_whole (whole b.world.archive) b.world.nodes z.index n.replica n.stands;
      is = keeps z.replica (whole b.world.archive n.replica) n.like z.is;
    }

module _ {S C O : Type 0} (rules : Rules S C O) (silent : StartsGiveNothing rules) (config : Config) (a : Moment S C O) (moments : List (Moment S C O))
    (came : Moments rules config (a ∷ moments)) (new : Config) (index source : ℕ) (log : List C) (can : CanBeLed (whole_moment a) new index source log) where
  stood : StandsFor rules config a moments
  stood = moments_stand rules config a moments came

  -- on whole logs
  out : WholeLeadsOut rules config (whole_moment a ∷ stood.earlier) (whole_moment a) new index log
  out = has_recovery rules silent config (whole_moment a) stood.earlier stood.kept.came new index source log can

  abbrev ballot : ℕ
  ballot = a.master.given + 1

  abbrev longer : List C
  longer = log ++ rules.start_of ballot ∷ []

  abbrev numbers : List ℕ
  numbers = recovery_messages (length a.world.sent) (length a.master.members) index (length new.members - 1)

  as_many : length (whole_moment a).world.sent ≡ length a.world.sent
  as_many = length-map a.world.sent (whole_sent a.world.archive)

  came_so : WholeDelivered rules ballot (whole_assigned new (whole_moment a)) numbers out.last
  came_so = subst (λ (k : ℕ). WholeDelivered rules ballot (whole_assigned new (whole_moment a)) (recovery_messages k (length a.master.members) index (length new.members - 1)) out.last) as_many out.delivered

  abbrev Way : Type 0
  Way = Followed rules config ballot (a ∷ moments) (assigned_moment new a) numbers out.last

  way : Way
  way =
      followed rules config ballot (a ∷ moments) came_so (whole_moment a ∷ stood.earlier)
      (whole_assign rules config (whole_moment a) stood.earlier new stood.kept.came can.granted) (assigned_moment new a)
      (assign_goes rules config a moments new came can.granted) (assign_like rules ballot a new)

  -- what is led there is led here
  led_by : (w : Way) → IsLed ballot new longer (whole_moment w.end)
  led_by w =
      record {
        active = ap (λ (m : MasterState). m.active) w.like.master ∙ out.led.active;
        members = ap (λ (m : MasterState). m.members) w.like.master ∙ out.led.members;
        primary = node_still rules ballot (LeadsWhole ballot longer (others new.primary new.members)) new.primary out.last w.end w.like
            (serves_still rules ballot ballot longer (others new.primary new.members) new.primary) out.led.primary;
        each = λ m i. node_still rules ballot (Follows ballot longer) m out.last w.end w.like (follows_still rules ballot ballot longer m) (out.led.each m i);
      }

  -- and agreed, as all hold it
  agreed_by : (w : Way) → IsAgreed config (w.end ∷ (w.goes.between ++ (a ∷ moments))) longer
  agreed_by w =
      agreed_back config (map whole_moment (w.end ∷ (w.goes.between ++ (a ∷ moments)))) (whole_moment w.end ∷ q.earlier) longer q.covers
      (what_all_hold_is_agreed rules config (whole_moment w.end) q.earlier q.kept.came new.primary longer (others new.primary new.members)
      (record {
        primary_serves = subst (λ b. NodeIs (LeadsWhole b longer (others new.primary new.members)) (whole_moment w.end).world.nodes new.primary) (sym led.active) led.primary;
        member = subst (λ ms. In new.primary ms) (sym led.members) (lawful_is a.master.greatest new (not_refused a.master new can.granted).0).0;
        all_named = λ m i ne. others_of m (subst (λ ms. In m ms) led.members i) ne;
        told = λ m i. subst (λ (us : List (ℕ × WholeMessage C)). In (new.primary, record { from = m; body = Held (whole_moment w.end).master.active (length longer) }) us) (sym w.like.sent)
            (subst (λ b. In (new.primary, record { from = m; body = Held b (length longer) }) out.last.world.sent) (sym led.active)
            (subst (λ n. In (new.primary, record { from = m; body = Held ballot n }) out.last.world.sent) (sym (length-append log (rules.start_of ballot ∷ []))) (out.told m i)));
      }))
    where
      q : StandsFor rules config w.end (w.goes.between ++ (a ∷ moments))
      q = moments_stand rules config w.end (w.goes.between ++ (a ∷ moments)) w.goes.came

      led : IsLed ballot new longer (whole_moment w.end)
      led = led_by w

      others_of : (m : ℕ) → In m new.members → (m ≡ new.primary → ⊥) → In m (others new.primary new.members)
      others_of m i ne = by_case (others_in new.primary new.members m i)
        where
          by_case : (m ≡ new.primary) ⊎ In m (others new.primary new.members) → In m (others new.primary new.members)
          by_case (inl e) = absurd (ne e)
          by_case (inr j) = j

  pub leads_out : LeadsOut rules config (a ∷ moments) a new index log
  leads_out = by way
    where
      by : Way → LeadsOut rules config (a ∷ moments) a new index log
      by w =
          record {
            last = w.end;
            delivered = w.delivered;
            archive = w.archive;
            sent = ap (λ k. k + 1) (sym (length-map w.end.world.sent (whole_sent w.end.world.archive)) ∙ ap length w.like.sent) ∙ out.sent
                ∙ ap (λ k. k + length a.master.members + 5 * length new.members) as_many;
            events = subst (λ (k : ℕ). length (recovery_messages k (length a.master.members) index (length new.members - 1)) + 1 ≡ 4 * length new.members + 2) as_many out.events;
            led = led_by w;
            goes = record { between = w.goes.between; came = w.goes.came; agrees = agreed_by w; grown = λ xs p. w.goes.grown xs longer p (agreed_by w) };
          }

pub cut_groups_have_recoveries : {S C O : Type 0} (rules : Rules S C O) → CutGroupsHaveRecoveries rules
cut_groups_have_recoveries rules silent config a moments came new index source log can = leads_out rules silent config a moments came new index source log can
