-- HasWayOut.antt: from every moment of a group whose starts give nothing there is a way out.
use Rattle.std.proofs.Common.{◌≡◌, ℕ, ◌+◌, ◌-◌, ◌*◌, ◌⊎◌, inl, inr, true, false, List, [], ◌∷◌, ◌++◌, length, length-append, Some, refl, ap, sym, ◌∙◌, subst, arith}
use Rattle.std.specs.Prelude.{slice_get}
use Rattle.machine.specs.Machine.{Rules}
use Rattle.lists.specs.Lists.{In}
use Rattle.lists.proofs.Members.{in_at}
use Rattle.agreement.specs.whole_logs.Messages.Body.{Held}
use Rattle.ballot_base.specs.declared.config.Config.{Config}
use Rattle.ballot_base.specs.LawfulConfig.{is_lawful}
use Rattle.agreement.specs.whole_logs.Replica.{ReplicaState}
use Rattle.ballot_base.specs.Replica.{others}
use Rattle.agreement.specs.MasterState.{MasterState, assigning}
use Rattle.agreement.specs.Moments.{Moment, Moments, IsAgreed}
use Rattle.agreement.proofs.Changing.OtherMembers.{in_others, not_others, others_in}
use Rattle.agreement.proofs.Masters.Assigns.{lawful_is, not_refused}
use Rattle.recovery.specs.replicas.Deliveries.{Delivered, NodeIs, assigned_moment, recovery_messages}
use Rattle.recovery.specs.replicas.LedStates.{IsRunning, RunsWith, LeadsWhole}
use Rattle.recovery.specs.replicas.Inside.{CanTake}
use Rattle.recovery.specs.replicas.Theorems.{CanBeLed, HasRecovery, LeadsOut, StartsGiveNothing}
use Rattle.recovery.proofs.of_replicas.Activating.{with_active}
use Rattle.recovery.proofs.of_replicas.AllAgreed.{what_all_hold_is_agreed}
use Rattle.recovery.proofs.of_replicas.Fetching.{CanGive}
use Rattle.recovery.proofs.of_replicas.MomentsGoOn.{Goes, assign_goes, deliveries_go}
use Rattle.recovery.proofs.of_replicas.Premises.{can_give, can_take, joined_below}
use Rattle.recovery.proofs.of_replicas.RisingMembers.{lawful_apart, others_apart, others_count}
use Rattle.recovery.proofs.of_replicas.Ways.{IsOut, is_out, recovery_messages_count}

module _ {S C O : Type 0} (rules : Rules S C O) (silent : StartsGiveNothing rules) (config : Config) (a : Moment S C O) (moments : List (Moment S C O))
    (came : Moments rules config (a ∷ moments)) (new : Config) (index source : ℕ) (log : List C) (can : CanBeLed a new index source log) where
  lawful : is_lawful a.master.greatest new.members new.primary ≡ true
  lawful = (not_refused a.master new can.granted).0

  led : In new.primary new.members
  led = (lawful_is a.master.greatest new lawful).0

  first : NodeIs IsRunning a.world.nodes new.primary
  first = can.live new.primary led

  count : length (others new.primary new.members) ≡ length new.members - 1
  count = let z = others_count new.primary new.members led (lawful_apart a.master.greatest new lawful) in omega (arith, z)

  gives_log : NodeIs (RunsWith log) a.world.nodes source
  gives_log = can.gives

  asked_member : In (gives_log.index + 1) a.master.members
  asked_member = in_at a.master.members index (gives_log.index + 1) (can.asked ∙ ap (λ m. Some m) gives_log.number)

  abbrev Out : Type 0
  Out = IsOut rules (a.master.given + 1) (log ++ rules.start_of (a.master.given + 1) ∷ []) first.index (others new.primary new.members)
      (with_active (a.master.given + 1) new (assigning a.master new)) (assigned_moment new a)
      (recovery_messages (length a.world.sent) (length a.master.members) index (length (others new.primary new.members)))
      (length a.world.sent + length a.master.members + 4 + 5 * length (others new.primary new.members))

  out_is : Out
  out_is =
      is_out rules silent a first.index gives_log.index index first.replica gives_log.replica (others new.primary new.members) log new
      first.number (λ i. not_others new.primary new.members new.primary (subst (λ m. In m (others new.primary new.members)) (sym first.number) i) refl)
      (others_apart new.primary new.members (lawful_apart a.master.greatest new lawful)) (ap (λ m. others m new.members) (sym first.number))
      first.stands (joined_below rules config a moments came first.index first.replica first.stands) (takes first.index first.replica first.stands first.is.runs)
      gives_log.stands (subst (λ (l : List C). CanGive (a.master.given + 1) a.master.active l (gives_log.index + 1) gives_log.replica) gives_log.is.log_is
      (can_give rules config a moments came gives_log.index gives_log.replica gives_log.stands asked_member gives_log.is.runs))
      (can.asked ∙ ap (λ m. Some m) gives_log.number) (λ m i. each m (can.live m (in_others new.primary new.members m i))) can.room
    where
      takes : (n : ℕ) (r : ReplicaState S C) → slice_get a.world.nodes n ≡ Some r → r.stopped ≡ false → CanTake (a.master.given + 1) (length log) (n + 1) r
      takes n r stands runs =
          subst (λ (l : List C). CanTake (a.master.given + 1) (length l) (n + 1) r) gives_log.is.log_is
          (can_take rules config a moments came n gives_log.index r gives_log.replica stands gives_log.stands asked_member runs)

      each : (m : ℕ) → NodeIs IsRunning a.world.nodes m → NodeIs (CanTake (a.master.given + 1) (length log)) a.world.nodes m
      each m z =
          record {
            index = z.index;
            number = z.number;
            replica = z.replica;
            stands = z.stands;
            is = subst (λ k. CanTake (a.master.given + 1) (length log) k z.replica) (sym z.number) (takes z.index z.replica z.stands z.is.runs);
          }

  pub leads_out : LeadsOut rules config (a ∷ moments) a new index log
  leads_out = by out_is
    where
      by : Out → LeadsOut rules config (a ∷ moments) a new index log
      by o =
          record {
            last = o.after;
            delivered = subst (λ k. Delivered rules (a.master.given + 1) (assigned_moment new a) (recovery_messages (length a.world.sent) (length a.master.members) index k) o.after) count o.delivered;
            sent = (let e = o.last in let z = whole in omega (arith, e, z));
            events = (let e = recovery_messages_count (length a.world.sent) (length a.master.members) index (length new.members - 1) in let z = whole in let y = count in omega (arith, e, z, y));
            led = record {
              active = ap (λ (m : MasterState). m.active) o.master_is;
              members = ap (λ (m : MasterState). m.members) o.master_is;
              primary = subst (λ m. NodeIs (LeadsWhole (a.master.given + 1) longer (others new.primary new.members)) o.after.world.nodes m) (sym first.number) o.primary;
              each = o.each;
            };
            told = λ m i. subst (λ p. In (p, record { from = m; body = Held (a.master.given + 1) (length log + 1) }) o.after.world.sent) (sym first.number)
                (subst (λ n. In (first.index + 1, record { from = m; body = Held (a.master.given + 1) n }) o.after.world.sent) one_more (o.told m i));
            goes = record {
              between = goes.between;
              came = goes.came;
              agrees = agrees;
              grown = λ xs p. goes.grown xs longer p agrees;
            };
          }
        where
          longer : List C
          longer = log ++ rules.start_of (a.master.given + 1) ∷ []

          one_more : length longer ≡ length log + 1
          one_more = length-append log (rules.start_of (a.master.given + 1) ∷ [])

          whole : length (others new.primary new.members) + 1 ≡ length new.members
          whole = others_count new.primary new.members led (lawful_apart a.master.greatest new lawful)

          goes : Goes rules config (a ∷ moments) o.after
          goes = deliveries_go rules config (a ∷ moments) o.delivered (assign_goes rules config a moments new came can.granted)

          agrees : IsAgreed config (o.after ∷ (goes.between ++ (a ∷ moments))) longer
          agrees =
              what_all_hold_is_agreed rules config o.after (goes.between ++ (a ∷ moments)) goes.came (first.index + 1) longer (others new.primary new.members)
              (record {
                primary_serves = subst (λ b. NodeIs (LeadsWhole b longer (others new.primary new.members)) o.after.world.nodes (first.index + 1))
                    (sym (ap (λ (m : MasterState). m.active) o.master_is)) o.primary;
                member = subst (λ ms. In (first.index + 1) ms) (sym (ap (λ (m : MasterState). m.members) o.master_is)) (subst (λ m. In m new.members) first.number led);
                all_named = λ m i ne. others_of m (subst (λ ms. In m ms) (ap (λ (m : MasterState). m.members) o.master_is) i) ne;
                told = λ m i. subst (λ b. In (first.index + 1, record { from = m; body = Held b (length longer) }) o.after.world.sent)
                    (sym (ap (λ (m : MasterState). m.active) o.master_is)) (o.told m i);
              })
            where
              others_of : (m : ℕ) → In m new.members → (m ≡ first.index + 1 → ⊥) → In m (others new.primary new.members)
              others_of m i ne = by_case (others_in new.primary new.members m i)
                where
                  by_case : (m ≡ new.primary) ⊎ In m (others new.primary new.members) → In m (others new.primary new.members)
                  by_case (inl e) = absurd (ne (e ∙ first.number))
                  by_case (inr j) = j

pub has_recovery : {S C O : Type 0} (rules : Rules S C O) → HasRecovery rules
has_recovery rules silent config a moments came new index source log can = leads_out rules silent config a moments came new index source log can
