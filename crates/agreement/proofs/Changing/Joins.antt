-- Joins.antt: a Join that comes to a member of the earlier ballot.
use Rattle.std.proofs.Common.{◌≡◌, ℕ, ◌+◌, ◌<◌, ◌≤◌, ◌⊎◌, inl, inr, Bool, true, false, cond, List, [], ◌∷◌, Some, refl, sym, subst, arith}
use Rattle.std.specs.Prelude.{slice_get, nat_lt, nat_le, ◌&&◌}
use Rattle.std.proofs.lemmas.Bool.{cases_Bool, and_parts, ltb-true, leb-true, ltb-false}
use Rattle.machine.specs.Machine.{Rules}
use Rattle.agreement.specs.whole_logs.Messages.{Message, Effect}
use Rattle.agreement.specs.whole_logs.Messages.Body.{Join, State}
use Rattle.ballot_base.specs.declared.status.Role.TheVariants.{Backup}
use Rattle.agreement.specs.whole_logs.Replica.{ReplicaState}
use Rattle.agreement.specs.whole_logs.StepOutcome.{Outcome, message_to}
use Rattle.agreement.specs.whole_logs.Transfer.{on_join}
use Rattle.agreement.specs.World.{GroupWorld, messages, moved}
use Rattle.lists.specs.Lists.{In}
use Rattle.lists.specs.Lists.In.{here, there}
use Rattle.agreement.specs.Inside.Ballots.{Given, History, Sealed}
use Rattle.agreement.specs.Inside.BallotsStand.{Applied, BallotListsStand}
use Rattle.agreement.specs.Inside.BallotsStand.Applied.{nothing, in_ballot}
use Rattle.agreement.specs.Inside.Keeps.{KeepsSoundness}
use Rattle.agreement.specs.Inside.Sound.{IsSoundWorld}
use Rattle.agreement.specs.Inside.SoundNodes.{IsSoundNode}
use Rattle.agreement.specs.Inside.MessageMeaning.{SpeaksTruth, IsOffered}
use Rattle.lists.proofs.Places.{get_set}
use Rattle.agreement.proofs.Frame.Framing.{within_of}
use Rattle.agreement.proofs.Frame.SaysLater.{joined_kept}
use Rattle.agreement.proofs.Frame.Joining.{AreSilent, MovesQuietly, quiet_extends}
use Rattle.agreement.proofs.Frame.QuietWorlds.{quiet_lines}
use Rattle.agreement.proofs.Frame.Quiet.{before_quiet, quiet_keeps, keeps_nothing}
use Rattle.agreement.proofs.of_whole_logs.ChangeRows.{on_join-stays, on_join-answers}
use Rattle.agreement.proofs.Frame.Sealing.{joined_seals, joined_offers}

-- what a node is that answers a Join: as it was, or a backup of the ballot
pub data Answers {S C : Type 0} (r : ReplicaState S C) (b : ℕ) : ReplicaState S C → Type 0 where
  stays : r.joined ≡ b → Answers r b r
  joins : r.joined < b → Answers r b (record r { joined = b; role = Backup })

answers_joined : {S C : Type 0} (r new : ReplicaState S C) (b : ℕ) → Answers r b new → new.joined ≡ b
answers_joined r new b (stays e) = e
answers_joined r new b (joins low) = refl

answers_log : {S C : Type 0} (r new : ReplicaState S C) (b : ℕ) → Answers r b new → new.log ≡ r.log
answers_log r new b (stays e) = refl
answers_log r new b (joins low) = refl

answers_committed : {S C : Type 0} (r new : ReplicaState S C) (b : ℕ) → Answers r b new → new.committed ≡ r.committed
answers_committed r new b (stays e) = refl
answers_committed r new b (joins low) = refl

-- the state that the row gives
answers_of : {S C : Type 0} (r : ReplicaState S C) (b : ℕ) → r.joined ≤ b → (t : Bool) → nat_lt r.joined b ≡ t →
    Answers r b (cond t (record r { joined = b; role = Backup }) r)
answers_of r b low true e = joins (ltb-true r.joined b e)
answers_of r b low false e = stays (let high = ltb-false r.joined b e in omega (arith, low, high))

-- a node that answers is as it should be
answers_node : {S C O : Type 0} (v : GroupWorld S C O) (h : History C) (n : ℕ) (r new : ReplicaState S C) (b : ℕ) (g : Given) →
    Answers r b new → h.given b ≡ Some g → (old : Given) → h.given g.previous ≡ Some old → In (n + 1) old.members →
    IsSoundNode v h n r → IsSoundNode v h n new
answers_node v h n r new b g (stays e) given old given_old member t = t
answers_node {S = S} {C = C} {O = O} v h n r new b g (joins less) given old given_old member t =
    record {
      id = t.id;
      placed = record {
        order = (let o = t.placed.order in omega (arith, o, less));
        between = t.placed.between;
        told = t.placed.told;
        acknowledged_here = t.placed.acknowledged_here;
      };
      empty = t.empty;
      member = t.member;
      primary_log = t.primary_log;
      joined_by = inr (g, given, inr (old, given_old, member));
      within = t.within;
      applied = by_applied t.applied;
      fetching = λ e. cc;
      installing = λ e. cc;
      active = λ e. cc;
    }
  where
    by_applied : Applied v h r → Applied v h (record r { joined = b; role = Backup })
    by_applied (nothing e) = nothing e
    by_applied (in_ballot c k l i up e chosen front) = in_ballot c k l i (omega (arith, up, less)) e chosen front

-- a Join that is answered
join_answered : {S C O : Type 0} (rules : Rules S C O) (w : GroupWorld S C O) (h : History C) (n : ℕ) (r new : ReplicaState S C)
    (from b a : ℕ) → IsSoundWorld rules w h → slice_get w.nodes n ≡ Some r → SpeaksTruth w h (n + 1) from (Join b a) →
    r.joined ≤ b → Answers r b new →
    KeepsSoundness rules w h n (record { state = new; effects = message_to O r.id (State b r.log) from ∷ [] })
join_answered {S = S} {C = C} {O = O} rules w h n r new from b a s stands (g, is_of, is_from, prev, joined, (old, given_a, member)) low way =
    quiet_keeps rules w h n r (record { state = new; effects = message_to O r.id (State b r.log) from ∷ [] }) s stands
    (let e = answers_joined r new b way in omega (arith, e, low)) (let e = answers_committed r new b way in omega (arith, e))
    silent refl (λ given q. node given q) (λ given q. says given q)
  where
    given_old : h.given g.previous ≡ Some old
    given_old = subst (λ y. h.given y ≡ Some old) prev given_a

    silent : AreSilent (messages (message_to O r.id (State b r.log) from ∷ []))
    silent to m here = tt
    silent to m (there i) = elim i [ ]

    node : (given : List (Effect C O)) → MovesQuietly w n r new given → IsSoundNode (moved w n new given) h n new
    node given q =
        answers_node (moved w n new given) h n r new b g way is_of.given old given_old member
        (before_quiet rules w h n r new given s q)

    says : (given : List (Effect C O)) → MovesQuietly w n r new given → (to : ℕ) (m : Message C) →
        In (to, m) (messages (message_to O r.id (State b r.log) from ∷ [])) → SpeaksTruth (moved w n new given) h to m.from m.body
    says given q to m (there i) = elim i [ ]
    says given q to m here =
        let v = moved w n new given in
        let x = quiet_extends w h n r new given q in
        let e = answers_joined r new b way in let f = answers_log r new b way in
        let at : slice_get v.nodes n ≡ Some new = get_set w.nodes n r new stands in
        let t = node given q in
        let lines : BallotListsStand v h = quiet_lines w h n r new given q (within_of rules w h s) s.lines in (
          g,
          is_of,
          is_from,
          (n, (s.nodes n r stands).id, (new, at, omega (arith, e))),
          joined_kept w v h h from b x joined,
          subst (λ (us : List C). Sealed v h g.previous us) f
              (joined_seals v h s.ballots lines n new at t.placed b g old is_of.given is_of.later given_old member e),
          subst (λ (us : List C). IsOffered h b g us) f
              (joined_offers v h s.ballots lines n new t.placed b g old is_of.given is_of.later given_old member e),
        )

-- a Join that comes
pub keeps_join : {S C O : Type 0} (rules : Rules S C O) (w : GroupWorld S C O) (h : History C) (n : ℕ) (r : ReplicaState S C)
    (from b a : ℕ) → IsSoundWorld rules w h → slice_get w.nodes n ≡ Some r →
    In (n + 1, record { from = from; body = Join b a }) w.sent → KeepsSoundness rules w h n (on_join O r from b a)
keeps_join {S = S} {C = C} {O = O} rules w h n r from b a s stands sent = by_condition (cases_Bool (nat_le r.joined b && nat_le a r.held_in))
  where
    by_condition : ((nat_le r.joined b && nat_le a r.held_in) ≡ true) ⊎ ((nat_le r.joined b && nat_le a r.held_in) ≡ false) →
        KeepsSoundness rules w h n (on_join O r from b a)
    by_condition (inl e) =
        let p = and_parts (nat_le r.joined b) (nat_le a r.held_in) e in
        let low = leb-true r.joined b p.0 in
        subst (λ (o : Outcome S C O). KeepsSoundness rules w h n o) (sym (on_join-answers O r from b a e))
        (join_answered rules w h n r _ from b a s stands (s.said (n + 1) _ sent) low
        (answers_of r b low (nat_lt r.joined b) refl))
    by_condition (inr e) = keeps_nothing rules w h n r _ s stands (on_join-stays O r from b a e)
