-- AllAgreed.antt: what the active primary holds and all other members have acknowledged is the
-- agreed list, by the last moment alone.
use Rattle.std.proofs.Common.{◌≡◌, ℕ, ◌+◌, ◌≤◌, ◌⊎◌, inl, inr, List, [], ◌∷◌, ◌++◌, length, Some, ap, sym, ◌∙◌, subst, arith}
use Rattle.std.specs.Prelude.{slice_get}
use Rattle.std.proofs.lemmas.Bool.{cases_eq}
use Rattle.std.proofs.lemmas.List.{append-nil, length-append, take_all}
use Rattle.machine.specs.Machine.{Rules}
use Rattle.lists.specs.Lists.{In, IsPrefixOf}
use Rattle.lists.proofs.Prefixes.{prefix_length}
use Rattle.ballot_base.specs.declared.config.Config.{Config}
use Rattle.agreement.specs.whole_logs.Replica.{ReplicaState}
use Rattle.agreement.specs.Moments.{Moment, Moments, IsAgreed}
use Rattle.agreement.specs.Inside.Ballots.{Given, IsChosenIn, Acknowledged}
use Rattle.agreement.specs.Inside.Ballots.Acknowledged.{told_as_primary, told_by_held}
use Rattle.agreement.specs.Inside.Chosen.{ChosenList}
use Rattle.agreement.specs.Inside.SoundNodes.{IsActive}
use Rattle.agreement.proofs.Agreed.MomentsAgree.{agreed_known, has_agreed, nodes_agree}
use Rattle.agreement.proofs.Agreed.MomentsAreKnown.{IsKnown}
use Rattle.agreement.proofs.Agreed.MomentsKnown.{moments_known}
use Rattle.recovery.specs.replicas.Deliveries.{NodeIs}
use Rattle.recovery.specs.replicas.LedStates.{LeadsWhole}
use Rattle.recovery.specs.replicas.AnswerTheorems.{WhatAllHoldIsAgreed}

-- lists that begin one another are one
prefix_both : {X : Type 0} (xs ys : List X) → IsPrefixOf xs ys → IsPrefixOf ys xs → xs ≡ ys
prefix_both {X = X} xs ys p q = by p.rest p.is (prefix_length q)
  where
    by : (rest : List X) → ys ≡ xs ++ rest → length ys ≤ length xs → xs ≡ ys
    by [] e low = sym (e ∙ append-nil xs)
    by (x ∷ rest) e low = absurd (let z = ap length e in let y = length-append xs (x ∷ rest) in omega (arith, z, y, low))

module _ {S C O : Type 0} (rules : Rules S C O) (config : Config) (a : Moment S C O) (moments : List (Moment S C O)) (came : Moments rules config (a ∷ moments))
    (index : ℕ) (r : ReplicaState S C) (log : List C) (os : List ℕ) (stands : slice_get a.world.nodes index ≡ Some r)
    (serves : LeadsWhole a.master.active log os (index + 1) r) (member : In (index + 1) a.master.members)
    (named : (m : ℕ) → In m a.master.members → (m ≡ index + 1 → ⊥) → In m os) where
  pub known : IsKnown rules config a moments
  known = moments_known rules config a moments came

  active : IsActive a.world known.history index r
  active = (known.serves.sound.nodes index r stands).active serves.leads.role

  given : known.history.given a.master.active ≡ Some active.leads.0
  given = ap known.history.given (sym serves.leads.joined) ∙ active.leads.1

  lined : known.history.line a.master.active ≡ Some active.line
  lined = ap known.history.line (sym serves.leads.joined) ∙ active.lined

  -- the ballot's list is that log
  list_is : active.line.list ≡ log
  list_is = sym ((known.serves.sound.nodes index r stands).primary_log active.leads.0 active.line
      (ap known.history.given serves.held ∙ given) active.leads.2 (ap known.history.line serves.held ∙ lined)) ∙ serves.log_is

  -- all its members have acknowledged it
  chosen : ((m : ℕ) → In m os → Acknowledged a.world known.history m a.master.active (length log)) → IsChosenIn a.world known.history a.master.active (length log)
  chosen told = (active.leads.0, given, λ m i. by m (subst (λ ms. In m ms) same i) (cases_eq m (index + 1)))
    where
      same : active.leads.0.members ≡ a.master.members
      same = by_given known.serves.master.active_members
        where
          by_given : (g : Given) × (known.history.given a.master.active ≡ Some g) × (g.members ≡ a.master.members) → active.leads.0.members ≡ a.master.members
          by_given (g, e, is) = let f = given in let one : active.leads.0 ≡ g = cc in ap (λ (x : Given). x.members) one ∙ is

      by : (m : ℕ) → In m a.master.members → (m ≡ index + 1) ⊎ (m ≡ index + 1 → ⊥) → Acknowledged a.world known.history m a.master.active (length log)
      by m i (inl e) = told_as_primary active.leads.0 active.line given (active.leads.2 ∙ sym e) lined (let z = ap length list_is in omega (arith, z))
      by m i (inr ne) = told m (named m i ne)

  -- so it is the longest that is chosen, and the primary has no more
  pub agreed_is : ((m : ℕ) → In m os → Acknowledged a.world known.history m a.master.active (length log)) → (xs : List C) → IsAgreed config (a ∷ moments) xs → xs ≡ log
  agreed_is told xs agreed =
      prefix_both xs log
      (subst (λ (us : List C). IsPrefixOf xs us) serves.log_is ((nodes_agree rules config a moments xs came agreed).0.held index r stands member))
      ((agreed_known rules config a moments known xs agreed).longest log list)
    where
      list : ChosenList a.world known.history log
      list =
          record {
            ballot = a.master.active;
            places = length log;
            line = active.line;
            activated = subst (λ b. In b known.history.activated) serves.leads.joined active.activated;
            lined = lined;
            chosen = chosen told;
            is = sym (take_all (length log) active.line.list (let z = ap length list_is in omega (arith, z)) ∙ list_is);
          }

-- what all hold is agreed
pub what_all_hold_is_agreed : {S C O : Type 0} (rules : Rules S C O) → WhatAllHoldIsAgreed rules
what_all_hold_is_agreed {S = S} {C = C} {O = O} rules config a moments came primary log os h =
    by_agreed (has_agreed rules config a moments came)
  where
    at : NodeIs (LeadsWhole a.master.active log os) a.world.nodes primary
    at = h.primary_serves

    number : primary ≡ at.index + 1
    number = at.number

    by_agreed : (xs : List C) × IsAgreed config (a ∷ moments) xs → IsAgreed config (a ∷ moments) log
    by_agreed (xs, agreed) =
        subst (λ (us : List C). IsAgreed config (a ∷ moments) us)
        (agreed_is rules config a moments came at.index at.replica log os at.stands
        (subst (λ m. LeadsWhole a.master.active log os m at.replica) number at.is)
        (subst (λ m. In m a.master.members) number h.member)
        (λ m i ne. h.all_named m i (λ e. ne (e ∙ number)))
        (λ m i. told_by_held primary (length log) (h.told m i) (omega arith)) xs agreed) agreed
