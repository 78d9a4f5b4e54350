-- Activating.antt: an Activated that comes to a new primary whose log all members hold.
use Rattle.std.proofs.Common.{◌≡◌, ℕ, ◌+◌, ◌≤◌, ◌⊎◌, inl, inr, true, false, List, [], ◌∷◌, length, take, Some, refl, ap, sym, ◌∙◌, subst, arith}
use Rattle.std.specs.Prelude.{slice_get, nat_lt, nat_le, ◌&&◌, ◌==◌}
use Rattle.std.proofs.lemmas.Bool.{cases_Bool, and_parts, leb-true, eqb-true}
use Rattle.machine.specs.Machine.{Rules, replay}
use Rattle.ballot_base.proofs.AppliesInOrder.{replay_goes_on}
use Rattle.agreement.specs.whole_logs.Application.{applied_to}
use Rattle.agreement.specs.whole_logs.Messages.Body.{Activated}
use Rattle.ballot_base.specs.declared.status.Progress.{Progress}
use Rattle.ballot_base.specs.declared.status.Role.TheVariants.{Active}
use Rattle.agreement.specs.whole_logs.Replica.{ReplicaState}
use Rattle.ballot_base.specs.Replica.{is_installing, others, progress_at}
use Rattle.agreement.specs.whole_logs.StepOutcome.{Outcome}
use Rattle.ballot_base.specs.Service.{max_places}
use Rattle.agreement.specs.whole_logs.Activation.{on_activated}
use Rattle.agreement.specs.World.{GroupWorld}
use Rattle.lists.specs.Lists.{In, IsPrefixOf}
use Rattle.lists.specs.Lists.In.{here, there}
use Rattle.agreement.specs.Inside.Ballots.{Given, History, Acknowledged}
use Rattle.agreement.specs.Inside.BallotsStand.Applied.{in_ballot}
use Rattle.agreement.specs.Inside.Keeps.{KeepsAdding}
use Rattle.agreement.specs.Inside.Sound.{IsSoundWorld}
use Rattle.agreement.specs.Inside.SoundNodes.{IsInstalling, IsSoundNode}
use Rattle.agreement.specs.Inside.MessageMeaning.{SpeaksTruth}
use Rattle.agreement.proofs.Frame.Adding.{adds_less}
use Rattle.agreement.proofs.Frame.EqualLists.{prefix_of_same}
use Rattle.agreement.proofs.Serving.CommandAdded.{keeps_added}
use Rattle.agreement.proofs.Serving.Leading.{Leading}
use Rattle.agreement.proofs.Changing.OtherMembers.{in_others, others_in, not_others}
use Rattle.agreement.proofs.Changing.InstalledCounts.{all_installed}
use Rattle.agreement.proofs.Frame.Later.{takes}
use Rattle.agreement.proofs.Frame.Quiet.{keeps_nothing}
use Rattle.agreement.proofs.Frame.Bases.{chosen_told}
use Rattle.agreement.proofs.Frame.Roles.{role_installing}
use Rattle.agreement.proofs.of_whole_logs.ChangeRows.{on_activated-stays, on_activated-adds}

-- the progress that are made for some members
pub reached_of : (held : ℕ) (ms : List ℕ) (reached : Progress) → In reached (progress_at held ms) → In reached.member ms × (reached.held ≡ held)
reached_of held [] reached i = elim i [ ]
reached_of held (m ∷ ms) reached here = (here, refl)
reached_of held (m ∷ ms) reached (there i) = let z = reached_of held ms reached i in (there z.0, z.1)

pub followed_in : (held : ℕ) (ms : List ℕ) (m : ℕ) → In m ms → (reached : Progress) × In reached (progress_at held ms) × (reached.member ≡ m)
followed_in held [] m i = elim i [ ]
followed_in held (x ∷ ms) m here = (record { member = x; held = held }, here, refl)
followed_in held (x ∷ ms) m (there i) = let z = followed_in held ms m i in (z.0, there z.1, z.2)

-- a list with no item
none_of : {X : Type 0} (xs : List X) → length xs ≤ 0 → xs ≡ []
none_of [] short = refl
none_of (x ∷ xs) short = absurd (omega (arith, short))

-- the new primary leads, if all members hold its log
activated_leads : {S C O : Type 0} (rules : Rules S C O) (w : GroupWorld S C O) (h : History C) (n : ℕ) (r : ReplicaState S C) →
    IsSoundWorld rules w h → slice_get w.nodes n ≡ Some r → IsInstalling w h n r → r.lacking ≡ [] → In r.joined h.activated →
    Leading w h n (record (applied_to rules r (length r.log)) { role = Active; progress = progress_at (length r.log) (others r.id r.members) })
activated_leads {S = S} {C = C} rules w h n r s stands j none active =
    record {
      role = refl;
      ballot = j.leads.0;
      is_given = j.leads.1;
      primary = j.leads.2;
      members = j.leads.3;
      own = j.own;
      activated = active;
      line = j.line;
      lined = j.lined;
      log = t.primary_log j.leads.0 j.line (ap h.given j.own ∙ j.leads.1) j.leads.2 (ap h.line j.own ∙ j.lined);
      above = (let e = ap length j.base in omega (arith, e));
      within = omega arith;
      applied = in_ballot r.joined (length j.line.base) j.line active (omega arith) j.lined all
          (subst (λ k. IsPrefixOf (take (length r.log) r.log) (take k j.line.list)) (ap length j.base) (takes (length r.log) list));
      covered = λ m i. by_member m (others_in r.id r.members m i);
      followed = λ reached i. let z = reached_of (length r.log) (others r.id r.members) reached i in let e = ap length j.base in let f = z.1 in (
        in_others r.id r.members reached.member z.0,
        omega (arith, e, f),
        omega (arith, f),
        subst (λ k. Acknowledged w h reached.member r.joined k) (sym e ∙ sym f)
            (chosen_told w h r.joined (length j.line.base) j.leads.0 reached.member all j.leads.1 (subst (λ ms. In reached.member ms) j.leads.3 (in_others r.id r.members reached.member z.0))),
      );
      others = λ reached i e. not_others r.id r.members reached.member (reached_of (length r.log) (others r.id r.members) reached i).0 (e ∙ sym t.id);
    }
  where
    t : IsSoundNode w h n r
    t = s.nodes n r stands

    all : (g : Given) × (h.given r.joined ≡ Some g) × ((m : ℕ) → In m g.members → Acknowledged w h m r.joined (length j.line.base))
    all = all_installed w h n r j none

    list : IsPrefixOf r.log j.line.list
    list = prefix_of_same r.log j.line.list
        (t.primary_log j.leads.0 j.line (ap h.given j.own ∙ j.leads.1) j.leads.2 (ap h.line j.own ∙ j.lined))

    by_member : (m : ℕ) → (m ≡ r.id) ⊎ In m (others r.id r.members) →
        (m ≡ n + 1) ⊎ ((reached : Progress) × In reached (progress_at (length r.log) (others r.id r.members)) × (reached.member ≡ m))
    by_member m (inl e) = inl (e ∙ t.id)
    by_member m (inr i) = inr (followed_in (length r.log) (others r.id r.members) m i)

-- an Activated that comes
pub keeps_activated : {S C O : Type 0} (rules : Rules S C O) (w : GroupWorld S C O) (h : History C) (n : ℕ) (r : ReplicaState S C)
    (from b : ℕ) → IsSoundWorld rules w h → slice_get w.nodes n ≡ Some r → r.machine ≡ replay rules (take r.committed r.log) →
    In (n + 1, record { from = from; body = Activated b }) w.sent → KeepsAdding rules w h n (λ c x. x ≡ rules.start_of c) (on_activated rules r b)
keeps_activated {S = S} {C = C} {O = O} rules w h n r from b s stands ran sent =
    by_condition (cases_Bool ((r.joined == b && is_installing r.role) && (nat_le (length r.lacking) 0 && nat_lt (length r.log) max_places)))
  where
    said : SpeaksTruth w h (n + 1) from (Activated b)
    said = s.said (n + 1) _ sent

    by_condition : (((r.joined == b && is_installing r.role) && (nat_le (length r.lacking) 0 && nat_lt (length r.log) max_places)) ≡ true)
        ⊎ (((r.joined == b && is_installing r.role) && (nat_le (length r.lacking) 0 && nat_lt (length r.log) max_places)) ≡ false) →
        KeepsAdding rules w h n (λ c x. x ≡ rules.start_of c) (on_activated rules r b)
    by_condition (inl e) =
        let p = and_parts (r.joined == b && is_installing r.role) (nat_le (length r.lacking) 0 && nat_lt (length r.log) max_places) e in
        let a = and_parts (r.joined == b) (is_installing r.role) p.0 in
        let z = and_parts (nat_le (length r.lacking) 0) (nat_lt (length r.log) max_places) p.1 in
        let t = s.nodes n r stands in
        let none = none_of r.lacking (leb-true (length r.lacking) 0 z.0) in
        subst (λ (o : Outcome S C O). KeepsAdding rules w h n (λ c x. x ≡ rules.start_of c) o) (sym (on_activated-adds rules r b e))
        (adds_less rules w h n (λ c x. (c ≡ r.joined) × (x ≡ rules.start_of b)) (λ c x. x ≡ rules.start_of c) _
        (λ c x z. z.1 ∙ ap rules.start_of (sym (eqb-true r.joined b a.0) ∙ sym z.0))
        (keeps_added rules w h n r
        (record (applied_to rules r (length r.log)) { role = Active; progress = progress_at (length r.log) (others r.id r.members) }) (rules.start_of b)
        s stands
        (activated_leads rules w h n r s stands (t.installing (role_installing r.role a.1)) none
        (subst (λ c. In c h.activated) (sym (eqb-true r.joined b a.0)) said.3))
        refl refl refl refl t.within
        (replay_goes_on rules r.machine r.log r.committed (length r.log) t.within ran)))
    by_condition (inr e) = adds_less rules w h n (λ c x. ⊥) (λ c x. x ≡ rules.start_of c) _ (λ c x z. absurd z) (keeps_nothing rules w h n r _ s stands (on_activated-stays rules r b e))
