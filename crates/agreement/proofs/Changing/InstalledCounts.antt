-- InstalledCounts.antt: an Installed that counts: one member fewer lacks the log.
use Rattle.std.proofs.Common.{◌≡◌, ℕ, ◌+◌, ◌⊎◌, inl, inr, true, List, [], ◌∷◌, length, Some, refl, ap, sym, ◌∙◌, subst, arith}
use Rattle.std.specs.Prelude.{slice_get}
use Rattle.machine.specs.Machine.{Rules}
use Rattle.agreement.specs.whole_logs.Messages.{Message, Effect}
use Rattle.agreement.specs.whole_logs.Messages.Body.{Installed}
use Rattle.agreement.specs.whole_logs.Replica.{ReplicaState}
use Rattle.ballot_base.specs.Replica.{is_installing, others}
use Rattle.agreement.specs.whole_logs.Activation.{activates}
use Rattle.agreement.specs.World.{GroupWorld, messages, outputs, moved}
use Rattle.lists.specs.Lists.{In}
use Rattle.lists.specs.Lists.In.{here, there}
use Rattle.agreement.specs.Inside.Ballots.{Given, Line, History, Acknowledged}
use Rattle.agreement.specs.Inside.BallotsStand.{Applied}
use Rattle.agreement.specs.Inside.Extension.{Extends}
use Rattle.agreement.specs.Inside.Ballots.Acknowledged.{told_by_installed}
use Rattle.agreement.specs.Inside.BallotsStand.Applied.{nothing, in_ballot}
use Rattle.agreement.specs.Inside.Keeps.{KeepsSoundness}
use Rattle.agreement.specs.Inside.Sound.{IsSoundWorld}
use Rattle.agreement.specs.Inside.SoundNodes.{IsInstalling, IsSoundNode}
use Rattle.agreement.specs.Inside.MessageMeaning.{SpeaksTruth}
use Rattle.agreement.proofs.Frame.Later.{told_kept}
use Rattle.agreement.proofs.Frame.Joining.{IsSilent, MovesQuietly, quiet_extends}
use Rattle.agreement.proofs.Frame.Quiet.{before_quiet, quiet_keeps}
use Rattle.agreement.proofs.Frame.Roles.{role_installing}
use Rattle.agreement.proofs.Changing.OtherMembers.{in_others, others_in}

-- if nobody lacks the log, every member acknowledged the base
pub all_installed : {S C O : Type 0} (w : GroupWorld S C O) (h : History C) (n : ℕ) (r : ReplicaState S C) (i : IsInstalling w h n r) →
    r.lacking ≡ [] → (g : Given) × (h.given r.joined ≡ Some g) × ((m : ℕ) → In m g.members → Acknowledged w h m r.joined (length i.line.base))
all_installed w h n r i none =
    (i.leads.0, i.leads.1, λ m j. by_noted m (i.noted m (subst (λ ms. In m ms) (sym i.leads.3) j)))
  where
    by_noted : (m : ℕ) → In m r.lacking ⊎ Acknowledged w h m r.joined (length i.line.base) → Acknowledged w h m r.joined (length i.line.base)
    by_noted m (inl j) = absurd (elim (subst (λ ms. In m ms) none j) [ ])
    by_noted m (inr t) = t

-- an Installed that is noted
pub installed_noted : {S C O : Type 0} (rules : Rules S C O) (w : GroupWorld S C O) (h : History C) (n : ℕ) (r : ReplicaState S C)
    (from b held : ℕ) → IsSoundWorld rules w h → slice_get w.nodes n ≡ Some r →
    In (n + 1, record { from = from; body = Installed b held }) w.sent → r.joined ≡ b → is_installing r.role ≡ true →
    KeepsSoundness rules w h n (record {
      state = record r { lacking = others from r.lacking };
      effects = activates O (record r { lacking = others from r.lacking }) (others from r.lacking);
    })
installed_noted {S = S} {C = C} {O = O} rules w h n r from b held s stands sent joined role =
    quiet_keeps rules w h n r _ s stands (omega arith) (omega arith)
    (λ to m i. silent to m (others from r.lacking) i) (dumb (others from r.lacking))
    (λ given q. node given q)
    (λ given q to m i. says given q to m (others from r.lacking) refl i)
  where
    new : ReplicaState S C
    new = record r { lacking = others from r.lacking }

    said : SpeaksTruth w h (n + 1) from (Installed b held)
    said = s.said (n + 1) _ sent

    silent : (to : ℕ) (m : Message C) (ms : List ℕ) → In (to, m) (messages (activates O new ms)) → IsSilent m.body
    silent to m [] here = tt
    silent to m [] (there i) = elim i [ ]
    silent to m (x ∷ ms) i = elim i [ ]

    dumb : (ms : List ℕ) → outputs (activates O new ms) ≡ []
    dumb [] = refl
    dumb (x ∷ ms) = refl

    node : (given : List (Effect C O)) → MovesQuietly w n r new given → IsSoundNode (moved w n new given) h n new
    node given q = let t = before_quiet rules w h n r new given s q in record {
      id = t.id;
      placed = record { order = t.placed.order; between = t.placed.between; told = t.placed.told; acknowledged_here = t.placed.acknowledged_here };
      empty = t.empty;
      member = t.member;
      primary_log = t.primary_log;
      joined_by = t.joined_by;
      within = t.within;
      applied = by_applied t.applied;
      fetching = λ e. let f = role_installing r.role role in cc;
      installing = λ e. install (t.installing (role_installing r.role role));
      active = λ e. let f = role_installing r.role role in cc;
    }
      where
        by_applied : Applied (moved w n new given) h r → Applied (moved w n new given) h new
        by_applied (nothing e) = nothing e
        by_applied (in_ballot c k l i up e chosen front) = in_ballot c k l i up e chosen front

        told_from : (l : Line C) → h.line r.joined ≡ Some l → Acknowledged (moved w n new given) h from r.joined (length l.base)
        told_from l lined =
            let x : Extends w h (moved w n new given) h = quiet_extends w h n r new given q in
            let z = said.4 in
            let e : h.line b ≡ Some l = ap h.line (sym joined) ∙ lined in
            let same : z.0 ≡ l = (let f = z.1 in cc) in
            let long = ap (λ (y : Line C). length y.base) same in let f = z.2 in
            told_kept w (moved w n new given) h h from r.joined (length l.base) x
            (told_by_installed (n + 1) held
            (subst (λ k. In (n + 1, record { from = from; body = Installed k held }) w.sent) (sym joined) sent) (omega (arith, long, f)))

        install : IsInstalling (moved w n new given) h n r → IsInstalling (moved w n new given) h n new
        install j = record {
          leads = j.leads;
          later = j.later;
          own = j.own;
          line = j.line;
          lined = j.lined;
          base = j.base;
          noted = λ m i. by_noted m (j.noted m i);
          lacks = λ m i. j.lacks m (in_others from r.lacking m i);
        }
          where
            by_without : (m : ℕ) → (m ≡ from) ⊎ In m (others from r.lacking) →
                In m (others from r.lacking) ⊎ Acknowledged (moved w n new given) h m r.joined (length j.line.base)
            by_without m (inl e) =
                inr (subst (λ k. Acknowledged (moved w n new given) h k r.joined (length j.line.base)) (sym e) (told_from j.line j.lined))
            by_without m (inr i) = inl i

            by_noted : (m : ℕ) → In m r.lacking ⊎ Acknowledged (moved w n new given) h m r.joined (length j.line.base) →
                In m (others from r.lacking) ⊎ Acknowledged (moved w n new given) h m r.joined (length j.line.base)
            by_noted m (inl i) = by_without m (others_in from r.lacking m i)
            by_noted m (inr t) = inr t

    says : (given : List (Effect C O)) → MovesQuietly w n r new given → (to : ℕ) (m : Message C) (ms : List ℕ) →
        others from r.lacking ≡ ms → In (to, m) (messages (activates O new ms)) → SpeaksTruth (moved w n new given) h to m.from m.body
    says given q to m [] none (there i) = elim i [ ]
    says given q to m [] none here =
        let t = node given q in
        let j = t.installing (role_installing r.role role) in (
          j.later.0,
          j.later.1,
          t.id ∙ sym (primary_is j),
          (j.line, j.lined, all_installed (moved w n new given) h n new j none),
        )
      where
        primary_is : (j : IsInstalling (moved w n new given) h n new) → j.later.0.primary ≡ n + 1
        primary_is j =
            let e = j.later.1.given in let f = j.leads.1 in
            let same : j.leads.0 ≡ j.later.0 = cc in
            ap (λ (g : Given). g.primary) (sym same) ∙ j.leads.2
    says given q to m (x ∷ ms) some i = elim i [ ]
