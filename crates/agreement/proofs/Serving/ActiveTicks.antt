-- ActiveTicks.antt: a tick of an active primary.
use Rattle.std.proofs.Common.{◌≡◌, ℕ, ◌+◌, ◌≤◌, ◌⊎◌, inl, inr, List, [], ◌∷◌, ◌++◌, length, Some, None, Option, refl, ap, sym, ◌∙◌, subst, arith}
use Rattle.std.specs.Prelude.{slice_get}
use Rattle.machine.specs.Machine.{Rules}
use Rattle.agreement.specs.whole_logs.Messages.{Message, Body}
use Rattle.agreement.specs.whole_logs.Messages.Body.{Append, Commit}
use Rattle.ballot_base.specs.declared.status.Progress.{Progress}
use Rattle.agreement.specs.whole_logs.Replica.{ReplicaState}
use Rattle.agreement.specs.whole_logs.StepOutcome.{Outcome, message_to_followed}
use Rattle.agreement.specs.whole_logs.Service.{append_at, appends_after, on_tick_active}
use Rattle.agreement.proofs.of_whole_logs.MessageRows.{on_tick_active-is}
use Rattle.agreement.specs.World.{GroupWorld, messages, outputs}
use Rattle.lists.specs.Lists.{In}
use Rattle.lists.specs.Lists.In.{here, there}
use Rattle.agreement.specs.Inside.Ballots.{History, Acknowledged, IsChosenIn}
use Rattle.agreement.specs.Inside.Ballots.Acknowledged.{told_as_primary}
use Rattle.agreement.specs.Inside.Keeps.{KeepsSoundness}
use Rattle.agreement.specs.Inside.Sound.{IsSoundWorld}
use Rattle.agreement.specs.Inside.SoundNodes.{IsActive, IsSoundNode}
use Rattle.agreement.specs.Inside.MessageMeaning.{SpeaksTruth}
use Rattle.lists.proofs.Members.{in_append}
use Rattle.agreement.proofs.Effects.{messages-append, outputs-append, outputs_of_messages}
use Rattle.agreement.proofs.Frame.Joining.{IsSilent}
use Rattle.agreement.proofs.Frame.SaysLater.{told_less}
use Rattle.agreement.proofs.Serving.Ticking.{speaking_keeps}

-- a message to each member that a progress is kept of
pub said_to_progress : {C : Type 0} (O : Type 0) (P : ℕ → Message C → Type 0) (id : ℕ) (body : Body C) (progress : List Progress) →
    ((reached : Progress) → In reached progress → P reached.member (record { from = id; body = body })) →
    (to : ℕ) (m : Message C) → In (to, m) (messages (message_to_followed O id body progress)) → P to m
said_to_progress O P id body [] f to m i = elim i [ ]
said_to_progress O P id body (reached ∷ progress) f to m here = f reached here
said_to_progress O P id body (reached ∷ progress) f to m (there i) = said_to_progress O P id body progress (λ k j. f k (there j)) to m i

-- the place that is sent for a progress
said_at : {C : Type 0} (O : Type 0) (P : ℕ → Message C → Type 0) (id b : ℕ) (reached : Progress) (o : Option C) →
    ((c : C) → o ≡ Some c → P reached.member (record { from = id; body = Append b reached.held c })) →
    (to : ℕ) (m : Message C) → In (to, m) (messages (append_at O id b reached o)) → P to m
said_at O P id b reached None f to m i = elim i [ ]
said_at O P id b reached (Some c) f to m here = f c refl
said_at O P id b reached (Some c) f to m (there i) = elim i [ ]

-- the places that are sent for the progress
said_after : {C : Type 0} (O : Type 0) (P : ℕ → Message C → Type 0) (id b : ℕ) (log : List C) (progress : List Progress) →
    ((reached : Progress) → In reached progress → (c : C) → slice_get log reached.held ≡ Some c →
    P reached.member (record { from = id; body = Append b reached.held c })) →
    (to : ℕ) (m : Message C) → In (to, m) (messages (appends_after O id b log progress)) → P to m
said_after O P id b log [] f to m i = elim i [ ]
said_after {C = C} O P id b log (reached ∷ progress) f to m i =
    by_part (λ j. said_after O P id b log progress (λ k y. f k (there y)) to m j)
    (in_append (messages (append_at O id b reached (slice_get log reached.held))) (messages (appends_after O id b log progress))
    (subst (λ (us : List (ℕ × Message C)). In (to, m) us)
    (messages-append (append_at O id b reached (slice_get log reached.held)) (appends_after O id b log progress)) i))
  where
    by_part : (In (to, m) (messages (appends_after O id b log progress)) → P to m) →
        In (to, m) (messages (append_at O id b reached (slice_get log reached.held))) ⊎ In (to, m) (messages (appends_after O id b log progress)) → P to m
    by_part rest (inl j) = said_at O P id b reached (slice_get log reached.held) (f reached here) to m j
    by_part rest (inr j) = rest j

pub silent_after : {C : Type 0} (O : Type 0) (id b : ℕ) (log : List C) (progress : List Progress) → outputs (appends_after O id b log progress) ≡ []
silent_after O id b log [] = refl
silent_after {C = C} O id b log (reached ∷ progress) =
    outputs-append (append_at O id b reached (slice_get log reached.held)) (appends_after O id b log progress)
    ∙ ap (λ us. us ++ outputs (appends_after O id b log progress)) (at_reached (slice_get log reached.held))
    ∙ silent_after O id b log progress
  where
    at_reached : (o : Option C) → outputs (append_at O id b reached o) ≡ []
    at_reached None = refl
    at_reached (Some c) = refl

-- an active primary's committed places are chosen
pub active_chosen : {S C O : Type 0} (w : GroupWorld S C O) (h : History C) (n : ℕ) (r : ReplicaState S C) (a : IsActive w h n r) →
    (k : ℕ) → k ≤ length a.line.list → ((reached : Progress) → In reached r.progress → k ≤ reached.held) → IsChosenIn w h r.joined k
active_chosen {S = S} {C = C} {O = O} w h n r a k within followed =
    (a.leads.0, a.leads.1, λ m i. by_reached m (a.covered m (subst (λ ms. In m ms) (sym a.leads.3) i)))
  where
    by_reached : (m : ℕ) → (m ≡ n + 1) ⊎ ((reached : Progress) × In reached r.progress × (reached.member ≡ m)) → Acknowledged w h m r.joined k
    by_reached m (inl e) = told_as_primary a.leads.0 a.line a.leads.1 (a.leads.2 ∙ sym e) a.lined within
    by_reached m (inr (reached, j, e)) =
        subst (λ x. Acknowledged w h x r.joined k) e
        (told_less w h reached.member r.joined reached.held k (followed reached j) (a.followed reached j).3)

-- the list of an active primary's ballot is its log
pub active_log : {S C O : Type 0} (w : GroupWorld S C O) (h : History C) (n : ℕ) (r : ReplicaState S C) → IsSoundNode w h n r →
    (a : IsActive w h n r) → r.log ≡ a.line.list
active_log w h n r s a =
    s.primary_log a.leads.0 a.line (ap h.given a.own ∙ a.leads.1) a.leads.2 (ap h.line a.own ∙ a.lined)

-- a member with a progress is another member
pub followed_other : {S C O : Type 0} (w : GroupWorld S C O) (h : History C) (n : ℕ) (r : ReplicaState S C) (a : IsActive w h n r) →
    (reached : Progress) → In reached r.progress → In reached.member a.leads.0.members × (reached.member ≡ a.leads.0.primary → ⊥)
followed_other w h n r a reached i =
    (subst (λ ms. In reached.member ms) a.leads.3 (a.followed reached i).0, λ e. a.others reached i (e ∙ a.leads.2))

-- a tick of an active primary
pub keeps_tick_active : {S C O : Type 0} (rules : Rules S C O) (w : GroupWorld S C O) (h : History C) (n : ℕ) (r : ReplicaState S C) →
    IsSoundWorld rules w h → slice_get w.nodes n ≡ Some r → IsActive w h n r → KeepsSoundness rules w h n (on_tick_active O r)
keeps_tick_active {S = S} {C = C} {O = O} rules w h n r s stands a =
    subst (λ (o : Outcome S C O). KeepsSoundness rules w h n o) (sym (on_tick_active-is O r))
    (speaking_keeps rules w h n r (appends_after O r.id r.joined r.log r.progress ++ message_to_followed O r.id (Commit r.joined r.committed) r.progress)
    s stands
    (both (λ to m. IsSilent m.body)
    (said_after O (λ to m. IsSilent m.body) r.id r.joined r.log r.progress (λ reached i c e. tt))
    (said_to_progress O (λ to m. IsSilent m.body) r.id (Commit r.joined r.committed) r.progress (λ reached i. tt)))
    (outputs-append (appends_after O r.id r.joined r.log r.progress) (message_to_followed O r.id (Commit r.joined r.committed) r.progress)
    ∙ ap (λ us. us ++ outputs {C = C} (message_to_followed O r.id (Commit r.joined r.committed) r.progress)) (silent_after O r.id r.joined r.log r.progress)
    ∙ outputs_of_messages r.id (Commit r.joined r.committed) r.progress)
    (both (λ to m. SpeaksTruth w h to m.from m.body)
    (said_after O (λ to m. SpeaksTruth w h to m.from m.body) r.id r.joined r.log r.progress
    (λ reached i c e. (
      a.leads.0,
      a.leads.1,
      from_is,
      followed_other w h n r a reached i,
      a.activated,
      (a.line, a.lined, (a.followed reached i).1, subst (λ (us : List C). slice_get us reached.held ≡ Some c) (active_log w h n r t a) e),
    )))
    (said_to_progress O (λ to m. SpeaksTruth w h to m.from m.body) r.id (Commit r.joined r.committed) r.progress
    (λ reached i. (
      a.leads.0,
      a.leads.1,
      from_is,
      followed_other w h n r a reached i,
      a.activated,
      active_chosen w h n r a r.committed
          (let e = ap length (active_log w h n r t a) in let z = t.within in omega (arith, e, z))
          (λ k j. (a.followed k j).2),
    )))))
  where
    t : IsSoundNode w h n r
    t = s.nodes n r stands

    from_is : r.id ≡ a.leads.0.primary
    from_is = (s.nodes n r stands).id ∙ sym a.leads.2

    both : (P : ℕ → Message C → Type 0) →
        ((to : ℕ) (m : Message C) → In (to, m) (messages (appends_after O r.id r.joined r.log r.progress)) → P to m) →
        ((to : ℕ) (m : Message C) → In (to, m) (messages (message_to_followed O r.id (Commit r.joined r.committed) r.progress)) → P to m) →
        (to : ℕ) (m : Message C) → In (to, m) (messages (appends_after O r.id r.joined r.log r.progress
        ++ message_to_followed O r.id (Commit r.joined r.committed) r.progress)) → P to m
    both P f g to m i = by_part (in_append (messages (appends_after O r.id r.joined r.log r.progress))
        (messages (message_to_followed O r.id (Commit r.joined r.committed) r.progress))
        (subst (λ (us : List (ℕ × Message C)). In (to, m) us)
        (messages-append (appends_after O r.id r.joined r.log r.progress) (message_to_followed O r.id (Commit r.joined r.committed) r.progress)) i))
      where
        by_part : In (to, m) (messages (appends_after O r.id r.joined r.log r.progress))
            ⊎ In (to, m) (messages (message_to_followed O r.id (Commit r.joined r.committed) r.progress)) → P to m
        by_part (inl j) = f to m j
        by_part (inr j) = g to m j
