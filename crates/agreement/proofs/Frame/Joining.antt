-- Joining.antt: a move of one node that says nothing: what is acknowledged, the nodes, and that the
-- world extends.
use Rattle.std.proofs.Common.{◌≡◌, ℕ, ◌+◌, ◌≤◌, ◌⊎◌, inl, inr, List, [], length, set, Some, refl, ap, sym, ◌∙◌, arith}
use Rattle.std.specs.Prelude.{slice_get}
use Rattle.std.proofs.lemmas.Bool.{cases_eq}
use Rattle.agreement.specs.whole_logs.Messages.{Message, Body, Effect}
use Rattle.agreement.specs.whole_logs.Messages.Body.{Installed, Held}
use Rattle.agreement.specs.whole_logs.Replica.{ReplicaState}
use Rattle.agreement.specs.World.{GroupWorld, messages, outputs, moved}
use Rattle.lists.specs.Lists.{In}
use Rattle.agreement.specs.Inside.Ballots.{Line, History, Acknowledged}
use Rattle.agreement.specs.Inside.Extension.{Extends, AcknowledgedIsWithin}
use Rattle.agreement.specs.Inside.Ballots.Acknowledged.{told_at_opening, told_by_held, told_by_installed, told_as_primary}
use Rattle.agreement.specs.Inside.SoundNodes.{IsSoundNode}
use Rattle.lists.proofs.Prefixes.{prefix_same}
use Rattle.lists.proofs.Places.{get_set, get_set_other}
use Rattle.lists.proofs.Members.{in_left, in_append}
use Rattle.agreement.proofs.Frame.Later.{told_kept, applied_kept}

-- a body that says nothing
abbrev pub IsSilent : {C : Type 0} → Body C → Type 0
IsSilent (Held b k) = ⊥
IsSilent (Installed b k) = ⊥
IsSilent _ = Unit {0}

-- messages that say nothing
abbrev pub AreSilent : {C : Type 0} → List (ℕ × Message C) → Type 0
AreSilent {C} sent = (to : ℕ) (m : Message C) → In (to, m) sent → IsSilent m.body

-- a move by which a node went back to no lower ballot, and acknowledged nothing
pub record MovesQuietly {S C O : Type 0} (w : GroupWorld S C O) (n : ℕ) (old new : ReplicaState S C) (given : List (Effect C O)) : Type 0 where
  pub stands : slice_get w.nodes n ≡ Some old
  pub rises : old.joined ≤ new.joined
  pub silent : AreSilent (messages given)
  pub dumb : outputs given ≡ []
  pub committed : old.committed ≤ new.committed

-- what is acknowledged after such a move was acknowledged before
pub told_back : {S C O : Type 0} (w : GroupWorld S C O) (h : History C) (n : ℕ) (old new : ReplicaState S C) (given : List (Effect C O)) →
    MovesQuietly w n old new given → (m b k : ℕ) → Acknowledged (moved w n new given) h m b k → Acknowledged w h m b k
told_back w h n old new given q m b k (told_at_opening g one none is member) = told_at_opening g one none is member
told_back {S = S} {C = C} w h n old new given q m b k (told_by_held receiver held j below) =
    by_sent (in_append w.sent (messages given) j)
  where
    by_sent : In {X = ℕ × Message C} (receiver, record { from = m; body = Held b held }) w.sent
        ⊎ In {X = ℕ × Message C} (receiver, record { from = m; body = Held b held }) (messages given) → Acknowledged w h m b k
    by_sent (inl i) = told_by_held receiver held i below
    by_sent (inr i) = absurd (q.silent receiver _ i)
told_back {S = S} {C = C} w h n old new given q m b k (told_by_installed receiver held j below) =
    by_sent (in_append w.sent (messages given) j)
  where
    by_sent : In {X = ℕ × Message C} (receiver, record { from = m; body = Installed b held }) w.sent
        ⊎ In {X = ℕ × Message C} (receiver, record { from = m; body = Installed b held }) (messages given) → Acknowledged w h m b k
    by_sent (inl i) = told_by_installed receiver held i below
    by_sent (inr i) = absurd (q.silent receiver _ i)
told_back w h n old new given q m b k (told_as_primary g l is primary lined below) = told_as_primary g l is primary lined below

-- the nodes after a move
pub node_at : {S C O : Type 0} (w : GroupWorld S C O) (n : ℕ) (old new : ReplicaState S C) (given : List (Effect C O)) → slice_get w.nodes n ≡ Some old →
    (m : ℕ) (r : ReplicaState S C) → slice_get w.nodes m ≡ Some r →
    (s : ReplicaState S C) × (slice_get (set w.nodes n new) m ≡ Some s) × ((r ≡ s) ⊎ ((r ≡ old) × (s ≡ new)))
node_at {S = S} {C = C} w n old new given stands m r e = by_place (cases_eq m n)
  where
    by_place : (m ≡ n) ⊎ (m ≡ n → ⊥) →
        (s : ReplicaState S C) × (slice_get (set w.nodes n new) m ≡ Some s) × ((r ≡ s) ⊎ ((r ≡ old) × (s ≡ new)))
    by_place (inl same) =
        let f : Some r ≡ Some old = sym e ∙ ap (slice_get w.nodes) same ∙ stands in
        (new, ap (slice_get (set w.nodes n new)) same ∙ get_set w.nodes n old new stands, inr ((let g : r ≡ old = cc in g), refl))
    by_place (inr other) = (r, get_set_other w.nodes n m new other ∙ e, inl refl)

-- such a move extends the world
pub quiet_extends : {S C O : Type 0} (w : GroupWorld S C O) (h : History C) (n : ℕ) (old new : ReplicaState S C) (given : List (Effect C O)) →
    MovesQuietly w n old new given → Extends w h (moved w n new given) h
quiet_extends {S = S} {C = C} w h n old new given q =
    record {
      sent = λ x i. in_left (messages given) i;
      nodes = λ m r e. by_node m r (node_at w n old new given q.stands m r e);
      given = λ b g e. e;
      lines = λ b l e. (l, e, refl, prefix_same l.list);
      told = λ m b k r e t. inl (told_back w h n old new given q (m + 1) b k t);
    }
  where
    by_node : (m : ℕ) (r : ReplicaState S C) →
        (s : ReplicaState S C) × (slice_get (set w.nodes n new) m ≡ Some s) × ((r ≡ s) ⊎ ((r ≡ old) × (s ≡ new))) →
        (s : ReplicaState S C) × (slice_get (set w.nodes n new) m ≡ Some s) × (r.joined ≤ s.joined)
    by_node m r (s, e, (inl same)) = (s, e, (let f = ap (λ (x : ReplicaState S C). x.joined) same in omega (arith, f)))
    by_node m r (s, e, (inr (a, b))) =
        let f = ap (λ (x : ReplicaState S C). x.joined) a in let g = ap (λ (x : ReplicaState S C). x.joined) b in let up = q.rises in
        (s, e, omega (arith, f, g, up))

-- a node that did not move stays as it should be
pub quiet_node : {S C O : Type 0} (w : GroupWorld S C O) (h : History C) (n : ℕ) (old new : ReplicaState S C) (given : List (Effect C O)) →
    MovesQuietly w n old new given → AcknowledgedIsWithin w h → (m : ℕ) (r : ReplicaState S C) → IsSoundNode w h m r →
    IsSoundNode (moved w n new given) h m r
quiet_node {S = S} {C = C} {O = O} w h n old new given q within m r s =
    let x = quiet_extends w h n old new given q in
    record {
      id = s.id;
      placed = record {
        order = s.placed.order;
        between = s.placed.between;
        told = λ b k t. s.placed.told b k (told_back w h n old new given q (m + 1) b k t);
        acknowledged_here = λ k t. s.placed.acknowledged_here k (told_back w h n old new given q (m + 1) r.held_in k t);
      };
      empty = s.empty;
      member = s.member;
      primary_log = s.primary_log;
      joined_by = s.joined_by;
      within = s.within;
      applied = applied_kept w (moved w n new given) h h r x (λ b i. i) within s.applied;
      fetching = s.fetching;
      installing = λ e. let i = s.installing e in record {
        leads = i.leads;
        later = i.later;
        own = i.own;
        line = i.line;
        lined = i.lined;
        base = i.base;
        noted = λ k j. noted k i.line (i.noted k j);
        lacks = i.lacks;
      };
      active = λ e. let a = s.active e in record {
        leads = a.leads;
        own = a.own;
        activated = a.activated;
        line = a.line;
        lined = a.lined;
        begun = a.begun;
        above = a.above;
        covered = a.covered;
        followed = λ reached j. let z = a.followed reached j in
            (z.0, z.1, z.2, told_kept w (moved w n new given) h h reached.member r.joined reached.held x z.3);
        others = a.others;
      };
    }
  where
    noted : {X : Type 0} (k : ℕ) (l : Line C) → X ⊎ Acknowledged w h k r.joined (length l.base) →
        X ⊎ Acknowledged (moved w n new given) h k r.joined (length l.base)
    noted k l (inl y) = inl y
    noted k l (inr t) =
        inr (told_kept w (moved w n new given) h h k r.joined (length l.base) (quiet_extends w h n old new given q) t)
