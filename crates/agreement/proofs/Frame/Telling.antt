-- Telling.antt: what is acknowledged after a move was acknowledged before, or the node that moved
-- acknowledged it in a ballot that it had not left.
use Rattle.std.proofs.Common.{◌≡◌, ℕ, ◌+◌, ◌<◌, ◌≤◌, ◌⊎◌, inl, inr, List, length, Some, Option, refl, sym, ◌∙◌, subst, arith}
use Rattle.std.specs.Prelude.{slice_get}
use Rattle.std.proofs.lemmas.Bool.{cases_eq}
use Rattle.agreement.specs.whole_logs.Messages.{Message, Body, Effect}
use Rattle.agreement.specs.whole_logs.Messages.Body.{Held, Installed}
use Rattle.agreement.specs.whole_logs.Replica.{ReplicaState}
use Rattle.agreement.specs.World.{GroupWorld, messages, moved}
use Rattle.lists.specs.Lists.{In}
use Rattle.agreement.specs.Inside.Ballots.{Given, Line, History, Acknowledged}
use Rattle.agreement.specs.Inside.BallotsStand.{IsPlaced}
use Rattle.agreement.specs.Inside.Ballots.Acknowledged.{told_at_opening, told_by_held, told_by_installed, told_as_primary}
use Rattle.agreement.specs.Inside.MovesAt.{MovesAt, with_lines, TellsNow}
use Rattle.agreement.specs.Inside.MovesAt.LineGoesOn.{stays}
use Rattle.lists.proofs.Members.{in_append}
use Rattle.lists.proofs.Prefixes.{prefix_same}

-- a body says what the node may tell now
abbrev pub TellsWithin : {S C : Type 0} → (ℕ → Option (Line C)) → ReplicaState S C → ReplicaState S C → Body C → Type 0
TellsWithin line old new (Held b held) = TellsNow line old new b held
TellsWithin line old new (Installed b held) = TellsNow line old new b held
TellsWithin line old new _ = Unit {0}

-- who may tell more may tell less
tells_less : {S C : Type 0} (line : ℕ → Option (Line C)) (old new : ReplicaState S C) (b k j : ℕ) → j ≤ k →
    TellsNow line old new b k → TellsNow line old new b j
tells_less line old new b k j less t =
    let short = t.short in let within = t.within in
    record {
      low = t.low;
      held = t.held;
      short = omega (arith, short, less);
      told = t.told;
      lined = t.lined;
      within = omega (arith, within, less);
    }

-- what is acknowledged after a move
pub tells_of : {S C O : Type 0} (w : GroupWorld S C O) (h : History C) (line : ℕ → Option (Line C)) (n : ℕ) (old new : ReplicaState S C)
    (given : List (Effect C O)) →
    ((b : ℕ) (g : Given) → h.given b ≡ Some g → (g.primary ≡ n + 1 → ⊥) → line b ≡ h.line b) →
    ((b : ℕ) (l : Line C) → line b ≡ Some l → (h.line b ≡ Some l) ⊎ TellsNow line old new b (length l.list)) →
    ((to : ℕ) (m : Message C) → In (to, m) (messages given) → (m.from ≡ n + 1) × TellsWithin line old new m.body) →
    (m b k : ℕ) → Acknowledged (moved w n new given) (with_lines h line) m b k →
    Acknowledged w h m b k ⊎ ((m ≡ n + 1) × TellsNow line old new b k)
tells_of w h line n old new given own fresh now m b k (told_at_opening g one none is member) =
    inl (told_at_opening g one none is member)
tells_of {S = S} {C = C} w h line n old new given own fresh now m b k (told_by_held receiver held j below) =
    by_sent (in_append w.sent (messages given) j)
  where
    by_sent : In {X = ℕ × Message C} (receiver, record { from = m; body = Held b held }) w.sent
        ⊎ In {X = ℕ × Message C} (receiver, record { from = m; body = Held b held }) (messages given) →
        Acknowledged w h m b k ⊎ ((m ≡ n + 1) × TellsNow line old new b k)
    by_sent (inl i) = inl (told_by_held receiver held i below)
    by_sent (inr i) = let z = now receiver _ i in inr (z.0, tells_less line old new b held k below z.1)
tells_of {S = S} {C = C} w h line n old new given own fresh now m b k (told_by_installed receiver held j below) =
    by_sent (in_append w.sent (messages given) j)
  where
    by_sent : In {X = ℕ × Message C} (receiver, record { from = m; body = Installed b held }) w.sent
        ⊎ In {X = ℕ × Message C} (receiver, record { from = m; body = Installed b held }) (messages given) →
        Acknowledged w h m b k ⊎ ((m ≡ n + 1) × TellsNow line old new b k)
    by_sent (inl i) = inl (told_by_installed receiver held i below)
    by_sent (inr i) = let z = now receiver _ i in inr (z.0, tells_less line old new b held k below z.1)
tells_of {S = S} {C = C} w h line n old new given own fresh now m b k (told_as_primary g l is primary lined below) =
    by_node (cases_eq m (n + 1))
  where
    by_age : m ≡ n + 1 → (h.line b ≡ Some l) ⊎ TellsNow line old new b (length l.list) →
        Acknowledged w h m b k ⊎ ((m ≡ n + 1) × TellsNow line old new b k)
    by_age same (inl e) = inl (told_as_primary g l is primary e below)
    by_age same (inr now) = inr (same, tells_less line old new b (length l.list) k below now)

    by_node : (m ≡ n + 1) ⊎ (m ≡ n + 1 → ⊥) → Acknowledged w h m b k ⊎ ((m ≡ n + 1) × TellsNow line old new b k)
    by_node (inl same) = by_age same (fresh b l lined)
    by_node (inr other) =
        inl (told_as_primary g l is primary (sym (own b g is (λ e. other (sym primary ∙ e))) ∙ lined) below)

-- a move that changes no list
pub same_moves : {S C O : Type 0} (w : GroupWorld S C O) (h : History C) (n : ℕ) (old new : ReplicaState S C) (given : List (Effect C O)) →
    slice_get w.nodes n ≡ Some old → old.joined ≤ new.joined → old.committed ≤ new.committed →
    ((to : ℕ) (m : Message C) → In (to, m) (messages given) → (m.from ≡ n + 1) × TellsWithin h.line old new m.body) →
    MovesAt w h h.line n old new given
same_moves w h n old new given stands rises committed now =
    record {
      stands = stands;
      rises = rises;
      committed = committed;
      goes_on = λ b k e. stays e;
      lines = λ b l e. (l, e, refl, prefix_same l.list);
      own = λ b g e ne. refl;
      tells = tells_of w h h.line n old new given (λ b g e ne. refl) (λ b l e. inl e) now;
    }

-- the place of a node that moved: what it acknowledged is in no higher ballot, and no longer than
-- its log
pub told_placed : {S C O : Type 0} (w : GroupWorld S C O) (h : History C) (line : ℕ → Option (Line C)) (n : ℕ) (old new : ReplicaState S C)
    (given : List (Effect C O)) → MovesAt w h line n old new given → IsPlaced w h n old → old.held_in ≤ new.held_in →
    (b k : ℕ) → Acknowledged (moved w n new given) (with_lines h line) (n + 1) b k → b ≤ new.held_in
told_placed {S = S} {C = C} w h line n old new given q p up b k t = by_teller (q.tells (n + 1) b k t)
  where
    by_teller : Acknowledged w h (n + 1) b k ⊎ ((n + 1 ≡ n + 1) × TellsNow line old new b k) → b ≤ new.held_in
    by_teller (inl before) = let z = p.told b k before in omega (arith, z, up)
    by_teller (inr (same, now)) = let z = now.held in omega (arith, z)

pub told_in_log : {S C O : Type 0} (w : GroupWorld S C O) (h : History C) (line : ℕ → Option (Line C)) (n : ℕ) (old new : ReplicaState S C)
    (given : List (Effect C O)) → MovesAt w h line n old new given → IsPlaced w h n old →
    (old.held_in < new.held_in) ⊎ ((old.held_in ≡ new.held_in) × (length old.log ≤ length new.log)) →
    (k : ℕ) → Acknowledged (moved w n new given) (with_lines h line) (n + 1) new.held_in k → k ≤ length new.log
told_in_log {S = S} {C = C} w h line n old new given q p way k t = by_teller way (q.tells (n + 1) new.held_in k t)
  where
    by_teller : (old.held_in < new.held_in) ⊎ ((old.held_in ≡ new.held_in) × (length old.log ≤ length new.log)) →
        Acknowledged w h (n + 1) new.held_in k ⊎ ((n + 1 ≡ n + 1) × TellsNow line old new new.held_in k) → k ≤ length new.log
    by_teller way (inr (same, now)) = now.short
    by_teller (inl less) (inl before) = let z = p.told new.held_in k before in absurd (omega (arith, z, less))
    by_teller (inr (same, long)) (inl before) =
        let z = p.acknowledged_here k (subst (λ b. Acknowledged w h (n + 1) b k) (sym same) before) in omega (arith, z, long)
