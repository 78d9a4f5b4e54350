-- MoveLines.antt: a move keeps the rows on lists, and what is newly acknowledged is acknowledged by
-- the node that moved.
use Rattle.std.proofs.Common.{◌≡◌, ℕ, ◌+◌, ◌<◌, ◌⊎◌, inl, inr, List, length, Some, Option, sym, subst}
use Rattle.agreement.specs.whole_logs.Messages.{Effect}
use Rattle.agreement.specs.whole_logs.Replica.{ReplicaState}
use Rattle.agreement.specs.World.{GroupWorld, moved}
use Rattle.lists.specs.Lists.{In, IsPrefixOf}
use Rattle.agreement.specs.Inside.Ballots.{TellsHere, Given, Line, History, Acknowledged, IsChosenIn, Sealed}
use Rattle.agreement.specs.Inside.BallotsStand.{BallotListsStand}
use Rattle.agreement.specs.Inside.Extension.{AcknowledgedIsWithin}
use Rattle.agreement.specs.Inside.MovesAt.{MovesAt, with_lines, LineGoesOn, TellsNow}
use Rattle.agreement.specs.Inside.MovesAt.LineGoesOn.{stays, grows, begins}
use Rattle.lists.proofs.Prefixes.{prefix_same, prefix_then}
use Rattle.lists.proofs.Places.{get_set}
use Rattle.agreement.proofs.Frame.Later.{sealed_kept, chosen_kept}
use Rattle.agreement.proofs.Frame.Framing.{move_extends}

-- the rows on lists
pub move_lines : {S C O : Type 0} (w : GroupWorld S C O) (h : History C) (line : ℕ → Option (Line C)) (n : ℕ)
    (old new : ReplicaState S C) (given : List (Effect C O)) → MovesAt w h line n old new given → AcknowledgedIsWithin w h →
    BallotListsStand w h → BallotListsStand (moved w n new given) (with_lines h line)
move_lines {S = S} {C = C} {O = O} w h line n old new given q within s =
    record {
      lined = λ b k e. lined b k (q.goes_on b k e);
      prefix = λ b k e. prefix b k (q.goes_on b k e);
      sealed = λ b g k e later f. sealed b g k e later (q.goes_on b k f);
      base_in = λ b g k e later f. base_in b g k e later (q.goes_on b k f);
      still = λ b k e. still b k (q.goes_on b k e);
      told = λ b i. let t = s.told b i in let y = q.lines b t.0 t.1 in (
        y.0,
        y.1,
        subst (λ (us : List C). IsChosenIn (moved w n new given) (with_lines h line) b (length us)) (sym y.2)
            (chosen_kept w (moved w n new given) h (with_lines h line) b (length t.0.base) (move_extends w h line n old new given q) t.2),
      );
    }
  where
    seal : (b : ℕ) (xs : List C) → Sealed w h b xs → Sealed (moved w n new given) (with_lines h line) b xs
    seal b xs t = sealed_kept w (moved w n new given) h (with_lines h line) b xs (move_extends w h line n old new given q) within t

    lined : (b : ℕ) (k : Line C) → LineGoesOn w h b k → (g : Given) × (h.given b ≡ Some g)
    lined b k (stays e) = s.lined b k e
    lined b k (grows l e same more active) = s.lined b l e
    lined b k (begins g none same given t p) = (g, given)

    prefix : (b : ℕ) (k : Line C) → LineGoesOn w h b k → IsPrefixOf k.base k.list
    prefix b k (stays e) = s.prefix b k e
    prefix b k (grows l e same more active) =
        subst (λ (us : List C). IsPrefixOf us k.list) (sym same) (prefix_then (s.prefix b l e) more)
    prefix b k (begins g none same given t p) = subst (λ (us : List C). IsPrefixOf k.base us) (sym same) (prefix_same k.base)

    sealed : (b : ℕ) (g : Given) (k : Line C) → h.given b ≡ Some g → 0 < g.previous → LineGoesOn w h b k →
        Sealed (moved w n new given) (with_lines h line) g.previous k.base
    sealed b g k e later (stays f) = seal g.previous k.base (s.sealed b g k e later f)
    sealed b g k e later (grows l f same more active) =
        seal g.previous k.base (subst (λ us. Sealed w h g.previous us) (sym same) (s.sealed b g l e later f))
    sealed b g k e later (begins o none same given t p) =
        let one : o ≡ g = cc in seal g.previous k.base (subst (λ (x : Given). Sealed w h x.previous k.base) one t)

    later_line : (b : ℕ) (xs : List C) → (p : Line C) × (h.line b ≡ Some p) × IsPrefixOf xs p.list →
        (p : Line C) × (line b ≡ Some p) × IsPrefixOf xs p.list
    later_line b xs (p, e, f) = let y = q.lines b p e in (y.0, y.1, prefix_then f y.3)

    base_in : (b : ℕ) (g : Given) (k : Line C) → h.given b ≡ Some g → 0 < g.previous → LineGoesOn w h b k →
        (p : Line C) × (line g.previous ≡ Some p) × IsPrefixOf k.base p.list
    base_in b g k e later (stays f) = later_line g.previous k.base (s.base_in b g k e later f)
    base_in b g k e later (grows l f same more active) =
        let z = s.base_in b g l e later f in
        later_line g.previous k.base (z.0, z.1, subst (λ (us : List C). IsPrefixOf us z.0.list) (sym same) z.2)
    base_in b g k e later (begins o none same given t p) =
        let one : o ≡ g = cc in
        later_line g.previous k.base
        (subst (λ (x : Given). (p : Line C) × (h.line x.previous ≡ Some p) × IsPrefixOf k.base p.list) one p)

    still : (b : ℕ) (k : Line C) → LineGoesOn w h b k → In b h.activated ⊎ (k.list ≡ k.base)
    still b k (stays e) = s.still b k e
    still b k (grows l e same more active) = inl active
    still b k (begins g none same given t p) = inr same

-- what is newly acknowledged after a move is acknowledged by the node that moved
pub tells_here : {S C O : Type 0} (w : GroupWorld S C O) (h : History C) (line : ℕ → Option (Line C)) (n : ℕ)
    (old new : ReplicaState S C) (given : List (Effect C O)) → MovesAt w h line n old new given → (m b k : ℕ) →
    Acknowledged (moved w n new given) (with_lines h line) m b k → Acknowledged w h m b k ⊎ TellsHere (moved w n new given) m b k
tells_here {S = S} {C = C} {O = O} w h line n old new given q m b k t = by_teller (q.tells m b k t)
  where
    by_teller : Acknowledged w h m b k ⊎ ((m ≡ n + 1) × TellsNow line old new b k) → Acknowledged w h m b k ⊎ TellsHere (moved w n new given) m b k
    by_teller (inl before) = inl before
    by_teller (inr (one, l)) =
        inr (record { node = n; replica = new; number = one; stands = get_set w.nodes n old new q.stands; held = l.held; short = l.short })
