-- Assigning.antt: the master gives the next ballot to a configuration.
use Rattle.std.proofs.Common.{◌≡◌, ℕ, ◌+◌, ◌<◌, ◌≤◌, ◌⊎◌, inl, inr, Some, Option, refl, ap, sym, ◌∙◌, subst, arith}
use Rattle.machine.specs.Machine.{Rules}
use Rattle.ballot_base.specs.declared.config.Config.{Config}
use Rattle.agreement.specs.World.{GroupWorld}
use Rattle.lists.specs.Lists.{In}
use Rattle.lists.specs.Lists.In.{here}
use Rattle.agreement.specs.Inside.Ballots.{Given, History}
use Rattle.agreement.specs.Inside.BallotsStand.{IsChain, AreBallots}
use Rattle.agreement.specs.Inside.Extension.{Extends}
use Rattle.agreement.specs.MasterState.{MasterState, assigned}
use Rattle.agreement.specs.Inside.Masters.{IsMaster}
use Rattle.agreement.specs.Steps.{sends_from_master}
use Rattle.agreement.specs.Inside.MovesAt.{given_at}
use Rattle.agreement.specs.Inside.Sound.{IsSoundWorld}
use Rattle.agreement.proofs.Masters.MasterSends.{ToldBack, with_ballots, chain_more}
use Rattle.agreement.proofs.Masters.MasterMoves.{master_goes_on, master_lost}
use Rattle.agreement.proofs.Masters.Assigned.{given_here, given_other, given_cases, at_most_newest, Assigned}

-- a configuration whose primary is a member is given a ballot
pub assign_goes_on : {S C O : Type 0} (rules : Rules S C O) (m : MasterState) (w : GroupWorld S C O) (h : History C) (config : Config) →
    IsSoundWorld rules w h → IsMaster m h → In config.primary config.members → Assigned rules m w h (assigned C m config)
assign_goes_on {S = S} {C = C} {O = O} rules m w h config s k member =
    record {
      goes_on = record { history = with_ballots h given h.activated; extends = whole.1; active = λ c j. j; sound = whole.0 };
      lists = refl;
      master = is_master;
      lost = record { history = with_ballots h given h.activated; extends = gone.1; active = λ c j. j; sound = gone.0 };
      lost_master = is_master;
      lost_lists = refl;
      told = whole.2;
      gives = λ b g e. given_now b g (given_cases (m.given + 1) new h.given b g e);
      activates = λ b j. inl j;
      lost_told = gone.2;
      lost_gives = λ b g e. given_now b g (given_cases (m.given + 1) new h.given b g e);
      lost_activates = λ b j. inl j;
    }
  where
    new : Given
    new = record { members = config.members; primary = config.primary; previous = m.active }

    given_now : (b : ℕ) (g : Given) → ((b ≡ m.given + 1) × (new ≡ g)) ⊎ (h.given b ≡ Some g) →
        (h.given b ≡ Some g) ⊎ ((c : Config) × (◌≡◌ {A = Option (ℕ × Config)} (Some (m.given + 1, config)) (Some (b, c)))
        × (g.members ≡ c.members) × (g.primary ≡ c.primary))
    given_now b g (inr e) = inl e
    given_now b g (inl (same, e)) =
        inr (config, ap (λ x. Some (x, config)) (sym same), sym (ap (λ (y : Given). y.members) e), sym (ap (λ (y : Given). y.primary) e))

    given : ℕ → Option Given
    given = given_at (m.given + 1) new h.given

    more : (c : ℕ) (g : Given) → h.given c ≡ Some g → given_at (m.given + 1) new h.given c ≡ Some g
    more c g e = given_other (m.given + 1) new h.given c (λ f. let z = (k.numbered c g e).1 in omega (arith, z, f)) ∙ e

    numbered : (b : ℕ) (g : Given) → given_at (m.given + 1) new h.given b ≡ Some g → (0 < b) × (b ≤ m.given + 1)
    numbered b g e = by_ballot (given_cases (m.given + 1) new h.given b g e)
      where
        by_ballot : ((b ≡ m.given + 1) × (new ≡ g)) ⊎ (h.given b ≡ Some g) → (0 < b) × (b ≤ m.given + 1)
        by_ballot (inl (same, z)) = (omega (arith, same), omega (arith, same))
        by_ballot (inr f) = let z = k.numbered b g f in let a = z.0 in let c = z.1 in (a, omega (arith, c))

    newest_in : In m.active h.activated
    newest_in = subst (λ bs. In m.active bs) (sym k.newest) here

    low : (0 < m.active) × (m.active ≤ m.given)
    low = k.numbered m.active k.active_members.0 k.active_members.1

    at_most : (c : ℕ) → In c h.activated → c ≤ m.active
    at_most c j =
        at_most_newest h m.active k.older (subst (λ bs. IsChain h bs) k.newest s.ballots.chain) c (subst (λ bs. In c bs) k.newest j)

    waits : (b : ℕ) (c : Config) → ◌≡◌ {A = Option (ℕ × Config)} (Some (m.given + 1, config)) (Some (b, c)) →
        (b ≡ m.given + 1) × (m.active < b) × ((g : Given) × (given_at (m.given + 1) new h.given b ≡ Some g) × (g.previous ≡ m.active)
        × (g.members ≡ c.members) × (g.primary ≡ c.primary))
    waits b c e =
        let both : ◌≡◌ {A = ℕ × Config} (m.given + 1, config) (b, c) = cc in
        let one : m.given + 1 ≡ b = ap (λ (y : ℕ × Config). y.0) both in
        let two : config ≡ c = ap (λ (y : ℕ × Config). y.1) both in let up = low.1 in (
          sym one,
          omega (arith, one, up),
          (
            new,
            subst (λ x. given_at (m.given + 1) new h.given x ≡ Some new) one (given_here (m.given + 1) new h.given),
            refl,
            ap (λ (y : Config). y.members) two,
            ap (λ (y : Config). y.primary) two,
          ),
        )

    ballots : AreBallots (with_ballots h (given_at (m.given + 1) new h.given) h.activated)
    ballots =
        record {
          chain = chain_more h (given_at (m.given + 1) new h.given) h.activated h.activated more s.ballots.chain;
          first = λ b g e. first b g (given_cases (m.given + 1) new h.given b g e);
          previous = λ b g e later. previous b g later (given_cases (m.given + 1) new h.given b g e);
          gap = λ b g e later c j less. gap b g later c j less (given_cases (m.given + 1) new h.given b g e);
          were_given = λ b j. let z = s.ballots.were_given b j in (z.0, more b z.0 z.1, z.2);
          led = λ b g e. led b g (given_cases (m.given + 1) new h.given b g e);
        }
      where
        first : (b : ℕ) (g : Given) → ((b ≡ m.given + 1) × (new ≡ g)) ⊎ (h.given b ≡ Some g) → (b ≡ 1) ⊎ (0 < g.previous)
        first b g (inl (same, z)) = let p = ap (λ (y : Given). y.previous) z in let a = low.0 in inr (omega (arith, a, p))
        first b g (inr e) = s.ballots.first b g e

        previous : (b : ℕ) (g : Given) → 0 < g.previous → ((b ≡ m.given + 1) × (new ≡ g)) ⊎ (h.given b ≡ Some g) →
            In g.previous h.activated × (g.previous < b)
        previous b g later (inl (same, z)) =
            let p : m.active ≡ g.previous = ap (λ (y : Given). y.previous) z in let a = low.1 in
            (subst (λ x. In x h.activated) p newest_in, omega (arith, a, p, same))
        previous b g later (inr e) = s.ballots.previous b g e later

        gap : (b : ℕ) (g : Given) → 0 < g.previous → (c : ℕ) → In c h.activated → c < b →
            ((b ≡ m.given + 1) × (new ≡ g)) ⊎ (h.given b ≡ Some g) → c ≤ g.previous
        gap b g later c j less (inl (same, z)) =
            let p = ap (λ (y : Given). y.previous) z in let a = at_most c j in omega (arith, a, p)
        gap b g later c j less (inr e) = s.ballots.gap b g e later c j less

        led : (b : ℕ) (g : Given) → ((b ≡ m.given + 1) × (new ≡ g)) ⊎ (h.given b ≡ Some g) → In g.primary g.members
        led b g (inl (same, z)) = subst (λ (y : Given). In y.primary y.members) z member
        led b g (inr e) = s.ballots.led b g e

    is_master : IsMaster (assigned C m config).state (with_ballots h (given_at (m.given + 1) new h.given) h.activated)
    is_master = record {
      older = k.older;
      newest = k.newest;
      active_members = (k.active_members.0, more m.active k.active_members.0 k.active_members.1, k.active_members.2);
      numbered = numbered;
      waits = λ b c e. waits b c e;
    }

    gone : IsSoundWorld rules w (with_ballots h (given_at (m.given + 1) new h.given) h.activated)
        × Extends w h w (with_ballots h (given_at (m.given + 1) new h.given) h.activated)
        × ToldBack w h w (with_ballots h (given_at (m.given + 1) new h.given) h.activated)
    gone = master_lost rules w h (given_at (m.given + 1) new h.given) h.activated s more
        (λ c g e. (numbered c g e).0) (λ c j. j) ballots s.lines.told

    whole : IsSoundWorld rules (sends_from_master w (assigned C m config)) (with_ballots h (given_at (m.given + 1) new h.given) h.activated)
        × Extends w h (sends_from_master w (assigned C m config)) (with_ballots h (given_at (m.given + 1) new h.given) h.activated)
        × ToldBack w h (sends_from_master w (assigned C m config)) (with_ballots h (given_at (m.given + 1) new h.given) h.activated)
    whole = master_goes_on rules w h (assigned C m config) (given_at (m.given + 1) new h.given) h.activated s tt more
        (λ c g e. (numbered c g e).0) (λ c j. j) ballots s.lines.told (
          new,
          record { given = given_here (m.given + 1) new h.given; later = low.0 },
          refl,
          refl,
          refl,
          refl,
          (k.active_members.0, more m.active k.active_members.0 k.active_members.1, sym k.active_members.2),
        )
