-- Lawful.antt: the members that the master has are lawful: they rise strictly, up to the greatest number.
use Rattle.std.proofs.Common.{◌≡◌, ℕ, ◌+◌, ◌<◌, ◌≤◌, ◌⊎◌, inl, inr, true, false, List, [], ◌∷◌, length, Some, None, Option, refl, ap, sym, subst, arith}
use Rattle.std.specs.Prelude.{◌==◌, ◌&&◌, nat_lt, nat_le}
use Rattle.std.specs.List.{list_any}
use Rattle.std.proofs.lemmas.Bool.{and_parts, cases_Bool, leb-true, ltb-true}
use Rattle.machine.specs.Machine.{Rules}
use Rattle.lists.specs.Lists.{In}
use Rattle.lists.specs.Lists.In.{here, there}
use Rattle.ballot_base.specs.declared.config.Config.{Config}
use Rattle.ballot_base.specs.LawfulConfig.{are_rising, is_lawful}
use Rattle.agreement.specs.MasterState.{AssignRefusal, MasterState, activated, refusal, master_after}
use Rattle.agreement.specs.Moments.{Moment, Moments}
use Rattle.agreement.specs.Moments.Moments.{began, went_on, learned}
use Rattle.agreement.specs.Steps.{MayHappen}
use Rattle.agreement.specs.Steps.MayHappen.{node_takes, node_stops, master_assigns, master_hears, assignment_lost, answer_lost}
use Rattle.agreement.specs.World.{GroupWorld}
use Rattle.agreement.proofs.Masters.Assigns.{can_open_is, not_refused}

-- the members of the active ballot rise, and so do those of the ballot that waits
pub record AreLawful (m : MasterState) : Type 0 where
  pub active : are_rising m.greatest 0 m.members ≡ true
  pub waiting : (b : ℕ) (c : Config) → m.waiting ≡ Some (b, c) → are_rising m.greatest 0 c.members ≡ true

rises : (greatest : ℕ) (config : Config) → is_lawful greatest config.members config.primary ≡ true → are_rising greatest 0 config.members ≡ true
rises greatest config e =
    (and_parts (are_rising greatest 0 config.members)
    (nat_le 1 (length config.members) && (nat_le (length config.members) 7 && list_any (λ member. member == config.primary) config.members)) e).0

lawful_assigned : (m : MasterState) (config : Config) (o : Option AssignRefusal) → refusal m config ≡ o → AreLawful m → AreLawful (master_after m config o)
lawful_assigned m config (Some why) e s = s
lawful_assigned m config None e s = record { active = s.active; waiting = λ b c f. waits b c f }
  where
    waits : (b : ℕ) (c : Config) → ◌≡◌ {A = Option (ℕ × Config)} (Some (m.given + 1, config)) (Some (b, c)) → are_rising m.greatest 0 c.members ≡ true
    waits b c f =
        let both : ◌≡◌ {A = ℕ × Config} (m.given + 1, config) (b, c) = cc in
        subst (λ (y : Config). are_rising m.greatest 0 y.members ≡ true) (ap (λ (y : ℕ × Config). y.1) both)
        (rises m.greatest config (not_refused m config e).0)

lawful_activated : (C : Type 0) (m : MasterState) (b from : ℕ) (waiting : Option (ℕ × Config)) → m.waiting ≡ waiting → AreLawful m →
    AreLawful (activated C m b from waiting).state
lawful_activated C m b from None e s = s
lawful_activated C m b from (Some (x, config)) e s = by_ballot (cases_Bool (b == x))
  where
    by_ballot : ((b == x) ≡ true) ⊎ ((b == x) ≡ false) → AreLawful (activated C m b from (Some (x, config))).state
    by_ballot (inl f) = rw f (record { active = s.waiting x config e; waiting = λ c k g. cc })
    by_ballot (inr f) = rw f s

lawful_step : {S C O : Type 0} (rules : Rules S C O) (m : MasterState) (w : GroupWorld S C O) (k : MasterState) (v : GroupWorld S C O) → MayHappen rules m w k v →
    AreLawful m → AreLawful k
lawful_step rules m w k v (node_takes n r input stands runs may loses) s = s
lawful_step rules m w k v (node_stops n r stands) s = s
lawful_step {C = C} rules m w k v (master_hears from b sent) s = lawful_activated C m b from m.waiting refl s
lawful_step {C = C} rules m w k v (answer_lost from b sent) s = lawful_activated C m b from m.waiting refl s
lawful_step rules m w k v (master_assigns config) s = lawful_assigned m config (refusal m config) refl s
lawful_step rules m w k v (assignment_lost config) s = lawful_assigned m config (refusal m config) refl s

-- of all moments
pub moments_lawful : {S C O : Type 0} (rules : Rules S C O) (config : Config) (a : Moment S C O) (moments : List (Moment S C O)) →
    Moments rules config (a ∷ moments) → AreLawful a.master
moments_lawful {S = S} {C = C} {O = O} rules config a moments (began greatest nodes lawful is) =
    subst (λ (u : Moment S C O). AreLawful u.master) (sym is)
    (record { active = rises greatest config (can_open_is greatest nodes config lawful).0; waiting = λ b c f. cc })
moments_lawful rules config v (a ∷ moments) (went_on came step) =
    lawful_step rules a.master a.world v.master v.world step (moments_lawful rules config a moments came)
moments_lawful {S = S} {C = C} {O = O} rules config v (a ∷ moments) (learned came learns) =
    subst (λ (u : Moment S C O). AreLawful u.master) (sym learns.becomes) (moments_lawful rules config a moments came)

-- members that rise lie above what they rise from, are at most the greatest, and each occurs once
pub rising_above : (greatest last : ℕ) (members : List ℕ) (m : ℕ) → are_rising greatest last members ≡ true → In m members → (last < m) × (m ≤ greatest)
rising_above greatest last [] m e i = elim i [ ]
rising_above greatest last (x ∷ members) m e here =
    let a = and_parts (nat_lt last m && nat_le m greatest) (are_rising greatest m members) e in
    let b = and_parts (nat_lt last m) (nat_le m greatest) a.0 in
    (ltb-true last m b.0, leb-true m greatest b.1)
rising_above greatest last (x ∷ members) m e (there i) =
    let a = and_parts (nat_lt last x && nat_le x greatest) (are_rising greatest x members) e in
    let b = and_parts (nat_lt last x) (nat_le x greatest) a.0 in
    let low = ltb-true last x b.0 in
    let z = rising_above greatest x members m a.1 i in let up = z.0 in (omega (arith, low, up), z.1)
