-- A client that no command of the list expels has one session at most, which lasts once it began,
-- and so it is in step.
use Rattle.std.proofs.Common.{◌≡◌, ◌≤◌, ℕ, ◌+◌, Bool, true, false, ◌||◌, ◌&&◌, if◌then◌else◌, List, [], ◌∷◌, ◌++◌, length, Option, Some, None, refl, sym, ◌∙◌, ap, ap₂, subst, inl, inr, ◌⊎◌, arith}
use Rattle.std.proofs.lemmas.Bool.{both_ways}
use Rattle.std.proofs.lemmas.List.{append-nil, length-append}
use Rattle.lists.specs.Lists.{Each}
use Rattle.broker_spec.specs.Connection.{ConnectionName}
use Rattle.broker_spec.specs.Place.{Client, Place, Past, Limits, same_client}
use Rattle.broker_spec.specs.Sessions.{accepts, begins, begins_session, is_beginning, clean_session_of, session_start}
use Rattle.broker_spec.specs.Commands.{place_of}
use Rattle.broker_spec.proofs.ClientsInOrder.{same_self}
use Rattle.exactly_once.specs.Sides.{ClientConnection}
use Rattle.exactly_once.specs.Story.{Story, StoryStep}
use Rattle.exactly_once.specs.StoryCommands.{command_of, names_client}
use Rattle.exactly_once.specs.Story.StoryStep.{takes, others_take, receives, opens_anew, loses, disconnects, publishes_one, subscribes, unsubscribes}
use Rattle.exactly_once.specs.InStep.{AreWelcome, IsFirstSession, WasWelcome, began_again, has_begun, opens_on, sessions_begun, starts_of}
use Rattle.exactly_once.specs.Lives.{Lived}
use Rattle.exactly_once.specs.Unexpelled.{HasOneSession, IsUnexpelled, UnexpelledLivesAreInStep}
use Rattle.exactly_once.specs.Lives.Lived.{opens, goes_on, is_expelled}
use Rattle.exactly_once.proofs.places.After.{IsKeptSession, IsSpared}
use Rattle.exactly_once.proofs.places.Spared.{other_spares}
use Rattle.exactly_once.proofs.publishing.kept.KeepsNames.{OpensKept, kept_other}
use Rattle.exactly_once.proofs.sessions.Life.{IsLife}
use Rattle.exactly_once.proofs.sessions.LifeGoes.{life_goes}
use Rattle.exactly_once.proofs.sessions.LifePlaces.{life_command, own_opens, own_spares}
use Rattle.exactly_once.proofs.sessions.EachSession.{life_opens}
use Rattle.exactly_once.proofs.sessions.Openings.{start_here}
use Rattle.exactly_once.proofs.sessions.StartKeeps.{start_keeps, started_there}

-- ---- how many began

pub starts_counted : (past : Past) (c : Client) → sessions_begun past c ≡ length (starts_of past c)
starts_counted [] c = refl
starts_counted (place ∷ past) c = by (begins place past c) (starts_counted past c)
  where
    by : (b : Bool) → sessions_begun past c ≡ length (starts_of past c) → (if b then 1 else 0) + sessions_begun past c ≡ length (starts_of past c ++ (if b then length past ∷ [] else []))
    by true ih = let l = length-append (starts_of past c) (length past ∷ []) in omega (arith, ih, l)
    by false ih = let l = ap length (append-nil (starts_of past c)) in omega (arith, ih, l)

pub first_once : (past : Past) (c : Client) → IsFirstSession past c → sessions_begun past c ≤ 1
first_once past c (inl none) = let n = starts_counted past c in let l = ap length none in omega (arith, n, l)
first_once past c (inr (start, are, e)) = let n = starts_counted past c in let l = ap length are in omega (arith, n, l)

pub none_begun : (past : Past) (c : Client) → sessions_begun past c ≡ 0 → has_begun past c ≡ false
none_begun [] c e = refl
none_begun (place ∷ past) c e = by (begins place past c) e (none_begun past c)
  where
    by : (b : Bool) → (if b then 1 else 0) + sessions_begun past c ≡ 0 → (sessions_begun past c ≡ 0 → has_begun past c ≡ false) → (b || has_begun past c) ≡ false
    by true f ih = absurd (omega (arith, f))
    by false f ih = ih (omega (arith, f))

-- ---- in step

once_not_again : (past : Past) (c : Client) (x : ConnectionName) → sessions_begun past c ≤ 1 → began_again past c x ≡ false
once_not_again [] c x one = refl
once_not_again (place ∷ past) c x one = by (opens_on x (accepts place.command place.mark c)) (begins place past c) one (once_not_again past c x)
  where
    here : (o : Bool) → (h : Bool) → h ≡ false → (o && (true && h)) ≡ false
    here true h e = e
    here false h e = refl

    none : (o : Bool) → (o && (false && has_begun past c)) ≡ false
    none true = refl
    none false = refl

    by : (o b : Bool) → (if b then 1 else 0) + sessions_begun past c ≤ 1 → (sessions_begun past c ≤ 1 → began_again past c x ≡ false)
        → ((o && (b && has_begun past c)) || began_again past c x) ≡ false
    by o true f ih =
        let nought : sessions_begun past c ≡ 0 = omega (arith, f) in
        ap₂ (λ p q. p || q) (here o (has_begun past c) (none_begun past c nought)) (ih (omega (arith, f)))
    by o false f ih = ap₂ (λ p q. p || q) (none o) (ih (omega (arith, f)))

-- of a client that has had one session, each connection was welcome
pub once_in_step : (past : Past) (c : Client) (connections : List ClientConnection) → sessions_begun past c ≤ 1 → AreWelcome past c connections
once_in_step past c [] one = tt
once_in_step past c (κ ∷ others) one = all others
  where
    all : (l : List ClientConnection) → Each (WasWelcome past c) l
    all [] = tt
    all (μ ∷ l) = (λ again. absurd (both_ways (began_again past c μ.name) (once_not_again past c μ.name one) again), all l)

-- ---- a place that keeps the session

no_beginning : (place : Place) (past : Past) (c : Client) → clean_session_of past c ≡ Some false → OpensKept c place → begins place past c ≡ false
no_beginning place past c live kept = by (accepts place.command place.mark c) refl
  where
    by : (o : Option (ConnectionName × Bool)) → accepts place.command place.mark c ≡ o → begins place past c ≡ false
    by (Some opened) f = ap₂ is_beginning f live ∙ ap (λ b. begins_session b (Some false)) (kept opened f)
    by None f = ap₂ is_beginning f live

first_placed : (place : Place) (past : Past) (c : Client) → IsKeptSession (clean_session_of past c) → OpensKept c place → IsSpared place.command past c → IsFirstSession past c
    → IsFirstSession (place ∷ past) c
first_placed place past c session kept spared (inr (start, are, e)) =
    let none = no_beginning place past c (started_there past c start session e) kept in
    inr (start, ap (λ b. starts_of past c ++ (if b then length past ∷ [] else [])) none ∙ append-nil (starts_of past c) ∙ are, start_keeps place past c start session kept spared e)
first_placed place past c session kept spared (inl none) = by (begins place past c) refl
  where
    by : (b : Bool) → begins place past c ≡ b → IsFirstSession (place ∷ past) c
    by false e = inl (ap (λ b. starts_of past c ++ (if b then length past ∷ [] else [])) e ∙ append-nil (starts_of past c) ∙ none)
    by true e = inr (length past, ap₂ (λ l b. l ++ (if b then length past ∷ [] else [])) none e, start_here place past c e)

-- ---- the events

first_goes : (limits : Limits) (c : Client) (s t : Story) → IsLife limits c s → IsFirstSession s.past c → StoryStep limits s t → IsFirstSession t.past c
first_goes limits c s t life first (takes i κ w stands next) =
    let command = command_of κ.name κ.taken w.packet in
    let kind = life_command limits c s i κ w life stands next in
    first_placed (place_of limits s.past command) s.past c life.session (own_opens limits s.past c κ w.packet command kind) (own_spares s.past c κ w.packet command kind) first
first_goes limits c s t life first (others_take command other none) =
    let place = place_of limits s.past command in
    let mine = subst (λ (d : Client). names_client s.past d command → ⊥) life.keeper.client other in
    first_placed place s.past c life.session (kept_other s.past c command place.mark mine) (other_spares s.past c command mine) first
first_goes limits c s t life first (receives κ others packet are opened next) = first
first_goes limits c s t life first (opens_anew x fresh none uncounted) = first
first_goes limits c s t life first loses = first
first_goes limits c s t life first disconnects = first
first_goes limits c s t life first (publishes_one p needs) = first
first_goes limits c s t life first (subscribes p on id) = first
first_goes limits c s t life first (unsubscribes p on id) = first

unexpelled_before : (limits : Limits) (c : Client) (s t : Story) → StoryStep limits s t → IsUnexpelled c t.past → IsUnexpelled c s.past
unexpelled_before limits c s t (takes i κ w stands next) h = h.1
unexpelled_before limits c s t (others_take command other none) h = h.1
unexpelled_before limits c s t (receives κ others packet are opened next) h = h
unexpelled_before limits c s t (opens_anew x fresh none uncounted) h = h
unexpelled_before limits c s t loses h = h
unexpelled_before limits c s t disconnects h = h
unexpelled_before limits c s t (publishes_one p needs) h = h
unexpelled_before limits c s t (subscribes p on id) h = h
unexpelled_before limits c s t (unsubscribes p on id) h = h

record IsFirst (limits : Limits) (c : Client) (s : Story) : Type 0 where
  pub life : IsLife limits c s
  pub first : IsFirstSession s.past c

lived_first : (limits : Limits) (c : Client) (s : Story) → Lived limits c s → IsUnexpelled c s.past → IsFirst limits c s
lived_first limits c s opens h = record { life = life_opens limits c; first = inl refl }
lived_first limits c t (goes_on {before = s} lived happens) h =
    let f = lived_first limits c s lived (unexpelled_before limits c s t happens h) in
    record { life = life_goes limits c s t f.life happens; first = first_goes limits c s t f.life f.first happens }
lived_first limits c t (is_expelled {before = s} lived) h = absurd (both_ways (same_client c c) h.0 (same_self c))

pub unexpelled_in_step : UnexpelledLivesAreInStep
unexpelled_in_step limits c s lived h =
    let f = lived_first limits c s lived h in
    let first = subst (IsFirstSession s.past) (sym f.life.keeper.client) f.first in
    record { first = first; in_step = once_in_step s.past s.keeper.client s.connections (first_once s.past s.keeper.client first) }
