-- A client without a session, which receives nothing of an earlier one any more: what it accepted
-- stays at a place that opens none of its connections.
use Rattle.std.proofs.Common.{◌≡◌, ℕ, zero, suc, Bool, true, false, List, [], ◌∷◌, Some, None, refl, ◌∙◌, ap, subst, inl, inr, ◌⊎◌}
use Rattle.std.specs.Prelude.{slice_get}
use Rattle.std.proofs.lemmas.Bool.{both_ways}
use Rattle.lists.specs.Lists.{Each}
use Rattle.lists.proofs.Tests.{or_right}
use Rattle.broker_spec.specs.Place.{Client, Mark, Place, Past, Limits}
use Rattle.broker_spec.specs.Sessions.{accepts, clean_session_of, begins}
use Rattle.broker_spec.specs.Marks.{mark_of}
use Rattle.broker_spec.specs.Commands.{place_of}
use Rattle.broker_spec.specs.declared.command.Command.{Command}
use Rattle.broker_spec.specs.declared.command.Command.TheVariants as commands
use Rattle.broker_spec.specs.Connection.{ConnectionName}
use Rattle.exactly_once.specs.Sides.{ClientConnection}
use Rattle.exactly_once.specs.StoryCommands.{with_one_counted}
use Rattle.exactly_once.specs.Carried.{is_this}
use Rattle.exactly_once.specs.InStep.{has_begun, WasWelcome, AreWelcome, opens_on, opened_in, entries_in}
use Rattle.exactly_once.proofs.places.After.{none_opens}
use Rattle.exactly_once.proofs.sessions.Again.{accepted_at, again_there}
use Rattle.exactly_once.proofs.sessions.Openings.{no_start, opened_same}
use Rattle.exactly_once.proofs.sessions.AcceptedShares.{Accepts, accepts_same, accepted_placed, accepted_counted}
use Rattle.exactly_once.proofs.sessions.Lasting.{entries_over}
use Rattle.exactly_once.proofs.sessions.LastingGoes.{all_fresh}

-- nothing was accepted on the newest connection's Connect
abbrev pub IsHeadUnopened : Past → Client → List ClientConnection → Type 0
IsHeadUnopened past c [] = Unit {0}
IsHeadUnopened past c (κ ∷ others) = opened_in past c κ.name ≡ None

pub record Parts (limits : Limits) (c : Client) (past : Past) (connections : List ClientConnection) : Type 0 where
  pub none : clean_session_of past c ≡ None
  pub begun : has_begun past c ≡ true
  pub head : IsHeadUnopened past c connections
  pub all : (start : ℕ) → Accepts limits c past connections start

-- ---- a place that opens none of its connections

pub entries_parted : (limits : Limits) (place : Place) (past : Past) (c : Client) (start : ℕ) → clean_session_of (place ∷ past) c ≡ None → entries_in limits (place ∷ past) c start ≡ entries_in limits past c start
entries_parted limits place past c start none = entries_over limits place past c start (ap (is_this start) (no_start (place ∷ past) c none))

head_placed : (place : Place) (past : Past) (c : Client) (i : ℕ) (connections : List ClientConnection) → accepts place.command place.mark c ≡ None → IsHeadUnopened past c connections
    → IsHeadUnopened (place ∷ past) c (with_one_counted i connections)
head_placed place past c i [] closed h = h
head_placed place past c zero (κ ∷ others) closed h = opened_same place past c κ.name (ap (opens_on κ.name) closed) ∙ h
head_placed place past c (suc i) (κ ∷ others) closed h = opened_same place past c κ.name (ap (opens_on κ.name) closed) ∙ h

pub parts_placed : (limits : Limits) (c : Client) (place : Place) (past : Past) (i : ℕ) (connections : List ClientConnection) → accepts place.command place.mark c ≡ None → Parts limits c past connections
    → Parts limits c (place ∷ past) (with_one_counted i connections)
parts_placed limits c place past i connections closed p =
    let none = none_opens place past c closed p.none in
    record {
      none = none;
      begun = or_right (begins place past c) (has_begun past c) p.begun;
      head = head_placed place past c i connections closed p.head;
      all = λ start.
          accepts_same limits c past (place ∷ past) connections (with_one_counted i connections) start (entries_parted limits place past c start none)
          (accepted_counted (place ∷ past) c start i connections ∙ accepted_placed place past c start connections (all_fresh place c connections closed)) (p.all start);
    }

-- ---- its own Connect

pub accepted_or_not : (x : ConnectionName) (d c : Client) (clean : Bool) (mark : Mark) → (mark ≡ Mark.Accepted) ⊎ (accepts (commands.Connect x d clean) mark c ≡ None)
accepted_or_not x d c clean Mark.Accepted = inl refl
accepted_or_not x d c clean _ = inr refl

welcome_at : (P : ClientConnection → Type 0) (j : ℕ) (κ : ClientConnection) (others : List ClientConnection) → slice_get others j ≡ Some κ → Each P (with_one_counted j others) → P (record κ { taken = suc κ.taken })
welcome_at P j κ [] at h = absurd (cc)
welcome_at P zero κ (μ ∷ others) at h = let same : μ ≡ κ = cc in subst (λ (z : ClientConnection). P (record z { taken = suc z.taken })) same h.0
welcome_at P (suc j) κ (μ ∷ others) at h = welcome_at P j κ others at h.1

-- in step, no Connect of an older connection begins a session again
pub none_older : (past : Past) (c : Client) (j : ℕ) (κ μ : ClientConnection) (others : List ClientConnection) → clean_session_of past c ≡ None → has_begun past c ≡ true → slice_get others j ≡ Some κ → κ.confirmed ≡ false
    → AreWelcome (accepted_at κ.name c ∷ past) c (with_one_counted (suc j) (μ ∷ others)) → ⊥
none_older past c j κ μ others none begun at unconfirmed step =
    both_ways κ.confirmed unconfirmed (welcome_at (WasWelcome (accepted_at κ.name c ∷ past) c) j κ others at step (again_there past c κ.name none begun))

-- the place of an accepted one
pub at_accepted : (limits : Limits) (past : Past) (c : Client) (x : ConnectionName) (command : Command) → command ≡ commands.Connect x c false → mark_of limits past (commands.Connect x c false) ≡ Mark.Accepted
    → place_of limits past command ≡ accepted_at x c
at_accepted limits past c x command is mark = ap (place_of limits past) is ∙ ap (λ m. let p : Place = record { command = commands.Connect x c false; mark = m } in p) mark
