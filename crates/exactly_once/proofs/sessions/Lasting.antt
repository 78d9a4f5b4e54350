-- While a session of a client lasts: what the client accepted in it, and in those before it, after
-- each place.
use Rattle.std.proofs.Common.{◌≡◌, ℕ, zero, suc, Bool, true, false, if◌then◌else◌, List, [], ◌∷◌, length, Option, Some, None, refl, sym, ◌∙◌, ap, inl, inr, ◌⊎◌}
use Rattle.std.proofs.lemmas.Bool.{both_ways}
use Rattle.lists.specs.Lists.{Each}
use Rattle.lists.proofs.OfEach.{each_then}
use Rattle.lists.proofs.Tests.{none_or}
use Rattle.broker_spec.specs.Connection.{ConnectionName}
use Rattle.broker_spec.specs.Place.{Client, Place, Past, Limits}
use Rattle.broker_spec.specs.Sessions.{accepts, clean_session_of, session_start, begins}
use Rattle.broker_spec.specs.Times.{entries_of}
use Rattle.exactly_once.specs.Sides.{ClientConnection}
use Rattle.exactly_once.specs.StoryCommands.{with_one_counted}
use Rattle.exactly_once.specs.Acceptance.{accepted_on}
use Rattle.exactly_once.specs.Carried.{is_this}
use Rattle.exactly_once.specs.InStep.{has_begun, opens_on, opened_in, entries_in, accepted_in}
use Rattle.exactly_once.proofs.places.After.{IsKeptSession, IsSpared}
use Rattle.exactly_once.proofs.publishing.kept.KeepsNames.{OpensKept}
use Rattle.exactly_once.proofs.sessions.Beside.{kept_of}
use Rattle.exactly_once.proofs.sessions.Openings.{start_here, opened_same, opened_here, opened_begun}
use Rattle.exactly_once.proofs.sessions.StartKeeps.{start_keeps}
use Rattle.exactly_once.proofs.sessions.EachPlaced.{IsFresh}
use Rattle.exactly_once.proofs.sessions.AcceptedShares.{share, Accepts, accepts_same, share_nothing, none_in, none_on, accepted_placed, accepted_counted, kept_counted}
use Rattle.exactly_once.proofs.sessions.Life.{IsShutUnopened, AreShutUnopened}

-- ---- the rows

-- the newest connection was opened in this session, or not at all
abbrev pub IsHeadOpened : Past → Client → List ClientConnection → Type 0
IsHeadOpened past c [] = Unit {0}
IsHeadOpened past c (κ ∷ others) = (opened_in past c κ.name ≡ None) ⊎ (opened_in past c κ.name ≡ session_start past c)

abbrev pub after_first : List Bool → List Bool
after_first [] = []
after_first (b ∷ flags) = flags

-- what it accepted in this session on the others it accepted on those that are kept
abbrev pub IsTailKept : Past → Client → ℕ → List Bool → List ClientConnection → Type 0
IsTailKept past c start flags [] = Unit {0}
IsTailKept past c start flags (κ ∷ others) = accepted_in past c start others ≡ accepted_on (kept_of (after_first flags) others)

pub record Lasts (limits : Limits) (c : Client) (flags : List Bool) (past : Past) (connections : List ClientConnection) : Type 0 where
  pub head : IsHeadOpened past c connections
  pub tail : (start : ℕ) → session_start past c ≡ Some start → IsTailKept past c start flags connections
  pub unbegun : session_start past c ≡ None → has_begun past c ≡ false
  pub elsewhere : (start : ℕ) → is_this start (session_start past c) ≡ false → Accepts limits c past connections start

-- ---- before the first session nothing was accepted

unopened_yet : (past : Past) (c : Client) (x : ConnectionName) → has_begun past c ≡ false → opened_in past c x ≡ None
unopened_yet past c x e = by (opened_in past c x) refl
  where
    by : (o : Option ℕ) → opened_in past c x ≡ o → o ≡ None
    by None f = refl
    by (Some n) f = absurd (both_ways (has_begun past c) e (opened_begun past c x n f))

pub nothing_yet : (limits : Limits) (past : Past) (c : Client) (connections : List ClientConnection) → has_begun past c ≡ false → AreShutUnopened limits past c connections → Each (λ (κ : ClientConnection). κ.accepted ≡ []) connections
nothing_yet limits past c connections e = each_then (IsShutUnopened limits past c) (λ (κ : ClientConnection). κ.accepted ≡ []) connections (λ κ h. (h (unopened_yet past c κ.name e)).nothing)

-- ---- a place

head_placed : (place : Place) (past : Past) (c : Client) (connections : List ClientConnection) → ((n : ℕ) → session_start past c ≡ Some n → session_start (place ∷ past) c ≡ Some n) → IsHeadOpened past c connections
    → IsHeadOpened (place ∷ past) c connections
head_placed place past c [] keeps h = tt
head_placed place past c (κ ∷ others) keeps h = by (opens_on κ.name (accepts place.command place.mark c)) refl
  where
    two : (o : Option ℕ) → session_start past c ≡ o → opened_in (place ∷ past) c κ.name ≡ opened_in past c κ.name → (opened_in past c κ.name ≡ None) ⊎ (opened_in past c κ.name ≡ session_start past c)
        → IsHeadOpened (place ∷ past) c (κ ∷ others)
    two o e same (inl f) = inl (same ∙ f)
    two None e same (inr f) = inl (same ∙ f ∙ e)
    two (Some n) e same (inr f) = inr (same ∙ f ∙ e ∙ sym (keeps n e))

    by : (b : Bool) → opens_on κ.name (accepts place.command place.mark c) ≡ b → IsHeadOpened (place ∷ past) c (κ ∷ others)
    by true e = inr (opened_here place past c κ.name e)
    by false e = two (session_start past c) refl (opened_same place past c κ.name e) h

head_counted : (past : Past) (c : Client) (i : ℕ) (connections : List ClientConnection) → IsHeadOpened past c connections → IsHeadOpened past c (with_one_counted i connections)
head_counted past c i [] h = h
head_counted past c zero (κ ∷ others) h = h
head_counted past c (suc i) (κ ∷ others) h = h

-- if the session was there
tail_placed : (place : Place) (past : Past) (c : Client) (start i : ℕ) (flags : List Bool) (connections : List ClientConnection) → Each (IsFresh place c) connections → IsTailKept past c start flags connections
    → IsTailKept (place ∷ past) c start flags (with_one_counted i connections)
tail_placed place past c start i flags [] fresh h = tt
tail_placed place past c start zero flags (κ ∷ others) fresh h = accepted_placed place past c start others fresh.1 ∙ h
tail_placed place past c start (suc i) flags (κ ∷ others) fresh h =
    accepted_counted (place ∷ past) c start i others ∙ accepted_placed place past c start others fresh.1 ∙ h ∙ sym (kept_counted (after_first flags) i others)

-- if it begins, the first one
nothing_kept : (past : Past) (c : Client) (start : ℕ) (flags : List Bool) (others : List ClientConnection) → Each (λ (κ : ClientConnection). κ.accepted ≡ []) others
    → accepted_in past c start others ≡ accepted_on (kept_of flags others)
nothing_kept past c start flags others h =
    none_in past c start others
    (each_then (λ (μ : ClientConnection). μ.accepted ≡ []) (λ (μ : ClientConnection). share past c start μ ≡ []) others (λ μ e. share_nothing (is_this start (opened_in past c μ.name)) μ.accepted e) h)
    ∙ sym (none_on flags others h)

tail_begins : (place : Place) (past : Past) (c : Client) (start i : ℕ) (flags : List Bool) (connections : List ClientConnection) → Each (λ (κ : ClientConnection). κ.accepted ≡ []) connections
    → IsTailKept (place ∷ past) c start flags (with_one_counted i connections)
tail_begins place past c start i flags [] h = tt
tail_begins place past c start zero flags (κ ∷ others) h = nothing_kept (place ∷ past) c start (after_first flags) others h.1
tail_begins place past c start (suc i) flags (κ ∷ others) h =
    accepted_counted (place ∷ past) c start i others ∙ nothing_kept (place ∷ past) c start (after_first flags) others h.1 ∙ sym (kept_counted (after_first flags) i others)

pub entries_over : (limits : Limits) (place : Place) (past : Past) (c : Client) (start : ℕ) → is_this start (session_start (place ∷ past) c) ≡ false → entries_in limits (place ∷ past) c start ≡ entries_in limits past c start
entries_over limits place past c start e = ap (λ b. if b then entries_of limits (place ∷ past) c else entries_in limits past c start) e

pub lasts_placed : (limits : Limits) (c : Client) (flags : List Bool) (place : Place) (past : Past) (i : ℕ) (connections : List ClientConnection) → IsKeptSession (clean_session_of past c) → OpensKept c place
    → IsSpared place.command past c → Each (IsFresh place c) connections → AreShutUnopened limits past c connections → Lasts limits c flags past connections
    → Lasts limits c flags (place ∷ past) (with_one_counted i connections)
lasts_placed limits c flags place past i connections kept opens spared fresh shut h =
    record {
      head = head_counted (place ∷ past) c i connections (head_placed place past c connections keeps h.head);
      tail = λ start e. tail start e (session_start past c) refl;
      unbegun = λ e. unbegun e (session_start past c) refl;
      elsewhere = λ start e.
          accepts_same limits c past (place ∷ past) connections (with_one_counted i connections) start (entries_over limits place past c start e)
          (accepted_counted (place ∷ past) c start i connections ∙ accepted_placed place past c start connections fresh) (h.elsewhere start (before start e (session_start past c) refl));
    }
  where
    keeps : (n : ℕ) → session_start past c ≡ Some n → session_start (place ∷ past) c ≡ Some n
    keeps n e = start_keeps place past c n kept opens spared e

    before : (start : ℕ) → is_this start (session_start (place ∷ past) c) ≡ false → (o : Option ℕ) → session_start past c ≡ o → is_this start (session_start past c) ≡ false
    before start e None f = ap (is_this start) f
    before start e (Some n) f = ap (is_this start) (f ∙ sym (keeps n f)) ∙ e

    tail : (start : ℕ) → session_start (place ∷ past) c ≡ Some start → (o : Option ℕ) → session_start past c ≡ o → IsTailKept (place ∷ past) c start flags (with_one_counted i connections)
    tail start e None f = tail_begins place past c start i flags connections (nothing_yet limits past c connections (h.unbegun f) shut)
    tail start e (Some n) f =
        let both : Some n ≡ Some start = sym (keeps n f) ∙ e in
        tail_placed place past c start i flags connections fresh (h.tail start (f ∙ both))

    unbegun : session_start (place ∷ past) c ≡ None → (o : Option ℕ) → session_start past c ≡ o → has_begun (place ∷ past) c ≡ false
    unbegun e (Some n) f = absurd (let g : None ≡ Some n = sym e ∙ keeps n f in cc)
    unbegun e None f = none_or (begins place past c) (has_begun past c) (no_beginning (begins place past c) refl) (h.unbegun f)
      where
        no_beginning : (b : Bool) → begins place past c ≡ b → b ≡ false
        no_beginning false g = refl
        no_beginning true g = absurd (let k : None ≡ Some (length past) = sym e ∙ start_here place past c g in cc)
