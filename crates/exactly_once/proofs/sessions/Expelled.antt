-- An Expel of a client: its session has ended, and the client still receives packets of it on its
-- newest connection, or receives nothing of it.
use Rattle.std.proofs.Common.{◌≡◌, ◌≤◌, ℕ, zero, suc, Bool, true, false, ◌&&◌, ◌||◌, List, [], ◌∷◌, ◌++◌, length, Option, Some, None, refl, sym, ◌∙◌, ap, subst, arith, inl, inr, ◌⊎◌}
use Rattle.std.specs.Prelude.{is_some}
use Rattle.std.proofs.lemmas.Bool.{both_ways}
use Rattle.std.proofs.lemmas.List.{append-nil}
use Rattle.lists.proofs.Tests.{or_right}
use Rattle.broker_spec.specs.Connection.{ConnectionName}
use Rattle.broker_spec.specs.Place.{Client, Place, Past, Limits}
use Rattle.broker_spec.specs.Sessions.{accepts, clean_session_of, session_start, current_connection, begins}
use Rattle.broker_spec.specs.NobodyTheorems.{IsSteady}
use Rattle.broker_spec.specs.Commands.{place_of}
use Rattle.broker_spec.specs.declared.command.Command.TheVariants as commands
use Rattle.client_base.specs.Keeper.{Keeper}
use Rattle.exactly_once.specs.Sides.{ClientConnection}
use Rattle.exactly_once.specs.Sends.{put_to}
use Rattle.exactly_once.specs.Story.{Story}
use Rattle.exactly_once.specs.StoryTrace.StoryTrace.{goes_on}
use Rattle.exactly_once.specs.Story.StoryStep.{others_take}
use Rattle.exactly_once.specs.InStep.{has_begun, began_again, AreWelcome, IsInStep, opens_on, opened_in}
use Rattle.exactly_once.proofs.places.After.{IsKeptSession}
use Rattle.exactly_once.proofs.publishing.AtPlaces.{put_more}
use Rattle.exactly_once.proofs.sessions.Turns.{starts_stay}
use Rattle.exactly_once.proofs.sessions.Beside.{kept_of, with_connections}
use Rattle.exactly_once.proofs.sessions.EachPlaced.{counted_none}
use Rattle.exactly_once.proofs.sessions.Openings.{no_start, session_began, started_begun, opened_same, unopened}
use Rattle.exactly_once.proofs.sessions.AcceptedShares.{Accepts, accepts_same, accepted_placed}
use Rattle.exactly_once.proofs.sessions.Life.{IsLife}
use Rattle.exactly_once.proofs.sessions.LifeExpelled.{none_expelled, expelled_session}
use Rattle.exactly_once.proofs.sessions.Lasting.{Lasts, lasts_placed}
use Rattle.exactly_once.proofs.sessions.LastingGoes.{Stands, all_fresh}
use Rattle.exactly_once.proofs.sessions.LastingAccepts.{lasting_accepts}
use Rattle.exactly_once.proofs.sessions.Parted.{Parts, entries_parted}
use Rattle.exactly_once.proofs.sessions.Lingering.{Lingers}
use Rattle.exactly_once.proofs.subscribing.events.OthersTake.{closes_only}

-- ---- if there was none

-- a Connect began a session again, so one began
began_begun : (past : Past) (c : Client) (x : ConnectionName) → began_again past c x ≡ true → has_begun past c ≡ true
began_begun [] c x e = cc
began_begun (place ∷ past) c x e = by (opens_on x (accepts place.command place.mark c)) (begins place past c) (has_begun past c) refl (began_again past c x) e (began_begun past c x)
  where
    by : (o b h : Bool) → has_begun past c ≡ h → (a : Bool) → ((o && (b && h)) || a) ≡ true → (a ≡ true → has_begun past c ≡ true) → (b || h) ≡ true
    by true true true f a e ih = refl
    by true true false f a e ih = refl
    by true false h f a e ih = sym f ∙ ih e
    by false b h f a e ih = or_right b h (sym f ∙ ih e)

expelled_nowhere : (limits : Limits) (c : Client) (flags : List Bool) (s : Story) → IsLife limits c s → clean_session_of s.past c ≡ None → Stands limits c flags s → Lasts limits c flags s.past s.connections
    → Stands limits c flags (record s { past = place_of limits s.past (commands.Expel c) ∷ s.past })
expelled_nowhere limits c flags s life none (inl a) l =
    absurd (both_ways (has_begun s.past c) (l.unbegun (no_start s.past c none)) (began_begun s.past c a.newest.name a.awaits.again))
expelled_nowhere limits c flags s life none (inr b) l =
    inr (record {
      head = b.head;
      gone = b.gone;
      told = goes_on b.told (others_take (commands.Expel c) (λ h. both_ways (is_some (clean_session_of s.past s.keeper.client)) (ap (λ d. is_some (clean_session_of s.past d)) life.keeper.client ∙ ap is_some none) h.1)
          (none_expelled (kept_of flags s.connections) c));
    })

lasts_expelled : (limits : Limits) (c : Client) (flags : List Bool) (s : Story) → IsLife limits c s → clean_session_of s.past c ≡ None → Lasts limits c flags s.past s.connections
    → Lasts limits c flags (place_of limits s.past (commands.Expel c) ∷ s.past) s.connections
lasts_expelled limits c flags s life none l =
    let place = place_of limits s.past (commands.Expel c) in
    subst (Lasts limits c flags (place ∷ s.past)) (counted_none s.connections)
    (lasts_placed limits c flags place s.past (length s.connections) s.connections life.session (λ opened e. cc) (inr none) (all_fresh place c s.connections refl) life.connections.shut l)

-- ---- if one was there

accepts_expelled : (limits : Limits) (past : Past) (c : Client) (connections : List ClientConnection) (start : ℕ) → Accepts limits c past connections start
    → Accepts limits c (place_of limits past (commands.Expel c) ∷ past) connections start
accepts_expelled limits past c connections start =
    let place = place_of limits past (commands.Expel c) in
    accepts_same limits c past (place ∷ past) connections connections start (entries_parted limits place past c start (expelled_session limits past c))
    (accepted_placed place past c start connections (all_fresh place c connections refl))

-- the result of it
pub data IsOver (limits : Limits) (c : Client) (t : Story) : Type 0 where
  lingers : Lingers limits c t → IsOver limits c t
  parts : Parts limits c t.past t.connections → IsOver limits c t

pub expelled_there : (limits : Limits) → IsSteady limits → (c : Client) (flags : List Bool) (past : Past) (keeper : Keeper) (connections : List ClientConnection) (n : ℕ) → session_start past c ≡ Some n
    → IsLife limits c (with_connections past keeper connections) → Stands limits c flags (with_connections past keeper connections) → Lasts limits c flags past connections
    → AreWelcome past c connections → IsOver limits c (with_connections (place_of limits past (commands.Expel c) ∷ past) keeper connections)
expelled_there limits steady c flags past keeper [] n e life stands l step =
    parts (record {
      none = expelled_session limits past c;
      begun = or_right (begins (place_of limits past (commands.Expel c)) past c) (has_begun past c) (started_begun past c n e);
      head = tt;
      all = λ start. accepts_expelled limits past c [] start (lasting_accepts limits steady c flags (with_connections past keeper []) life stands l start);
    })
expelled_there limits steady c flags past keeper (κ ∷ others) n e life stands l step = by l.head
  where
    place : Place
    place = place_of limits past (commands.Expel c)

    begun : has_begun (place ∷ past) c ≡ true
    begun = or_right (begins place past c) (has_begun past c) (started_begun past c n e)

    same : opened_in (place ∷ past) c κ.name ≡ opened_in past c κ.name
    same = opened_same place past c κ.name refl

    some : (m : ℕ) → κ.taken ≡ m → opened_in past c κ.name ≡ Some n → 1 ≤ m
    some zero new f = absurd (let g : None ≡ Some n = sym (unopened past c κ.name (life.connections.untouched.0 new).uncounted) ∙ f in cc)
    some (suc m) new f = omega arith

    by : (opened_in past c κ.name ≡ None) ⊎ (opened_in past c κ.name ≡ session_start past c) → IsOver limits c (with_connections (place ∷ past) keeper (κ ∷ others))
    by (inl none) =
        parts (record {
          none = expelled_session limits past c;
          begun = begun;
          head = same ∙ none;
          all = λ start. accepts_expelled limits past c (κ ∷ others) start (lasting_accepts limits steady c flags (with_connections past keeper (κ ∷ others)) life stands l start);
        })
    by (inr f) =
        lingers (record {
          flags = flags;
          earlier = past;
          newest = κ;
          count = κ.taken;
          others = others;
          before = others;
          are = refl;
          frozen = record { life = life; stands = stands; lasts = l; step = step };
          since = record {
            none = expelled_session limits past c;
            begun = begun;
            some = some κ.taken refl (f ∙ e);
            put = put_more limits place past κ.name ∙ ap (λ put. put_to limits past κ.name ++ put) (closes_only κ.name (current_connection past c)) ∙ append-nil (put_to limits past κ.name);
            opened = same;
            starts = starts_stay place past c refl;
            entries = λ start. entries_parted limits place past c start (expelled_session limits past c);
            rest = λ start. accepted_placed place past c start others (all_fresh place c others refl);
          };
        })

pub record LastsStill (limits : Limits) (c : Client) (t : Story) : Type 0 where
  pub flags : List Bool
  pub stands : Stands limits c flags t
  pub lasts : Lasts limits c flags t.past t.connections

pub lasting_expelled : (limits : Limits) → IsSteady limits → (c : Client) (flags : List Bool) (s : Story) → IsLife limits c s → Stands limits c flags s → Lasts limits c flags s.past s.connections → IsInStep s
    → LastsStill limits c (record s { past = place_of limits s.past (commands.Expel c) ∷ s.past }) ⊎ IsOver limits c (record s { past = place_of limits s.past (commands.Expel c) ∷ s.past })
lasting_expelled limits steady c flags s life stands l step = by (session_start s.past c) refl life.session
  where
    none_there : session_start s.past c ≡ None → IsKeptSession (clean_session_of s.past c) → clean_session_of s.past c ≡ None
    none_there e (inl none) = none
    none_there e (inr live) = absurd (both_ways (is_some (session_start s.past c)) (ap is_some e) (session_began s.past c (ap is_some live)))

    by : (o : Option ℕ) → session_start s.past c ≡ o → IsKeptSession (clean_session_of s.past c)
        → LastsStill limits c (record s { past = place_of limits s.past (commands.Expel c) ∷ s.past }) ⊎ IsOver limits c (record s { past = place_of limits s.past (commands.Expel c) ∷ s.past })
    by None e kept =
        let none = none_there e kept in
        inl (record { flags = flags; stands = expelled_nowhere limits c flags s life none stands l; lasts = lasts_expelled limits c flags s life none l })
    by (Some n) e kept =
        inr (expelled_there limits steady c flags s.past s.keeper s.connections n e life stands l (subst (λ (d : Client). AreWelcome s.past d s.connections) life.keeper.client step))
