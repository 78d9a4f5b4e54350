-- If the newest connection's Connect is accepted, and there is no session: the life then has a
-- story of the session that begins, whether its client was served before or not, and what was
-- accepted in earlier sessions stays.
use Rattle.std.proofs.Common.{◌≡◌, ◌<◌, ℕ, zero, suc, Bool, true, false, if◌then◌else◌, List, [], ◌∷◌, ◌++◌, length, Option, Some, None, refl, sym, ◌∙◌, ap, ap₂, subst, arith, inl, inr, ◌⊎◌}
use Rattle.std.specs.Prelude.{slice_get, ◌==◌}
use Rattle.std.proofs.lemmas.Bool.{both_ways}
use Rattle.lists.specs.Lists.{Each}
use Rattle.lists.proofs.Tests.{or_none}
use Rattle.broker_spec.specs.Connection.{ConnectionName, same_connection}
use Rattle.broker_spec.specs.Place.{Client, Mark, Place, Past, Limits}
use Rattle.broker_spec.specs.Sessions.{accepts, clean_session_of, session_start}
use Rattle.broker_spec.specs.Marks.{mark_of}
use Rattle.broker_spec.specs.Commands.{place_of, past_of}
use Rattle.broker_spec.specs.declared.command.Command.{Command}
use Rattle.broker_spec.specs.declared.command.Command.TheVariants as commands
use Rattle.broker_base.proofs.ConnectionsOfSessions.{same_turned}
use Rattle.client_base.specs.Keeper.{Keeper}
use Rattle.client_base.specs.Connected.{opening_connect}
use Rattle.exactly_once.specs.Sides.{ClientConnection}
use Rattle.exactly_once.specs.Story.{Story}
use Rattle.exactly_once.specs.StoryCommands.{any_named, command_of}
use Rattle.exactly_once.specs.StoryTrace.{StoryTrace}
use Rattle.exactly_once.specs.StoryTrace.StoryTrace.{goes_on}
use Rattle.exactly_once.specs.Story.StoryStep.{takes}
use Rattle.exactly_once.specs.Acceptance.{accepted_on}
use Rattle.exactly_once.specs.Carried.{is_this}
use Rattle.exactly_once.specs.InStep.{has_begun, opens_on, opened_in, accepted_in}
use Rattle.exactly_once.specs.Inside.Shape.{NamesApart}
use Rattle.exactly_once.proofs.Takes.{same_name_self}
use Rattle.exactly_once.proofs.subscribing.places.Accepted.{opened}
use Rattle.exactly_once.proofs.sessions.Beside.{kept_of, with_connections, HasBeside}
use Rattle.exactly_once.proofs.sessions.Anew.{flags_of, AreUntouched, is_zero, waiting, opens_again}
use Rattle.exactly_once.proofs.sessions.Again.{accepted_at, begins_there, all_gone, begins_awaiting}
use Rattle.exactly_once.proofs.sessions.EachPlaced.{IsFresh}
use Rattle.exactly_once.proofs.sessions.Openings.{start_here, opened_same, opened_here, opened_below}
use Rattle.exactly_once.proofs.sessions.AcceptedShares.{share, Accepts, accepts_same, none_in, accepted_placed, accepted_counted}
use Rattle.exactly_once.proofs.sessions.Life.{IsUnserved, HasConnections, HasKeeper}
use Rattle.exactly_once.proofs.sessions.Lasting.{Lasts, entries_over}
use Rattle.exactly_once.proofs.sessions.LastingGoes.{Stands}
use Rattle.exactly_once.proofs.sessions.Awaiting.{HasAwaiting}

-- ---- the story of the session

-- of a client that was never served: what it published goes with it
begins_unserved : (limits : Limits) (list : List Command) (c : Client) (keeper : Keeper) (κ : ClientConnection) (others : List ClientConnection) → clean_session_of (past_of limits list) c ≡ None
    → mark_of limits (past_of limits list) (commands.Connect κ.name c false) ≡ Mark.Accepted → AreUntouched limits (past_of limits list) c (κ ∷ others) → NamesApart (κ ∷ others) → κ.taken ≡ 0 → IsUnserved c keeper
    → StoryTrace limits c (with_connections (accepted_at κ.name c ∷ past_of limits list) keeper (record κ { taken = suc κ.taken } ∷ kept_of (flags_of others) others))
begins_unserved limits list c keeper κ others none mark fresh names new u =
    let past = past_of limits list in
    let next : slice_get κ.written κ.taken ≡ Some (opening_connect c) = ap (λ (z : ClientConnection). slice_get z.written z.taken) (fresh.0 new).is in
    let command : command_of κ.name κ.taken (opening_connect c).packet ≡ commands.Connect κ.name c false = ap (λ n. command_of κ.name n (opening_connect c).packet) new in
    let place : place_of limits past (command_of κ.name κ.taken (opening_connect c).packet) ≡ accepted_at κ.name c =
    ap (place_of limits past) command ∙ ap (λ m. let p : Place = record { command = commands.Connect κ.name c false; mark = m } in p) mark in
    subst (λ (k : Keeper). StoryTrace limits c (with_connections (accepted_at κ.name c ∷ past) k (record κ { taken = suc κ.taken } ∷ kept_of (flags_of others) others))) (sym u.is)
    (subst (λ (p : Place). StoryTrace limits c (with_connections (p ∷ past) (waiting c [] keeper.own keeper.is_open) (record κ { taken = suc κ.taken } ∷ kept_of (flags_of others) others))) place
    (goes_on (opens_again limits list c [] keeper.own κ others keeper.is_open none tt u.queued u.apart fresh names new) (takes 0 κ (opening_connect c) refl next)))

-- the client is offline, since the newest connection is not confirmed
offline : (b : Bool) (κ : ClientConnection) (keeper : Keeper) → keeper.is_online ≡ b → κ.confirmed ≡ false → (keeper.is_open ≡ true → κ.confirmed ≡ keeper.is_online) → (keeper.is_online ≡ true → keeper.is_open ≡ true)
    → keeper.is_online ≡ false
offline false κ keeper e unconfirmed held opened = e
offline true κ keeper e unconfirmed held opened = absurd (both_ways κ.confirmed unconfirmed (held (opened e) ∙ e))

-- it was never served, and its life has a story of the session
pub record IsUnservedBeside (limits : Limits) (c : Client) (flags : List Bool) (s : Story) : Type 0 where
  pub beside : HasBeside limits c flags s
  pub unserved : s.keeper.was_served ≡ false

abbrev pub StandsAnew : Limits → Client → List Bool → Story → Type 0
StandsAnew limits c flags s = HasAwaiting limits c flags s ⊎ IsUnservedBeside limits c flags s

pub anew_stands : (limits : Limits) (c : Client) (flags : List Bool) (s : Story) → StandsAnew limits c flags s → Stands limits c flags s
anew_stands limits c flags s (inl a) = inl a
anew_stands limits c flags s (inr u) = inr u.beside

pub stands_anew : (limits : Limits) (list : List Command) (past : Past) (c : Client) (keeper : Keeper) (κ : ClientConnection) (others : List ClientConnection) → past ≡ past_of limits list → clean_session_of past c ≡ None
    → has_begun past c ≡ true → mark_of limits past (commands.Connect κ.name c false) ≡ Mark.Accepted → HasConnections limits c past (κ ∷ others) → κ.taken ≡ 0 → HasKeeper c past keeper (κ ∷ others)
    → StandsAnew limits c (true ∷ flags_of others) (with_connections (accepted_at κ.name c ∷ past) keeper (record κ { taken = suc κ.taken } ∷ others))
stands_anew limits list past c keeper κ others is none begun mark h new k = subst Q (sym is) at none begun mark h.untouched
  where
    Q : Past → Type 0
    Q p = clean_session_of p c ≡ None → has_begun p c ≡ true → mark_of limits p (commands.Connect κ.name c false) ≡ Mark.Accepted → AreUntouched limits p c (κ ∷ others)
        → StandsAnew limits c (true ∷ flags_of others) (with_connections (accepted_at κ.name c ∷ p) keeper (record κ { taken = suc κ.taken } ∷ others))

    off : keeper.is_online ≡ false
    off = offline keeper.is_online κ keeper refl (ap (λ (z : ClientConnection). z.confirmed) (h.untouched.0 new).is) k.held.0 k.held.1

    at : Q (past_of limits list)
    at none begun mark fresh = by keeper.was_served refl
      where
        by : (b : Bool) → keeper.was_served ≡ b → StandsAnew limits c (true ∷ flags_of others) (with_connections (accepted_at κ.name c ∷ past_of limits list) keeper (record κ { taken = suc κ.taken } ∷ others))
        by true served = inl (begins_awaiting limits list c keeper κ others none begun mark tt fresh h.names new k.client off served (k.unasked off))
        by false served = inr (record { beside = record { head = tt; gone = all_gone others; told = begins_unserved limits list c keeper κ others none mark fresh h.names new (k.unserved served) }; unserved = served })

-- ---- what was accepted

nothing_new : (limits : Limits) (past : Past) (c : Client) (connections : List ClientConnection) → AreUntouched limits past c connections → accepted_on (kept_of (flags_of connections) connections) ≡ []
nothing_new limits past c [] h = refl
nothing_new limits past c (κ ∷ connections) h = by κ.taken refl (nothing_new limits past c connections h.1)
  where
    by : (n : ℕ) → κ.taken ≡ n → accepted_on (kept_of (flags_of connections) connections) ≡ [] → accepted_on (kept_of (is_zero n ∷ flags_of connections) (κ ∷ connections)) ≡ []
    by zero e ih = ap₂ (λ a b. a ++ b) ih (ap (λ (z : ClientConnection). z.accepted) (h.0 e).is)
    by (suc n) e ih = ih

older_only : (past : Past) (c : Client) (x : ConnectionName) → is_this (length past) (opened_in past c x) ≡ false
older_only past c x = by (opened_in past c x) refl
  where
    less : (m n : ℕ) → m < n → (m == n) ≡ false
    less m n h = grind (arith, h)

    by : (o : Option ℕ) → opened_in past c x ≡ o → is_this (length past) o ≡ false
    by None e = refl
    by (Some m) e = less m (length past) (opened_below past c x m e)

shares_older : (past : Past) (c : Client) (x : ConnectionName) (others : List ClientConnection) → any_named (same_connection x) others ≡ false
    → Each (λ (μ : ClientConnection). share (accepted_at x c ∷ past) c (length past) μ ≡ []) others
shares_older past c x [] none = tt
shares_older past c x (μ ∷ others) none =
    let two = or_none (same_connection x μ.name) (any_named (same_connection x) others) none in
    let other : opens_on μ.name (accepts (commands.Connect x c false) Mark.Accepted c) ≡ false = ap (opens_on μ.name) (opened x c) ∙ same_turned μ.name x ∙ two.0 in (
      ap (λ b. if b then μ.accepted else []) (ap (is_this (length past)) (opened_same (accepted_at x c) past c μ.name other) ∙ older_only past c μ.name),
      shares_older past c x others two.1,
    )

pub lasts_anew : (limits : Limits) (past : Past) (c : Client) (κ : ClientConnection) (others : List ClientConnection) → clean_session_of past c ≡ None → HasConnections limits c past (κ ∷ others)
    → Each (IsFresh (accepted_at κ.name c) c) (κ ∷ others) → ((start : ℕ) → Accepts limits c past (κ ∷ others) start)
    → Lasts limits c (true ∷ flags_of others) (accepted_at κ.name c ∷ past) (record κ { taken = suc κ.taken } ∷ others)
lasts_anew limits past c κ others none h fresh all =
    record {
      head = inr (opened_here place past c κ.name (ap (opens_on κ.name) (opened κ.name c) ∙ same_name_self κ.name));
      tail = λ start e.
          let both : Some (length past) ≡ Some start = sym here ∙ e in
          let same : length past ≡ start = cc in
          subst (λ n. accepted_in (place ∷ past) c n others ≡ accepted_on (kept_of (flags_of others) others)) same
          (none_in (place ∷ past) c (length past) others (shares_older past c κ.name others h.names.0) ∙ sym (nothing_new limits past c others h.untouched.1));
      unbegun = λ e. absurd (let g : Some (length past) ≡ None = sym here ∙ e in cc);
      elsewhere = λ start e.
          accepts_same limits c past (place ∷ past) (κ ∷ others) (record κ { taken = suc κ.taken } ∷ others) start (entries_over limits place past c start e)
          (accepted_counted (place ∷ past) c start 0 (κ ∷ others) ∙ accepted_placed place past c start (κ ∷ others) fresh) (all start);
    }
  where
    place : Place
    place = accepted_at κ.name c

    here : session_start (place ∷ past) c ≡ Some (length past)
    here = start_here place past c (begins_there past c κ.name none)
