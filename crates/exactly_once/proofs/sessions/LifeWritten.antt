-- What a client writes, and that it leaves, keeps what holds for its life.
use Rattle.std.proofs.Common.{◌≡◌, Bool, true, false, if◌then◌else◌, List, [], ◌∷◌, refl, sym, ◌∙◌, ap, subst, ◌≤◌, length, arith, ◌++◌}
use Rattle.std.proofs.lemmas.Bool.{both_ways}
use Rattle.std.proofs.lemmas.List.{append-nil, length-append}
use Rattle.broker_spec.specs.Place.{Client, Past, Limits}
use Rattle.client_base.specs.Keeper.{Written, Keeper}
use Rattle.client_base.specs.Written.{writes_first}
use Rattle.client_base.specs.Handled.{lost}
use Rattle.exactly_once.specs.Sides.{ClientConnection}
use Rattle.exactly_once.specs.Inside.Shape.{NamesApart}
use Rattle.exactly_once.proofs.publishing.kept.KeepsNobody.{nobody_named, written_named}
use Rattle.exactly_once.proofs.sessions.Anew.{AreUntouched}
use Rattle.exactly_once.proofs.sessions.KeepsKeeper.{unserved_lost}
use Rattle.exactly_once.proofs.sessions.Life.{AreShutUnopened, IsHeld, HasConnections, HasKeeper, IsCounted, IsUnserved}
use Rattle.client_base.specs.Connected.{opening_connect}
use Rattle.lists.specs.Lists.{Each}

-- while it is online
untouched_written : (limits : Limits) (past : Past) (c : Client) (keeper : Keeper) (more : List Written) (connections : List ClientConnection) → keeper.is_online ≡ true → IsHeld keeper connections
    → AreUntouched limits past c connections → AreUntouched limits past c (writes_first more connections)
untouched_written limits past c keeper more [] on held h = tt
untouched_written limits past c keeper more (κ ∷ connections) on held h =
    (λ new. absurd (both_ways κ.confirmed (ap (λ (z : ClientConnection). z.confirmed) (h.0 new).is) (held.0 (held.1 on) ∙ on)), h.1)

shut_written : (limits : Limits) (past : Past) (c : Client) (more : List Written) (connections : List ClientConnection) → AreShutUnopened limits past c connections → AreShutUnopened limits past c (writes_first more connections)
shut_written limits past c more [] h = tt
shut_written limits past c more (κ ∷ connections) h = (λ e. let s = h.0 e in record { unconfirmed = s.unconfirmed; nothing = s.nothing; unwelcome = s.unwelcome }, h.1)

names_written : (more : List Written) (connections : List ClientConnection) → NamesApart connections → NamesApart (writes_first more connections)
names_written more [] h = h
names_written more (κ ∷ connections) h = h

longer : (xs ys : List Written) → length xs ≤ length (xs ++ ys)
longer xs ys = let l = length-append xs ys in omega (arith, l)

counted_written : (past : Past) (more : List Written) (connections : List ClientConnection) → Each (IsCounted past) connections → Each (IsCounted past) (writes_first more connections)
counted_written past more [] h = tt
counted_written past more (κ ∷ connections) h =
    (record { counted = h.0.counted; within = let l = longer κ.written more in let w = h.0.within in omega (arith, l, w) }, h.1)

pub connections_written : (limits : Limits) (past : Past) (c : Client) (keeper : Keeper) (more : List Written) (connections : List ClientConnection) → keeper.is_online ≡ true → IsHeld keeper connections
    → HasConnections limits c past connections → HasConnections limits c past (writes_first more connections)
connections_written limits past c keeper more connections on held h =
    record {
      names = names_written more connections h.names;
      untouched = untouched_written limits past c keeper more connections on held h.untouched;
      shut = shut_written limits past c more connections h.shut;
      nobody = nobody_named past c connections (writes_first more connections) (written_named more connections) h.nobody;
      counted = counted_written past more connections h.counted;
    }

none_written : (connections : List ClientConnection) → writes_first [] connections ≡ connections
none_written [] = refl
none_written (κ ∷ connections) = ap (λ (ws : List Written). record κ { written = ws } ∷ connections) (append-nil κ.written)

-- or nothing
pub connections_either : (limits : Limits) (past : Past) (c : Client) (keeper : Keeper) (b : Bool) (more : List Written) (connections : List ClientConnection) → keeper.is_online ≡ b → IsHeld keeper connections
    → HasConnections limits c past connections → HasConnections limits c past (writes_first (if b then more else []) connections)
connections_either limits past c keeper true more connections on held h = connections_written limits past c keeper more connections on held h
connections_either limits past c keeper false more connections off held h = subst (HasConnections limits c past) (sym (none_written connections)) h

pub connections_maybe : (limits : Limits) (past : Past) (c : Client) (keeper : Keeper) (b : Bool) (more : List Written) (connections : List ClientConnection) → keeper.is_online ≡ b → IsHeld keeper connections
    → HasConnections limits c past connections → HasConnections limits c past (if b then writes_first more connections else connections)
connections_maybe limits past c keeper true more connections on held h = connections_written limits past c keeper more connections on held h
connections_maybe limits past c keeper false more connections off held h = h

pub held_written : (keeper later : Keeper) (more : List Written) (connections : List ClientConnection) → later.is_open ≡ keeper.is_open → later.is_online ≡ keeper.is_online → IsHeld keeper connections
    → IsHeld later (writes_first more connections)
held_written keeper later more [] opened online h = (opened ∙ h.0, online ∙ h.1)
held_written keeper later more (κ ∷ connections) opened online h = (λ e. h.0 (sym opened ∙ e) ∙ sym online, λ e. opened ∙ h.1 (sym online ∙ e))

held_lost : (keeper : Keeper) (connections : List ClientConnection) → IsHeld (lost keeper) connections
held_lost keeper [] = (refl, refl)
held_lost keeper (κ ∷ connections) = (λ e. absurd (both_ways false refl e), λ e. absurd (both_ways false refl e))

-- nothing, if it was never served
abbrev pub AreSilent : Client → List ClientConnection → Type 0
AreSilent c = Each (λ (κ : ClientConnection). κ.written ≡ opening_connect c ∷ [])

pub silent_either : (c : Client) (keeper : Keeper) (b : Bool) (more : List Written) (connections : List ClientConnection) → keeper.is_online ≡ b → (keeper.was_served ≡ false → IsUnserved c keeper)
    → (keeper.was_served ≡ false → AreSilent c connections) → keeper.was_served ≡ false → AreSilent c (writes_first (if b then more else []) connections)
silent_either c keeper true more connections on u h e = absurd (both_ways keeper.is_online (ap (λ (k : Keeper). k.is_online) (u e).is) on)
silent_either c keeper false more connections off u h e = subst (AreSilent c) (sym (none_written connections)) (h e)

pub silent_maybe : (c : Client) (keeper : Keeper) (b : Bool) (more : List Written) (connections : List ClientConnection) → keeper.is_online ≡ b → (keeper.was_served ≡ false → IsUnserved c keeper)
    → (keeper.was_served ≡ false → AreSilent c connections) → keeper.was_served ≡ false → AreSilent c (if b then writes_first more connections else connections)
silent_maybe c keeper true more connections on u h e = absurd (both_ways keeper.is_online (ap (λ (k : Keeper). k.is_online) (u e).is) on)
silent_maybe c keeper false more connections off u h e = h e

pub keeper_lost : (c : Client) (past : Past) (keeper : Keeper) (connections later : List ClientConnection) → HasKeeper c past keeper connections → (keeper.was_served ≡ false → AreSilent c later)
    → HasKeeper c past (lost keeper) later
keeper_lost c past keeper connections later k silent =
    record { client = k.client; held = held_lost keeper later; unserved = unserved_lost c keeper k.unserved; silent = silent; numbers = k.numbers; unasked = λ e. refl; begun = k.begun }
