-- What holds for each connection after a place: of the one whose packet is taken, and of all
-- others.
use Rattle.std.proofs.Common.{◌≡◌, ◌≤◌, ℕ, zero, suc, Bool, false, List, [], ◌∷◌, length, Some, refl, sym, ◌∙◌, ap, subst, arith, inl, inr, ◌⊎◌, if◌then◌else◌, true}
use Rattle.std.specs.Prelude.{slice_get}
use Rattle.packet.specs.declared.packet.Packet.{Packet}
use Rattle.lists.specs.Lists.{Each}
use Rattle.lists.proofs.Tests.{or_none}
use Rattle.broker_spec.specs.Connection.{ConnectionName, same_connection}
use Rattle.broker_spec.specs.Place.{Client, Place, Past, Limits}
use Rattle.broker_spec.specs.Sessions.{accepts}
use Rattle.broker_spec.specs.Marks.{mark_of}
use Rattle.broker_spec.specs.Commands.{place_of}
use Rattle.broker_spec.specs.declared.command.Command.{Command}
use Rattle.broker_spec.specs.declared.command.Command.TheVariants as commands
use Rattle.client_base.specs.Keeper.{Written}
use Rattle.client_base.specs.Connected.{opening_connect}
use Rattle.exactly_once.specs.Sides.{ClientConnection}
use Rattle.exactly_once.specs.StoryCommands.{any_named, with_one_counted, command_of, packet_count, is_packet_of}
use Rattle.broker_spec.proofs.ConnectionNames.{same_itself}
use Rattle.exactly_once.specs.InStep.{opens_on}
use Rattle.exactly_once.specs.Inside.Shape.{NamesApart}
use Rattle.exactly_once.proofs.sessions.Beside.{other_name}
use Rattle.exactly_once.proofs.sessions.Anew.{IsUntouched, AreUntouched}
use Rattle.exactly_once.proofs.sessions.Openings.{opens_packet}
use Rattle.exactly_once.proofs.sessions.Life.{IsShutUnopened, AreShutUnopened, IsCounted}
use Rattle.exactly_once.proofs.sessions.Placed.{untouched_other, shut_still, shut_other, shut_connect}

-- ---- each of them

-- if none is named
pub each_other : (P Q : ClientConnection → Type 0) (test : ConnectionName → Bool) (connections : List ClientConnection) → any_named test connections ≡ false → ((μ : ClientConnection) → test μ.name ≡ false → P μ → Q μ)
    → Each P connections → Each Q connections
each_other P Q test [] none f h = tt
each_other P Q test (μ ∷ connections) none f h =
    let two = or_none (test μ.name) (any_named test connections) none in (f μ two.0 h.0, each_other P Q test connections two.1 f h.1)

-- one more packet of κ is taken
pub each_own : (P Q : ClientConnection → Type 0) (i : ℕ) (κ : ClientConnection) (connections : List ClientConnection) → slice_get connections i ≡ Some κ → NamesApart connections
    → ((μ : ClientConnection) → same_connection κ.name μ.name ≡ false → P μ → Q μ) → (P κ → Q (record κ { taken = suc κ.taken })) → Each P connections → Each Q (with_one_counted i connections)
each_own P Q i κ [] at apart f g h = absurd (cc)
each_own P Q zero κ (μ ∷ connections) at apart f g h =
    let same : μ ≡ κ = cc in (
      subst (λ (z : ClientConnection). Q (record z { taken = suc z.taken })) (sym same) (g (subst P same h.0)),
      each_other P Q (same_connection κ.name) connections (ap (λ (z : ClientConnection). any_named (same_connection z.name) connections) (sym same) ∙ apart.0) f h.1,
    )
each_own P Q (suc i) κ (μ ∷ connections) at apart f g h = (f μ (other_name μ.name connections i κ apart.0 at) h.0, each_own P Q i κ connections at apart.1 f g h.1)

-- none is taken after the last one
pub counted_none : (connections : List ClientConnection) → with_one_counted (length connections) connections ≡ connections
counted_none [] = refl
counted_none (κ ∷ connections) = ap (λ l. κ ∷ l) (counted_none connections)

-- ---- the command of a packet that was written

-- its CONNECT, or a later one
abbrev pub IsOwnCommand : Client → ClientConnection → Packet → Command → Type 0
IsOwnCommand c κ packet command = ((κ.taken ≡ 0) × (command ≡ commands.Connect κ.name c false)) ⊎ ((1 ≤ κ.taken) × (command ≡ commands.Packet κ.name packet))

pub own_command : (limits : Limits) (past : Past) (c : Client) (κ : ClientConnection) (w : Written) → (κ.taken ≡ 0 → IsUntouched limits past c κ) → slice_get κ.written κ.taken ≡ Some w
    → IsOwnCommand c κ w.packet (command_of κ.name κ.taken w.packet)
own_command limits past c κ w untouched next = by κ.taken refl
  where
    by : (n : ℕ) → κ.taken ≡ n → IsOwnCommand c κ w.packet (command_of κ.name κ.taken w.packet)
    by zero e =
        let u = untouched e in
        let first : Some (opening_connect c) ≡ Some w = sym (ap (λ (z : ClientConnection). slice_get z.written z.taken) u.is) ∙ next in
        let same : opening_connect c ≡ w = cc in
        inl (e, ap (λ n. command_of κ.name n w.packet) e ∙ ap (λ (v : Written). command_of κ.name 0 v.packet) (sym same))
    by (suc n) e = inr (omega (arith, e), ap (λ m. command_of κ.name m w.packet) e)

-- it is a packet only of this connection
pub own_alone : (c : Client) (κ : ClientConnection) (packet : Packet) (command : Command) (y : ConnectionName) → IsOwnCommand c κ packet command → same_connection κ.name y ≡ false → is_packet_of command y ≡ false
own_alone c κ packet command y (inl k) other = ap (λ d. is_packet_of d y) k.1 ∙ other
own_alone c κ packet command y (inr k) other = ap (λ d. is_packet_of d y) k.1 ∙ other

-- ---- rows of one connection

shut_taken : (limits : Limits) (past : Past) (c : Client) (κ : ClientConnection) (n : ℕ) → IsShutUnopened limits past c κ → IsShutUnopened limits past c (record κ { taken = n })
shut_taken limits past c κ n h e = let s = h e in record { unconfirmed = s.unconfirmed; nothing = s.nothing; unwelcome = s.unwelcome }

pub shut_own : (limits : Limits) (past : Past) (c : Client) (κ : ClientConnection) (packet : Packet) (command : Command) → IsOwnCommand c κ packet command → (κ.taken ≡ 0 → IsUntouched limits past c κ)
    → IsShutUnopened limits past c κ → IsShutUnopened limits (place_of limits past command ∷ past) c (record κ { taken = suc κ.taken })
shut_own limits past c κ packet command (inl k) untouched h =
    subst (λ (d : Command). IsShutUnopened limits (place_of limits past d ∷ past) c (record κ { taken = suc κ.taken })) (sym k.1)
    (shut_connect limits past c κ (suc κ.taken) (mark_of limits past (commands.Connect κ.name c false)) (untouched k.0))
shut_own limits past c κ packet command (inr k) untouched h =
    subst (λ (d : Command). IsShutUnopened limits (place_of limits past d ∷ past) c (record κ { taken = suc κ.taken })) (sym k.1)
    (let place = place_of limits past (commands.Packet κ.name packet) in
    shut_taken limits (place ∷ past) c κ (suc κ.taken) (shut_still limits place past c κ refl refl h))

-- a place opens it while nothing was accepted on it, or does not open it
abbrev pub IsFresh : Place → Client → ClientConnection → Type 0
IsFresh place c κ = (opens_on κ.name (accepts place.command place.mark c) ≡ false) ⊎ (κ.accepted ≡ [])

fresh_own : (limits : Limits) (past : Past) (c : Client) (κ : ClientConnection) (packet : Packet) (command : Command) → IsOwnCommand c κ packet command → (κ.taken ≡ 0 → IsUntouched limits past c κ)
    → IsFresh (place_of limits past command) c κ
fresh_own limits past c κ packet command (inl k) untouched = inr (ap (λ (z : ClientConnection). z.accepted) (untouched k.0).is)
fresh_own limits past c κ packet command (inr k) untouched = inl (ap (λ d. opens_on κ.name (accepts d (mark_of limits past d) c)) k.1)

-- ---- rows of all connections

pub own_untouched : (limits : Limits) (past : Past) (c : Client) (i : ℕ) (κ : ClientConnection) (packet : Packet) (command : Command) (connections : List ClientConnection) → IsOwnCommand c κ packet command
    → slice_get connections i ≡ Some κ → NamesApart connections → AreUntouched limits past c connections → AreUntouched limits (place_of limits past command ∷ past) c (with_one_counted i connections)
own_untouched limits past c i κ packet command connections kind at apart =
    let place = place_of limits past command in
    each_own (λ (μ : ClientConnection). μ.taken ≡ 0 → IsUntouched limits past c μ) (λ (μ : ClientConnection). μ.taken ≡ 0 → IsUntouched limits (place ∷ past) c μ) i κ connections at apart
    (λ μ other h new. untouched_other limits place past c μ (own_alone c κ packet command μ.name kind other) (h new)) (λ h new. absurd (omega (arith, new)))

pub own_shut : (limits : Limits) (past : Past) (c : Client) (i : ℕ) (κ : ClientConnection) (packet : Packet) (command : Command) (connections : List ClientConnection) → IsOwnCommand c κ packet command
    → (κ.taken ≡ 0 → IsUntouched limits past c κ) → slice_get connections i ≡ Some κ → NamesApart connections → AreShutUnopened limits past c connections
    → AreShutUnopened limits (place_of limits past command ∷ past) c (with_one_counted i connections)
own_shut limits past c i κ packet command connections kind untouched at apart =
    let place = place_of limits past command in
    each_own (IsShutUnopened limits past c) (IsShutUnopened limits (place ∷ past) c) i κ connections at apart
    (λ μ other h. shut_other limits place past c μ (own_alone c κ packet command μ.name kind other) h) (shut_own limits past c κ packet command kind untouched)

pub own_fresh : (limits : Limits) (past : Past) (c : Client) (i : ℕ) (κ : ClientConnection) (packet : Packet) (command : Command) (connections : List ClientConnection) → IsOwnCommand c κ packet command
    → (κ.taken ≡ 0 → IsUntouched limits past c κ) → slice_get connections i ≡ Some κ → NamesApart connections → Each (IsFresh (place_of limits past command) c) connections
own_fresh limits past c i κ packet command [] kind untouched at apart = tt
own_fresh limits past c zero κ packet command (μ ∷ connections) kind untouched at apart =
    let same : μ ≡ κ = cc in
    let place = place_of limits past command in (
      subst (IsFresh place c) (sym same) (fresh_own limits past c κ packet command kind untouched),
      each_other (λ μ. Unit {0}) (IsFresh place c) (same_connection κ.name) connections (ap (λ (z : ClientConnection). any_named (same_connection z.name) connections) (sym same) ∙ apart.0)
          (λ ξ other h. inl (opens_packet command place.mark c ξ.name (own_alone c κ packet command ξ.name kind other))) (all_units connections),
    )
  where
    all_units : (l : List ClientConnection) → Each (λ μ. Unit {0}) l
    all_units [] = tt
    all_units (ξ ∷ l) = (tt, all_units l)
own_fresh limits past c (suc i) κ packet command (μ ∷ connections) kind untouched at apart =
    let place = place_of limits past command in (
      inl (opens_packet command place.mark c μ.name (own_alone c κ packet command μ.name kind (other_name μ.name connections i κ apart.0 at))),
      own_fresh limits past c i κ packet command connections kind untouched at apart.1,
    )

-- ---- how many were taken

is_within : (xs : List Written) (n : ℕ) (w : Written) → slice_get xs n ≡ Some w → suc n ≤ length xs
is_within [] n w e = absurd (cc)
is_within (x ∷ xs) zero w e = omega arith
is_within (x ∷ xs) (suc n) w e = let h = is_within xs n w e in omega (arith, h)

own_itself : (c : Client) (κ : ClientConnection) (packet : Packet) (command : Command) → IsOwnCommand c κ packet command → is_packet_of command κ.name ≡ true
own_itself c κ packet command (inl k) = ap (λ d. is_packet_of d κ.name) k.1 ∙ same_itself κ.name
own_itself c κ packet command (inr k) = ap (λ d. is_packet_of d κ.name) k.1 ∙ same_itself κ.name

pub counted_other : (place : Place) (past : Past) (κ : ClientConnection) → is_packet_of place.command κ.name ≡ false → IsCounted past κ → IsCounted (place ∷ past) κ
counted_other place past κ other h = record { counted = ap (λ b. if b then suc (packet_count κ.name past) else packet_count κ.name past) other ∙ h.counted; within = h.within }

pub own_counted : (limits : Limits) (past : Past) (c : Client) (i : ℕ) (κ : ClientConnection) (w : Written) (command : Command) (connections : List ClientConnection) → IsOwnCommand c κ w.packet command
    → slice_get κ.written κ.taken ≡ Some w → slice_get connections i ≡ Some κ → NamesApart connections → Each (IsCounted past) connections
    → Each (IsCounted (place_of limits past command ∷ past)) (with_one_counted i connections)
own_counted limits past c i κ w command connections kind next at apart =
    let place = place_of limits past command in
    each_own (IsCounted past) (IsCounted (place ∷ past)) i κ connections at apart (λ μ other h. counted_other place past μ (own_alone c κ w.packet command μ.name kind other) h)
    (λ h. record {
      counted = ap (λ b. if b then suc (packet_count κ.name past) else packet_count κ.name past) (own_itself c κ w.packet command kind) ∙ ap (λ n. suc n) h.counted;
      within = is_within κ.written κ.taken w next;
    })
