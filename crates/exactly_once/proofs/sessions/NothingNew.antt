-- Connections of which nothing was taken, or on which only a CONNECT was written, bring nothing new.
use Rattle.std.proofs.Common.{◌≡◌, ◌≤◌, ◌+◌, ℕ, zero, suc, Bool, true, false, ◌||◌, if◌then◌else◌, List, [], ◌∷◌, ◌++◌, Some, None, refl, ◌∙◌, ap, ap₂, arith}
use Rattle.std.specs.Prelude.{slice_get}
use Rattle.packet.specs.declared.packet.Packet.TheVariants as packets
use Rattle.lists.specs.Lists.{Each}
use Rattle.broker_spec.specs.Connection.{ConnectionName, same_connection}
use Rattle.broker_spec.specs.Place.{Client, Mark, Past, Limits}
use Rattle.broker_spec.specs.Sessions.{clean_session_of, begins}
use Rattle.broker_spec.specs.Received.{is_new}
use Rattle.broker_spec.specs.declared.command.Command.{Command}
use Rattle.broker_spec.specs.declared.command.Command.TheVariants as commands
use Rattle.client_base.specs.Connected.{opening_connect}
use Rattle.exactly_once.specs.Sides.{ClientConnection}
use Rattle.exactly_once.specs.StoryCommands.{any_named, packet_count, is_packet_of}
use Rattle.exactly_once.specs.Carried.{carries, connection_named, written_number, written_number_at, more_by, new_numbers}
use Rattle.exactly_once.specs.InStep.{has_begun, sessions_begun}
use Rattle.exactly_once.proofs.carrying.KeepsPlaces.{none_carried}
use Rattle.exactly_once.proofs.sessions.Beside.{kept_of}
use Rattle.exactly_once.proofs.sessions.Anew.{flags_of, is_zero, AreUntouched}
use Rattle.exactly_once.proofs.sessions.Again.{accepted_at, begins_there}
use Rattle.exactly_once.proofs.sessions.CarriedAlike.{none_more}

-- ---- nothing was taken

abbrev AreUncounted : Past → List ClientConnection → Type 0
AreUncounted past = Each (λ (κ : ClientConnection). packet_count κ.name past ≡ 0)

uncounted_here : (b : Bool) (n : ℕ) → (if b then suc n else n) ≡ 0 → (b ≡ false) × (n ≡ 0)
uncounted_here true n e = absurd (omega (arith, e))
uncounted_here false n e = (refl, e)

none_here : (command : Command) (mark : Mark) (past : Past) (connections : List ClientConnection) → AreUncounted (record { command = command; mark = mark } ∷ past) connections
    → (any_named (is_packet_of command) connections ≡ false) × AreUncounted past connections
none_here command mark past [] h = (refl, tt)
none_here command mark past (κ ∷ connections) h =
    let two = uncounted_here (is_packet_of command κ.name) (packet_count κ.name past) h.0 in
    let rest = none_here command mark past connections h.1 in
    (ap₂ (λ a b. a || b) two.0 rest.0, (two.1, rest.1))

uncounted_nothing : (past : Past) (connections : List ClientConnection) → AreUncounted past connections → new_numbers connections past ≡ []
uncounted_nothing [] connections h = refl
uncounted_nothing (place ∷ past) connections h =
    let two = none_here place.command place.mark past connections h in
    ap₂ (λ xs o. xs ++ more_by (is_new place.command place.mark) o) (uncounted_nothing past connections two.1) (none_carried connections place.command past two.0)
    ∙ none_more (is_new place.command place.mark)

kept_uncounted : (limits : Limits) (past : Past) (c : Client) (connections : List ClientConnection) → AreUntouched limits past c connections → AreUncounted past (kept_of (flags_of connections) connections)
kept_uncounted limits past c [] h = tt
kept_uncounted limits past c (κ ∷ connections) h = by κ.taken refl (kept_uncounted limits past c connections h.1)
  where
    by : (n : ℕ) → κ.taken ≡ n → AreUncounted past (kept_of (flags_of connections) connections) → AreUncounted past (kept_of (is_zero n ∷ flags_of connections) (κ ∷ connections))
    by zero e ih = ((h.0 e).uncounted, ih)
    by (suc n) e ih = ih

-- if a session begins again its story has nothing new
pub nothing_new_yet : (limits : Limits) (past : Past) (c : Client) (κ : ClientConnection) (others : List ClientConnection) → AreUntouched limits past c (κ ∷ others) → κ.taken ≡ 0
    → new_numbers (kept_of (true ∷ flags_of others) (record κ { taken = suc κ.taken } ∷ others)) (accepted_at κ.name c ∷ past) ≡ []
nothing_new_yet limits past c κ others fresh new =
    ap (λ xs. xs ++ []) (uncounted_nothing past (record κ { taken = suc κ.taken } ∷ kept_of (flags_of others) others) ((fresh.0 new).uncounted, kept_uncounted limits past c others fresh.1))

-- ---- only CONNECTs were written

silent_number : (c : Client) (connections : List ClientConnection) → Each (λ (κ : ClientConnection). κ.written ≡ opening_connect c ∷ []) connections → (x : ConnectionName) (j : ℕ) → written_number_at j (connection_named x connections) ≡ None
silent_number c [] h x j = refl
silent_number c (κ ∷ connections) h x j = by (same_connection x κ.name) (silent_number c connections h.1 x j)
  where
    of : (j : ℕ) → written_number (slice_get (opening_connect c ∷ []) j) ≡ None
    of zero = refl
    of (suc j) = refl

    by : (b : Bool) → written_number_at j (connection_named x connections) ≡ None → written_number_at j (if b then Some κ else connection_named x connections) ≡ None
    by true ih = ap (λ ws. written_number (slice_get ws j)) h.0 ∙ of j
    by false ih = ih

silent_carries : (c : Client) (connections : List ClientConnection) → Each (λ (κ : ClientConnection). κ.written ≡ opening_connect c ∷ []) connections → (command : Command) (past : Past) → carries connections command past ≡ None
silent_carries c connections h (commands.Packet x (packets.Publish p)) past = silent_number c connections h x (packet_count x past)
silent_carries c connections h (commands.Packet x _) past = refl
silent_carries c connections h (commands.Connect x d clean) past = refl
silent_carries c connections h (commands.Lost x) past = refl
silent_carries c connections h (commands.Start ballot) past = refl
silent_carries c connections h (commands.Expel d) past = refl

pub silent_nothing : (c : Client) (connections : List ClientConnection) → Each (λ (κ : ClientConnection). κ.written ≡ opening_connect c ∷ []) connections → (past : Past) → new_numbers connections past ≡ []
silent_nothing c connections h [] = refl
silent_nothing c connections h (place ∷ past) =
    ap₂ (λ xs o. xs ++ more_by (is_new place.command place.mark) o) (silent_nothing c connections h past) (silent_carries c connections h place.command past) ∙ none_more (is_new place.command place.mark)

-- ---- how many sessions began

begun_counts : (past : Past) (c : Client) → has_begun past c ≡ true → 1 ≤ sessions_begun past c
begun_counts [] c e = cc
begun_counts (place ∷ past) c e = by (begins place past c) e (begun_counts past c)
  where
    by : (b : Bool) → (b || has_begun past c) ≡ true → (has_begun past c ≡ true → 1 ≤ sessions_begun past c) → 1 ≤ (if b then 1 else 0) + sessions_begun past c
    by true f ih = omega arith
    by false f ih = let h = ih f in omega (arith, h)

pub again_begun : (past : Past) (c : Client) (x : ConnectionName) → clean_session_of past c ≡ None → has_begun past c ≡ true → sessions_begun (accepted_at x c ∷ past) c ≤ 1 → ⊥
again_begun past c x none begun one =
    let some = begun_counts past c begun in
    let two : sessions_begun (accepted_at x c ∷ past) c ≡ 1 + sessions_begun past c = ap (λ b. (if b then 1 else 0) + sessions_begun past c) (begins_there past c x none) in
    omega (arith, some, two, one)
