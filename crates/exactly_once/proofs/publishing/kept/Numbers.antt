-- Which publications the places of a list carry depends only on the packets that are taken.
use Rattle.std.proofs.Common.{◌≡◌, ◌≤◌, ◌<◌, ℕ, zero, suc, Bool, true, false, if◌then◌else◌, List, [], ◌∷◌, ◌++◌, length, Some, refl, ap, ap₂, ◌∙◌, arith, inl, inr, ◌⊎◌}
use Rattle.std.specs.Prelude.{slice_get}
use Rattle.std.proofs.lemmas.Bool.{cases_Bool}
use Rattle.packet.specs.declared.packet.Packet.TheVariants as packets
use Rattle.broker_spec.specs.Connection.{ConnectionName, same_connection}
use Rattle.broker_spec.specs.Place.{Place, Past}
use Rattle.broker_spec.specs.Received.{is_new}
use Rattle.broker_spec.specs.declared.command.Command.{Command}
use Rattle.broker_spec.specs.declared.command.Command.TheVariants as commands
use Rattle.client_base.specs.Keeper.{Written}
use Rattle.exactly_once.specs.Sides.{ClientConnection}
use Rattle.exactly_once.specs.StoryCommands.{is_packet_of, packet_count, with_one_counted}
use Rattle.exactly_once.specs.Carried.{carries, connection_named, written_number_at, written_number, more_by, new_numbers}
use Rattle.broker_spec.proofs.ConnectionNames.{same_name, same_itself}
use Rattle.exactly_once.proofs.places.Counts.{counted_here, counted_still}

-- both lists of connections give the same number to each packet of x that is taken
abbrev pub SameNumbers : List ClientConnection → List ClientConnection → Past → Type 0
SameNumbers connections later past =
    (x : ConnectionName) (j : ℕ) → j < packet_count x past → written_number_at j (connection_named x later) ≡ written_number_at j (connection_named x connections)

pub same_carries : (connections later : List ClientConnection) (place : Place) (past : Past) → SameNumbers connections later (place ∷ past)
    → carries later place.command past ≡ carries connections place.command past
same_carries connections later place past same = one place.command refl
  where
    one : (command : Command) → place.command ≡ command → carries later command past ≡ carries connections command past
    one (commands.Packet x (packets.Publish p)) e =
        same x (packet_count x past) (counted_here x place past (ap (λ c. is_packet_of c x) e ∙ same_itself x))
    one (commands.Packet x packet) e = refl
    one (commands.Connect x c clean) e = refl
    one (commands.Lost x) e = refl
    one (commands.Start b) e = refl
    one (commands.Expel d) e = refl

pub same_numbers : (connections later : List ClientConnection) (past : Past) → SameNumbers connections later past → new_numbers later past ≡ new_numbers connections past
same_numbers connections later [] same = refl
same_numbers connections later (place ∷ past) same =
    ap₂ (λ xs number. xs ++ more_by (is_new place.command place.mark) number)
    (same_numbers connections later past (λ x j less. same x j (below x j less)))
    (same_carries connections later place past same)
  where
    below : (x : ConnectionName) (j : ℕ) → j < packet_count x past → j < packet_count x (place ∷ past)
    below x j less = let more = counted_still x place past in omega (arith, less, more)

-- ---- what an event does to the connections

-- what is in front of more stays
pub within_more : (ws more : List Written) (j : ℕ) → j < length ws → slice_get (ws ++ more) j ≡ slice_get ws j
within_more [] more j h = absurd (omega (arith, h))
within_more (w ∷ ws) more zero h = refl
within_more (w ∷ ws) more (suc j) h = within_more ws more j (omega (arith, h))

-- more is written on the first one
pub same_written : (past : Past) (κ after : ClientConnection) (others : List ClientConnection) (more : List Written) → after.name ≡ κ.name → after.written ≡ κ.written ++ more
    → packet_count κ.name past ≤ length κ.written → SameNumbers (κ ∷ others) (after ∷ others) past
same_written past κ after others more n w within x j less = by (cases_Bool (same_connection x κ.name))
  where
    by : (same_connection x κ.name ≡ true) ⊎ (same_connection x κ.name ≡ false) → written_number_at j (connection_named x (after ∷ others)) ≡ written_number_at j (connection_named x (κ ∷ others))
    by (inr e) = rw (ap (same_connection x) n ∙ e, e) refl
    by (inl e) =
        let count : packet_count x past ≡ packet_count κ.name past = ap (λ y. packet_count y past) (same_name x κ.name e) in
        let stands : j < length κ.written = omega (arith, less, count, within) in
        rw (ap (same_connection x) n ∙ e, e) (ap written_number (ap (λ z. slice_get z j) w ∙ within_more κ.written more j stands))

-- one more packet is taken
pub same_counted : (past : Past) (i : ℕ) (connections : List ClientConnection) → SameNumbers connections (with_one_counted i connections) past
same_counted past i [] x j less = refl
same_counted past zero (κ ∷ connections) x j less = by (same_connection x κ.name)
  where
    by : (b : Bool)
        → written_number_at j (if b then Some (record κ { taken = suc κ.taken }) else connection_named x connections) ≡ written_number_at j (if b then Some κ else connection_named x connections)
    by true = refl
    by false = refl
same_counted past (suc i) (κ ∷ connections) x j less = by (same_connection x κ.name) (same_counted past i connections x j less)
  where
    by : (b : Bool) → written_number_at j (connection_named x (with_one_counted i connections)) ≡ written_number_at j (connection_named x connections)
        → written_number_at j (if b then Some κ else connection_named x (with_one_counted i connections)) ≡ written_number_at j (if b then Some κ else connection_named x connections)
    by true ih = refl
    by false ih = ih

-- one is opened of which no packet is taken
pub same_opened : (past : Past) (κ : ClientConnection) (connections : List ClientConnection) → packet_count κ.name past ≡ 0 → SameNumbers connections (κ ∷ connections) past
same_opened past κ connections none x j less = by (cases_Bool (same_connection x κ.name))
  where
    by : (same_connection x κ.name ≡ true) ⊎ (same_connection x κ.name ≡ false) → written_number_at j (connection_named x (κ ∷ connections)) ≡ written_number_at j (connection_named x connections)
    by (inr e) = rw e refl
    by (inl e) =
        let count : packet_count x past ≡ packet_count κ.name past = ap (λ y. packet_count y past) (same_name x κ.name e) in
        absurd (omega (arith, less, count, none))
