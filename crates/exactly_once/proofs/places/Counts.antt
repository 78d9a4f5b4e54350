-- How many packets of a connection are in a list, and that a current connection has its Connect
-- there.
use Rattle.std.proofs.Common.{◌≡◌, ◌≤◌, ◌<◌, suc, Bool, true, false, not, if◌then◌else◌, [], ◌∷◌, Option, Some, None, refl, subst, arith, inl, inr, ◌⊎◌}
use Rattle.std.proofs.lemmas.Bool.{both_ways}
use Rattle.broker_spec.specs.Connection.{ConnectionName}
use Rattle.broker_spec.specs.Place.{Client, Mark, Place, Past, only_if, same_client}
use Rattle.broker_spec.specs.Sessions.{accepts, ends_any, newest_connection, current_connection}
use Rattle.broker_spec.specs.declared.command.Command.{Command}
use Rattle.broker_spec.specs.declared.command.Command.TheVariants as commands
use Rattle.exactly_once.specs.StoryCommands.{is_packet_of, packet_count}
use Rattle.broker_spec.proofs.ConnectionNames.{same_itself}

-- a packet of x counts
pub counted_here : (x : ConnectionName) (place : Place) (past : Past) → is_packet_of place.command x ≡ true → packet_count x past < packet_count x (place ∷ past)
counted_here x place past e = by (is_packet_of place.command x) e
  where
    by : (b : Bool) → b ≡ true → packet_count x past < (if b then suc (packet_count x past) else packet_count x past)
    by true e = omega arith
    by false e = absurd (both_ways false refl e)

-- a place takes none away
pub counted_still : (x : ConnectionName) (place : Place) (past : Past) → packet_count x past ≤ packet_count x (place ∷ past)
counted_still x place past = by (is_packet_of place.command x)
  where
    by : (b : Bool) → packet_count x past ≤ (if b then suc (packet_count x past) else packet_count x past)
    by true = omega arith
    by false = omega arith

-- what passes a test is there
pub only_there : {A : Type 0} (b : Bool) (o : Option A) (a : A) → only_if b o ≡ Some a → (b ≡ true) × (o ≡ Some a)
only_there true o a e = (refl, e)
only_there false o a e = cc

-- an accepted Connect is a packet of the connection that it opens
pub accepted_counts : (command : Command) (mark : Mark) (c : Client) (opened : ConnectionName × Bool) → accepts command mark c ≡ Some opened → is_packet_of command opened.0 ≡ true
accepted_counts (commands.Connect x d clean) Mark.Accepted c opened e =
    let found : Some (x, clean) ≡ Some opened = (only_there (same_client d c) (Some (x, clean)) opened e).1 in
    let same : (x, clean) ≡ opened = cc in
    subst (λ (o : ConnectionName × Bool). is_packet_of (commands.Connect x d clean) o.0 ≡ true) same (same_itself x)
accepted_counts _ _ c opened e = cc

-- a connection that is current after a place was opened there, or was current before
opened_or_old : (command : Command) (mark : Mark) (c : Client) (over : Bool) (old : Option ConnectionName) (x : ConnectionName) → newest_connection (accepts command mark c) over old ≡ Some x
    → (is_packet_of command x ≡ true) ⊎ (old ≡ Some x)
opened_or_old command mark c over old x e = by (accepts command mark c) refl e
  where
    by : (o : Option (ConnectionName × Bool)) → accepts command mark c ≡ o → newest_connection o over old ≡ Some x → (is_packet_of command x ≡ true) ⊎ (old ≡ Some x)
    by (Some opened) a f =
        let same : opened.0 ≡ x = cc in
        inl (subst (λ (y : ConnectionName). is_packet_of command y ≡ true) same (accepted_counts command mark c opened a))
    by None a f = inr (only_there (not over) old x f).1

-- so a current connection has its Connect in the list
pub current_counted : (past : Past) (c : Client) (x : ConnectionName) → current_connection past c ≡ Some x → 1 ≤ packet_count x past
unfolding current_connection
current_counted [] c x e = cc
current_counted (place ∷ past) c x e =
    by (opened_or_old place.command place.mark c (ends_any place c (current_connection past c)) (current_connection past c) x e) (current_counted past c x)
  where
    by : (is_packet_of place.command x ≡ true) ⊎ (current_connection past c ≡ Some x) → (current_connection past c ≡ Some x → 1 ≤ packet_count x past) → 1 ≤ packet_count x (place ∷ past)
    by (inl here) ih = let more = counted_here x place past here in omega (arith, more)
    by (inr old) ih =
        let more = counted_still x place past in
        let some = ih old in
        omega (arith, more, some)
