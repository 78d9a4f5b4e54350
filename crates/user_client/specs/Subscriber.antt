-- A client that prints publications.
use Rattle.std.specs.Prelude.{◌≡◌, ℕ, ◌-◌, List, [], length, take, Option}
use Rattle.std.specs.List.{flat_map}
use Rattle.std.specs.Io.KnownBytes.{Appends}
use Rattle.client_base.specs.declared.accepted.Accepted.{Accepted}
use Rattle.client_base.specs.printed.Lines.{printed_line}
use Rattle.user_client.specs.Traces.{CallerView, Trace, new_called}

-- a client, how many publications it prints in all, and how many of them are left to print
pub record SubscriberView : Type 0 where
  pub caller : CallerView
  pub count : ℕ
  pub left : ℕ

-- a client that was never connected
abbrev pub new_listening : List ℕ → ℕ → SubscriberView
new_listening id count = record { caller = new_called id; count = count; left = count }

-- the client starts anew: all its publications are left to print
abbrev pub listening_anew : SubscriberView → SubscriberView
listening_anew listening = record listening { left = listening.count }

-- the lines for these publications, in order, while this many are left to print
abbrev pub printed_lines : ℕ → List Accepted → List ℕ
printed_lines left accepted = flat_map printed_line (take left accepted)

-- each of these was printed once, in order, as many as were left to print
abbrev pub Shows : List Accepted → ℕ → ℕ → Option (List ℕ) → Option (List ℕ) → Type 0
Shows accepted left rest before after =
    (rest ≡ left - length accepted) × Appends before after (printed_lines left accepted)

-- what was accepted between the two was printed
abbrev pub PrintsAccepted :
    SubscriberView → Option (List ℕ) → SubscriberView → Option (List ℕ) → Type 0
PrintsAccepted old before new after =
    (accepted : List Accepted)
    × Trace old.caller accepted new.caller
    × (new.count ≡ old.count)
    × Shows accepted old.left new.left before after

-- nothing was printed between the two
abbrev pub PrintsNothing : SubscriberView → SubscriberView → Type 0
PrintsNothing old new =
    Trace old.caller [] new.caller × (new.count ≡ old.count) × (new.left ≡ old.left)
