-- Places of a command list: each is a command with a mark that says what it did.
-- The meaning of a broker is a function of the list of its commands, without any state. A place is
-- one index of that list with its command and its mark; a past is all places below an index, newest
-- first. Every question (which connection is current, which session a client has, which entries it
-- holds) is asked about a past, and the mark of a command is decided by the past below it. So the
-- definitions recur over the past, and none depends on how a broker stores anything; that a broker
-- computes them step by step is a theorem of broker_base. The limits are an argument, so that
-- examples with small limits can be computed.
use Rattle.std.specs.Prelude.{ℕ, Bool, true, false, List, Option, None}
use Rattle.std.specs.declared.cmp.Ordering.{Ordering}
use Rattle.std.specs.Ordering.{nat_cmp, is_eq}
use Rattle.std.specs.Cmp.Lexicographic.{slice_cmp}
use Rattle.broker_spec.specs.declared.command.Command.{Command}

-- the bytes of a Client Identifier
abbrev pub Client : Type 0
Client = List ℕ

-- clients are distinguished, and ordered, by their bytes
abbrev pub by_bytes : Client → Client → Ordering
by_bytes = slice_cmp nat_cmp

-- whether two clients are equal
abbrev pub same_client : Client → Client → Bool
same_client client other = is_eq (by_bytes client other)

-- what a command did, decided by the places below it; `client` is the one whose current connection
-- the command came on
pub data Mark : Type 0 where
  Unmarked : Mark  -- a packet on no current connection; every Lost, Start and Expel
  Accepted : Mark  -- a Connect that made its connection current
  Full : Mark  -- a Connect that would have begun one session too many
  Leaves : (client : Client) → Mark  -- a DISCONNECT or a violation, which ends the connection
  Refused : (client : Client) → Mark  -- a PUBLISH for which there is no room, which ends it too
  Repeat : (client : Client) → Mark  -- a repeat of a PUBLISH at QoS 2 that was taken
  Taken : (client : Client) → Mark  -- a PUBLISH whose publication goes to the subscribers
  -- a SUBSCRIBE, and which filters are granted
  Granted : (client : Client) → (which : List Bool) → Mark
  Handled : (client : Client) → Mark  -- any other packet

-- a command and what it did
pub record Place : Type 0 where
  pub command : Command
  pub mark : Mark

-- The places of a command list, the newest first. The number of a place is how many places are
-- below it.
abbrev pub Past : Type 0
Past = List Place

-- the limits of a broker
pub record Limits : Type 0 where
  pub sessions : ℕ
  pub subscriptions : ℕ  -- of a session
  pub entries : ℕ  -- of a session, not finished
  pub retained : ℕ  -- topics
  pub window : Past → ℕ  -- entries of a session in flight at most, after these places

-- the value if the test holds, otherwise `None`
abbrev pub only_if : {A : Type 0} → Bool → Option A → Option A
only_if true found = found
only_if false found = None
