-- A command that was written is read as it was, whatever follows it.
use Rattle.std.proofs.Common.{◌≡◌, ℕ, ◌≤◌, ◌<◌, ◌^◌, Bool, true, false, nat_lt, nat_le, List, [], ◌∷◌, ◌++◌, Ok, refl, ap, ◌∙◌, arith, append_assoc}
use Rattle.std.specs.Prelude.{◌&&◌}
use Rattle.std.proofs.lemmas.Bool.{leb-true}
use Rattle.std.proofs.lemmas.Nat.{from_be_bytes-to_be_bytes_8}
use Rattle.packet_base.specs.Spelling.{text, bit}
use Rattle.packet_base.specs.ClientId.{is_client}
use Rattle.packet_base.proofs.FieldsAgain.{front_again, text_again}
use Rattle.packet_base.proofs.Clients.{client_parts, client_short}
use Rattle.packet.specs.declared.packet.Packet.{Packet}
use Rattle.packet.specs.Spelling.{spelling, Fits, IsPacket}
use Rattle.packet.specs.Verdict.{verdict}
use Rattle.packet.proofs.PacketReads.{verdict_again}
use Rattle.packet.proofs.OneSpelling.{spelling_is}
use Rattle.session_base.proofs.Fields.{flag_again}
use Rattle.broker_spec.specs.Connection.{ConnectionName, is_connection_name}
use Rattle.broker_spec.specs.Sized.{IsSized}
use Rattle.broker_spec.specs.declared.command.Command.{Command}
use Rattle.broker_spec.specs.declared.command.Command.TheVariants as commands
use Rattle.links.specs.message_form.Numbers.{wide_number, wide_number_at}
use Rattle.links.specs.message_form.Commands.{name_bytes, command_bytes, IsCommand}
use Rattle.links.specs.message_form.CommandReading.{name_at, client_at, connect_at, packet_at, lost_at, start_at, expel_at, command_at}

pub wide_again : (n : ℕ) (rest : List ℕ) → n < 2 ^ 64 → wide_number_at (wide_number n ++ rest) ≡ Ok (n, rest)
unfolding wide_number_at
wide_again n rest small = rw (front_again (wide_number n) rest 8 refl, from_be_bytes-to_be_bytes_8 n small) refl

both : (a b : Bool) → (a && b) ≡ true → (a ≡ true) × (b ≡ true)
both true b e = (refl, e)
both false b e = absurd (cc)

-- the parts of a name fit eight bytes
small_name : (x : ConnectionName) → is_connection_name x ≡ true → (x.ballot < 2 ^ 64) × (x.count < 2 ^ 64)
small_name x h =
    let parts = both (nat_lt 0 x.ballot && nat_le x.ballot (2 ^ 32)) (nat_lt 0 x.count && nat_le x.count (2 ^ 40)) h in
    let ballot : x.ballot ≤ 2 ^ 32 = leb-true _ _ (both (nat_lt 0 x.ballot) (nat_le x.ballot (2 ^ 32)) parts.0).1 in
    let count : x.count ≤ 2 ^ 40 = leb-true _ _ (both (nat_lt 0 x.count) (nat_le x.count (2 ^ 40)) parts.1).1 in
    (omega (arith, ballot), omega (arith, count))

name_again : (x : ConnectionName) (rest : List ℕ) → is_connection_name x ≡ true → name_at (name_bytes x ++ rest) ≡ Ok (x, rest)
unfolding name_at
name_again x rest h =
    rw (append_assoc (wide_number x.ballot) (wide_number x.count) rest, wide_again x.ballot (wide_number x.count ++ rest) (small_name x h).0, wide_again x.count rest (small_name x h).1, h) refl

client_again : (client rest : List ℕ) → is_client client ≡ true → client_at (text client ++ rest) ≡ Ok (client, rest)
unfolding client_at
client_again client rest h = let parts = client_parts client h in rw (text_again client rest (client_short client h) parts.0, parts.1) refl

packet_again : (packet : Packet) (rest : List ℕ) → Fits packet → IsSized packet → verdict (spelling packet ++ rest) ≡ Ok (packet, rest)
packet_again packet rest fits sized =
    let whole : IsPacket packet = (fits, sized.0, sized.1) in verdict_again packet (spelling packet) rest whole (spelling_is packet whole).0

pub command_again : (command : Command) (rest : List ℕ) → IsCommand command → command_at (command_bytes command ++ rest) ≡ Ok (command, rest)
unfolding command_at connect_at packet_at lost_at start_at expel_at
command_again (commands.Connect name client clean) rest h =
    ap (λ (z : List ℕ). connect_at z) (append_assoc (name_bytes name) (text client ++ bit clean ∷ []) rest ∙ ap (λ (z : List ℕ). name_bytes name ++ z) (append_assoc (text client) (bit clean ∷ []) rest))
    ∙ rw (name_again name (text client ++ (bit clean ∷ rest)) h.0, client_again client (bit clean ∷ rest) h.1, flag_again clean rest) refl
command_again (commands.Packet name packet) rest h =
    ap (λ (z : List ℕ). packet_at z) (append_assoc (name_bytes name) (spelling packet) rest)
    ∙ rw (name_again name (spelling packet ++ rest) h.0, packet_again packet rest h.1 h.2) refl
command_again (commands.Lost name) rest h = rw (name_again name rest h) refl
command_again (commands.Start ballot) rest h = rw (wide_again ballot rest h) refl
command_again (commands.Expel client) rest h = rw (client_again client rest h) refl
