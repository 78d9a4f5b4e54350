-- A command that was read is in its range, and its bytes are those that were read.
use Rattle.std.proofs.Common.{◌≡◌, ℕ, ◌<◌, ◌^◌, true, eqb, List, [], ◌∷◌, ◌++◌, length, drop, refl, sym, subst, arith}
use Rattle.std.specs.Prelude.{IfOk}
use Rattle.std.specs.Int.{w64, from_be_bytes}
use Rattle.std.proofs.lemmas.Bool.{eqb-true}
use Rattle.std.proofs.lemmas.List.{drop_at}
use Rattle.std.proofs.lemmas.Nat.{be_bytes_8}
use Rattle.packet_base.specs.Spelling.{text}
use Rattle.packet_base.specs.Readers.{AreBytes, byte_at, front_at, text_at, is_text}
use Rattle.packet_base.specs.Lists.{ItemAt}
use Rattle.packet_base.specs.ClientId.{is_client, has_client_length}
use Rattle.packet_base.proofs.Steps.{then_if, check_if, cond_if}
use Rattle.packet_base.proofs.FieldsFound.{AreBytes-drop, Splits, Splits-then, byte_found, front_found, text_found}
use Rattle.packet_base.proofs.Clients.{client_checked}
use Rattle.packet.specs.declared.packet.Packet.{Packet}
use Rattle.packet.specs.Spelling.{spelling, IsPacket}
use Rattle.packet.specs.Verdict.{verdict}
use Rattle.packet.proofs.PacketReads.{Begins, verdict_found}
use Rattle.packet.proofs.OneSpelling.{spelling_is}
use Rattle.session_base.specs.Form.{flag_at}
use Rattle.session_base.proofs.Found.{weaker}
use Rattle.session_base.proofs.Spelled.{flag_byte, flag_spelled}
use Rattle.broker_spec.specs.Connection.{ConnectionName, is_connection_name}
use Rattle.broker_spec.specs.declared.command.Command.{Command}
use Rattle.links.specs.message_form.Numbers.{wide_number, wide_number_at}
use Rattle.links.specs.message_form.Commands.{name_bytes, command_bytes, IsCommand}
use Rattle.links.specs.message_form.CommandReading.{name_at, client_at, connect_at, packet_at, lost_at, start_at, expel_at, command_of_kind, command_at}

-- what is read meets this, and its bytes are before the rest
abbrev pub Found : {A : Type 0} → (A → List ℕ) → (A → Type 0) → List ℕ → A × List ℕ → Type 0
Found bytes P given read = Splits given (bytes read.0) read.1 × P read.0

-- whatever is read is found so
abbrev pub IsFoundSo : {A : Type 0} → (A → List ℕ) → (A → Type 0) → ItemAt A → Type 0
IsFoundSo bytes P item = (given : List ℕ) → AreBytes given → IfOk (item given) (Found bytes P given)

pub wide_found : IsFoundSo wide_number (λ n. n < 2 ^ 64) wide_number_at
unfolding wide_number_at
wide_found given fits =
    let Q : ℕ × List ℕ → Type 0 = Found wide_number (λ n. n < 2 ^ 64) given in
    then_if (front_at 8 given) _ (λ x. Splits given x.0 x.1 × (length x.0 ≡ 8) × AreBytes x.0) Q (front_found 8 given fits) (λ x h.
    let low : from_be_bytes w64 x.0 < 2 ^ 64 = omega (arith, h.2 0, h.2 1, h.2 2, h.2 3, h.2 4, h.2 5, h.2 6, h.2 7) in
    (subst (λ (front : List ℕ). Splits given front x.1) (sym (be_bytes_8 x.0 _ h.1 h.2 refl)) h.0, low))

name_found : IsFoundSo name_bytes (λ name. is_connection_name name ≡ true) name_at
unfolding name_at
name_found given fits =
    let Q : ConnectionName × List ℕ → Type 0 = Found name_bytes (λ name. is_connection_name name ≡ true) given in
    then_if (wide_number_at given) _ (Found wide_number (λ n. n < 2 ^ 64) given) Q (wide_found given fits) (λ ballot a.
    then_if (wide_number_at ballot.1) _ (Found wide_number (λ n. n < 2 ^ 64) ballot.1) Q (wide_found ballot.1 a.0.left) (λ count b.
    check_if (is_connection_name (record { ballot = ballot.0; count = count.0 })) _ _ Q (λ test.
    (Splits-then given (wide_number ballot.0) ballot.1 (wide_number count.0) count.1 a.0 b.0, test))))

client_found : IsFoundSo text (λ client. is_client client ≡ true) client_at
unfolding client_at
client_found given fits =
    let Q : List ℕ × List ℕ → Type 0 = Found text (λ client. is_client client ≡ true) given in
    then_if (text_at given) _ (λ x. Splits given (text x.0) x.1 × (length x.0 < 2 ^ 16) × (is_text x.0 ≡ true)) Q (text_found given fits) (λ client h.
    check_if (has_client_length client.0) _ _ Q (λ test. (h.0, client_checked client.0 h.2 test)))

-- a packet is spelled by the bytes that it takes
packet_found : IsFoundSo spelling IsPacket verdict
packet_found given fits = weaker (verdict given) _ _ (verdict_found given fits) (λ x h. spelled x.0 x.1 h)
  where
    after : (front rest : List ℕ) → given ≡ front ++ rest → AreBytes rest
    after front rest e = subst AreBytes (drop_at front rest (length front) refl) (subst (λ (z : List ℕ). AreBytes (drop (length front) z)) e (AreBytes-drop (length front) given fits))

    spelled : (packet : Packet) (rest : List ℕ) → Begins given packet rest → Found spelling IsPacket given (packet, rest)
    spelled packet rest h = (record { parts = subst (λ (z : List ℕ). given ≡ z ++ rest) ((spelling_is packet h.whole).1 h.front h.spelled) h.parts; left = after h.front rest h.parts }, h.whole)

-- the rest of a command after its kind
abbrev AfterKind : ℕ → ItemAt Command → Type 0
AfterKind kind item = (given : List ℕ) (rest : List ℕ) → Splits given (kind ∷ []) rest → IfOk (item rest) (Found command_bytes IsCommand given)

connect_found : AfterKind 1 connect_at
unfolding connect_at
connect_found given rest kind =
    let Q : Command × List ℕ → Type 0 = Found command_bytes IsCommand given in
    then_if (name_at rest) _ (Found name_bytes (λ name. is_connection_name name ≡ true) rest) Q (name_found rest kind.left) (λ name a.
    then_if (client_at name.1) _ (Found text (λ client. is_client client ≡ true) name.1) Q (client_found name.1 a.0.left) (λ client b.
    then_if (flag_at client.1) _ (λ x. Splits client.1 (flag_byte x.0) x.1) Q (flag_spelled client.1 b.0.left) (λ clean c.
    let tail = Splits-then name.1 (text client.0) client.1 (flag_byte clean.0) clean.1 b.0 c in
    let body = Splits-then rest (name_bytes name.0) name.1 (text client.0 ++ flag_byte clean.0) clean.1 a.0 tail in
    (Splits-then given (1 ∷ []) rest (name_bytes name.0 ++ (text client.0 ++ flag_byte clean.0)) clean.1 kind body, (a.1, b.1)))))

packet_command_found : AfterKind 2 packet_at
unfolding packet_at
packet_command_found given rest kind =
    let Q : Command × List ℕ → Type 0 = Found command_bytes IsCommand given in
    then_if (name_at rest) _ (Found name_bytes (λ name. is_connection_name name ≡ true) rest) Q (name_found rest kind.left) (λ name a.
    then_if (verdict name.1) _ (Found spelling IsPacket name.1) Q (packet_found name.1 a.0.left) (λ packet b.
    let body = Splits-then rest (name_bytes name.0) name.1 (spelling packet.0) packet.1 a.0 b.0 in
    (Splits-then given (2 ∷ []) rest (name_bytes name.0 ++ spelling packet.0) packet.1 kind body, (a.1, b.1.0, (b.1.1, b.1.2)))))

lost_found : AfterKind 3 lost_at
unfolding lost_at
lost_found given rest kind =
    let Q : Command × List ℕ → Type 0 = Found command_bytes IsCommand given in
    then_if (name_at rest) _ (Found name_bytes (λ name. is_connection_name name ≡ true) rest) Q (name_found rest kind.left) (λ name a.
    (Splits-then given (3 ∷ []) rest (name_bytes name.0) name.1 kind a.0, a.1))

start_found : AfterKind 4 start_at
unfolding start_at
start_found given rest kind =
    let Q : Command × List ℕ → Type 0 = Found command_bytes IsCommand given in
    then_if (wide_number_at rest) _ (Found wide_number (λ n. n < 2 ^ 64) rest) Q (wide_found rest kind.left) (λ ballot a.
    (Splits-then given (4 ∷ []) rest (wide_number ballot.0) ballot.1 kind a.0, a.1))

expel_found : AfterKind 5 expel_at
unfolding expel_at
expel_found given rest kind =
    let Q : Command × List ℕ → Type 0 = Found command_bytes IsCommand given in
    then_if (client_at rest) _ (Found text (λ client. is_client client ≡ true) rest) Q (client_found rest kind.left) (λ client a.
    (Splits-then given (5 ∷ []) rest (text client.0) client.1 kind a.0, a.1))

-- the kind that was read is this one
is_kind : (given : List ℕ) (kind number : ℕ) (rest : List ℕ) → Splits given (kind ∷ []) rest → eqb kind number ≡ true → Splits given (number ∷ []) rest
is_kind given kind number rest h e = subst (λ (n : ℕ). Splits given (n ∷ []) rest) (eqb-true kind number e) h

by_kind : (given : List ℕ) (kind : ℕ) (rest : List ℕ) → Splits given (kind ∷ []) rest → IfOk (command_of_kind kind rest) (Found command_bytes IsCommand given)
by_kind given kind rest h =
    let Q : Command × List ℕ → Type 0 = Found command_bytes IsCommand given in
    cond_if (eqb kind 1) _ _ Q (λ e. connect_found given rest (is_kind given kind 1 rest h e)) (λ _.
    cond_if (eqb kind 2) _ _ Q (λ e. packet_command_found given rest (is_kind given kind 2 rest h e)) (λ _.
    cond_if (eqb kind 3) _ _ Q (λ e. lost_found given rest (is_kind given kind 3 rest h e)) (λ _.
    cond_if (eqb kind 4) _ _ Q (λ e. start_found given rest (is_kind given kind 4 rest h e)) (λ _.
    cond_if (eqb kind 5) _ _ Q (λ e. expel_found given rest (is_kind given kind 5 rest h e)) (λ _. tt)))))

pub command_found : IsFoundSo command_bytes IsCommand command_at
unfolding command_at
command_found given fits =
    let Q : Command × List ℕ → Type 0 = Found command_bytes IsCommand given in
    then_if (byte_at given) _ (λ x. Splits given (x.0 ∷ []) x.1 × (x.0 < 256)) Q (byte_found given fits) (λ kind h. by_kind given kind.0 kind.1 h.0)
