-- ParcelsFound.antt: a parcel that was read is in its range, and its bytes are those that were read.
use Rattle.std.proofs.Common.{◌≡◌, ℕ, ◌<◌, ◌^◌, true, eqb, List, [], ◌∷◌, ◌++◌, length, Result, Ok, Err, sym, subst}
use Rattle.std.specs.Prelude.{IfOk}
use Rattle.std.proofs.lemmas.Bool.{eqb-true}
use Rattle.std.proofs.lemmas.Result.{IfOk-at_ok}
use Rattle.topics.specs.declared.malformed.MalformedKind.{MalformedKind}
use Rattle.packet_base.specs.declared.stop.Stop.{Stop}
use Rattle.packet_base.specs.Spelling.{text}
use Rattle.packet_base.specs.ClientId.{is_client, has_client_length}
use Rattle.packet_base.specs.Readers.{AreBytes, byte_at, text_at, ended, is_text}
use Rattle.packet_base.proofs.Steps.{then_if, seq_if, check_if, cond_if}
use Rattle.packet_base.proofs.FieldsFound.{Splits, Splits-then, Splits-all, byte_found, text_found, ended_found}
use Rattle.packet_base.proofs.Clients.{client_checked}
use Rattle.session_base.specs.Form.{flag_at}
use Rattle.session_base.proofs.Spelled.{flag_byte, flag_spelled}
use Rattle.ballot_base.specs.declared.status.Role.{Role}
use Rattle.ballot_base.specs.declared.status.Status.{Status}
use Rattle.ballot_base.specs.declared.message.Message.{Message}
use Rattle.broker_spec.specs.declared.command.Command.{Command}
use Rattle.links.specs.message_form.Numbers.{wide_number, wide_number_at, IsWide}
use Rattle.links.specs.message_form.CommandReading.{client_at}
use Rattle.links.specs.message_form.Messages.{written, IsMessage}
use Rattle.links.specs.message_form.Outcome.{faulted, message_of, Yields}
use Rattle.links.proofs.of_message_form.CommandsFound.{Found, IsFoundSo, wide_found}
use Rattle.links.proofs.of_message_form.MessagesFound.{read_is_written}
use Rattle.links.specs.declared.parcel.Parcel.{Parcel}
use Rattle.links.specs.Parcels.{role_number, status_bytes, parcel_bytes, IsParcel}
use Rattle.links.specs.ParcelReading.{role_of, role_at, status_at, welcome_at, report_at, expel_at, notice_of_kind, whole_notice, is_notice, carried, parcel_of, IsReadFrom}
use Rattle.links.specs.ParcelTheorems.{ReadParcelsAreWritten}

client_found : IsFoundSo text (λ client. is_client client ≡ true) client_at
unfolding client_at
client_found given fits =
    let Q : List ℕ × List ℕ → Type 0 = Found text (λ client. is_client client ≡ true) given in
    then_if (text_at given) _ (λ x. Splits given (text x.0) x.1 × (length x.0 < 2 ^ 16) × (is_text x.0 ≡ true)) Q (text_found given fits) (λ client h.
    check_if (has_client_length client.0) _ _ Q (λ test. (h.0, client_checked client.0 h.2 test)))

role_of_found : (number : ℕ) → IfOk (role_of number) (λ role. role_number role ≡ number)
role_of_found number =
    let Q : Role → Type 0 = λ role. role_number role ≡ number in
    cond_if (eqb number 0) _ _ Q (λ e. sym (eqb-true number 0 e)) (λ _.
    cond_if (eqb number 1) _ _ Q (λ e. sym (eqb-true number 1 e)) (λ _.
    cond_if (eqb number 2) _ _ Q (λ e. sym (eqb-true number 2 e)) (λ _.
    cond_if (eqb number 3) _ _ Q (λ e. sym (eqb-true number 3 e)) (λ _. tt))))

-- a role as its byte
abbrev role_byte : Role → List ℕ
role_byte role = role_number role ∷ []

role_found : IsFoundSo role_byte (λ role. Unit {0}) role_at
unfolding role_at
role_found given fits =
    let Q : Role × List ℕ → Type 0 = Found role_byte (λ role. Unit {0}) given in
    then_if (byte_at given) _ (λ x. Splits given (x.0 ∷ []) x.1 × (x.0 < 256)) Q (byte_found given fits) (λ number a.
    then_if (role_of number.0) _ (λ role. role_number role ≡ number.0) Q (role_of_found number.0) (λ role e.
    (subst (λ (n : ℕ). Splits given (n ∷ []) number.1) (sym e) a.0, tt)))

-- the numbers of a status are in their range
abbrev AreWide : Status → Type 0
AreWide status = IsWide status.ballot × IsWide status.held × IsWide status.committed

status_found : IsFoundSo status_bytes AreWide status_at
unfolding status_at
status_found given fits =
    let Q : Status × List ℕ → Type 0 = Found status_bytes AreWide given in
    then_if (wide_number_at given) _ (Found wide_number (λ n. n < 2 ^ 64) given) Q (wide_found given fits) (λ ballot a.
    then_if (wide_number_at ballot.1) _ (Found wide_number (λ n. n < 2 ^ 64) ballot.1) Q (wide_found ballot.1 a.0.left) (λ held b.
    then_if (wide_number_at held.1) _ (Found wide_number (λ n. n < 2 ^ 64) held.1) Q (wide_found held.1 b.0.left) (λ committed c.
    then_if (role_at committed.1) _ (Found role_byte (λ role. Unit {0}) committed.1) Q (role_found committed.1 c.0.left) (λ role d.
    then_if (flag_at role.1) _ (λ x. Splits role.1 (flag_byte x.0) x.1) Q (flag_spelled role.1 d.0.left) (λ stopped e.
    let end = Splits-then committed.1 (role_byte role.0) role.1 (flag_byte stopped.0) stopped.1 d.0 e in
    let three = Splits-then held.1 (wide_number committed.0) committed.1 (role_byte role.0 ++ flag_byte stopped.0) stopped.1 c.0 end in
    let two = Splits-then ballot.1 (wide_number held.0) held.1 (wide_number committed.0 ++ (role_byte role.0 ++ flag_byte stopped.0)) stopped.1 b.0 three in
    let all = Splits-then given (wide_number ballot.0) ballot.1 (wide_number held.0 ++ (wide_number committed.0 ++ (role_byte role.0 ++ flag_byte stopped.0))) stopped.1 a.0 two in
    (all, (a.1, b.1, c.1)))))))

-- what follows a kind is such a notice
abbrev IsAfter : ℕ → (List ℕ → Result (Parcel × List ℕ) Stop) → Type 0
IsAfter kind item = (given rest : List ℕ) → Splits given (kind ∷ []) rest → IfOk (item rest) (Found parcel_bytes IsParcel given)

welcome_found : IsAfter 128 welcome_at
unfolding welcome_at
welcome_found given rest kind =
    let Q : Parcel × List ℕ → Type 0 = Found parcel_bytes IsParcel given in
    then_if (byte_at rest) _ (λ x. Splits rest (x.0 ∷ []) x.1 × (x.0 < 256)) Q (byte_found rest kind.left) (λ number a.
    (Splits-then given (128 ∷ []) rest (number.0 ∷ []) number.1 kind a.0, a.1))

report_found : IsAfter 129 report_at
unfolding report_at
report_found given rest kind =
    let Q : Parcel × List ℕ → Type 0 = Found parcel_bytes IsParcel given in
    then_if (status_at rest) _ (Found status_bytes AreWide rest) Q (status_found rest kind.left) (λ status a.
    (Splits-then given (129 ∷ []) rest (status_bytes status.0) status.1 kind a.0, a.1))

expel_found : IsAfter 130 expel_at
unfolding expel_at
expel_found given rest kind =
    let Q : Parcel × List ℕ → Type 0 = Found parcel_bytes IsParcel given in
    then_if (client_at rest) _ (Found text (λ client. is_client client ≡ true) rest) Q (client_found rest kind.left) (λ client a.
    (Splits-then given (130 ∷ []) rest (text client.0) client.1 kind a.0, a.1))

-- the kind that was read is this one
is_kind : (given : List ℕ) (kind number : ℕ) (rest : List ℕ) → Splits given (kind ∷ []) rest → eqb kind number ≡ true → Splits given (number ∷ []) rest
is_kind given kind number rest h e = subst (λ (n : ℕ). Splits given (n ∷ []) rest) (eqb-true kind number e) h

by_kind : (given : List ℕ) (kind : ℕ) (rest : List ℕ) → Splits given (kind ∷ []) rest → IfOk (notice_of_kind kind rest) (Found parcel_bytes IsParcel given)
by_kind given kind rest h =
    let Q : Parcel × List ℕ → Type 0 = Found parcel_bytes IsParcel given in
    cond_if (eqb kind 128) _ _ Q (λ e. welcome_found given rest (is_kind given kind 128 rest h e)) (λ _.
    cond_if (eqb kind 129) _ _ Q (λ e. report_found given rest (is_kind given kind 129 rest h e)) (λ _.
    cond_if (eqb kind 130) _ _ Q (λ e. expel_found given rest (is_kind given kind 130 rest h e)) (λ _.
    cond_if (eqb kind 131) _ _ Q (λ e. (is_kind given kind 131 rest h e, tt)) (λ _. tt))))

whole_found : (given : List ℕ) → AreBytes given → IfOk (whole_notice given) (IsReadFrom given)
unfolding whole_notice
whole_found given fits =
    let Q : Parcel → Type 0 = IsReadFrom given in
    then_if (byte_at given) _ (λ x. Splits given (x.0 ∷ []) x.1 × (x.0 < 256)) Q (byte_found given fits) (λ kind a.
    then_if (notice_of_kind kind.0 kind.1) _ (Found parcel_bytes IsParcel given) Q (by_kind given kind.0 kind.1 a.0) (λ notice h.
    seq_if (ended notice.1) _ (notice.1 ≡ []) Q (ended_found notice.1) (λ none.
    (h.1, Splits-all given (parcel_bytes notice.0) (subst (λ (z : List ℕ). Splits given (parcel_bytes notice.0) z) none h.0)))))

-- a fault says as little as any other
faulted_ok : (r : Result Parcel Stop) (P : Parcel → Type 0) → IfOk r P → IfOk (faulted r) P
faulted_ok (Ok x) P h = h
faulted_ok (Err stop) P h = tt

carried_ok : (bytes : List ℕ) (r : Result (Message Command) MalformedKind) → IfOk r (λ message. IsMessage message × (bytes ≡ written message)) → IfOk (carried r) (IsReadFrom bytes)
carried_ok bytes (Ok message) h = h
carried_ok bytes (Err kind) h = tt

pub read_parcels_are_written : ReadParcelsAreWritten
read_parcels_are_written bytes fits =
    cond_if (is_notice bytes) _ _ (IsReadFrom bytes) (λ _. faulted_ok (whole_notice bytes) (IsReadFrom bytes) (whole_found bytes fits))
    (λ _. carried_ok bytes (message_of bytes) (read_is_written bytes fits))

-- what a call returns is found so
pub is_found : (bytes : List ℕ) (result : Result Parcel MalformedKind) → AreBytes bytes → Yields result (parcel_of bytes) → IfOk result (IsReadFrom bytes)
is_found bytes (Ok parcel) fits e = IfOk-at_ok (IsReadFrom bytes) e (read_parcels_are_written bytes fits)
is_found bytes (Err kind) fits e = tt
