-- A client's session and a retained publication that were written are read again, whatever follows them.
use Rattle.std.proofs.Common.{◌≡◌, ℕ, ◌≤◌, ◌<◌, ◌^◌, Bool, true, false, not, ◌&&◌, ◌||◌, nat_lt, nat_le, List, ◌∷◌, ◌++◌, length, Option, Some, None, Ok, refl, ap, ◌∙◌, arith, append_assoc}
use Rattle.std.specs.Prelude.{is_some}
use Rattle.std.proofs.lemmas.Bool.{leb-true, le-leb, lt-ltb}
use Rattle.std.proofs.lemmas.Nat.{from_be_bytes-to_be_bytes_8}
use Rattle.packet_base.specs.Spelling.{text, bit}
use Rattle.packet_base.proofs.FieldsAgain.{front_again, text_again, topic_again}
use Rattle.packet_base.specs.ClientId.{is_client}
use Rattle.packet_base.specs.QoS.{qos_number}
use Rattle.packet_base.proofs.Clients.{client_parts, client_short}
use Rattle.retained.specs.declared.retained_publication.RetainedPublication.{RetainedPublication}
use Rattle.session_base.specs.Form.{long_number, flag_at, state_bytes}
use Rattle.session_base.specs.FormTheorems.{HasForm}
use Rattle.session_base.proofs.Counted.{IsReadAgain}
use Rattle.session_base.proofs.Fields.{flag_again, qos_again, long_again, size_of}
use Rattle.session_base.proofs.FormAgain.{frozen_is_read}
use Rattle.broker_spec.specs.Commands.{usual_limits}
use Rattle.broker_spec.specs.Connection.{ConnectionName, is_connection_name}
use Rattle.broker_spec.specs.Place.{Client}
use Rattle.broker_base.specs.ClientSession.{ClientSession}
use Rattle.broker_base.specs.StateTheorems.{IsSoundSession, FitsWindow}
use Rattle.broker_base.specs.form.InRange.{IsNamed, IsRetained, IsSession, as_publication}
use Rattle.broker_base.specs.form.Form.{wide_number_at, name_at, connection_at, client_at, row_at, is_retainable, retained_at}
use Rattle.broker_base.specs.form.Bytes.{wide_number, connection_bytes, row_bytes, retained_bytes}

wide_again : (n : ℕ) (rest : List ℕ) → n < 2 ^ 64 → wide_number_at (wide_number n ++ rest) ≡ Ok (n, rest)
unfolding wide_number_at
wide_again n rest small = rw (front_again (wide_number n) rest 8 refl, from_be_bytes-to_be_bytes_8 n small) refl

both : (a b : Bool) → (a && b) ≡ true → (a ≡ true) × (b ≡ true)
both true b e = (refl, e)
both false b e = absurd (cc)

small_name : (x : ConnectionName) → is_connection_name x ≡ true → (x.ballot < 2 ^ 64) × (x.count < 2 ^ 64)
small_name x h =
    let parts = both (nat_lt 0 x.ballot && nat_le x.ballot (2 ^ 32)) (nat_lt 0 x.count && nat_le x.count (2 ^ 40)) h in
    let ballot : x.ballot ≤ 2 ^ 32 = leb-true _ _ (both (nat_lt 0 x.ballot) (nat_le x.ballot (2 ^ 32)) parts.0).1 in
    let count : x.count ≤ 2 ^ 40 = leb-true _ _ (both (nat_lt 0 x.count) (nat_le x.count (2 ^ 40)) parts.1).1 in
    (omega (arith, ballot), omega (arith, count))

name_again : (x : ConnectionName) (rest : List ℕ) → is_connection_name x ≡ true →
    name_at ((wide_number x.ballot ++ wide_number x.count) ++ rest) ≡ Ok (Some x, rest)
unfolding name_at
name_again x rest h =
    rw (append_assoc (wide_number x.ballot) (wide_number x.count) rest, wide_again x.ballot (wide_number x.count ++ rest) (small_name x h).0, wide_again x.count rest (small_name x h).1, h) refl

connection_again : (connection : Option ConnectionName) (rest : List ℕ) → IsNamed connection → connection_at (connection_bytes connection ++ rest) ≡ Ok (connection, rest)
unfolding connection_at flag_at
connection_again None rest h = refl
connection_again (Some x) rest h = name_again x rest h

client_again : (c : Client) (rest : List ℕ) → is_client c ≡ true → client_at (text c ++ rest) ≡ Ok (c, rest)
unfolding client_at
client_again c rest h = rw (text_again c rest (client_short c h) (client_parts c h).0, h) refl

-- ---- a client's session

served : (clean some : Bool) → (clean ≡ true → some ≡ true) → (not clean || some) ≡ true
served true some h = h refl
served false some h = refl

-- a sound session in its range has a form
pub has_form : (c : Client) (kept : ClientSession) → IsSoundSession kept → IsSession usual_limits c kept → HasForm kept.state
has_form c kept sound h = record {
  filters_apart = sound.filters;
  filters = h.filters;
  few_filters = h.few_filters;
  rising = sound.received;
  received = h.received;
  distinct = sound.identifiers;
  released_first = sound.released_first;
  queue = h.queue;
}

regrouped : (a b c rest : List ℕ) (flag : ℕ) → (a ++ (flag ∷ (b ++ c))) ++ rest ≡ a ++ (flag ∷ (b ++ (c ++ rest)))
regrouped a b c rest flag = append_assoc a (flag ∷ (b ++ c)) rest ∙ ap (λ (z : List ℕ). a ++ (flag ∷ z)) (append_assoc b c rest)

pub row_again : (window : ℕ) → window ≤ 4096 → (row : Client × ClientSession) → IsSoundSession row.1 → IsSession usual_limits row.0 row.1 → FitsWindow window row.1 →
    IsReadAgain row_bytes (row_at window) row
unfolding row_at
row_again window small row sound h fits rest =
    ap (λ (z : List ℕ). row_at window z) (regrouped (text row.0) (connection_bytes row.1.connection) (state_bytes row.1.state) rest (bit row.1.clean))
    ∙ rw (
      client_again row.0 (bit row.1.clean ∷ (connection_bytes row.1.connection ++ (state_bytes row.1.state ++ rest))) h.client,
      flag_again row.1.clean (connection_bytes row.1.connection ++ (state_bytes row.1.state ++ rest)),
      connection_again row.1.connection (state_bytes row.1.state ++ rest) h.connection,
      served row.1.clean (is_some row.1.connection) sound.served,
      frozen_is_read window small row.1.state rest (has_form row.0 row.1 sound h) fits,
    ) refl

-- ---- a retained publication

retainable_again : (row : List ℕ × RetainedPublication) → IsRetained row → is_retainable row ≡ true
retainable_again row h = rw (lt-ltb 0 (length row.1.payload) (let some = h.0 in omega (arith, some)), le-leb _ _ (size_of (as_publication row) h.1)) refl

topic_regrouped : (a b c rest : List ℕ) → (a ++ (b ++ c)) ++ rest ≡ a ++ (b ++ (c ++ rest))
topic_regrouped a b c rest = append_assoc a (b ++ c) rest ∙ ap (λ (z : List ℕ). a ++ z) (append_assoc b c rest)

pub topic_row_again : (row : List ℕ × RetainedPublication) → IsRetained row → IsReadAgain retained_bytes retained_at row
unfolding retained_at
topic_row_again row h rest =
    let size = size_of (as_publication row) h.1 in
    ap (λ (z : List ℕ). retained_at (qos_number row.1.qos ∷ z)) (topic_regrouped (text row.0) (long_number (length row.1.payload)) row.1.payload rest)
    ∙ rw (
      qos_again row.1.qos (text row.0 ++ (long_number (length row.1.payload) ++ (row.1.payload ++ rest))),
      topic_again row.0 (long_number (length row.1.payload) ++ (row.1.payload ++ rest)) h.1.0.0,
      long_again (length row.1.payload) (row.1.payload ++ rest) (omega (arith, size)),
      front_again row.1.payload rest (length row.1.payload) refl,
      retainable_again row h,
    ) refl
