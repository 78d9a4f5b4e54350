-- The two rows of the shape that the publisher's side needs in addition to the others are kept by
-- each event: no more is handled than was put, and each PUBLISH of QoS 2 that is written has its
-- number.
use Rattle.std.proofs.Common.{◌≡◌, ◌≤◌, ◌+◌, ℕ, zero, suc, Bool, true, false, if◌then◌else◌, List, [], ◌∷◌, length, Some, refl, ap, sym, ◌∙◌, subst, arith}
use Rattle.std.specs.Prelude.{slice_get}
use Rattle.std.proofs.lemmas.List.{length-append}
use Rattle.packet.specs.declared.packet.Packet.TheVariants as packets
use Rattle.broker_spec.specs.Connection.{ConnectionName}
use Rattle.broker_spec.specs.Place.{Place, Past, Limits}
use Rattle.broker_spec.specs.AnswersInOrder.{answers_at}
use Rattle.lists.specs.Lists.{Each}
use Rattle.lists.proofs.OfEach.{each_append, each_then}
use Rattle.exactly_once.specs.Sends.{sends_to, put_to}
use Rattle.client_base.specs.Keeper.{Written, ids_in_use, next_own_number}
use Rattle.exactly_once.specs.Sides.{ClientConnection}
use Rattle.client_base.specs.Written.{plain, written_publish, writes}
use Rattle.client_base.specs.Handled.{packet_handled}
use Rattle.session_base.specs.Identifiers.{least_free}
use Rattle.exactly_once.specs.Story.{Story, StoryStep}
use Rattle.exactly_once.specs.StoryCommands.{with_one_counted}
use Rattle.client_base.specs.Written.{writes_first}
use Rattle.client_base.specs.Called.{written_for}
use Rattle.exactly_once.specs.Story.StoryStep.{takes, others_take, receives, opens_anew, loses, disconnects, publishes_one, subscribes, unsubscribes}
use Rattle.exactly_once.specs.Inside.ConnectionShape.{is_two_unnumbered}
use Rattle.exactly_once.proofs.publishing.AtPlaces.{put_more}
use Rattle.exactly_once.proofs.publishing.Grown.{IsLater, Grown, handled_grows}

-- the rows of one connection
pub record RowsOf (limits : Limits) (past : Past) (κ : ClientConnection) : Type 0 where
  pub handled_within : κ.handled ≤ length (put_to limits past κ.name)
  pub numbers_known : Each (λ (w : Written). is_two_unnumbered w.packet w.number ≡ false) κ.written

abbrev pub AreRows : Limits → Story → Type 0
AreRows limits s = Each (RowsOf limits s.past) s.connections

-- ---- a place

-- more is put
rows_placed : (limits : Limits) (place : Place) (past : Past) (κ : ClientConnection) → RowsOf limits past κ → RowsOf limits (place ∷ past) κ
rows_placed limits place past κ rows =
    let put = put_to limits past κ.name in
    let more = sends_to κ.name (answers_at limits place past) in
    let longer : length (put_to limits (place ∷ past) κ.name) ≡ length put + length more = ap length (put_more limits place past κ.name) ∙ length-append put more in
    let within = rows.handled_within in
    record { handled_within = omega (arith, longer, within); numbers_known = rows.numbers_known }

-- one more is taken
rows_counted : (limits : Limits) (past : Past) (i : ℕ) (connections : List ClientConnection) → Each (RowsOf limits past) connections → Each (RowsOf limits past) (with_one_counted i connections)
rows_counted limits past i [] rows = tt
rows_counted limits past zero (κ ∷ connections) rows = (record { handled_within = rows.0.handled_within; numbers_known = rows.0.numbers_known }, rows.1)
rows_counted limits past (suc i) (κ ∷ connections) rows = (rows.0, rows_counted limits past i connections rows.1)

-- ---- the client

-- more is written
rows_grown : (limits : Limits) (past : Past) (κ after : ClientConnection) (n : ℕ) → Grown κ after n → n ≤ length (put_to limits past κ.name) → RowsOf limits past κ → RowsOf limits past after
rows_grown limits past κ after n grown within rows =
    record {
      handled_within = subst (λ (m : ℕ). m ≤ length (put_to limits past after.name)) (sym grown.handled) (subst (λ (x : ConnectionName). n ≤ length (put_to limits past x)) (sym grown.name) within);
      numbers_known = subst (Each (λ (w : Written). is_two_unnumbered w.packet w.number ≡ false)) (sym grown.written)
          (each_append (λ (w : Written). is_two_unnumbered w.packet w.number ≡ false) κ.written grown.more rows.numbers_known
          (each_then IsLater (λ (w : Written). is_two_unnumbered w.packet w.number ≡ false) grown.more (λ w later. later.0) grown.later));
    }

rows_written : (limits : Limits) (past : Past) (connections : List ClientConnection) (more : List Written) → Each IsLater more → Each (RowsOf limits past) connections
    → Each (RowsOf limits past) (writes_first more connections)
rows_written limits past [] more later rows = tt
rows_written limits past (κ ∷ connections) more later rows =
    (rows_grown limits past κ (writes more κ) κ.handled (record { name = refl; taken = refl; handled = refl; more = more; written = refl; later = later }) rows.0.handled_within rows.0, rows.1)

-- one that is in a list is within its length
stands_within : {A : Type 0} (n : ℕ) (xs : List A) (x : A) → slice_get xs n ≡ Some x → suc n ≤ length xs
stands_within n [] x e = cc
stands_within zero (y ∷ xs) x e = omega arith
stands_within (suc n) (y ∷ xs) x e = let within = stands_within n xs x e in omega (arith, within)

pub events_keep_rows : (limits : Limits) (s t : Story) → AreRows limits s → StoryStep limits s t → AreRows limits t
events_keep_rows limits s t rows (takes i κ w stands next) = rows_counted limits t.past i s.connections (each_then (RowsOf limits s.past) (RowsOf limits t.past) s.connections (λ μ r. rows_placed limits _ s.past μ r) rows)
events_keep_rows limits s t rows (others_take command other none) = each_then (RowsOf limits s.past) (RowsOf limits t.past) s.connections (λ μ r. rows_placed limits _ s.past μ r) rows
events_keep_rows limits s t rows (receives κ others packet are opened next) =
    let mine = subst (Each (RowsOf limits s.past)) are rows in (
      rows_grown limits s.past κ (packet_handled packet (record { keeper = s.keeper; connection = κ })).connection (suc κ.handled) (handled_grows κ s.keeper packet)
          (stands_within κ.handled (put_to limits s.past κ.name) packet next) mine.0,
      mine.1,
    )
events_keep_rows limits s t rows (opens_anew x fresh none uncounted) = (record { handled_within = omega arith; numbers_known = (refl, tt) }, rows)
events_keep_rows limits s t rows loses = rows
events_keep_rows limits s t rows disconnects = by s.keeper.is_online
  where
    by : (b : Bool) → Each (RowsOf limits s.past) (if b then writes_first (plain packets.Disconnect ∷ []) s.connections else s.connections)
    by true = rows_written limits s.past s.connections (plain packets.Disconnect ∷ []) ((refl, refl), tt) rows
    by false = rows
events_keep_rows limits s t rows (publishes_one p needs) = rows_written limits s.past s.connections (written_for p s.keeper) (by s.keeper.is_online) rows
  where
    by : (b : Bool) → Each IsLater (if b then written_publish false (next_own_number s.keeper) (least_free (ids_in_use s.keeper)) p ∷ [] else [])
    by true = ((refl, refl), tt)
    by false = tt
events_keep_rows limits s t rows (subscribes p on id) = rows_written limits s.past s.connections (plain (packets.Subscribe p) ∷ []) ((refl, refl), tt) rows
events_keep_rows limits s t rows (unsubscribes p on id) = rows_written limits s.past s.connections (plain (packets.Unsubscribe p) ∷ []) ((refl, refl), tt) rows
