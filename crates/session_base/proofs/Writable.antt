-- What is in a session that has a form can be written: the lengths fit their bytes.
use Rattle.std.proofs.Common.{◌≤◌, length, arith}
use Rattle.std.specs.List.{AllByRecursion}
use Rattle.session_base.specs.declared.publication.Publication.{Publication}
use Rattle.session_base.specs.declared.awaits.Awaits.TheVariants as waits_for
use Rattle.session_base.specs.Queue.{Flight}
use Rattle.session_base.specs.Session.{SessionState}
use Rattle.session_base.specs.InRange.{CanBeSent, MayWait, IsInFlight}
use Rattle.session_base.specs.Form.{HasLength, IsWritable}
use Rattle.session_base.specs.FormTheorems.{HasForm}
use Rattle.session_base.proofs.Fields.{size_of}
use Rattle.session_base.proofs.FormAgain.{each, few_ids}

pub has_length : (p : Publication) → CanBeSent p → HasLength p
has_length p h = let size = size_of p h in omega (arith, size)

is_writable : (flight : Flight) → IsInFlight flight → IsWritable flight.1
is_writable (id, waits_for.Puback p) h = has_length p h.2
is_writable (id, waits_for.Pubrec p) h = has_length p h.2
is_writable (id, waits_for.Pubcomp) h = tt

pub received_fit : (s : SessionState) → HasForm s → length s.received ≤ 65535
received_fit s h = few_ids s.received h.rising h.received

pub flights_are_writable : (s : SessionState) → HasForm s → AllByRecursion (λ flight. IsWritable flight.1) s.queue.in_flight
flights_are_writable s h = each IsInFlight (λ flight. IsWritable flight.1) is_writable s.queue.in_flight h.queue.in_flight

pub waiting_have_lengths : (s : SessionState) → HasForm s → AllByRecursion HasLength s.queue.waiting
waiting_have_lengths s h = each MayWait HasLength (λ p k. has_length p k.1) s.queue.waiting h.queue.waiting
