-- The copies that a place makes for a client, read as the handshake: what starts of its entries.
use Rattle.std.proofs.Common.{◌≡◌, ℕ, Bool, true, false, if◌then◌else◌, List, [], ◌∷◌, ◌++◌, length, map, Option, Some, None, refl, ap, sym, ◌∙◌, subst}
use Rattle.broker_spec.specs.Connection.{ConnectionName, same_connection}
use Rattle.broker_spec.specs.Place.{Client, Place, Past, Limits}
use Rattle.broker_spec.specs.Sessions.{any_connection, current_connection}
use Rattle.broker_spec.specs.Entries.{Entry, copies_at, queued}
use Rattle.broker_spec.specs.Readings.{made_at}
use Rattle.broker_spec.specs.Times.{started, window_at, entries_of}
use Rattle.broker_spec.specs.Sends.{copy_outputs, handed_to, deliveries_to}
use Rattle.broker_base.proofs.ConnectionsOfSessions.{same_turned}
use Rattle.broker_base.proofs.QueueAfter.{sound_entries}
use Rattle.broker_base.proofs.QuietPasts.{QuietEntries, quiet_entries}
use Rattle.exactly_once.specs.Handshake.{publishing}
use Rattle.exactly_once.specs.Sends.{sends_to}
use Rattle.exactly_once.specs.Inside.Projections.{is_current}
use Rattle.exactly_once.specs.Inside.AsSubscriber.{forward_of}
use Rattle.exactly_once.proofs.Deliveries.{deliveries_elsewhere}
use Rattle.exactly_once.proofs.subscribing.events.Leaving.{same_name}
use Rattle.exactly_once.proofs.subscribing.Bridge.{forward_made}
use Rattle.exactly_once.proofs.subscribing.Adding.{rows_at}

-- what the copies for a client are, read as the handshake
pub deliveries_sent : (limits : Limits) (place : Place) (past : Past) (c : Client) (x : ConnectionName) → window_at limits (place ∷ past) ≡ window_at limits past
    → entries_of limits (place ∷ past) c
    ≡ started (window_at limits (place ∷ past)) (length past) (current_connection past c) (entries_of limits past c ++ map (Entry.Queued (length past)) (queued (copies_at place past c)))
    → forward_of (sends_to x (deliveries_to limits place past c))
    ≡ (if is_current (current_connection past c) x
    then map publishing (rows_at (window_at limits (place ∷ past)) (current_connection past c) (entries_of limits past c ++ map (Entry.Queued (length past)) (queued (copies_at place past c))))
    else [])
deliveries_sent limits place past c x same entries = by (current_connection past c) refl
  where
    n : ℕ
    n = length past

    all : List Entry
    all = entries_of limits past c ++ map (Entry.Queued (length past)) (queued (copies_at place past c))

    w : ℕ
    w = window_at limits (place ∷ past)

    goal : Option ConnectionName → Type 0
    goal o = forward_of (sends_to x (handed_to o n (copies_at place past c) (made_at n (entries_of limits (place ∷ past) c)))) ≡ (if is_current o x then map publishing (rows_at w o all) else [])

    quiet : (z : ConnectionName) → current_connection past c ≡ Some z → QuietEntries w (entries_of limits past c)
    quiet z e = subst (λ (w : ℕ). QuietEntries w (entries_of limits past c)) (sym same) (quiet_entries limits past c z e)

    here : (z : ConnectionName) → current_connection past c ≡ Some z → z ≡ x
        → forward_of (sends_to x (copy_outputs z n (copies_at place past c) (made_at n (entries_of limits (place ∷ past) c)))) ≡ map publishing (rows_at w (Some z) all)
    here z e f =
        ap (λ (es : List Entry). forward_of (sends_to x (copy_outputs z n (copies_at place past c) (made_at n es)))) (entries ∙ ap (λ o. started w n o all) e)
        ∙ ap (λ (y : ConnectionName). forward_of (sends_to x (copy_outputs y n (copies_at place past c) (made_at n (started w n (Some z) all))))) f
        ∙ forward_made x w n (entries_of limits past c) (copies_at place past c) (sound_entries limits past c) (quiet z e)

    there : (z : ConnectionName) → current_connection past c ≡ Some z → same_connection z x ≡ false
        → sends_to x (copy_outputs z n (copies_at place past c) (made_at n (entries_of limits (place ∷ past) c))) ≡ []
    there z e f =
        ap (λ o. sends_to x (handed_to o n (copies_at place past c) (made_at n (entries_of limits (place ∷ past) c)))) (sym e)
        ∙ deliveries_elsewhere limits place past x c (subst (λ (o : Option ConnectionName). elsewhere o ≡ false) (sym e) (same_turned x z ∙ f))
      where
        elsewhere : Option ConnectionName → Bool
        elsewhere o = any_connection (same_connection x) o

    by : (o : Option ConnectionName) → current_connection past c ≡ o → goal o
    by None e = refl
    by (Some z) e = one (same_connection z x) refl
      where
        one : (b : Bool) → same_connection z x ≡ b
            → forward_of (sends_to x (copy_outputs z n (copies_at place past c) (made_at n (entries_of limits (place ∷ past) c)))) ≡ (if b then map publishing (rows_at w (Some z) all) else [])
        one true f = here z e (same_name z x f)
        one false f = ap forward_of (there z e f)
