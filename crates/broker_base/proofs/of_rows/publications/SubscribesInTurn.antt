-- A SUBSCRIBE may be taken filter by filter, in one pass.
use Rattle.std.proofs.Common.{◌≡◌, ℕ, ◌-◌, Bool, true, false, not, ◌||◌, nat_lt, if◌then◌else◌, List, [], ◌∷◌, ◌++◌, refl, ap, ◌∙◌, sym}
use Rattle.std.specs.Prelude.{map}
use Rattle.std.proofs.lemmas.List.{append-nil}
use Rattle.packet.specs.declared.subscribe.Subscription.{Subscription}
use Rattle.retained.specs.Retained.{RetainedTopics}
use Rattle.session_base.specs.Session.{SessionState, with_granted, with_queue}
use Rattle.session_base.specs.Subscriptions.{with_subscription, with_subscriptions}
use Rattle.session_base.specs.Queue.{room}
use Rattle.session_base.specs.Copies.{copies_left}
use Rattle.session_base.specs.EntryPackets.{copies_sent}
use Rattle.broker_spec.specs.Place.{Limits}
use Rattle.broker_spec.specs.Subscriptions.{as_granted, granted_of}
use Rattle.broker_spec.specs.Entries.{copies_for, copies_for_all}
use Rattle.broker_spec.specs.Marks.{is_one_too_many, entries_for, grants}
use Rattle.broker_base.specs.rows.PacketTheorems.{subscribed_to}
use Rattle.broker_base.specs.rows.CopyTheorems.{is_granted_in, granted_in_turn, subscribed_in_turn, sent_in_turn, SubscribesInTurn}
use Rattle.broker_base.proofs.of_rows.publications.CopiesInParts.{copies_join, copies_take_room}

module _ (limits : Limits) (w : ℕ) (content : RetainedTopics) where
  -- ---- one filter that is granted

  -- the copies of one filter
  only : (new : Subscription) → copies_for_all content (new ∷ []) ≡ copies_for content new
  only new = append-nil (copies_for content new)

  -- the queue after it
  queue_by : (new : Subscription) (held : SessionState) → (subscribed_to w content (new ∷ []) held).queue ≡ copies_left w (copies_for content new) held.queue
  queue_by new held = ap (λ copies. copies_left w copies held.queue) (only new)

  -- the room after it
  room_by : (new : Subscription) (held : SessionState) →
      room limits.entries (subscribed_to w content (new ∷ []) held).queue ≡ room limits.entries held.queue - entries_for content new
  room_by new held = ap (room limits.entries) (queue_by new held) ∙ copies_take_room w limits.entries (copies_for content new) held.queue

  -- it comes before the others
  subscribed_first : (new : Subscription) (more : List Subscription) (held : SessionState) →
      subscribed_to w content (new ∷ more) held ≡ subscribed_to w content more (subscribed_to w content (new ∷ []) held)
  subscribed_first new more held =
      ap (λ queue. with_granted (with_subscriptions (map as_granted more) (with_subscription (as_granted new) held.subscriptions)) (with_queue queue held))
      ((copies_join w (copies_for content new) (copies_for_all content more) held.queue).0
      ∙ ap (copies_left w (copies_for_all content more)) (sym (queue_by new held)))

  -- and so do its copies
  sent_first : (new : Subscription) (more : List Subscription) (held : SessionState) →
      copies_sent w (copies_for_all content (new ∷ more)) held.queue
      ≡ copies_sent w (copies_for content new) held.queue ++ copies_sent w (copies_for_all content more) (subscribed_to w content (new ∷ []) held).queue
  sent_first new more held =
      (copies_join w (copies_for content new) (copies_for_all content more) held.queue).1
      ∙ ap (λ queue. copies_sent w (copies_for content new) held.queue ++ copies_sent w (copies_for_all content more) queue) (sym (queue_by new held))

  -- ---- all filters

  -- which are granted
  grants_in_turn : (held : SessionState) (filters : List Subscription) →
      grants limits content held.subscriptions (room limits.entries held.queue) filters ≡ granted_in_turn limits w content held filters
  grants_in_turn held [] = refl
  grants_in_turn held (new ∷ more) =
      by (is_one_too_many limits held.subscriptions new || nat_lt (room limits.entries held.queue) (entries_for content new))
      (grants_in_turn held more) (grants_in_turn (subscribed_to w content (new ∷ []) held) more)
    where
      by : (b : Bool) →
          grants limits content held.subscriptions (room limits.entries held.queue) more ≡ granted_in_turn limits w content held more →
          grants limits content (with_subscription (as_granted new) held.subscriptions) (room limits.entries (subscribed_to w content (new ∷ []) held).queue) more
          ≡ granted_in_turn limits w content (subscribed_to w content (new ∷ []) held) more →
          (if b then false ∷ grants limits content held.subscriptions (room limits.entries held.queue) more
          else true ∷ grants limits content (with_subscription (as_granted new) held.subscriptions) (room limits.entries held.queue - entries_for content new) more)
          ≡ not b ∷ granted_in_turn limits w content (if not b then subscribed_to w content (new ∷ []) held else held) more
      by true stays goes_on = ap (λ rest. false ∷ rest) stays
      by false stays goes_on =
          ap (λ r. true ∷ grants limits content (with_subscription (as_granted new) held.subscriptions) r more) (sym (room_by new held))
          ∙ ap (λ rest. true ∷ rest) goes_on

  -- the session
  subscribes_in_turn : (held : SessionState) (filters : List Subscription) →
      subscribed_to w content (granted_of filters (granted_in_turn limits w content held filters)) held ≡ subscribed_in_turn limits w content held filters
  subscribes_in_turn held [] = refl
  subscribes_in_turn held (new ∷ more) =
      by (is_granted_in limits content held new) (subscribes_in_turn held more) (subscribes_in_turn (subscribed_to w content (new ∷ []) held) more)
    where
      by : (b : Bool) →
          subscribed_to w content (granted_of more (granted_in_turn limits w content held more)) held ≡ subscribed_in_turn limits w content held more →
          subscribed_to w content (granted_of more (granted_in_turn limits w content (subscribed_to w content (new ∷ []) held) more)) (subscribed_to w content (new ∷ []) held)
          ≡ subscribed_in_turn limits w content (subscribed_to w content (new ∷ []) held) more →
          subscribed_to w content (granted_of (new ∷ more) (b ∷ granted_in_turn limits w content (if b then subscribed_to w content (new ∷ []) held else held) more)) held
          ≡ subscribed_in_turn limits w content (if b then subscribed_to w content (new ∷ []) held else held) more
      by true stays goes_on =
          subscribed_first new (granted_of more (granted_in_turn limits w content (subscribed_to w content (new ∷ []) held) more)) held ∙ goes_on
      by false stays goes_on = stays

  -- the packets
  sends_in_turn : (held : SessionState) (filters : List Subscription) →
      copies_sent w (copies_for_all content (granted_of filters (granted_in_turn limits w content held filters))) held.queue ≡ sent_in_turn limits w content held filters
  sends_in_turn held [] = refl
  sends_in_turn held (new ∷ more) =
      by (is_granted_in limits content held new) (sends_in_turn held more) (sends_in_turn (subscribed_to w content (new ∷ []) held) more)
    where
      by : (b : Bool) →
          copies_sent w (copies_for_all content (granted_of more (granted_in_turn limits w content held more))) held.queue ≡ sent_in_turn limits w content held more →
          copies_sent w (copies_for_all content (granted_of more (granted_in_turn limits w content (subscribed_to w content (new ∷ []) held) more))) (subscribed_to w content (new ∷ []) held).queue
          ≡ sent_in_turn limits w content (subscribed_to w content (new ∷ []) held) more →
          copies_sent w (copies_for_all content (granted_of (new ∷ more) (b ∷ granted_in_turn limits w content (if b then subscribed_to w content (new ∷ []) held else held) more))) held.queue
          ≡ (if b then copies_sent w (copies_for content new) held.queue else [])
          ++ sent_in_turn limits w content (if b then subscribed_to w content (new ∷ []) held else held) more
      by true stays goes_on =
          sent_first new (granted_of more (granted_in_turn limits w content (subscribed_to w content (new ∷ []) held) more)) held
          ∙ ap (λ rest. copies_sent w (copies_for content new) held.queue ++ rest) goes_on
      by false stays goes_on = stays

-- all three
pub subscribes : SubscribesInTurn
subscribes limits w content held filters =
    (grants_in_turn limits w content held filters, subscribes_in_turn limits w content held filters, sends_in_turn limits w content held filters)
