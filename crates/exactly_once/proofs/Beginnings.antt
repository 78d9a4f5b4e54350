-- A story that begins in the middle of a list, when the client has no session, is sound.
use Rattle.std.proofs.Common.{◌≡◌, ℕ, suc, Bool, true, false, if◌then◌else◌, List, [], ◌∷◌, ◌++◌, Option, Some, None, refl, sym, ◌∙◌, ap, ap₂, subst, inl, length}
use Rattle.packet.specs.declared.packet.Packet.TheVariants as packets
use Rattle.lists.specs.Lists.{has_id, IsDistinct, Each}
use Rattle.broker_spec.specs.Connection.{ConnectionName}
use Rattle.broker_spec.specs.Place.{Client, Past, Limits}
use Rattle.broker_spec.specs.Sessions.{current_connection, clean_session_of}
use Rattle.broker_spec.specs.Received.{is_new}
use Rattle.broker_spec.specs.declared.command.Command.{Command}
use Rattle.broker_spec.specs.declared.command.Command.TheVariants as commands
use Rattle.broker_base.proofs.QuietPasts.{no_connection}
use Rattle.exactly_once.specs.Items.{SenderItem, busy, has_released}
use Rattle.exactly_once.specs.Handshake.{Backward}
use Rattle.exactly_once.specs.HandshakeInvariant.{IsGood, IsBehind, IsNew, IsQueued, QueuedAreLast}
use Rattle.client_base.specs.Keeper.{Own, ids_in_use}
use Rattle.exactly_once.specs.Story.{Story}
use Rattle.exactly_once.specs.StoryTrace.{AreQueued, unserved}
use Rattle.exactly_once.specs.Carried.{carries, new_numbers, more_by, is_qos2}
use Rattle.exactly_once.specs.Inside.Projections.{items_of_own, as_publisher}
use Rattle.exactly_once.specs.Inside.AsSubscriber.{items_of_entries, as_subscriber, left_behind}
use Rattle.exactly_once.specs.Inside.Shape.{HasShape, IsSoundStory, LastIsCurrent, NewestIsServed}
use Rattle.exactly_once.specs.Inside.OwnShape.{AreNumberedFrom}
use Rattle.exactly_once.proofs.places.Sessions.{received_outside}
use Rattle.exactly_once.proofs.subscribing.places.Quiet.{no_entries}
use Rattle.session_base.specs.declared.publication.Publication.{Publication}

-- the story
abbrev pub begun : Past → Client → List Own → List Own → Story
begun past c earlier own = record { past = past; connections = []; keeper = unserved c earlier own }

-- ---- what was published and never sent

pub numbered : (n : ℕ) (own : List Own) → AreQueued n own → AreNumberedFrom n own
numbered n [] h = tt
numbered n (Own.Queued k p id ∷ own) h = (h.0, numbered (suc n) own h.1)
numbered n (Own.Sent k p id ∷ own) h = absurd h
numbered n (Own.Released k p id ∷ own) h = absurd h
numbered n (Own.Done k p ∷ own) h = absurd h

-- all of it waits
all_wait : (n : ℕ) (own : List Own) → AreQueued n own → Each IsQueued (items_of_own own)
all_wait n [] h = tt
all_wait n (Own.Queued k p id ∷ own) h = by (is_qos2 p.qos) (all_wait (suc n) own h.1)
  where
    by : (b : Bool) → Each IsQueued (items_of_own own) → Each IsQueued (if b then SenderItem.Queued k ∷ items_of_own own else items_of_own own)
    by true w = (tt, w)
    by false w = w
all_wait n (Own.Sent k p id ∷ own) h = absurd h
all_wait n (Own.Released k p id ∷ own) h = absurd h
all_wait n (Own.Done k p ∷ own) h = absurd h

waits_last : {V : Type 0} (items : List (SenderItem V)) → Each IsQueued items → QueuedAreLast items
waits_last [] h = tt
waits_last (SenderItem.Queued v ∷ items) h = h.1
waits_last (SenderItem.Sent v id ∷ items) h = absurd h.0
waits_last (SenderItem.Released v id ∷ items) h = absurd h.0
waits_last (SenderItem.Done v ∷ items) h = absurd h.0

all_new : {V : Type 0} (received : ℕ → Bool) (items : List (SenderItem V)) → Each IsQueued items → Each (IsNew received) items
all_new received [] h = tt
all_new received (SenderItem.Queued v ∷ items) h = (tt, all_new received items h.1)
all_new received (SenderItem.Sent v id ∷ items) h = absurd h.0
all_new received (SenderItem.Released v id ∷ items) h = absurd h.0
all_new received (SenderItem.Done v ∷ items) h = absurd h.0

none_busy : {V : Type 0} (items : List (SenderItem V)) → Each IsQueued items → busy items ≡ []
none_busy [] h = refl
none_busy (SenderItem.Queued v ∷ items) h = none_busy items h.1
none_busy (SenderItem.Sent v id ∷ items) h = absurd h.0
none_busy (SenderItem.Released v id ∷ items) h = absurd h.0
none_busy (SenderItem.Done v ∷ items) h = absurd h.0

-- none is released
none_released : (id : ℕ) (n : ℕ) (own : List Own) → AreQueued n own → false ≡ has_released id (items_of_own own)
none_released id n [] h = refl
none_released id n (Own.Queued k p i ∷ own) h = by (is_qos2 p.qos) (none_released id (suc n) own h.1)
  where
    by : (b : Bool) → false ≡ has_released id (items_of_own own) → false ≡ has_released id (if b then SenderItem.Queued k ∷ items_of_own own else items_of_own own)
    by true e = e
    by false e = e
none_released id n (Own.Sent k p i ∷ own) h = absurd h
none_released id n (Own.Released k p i ∷ own) h = absurd h
none_released id n (Own.Done k p ∷ own) h = absurd h

-- ---- a client without connections carries nothing

nothing_carried : (command : Command) (past : Past) → carries [] command past ≡ None
nothing_carried (commands.Packet x (packets.Publish p)) past = refl
nothing_carried (commands.Packet x _) past = refl
nothing_carried (commands.Connect x d clean) past = refl
nothing_carried (commands.Lost x) past = refl
nothing_carried (commands.Start ballot) past = refl
nothing_carried (commands.Expel d) past = refl

nothing_new : (past : Past) → new_numbers [] past ≡ []
nothing_new [] = refl
nothing_new (place ∷ past) =
    ap₂ (λ xs number. xs ++ more_by (is_new place.command place.mark) number) (nothing_new past) (nothing_carried place.command past)
    ∙ by (is_new place.command place.mark)
  where
    by : (b : Bool) → more_by b None ≡ []
    by true = refl
    by false = refl

-- ---- the story

begun_shape : (limits : Limits) (past : Past) (c : Client) (earlier own : List Own) → clean_session_of past c ≡ None → AreQueued (length earlier) own → IsDistinct (ids_in_use (unserved c earlier own)) → HasShape limits (begun past c earlier own)
begun_shape limits past c earlier own none queued apart =
    record {
      own = record { ids_apart = apart; numbered = numbered (length earlier) own queued; releases_apart = tt; releases_are = λ id. none_released id (length earlier) own queued; online_sent = λ e. absurd (not_true e) };
      connections = tt;
      names_apart = tt;
      last_is_current = subst (λ (o : Option ConnectionName). LastIsCurrent o []) (sym (no_connection past c none)) tt;
      newest_is_served = subst (λ (o : Option ConnectionName). NewestIsServed o []) (sym (no_connection past c none)) tt;
      nobody_else = λ d x e f. absurd (not_true f);
      held = refl;
      session = inl none;
      welcomed = tt;
      served = λ e. absurd (not_true e);
    }
  where
    not_true : false ≡ true → ⊥
    not_true e = cc

begun_publisher : (limits : Limits) (past : Past) (c : Client) (earlier own : List Own) → clean_session_of past c ≡ None → AreQueued (length earlier) own → IsGood (as_publisher limits (begun past c earlier own))
begun_publisher limits past c earlier own none queued =
    let wait = all_wait (length earlier) own queued in
    record {
      old = [];
      new = items_of_own own;
      sides = record {
        is = refl;
        accepted_is = nothing_new past;
        olds = tt;
        news = all_new _ (items_of_own own) wait;
        waits_last = waits_last (items_of_own own) wait;
        apart = subst IsDistinct (sym (none_busy (items_of_own own) wait)) tt;
        known = λ id e. absurd (no_id id (ap (has_id id) (sym (received_outside past c none)) ∙ e));
      };
      transit = record { due = tt; apart = tt };
    }
  where
    no_id : (id : ℕ) → has_id id [] ≡ true → ⊥
    no_id id e = cc

begun_subscriber : (limits : Limits) (past : Past) (c : Client) (earlier own : List Own) → clean_session_of past c ≡ None → IsGood (as_subscriber limits (begun past c earlier own))
begun_subscriber limits past c earlier own none =
    record {
      old = [];
      new = [];
      sides = record {
        is = ap items_of_entries (no_entries limits past c none);
        accepted_is = refl;
        olds = tt;
        news = tt;
        waits_last = tt;
        apart = tt;
        known = λ i e. e;
      };
      transit = subst (λ (b : List Backward). IsBehind {V = Publication} (λ id. false) [] b) (sym (nothing_left (current_connection past c))) (record { due = tt; apart = tt });
    }
  where
    nothing_left : (o : Option ConnectionName) → left_behind o [] ≡ []
    nothing_left None = refl
    nothing_left (Some x) = refl

pub begun_is_sound : (limits : Limits) (past : Past) (c : Client) (earlier own : List Own) → clean_session_of past c ≡ None → AreQueued (length earlier) own → IsDistinct (ids_in_use (unserved c earlier own)) → IsSoundStory limits (begun past c earlier own)
begun_is_sound limits past c earlier own none queued apart =
    record {
      shape = begun_shape limits past c earlier own none queued apart;
      publisher = begun_publisher limits past c earlier own none queued;
      subscriber = begun_subscriber limits past c earlier own none;
    }
