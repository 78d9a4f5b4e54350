-- Each event keeps what a connection of the client wrote: its CONNECT first, no other, and nothing more before it is confirmed.
use Rattle.std.proofs.Common.{◌≡◌, ◌≤◌, ℕ, zero, suc, Bool, true, false, if◌then◌else◌, List, [], ◌∷◌, ◌++◌, refl, ap, sym, ◌∙◌, subst, arith}
use Rattle.std.proofs.lemmas.Bool.{both_ways}
use Rattle.std.proofs.lemmas.List.{append-nil}
use Rattle.packet.specs.declared.packet.Packet.TheVariants as packets
use Rattle.session_base.specs.Identifiers.{least_free}
use Rattle.broker_spec.specs.Place.{Client, Past, Limits}
use Rattle.lists.specs.Lists.{Each}
use Rattle.lists.proofs.OfEach.{each_append, each_then}
use Rattle.client_base.specs.Keeper.{Written, Keeper, ids_in_use, next_own_number}
use Rattle.exactly_once.specs.Sides.{ClientConnection}
use Rattle.client_base.specs.Written.{plain, written_publish, writes}
use Rattle.client_base.specs.Handled.{packet_handled}
use Rattle.exactly_once.specs.Story.{Story, StoryStep}
use Rattle.exactly_once.specs.StoryCommands.{with_one_counted}
use Rattle.client_base.specs.Connected.{opening_connect}
use Rattle.client_base.specs.Written.{writes_first}
use Rattle.exactly_once.specs.Story.StoryStep.{takes, others_take, receives, opens_anew, loses, disconnects, publishes_one, subscribes, unsubscribes}
use Rattle.exactly_once.specs.Inside.Shape.{HeldInShape, HasShape}
use Rattle.exactly_once.specs.Inside.ConnectionShape.{is_connect, ConnectionInShape}
use Rattle.exactly_once.proofs.publishing.Grown.{IsLater, Grown, handled_grows}
use Rattle.exactly_once.proofs.connections.Silent.{StaysSilent, handled_silent}

-- the rows of one connection
pub record WritesOf (c : Client) (κ : ClientConnection) : Type 0 where
  pub more : List Written
  pub written : κ.written ≡ opening_connect c ∷ more
  pub one_connect : Each (λ w. is_connect w ≡ false) more
  pub silent : κ.confirmed ≡ false → more ≡ []
  pub handled_some : κ.confirmed ≡ true → 1 ≤ κ.handled

-- ---- the rows are kept

-- more is written
writes_grown : (c : Client) (κ after : ClientConnection) (n : ℕ) → Grown κ after n → StaysSilent κ after → (after.confirmed ≡ true → 1 ≤ n) → WritesOf c κ → WritesOf c after
writes_grown c κ after n g still some r =
    let all : after.written ≡ opening_connect c ∷ r.more ++ g.more = g.written ∙ ap (λ ws. ws ++ g.more) r.written in
    record {
      more = r.more ++ g.more;
      written = all;
      one_connect = each_append (λ w. is_connect w ≡ false) r.more g.more r.one_connect (each_then IsLater (λ w. is_connect w ≡ false) g.more (λ w later. later.1) g.later);
      silent = λ e.
          let before = still e in
          let one : opening_connect c ∷ r.more ++ g.more ≡ opening_connect c ∷ [] = sym all ∙ before.1 ∙ r.written ∙ ap (λ ws. opening_connect c ∷ ws) (r.silent before.0) in
          cc;
      handled_some = λ e. subst (λ (m : ℕ). 1 ≤ m) (sym g.handled) (some e);
    }

-- one more is taken
writes_counted : (c : Client) (i : ℕ) (connections : List ClientConnection) → Each (WritesOf c) connections → Each (WritesOf c) (with_one_counted i connections)
writes_counted c i [] rows = tt
writes_counted c zero (κ ∷ connections) rows =
    (record { more = rows.0.more; written = rows.0.written; one_connect = rows.0.one_connect; silent = rows.0.silent; handled_some = rows.0.handled_some }, rows.1)
writes_counted c (suc i) (κ ∷ connections) rows = (rows.0, writes_counted c i connections rows.1)

-- the first connection is confirmed
abbrev pub FirstConfirmed : List ClientConnection → Type 0
FirstConfirmed (κ ∷ connections) = κ.confirmed ≡ true
FirstConfirmed [] = Unit {0}

-- it is while the client is online
pub first_confirmed : (limits : Limits) (past : Past) (keeper : Keeper) (connections : List ClientConnection) → HeldInShape limits past keeper connections → keeper.is_online ≡ true → FirstConfirmed connections
first_confirmed limits past keeper [] held on = tt
first_confirmed limits past keeper (κ ∷ connections) held on = held.0 (held.1 on) ∙ on

-- more is written on it
writes_more : (c : Client) (more : List Written) (connections : List ClientConnection) → FirstConfirmed connections → Each IsLater more → Each (WritesOf c) connections → Each (WritesOf c) (writes_first more connections)
writes_more c more [] on later rows = tt
writes_more c more (κ ∷ connections) on later rows = (
  writes_grown c κ (writes more κ) κ.handled (record { name = refl; taken = refl; handled = refl; more = more; written = refl; later = later })
      (λ e. absurd (both_ways κ.confirmed e on)) rows.0.handled_some rows.0,
  rows.1,
)

-- of a sound story
writes_of : (limits : Limits) (s : Story) → HasShape limits s → Each (WritesOf s.keeper.client) s.connections
writes_of limits s shape =
    each_then (ConnectionInShape limits s.past s.keeper.client) (WritesOf s.keeper.client) s.connections
    (λ κ r. record { more = r.more; written = r.written; one_connect = r.one_connect; silent = r.silent; handled_some = r.handled_some }) shape.connections

-- if it is online, more is written
writes_online : (limits : Limits) (s : Story) (b : Bool) → HasShape limits s → s.keeper.is_online ≡ b → (more : List Written) → Each IsLater more
    → Each (WritesOf s.keeper.client) (if b then writes_first more s.connections else s.connections)
writes_online limits s true shape on more later =
    writes_more s.keeper.client more s.connections (first_confirmed limits s.past s.keeper s.connections shape.held on) later (writes_of limits s shape)
writes_online limits s false shape on more later = writes_of limits s shape

-- nothing is written
writes_none : (c : Client) (connections : List ClientConnection) → Each (WritesOf c) connections → Each (WritesOf c) (writes_first [] connections)
writes_none c [] rows = tt
writes_none c (κ ∷ connections) rows =
    let same = append-nil κ.written in
    (record { more = rows.0.more; written = same ∙ rows.0.written; one_connect = rows.0.one_connect; silent = rows.0.silent; handled_some = rows.0.handled_some }, rows.1)

-- the rows are kept by every event
pub events_keep_written : (limits : Limits) (s t : Story) → HasShape limits s → StoryStep limits s t → Each (WritesOf s.keeper.client) t.connections
events_keep_written limits s t shape (takes i κ w stands next) = writes_counted s.keeper.client i s.connections (writes_of limits s shape)
events_keep_written limits s t shape (others_take command other none) = writes_of limits s shape
events_keep_written limits s t shape (receives κ others packet are opened next) =
    let mine = subst (Each (WritesOf s.keeper.client)) are (writes_of limits s shape) in
    let held = subst (HeldInShape limits s.past s.keeper) are shape.held in (
      writes_grown s.keeper.client κ (packet_handled packet (record { keeper = s.keeper; connection = κ })).connection (suc κ.handled) (handled_grows κ s.keeper packet)
          (handled_silent packet s.keeper κ (first_confirmed limits s.past s.keeper (κ ∷ others) held)) (λ e. omega arith) mine.0,
      mine.1,
    )
events_keep_written limits s t shape (opens_anew x fresh none uncounted) =
    (record { more = []; written = refl; one_connect = tt; silent = λ e. refl; handled_some = λ e. absurd (both_ways false refl e) }, writes_of limits s shape)
events_keep_written limits s t shape loses = writes_of limits s shape
events_keep_written limits s t shape disconnects = writes_online limits s s.keeper.is_online shape refl (plain packets.Disconnect ∷ []) ((refl, refl), tt)
events_keep_written limits s t shape (publishes_one p needs) = by s.keeper.is_online refl
  where
    by : (b : Bool) → s.keeper.is_online ≡ b
        → Each (WritesOf s.keeper.client) (writes_first (if b then written_publish false (next_own_number s.keeper) (least_free (ids_in_use s.keeper)) p ∷ [] else []) s.connections)
    by true on = writes_online limits s true shape on (written_publish false (next_own_number s.keeper) (least_free (ids_in_use s.keeper)) p ∷ []) ((refl, refl), tt)
    by false on = writes_none s.keeper.client s.connections (writes_of limits s shape)
events_keep_written limits s t shape (subscribes p on id) = writes_online limits s true shape on (plain (packets.Subscribe p) ∷ []) ((refl, refl), tt)
events_keep_written limits s t shape (unsubscribes p on id) = writes_online limits s true shape on (plain (packets.Unsubscribe p) ∷ []) ((refl, refl), tt)
