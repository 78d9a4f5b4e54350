-- A place carries the same in a life and in the story of its session, or it brings nothing new: what is kept of the connections, and what
-- is left out of it.
use Rattle.std.proofs.Common.{◌≡◌, ◌≤◌, ℕ, Bool, true, false, if◌then◌else◌, List, [], ◌∷◌, ◌++◌, length, Option, Some, None, refl, sym, ◌∙◌, ap, subst, inl, inr, ◌⊎◌}
use Rattle.std.specs.Prelude.{slice_get}
use Rattle.std.proofs.lemmas.Bool.{both_ways}
use Rattle.packet.specs.declared.packet.Packet.{Packet}
use Rattle.packet.specs.declared.packet.Packet.TheVariants as packets
use Rattle.packet.specs.declared.publish.Publish.{Publish}
use Rattle.lists.specs.Lists.{Each}
use Rattle.broker_spec.specs.Connection.{ConnectionName, same_connection}
use Rattle.broker_spec.specs.Place.{Client, Mark, Place, Past, Limits}
use Rattle.broker_spec.specs.Sessions.{current_connection}
use Rattle.broker_spec.specs.Received.{is_new}
use Rattle.broker_spec.specs.Marks.{mark_of}
use Rattle.broker_spec.specs.Commands.{place_of}
use Rattle.broker_spec.specs.declared.command.Command.{Command}
use Rattle.broker_spec.specs.declared.command.Command.TheVariants as commands
use Rattle.session_base.specs.declared.publication.Publication.{Publication}
use Rattle.session_base.specs.Publication.{publication_of}
use Rattle.client_base.specs.Keeper.{Written}
use Rattle.client_base.specs.Called.{written_for}
use Rattle.client_base.specs.Connected.{new_connection}
use Rattle.client_base.specs.Written.{plain, writes_first}
use Rattle.client_base.specs.Handled.{packet_handled}
use Rattle.exactly_once.specs.Sides.{ClientConnection}
use Rattle.exactly_once.specs.Story.{Story, StoryStep}
use Rattle.exactly_once.specs.StoryCommands.{any_named, with_one_counted, packet_count}
use Rattle.exactly_once.specs.Story.StoryStep.{takes, others_take, receives, opens_anew, loses, disconnects, publishes_one, subscribes, unsubscribes}
use Rattle.exactly_once.specs.Carried.{carries, connection_named, written_number_at, more_by}
use Rattle.exactly_once.specs.Inside.Shape.{NamesApart, LastIsCurrent}
use Rattle.exactly_once.proofs.Packets.{at_packet}
use Rattle.exactly_once.proofs.places.Kinds.{nobodys_mark}
use Rattle.exactly_once.proofs.places.Owned.{NobodyElse}
use Rattle.exactly_once.proofs.publishing.Grown.{handled_grows}
use Rattle.exactly_once.proofs.publishing.Last.{is_named}
use Rattle.exactly_once.proofs.publishing.events.TakesTwo.{carries_it}
use Rattle.exactly_once.proofs.publishing.kept.Numbers.{SameNumbers, same_counted, same_opened, same_written}
use Rattle.exactly_once.proofs.carrying.KeepsNumbers.{same_itself, AreWithin, first_written}
use Rattle.exactly_once.proofs.carrying.PlacesSay.{Says, says_nothing}
use Rattle.exactly_once.proofs.carrying.Publications.{IsOf}
use Rattle.exactly_once.proofs.sessions.Beside.{kept_of, IsHeadKept, AreGone, flags_after, find, IsKept, IsLeft, kept_writes}
use Rattle.exactly_once.proofs.sessions.EachPlaced.{IsOwnCommand}

-- ---- a packet that was written

-- two lists of connections with its own
pub both_carry : (past : Past) (c : Client) (i j : ℕ) (connections kept : List ClientConnection) (κ : ClientConnection) (w : Written) (command : Command) → IsOwnCommand c κ w.packet command → NamesApart connections → NamesApart kept
    → slice_get connections i ≡ Some κ → slice_get kept j ≡ Some κ → slice_get κ.written κ.taken ≡ Some w → packet_count κ.name past ≡ κ.taken
    → carries (with_one_counted i connections) command past ≡ carries (with_one_counted j kept) command past
both_carry past c i j connections kept κ w command (inl k) apart apart' stands stands' next counted = ap (λ d. carries (with_one_counted i connections) d past) k.1 ∙ sym (ap (λ d. carries (with_one_counted j kept) d past) k.1)
both_carry past c i j connections kept κ w command (inr k) apart apart' stands stands' next counted =
    ap (λ d. carries (with_one_counted i connections) d past) k.1 ∙ by w.packet ∙ sym (ap (λ d. carries (with_one_counted j kept) d past) k.1)
  where
    by : (packet : Packet) → carries (with_one_counted i connections) (commands.Packet κ.name packet) past ≡ carries (with_one_counted j kept) (commands.Packet κ.name packet) past
    by (packets.Publish p) = carries_it past i connections κ w Mark.Unmarked apart stands next counted ∙ sym (carries_it past j kept κ w Mark.Unmarked apart' stands' next counted)
    by _ = refl

-- of a connection without a client
pub nobody_new : (x : ConnectionName) (packet : Packet) → is_new (commands.Packet x packet) Mark.Unmarked ≡ false
nobody_new x (packets.Publish p) = refl
nobody_new x _ = refl

pub none_more : (b : Bool) → more_by b None ≡ []
none_more true = refl
none_more false = refl

-- says nothing but what it is
says_by : (c : Client) (ps : List Publication) (past : Past) (connections : List ClientConnection) (x : ConnectionName) (packet : Packet) (number : Option ℕ)
    → written_number_at (packet_count x past) (connection_named x connections) ≡ number → IsOf ps packet number → Says c ps connections (at_packet x packet Mark.Unmarked) past
says_by c ps past connections x (packets.Publish q) number carried of =
    record {
      known = λ k e again. absurd (both_ways false refl again);
      own = λ k e d taken. absurd (let f : Mark.Unmarked ≡ Mark.Taken d = taken in cc);
      of = λ k y p e is.
          let same : q ≡ p = publish_is p y is in
          let found : number ≡ Some k = sym carried ∙ e in
          subst (λ (r : Publish). slice_get ps k ≡ Some (publication_of r)) same (subst (λ (o : Option ℕ). IsOf ps (packets.Publish q) o) found of);
    }
  where
    publish_is : (p : Publish) (y : ConnectionName) → commands.Packet x (packets.Publish q) ≡ commands.Packet y (packets.Publish p) → q ≡ p
    publish_is p y e = cc
says_by c ps past connections x packet number carried of = says_nothing c ps connections (at_packet x packet Mark.Unmarked) past refl

pub nobodys_says : (limits : Limits) (past : Past) (c : Client) (ps : List Publication) (i : ℕ) (connections : List ClientConnection) (κ : ClientConnection) (w : Written) → NamesApart connections → NobodyElse past c connections
    → slice_get connections i ≡ Some κ → slice_get κ.written κ.taken ≡ Some w → packet_count κ.name past ≡ κ.taken → (current_connection past c ≡ Some κ.name → ⊥) → IsOf ps w.packet w.number
    → Says c ps (with_one_counted i connections) (place_of limits past (commands.Packet κ.name w.packet)) past
nobodys_says limits past c ps i connections κ w apart nobody stands next counted not of =
    subst (λ (p : Place). Says c ps (with_one_counted i connections) p past) (sym (nobodys_mark limits past c connections κ.name w.packet nobody (is_named i connections κ stands) not))
    (says_by c ps past (with_one_counted i connections) κ.name w.packet w.number (carries_it past i connections κ w Mark.Unmarked apart stands next counted) of)

pub nobodys_new : (limits : Limits) (past : Past) (c : Client) (i : ℕ) (connections : List ClientConnection) (κ : ClientConnection) (packet : Packet) → NobodyElse past c connections → slice_get connections i ≡ Some κ
    → (current_connection past c ≡ Some κ.name → ⊥) → is_new (commands.Packet κ.name packet) (mark_of limits past (commands.Packet κ.name packet)) ≡ false
nobodys_new limits past c i connections κ packet nobody stands not =
    ap (λ (p : Place). is_new p.command p.mark) (nobodys_mark limits past c connections κ.name packet nobody (is_named i connections κ stands) not) ∙ nobody_new κ.name packet

-- one that is left out has no client, if the current one is kept
pub left_not_current : (x : ConnectionName) (current : Option ConnectionName) (kept : List ClientConnection) → LastIsCurrent current kept → any_named (same_connection x) kept ≡ false → current ≡ Some x → ⊥
left_not_current x None kept last none e = cc
left_not_current x (Some y) kept last none e =
    let same : y ≡ x = cc in
    both_ways (any_named (same_connection x) kept) none (subst (λ (z : ConnectionName). any_named (same_connection z) kept ≡ true) same last.0)

-- ---- what is kept

pub kept_each : (P : ClientConnection → Type 0) (flags : List Bool) (connections : List ClientConnection) → Each P connections → Each P (kept_of flags connections)
kept_each P [] connections h = h
kept_each P (true ∷ flags) [] h = tt
kept_each P (false ∷ flags) [] h = tt
kept_each P (true ∷ flags) (κ ∷ connections) h = (h.0, kept_each P flags connections h.1)
kept_each P (false ∷ flags) (κ ∷ connections) h = kept_each P flags connections h.1

kept_taken : (past : Past) (flags : List Bool) (connections : List ClientConnection) (i : ℕ) (κ : ClientConnection) → IsKept flags connections i κ ⊎ IsLeft flags connections i κ
    → SameNumbers (kept_of flags connections) (kept_of flags (with_one_counted i connections)) past
kept_taken past flags connections i κ (inl k) = subst (λ (l : List ClientConnection). SameNumbers (kept_of flags connections) l past) (sym k.counted) (same_counted past k.j (kept_of flags connections))
kept_taken past flags connections i κ (inr l) = subst (λ (z : List ClientConnection). SameNumbers (kept_of flags connections) z past) (sym l.counted) (same_itself past (kept_of flags connections))

kept_written : (past : Past) (flags : List Bool) (connections : List ClientConnection) (more : List Written) → IsHeadKept flags → AreWithin past connections
    → SameNumbers (kept_of flags connections) (kept_of flags (writes_first more connections)) past
kept_written past flags connections more head within =
    subst (λ (l : List ClientConnection). SameNumbers (kept_of flags connections) l past) (sym (kept_writes more flags connections head))
    (first_written past (kept_of flags connections) more (kept_each (λ (κ : ClientConnection). packet_count κ.name past ≤ length κ.written) flags connections within))

kept_handled : (past : Past) (flags : List Bool) (κ after : ClientConnection) (others : List ClientConnection) (more : List Written) → IsHeadKept flags → after.name ≡ κ.name → after.written ≡ κ.written ++ more
    → packet_count κ.name past ≤ length κ.written → SameNumbers (kept_of flags (κ ∷ others)) (kept_of flags (after ∷ others)) past
kept_handled past [] κ after others more head name written within = same_written past κ after others more name written within
kept_handled past (true ∷ flags) κ after others more head name written within = same_written past κ after (kept_of flags others) more name written within
kept_handled past (false ∷ flags) κ after others more head name written within = absurd head

-- what the places below carry stays
pub kept_numbers : (limits : Limits) (flags : List Bool) (s t : Story) → IsHeadKept flags → AreGone flags s.connections → NamesApart s.connections → AreWithin s.past s.connections → (h : StoryStep limits s t)
    → SameNumbers (kept_of flags s.connections) (kept_of (flags_after flags h) t.connections) s.past
kept_numbers limits flags s t head gone apart within (takes i κ w stands next) = kept_taken s.past flags s.connections i κ (find flags s.connections i κ apart gone stands)
kept_numbers limits flags s t head gone apart within (others_take command other none) = same_itself s.past (kept_of flags s.connections)
kept_numbers limits flags s t head gone apart within (receives κ others packet are opened next) =
    let mine = subst (AreWithin s.past) are within in
    let after = (packet_handled packet (record { keeper = s.keeper; connection = κ })).connection in
    let grown = handled_grows κ s.keeper packet in
    subst (λ (cs : List ClientConnection). SameNumbers (kept_of flags cs) (kept_of flags (after ∷ others)) s.past) (sym are) (kept_handled s.past flags κ after others grown.more head grown.name grown.written mine.0)
kept_numbers limits flags s t head gone apart within (opens_anew x fresh none uncounted) = same_opened s.past (new_connection s.keeper.client x) (kept_of flags s.connections) uncounted
kept_numbers limits flags s t head gone apart within loses = same_itself s.past (kept_of flags s.connections)
kept_numbers limits flags s t head gone apart within disconnects = by s.keeper.is_online
  where
    by : (b : Bool) → SameNumbers (kept_of flags s.connections) (kept_of flags (if b then writes_first (plain packets.Disconnect ∷ []) s.connections else s.connections)) s.past
    by true = kept_written s.past flags s.connections (plain packets.Disconnect ∷ []) head within
    by false = same_itself s.past (kept_of flags s.connections)
kept_numbers limits flags s t head gone apart within (publishes_one p needs) = kept_written s.past flags s.connections (written_for p s.keeper) head within
kept_numbers limits flags s t head gone apart within (subscribes p on id) = kept_written s.past flags s.connections (plain (packets.Subscribe p) ∷ []) head within
kept_numbers limits flags s t head gone apart within (unsubscribes p on id) = kept_written s.past flags s.connections (plain (packets.Unsubscribe p) ∷ []) head within
