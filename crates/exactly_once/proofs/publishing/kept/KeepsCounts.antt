-- Each event keeps how many packets of a connection are in the list: as many as are taken, of those
-- that are written.
use Rattle.std.proofs.Common.{◌≡◌, ◌≤◌, ℕ, zero, suc, Bool, true, false, if◌then◌else◌, List, [], ◌∷◌, length, Some, refl, ap, sym, ◌∙◌, subst, arith}
use Rattle.std.specs.Prelude.{slice_get}
use Rattle.std.proofs.lemmas.List.{length-append}
use Rattle.packet.specs.declared.packet.Packet.{Packet}
use Rattle.packet.specs.declared.packet.Packet.TheVariants as packets
use Rattle.broker_spec.specs.Connection.{ConnectionName, same_connection}
use Rattle.broker_spec.specs.Place.{Place, Past, Limits}
use Rattle.broker_spec.specs.Commands.{place_of}
use Rattle.broker_base.proofs.ConnectionsOfSessions.{same_turned}
use Rattle.lists.specs.Lists.{Each}
use Rattle.client_base.specs.Keeper.{Written}
use Rattle.exactly_once.specs.Sides.{ClientConnection}
use Rattle.client_base.specs.Written.{plain}
use Rattle.client_base.specs.Handled.{packet_handled}
use Rattle.exactly_once.specs.Story.{Story, StoryStep}
use Rattle.exactly_once.specs.StoryCommands.{is_packet_of, packet_count, with_one_counted, command_of, any_named}
use Rattle.client_base.specs.Written.{writes_first}
use Rattle.client_base.specs.Called.{written_for}
use Rattle.exactly_once.specs.Story.StoryStep.{takes, others_take, receives, opens_anew, loses, disconnects, publishes_one, subscribes, unsubscribes}
use Rattle.exactly_once.specs.Inside.Shape.{NamesApart}
use Rattle.broker_spec.proofs.ConnectionNames.{same_itself}
use Rattle.exactly_once.proofs.publishing.Grown.{Grown, handled_grows}
use Rattle.exactly_once.proofs.publishing.Last.{each_there, none_named}

-- the rows of one connection
pub record CountsOf (past : Past) (κ : ClientConnection) : Type 0 where
  pub counted : packet_count κ.name past ≡ κ.taken
  pub within : κ.taken ≤ length κ.written

-- ---- a place

-- a packet of another connection does not count
counts_stay : (place : Place) (past : Past) (κ : ClientConnection) → is_packet_of place.command κ.name ≡ false → CountsOf past κ → CountsOf (place ∷ past) κ
counts_stay place past κ e c = record { counted = ap (λ b. if b then suc (packet_count κ.name past) else packet_count κ.name past) e ∙ c.counted; within = c.within }

each_stays : (place : Place) (past : Past) (connections : List ClientConnection) → any_named (is_packet_of place.command) connections ≡ false → Each (CountsOf past) connections → Each (CountsOf (place ∷ past)) connections
each_stays place past connections e rows = both connections (none_named (is_packet_of place.command) connections e) rows
  where
    both : (cs : List ClientConnection) → Each (λ (κ : ClientConnection). is_packet_of place.command κ.name ≡ false) cs → Each (CountsOf past) cs → Each (CountsOf (place ∷ past)) cs
    both [] n r = tt
    both (κ ∷ cs) n r = (counts_stay place past κ n.0 r.0, both cs n.1 r.1)

-- one that is in a list is within its length
stands_within : {A : Type 0} (n : ℕ) (xs : List A) (x : A) → slice_get xs n ≡ Some x → suc n ≤ length xs
stands_within n [] x e = cc
stands_within zero (y ∷ xs) x e = omega arith
stands_within (suc n) (y ∷ xs) x e = let within = stands_within n xs x e in omega (arith, within)

-- the next packet of one of them
takes_counts : (place : Place) (past : Past) (i : ℕ) (connections : List ClientConnection) (κ : ClientConnection) (w : Written) → ((y : ConnectionName) → is_packet_of place.command y ≡ same_connection κ.name y)
    → NamesApart connections → slice_get connections i ≡ Some κ → slice_get κ.written κ.taken ≡ Some w → Each (CountsOf past) connections → Each (CountsOf (place ∷ past)) (with_one_counted i connections)
takes_counts place past i [] κ w is apart stands next rows = tt
takes_counts place past zero (μ ∷ connections) κ w is apart stands next rows =
    let same : κ ≡ μ = cc in
    let here : is_packet_of place.command μ.name ≡ true = is μ.name ∙ ap (λ (ν : ClientConnection). same_connection ν.name μ.name) same ∙ same_itself μ.name in
    let next' : slice_get μ.written μ.taken ≡ Some w = subst (λ (ν : ClientConnection). slice_get ν.written ν.taken ≡ Some w) same next in (
      record {
        counted = ap (λ b. if b then suc (packet_count μ.name past) else packet_count μ.name past) here ∙ ap suc rows.0.counted;
        within = stands_within μ.taken μ.written w next';
      },
      each_stays place past connections
          (ap (λ (test : ConnectionName → Bool). any_named test connections) (λ j y. (is y ∙ ap (λ (ν : ClientConnection). same_connection ν.name y) same) j) ∙ apart.0) rows.1,
    )
takes_counts place past (suc i) (μ ∷ connections) κ w is apart stands next rows =
    let other = each_there (λ (ν : ClientConnection). same_connection μ.name ν.name ≡ false) i connections κ stands (none_named (same_connection μ.name) connections apart.0) in
    (counts_stay place past μ (is μ.name ∙ same_turned κ.name μ.name ∙ other) rows.0, takes_counts place past i connections κ w is apart.1 stands next rows.1)

pub packet_of : (x y : ConnectionName) (n : ℕ) (packet : Packet) → is_packet_of (command_of x n packet) y ≡ same_connection x y
packet_of x y zero (packets.Connect q) = refl
packet_of x y zero _ = refl
packet_of x y (suc n) (packets.Connect q) = refl
packet_of x y (suc n) _ = refl

-- ---- the client

counts_written : (past : Past) (more : List Written) (connections : List ClientConnection) → Each (CountsOf past) connections → Each (CountsOf past) (writes_first more connections)
counts_written past more [] rows = tt
counts_written past more (κ ∷ connections) rows =
    let longer = length-append κ.written more in
    let within = rows.0.within in
    (record { counted = rows.0.counted; within = omega (arith, longer, within) }, rows.1)

counts_grown : (past : Past) (κ after : ClientConnection) (n : ℕ) → Grown κ after n → CountsOf past κ → CountsOf past after
counts_grown past κ after n grown c =
    let longer = ap length grown.written ∙ length-append κ.written grown.more in
    let taken = grown.taken in
    let within = c.within in
    record { counted = ap (λ x. packet_count x past) grown.name ∙ c.counted ∙ sym grown.taken; within = omega (arith, longer, taken, within) }

pub events_keep_counts : (limits : Limits) (s t : Story) → NamesApart s.connections → Each (CountsOf s.past) s.connections → StoryStep limits s t → Each (CountsOf t.past) t.connections
events_keep_counts limits s t apart rows (takes i κ w stands next) =
    takes_counts (place_of limits s.past (command_of κ.name κ.taken w.packet)) s.past i s.connections κ w (λ y. packet_of κ.name y κ.taken w.packet) apart stands next rows
events_keep_counts limits s t apart rows (others_take command other none) = each_stays (place_of limits s.past command) s.past s.connections none rows
events_keep_counts limits s t apart rows (receives κ others packet are opened next) =
    let mine = subst (Each (CountsOf s.past)) are rows in
    (counts_grown s.past κ (packet_handled packet (record { keeper = s.keeper; connection = κ })).connection (suc κ.handled) (handled_grows κ s.keeper packet) mine.0, mine.1)
events_keep_counts limits s t apart rows (opens_anew x fresh none uncounted) = (record { counted = uncounted; within = omega arith }, rows)
events_keep_counts limits s t apart rows loses = rows
events_keep_counts limits s t apart rows disconnects = by s.keeper.is_online
  where
    by : (b : Bool) → Each (CountsOf s.past) (if b then writes_first (plain packets.Disconnect ∷ []) s.connections else s.connections)
    by true = counts_written s.past (plain packets.Disconnect ∷ []) s.connections rows
    by false = rows
events_keep_counts limits s t apart rows (publishes_one p needs) = counts_written s.past (written_for p s.keeper) s.connections rows
events_keep_counts limits s t apart rows (subscribes p on id) = counts_written s.past (plain (packets.Subscribe p) ∷ []) s.connections rows
events_keep_counts limits s t apart rows (unsubscribes p on id) = counts_written s.past (plain (packets.Unsubscribe p) ∷ []) s.connections rows
