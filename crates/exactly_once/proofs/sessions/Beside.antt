-- The story of a client's session along with the client's life: the connections of earlier sessions
-- are left out in it; while the session lasts, each event of the life is one of that story.
use Rattle.std.proofs.Common.{◌≡◌, ◌≤◌, ℕ, zero, suc, Bool, true, false, ◌||◌, if◌then◌else◌, List, [], ◌∷◌, Some, refl, sym, ◌∙◌, ap, ap₂, subst, arith, inl, inr, ◌⊎◌}
use Rattle.std.specs.Prelude.{slice_get}
use Rattle.packet.specs.declared.packet.Packet.{Packet}
use Rattle.packet.specs.declared.packet.Packet.TheVariants as packets
use Rattle.lists.proofs.Tests.{or_none}
use Rattle.broker_spec.specs.Connection.{ConnectionName, same_connection}
use Rattle.broker_spec.specs.Place.{Client, Past, Limits}
use Rattle.broker_spec.specs.Commands.{place_of}
use Rattle.broker_base.proofs.ConnectionsOfSessions.{same_turned}
use Rattle.client_base.specs.Keeper.{Written, Keeper}
use Rattle.client_base.specs.Called.{written_for}
use Rattle.client_base.specs.Written.{plain, writes_first}
use Rattle.exactly_once.specs.Sides.{ClientConnection}
use Rattle.exactly_once.specs.Story.{Story, StoryStep, with_side}
use Rattle.exactly_once.specs.StoryCommands.{command_of, with_one_counted, names_client, any_named, is_packet_of}
use Rattle.exactly_once.specs.StoryTrace.{StoryTrace}
use Rattle.exactly_once.specs.StoryTrace.StoryTrace.{goes_on}
use Rattle.exactly_once.specs.Story.StoryStep.{takes, others_take, receives, opens_anew, loses, disconnects, publishes_one, subscribes, unsubscribes}
use Rattle.exactly_once.specs.Inside.Shape.{NamesApart}
use Rattle.client_base.specs.Handled.{packet_handled, lost}
use Rattle.exactly_once.specs.Sends.{put_to}

-- ---- connections that are left out

-- those that are kept: false leaves one out, and after the flags all are kept
abbrev pub kept_of : List Bool → List ClientConnection → List ClientConnection
kept_of [] connections = connections
kept_of (true ∷ flags) (κ ∷ connections) = κ ∷ kept_of flags connections
kept_of (false ∷ flags) (κ ∷ connections) = kept_of flags connections
kept_of (b ∷ flags) [] = []

-- the newest one is kept
abbrev pub IsHeadKept : List Bool → Type 0
IsHeadKept (false ∷ flags) = ⊥
IsHeadKept _ = Unit {0}

-- the Connect of one that is left out was taken
abbrev pub AreGone : List Bool → List ClientConnection → Type 0
AreGone [] connections = Unit {0}
AreGone (true ∷ flags) (κ ∷ connections) = AreGone flags connections
AreGone (false ∷ flags) (κ ∷ connections) = (1 ≤ κ.taken) × AreGone flags connections
AreGone (b ∷ flags) [] = Unit {0}

-- the session's story, as long as it lasts
abbrev pub beside : List Bool → Story → Story
beside flags s = record { past = s.past; connections = kept_of flags s.connections; keeper = s.keeper }

pub record HasBeside (limits : Limits) (c : Client) (flags : List Bool) (s : Story) : Type 0 where
  pub head : IsHeadKept flags
  pub gone : AreGone flags s.connections
  pub told : StoryTrace limits c (beside flags s)

-- after an event: a connection that it opens is kept
abbrev pub flags_after : {limits : Limits} {s t : Story} → List Bool → StoryStep limits s t → List Bool
flags_after flags (opens_anew x fresh none uncounted) = true ∷ flags
flags_after flags _ = flags

-- ---- what is kept

pub none_kept : (test : ConnectionName → Bool) (flags : List Bool) (connections : List ClientConnection) → any_named test connections ≡ false → any_named test (kept_of flags connections) ≡ false
none_kept test [] connections e = e
none_kept test (true ∷ flags) (κ ∷ connections) e =
    let h = or_none (test κ.name) (any_named test connections) e in ap₂ (λ a b. a || b) h.0 (none_kept test flags connections h.1)
none_kept test (false ∷ flags) (κ ∷ connections) e =
    let h = or_none (test κ.name) (any_named test connections) e in none_kept test flags connections h.1
none_kept test (true ∷ flags) [] e = refl
none_kept test (false ∷ flags) [] e = refl

pub kept_writes : (more : List Written) (flags : List Bool) (connections : List ClientConnection) → IsHeadKept flags → kept_of flags (writes_first more connections) ≡ writes_first more (kept_of flags connections)
kept_writes more [] connections h = refl
kept_writes more (true ∷ flags) (κ ∷ connections) h = refl
kept_writes more (true ∷ flags) [] h = refl
kept_writes more (false ∷ flags) connections h = absurd h

gone_writes : (more : List Written) (flags : List Bool) (connections : List ClientConnection) → IsHeadKept flags → AreGone flags connections → AreGone flags (writes_first more connections)
gone_writes more [] connections h g = tt
gone_writes more (true ∷ flags) (κ ∷ connections) h g = g
gone_writes more (true ∷ flags) [] h g = tt
gone_writes more (false ∷ flags) connections h g = absurd h

pub gone_counted : (i : ℕ) (flags : List Bool) (connections : List ClientConnection) → AreGone flags connections → AreGone flags (with_one_counted i connections)
gone_counted i [] connections g = tt
gone_counted i (true ∷ flags) [] g = tt
gone_counted i (false ∷ flags) [] g = tt
gone_counted zero (true ∷ flags) (κ ∷ connections) g = g
gone_counted zero (false ∷ flags) (κ ∷ connections) g = (let h = g.0 in omega (arith, h), g.1)
gone_counted (suc i) (true ∷ flags) (κ ∷ connections) g = gone_counted i flags connections g
gone_counted (suc i) (false ∷ flags) (κ ∷ connections) g = (g.0, gone_counted i flags connections g.1)

-- ---- a packet is taken

-- of one that is kept
pub record IsKept (flags : List Bool) (connections : List ClientConnection) (i : ℕ) (κ : ClientConnection) : Type 0 where
  pub j : ℕ
  pub stands : slice_get (kept_of flags connections) j ≡ Some κ
  pub counted : kept_of flags (with_one_counted i connections) ≡ with_one_counted j (kept_of flags connections)

-- of one that is left out
pub record IsLeft (flags : List Bool) (connections : List ClientConnection) (i : ℕ) (κ : ClientConnection) : Type 0 where
  pub taken : 1 ≤ κ.taken
  pub none : any_named (same_connection κ.name) (kept_of flags connections) ≡ false
  pub counted : kept_of flags (with_one_counted i connections) ≡ kept_of flags connections

pub other_name : (x : ConnectionName) (connections : List ClientConnection) (i : ℕ) (κ : ClientConnection) → any_named (same_connection x) connections ≡ false → slice_get connections i ≡ Some κ → same_connection κ.name x ≡ false
other_name x [] i κ e at = absurd (cc)
other_name x (μ ∷ connections) zero κ e at =
    let same : μ ≡ κ = cc in
    same_turned κ.name x ∙ ap (λ (z : ClientConnection). same_connection x z.name) (sym same) ∙ (or_none (same_connection x μ.name) (any_named (same_connection x) connections) e).0
other_name x (μ ∷ connections) (suc i) κ e at = other_name x connections i κ (or_none (same_connection x μ.name) (any_named (same_connection x) connections) e).1 at

pub find : (flags : List Bool) (connections : List ClientConnection) (i : ℕ) (κ : ClientConnection) → NamesApart connections → AreGone flags connections → slice_get connections i ≡ Some κ
    → IsKept flags connections i κ ⊎ IsLeft flags connections i κ
find [] connections i κ apart gone at = inl (record { j = i; stands = at; counted = refl })
find (true ∷ flags) [] i κ apart gone at = absurd (cc)
find (false ∷ flags) [] i κ apart gone at = absurd (cc)
find (true ∷ flags) (μ ∷ connections) zero κ apart gone at = inl (record { j = 0; stands = at; counted = refl })
find (false ∷ flags) (μ ∷ connections) zero κ apart gone at =
    let same : μ ≡ κ = cc in
    inr (subst (IsLeft (false ∷ flags) (μ ∷ connections) zero) same (record { taken = gone.0; none = none_kept (same_connection μ.name) flags connections apart.0; counted = refl }))
find (true ∷ flags) (μ ∷ connections) (suc i) κ apart gone at = by (find flags connections i κ apart.1 gone at)
  where
    by : IsKept flags connections i κ ⊎ IsLeft flags connections i κ → IsKept (true ∷ flags) (μ ∷ connections) (suc i) κ ⊎ IsLeft (true ∷ flags) (μ ∷ connections) (suc i) κ
    by (inl k) = inl (record { j = suc k.j; stands = k.stands; counted = ap (λ z. μ ∷ z) k.counted })
    by (inr l) = inr (record { taken = l.taken; none = ap₂ (λ a b. a || b) (other_name μ.name connections i κ apart.0 at) l.none; counted = ap (λ z. μ ∷ z) l.counted })
find (false ∷ flags) (μ ∷ connections) (suc i) κ apart gone at = by (find flags connections i κ apart.1 gone.1 at)
  where
    by : IsKept flags connections i κ ⊎ IsLeft flags connections i κ → IsKept (false ∷ flags) (μ ∷ connections) (suc i) κ ⊎ IsLeft (false ∷ flags) (μ ∷ connections) (suc i) κ
    by (inl k) = inl (record { j = k.j; stands = k.stands; counted = k.counted })
    by (inr l) = inr (record { taken = l.taken; none = l.none; counted = l.counted })

-- a packet after the CONNECT
pub later_other : (past : Past) (c : Client) (x : ConnectionName) (n : ℕ) (packet : Packet) → 1 ≤ n → names_client past c (command_of x n packet) → ⊥
later_other past c x zero packet less h = omega (arith, less)
later_other past c x (suc n) packet less h = h

pub later_named : (x : ConnectionName) (n : ℕ) (packet : Packet) (connections : List ClientConnection) → 1 ≤ n → any_named (same_connection x) connections ≡ false
    → any_named (is_packet_of (command_of x n packet)) connections ≡ false
later_named x zero packet connections less e = absurd (omega (arith, less))
later_named x (suc n) packet connections less e = e

-- ---- the events

abbrev pub with_connections : Past → Keeper → List ClientConnection → Story
with_connections past keeper connections = record { past = past; connections = connections; keeper = keeper }

goes_taken : (limits : Limits) (c : Client) (flags : List Bool) (s : Story) (b : HasBeside limits c flags s) (i : ℕ) (κ : ClientConnection) (w : Written) → slice_get κ.written κ.taken ≡ Some w
    → IsKept flags s.connections i κ ⊎ IsLeft flags s.connections i κ
    → StoryTrace limits c (with_connections (place_of limits s.past (command_of κ.name κ.taken w.packet) ∷ s.past) s.keeper (kept_of flags (with_one_counted i s.connections)))
goes_taken limits c flags s b i κ w next (inl k) =
    subst (λ (l : List ClientConnection). StoryTrace limits c (with_connections (place_of limits s.past (command_of κ.name κ.taken w.packet) ∷ s.past) s.keeper l)) (sym k.counted)
    (goes_on b.told (takes k.j κ w k.stands next))
goes_taken limits c flags s b i κ w next (inr l) =
    subst (λ (l : List ClientConnection). StoryTrace limits c (with_connections (place_of limits s.past (command_of κ.name κ.taken w.packet) ∷ s.past) s.keeper l)) (sym l.counted)
    (goes_on b.told (others_take (command_of κ.name κ.taken w.packet) (later_other s.past s.keeper.client κ.name κ.taken w.packet l.taken) (later_named κ.name κ.taken w.packet (kept_of flags s.connections) l.taken l.none)))

goes_written : (limits : Limits) (c : Client) (past : Past) (keeper : Keeper) (flags : List Bool) (more : List Written) (connections : List ClientConnection) → IsHeadKept flags
    → StoryTrace limits c (with_connections past keeper (writes_first more (kept_of flags connections))) → StoryTrace limits c (with_connections past keeper (kept_of flags (writes_first more connections)))
goes_written limits c past keeper flags more connections h = subst (λ (l : List ClientConnection). StoryTrace limits c (with_connections past keeper l)) (sym (kept_writes more flags connections h))

-- a packet is handled on the newest one
pub goes_received : (limits : Limits) (c : Client) (s : Story) (flags : List Bool) (κ : ClientConnection) (others : List ClientConnection) (packet : Packet) → IsHeadKept flags → AreGone flags s.connections
    → StoryTrace limits c (beside flags s) → s.connections ≡ κ ∷ others → s.keeper.is_open ≡ true → slice_get (put_to limits s.past κ.name) κ.handled ≡ Some packet
    → HasBeside limits c flags (with_side s others (packet_handled packet (record { keeper = s.keeper; connection = κ })))
goes_received limits c s [] κ others packet h gone told are opened next = record { head = tt; gone = tt; told = goes_on told (receives κ others packet are opened next) }
goes_received limits c s (true ∷ flags) κ others packet h gone told are opened next =
    record {
      head = tt;
      gone = subst (AreGone (true ∷ flags)) are gone;
      told = goes_on told (receives κ (kept_of flags others) packet (ap (kept_of (true ∷ flags)) are) opened next);
    }
goes_received limits c s (false ∷ flags) κ others packet h gone told are opened next = absurd h

-- a DISCONNECT is written, or not
kept_either : (more : List Written) (flags : List Bool) (connections : List ClientConnection) → IsHeadKept flags → (b : Bool)
    → kept_of flags (if b then writes_first more connections else connections) ≡ (if b then writes_first more (kept_of flags connections) else kept_of flags connections)
kept_either more flags connections h true = kept_writes more flags connections h
kept_either more flags connections h false = refl

gone_either : (more : List Written) (flags : List Bool) (connections : List ClientConnection) → IsHeadKept flags → AreGone flags connections → (b : Bool)
    → AreGone flags (if b then writes_first more connections else connections)
gone_either more flags connections h g true = gone_writes more flags connections h g
gone_either more flags connections h g false = g

-- while the session lasts, and before the first one begins
pub goes_beside : (limits : Limits) (c : Client) (flags : List Bool) (s t : Story) → NamesApart s.connections → HasBeside limits c flags s → (h : StoryStep limits s t) → HasBeside limits c (flags_after flags h) t
goes_beside limits c flags s t apart b (takes i κ w stands next) =
    record {
      head = b.head;
      gone = gone_counted i flags s.connections b.gone;
      told = goes_taken limits c flags s b i κ w next (find flags s.connections i κ apart b.gone stands);
    }
goes_beside limits c flags s t apart b (others_take command other none) =
    record { head = b.head; gone = b.gone; told = goes_on b.told (others_take command other (none_kept (is_packet_of command) flags s.connections none)) }
goes_beside limits c flags s t apart b (receives κ others packet are opened next) = goes_received limits c s flags κ others packet b.head b.gone b.told are opened next
goes_beside limits c flags s t apart b (opens_anew x fresh none uncounted) =
    record {
      head = tt;
      gone = b.gone;
      told = goes_on b.told (opens_anew x (none_kept (same_connection x) flags s.connections fresh) none uncounted);
    }
goes_beside limits c flags s t apart b loses = record { head = b.head; gone = b.gone; told = goes_on b.told loses }
goes_beside limits c flags s t apart b disconnects =
    record {
      head = b.head;
      gone = gone_either (plain packets.Disconnect ∷ []) flags s.connections b.head b.gone s.keeper.is_online;
      told = subst (λ (l : List ClientConnection). StoryTrace limits c (with_connections s.past (lost s.keeper) l)) (sym (kept_either (plain packets.Disconnect ∷ []) flags s.connections b.head s.keeper.is_online))
          (goes_on b.told disconnects);
    }
goes_beside limits c flags s t apart b (publishes_one p needs) =
    record {
      head = b.head;
      gone = gone_writes (written_for p s.keeper) flags s.connections b.head b.gone;
      told = goes_written limits c s.past t.keeper flags (written_for p s.keeper) s.connections b.head (goes_on b.told (publishes_one p needs));
    }
goes_beside limits c flags s t apart b (subscribes p on id) =
    record {
      head = b.head;
      gone = gone_writes (plain (packets.Subscribe p) ∷ []) flags s.connections b.head b.gone;
      told = goes_written limits c s.past t.keeper flags (plain (packets.Subscribe p) ∷ []) s.connections b.head (goes_on b.told (subscribes p on id));
    }
goes_beside limits c flags s t apart b (unsubscribes p on id) =
    record {
      head = b.head;
      gone = gone_writes (plain (packets.Unsubscribe p) ∷ []) flags s.connections b.head b.gone;
      told = goes_written limits c s.past t.keeper flags (plain (packets.Unsubscribe p) ∷ []) s.connections b.head (goes_on b.told (unsubscribes p on id));
    }
