-- An example of both forms with something in every part, each byte written by hand. It has a
-- session with two filters, two received identifiers, an entry in flight of each kind and two that
-- wait, and two retained publications.
use Rattle.std.specs.Prelude.{◌≡◌, ℕ, false, List, [], ◌∷◌, ◌++◌, Some, codes}
use Rattle.packet_base.specs.declared.qos.QoS.TheVariants as qos_levels
use Rattle.session_base.specs.FormRows.{full_session, full_session_by_hand}
use Rattle.broker_base.specs.State.{State}
use Rattle.broker_base.specs.form.Bytes.{frozen, frozen_before}

-- client `a` on connection 258 of ballot 2
abbrev pub full_state : ℕ → State
full_state window = record {
  window = window;
  sessions = (
    codes "a",
    record {
      clean = false;
      connection = Some (record { ballot = 2; count = 258 });
      state = full_session;
    },
  ) ∷ [];
  retained =
      (codes "t/1", record { qos = qos_levels.AtMostOnce; payload = codes "x" })
      ∷ (codes "t/2", record { qos = qos_levels.ExactlyOnce; payload = codes "yz" })
      ∷ [];
}

-- one session: `a`, not clean, connection 258 of ballot 2
abbrev pub client_by_hand : List ℕ
client_by_hand =
    0 ∷ 1 ∷ 0 ∷ 1 ∷ 0x61 ∷ 0 ∷ 1 ∷ 0 ∷ 0 ∷ 0 ∷ 0 ∷ 0 ∷ 0 ∷ 0 ∷ 2 ∷ 0 ∷ 0 ∷ 0 ∷ 0 ∷ 0
    ∷ 0 ∷ 1 ∷ 2 ∷ []

-- `x` is retained on `t/1` at QoS 0, and `yz` on `t/2` at QoS 2
abbrev pub topics_by_hand : List ℕ
topics_by_hand =
    0 ∷ 2
    ∷ 0 ∷ 0 ∷ 3 ∷ 0x74 ∷ 0x2F ∷ 0x31 ∷ 0 ∷ 0 ∷ 0 ∷ 1 ∷ 0x78
    ∷ 2 ∷ 0 ∷ 3 ∷ 0x74 ∷ 0x2F ∷ 0x32 ∷ 0 ∷ 0 ∷ 0 ∷ 2 ∷ 0x79 ∷ 0x7A ∷ []

-- the bytes after the head
abbrev pub full_content : List ℕ
full_content = client_by_hand ++ full_session_by_hand ++ topics_by_hand

-- the full state is frozen to a head and the full content, in both forms
abbrev pub FullIsFrozen : Type 0
FullIsFrozen =
    (frozen (full_state 64) ≡ 0x02 ∷ 0x40 ∷ full_content)
    × (frozen (full_state 16) ≡ 0x02 ∷ 0x10 ∷ full_content)
    × (frozen_before (full_state 16) ≡ 0x01 ∷ full_content)
