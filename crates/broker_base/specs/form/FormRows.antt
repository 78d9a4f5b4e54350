-- Worked examples of the forms: the broker without sessions, and with the session of client `a`,
-- which is not clean, on connection 1 of ballot 1.
use Rattle.std.specs.Prelude.{◌≡◌, ℕ, false, List, [], ◌∷◌, Option, Some, None}
use Rattle.session_base.specs.Session.{empty_session}
use Rattle.broker_spec.specs.Commands.{usual_limits}
use Rattle.broker_spec.specs.Connection.{ConnectionName}
use Rattle.broker_spec.specs.declared.command.Command.TheVariants as commands
use Rattle.broker_base.specs.State.{State, empty_state}
use Rattle.broker_base.specs.Step.{step}
use Rattle.broker_base.specs.form.Form.{thawed}
use Rattle.broker_base.specs.form.Bytes.{frozen, frozen_before}

-- no session and no topic
abbrev pub no_content : List ℕ
no_content = 0 ∷ 0 ∷ 0 ∷ 0 ∷ []

-- the session of `a`, on this connection if there is one
abbrev pub session_of_a : ℕ → Option ConnectionName → State
session_of_a window connection = record {
  window = window;
  sessions =
      (0x61 ∷ [], record { clean = false; connection = connection; state = empty_session }) ∷ [];
  retained = [];
}

-- the bytes of the session of `a`, on connection 1 of ballot 1, after those of the head
abbrev pub content_of_a : List ℕ
content_of_a =
    0 ∷ 1 ∷ 0 ∷ 1 ∷ 0x61 ∷ 0 ∷ 1 ∷ 0 ∷ 0 ∷ 0 ∷ 0 ∷ 0 ∷ 0 ∷ 0 ∷ 1 ∷ 0 ∷ 0 ∷ 0 ∷ 0 ∷ 0 ∷ 0 ∷ 0 ∷ 1
    ∷ 0 ∷ 0 ∷ 0 ∷ 0 ∷ 0 ∷ 0 ∷ 0 ∷ 0 ∷ 0 ∷ []

-- a new broker is frozen to form 2 with the window of 64
abbrev pub FreshIsFrozen : Type 0
FreshIsFrozen = frozen (empty_state 64) ≡ 0x02 ∷ 0x40 ∷ no_content

-- the session of `a`, on connection 1 of ballot 1, is frozen to form 2
abbrev pub OneSessionIsFrozen : Type 0
OneSessionIsFrozen =
    frozen (session_of_a 64 (Some (record { ballot = 1; count = 1 }))) ≡ 0x02 ∷ 0x40 ∷ content_of_a

-- form 1 is read with the window of 16, and frozen to form 2 with that window, or with the window
-- of 64 after a Start
abbrev pub FormOneIsRead : Type 0
FormOneIsRead =
    (thawed (0x01 ∷ no_content) ≡ Some (empty_state 16))
    × (frozen (empty_state 16) ≡ 0x02 ∷ 0x10 ∷ no_content)
    × (frozen (step usual_limits 64 (empty_state 16) (commands.Start 2)).0
    ≡ 0x02 ∷ 0x40 ∷ no_content)

-- the session of `a` in form 1, and in form 2 after a Start, which leaves it without a connection
abbrev pub OneSessionGoesOn : Type 0
OneSessionGoesOn =
    (frozen_before (session_of_a 16 (Some (record { ballot = 1; count = 1 })))
    ≡ 0x01 ∷ content_of_a)
    × (frozen (step usual_limits 64 (session_of_a 16 (Some (record { ballot = 1; count = 1 })))
    (commands.Start 2)).0
    ≡ 0x02 ∷ 0x40 ∷ 0 ∷ 1 ∷ 0 ∷ 1 ∷ 0x61 ∷ 0 ∷ 0 ∷ 0 ∷ 0 ∷ 0 ∷ 0 ∷ 0 ∷ 0 ∷ 0 ∷ 0 ∷ 0 ∷ [])

-- a window of 32 is refused, and so is a form 3
abbrev pub OthersAreRefused : Type 0
OthersAreRefused =
    (thawed (0x02 ∷ 0x20 ∷ no_content) ≡ None) × (thawed (0x03 ∷ 0x40 ∷ no_content) ≡ None)
