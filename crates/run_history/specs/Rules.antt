-- The rule of the log, and what may be added to it.
use Rattle.std.specs.Prelude.{◌≡◌, ℕ, ◌==◌, ◌+◌, ◌<◌, Bool, true, false, List, [], ◌∷◌, ◌++◌, length, MatchBool, None}
use mathlib.Core.List.{IsPrefix}
use Rattle.logbook.specs.Pages.{Cell, cell, Step, View, Book, Named}
use Rattle.lists.specs.Lists.{In}
use Rattle.ballot_base.specs.StepOutcome.{master}
use Rattle.ballot_base.specs.declared.config.Config.{Config}
use Rattle.ballot_base.specs.declared.message.Body.TheVariants.{Activate}
use Rattle.ballot_base.specs.declared.message.Message.{Message}
use Rattle.broker_spec.specs.declared.command.Command.{Command}
use Rattle.agreement.specs.MasterState.{MasterState, refusal}
use Rattle.agreement.specs.cut_logs.Masters.{MasterOutcome, activated, assigned}
use Rattle.world_base.specs.node_core.Core.{CoreState}
use Rattle.run_history.specs.declared.event.BroughtMessage.{BroughtMessage}
use Rattle.run_history.specs.declared.event.MasterAct.{MasterAct}
use Rattle.run_history.specs.declared.event.MasterAct.TheVariants.{Assigns, Answers}
use Rattle.run_history.specs.declared.event.MasterEvent.{MasterEvent}
use Rattle.run_history.specs.declared.event.NodeEvent.{NodeEvent}
use Rattle.run_history.specs.declared.event.RunEvent.{RunEvent}
use Rattle.run_history.specs.declared.event.RunEvent.TheVariants.{ByNode, ByMaster, ByLink}
use Rattle.run_history.specs.History.{IsMasterOf, IsNodeOf}
use Rattle.run_history.specs.Linked.{IsRun, NodeMayDo}
use Rattle.run_history.specs.Log.{events_by, party_of, sent_in}

-- ---- the rule

-- the master and each node has a word, which counts its events, and the log is that of a run
pub record IsKept (cells : List Cell) (log : List RunEvent) : Type 0 where
  pub nodes : ℕ
  pub config : Config
  pub linked : Bool
  pub words : length cells ≡ nodes + 1
  pub counts : (party : ℕ) → party < length cells → cell cells party ≡ (events_by party log, true)
  pub run : IsRun linked nodes config log

-- the word of a party
abbrev pub word_of : Book → ℕ → Named
word_of book party = record { tracked = true; key = party; book = book }

-- ---- what may be added

-- the event has this outcome of the master's step
pub record IsOutcome (event : MasterEvent) (outcome : MasterOutcome Command) : Type 0 where
  pub after : event.after ≡ outcome.state
  pub receiver : event.receiver ≡ outcome.receiver
  pub message : event.message ≡ record { from = master; body = outcome.body }

-- the master may do this act: it assigns a ballot to a configuration that it does not refuse; or
-- it answers an Activate that was sent to it
abbrev pub MasterMayDo : List (ℕ × Message Command) → MasterState → MasterEvent → MasterAct → Type 0
MasterMayDo sent state event (Assigns config) =
    (refusal state config ≡ None) × IsOutcome event (assigned Command state config)
MasterMayDo sent state event (Answers from ballot) =
    In (master, record { from = from; body = Activate ballot }) sent
    × IsOutcome event (activated Command state ballot from state.waiting)

-- A party may add this event. By a prefix of what was seen it has a state from which the event
-- goes, after this many events of its own; what the event takes was sent by what was seen.
pub data MayAdd (nodes : ℕ) (config : Config) (linked : Bool) (seen : List RunEvent) (count : ℕ) :
    RunEvent → Type 0 where
  -- a node adds it
  node_may : (event : NodeEvent) (own : List RunEvent) (core : CoreState) → IsPrefix own seen →
      IsNodeOf nodes config own event.node core count → event.node < nodes →
      NodeMayDo (sent_in seen) event.node core event.after.core event.given event.act →
      MayAdd nodes config linked seen count (ByNode event)
  -- the master adds it, if it is in this program
  master_may : (event : MasterEvent) (own : List RunEvent) (state : MasterState) →
      linked ≡ false → IsPrefix own seen → IsMasterOf config own state count →
      MasterMayDo (sent_in seen) state event event.act →
      MayAdd nodes config linked seen count (ByMaster event)
  -- a link adds it, if nodes are linked
  link_may : (brought : BroughtMessage) (own : List RunEvent) →
      linked ≡ true → IsPrefix own seen → events_by master own ≡ count →
      MayAdd nodes config linked seen count (ByLink brought)

-- ---- what steps of words tell

-- the whole log was seen, in which the word's party has this many events
abbrev pub Looks : Step RunEvent → View RunEvent ℕ → ℕ → View RunEvent ℕ → Type 0
Looks step before found after =
    ((cells : List Cell) × IsKept cells after.0) × (events_by step.key after.0 ≡ found)

-- the event was added at the end of the whole log, which had this many events of its party
pub record Added (seen : List RunEvent) (count : ℕ) (event : RunEvent)
    (log : List RunEvent) : Type 0 where
  pub before : List RunEvent
  pub begins : IsPrefix seen before
  pub counted : events_by (party_of event) before ≡ count
  pub now : log ≡ before ++ event ∷ []

-- the event was added if the number found is the one that was thought
abbrev pub Adds : Step RunEvent → View RunEvent ℕ → ℕ → View RunEvent ℕ → Type 0
Adds step before found after =
    ((cells : List Cell) × IsKept cells after.0)
    × MatchBool (found == step.old) (Added before.0 step.old step.ask after.0) (Unit {0})
