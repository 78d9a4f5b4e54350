-- All that a connection is sent of the answers to a list of commands can be spelled.
use Rattle.std.proofs.Common.{Bool, true, false, if◌then◌else◌, List, [], ◌∷◌, Option, Some, None, sym, subst, arith}
use Rattle.std.specs.List.{AllByRecursion}
use Rattle.lists.specs.Lists.{Each}
use Rattle.lists.proofs.OfEach.{each_append}
use Rattle.packet.specs.Spelling.{IsPacket}
use Rattle.broker_spec.specs.Answers.{close_outputs}
use Rattle.broker_spec.specs.AnswersInOrder.{answers_from, answers_of}
use Rattle.broker_spec.specs.declared.command.Command.{Command}
use Rattle.broker_spec.specs.declared.command.Command.TheVariants as commands
use Rattle.broker_spec.specs.Commands.{past_from, past_of, place_of, usual_limits}
use Rattle.broker_spec.specs.Connection.{ConnectionName, same_connection}
use Rattle.broker_spec.specs.declared.command.Output.{Output}
use Rattle.broker_spec.specs.declared.command.Output.TheVariants.{Send, Close}
use Rattle.broker_spec.specs.Place.{Past}
use Rattle.broker_base.specs.State.{State, empty_state, session_in}
use Rattle.broker_base.specs.Step.{step, steps_from}
use Rattle.broker_base.specs.StepAnswers.{connection_of}
use Rattle.broker_base.proofs.StepByStep.{usual_lists_stand}
use Rattle.broker_base.specs.form.InRange.{IsBrokerState}
use Rattle.broker_base.specs.form.RangeTheorems.{CanBeSpelled}
use Rattle.broker_base.proofs.of_form.EveryAnswer.{answers_are_spelled, lists_are_in_range}
use Rattle.broker_base.proofs.of_form.States.{stays_in_range}
use Rattle.exactly_once.specs.Sends.{put_to, sends_to}
use Rattle.headline.proofs.of_packet_world.Answers.{put_place}
use Rattle.headline.proofs.Fitting.{IsFitting}
use Rattle.headline.proofs.LostNowhere.{loss_in_range}
use Rattle.headline.proofs.ExpelledNobody.{expel_in_range}

-- ---- command by command

-- after one of them the broker is in its ranges, and its answers can be spelled
goes_in_range : (state : State) (command : Command) → IsFitting command → IsBrokerState usual_limits state
    → IsBrokerState usual_limits (step usual_limits 64 state command).0 × AllByRecursion CanBeSpelled (step usual_limits 64 state command).1
goes_in_range state (commands.Connect x c clean) fits h = (
  stays_in_range usual_limits 64 state (commands.Connect x c clean) (omega arith) fits h,
  answers_are_spelled usual_limits 64 state (commands.Connect x c clean) (omega arith) fits h,
)
goes_in_range state (commands.Packet x packet) fits h = (
  stays_in_range usual_limits 64 state (commands.Packet x packet) (omega arith) fits h,
  answers_are_spelled usual_limits 64 state (commands.Packet x packet) (omega arith) fits h,
)
goes_in_range state (commands.Lost x) fits h = (loss_in_range state x h, tt)
goes_in_range state (commands.Start ballot) fits h = (stays_in_range usual_limits 64 state (commands.Start ballot) (omega arith) tt h, tt)
goes_in_range state (commands.Expel c) fits h = (expel_in_range state c h, by (connection_of (session_in c state.sessions)))
  where
    by : (o : Option ConnectionName) → AllByRecursion CanBeSpelled (close_outputs o)
    by (Some x) = (tt, tt)
    by None = tt

all_spelled : (state : State) (commands : List Command) → Each IsFitting commands → IsBrokerState usual_limits state
    → AllByRecursion (AllByRecursion CanBeSpelled) (steps_from usual_limits 64 state commands)
all_spelled state [] fits h = tt
all_spelled state (command ∷ commands) fits h =
    let now = goes_in_range state command fits.0 h in (now.1, all_spelled (step usual_limits 64 state command).0 commands fits.1 now.0)

-- ---- what of them is for one connection

each_sent : (x : ConnectionName) (outputs : List Output) → AllByRecursion CanBeSpelled outputs → Each IsPacket (sends_to x outputs)
each_sent x [] all = tt
each_sent x (Close y ∷ outputs) all = each_sent x outputs all.1
each_sent x (Send y packet ∷ outputs) all = by (same_connection x y) (each_sent x outputs all.1)
  where
    by : (b : Bool) → Each IsPacket (sends_to x outputs) → Each IsPacket (if b then packet ∷ sends_to x outputs else sends_to x outputs)
    by true rest = (all.0, rest)
    by false rest = rest

each_put : (x : ConnectionName) (past : Past) (commands : List Command) → AllByRecursion (AllByRecursion CanBeSpelled) (answers_from usual_limits past commands)
    → Each IsPacket (put_to usual_limits past x) → Each IsPacket (put_to usual_limits (past_from usual_limits past commands) x)
unfolding past_from answers_from
each_put x past [] all put = put
each_put x past (command ∷ commands) all put =
    each_put x (place_of usual_limits past command ∷ past) commands all.1
    (subst (Each IsPacket) (sym (put_place usual_limits past command x))
    (each_append IsPacket (put_to usual_limits past x) (sends_to x (answers_of usual_limits past command)) put (each_sent x (answers_of usual_limits past command) all.0)))

none_put : (x : ConnectionName) → Each IsPacket (put_to usual_limits [] x)
unfolding put_to
none_put x = tt

pub answers_fit : (agreed : List Command) (x : ConnectionName) → Each IsFitting agreed → Each IsPacket (put_to usual_limits (past_of usual_limits agreed) x)
answers_fit agreed x fits =
    each_put x [] agreed
    (subst (AllByRecursion (AllByRecursion CanBeSpelled)) (usual_lists_stand agreed).1 (all_spelled (empty_state 64) agreed fits (lists_are_in_range 64 [] tt).0)) (none_put x)
