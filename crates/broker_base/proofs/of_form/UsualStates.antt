-- UsualStates.antt: a broker that begins is a usual one, and stays it.
use Rattle.std.proofs.Common.{◌<◌, ◌^◌, arith, rules, refl}
use Rattle.std.specs.List.Sorted.{IsStrictlySortedBy}
use Rattle.broker_spec.specs.Commands.{usual_limits}
use Rattle.broker_spec.specs.Logged.{IsBrokerCommand}
use Rattle.broker_spec.specs.Window.{IsWindowSize}
use Rattle.broker_spec.specs.declared.command.Command.{Command}
use Rattle.broker_spec.specs.declared.command.Command.TheVariants as commands
use Rattle.broker_base.specs.State.{State, empty_state}
use Rattle.broker_base.specs.Step.{step, window_after}
use Rattle.broker_base.specs.form.FormTheorems.{IsUsualState}
use Rattle.broker_base.proofs.StatesStaySound.{stays_in_window}
use Rattle.broker_base.proofs.of_form.States.{stays_in_range}
use Rattle.broker_base.proofs.of_form.Windows.{no_more}

pub empty_is_usual : IsUsualState (empty_state 64)
unfolding IsStrictlySortedBy
empty_is_usual = (
  record {
    sound = record { by_client = tt; apart = tt; sessions = tt };
    few_sessions = omega arith;
    sessions = tt;
    rising = tt;
    few_topics = omega arith;
    retained = tt;
  },
  refl,
  tt,
)

pub stays_usual : (state : State) (command : Command) → IsUsualState state → IsBrokerCommand command → IsUsualState (step usual_limits 64 state command).0
stays_usual state command usual good =
    let small : usual_limits.entries < 2 ^ 16 = search rules in (
      stays_in_range usual_limits 64 state command small good usual.0,
      window command usual.1,
      stays_in_window usual_limits 64 state command (no_more state.window usual.1) usual.0.sound usual.2,
    )
  where
    window : (command : Command) → IsWindowSize state.window → IsWindowSize (window_after 64 command state.window)
    window (commands.Start ballot) e = refl
    window (commands.Connect x c clean) e = e
    window (commands.Packet x packet) e = e
    window (commands.Lost x) e = e
    window (commands.Expel c) e = e
