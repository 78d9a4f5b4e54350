use Rattle.broker_base.proofs.StatesStaySound.{stays_sound, stays_filled, stays_in_window, lists_are_sound}
use Rattle.broker_base.proofs.step_theorems.states_stay_sound.Goals as goal

pub returns : goal.returns
returns c = record { step = stays_sound; filled = stays_filled; in_window = stays_in_window; lists = lists_are_sound }
