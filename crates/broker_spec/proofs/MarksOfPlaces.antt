-- The marks of a list of commands are those that the places below decide.
use Rattle.std.proofs.Common.{◌≡◌, List, [], ◌∷◌, ◌++◌, refl, ap, subst}
use Rattle.broker_spec.specs.Place.{Place, Past, Limits}
use Rattle.broker_spec.specs.Marks.{mark_of}
use Rattle.broker_spec.specs.Commands.{place_of, past_from, past_of}
use Rattle.broker_spec.specs.EndingTheorems.{StandsAt}
use Rattle.broker_spec.specs.declared.command.Command.{Command}

-- each place has the mark that the places below it decide
abbrev pub AreMarked : Limits → Past → Type 0
AreMarked limits (place ∷ past) = (place.mark ≡ mark_of limits past place.command) × AreMarked limits past
AreMarked limits [] = Unit {0}

marked_from : (limits : Limits) (past : Past) (commands : List Command) → AreMarked limits past → AreMarked limits (past_from limits past commands)
unfolding past_from
marked_from limits past [] m = m
marked_from limits past (command ∷ commands) m = marked_from limits (place_of limits past command ∷ past) commands (refl, m)

pub past_is_marked : (limits : Limits) (commands : List Command) → AreMarked limits (past_of limits commands)
past_is_marked limits commands = marked_from limits [] commands tt

marked_below : (limits : Limits) (later below : Past) (place : Place) → AreMarked limits (later ++ place ∷ below) → place.mark ≡ mark_of limits below place.command
marked_below limits [] below place m = m.0
marked_below limits (next ∷ later) below place m = marked_below limits later below place m.1

-- the same for one that is in it
pub mark_is : (limits : Limits) (past : Past) (place : Place) (below : Past) → AreMarked limits past → StandsAt past place below → place.mark ≡ mark_of limits below place.command
mark_is limits past place below m s = marked_below limits s.later below place (subst (AreMarked limits) s.is m)

pub place_is : (limits : Limits) (past : Past) (place : Place) (below : Past) → AreMarked limits past → StandsAt past place below → place ≡ place_of limits below place.command
place_is limits past place below m s = ap (λ mark. let z : Place = record { command = place.command; mark = mark } in z) (mark_is limits past place below m s)
