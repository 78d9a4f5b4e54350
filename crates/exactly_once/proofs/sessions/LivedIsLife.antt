-- What holds for a client's life at any time holds for every life, in step or not.
use Rattle.broker_spec.specs.Place.{Client, Limits}
use Rattle.exactly_once.specs.Story.{Story}
use Rattle.exactly_once.specs.Lives.{Lived}
use Rattle.exactly_once.specs.Lives.Lived.{opens, goes_on, is_expelled}
use Rattle.exactly_once.proofs.sessions.Life.{IsLife}
use Rattle.exactly_once.proofs.sessions.LifeExpelled.{life_expelled}
use Rattle.exactly_once.proofs.sessions.LifeGoes.{life_goes}
use Rattle.exactly_once.proofs.sessions.EachSession.{life_opens}

pub lived_is_life : (limits : Limits) (c : Client) (s : Story) → Lived limits c s → IsLife limits c s
lived_is_life limits c s opens = life_opens limits c
lived_is_life limits c t (goes_on {before = s} lived h) = life_goes limits c s t (lived_is_life limits c s lived) h
lived_is_life limits c t (is_expelled {before = s} lived) = life_expelled limits c s (lived_is_life limits c s lived)
