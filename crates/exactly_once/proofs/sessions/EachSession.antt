-- In each of its sessions a client that is in step accepts a prefix of the QoS 2 entries, in order,
-- and each that is released.
use Rattle.std.proofs.Common.{ℕ, [], ◌∷◌, length, refl, ◌∙◌, ap, subst, inl, inr, ◌⊎◌}
use Rattle.broker_spec.specs.Place.{Client, Limits}
use Rattle.broker_spec.specs.Sessions.{current_connection, clean_session_of, session_start}
use Rattle.broker_spec.specs.NobodyTheorems.{IsSteady}
use Rattle.broker_spec.specs.Commands.{place_of, past_from}
use Rattle.broker_spec.specs.declared.command.Command.TheVariants as commands
use Rattle.exactly_once.specs.Story.{Story, StoryStep, no_story}
use Rattle.exactly_once.specs.StoryTrace.StoryTrace.{begins}
use Rattle.exactly_once.specs.InStep.{IsInStep, entries_in, accepted_in}
use Rattle.exactly_once.specs.Acceptance.{qos2_entries}
use Rattle.exactly_once.specs.Lives.{Lived}
use Rattle.exactly_once.specs.LivesAreExact.{AcceptsInEachSession}
use Rattle.exactly_once.specs.Lives.Lived.{opens, goes_on, is_expelled}
use Rattle.exactly_once.proofs.sessions.StepsBefore.{in_step_before, in_step_expelled}
use Rattle.exactly_once.proofs.sessions.AcceptedShares.{Accepts}
use Rattle.exactly_once.proofs.sessions.Life.{IsLife}
use Rattle.exactly_once.proofs.sessions.LifeExpelled.{life_expelled}
use Rattle.exactly_once.proofs.sessions.LifeGoes.{life_goes}
use Rattle.exactly_once.proofs.sessions.LastingGoes.{stands_head, stands_goes, lasts_goes}
use Rattle.exactly_once.proofs.sessions.LastingAccepts.{lasting_accepts}
use Rattle.exactly_once.proofs.sessions.Parted.{Parts, parts_placed}
use Rattle.exactly_once.proofs.sessions.PartedGoes.{Begins, parted_goes}
use Rattle.exactly_once.proofs.sessions.Lingering.{Lingers, lingers_accepts}
use Rattle.exactly_once.proofs.sessions.LingersPlaced.{lingers_expelled}
use Rattle.exactly_once.proofs.sessions.LingersOn.{lingers_goes}
use Rattle.exactly_once.proofs.sessions.Expelled.{IsOver, LastsStill, lasting_expelled}
use Rattle.exactly_once.proofs.sessions.Expelled.IsOver.{lingers, parts}
use Rattle.exactly_once.proofs.sessions.EachPlaced.{counted_none}
use Rattle.exactly_once.proofs.sessions.BeginsAgain.{anew_stands}

-- its status with a client's sessions: one lasts, or none has begun; or it has ended, and the
-- client still receives packets of it, or not
data IsAt (limits : Limits) (c : Client) (s : Story) : Type 0 where
  lasts : LastsStill limits c s → IsAt limits c s
  over : IsOver limits c s → IsAt limits c s

-- ---- the beginning

pub life_opens : (limits : Limits) (c : Client) → IsLife limits c (no_story c)
unfolding clean_session_of current_connection past_from
life_opens limits c =
    record {
      list = [];
      past_is = refl;
      session = inl refl;
      connections = record { names = tt; untouched = tt; shut = tt; nobody = λ d x e f. cc; counted = tt };
      keeper = record {
        client = refl;
        held = (refl, refl);
        unserved = λ e. record { is = refl; queued = tt; apart = tt };
        silent = λ e. tt;
        numbers = (tt, tt);
        unasked = λ e. refl;
        begun = λ e. cc;
      };
    }

lasts_opens : (limits : Limits) (c : Client) → LastsStill limits c (no_story c)
unfolding session_start
lasts_opens limits c =
    record {
      flags = [];
      stands = inr (record { head = tt; gone = tt; told = begins });
      lasts = record {
        head = tt;
        tail = λ start e. tt;
        unbegun = λ e. refl;
        elsewhere = λ start e. record { prefix = []; others = []; is = refl; accepted = refl; rest = tt };
      };
    }

-- ---- the events

from_begins : (limits : Limits) (c : Client) (t : Story) → Begins limits c t → LastsStill limits c t
from_begins limits c t b = record { flags = b.flags; stands = anew_stands limits c b.flags t b.stands; lasts = b.lasts }

after_parting : (limits : Limits) (c : Client) (t : Story) → Parts limits c t.past t.connections ⊎ Begins limits c t → IsAt limits c t
after_parting limits c t (inl p) = over (parts p)
after_parting limits c t (inr b) = lasts (from_begins limits c t b)

after_lingering : (limits : Limits) (c : Client) (t : Story) → Lingers limits c t ⊎ Parts limits c t.past t.connections → IsAt limits c t
after_lingering limits c t (inl l) = over (lingers l)
after_lingering limits c t (inr p) = over (parts p)

after_expel : (limits : Limits) (c : Client) (t : Story) → LastsStill limits c t ⊎ IsOver limits c t → IsAt limits c t
after_expel limits c t (inl l) = lasts l
after_expel limits c t (inr o) = over o

goes : (limits : Limits) → IsSteady limits → (c : Client) (s t : Story) → IsLife limits c s → IsAt limits c s → StoryStep limits s t → IsInStep t → IsAt limits c t
goes limits steady c s t life (lasts l) h step =
    lasts (record {
      flags = _;
      stands = stands_goes limits c l.flags s t life l.stands h step;
      lasts = lasts_goes limits c l.flags s t life (stands_head limits c l.flags s l.stands) l.lasts h;
    })
goes limits steady c s t life (over (parts p)) h step = after_parting limits c t (parted_goes limits c s t life p h step)
goes limits steady c s t life (over (lingers l)) h step = after_lingering limits c t (lingers_goes limits steady c s t life l h step)

expelled : (limits : Limits) → IsSteady limits → (c : Client) (s : Story) → IsLife limits c s → IsAt limits c s → IsInStep s → IsAt limits c (record s { past = place_of limits s.past (commands.Expel c) ∷ s.past })
expelled limits steady c s life (lasts l) step =
    after_expel limits c (record s { past = place_of limits s.past (commands.Expel c) ∷ s.past }) (lasting_expelled limits steady c l.flags s life l.stands l.lasts step)
expelled limits steady c s life (over (parts p)) step =
    let place = place_of limits s.past (commands.Expel c) in
    over (parts (subst (Parts limits c (place ∷ s.past)) (counted_none s.connections) (parts_placed limits c place s.past (length s.connections) s.connections refl p)))
expelled limits steady c s life (over (lingers l)) step = over (lingers (lingers_expelled limits c s life l))

-- ---- every life

record IsWell (limits : Limits) (c : Client) (s : Story) : Type 0 where
  pub life : IsLife limits c s
  pub at : IsAt limits c s

all_well : (limits : Limits) → IsSteady limits → (c : Client) (s : Story) → Lived limits c s → IsInStep s → IsWell limits c s
all_well limits steady c s opens step = record { life = life_opens limits c; at = lasts (lasts_opens limits c) }
all_well limits steady c t (goes_on {before = s} lived h) step =
    let w = all_well limits steady c s lived (in_step_before limits s t h step) in
    record { life = life_goes limits c s t w.life h; at = goes limits steady c s t w.life w.at h step }
all_well limits steady c t (is_expelled {before = s} lived) step =
    let before = in_step_expelled limits c s step in
    let w = all_well limits steady c s lived before in
    record { life = life_expelled limits c s w.life; at = expelled limits steady c s w.life w.at before }

accepts_at : (limits : Limits) → IsSteady limits → (c : Client) (s : Story) → IsLife limits c s → IsAt limits c s → (start : ℕ) → Accepts limits c s.past s.connections start
accepts_at limits steady c s life (lasts l) start = lasting_accepts limits steady c l.flags s life l.stands l.lasts start
accepts_at limits steady c s life (over (parts p)) start = p.all start
accepts_at limits steady c s life (over (lingers l)) start = lingers_accepts limits steady c s l start

pub lives_accept : (limits : Limits) → IsSteady limits → AcceptsInEachSession limits
lives_accept limits steady c s lived step start =
    let w = all_well limits steady c s lived step in
    let a = accepts_at limits steady c s w.life w.at start in
    record {
      prefix = a.prefix;
      others = a.others;
      is = ap (λ d. qos2_entries (entries_in limits s.past d start)) w.life.keeper.client ∙ a.is;
      accepted = ap (λ d. accepted_in s.past d start s.connections) w.life.keeper.client ∙ a.accepted;
      rest = a.rest;
    }
