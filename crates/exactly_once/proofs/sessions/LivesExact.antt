-- A client that is in step is promised all, over all its sessions.
use Rattle.std.proofs.Common.{◌≡◌, ◌≤◌, ℕ, true, List, [], ◌∷◌, length, Option, Some, None, refl, sym, ◌∙◌, ap, subst, inl, inr, ◌⊎◌, Bool, ◌++◌}
use Rattle.lists.specs.Lists.{Each}
use Rattle.broker_spec.specs.Place.{Client, Past, Limits}
use Rattle.broker_spec.specs.Sessions.{clean_session_of, session_start}
use Rattle.broker_spec.specs.NobodyTheorems.{IsSteady}
use Rattle.broker_spec.specs.Commands.{place_of}
use Rattle.broker_spec.specs.declared.command.Command.TheVariants as commands
use Rattle.client_base.specs.Keeper.{all_own}
use Rattle.exactly_once.specs.Sides.{ClientConnection}
use Rattle.exactly_once.specs.Story.{Story, StoryStep, no_story}
use Rattle.exactly_once.specs.StoryCommands.{with_one_counted, command_of}
use Rattle.exactly_once.specs.Story.StoryStep.{takes, others_take, receives, opens_anew, loses, disconnects, publishes_one, subscribes, unsubscribes}
use Rattle.exactly_once.specs.StoryTrace.{StoryTrace}
use Rattle.exactly_once.specs.StoryTrace.StoryTrace.{begins}
use Rattle.exactly_once.specs.Carried.{own_publications, new_numbers}
use Rattle.exactly_once.specs.InStep.{IsInStep, AreWelcome, IsFirstSession, has_begun, sessions_begun}
use Rattle.exactly_once.specs.Lives.{Lived, PublishedOverSessions}
use Rattle.exactly_once.specs.LivesAreExact.{LivesAreExact}
use Rattle.exactly_once.specs.Lives.Lived.{opens, goes_on, is_expelled}
use Rattle.exactly_once.proofs.publishing.Last.{each_there}
use Rattle.exactly_once.proofs.publishing.events.Receives.{each_at}
use Rattle.exactly_once.proofs.carrying.EachPublished.{each_published}
use Rattle.exactly_once.proofs.carrying.KeepsPlaces.{IsCarried, SaysNext, keeps_carried, place_carried}
use Rattle.exactly_once.proofs.carrying.Publications.{IsOfOwn}
use Rattle.exactly_once.proofs.sessions.StepsBefore.{in_step_before, in_step_expelled}
use Rattle.exactly_once.proofs.sessions.Life.{IsLife}
use Rattle.exactly_once.proofs.sessions.LifeExpelled.{none_expelled, life_expelled}
use Rattle.exactly_once.proofs.sessions.LifeGoes.{life_goes}
use Rattle.exactly_once.proofs.sessions.Lasting.{Lasts}
use Rattle.exactly_once.proofs.sessions.LastingGoes.{stands_head, lasts_goes}
use Rattle.exactly_once.proofs.sessions.Parted.{Parts, parts_placed}
use Rattle.exactly_once.proofs.sessions.PartedGoes.{Begins, parted_goes}
use Rattle.exactly_once.proofs.sessions.Lingering.{Lingers}
use Rattle.exactly_once.proofs.sessions.LingersPlaced.{lingers_expelled}
use Rattle.exactly_once.proofs.sessions.LingersOn.{lingers_goes}
use Rattle.exactly_once.proofs.sessions.Expelled.{IsOver, expelled_there}
use Rattle.exactly_once.proofs.sessions.Expelled.IsOver.{lingers, parts}
use Rattle.exactly_once.proofs.sessions.EachPlaced.{counted_none}
use Rattle.exactly_once.proofs.sessions.EachSession.{life_opens, lives_accept}
use Rattle.exactly_once.proofs.sessions.Rising.{rising_apart}
use Rattle.exactly_once.proofs.sessions.Numbered.{RisesSoFar, Numbered, stands_numbered, numbered_rises}
use Rattle.exactly_once.proofs.sessions.Numbered.Numbered.{lasts, awaits}
use Rattle.exactly_once.proofs.sessions.NumberedGoes.{counted_all_within, numbered_goes}
use Rattle.exactly_once.proofs.sessions.NumbersOver.{rises_over, rises_placed, says_over, numbered_anew}
use Rattle.exactly_once.proofs.sessions.SaysLasting.{stands_sound, says_lasting}
use Rattle.exactly_once.proofs.sessions.Beside.{beside, flags_after, kept_of}
use Rattle.exactly_once.proofs.sessions.FirstSession.{first_once, none_begun, starts_counted}
use Rattle.exactly_once.proofs.sessions.InTurn.{IsHeadOfLast, IsInTurn, IsTailInTurn, all_in_turn}
use Rattle.exactly_once.proofs.sessions.InTurnGoes.{head_lasting, head_over, turn_expelled, turn_goes}
use Rattle.exactly_once.proofs.places.After.{IsKeptSession}
use Rattle.exactly_once.proofs.sessions.Openings.{no_start, session_began}
use Rattle.std.proofs.lemmas.Bool.{both_ways}
use Rattle.std.specs.Prelude.{is_some}
use Rattle.exactly_once.proofs.carrying.PlacesSay.{Says}

-- its status with a client's sessions, and which of its publications are new
pub data Stage (limits : Limits) (c : Client) (s : Story) : Type 0 where
  lasting : (flags : List Bool) → Numbered limits c flags s → Lasts limits c flags s.past s.connections → Stage limits c s
  over : IsOver limits c s → RisesSoFar c s.past s.keeper s.connections → Stage limits c s

none_over : (limits : Limits) (c : Client) (s : Story) → IsOver limits c s → clean_session_of s.past c ≡ None
none_over limits c s (lingers l) = l.since.none
none_over limits c s (parts p) = p.none

stage_rises : (limits : Limits) → IsSteady limits → (c : Client) (s : Story) → IsLife limits c s → Stage limits c s → RisesSoFar c s.past s.keeper s.connections
stage_rises limits steady c s life (lasting flags n l) = numbered_rises limits steady c flags s life n
stage_rises limits steady c s life (over o r) = r

-- ---- an event

stage_goes : (limits : Limits) → IsSteady limits → (c : Client) (s t : Story) → IsLife limits c s → IsLife limits c t → Stage limits c s → StoryStep limits s t → IsInStep t → Stage limits c t
stage_goes limits steady c s t life later (lasting flags n l) h step =
    lasting (flags_after flags h) (numbered_goes limits steady c flags s t life n h step) (lasts_goes limits c flags s t life (stands_head limits c flags s (stands_numbered limits c flags s n)) l h)
stage_goes limits steady c s t life later (over (parts p) r) h step = by (parted_goes limits c s t life p h step)
  where
    rises : RisesSoFar c t.past t.keeper t.connections
    rises = rises_over limits c s t life later p.none h r

    by : Parts limits c t.past t.connections ⊎ Begins limits c t → Stage limits c t
    by (inl q) = over (parts q) rises
    by (inr b) = lasting b.flags (numbered_anew limits c t later rises b) b.lasts
stage_goes limits steady c s t life later (over (lingers l) r) h step = by (lingers_goes limits steady c s t life l h step)
  where
    rises : RisesSoFar c t.past t.keeper t.connections
    rises = rises_over limits c s t life later l.since.none h r

    by : Lingers limits c t ⊎ Parts limits c t.past t.connections → Stage limits c t
    by (inl q) = over (lingers q) rises
    by (inr q) = over (parts q) rises

-- ---- an Expel of the client

none_there : (past : Past) (c : Client) → IsKeptSession (clean_session_of past c) → session_start past c ≡ None → clean_session_of past c ≡ None
none_there past c (inl none) e = none
none_there past c (inr live) e = absurd (both_ways (is_some (session_start past c)) (ap is_some e) (session_began past c (ap is_some live)))

stage_expelled : (limits : Limits) → IsSteady limits → (c : Client) (s : Story) → IsLife limits c s → IsLife limits c (record s { past = place_of limits s.past (commands.Expel c) ∷ s.past }) → Stage limits c s
    → IsInStep (record s { past = place_of limits s.past (commands.Expel c) ∷ s.past }) → Stage limits c (record s { past = place_of limits s.past (commands.Expel c) ∷ s.past })
stage_expelled limits steady c s life later (lasting flags n l) step = by (session_start s.past c) refl
  where
    t : Story
    t = record s { past = place_of limits s.past (commands.Expel c) ∷ s.past }

    by : (o : Option ℕ) → session_start s.past c ≡ o → Stage limits c (record s { past = place_of limits s.past (commands.Expel c) ∷ s.past })
    by None e =
        let none = none_there s.past c life.session e in
        stage_goes limits steady c s t life later (lasting flags n l)
        (others_take (commands.Expel c) (λ h. both_ways (is_some (clean_session_of s.past s.keeper.client)) (ap (λ d. is_some (clean_session_of s.past d)) life.keeper.client ∙ ap is_some none) h.1) (none_expelled s.connections c))
        step
    by (Some m) e =
        over (expelled_there limits steady c flags s.past s.keeper s.connections m e life (stands_numbered limits c flags s n) l
        (subst (λ (d : Client). AreWelcome s.past d s.connections) life.keeper.client (in_step_expelled limits c s step)))
        (rises_placed limits c s (commands.Expel c) refl (numbered_rises limits steady c flags s life n))
stage_expelled limits steady c s life later (over (parts p) r) step =
    let place = place_of limits s.past (commands.Expel c) in
    over (parts (subst (Parts limits c (place ∷ s.past)) (counted_none s.connections) (parts_placed limits c place s.past (length s.connections) s.connections refl p)))
    (rises_placed limits c s (commands.Expel c) refl r)
stage_expelled limits steady c s life later (over (lingers l) r) step = over (lingers (lingers_expelled limits c s life l)) (rises_placed limits c s (commands.Expel c) refl r)

-- ---- what the places say

lasting_says : (limits : Limits) → IsSteady limits → (c : Client) (flags : List Bool) (s t : Story) → IsLife limits c s → Numbered limits c flags s → (olds : List ℕ)
    → new_numbers s.connections s.past ≡ olds ++ new_numbers (kept_of flags s.connections) s.past → IsCarried limits s → (h : StoryStep limits s t) → SaysNext h
lasting_says limits steady c flags s t life n olds is carried (takes i κ w stands next) =
    let ps = own_publications (all_own s.keeper) in
    subst (λ (d : Client). Says d ps (with_one_counted i s.connections) (place_of limits s.past (command_of κ.name κ.taken w.packet)) s.past) (sym life.keeper.client)
    (says_lasting limits c flags s i κ w ps olds life (stands_sound limits steady c flags s life (stands_numbered limits c flags s n)) is stands next
    (each_at (IsOfOwn ps) κ.taken κ.written w next (each_there (λ (μ : ClientConnection). Each (IsOfOwn ps) μ.written) i s.connections κ stands carried.written)))
lasting_says limits steady c flags s t life n olds is carried (others_take command other none) = tt
lasting_says limits steady c flags s t life n olds is carried (receives κ others packet are opened next) = tt
lasting_says limits steady c flags s t life n olds is carried (opens_anew x fresh none uncounted) = tt
lasting_says limits steady c flags s t life n olds is carried loses = tt
lasting_says limits steady c flags s t life n olds is carried disconnects = tt
lasting_says limits steady c flags s t life n olds is carried (publishes_one p needs) = tt
lasting_says limits steady c flags s t life n olds is carried (subscribes p on id) = tt
lasting_says limits steady c flags s t life n olds is carried (unsubscribes p on id) = tt

stage_says : (limits : Limits) → IsSteady limits → (c : Client) (s t : Story) → IsLife limits c s → Stage limits c s → IsCarried limits s → (h : StoryStep limits s t) → SaysNext h
stage_says limits steady c s t life (lasting flags (lasts b o alone) l) carried h = lasting_says limits steady c flags s t life (lasts b o alone) o.olds o.is carried h
stage_says limits steady c s t life (lasting flags (awaits a o again) l) carried h = lasting_says limits steady c flags s t life (awaits a o again) o.olds o.is carried h
stage_says limits steady c s t life (over o r) carried h = says_over limits c s t life (none_over limits c s o) carried h

-- ---- what it accepts on its newest connection

stage_head : (limits : Limits) (c : Client) (s : Story) → IsLife limits c s → Stage limits c s → IsHeadOfLast s.past c s.connections
stage_head limits c s life (lasting flags n l) = head_lasting limits s.past c s.connections l.head life.connections.shut
stage_head limits c s life (over o r) = head_over limits c s life o

-- ---- every life

pub record IsWell (limits : Limits) (c : Client) (s : Story) : Type 0 where
  pub life : IsLife limits c s
  pub stage : Stage limits c s
  pub carried : IsCarried limits s
  pub turn : IsTailInTurn s.past c s.connections

well_opens : (limits : Limits) (c : Client) → IsWell limits c (no_story c)
unfolding session_start
well_opens limits c =
    record {
      life = life_opens limits c;
      stage = lasting [] (lasts (record { head = tt; gone = tt; told = begins }) (record { olds = []; is = refl; rising = tt; below = tt; alone = λ one. refl }) (λ one. refl))
          (record {
            head = tt;
            tail = λ start e. tt;
            unbegun = λ e. refl;
            elsewhere = λ start e. record { prefix = []; others = []; is = refl; accepted = refl; rest = tt };
          });
      carried = record { written = tt; places = tt; marked = tt; numbers = (tt, tt) };
      turn = tt;
    }

pub all_well : (limits : Limits) → IsSteady limits → (c : Client) (s : Story) → Lived limits c s → IsInStep s → IsWell limits c s
all_well limits steady c s opens step = well_opens limits c
all_well limits steady c t (goes_on {before = s} lived h) step =
    let w = all_well limits steady c s lived (in_step_before limits s t h step) in
    let later = life_goes limits c s t w.life h in
    record {
      life = later;
      stage = stage_goes limits steady c s t w.life later w.stage h step;
      carried = keeps_carried limits s t (counted_all_within s.past s.connections w.life.connections.counted) h (stage_says limits steady c s t w.life w.stage w.carried h) w.carried;
      turn = turn_goes limits c s t w.life (stage_head limits c s w.life w.stage) w.turn h;
    }
all_well limits steady c t (is_expelled {before = s} lived) step =
    let w = all_well limits steady c s lived (in_step_expelled limits c s step) in
    let later = life_expelled limits c s w.life in
    record {
      life = later;
      stage = stage_expelled limits steady c s w.life later w.stage step;
      carried = place_carried limits s (commands.Expel c) refl w.carried;
      turn = turn_expelled limits c s w.turn;
    }

pub lives_publish : (limits : Limits) → IsSteady limits → (c : Client) (s : Story) → Lived limits c s → IsInStep s → PublishedOverSessions limits s
lives_publish limits steady c s lived step =
    let w = all_well limits steady c s lived step in
    let r = stage_rises limits steady c s w.life w.stage in
    record {
      each = each_published limits s w.carried (rising_apart (new_numbers s.connections s.past) r.rising);
      rises = r.rising;
      in_order = λ one. r.first (subst (λ (d : Client). sessions_begun s.past d ≤ 1) w.life.keeper.client one);
    }

lives_in_turn : (limits : Limits) → IsSteady limits → (c : Client) (s : Story) → Lived limits c s → IsInStep s → IsInTurn s.past s.keeper.client s.connections
lives_in_turn limits steady c s lived step =
    let w = all_well limits steady c s lived step in
    subst (λ (d : Client). IsInTurn s.past d s.connections) (sym w.life.keeper.client)
    (all_in_turn s.past c s.connections (stage_head limits c s w.life w.stage) w.turn)

-- ---- while its first session lasts

-- the life has a story of that session, with the same client and the same new publications
pub record HasOneStory (limits : Limits) (c : Client) (s : Story) : Type 0 where
  pub flags : List Bool
  pub told : StoryTrace limits c (beside flags s)
  pub alone : s.keeper.earlier ≡ []
  pub same : new_numbers s.connections s.past ≡ new_numbers (kept_of flags s.connections) s.past

begun_over : (limits : Limits) (c : Client) (s : Story) → IsOver limits c s → has_begun s.past c ≡ true
begun_over limits c s (lingers l) = l.since.begun
begun_over limits c s (parts p) = p.begun

not_over : (limits : Limits) (c : Client) (s : Story) → IsOver limits c s → IsFirstSession s.past c → ⊥
not_over limits c s o (inl none) =
    both_ways (has_begun s.past c) (none_begun s.past c (starts_counted s.past c ∙ ap length none)) (begun_over limits c s o)
not_over limits c s o (inr (start, are, e)) = let f : None ≡ Some start = sym (no_start s.past c (none_over limits c s o)) ∙ e in cc

stage_one : (limits : Limits) (c : Client) (s : Story) → Stage limits c s → IsFirstSession s.past c → HasOneStory limits c s
stage_one limits c s (lasting flags (lasts b o alone) l) first =
    let one = first_once s.past c first in
    record { flags = flags; told = b.told; alone = alone one; same = o.is ∙ ap (λ olds. olds ++ new_numbers (kept_of flags s.connections) s.past) (o.alone one) }
stage_one limits c s (lasting flags (awaits a o again) l) first = absurd (again (first_once s.past c first))
stage_one limits c s (over o r) first = absurd (not_over limits c s o first)

pub first_has_story : (limits : Limits) → IsSteady limits → (c : Client) (s : Story) → Lived limits c s → IsInStep s → IsFirstSession s.past c → HasOneStory limits c s
first_has_story limits steady c s lived step first = stage_one limits c s (all_well limits steady c s lived step).stage first

pub lives_exact : (limits : Limits) → IsSteady limits → LivesAreExact limits
lives_exact limits steady c s lived step =
    record {
      publishers = lives_publish limits steady c s lived step;
      subscribers = lives_accept limits steady c s lived step;
      in_turn = lives_in_turn limits steady c s lived step;
    }
