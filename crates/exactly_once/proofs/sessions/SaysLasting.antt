-- While a session lasts, a place at which the client's next packet is taken says what it carries,
-- and adds what is new to the story of the session as well.
use Rattle.std.proofs.Common.{◌≡◌, ℕ, Bool, true, false, List, [], ◌∷◌, ◌++◌, Option, Some, None, refl, sym, ◌∙◌, ap, subst, arith, inl, inr, ◌⊎◌}
use Rattle.std.specs.Prelude.{slice_get}
use Rattle.lists.specs.Lists.{In}
use Rattle.lists.proofs.Members.{in_right}
use Rattle.broker_spec.specs.Connection.{same_connection}
use Rattle.broker_spec.specs.Place.{Client, Limits}
use Rattle.broker_spec.specs.Sessions.{current_connection}
use Rattle.broker_spec.specs.Received.{is_new}
use Rattle.broker_spec.specs.Marks.{mark_of}
use Rattle.broker_spec.specs.Commands.{place_of}
use Rattle.broker_spec.specs.NobodyTheorems.{IsSteady}
use Rattle.broker_spec.specs.declared.command.Command.{Command}
use Rattle.session_base.specs.declared.publication.Publication.{Publication}
use Rattle.client_base.specs.Keeper.{Written, Keeper}
use Rattle.exactly_once.specs.Sides.{ClientConnection}
use Rattle.exactly_once.specs.Story.{Story}
use Rattle.exactly_once.specs.StoryCommands.{packet_count, with_one_counted, command_of}
use Rattle.exactly_once.specs.Carried.{carries, more_by, new_numbers}
use Rattle.exactly_once.specs.Inside.Shape.{NamesApart, LastIsCurrent, IsSoundStory}
use Rattle.exactly_once.proofs.keeping.StoryTrace.{told_stories_are_sound}
use Rattle.exactly_once.proofs.publishing.Last.{each_there}
use Rattle.exactly_once.proofs.publishing.kept.Numbers.{same_counted, same_numbers}
use Rattle.exactly_once.proofs.carrying.PlacesSay.{Says}
use Rattle.exactly_once.proofs.carrying.Publications.{IsOf}
use Rattle.exactly_once.proofs.carrying.SaysTaken.{taken_says}
use Rattle.exactly_once.proofs.sessions.Beside.{kept_of, IsHeadKept, AreGone, IsKept, IsLeft, find, with_connections, none_kept}
use Rattle.exactly_once.proofs.sessions.Anew.{waiting}
use Rattle.exactly_once.proofs.sessions.EachPlaced.{IsOwnCommand}
use Rattle.exactly_once.proofs.sessions.Life.{IsCounted, IsLife}
use Rattle.exactly_once.proofs.sessions.LifePlaces.{life_command}
use Rattle.exactly_once.proofs.sessions.LastingGoes.{Stands}
use Rattle.exactly_once.proofs.sessions.CarriedAlike.{both_carry, nobodys_says, nobodys_new, left_not_current}

-- ---- the story of the session is sound

pub record HasSound (limits : Limits) (c : Client) (flags : List Bool) (s : Story) : Type 0 where
  pub keeper : Keeper
  pub client : keeper.client ≡ c
  pub head : IsHeadKept flags
  pub gone : AreGone flags s.connections
  pub sound : IsSoundStory limits (with_connections s.past keeper (kept_of flags s.connections))

pub stands_sound : (limits : Limits) → IsSteady limits → (c : Client) (flags : List Bool) (s : Story) → IsLife limits c s → Stands limits c flags s → HasSound limits c flags s
stands_sound limits steady c flags s life (inr b) =
    record {
      keeper = s.keeper;
      client = life.keeper.client;
      head = b.head;
      gone = b.gone;
      sound = told_stories_are_sound limits steady c (with_connections s.past s.keeper (kept_of flags s.connections)) b.told;
    }
stands_sound limits steady c flags s life (inl a) =
    let keeper = waiting c [] [] s.keeper.is_open in
    record {
      keeper = keeper;
      client = refl;
      head = a.awaits.head;
      gone = subst (AreGone flags) (sym a.are) a.awaits.gone;
      sound = subst (λ (l : List ClientConnection). IsSoundStory limits (with_connections s.past keeper (kept_of flags l))) (sym a.are)
          (told_stories_are_sound limits steady c (with_connections s.past keeper (kept_of flags (a.newest ∷ a.others))) (a.awaits.told [] tt));
    }

kept_apart : (flags : List Bool) (connections : List ClientConnection) → NamesApart connections → NamesApart (kept_of flags connections)
kept_apart [] connections h = h
kept_apart (true ∷ flags) [] h = tt
kept_apart (false ∷ flags) [] h = tt
kept_apart (true ∷ flags) (κ ∷ connections) h = (none_kept (same_connection κ.name) flags connections h.0, kept_apart flags connections h.1)
kept_apart (false ∷ flags) (κ ∷ connections) h = kept_apart flags connections h.1

not_current : (limits : Limits) (c : Client) (flags : List Bool) (s : Story) (i : ℕ) (κ : ClientConnection) → HasSound limits c flags s → IsLeft flags s.connections i κ → current_connection s.past c ≡ Some κ.name → ⊥
not_current limits c flags s i κ h l =
    left_not_current κ.name (current_connection s.past c) (kept_of flags s.connections)
    (subst (λ (d : Client). LastIsCurrent (current_connection s.past d) (kept_of flags s.connections)) h.client h.sound.shape.last_is_current) l.none

pub more_none : (b : Bool) (o : Option ℕ) → b ≡ false → more_by b o ≡ []
more_none true o e = cc
more_none false (Some k) e = refl
more_none false None e = refl

-- ---- what is new

pub takes_alike : (limits : Limits) (c : Client) (flags : List Bool) (s : Story) (i : ℕ) (κ : ClientConnection) (w : Written) → IsLife limits c s → HasSound limits c flags s → slice_get s.connections i ≡ Some κ
    → slice_get κ.written κ.taken ≡ Some w → (command : Command) → IsOwnCommand c κ w.packet command
    → more_by (is_new command (mark_of limits s.past command)) (carries (with_one_counted i s.connections) command s.past)
    ≡ more_by (is_new command (mark_of limits s.past command)) (carries (kept_of flags (with_one_counted i s.connections)) command s.past)
takes_alike limits c flags s i κ w life h stands next command kind = by (find flags s.connections i κ life.connections.names h.gone stands) kind
  where
    new : Bool
    new = is_new command (mark_of limits s.past command)

    Goal : Type 0
    Goal = more_by new (carries (with_one_counted i s.connections) command s.past) ≡ more_by new (carries (kept_of flags (with_one_counted i s.connections)) command s.past)

    by : IsKept flags s.connections i κ ⊎ IsLeft flags s.connections i κ → IsOwnCommand c κ w.packet command → Goal
    by (inl k) kind =
        ap (more_by new)
        (both_carry s.past c i k.j s.connections (kept_of flags s.connections) κ w command kind life.connections.names (kept_apart flags s.connections life.connections.names) stands k.stands next
        (each_there (IsCounted s.past) i s.connections κ stands life.connections.counted).counted
        ∙ ap (λ (l : List ClientConnection). carries l command s.past) (sym k.counted))
    by (inr l) (inl k) = absurd (let a = l.taken in let b = k.0 in omega (arith, a, b))
    by (inr l) (inr k) =
        let old : new ≡ false =
        ap (λ d. is_new d (mark_of limits s.past d)) k.1 ∙ nobodys_new limits s.past c i s.connections κ w.packet life.connections.nobody stands (not_current limits c flags s i κ h l) in
        more_none new (carries (with_one_counted i s.connections) command s.past) old ∙ sym (more_none new (carries (kept_of flags (with_one_counted i s.connections)) command s.past) old)

-- ---- what the place says

pub says_lasting : (limits : Limits) (c : Client) (flags : List Bool) (s : Story) (i : ℕ) (κ : ClientConnection) (w : Written) (ps : List Publication) (olds : List ℕ) → IsLife limits c s → HasSound limits c flags s
    → new_numbers s.connections s.past ≡ olds ++ new_numbers (kept_of flags s.connections) s.past → slice_get s.connections i ≡ Some κ → slice_get κ.written κ.taken ≡ Some w → IsOf ps w.packet w.number
    → Says c ps (with_one_counted i s.connections) (place_of limits s.past (command_of κ.name κ.taken w.packet)) s.past
says_lasting limits c flags s i κ w ps olds life h is stands next of = by (find flags s.connections i κ life.connections.names h.gone stands) (life_command limits c s i κ w life stands next)
  where
    command : Command
    command = command_of κ.name κ.taken w.packet

    kept : List ClientConnection
    kept = kept_of flags s.connections

    counted : packet_count κ.name s.past ≡ κ.taken
    counted = (each_there (IsCounted s.past) i s.connections κ stands life.connections.counted).counted

    Goal : Type 0
    Goal = Says c ps (with_one_counted i s.connections) (place_of limits s.past command) s.past

    by : IsKept flags s.connections i κ ⊎ IsLeft flags s.connections i κ → IsOwnCommand c κ w.packet command → Goal
    by (inl k) kind =
        let same =
        both_carry s.past c i k.j s.connections kept κ w command kind life.connections.names (kept_apart flags s.connections life.connections.names) stands k.stands next counted in
        let says = taken_says limits s.past h.keeper kept ps k.j κ w.packet w.number κ.taken h.sound.shape h.sound.publisher k.stands next refl of in
        record {
          known = λ n e again.
              subst (In n) (sym (same_numbers s.connections (with_one_counted i s.connections) s.past (same_counted s.past i s.connections) ∙ is))
              (in_right olds (subst (In n) (same_numbers kept (with_one_counted k.j kept) s.past (same_counted s.past k.j kept)) (says.known n (sym same ∙ e) again)));
          own = λ n e d taken. says.own n (sym same ∙ e) d taken ∙ h.client;
          of = λ n x p e is. says.of n x p (sym same ∙ e) is;
        }
    by (inr l) (inl k) = absurd (let a = l.taken in let b = k.0 in omega (arith, a, b))
    by (inr l) (inr k) =
        subst (λ (d : Command). Says c ps (with_one_counted i s.connections) (place_of limits s.past d) s.past) (sym k.1)
        (nobodys_says limits s.past c ps i s.connections κ w life.connections.names life.connections.nobody stands next counted (not_current limits c flags s i κ h l) of)
