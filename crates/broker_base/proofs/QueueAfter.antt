-- The entries of every past are sound, and after one more command the queue is the step of the queue.
use Rattle.std.proofs.Common.{◌≡◌, ℕ, zero, suc, Bool, true, false, ◌==◌, if◌then◌else◌, Option, Some, None, List, [], ◌∷◌, ◌++◌, length, map, refl, ap, ap₂, ◌∙◌}
use Rattle.packet.specs.declared.packet.Packet.TheVariants as packets
use Rattle.session_base.specs.declared.publication.Publication.{Publication}
use Rattle.session_base.specs.Queue.{Flight, awaited, on_puback, on_pubcomp}
use Rattle.broker_spec.specs.Connection.{ConnectionName}
use Rattle.broker_spec.specs.Place.{Client, same_client, Mark, Past, Limits}
use Rattle.broker_spec.specs.Sessions.{current_connection, clean_session_of, begins, in_session}
use Rattle.broker_spec.specs.Subscriptions.{subscriptions_of}
use Rattle.broker_spec.specs.Retained.{retained_publications}
use Rattle.broker_spec.specs.Entries.{Entry, copies_by, copies_at, queued}
use Rattle.broker_spec.specs.Readings.{released_at, released_below, waiting_of}
use Rattle.broker_spec.specs.Times.{answered_by, started, window_at, entries_of}
use Rattle.broker_base.specs.ClientSession.{sent_flights, released_flight, flights_below, queue_of}
use Rattle.broker_base.specs.SessionStep.{copies_with, filled_on}
use Rattle.broker_base.proofs.flights.FillingAlways.{answered_flights}
use Rattle.broker_spec.specs.declared.command.Command.{Command}
use Rattle.broker_spec.specs.declared.command.Command.TheVariants as commands
use Rattle.broker_spec.proofs.SoundEntries.{Sound, sound_none}
use Rattle.broker_spec.proofs.AnswersStaySound.{sound_more, sound_puback, sound_pubrec, sound_pubcomp}
use Rattle.broker_spec.proofs.SoundStarts.{sound_new, sound_started}
use Rattle.broker_base.proofs.flights.AnswersInFlight.{flights_puback, flights_pubcomp}
use Rattle.broker_spec.proofs.WaitingStays.{waiting_puback, waiting_pubrec, waiting_pubcomp}
use Rattle.broker_base.proofs.flights.PubrecInFlight.{flights_pubrec}
use Rattle.broker_base.proofs.flights.ReleasesInFlight.{flights_more}
use Rattle.broker_base.proofs.flights.StartsInFlight.{queue_started}

-- ---- the entries of every past are sound

sound_if : (n : ℕ) (b : Bool) (es fs : List Entry) → Sound n es → Sound n fs → Sound n (if b then es else fs)
sound_if n true es fs s t = s
sound_if n false es fs s t = t

pub sound_answered : (command : Command) (mark : Mark) (n : ℕ) (c : Client) (es : List Entry) → Sound n es → Sound (suc n) (answered_by command mark n c es)
sound_answered (commands.Packet x (packets.Puback i)) (Mark.Handled d) n c es s = sound_if (suc n) (same_client d c) _ _ (sound_puback n i es s) (sound_more n es s)
sound_answered (commands.Packet x (packets.Pubrec i)) (Mark.Handled d) n c es s = sound_if (suc n) (same_client d c) _ _ (sound_pubrec n i es s) (sound_more n es s)
sound_answered (commands.Packet x (packets.Pubcomp i)) (Mark.Handled d) n c es s = sound_if (suc n) (same_client d c) _ _ (sound_pubcomp n i es s) (sound_more n es s)
sound_answered _ _ n c es s = sound_more n es s

sound_in_session : (n : ℕ) (session : Option Bool) (beginning : Bool) (es : List Entry) → Sound n es → Sound n (in_session session beginning [] es)
sound_in_session n (Some clean) false es s = s
sound_in_session n (Some clean) true es s = sound_none n
sound_in_session n None beginning es s = sound_none n

pub sound_entries : (limits : Limits) (past : Past) (c : Client) → Sound (length past) (entries_of limits past c)
unfolding entries_of
sound_entries limits [] c = sound_none 0
sound_entries limits (place ∷ past) c =
    sound_in_session (suc (length past)) (clean_session_of (place ∷ past) c) (begins place past c) _
    (sound_started (window_at limits (place ∷ past)) (length past) (current_connection (place ∷ past) c) _
    (sound_new (length past) _ (queued (copies_at place past c))
    (sound_answered place.command place.mark (length past) c (entries_of limits past c) (sound_entries limits past c))))

-- ---- the queue

flights_if : (n : ℕ) (b : Bool) (es others : List Entry) (fs gs : List Flight) → flights_below n es ≡ fs → flights_below n others ≡ gs →
    flights_below n (if b then es else others) ≡ (if b then fs else gs)
flights_if n true es others fs gs e f = e
flights_if n false es others fs gs e f = f

pub flights_answered : (command : Command) (mark : Mark) (n : ℕ) (c : Client) (es : List Entry) → Sound n es →
    flights_below (suc n) (answered_by command mark n c es) ≡ answered_flights command mark c (flights_below n es)
flights_answered (commands.Packet x (packets.Puback i)) (Mark.Handled d) n c es s =
    flights_if (suc n) (same_client d c) _ _ _ _ (flights_puback (suc n) n i es ∙ ap (on_puback i) (flights_more n es s.below)) (flights_more n es s.below)
flights_answered (commands.Packet x (packets.Pubrec i)) (Mark.Handled d) n c es s =
    flights_if (suc n) (same_client d c) _ _ _ _ (flights_pubrec n i es s) (flights_more n es s.below)
flights_answered (commands.Packet x (packets.Pubcomp i)) (Mark.Handled d) n c es s =
    flights_if (suc n) (same_client d c) _ _ _ _ (flights_pubcomp (suc n) n i es ∙ ap (on_pubcomp i) (flights_more n es s.below)) (flights_more n es s.below)
flights_answered _ _ n c es s = flights_more n es s.below

waiting_if : (b : Bool) (es others : List Entry) (ps : List Publication) → waiting_of es ≡ ps → waiting_of others ≡ ps → waiting_of (if b then es else others) ≡ ps
waiting_if true es others ps e f = e
waiting_if false es others ps e f = f

pub waiting_answered : (command : Command) (mark : Mark) (n : ℕ) (c : Client) (es : List Entry) → waiting_of (answered_by command mark n c es) ≡ waiting_of es
waiting_answered (commands.Packet x (packets.Puback i)) (Mark.Handled d) n c es = waiting_if (same_client d c) _ _ _ (waiting_puback n i es) refl
waiting_answered (commands.Packet x (packets.Pubrec i)) (Mark.Handled d) n c es = waiting_if (same_client d c) _ _ _ (waiting_pubrec n i es) refl
waiting_answered (commands.Packet x (packets.Pubcomp i)) (Mark.Handled d) n c es = waiting_if (same_client d c) _ _ _ (waiting_pubcomp n i es) refl
waiting_answered _ _ n c es = refl

waiting_new : (n : ℕ) (es : List Entry) (ps : List Publication) → waiting_of (es ++ map (Entry.Queued n) ps) ≡ waiting_of es ++ ps
waiting_new n [] [] = refl
waiting_new n [] (p ∷ ps) = ap (λ qs. p ∷ qs) (waiting_new n [] ps)
waiting_new n (Entry.Queued made p ∷ es) ps = ap (λ qs. p ∷ qs) (waiting_new n es ps)
waiting_new n (Entry.Sent made p id start ∷ es) ps = waiting_new n es ps
waiting_new n (Entry.Released made p id start release ∷ es) ps = waiting_new n es ps
waiting_new n (Entry.Done made p id start release finish ∷ es) ps = waiting_new n es ps

pub sent_new : (n : ℕ) (es : List Entry) (ps : List Publication) → sent_flights (es ++ map (Entry.Queued n) ps) ≡ sent_flights es
sent_new n [] [] = refl
sent_new n [] (p ∷ ps) = sent_new n [] ps
sent_new n (Entry.Queued made p ∷ es) ps = sent_new n es ps
sent_new n (Entry.Sent made p id start ∷ es) ps = ap (λ fs. (id, awaited p) ∷ fs) (sent_new n es ps)
sent_new n (Entry.Released made p id start release ∷ es) ps = sent_new n es ps
sent_new n (Entry.Done made p id start release finish ∷ es) ps = sent_new n es ps

released_at_new : (t n : ℕ) (es : List Entry) (ps : List Publication) → released_at t (es ++ map (Entry.Queued n) ps) ≡ released_at t es
released_at_new t n [] [] = refl
released_at_new t n [] (p ∷ ps) = released_at_new t n [] ps
released_at_new t n (Entry.Queued made p ∷ es) ps = released_at_new t n es ps
released_at_new t n (Entry.Sent made p id start ∷ es) ps = released_at_new t n es ps
released_at_new t n (Entry.Released made p id start release ∷ es) ps = ap (λ ids. if release == t then id ∷ ids else ids) (released_at_new t n es ps)
released_at_new t n (Entry.Done made p id start release finish ∷ es) ps = released_at_new t n es ps

pub released_new : (t n : ℕ) (es : List Entry) (ps : List Publication) → released_below t (es ++ map (Entry.Queued n) ps) ≡ released_below t es
released_new zero n es ps = refl
released_new (suc t) n es ps = ap₂ (λ xs ys. xs ++ ys) (released_new t n es ps) (released_at_new t n es ps)

pub flights_new : (t n : ℕ) (es : List Entry) (ps : List Publication) → flights_below t (es ++ map (Entry.Queued n) ps) ≡ flights_below t es
flights_new t n es ps = ap₂ (λ ids fs. map released_flight ids ++ fs) (released_new t n es ps) (sent_new n es ps)

pub queue_after : (w : ℕ) (command : Command) (mark : Mark) (n : ℕ) (c : Client) (connection : Option ConnectionName) (es : List Entry) (ps : List Publication) → Sound n es →
    queue_of (suc n) (started w n connection (answered_by command mark n c es ++ map (Entry.Queued n) ps))
    ≡ filled_on connection w (answered_flights command mark c (flights_below n es)) (waiting_of es ++ ps)
queue_after w command mark n c connection es ps s =
    let t : Sound (suc n) (answered_by command mark n c es ++ map (Entry.Queued n) ps) = sound_new n (answered_by command mark n c es) ps (sound_answered command mark n c es s) in
    queue_started w n connection (answered_by command mark n c es ++ map (Entry.Queued n) ps) t.below t.in_order
    ∙ ap₂ (λ fs qs. filled_on connection w fs qs)
    (flights_new (suc n) n (answered_by command mark n c es) ps ∙ flights_answered command mark n c es s)
    (waiting_new n (answered_by command mark n c es) ps ∙ ap (λ qs. qs ++ ps) (waiting_answered command mark n c es))

pub copies_are : (command : Command) (mark : Mark) (past : Past) (c : Client) →
    copies_by command mark past c ≡ copies_with command mark (retained_publications past) c (subscriptions_of past c)
copies_are (commands.Packet x (packets.Publish p)) (Mark.Taken d) past c = refl
copies_are (commands.Packet x (packets.Subscribe s)) (Mark.Granted d which) past c = refl
copies_are _ _ past c = refl
