-- WaysTold.antt: lines of events and numbers of members one after another, and the world in which a
-- script ends.
use Rattle.std.proofs.Common.{◌≡◌, ◌<◌, ◌+◌, ℕ, List, [], ◌∷◌, ◌++◌, Result, Ok, Err, IsErrOf, OnOk, length, take, get_or, decimal, ap, refl, sym, ◌∙◌, subst}
use Rattle.std.specs.Result.{IsErrAnd}
use Rattle.std.proofs.lemmas.List.{append-nil, append_assoc, take_more}
use Rattle.script.specs.Scripts.{IsScript, lines_of}
use Rattle.script.specs.declared.script_line.ScriptLine.{ScriptLine}
use Rattle.script.specs.declared.script_reader.Script.{Script}
use Rattle.world_pipes.specs.declared.events.event.Event.{Event}
use Rattle.world_pipes.specs.declared.events.escape_error.EscapeError.{EscapeError}
use Rattle.world_pipes.specs.declared.events.escape_error.EscapeError.TheVariants as escapes
use Rattle.world.specs.Recovery.{CanEscape, LeadsClientOut}
use Rattle.world.specs.Events.{WorldOpens}
use Rattle.world.specs.World.{WorldState}
use Rattle.play.specs.declared.error.PlayError.{PlayError}
use Rattle.play.specs.declared.error.PlayError.TheVariants as errors
use Rattle.play.specs.Errors.{error_of_escape}
use Rattle.play.specs.Inside.{AppendsLines}
use Rattle.play.specs.Recoveries.{EndsIn, HasNoRecovery, TellsRecovery, event_line, event_lines, more_members}

-- ---- one more line

events_join : (xs : List Event) (y : Event) → event_lines (xs ++ y ∷ []) ≡ event_lines xs ++ event_line y
events_join [] y = append-nil (event_line y)
events_join (x ∷ xs) y = ap (λ (l : List ℕ). event_line x ++ l) (events_join xs y) ∙ sym (append_assoc (event_line x) (event_lines xs) (event_line y))

pub one_more_event : (xs : List Event) (i : ℕ) (x : Event) (old mid new : List ℕ) → i < length xs → x ≡ get_or xs i x
    → mid ≡ old ++ event_lines (take i xs) → new ≡ mid ++ event_line x → new ≡ old ++ event_lines (take (i + 1) xs)
one_more_event xs i x old mid new below is before one =
    one ∙ ap (λ (l : List ℕ). l ++ event_line x) before ∙ append_assoc old (event_lines (take i xs)) (event_line x)
    ∙ ap (λ (l : List ℕ). old ++ l)
    (sym (events_join (take i xs) x) ∙ ap event_lines (sym (take_more xs i x below ∙ ap (λ (z : Event). take i xs ++ z ∷ []) (sym is))))

-- ---- one more member

members_join : (xs : List ℕ) (y : ℕ) → more_members (xs ++ y ∷ []) ≡ more_members xs ++ 44 ∷ decimal y
members_join [] y = ap (λ (l : List ℕ). 44 ∷ l) (append-nil (decimal y))
members_join (x ∷ xs) y =
    ap (λ (l : List ℕ). 44 ∷ (decimal x ++ l)) (members_join xs y)
    ∙ ap (λ (l : List ℕ). 44 ∷ l) (sym (append_assoc (decimal x) (more_members xs) (44 ∷ decimal y)))

pub one_more_member : (xs : List ℕ) (i d : ℕ) (old mid new : List ℕ) → i < length xs
    → mid ≡ old ++ more_members (take i xs) → new ≡ mid ++ 44 ∷ decimal (get_or xs i d) → new ≡ old ++ more_members (take (i + 1) xs)
one_more_member xs i d old mid new below before one =
    one ∙ ap (λ (l : List ℕ). l ++ 44 ∷ decimal (get_or xs i d)) before ∙ append_assoc old (more_members (take i xs)) (44 ∷ decimal (get_or xs i d))
    ∙ ap (λ (l : List ℕ). old ++ l) (sym (members_join (take i xs) (get_or xs i d)) ∙ ap more_members (sym (take_more xs i d below)))

-- ---- the world in which a script ends

pub ends_in : (text old new : List ℕ) (script : Script) (first last : WorldState) (clients : List (List ℕ)) (script_lines : List ScriptLine) → IsScript (lines_of text) script
    → WorldOpens script.opening.nodes script.opening.config script.opening.clients.items first
    → clients ≡ script.opening.clients.items → script_lines ≡ script.lines.items → AppendsLines clients script_lines first last old new → last.losses ≡ 0 → EndsIn text last
ends_in text old new script first last clients script_lines is opens named all on none =
    let whole : AppendsLines script.opening.clients.items script.lines.items first last old new =
    subst (λ (o : List ScriptLine). AppendsLines script.opening.clients.items o first last old new) all (subst (λ (n : List (List ℕ)). AppendsLines n script_lines first last old new) named on) in
    record {
      script = script;
      is_script = is;
      first = first;
      opens = opens;
      lines = whole.lines;
      played = whole.played;
      whole = none;
    }

-- ---- its way out

pub tells_recovery : {E : Type 0} (result : Result (Unit {0}) E) (text members client old new : List ℕ) (last : WorldState) (events written : List Event) → EndsIn text last → CanEscape members client last →
    LeadsClientOut members client last events → written ≡ events → OnOk result (new ≡ old ++ event_lines written) → OnOk result (TellsRecovery text members client old new)
tells_recovery (Ok done) text members client old new last events written ends possible leads same is =
    record { last = last; ends = ends; possible = possible; events = events; leads = leads; is = is ∙ ap (λ (l : List Event). old ++ event_lines l) same }
tells_recovery (Err error) text members client old new last events written ends possible leads same is = is

-- ---- there is none

memory_is_not_idle : errors.Memory ≡ errors.Idle → ⊥
memory_is_not_idle e = cc

error_in : {A : Type 0} → Result A PlayError → PlayError
error_in (Ok value) = errors.Memory
error_in (Err error) = error

-- which error the world's became
gave_idle : {A : Type 0} (result : Result A PlayError) (given : PlayError) → IsErrAnd result (λ e. e ≡ given) → result ≡ Err errors.Idle → given ≡ errors.Idle
unfolding error_in
gave_idle (Ok value) given gave is = absurd gave
gave_idle (Err error) given gave is = sym gave ∙ ap error_in is

pub no_recovery : {A B : Type 0} (result : Result A PlayError) (error : EscapeError) (text members client : List ℕ) (last : WorldState) → EndsIn text last
    → IsErrAnd result (λ given. given ≡ error_of_escape error) → (IsErrOf {T = B} (Err error) escapes.Idle → CanEscape members client last → ⊥)
    → result ≡ Err errors.Idle → HasNoRecovery text members client
no_recovery result escapes.Idle text members client last ends gave none is = record { last = last; ends = ends; none = none refl }
no_recovery result escapes.Memory text members client last ends gave none is = absurd (memory_is_not_idle (gave_idle result errors.Memory gave is))
