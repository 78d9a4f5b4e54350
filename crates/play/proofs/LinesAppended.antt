-- LinesAppended.antt: what clients newly accepted, line by line, and the lines for one line of a script.
use Rattle.std.proofs.Common.{◌≡◌, ◌<◌, ◌+◌, ℕ, zero, suc, List, [], ◌∷◌, Option, Some, None, Result, Ok, Err, OnOk, ◌++◌, length, take, drop, get_or, map, ap, refl, sym, ◌∙◌, subst, arith}
use Rattle.std.specs.List.{position}
use Rattle.std.proofs.lemmas.List.{append-nil, append_assoc, take_more}
use Rattle.client_base.specs.declared.accepted.Accepted.{Accepted}
use Rattle.session_base.specs.declared.publication.Publication.{Publication}
use Rattle.script.specs.declared.script_line.ScriptLine.{ScriptLine}
use Rattle.play.specs.Lines.{accepted_line}
use Rattle.world_pipes.specs.declared.events.event.Event.{Event}
use Rattle.world_pipes.specs.declared.clients.world_client.WorldClient.{WorldClient}
use Rattle.world.specs.Found.{core_at}
use Rattle.world_pipes.specs.clients.Clients.{is_named}
use Rattle.world.specs.Requests.{EventAsks}
use Rattle.world.specs.Trace.{StaysReached, KeepsGroup}
use Rattle.world_pipes.specs.clients.NodesGoOn.StepsOfGroup.{rests}
use Rattle.world.specs.Events.{EventHappens}
use Rattle.world_pipes.specs.clients.Clients.{new_world_client}
use Rattle.world.specs.StandsFor.{KeepsReached, FollowsModelAsking, asked_on}
use Rattle.master.specs.declared.event.Idle.{Idle}
use Rattle.world.specs.World.{WorldState}
use Rattle.play.specs.declared.played_world.Recipient.{Recipient}
use Rattle.play.specs.Events.{asked_in}
use Rattle.play.specs.Transcripts.{EventComesTo, IsAskedIn}
use Rattle.play.specs.AcceptedLines.{accepted_by_core, accepted_by_client, accepted_lines, lines_after, new_lines}
use Rattle.play.specs.Inside.{Appends, AreWritten, LineComesTo, LineWasWritten, lines_unwritten, names_of, new_recipient, written_at}

-- ---- the lines of one client

lines_join : (name : List ℕ) (xs : List Accepted) (y : Accepted) → accepted_lines name (xs ++ y ∷ []) ≡ accepted_lines name xs ++ accepted_line name y
lines_join name [] y = append-nil (accepted_line name y)
lines_join name (x ∷ xs) y =
    ap (λ (l : List ℕ). accepted_line name x ++ l) (lines_join name xs y) ∙ sym (append_assoc (accepted_line name x) (accepted_lines name xs) (accepted_line name y))

pub one_more_line : (name : List ℕ) (xs : List Accepted) (i : ℕ) (x : Accepted) (old mid new : List ℕ) → i < length xs → x ≡ get_or xs i x
    → mid ≡ old ++ accepted_lines name (take i xs) → new ≡ mid ++ accepted_line name x → new ≡ old ++ accepted_lines name (take (i + 1) xs)
one_more_line name xs i x old mid new below is before one =
    one ∙ ap (λ (l : List ℕ). l ++ accepted_line name x) before ∙ append_assoc old (accepted_lines name (take i xs)) (accepted_line name x)
    ∙ ap (λ (l : List ℕ). old ++ l)
    (sym (lines_join name (take i xs) x) ∙ ap (accepted_lines name) (sym (take_more xs i x below ∙ ap (λ (z : Accepted). take i xs ++ z ∷ []) (sym is))))

-- ---- the lines of all clients

unwritten_join : (w : WorldState) (ls : List Recipient) (one : Recipient) → lines_unwritten (ls ++ one ∷ []) w ≡ lines_unwritten ls w ++ lines_after one.written one.client w
unwritten_join w [] one = append-nil (lines_after one.written one.client w)
unwritten_join w (l ∷ ls) one =
    ap (λ (z : List ℕ). lines_after l.written l.client w ++ z) (unwritten_join w ls one)
    ∙ sym (append_assoc (lines_after l.written l.client w) (lines_unwritten ls w) (lines_after one.written one.client w))

pub one_more_client : (w : WorldState) (ls : List Recipient) (i : ℕ) (one : Recipient) (old mid new : List ℕ) → i < length ls → one ≡ get_or ls i one
    → mid ≡ old ++ lines_unwritten (take i ls) w → new ≡ mid ++ lines_after one.written one.client w → new ≡ old ++ lines_unwritten (take (i + 1) ls) w
one_more_client w ls i one old mid new below is before more =
    more ∙ ap (λ (l : List ℕ). l ++ lines_after one.written one.client w) before ∙ append_assoc old (lines_unwritten (take i ls) w) (lines_after one.written one.client w)
    ∙ ap (λ (l : List ℕ). old ++ l)
    (sym (unwritten_join w (take i ls) one)
    ∙ ap (λ (l : List Recipient). lines_unwritten l w) (sym (take_more ls i one below ∙ ap (λ (z : Recipient). take i ls ++ z ∷ []) (sym is))))

-- an element that was not reached yet is as it was
pub not_reached : (w : WorldState) (ls : List Recipient) (i : ℕ) (d : Recipient) → get_or (map (written_at w) (take i ls) ++ drop i ls) i d ≡ get_or ls i d
not_reached w [] zero d = refl
not_reached w [] (suc i) d = refl
not_reached w (l ∷ ls) zero d = refl
not_reached w (l ∷ ls) (suc i) d = not_reached w ls i d

-- what is not written yet is what is new
pub unwritten_is_new : (ls : List Recipient) (old new : WorldState) → AreWritten ls old → lines_unwritten ls new ≡ new_lines (names_of ls) old new
unwritten_is_new [] old new written = refl
unwritten_is_new (l ∷ ls) old new (written, more) =
    ap (λ (k : ℕ). lines_after k l.client new ++ lines_unwritten ls new) written
    ∙ ap (λ (z : List ℕ). lines_after (length (accepted_by_client l.client old)) l.client new ++ z) (unwritten_is_new ls old new more)

pub all_written : (w : WorldState) (ls : List Recipient) → AreWritten (map (written_at w) ls) w
all_written w [] = tt
all_written w (l ∷ ls) = (refl, all_written w ls)

pub names_stay : (w : WorldState) (ls : List Recipient) → names_of (map (written_at w) ls) ≡ names_of ls
names_stay w [] = refl
names_stay w (l ∷ ls) = ap (λ (z : List (List ℕ)). l.client ∷ z) (names_stay w ls)

-- ---- as a world opens

pub new_names : (clients : List (List ℕ)) → names_of (map new_recipient clients) ≡ clients
new_names [] = refl
new_names (c ∷ cs) = ap (λ (z : List (List ℕ)). c ∷ z) (new_names cs)

none_at : (clients : List (List ℕ)) (at : ℕ) → accepted_by_core (core_at (Some at) (map new_world_client clients)) ≡ []
none_at [] at = refl
none_at (c ∷ cs) zero = refl
none_at (c ∷ cs) (suc at) = none_at cs at

none_of : (clients : List (List ℕ)) (o : Option ℕ) → accepted_by_core (core_at o (map new_world_client clients)) ≡ []
none_of clients None = refl
none_of clients (Some at) = none_at clients at

-- no client has accepted anything
pub none_written : (all clients : List (List ℕ)) (w : WorldState) → w.clients ≡ map new_world_client all → AreWritten (map new_recipient clients) w
none_written all [] w is = tt
none_written all (c ∷ cs) w is = (sym (ap length none), none_written all cs w is)
  where
    none : accepted_by_client c w ≡ []
    none =
        ap (λ (k : List WorldClient). accepted_by_core (core_at (position (is_named c) k) k)) is
        ∙ none_of all (position (is_named c) (map new_world_client all))

-- ---- lines of a script

pub no_event : (script_line : ScriptLine) (world : WorldState) (idle : Idle) → asked_in world script_line ≡ None → LineComesTo script_line world (Err idle) world
no_event script_line world idle none =
    record {
      comes = subst (λ (o : Option Event). EventComesTo o world (Err idle) world) (sym none) (refl, refl);
      goes = record { rises = omega arith; goes = λ g s. record { after = g; goes = rests; stands = s } };
      reached = λ nodes config r. r;
      asked = [];
      asks = subst (λ (o : Option Event). IsAskedIn o world (Err idle) [] world) (sym none) refl;
      exact = λ nodes config cs r. (r, sym (append-nil (asked_on r)));
    }

pub happened : (script_line : ScriptLine) (old : WorldState) (event : Event) (result : Result (Unit {0}) Idle) (new : WorldState) → asked_in old script_line ≡ Some event → EventHappens event old result new
    → KeepsGroup old new → StaysReached old.nodes new.nodes → (asked : List (ℕ × Publication)) × EventAsks event old result asked new × FollowsModelAsking asked old new × KeepsReached asked old new → LineComesTo script_line old result new
happened script_line old event result new is happens goes reached asks =
    record {
      comes = subst (λ (o : Option Event). EventComesTo o old result new) (sym is) happens;
      goes = goes;
      reached = reached;
      asked = asks.0;
      asks = subst (λ (o : Option Event). IsAskedIn o old result asks.0 new) (sym is) asks.1;
      exact = asks.3;
    }

-- a line, the line of its event, and if the last call succeeds, what clients accepted
pub appends : {E : Type 0} (end : Result (Unit {0}) E) (clients : List (List ℕ)) (index : ℕ) (script_line : ScriptLine) (result : Result (Unit {0}) Idle) (before after : WorldState) (ls : List Recipient)
    (a b c : List ℕ) → LineComesTo script_line before result after → LineWasWritten index result after a b → names_of ls ≡ clients → AreWritten ls before → OnOk end (c ≡ b ++ lines_unwritten ls after)
    → OnOk end (Appends clients index script_line before after a c)
appends (Err error) clients index script_line result before after ls a b c comes line named written tells = tells
appends (Ok done) clients index script_line result before after ls a b c comes line named written tells =
    record {
      lines = line.line ++ new_lines clients before after;
      step = record {
        result = result;
        comes = comes.comes;
        line = line.line;
        is_line = line.is_line;
        whole = refl;
        goes = comes.goes;
        reached = comes.reached;
        asked = comes.asked;
        asks = comes.asks;
        exact = comes.exact;
      };
      is = tells ∙ ap (λ (l : List ℕ). b ++ l) (unwritten_is_new ls before after written ∙ ap (λ (n : List (List ℕ)). new_lines n before after) named)
          ∙ ap (λ (l : List ℕ). l ++ new_lines clients before after) line.is ∙ append_assoc a line.line (new_lines clients before after);
    }

-- and then all is written
pub written_after : {E : Type 0} (end : Result (Unit {0}) E) (w : WorldState) (old new : List Recipient) → OnOk end (new ≡ map (written_at w) old) → OnOk end (AreWritten new w)
written_after (Ok done) w old new is = subst (λ (l : List Recipient). AreWritten l w) (sym is) (all_written w old)
written_after (Err error) w old new is = is

pub named_after : {E : Type 0} (end : Result (Unit {0}) E) (w : WorldState) (old mid new : List Recipient) → mid ≡ old → OnOk end (new ≡ map (written_at w) mid)
    → OnOk end (names_of new ≡ names_of old)
named_after (Ok done) w old mid new same is = ap names_of is ∙ names_stay w mid ∙ ap names_of same
named_after (Err error) w old mid new same is = is
