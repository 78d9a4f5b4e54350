-- PlayedToTheEnd.antt: lines one after another make a transcript, and at their end the nodes
-- agree, and each client is exact.
use Rattle.std.proofs.Common.{◌≡◌, ◌<◌, ◌≤◌, ◌+◌, ℕ, List, [], ◌∷◌, Result, Ok, Err, OnOk, ◌++◌, length, take, get_or, ap, subst, refl, sym, ◌∙◌, arith}
use Rattle.std.proofs.lemmas.List.{append-nil, append_assoc, length-take-le, take_more}
use Rattle.ballot_base.specs.declared.config.Config.{Config}
use Rattle.headline.specs.packet_world.World.{ClientsAreApart}
use Rattle.script.specs.Scripts.{IsScript, lines_of}
use Rattle.script.specs.declared.script_line.ScriptLine.{ScriptLine}
use Rattle.script.specs.declared.script_reader.Script.{Script}
use Rattle.play.specs.Lines.{end_line}
use Rattle.world.specs.Events.{WorldOpens}
use Rattle.world.specs.Trace.{AreReached}
use Rattle.world.specs.StandsFor.{IsReached, asked_on}
use Rattle.world.specs.World.{WorldState}
use Rattle.play.specs.Transcripts.{Played, Plays, ScriptStep}
use Rattle.play.specs.Transcripts.Played.{opens, goes_on}
use Rattle.play.specs.Inside.{Appends, AppendsLines, EndsTranscript, PlaysOn}

-- ---- lines

pub appends_none : (clients : List (List ℕ)) (world : WorldState) (text : List ℕ) → AppendsLines clients [] world world text text
appends_none clients world text = record { lines = []; played = opens; is = sym (append-nil text) }

pub appends_more : (clients : List (List ℕ)) (script_lines : List ScriptLine) (i : ℕ) (script_line : ScriptLine) (first old new : WorldState) (a b c : List ℕ) → i < length script_lines → script_line ≡ get_or script_lines i script_line
    → AppendsLines clients (take i script_lines) first old a b → Appends clients i script_line old new b c → AppendsLines clients (take (i + 1) script_lines) first new a c
appends_more clients script_lines i script_line first old new a b c below is before one =
    let many : length (take i script_lines) ≡ i = length-take-le i script_lines (let l : i ≤ length script_lines = omega (arith, below) in l) in
    let step = subst (λ (k : ℕ). ScriptStep clients k script_line old new one.lines) (sym many) one.step in
    subst (λ (l : List ScriptLine). AppendsLines clients l first new a c) (sym (take_more script_lines i script_line below ∙ ap (λ (z : ScriptLine). take i script_lines ++ z ∷ []) (sym is)))
    (record {
      lines = before.lines ++ one.lines;
      played = goes_on before.played script_line step;
      is = one.is ∙ ap (λ (text : List ℕ). text ++ one.lines) before.is ∙ append_assoc a before.lines one.lines;
    })

-- the same clients by another name
pub renamed : {clients names : List (List ℕ)} {i : ℕ} {script_line : ScriptLine} {old new : WorldState} {a b : List ℕ} → clients ≡ names
    → Appends clients i script_line old new a b → Appends names i script_line old new a b
renamed {i = i} {script_line = script_line} {old = old} {new = new} {a = a} {b = b} is one =
    subst (λ (n : List (List ℕ)). Appends n i script_line old new a b) is one

-- ---- the opening

-- the same clients by another name
pub opened_exact : {nodes : ℕ} {config : Config} {ids clients : List (List ℕ)} {world : WorldState} → ids ≡ clients
    → (ClientsAreApart ids → (reached : IsReached nodes config ids world) × (asked_on reached ≡ []))
    → ClientsAreApart clients → (reached : IsReached nodes config clients world) × (asked_on reached ≡ [])
opened_exact {nodes = nodes} {config = config} {world = world} is exact =
    subst (λ (cs : List (List ℕ)). ClientsAreApart cs → (reached : IsReached nodes config cs world) × (asked_on reached ≡ [])) is exact

pub opened_first : {nodes : ℕ} {config : Config} {ids clients : List (List ℕ)} {world : WorldState} → ids ≡ clients
    → WorldOpens nodes config ids world → WorldOpens nodes config clients world
opened_first {nodes = nodes} {config = config} {world = world} is begun =
    subst (λ (cs : List (List ℕ)). WorldOpens nodes config cs world) is begun

-- ---- agreement

agrees_on : (nodes : ℕ) (config : Config) (clients : List (List ℕ)) (first : WorldState) (script_lines : List ScriptLine) (lines : List ℕ) (last : WorldState)
    → Played clients first script_lines lines last → AreReached nodes config first.nodes → AreReached nodes config last.nodes
agrees_on nodes config clients first _ _ last opens reached = reached
agrees_on nodes config clients first _ _ last (goes_on {script_lines} {lines} {more} {old} played script_line step) reached =
    step.reached nodes config (agrees_on nodes config clients first script_lines lines old played reached)

-- and each client stays exact
exact_on : (nodes : ℕ) (config : Config) (cs clients : List (List ℕ)) (first : WorldState) (script_lines : List ScriptLine) (lines : List ℕ) (last : WorldState)
    → Played clients first script_lines lines last → IsReached nodes config cs first → IsReached nodes config cs last
exact_on nodes config cs clients first _ _ last opens reached = reached
exact_on nodes config cs clients first _ _ last (goes_on {script_lines} {lines} {more} {old} played script_line step) reached =
    (step.exact nodes config cs (exact_on nodes config cs clients first script_lines lines old played reached)).0

-- ---- the whole

-- if the last line was written, memory suffices
pub plays_on : {E : Type 0} (result : Result (Unit {0}) E) (clients : List (List ℕ)) (script_lines : List ScriptLine) (first last : WorldState) (old mid new : List ℕ)
    → AppendsLines clients script_lines first last old mid → OnOk result (EndsTranscript last mid new) → OnOk result (last.losses ≡ 0)
    → OnOk result (PlaysOn clients script_lines first old new 0)
plays_on (Ok done) clients script_lines first last old mid new all ends none =
    record { last = last; mid = mid; all = all; ends = ends; are = none }
plays_on (Err error) clients script_lines first last old mid new all ends none = ends

plays : (text old new : List ℕ) (script : Script) (first : WorldState) (losses : ℕ) → IsScript (lines_of text) script
    → AreReached script.opening.nodes script.opening.config first.nodes
    → (reached : IsReached script.opening.nodes script.opening.config script.opening.clients.items first) × (asked_on reached ≡ []) → WorldOpens script.opening.nodes script.opening.config script.opening.clients.items first
    → PlaysOn script.opening.clients.items script.lines.items first old new losses → Plays text old new losses
plays text old new script first losses is opened exact begun on =
    let clients = script.opening.clients.items in
    let end = end_line on.ends.agreed on.last.nodes.master.active in
    record {
      script = script;
      is_script = is;
      last = on.last;
      transcript = on.all.lines ++ end;
      is_transcript = record {
        first = first;
        begins = begun;
        opened = opened;
        exact = exact.0;
        unasked = exact.1;
        lines = on.all.lines;
        played = on.all.played;
        agreed = on.ends.agreed;
        are_agreed = on.ends.are_agreed;
        is = refl;
      };
      appended = on.ends.is ∙ ap (λ (written : List ℕ). written ++ end) on.all.is ∙ append_assoc old on.all.lines end;
      losses_are = on.are;
      reached = agrees_on script.opening.nodes script.opening.config clients first script.lines.items on.all.lines on.last on.all.played opened;
      exact = exact_on script.opening.nodes script.opening.config clients clients first script.lines.items on.all.lines on.last on.all.played exact.0;
    }

pub plays_well : {E : Type 0} (result : Result (Unit {0}) E) (text old new : List ℕ) (script : Script) (first : WorldState)
    (clients : List (List ℕ)) (script_lines : List ScriptLine) → IsScript (lines_of text) script
    → AreReached script.opening.nodes script.opening.config first.nodes
    → (reached : IsReached script.opening.nodes script.opening.config script.opening.clients.items first) × (asked_on reached ≡ []) → WorldOpens script.opening.nodes script.opening.config script.opening.clients.items first
    → clients ≡ script.opening.clients.items → script_lines ≡ script.lines.items → OnOk result (PlaysOn clients script_lines first old new 0) → OnOk result (Plays text old new 0)
plays_well (Ok done) text old new script first clients script_lines is opened exact begun named all on =
    plays text old new script first 0 is opened exact begun
    (subst (λ (o : List ScriptLine). PlaysOn script.opening.clients.items o first old new 0) all (subst (λ (n : List (List ℕ)). PlaysOn n script_lines first old new 0) named on))
plays_well (Err error) text old new script first clients script_lines is opened exact begun named all on = on

pub plays_losing : (text old new : List ℕ) (script : Script) (first : WorldState) (clients : List (List ℕ)) (script_lines : List ScriptLine) → IsScript (lines_of text) script
    → AreReached script.opening.nodes script.opening.config first.nodes
    → (reached : IsReached script.opening.nodes script.opening.config script.opening.clients.items first) × (asked_on reached ≡ []) → WorldOpens script.opening.nodes script.opening.config script.opening.clients.items first
    → clients ≡ script.opening.clients.items → script_lines ≡ script.lines.items → (losses : ℕ) × ((0 < losses) × PlaysOn clients script_lines first old new losses)
    → (losses : ℕ) × ((0 < losses) × Plays text old new losses)
plays_losing text old new script first clients script_lines is opened exact begun named all (losses, (some, on)) = (
  losses,
  (
    some,
    plays text old new script first losses is opened exact begun
        (subst (λ (o : List ScriptLine). PlaysOn script.opening.clients.items o first old new losses) all
        (subst (λ (n : List (List ℕ)). PlaysOn n script_lines first old new losses) named on)),
  ),
)
