-- What the outputs of a replica make of a node's connections when memory may run out for them.
use Rattle.std.proofs.Common.{◌≡◌, inl, inr, ℕ, Bool, true, false, if◌then◌else◌, not, List, [], ◌∷◌, Option, Some, None, refl, sym, ap, ◌∙◌, subst}
use Rattle.std.specs.List.{find}
use Rattle.std.proofs.lemmas.List.{append-nil}
use Rattle.packet.specs.declared.packet.Packet.{Packet}
use Rattle.packet.specs.Spelling.{spelling}
use Rattle.ballot_base.specs.declared.message.Effect.{Effect}
use Rattle.ballot_base.specs.declared.message.Effect.TheVariants.{Out}
use Rattle.broker_spec.specs.declared.command.Command.{Command}
use Rattle.broker_spec.specs.declared.command.Output.{Output}
use Rattle.broker_spec.specs.declared.command.Output.TheVariants as outputs
use Rattle.broker_spec.specs.Connection.{ConnectionName, same_connection}
use Rattle.broker_spec.proofs.ConnectionNames.{same_itself, same_name}
use Rattle.world_base.specs.declared.node_connections.connection.Connection.{Connection}
use Rattle.world_base.specs.node_connections.Connections.{is_open_named}
use Rattle.world_base.specs.node_connections.ConnectionChanges.{changed_where, closed_connection, failing, with_queued}
use Rattle.world_base.specs.node_core.Core.{CoreState}
use Rattle.world_base.specs.node_core.Lossy.{HandlesAll, Performs}
use Rattle.world_base.specs.node_core.Lossy.HandlesAll.{nothing, does, sends, loses}
use Rattle.world_base.specs.node_core.Effects.{changes_named}
use Rattle.headline.specs.node_moves.Closed.{listed_named}
use Rattle.headline.specs.node_moves.Ends.{AtMostOne, IsOrderly}
use Rattle.headline.specs.node_moves.Puts.{spelled}
use Rattle.headline.proofs.of_node_moves.Kept.{IsMild, Stays, failing_over, left_true, live, named, stays_joined, stays_named, stays_same, stays_handled}
use Rattle.headline.proofs.of_node_moves.Shut.{Shuts, all, listed_closed, shuts_dead, shuts_joined, shuts_on, shuts_others, shuts_same, shuts_unchanged}
use Rattle.headline.proofs.of_node_moves.Shut.Shuts.{is_shut}
use Rattle.headline.proofs.of_node_moves.ShutByOutputs.{bytes_for, bytes_join, named_shuts, right_true, handled_shuts}
use Rattle.headline.proofs.of_node_moves.Views.{found_passes, none_changes, view}

abbrev Given : Type 0
Given = List (Effect Command Output)

-- ---- the replica stays as it is

named_replica : (name : ConnectionName) (f : Connection → Connection) (core : CoreState) → (changes_named name f core).replica ≡ core.replica
unfolding changes_named
named_replica name f core = refl

serves_replica : (output : Output) (core new : CoreState) → Performs output core new → new.replica ≡ core.replica
serves_replica (outputs.Send name packet) core new (inl is) = ap (λ (k : CoreState). k.replica) is ∙ named_replica name (with_queued (spelling packet)) core
serves_replica (outputs.Send name packet) core new (inr is) = ap (λ (k : CoreState). k.replica) is ∙ named_replica name failing core
serves_replica (outputs.Close name) core new is = ap (λ (k : CoreState). k.replica) is ∙ named_replica name closed_connection core

pub delivers_replica : (given : Given) (core new : CoreState) (messages : Given) → HandlesAll given core new messages → new.replica ≡ core.replica
delivers_replica _ core _ _ nothing = refl
delivers_replica _ core new _ (does {place} {output} {core = k} {next = next} {given = given} served more) =
    delivers_replica given next new _ more ∙ serves_replica output core next served
delivers_replica _ core new _ (sends {receiver} {message} {given = given} more) = delivers_replica given core new _ more
delivers_replica _ core new _ (loses {receiver} {message} {given = given} more) = delivers_replica given core new _ more

-- ---- each connection stays as it is read, or is closed

pub failing_is_mild : IsMild failing
failing_is_mild = record { name = λ c. refl; stage = λ c. inr (failing_over c) }

stays_serves : (output : Output) (core new : CoreState) → Performs output core new → IsOrderly core → Stays core new
stays_serves (outputs.Send name packet) core new (inl is) o =
    subst (λ (k : CoreState). Stays core k) (sym is) (stays_handled core (Out 0 (outputs.Send name packet)) o)
stays_serves (outputs.Send name packet) core new (inr is) o = subst (λ (k : CoreState). Stays core k) (sym is) (stays_named name failing core o failing_is_mild)
stays_serves (outputs.Close name) core new is o = subst (λ (k : CoreState). Stays core k) (sym is) (stays_handled core (Out 0 (outputs.Close name)) o)

pub stays_delivers : (given : Given) (core new : CoreState) (messages : Given) → HandlesAll given core new messages → IsOrderly core → Stays core new
stays_delivers _ core _ _ nothing o = stays_same core o
stays_delivers _ core new _ (does {place} {output} {core = k} {next = next} {given = given} served more) o =
    let s = stays_serves output core next served o in stays_joined core next new s (stays_delivers given next new _ more s.orderly)
stays_delivers _ core new _ (sends {receiver} {message} {given = given} more) o = stays_delivers given core new _ more o
stays_delivers _ core new _ (loses {receiver} {message} {given = given} more) o = stays_delivers given core new _ more o

-- ---- what is queued on one that may be closed

pub failing_shuts : (bytes : List ℕ) (c : Connection) → live c ≡ true → Shuts bytes (Some c) (Some (failing c))
failing_shuts bytes c lives = is_shut [] lives (ap not (failing_over c)) (sym (append-nil c.pending)) (record { rest = bytes; is = refl })

-- of that name, and of another
fails_for : (x name : ConnectionName) (bytes : List ℕ) (cs : List Connection) → AtMostOne (named x) cs → (b : Bool) → same_connection x name ≡ b
    → Shuts (if b then bytes else []) (view all (named x) cs) (view all (named x) (changed_where (is_open_named name) failing cs))
fails_for x name bytes cs one true e =
    subst (λ (y : ConnectionName). Shuts bytes (view all (named x) cs) (view all (named x) (changed_where (is_open_named y) failing cs)))
    (same_name x name e) (there (find (is_open_named x) cs) refl)
  where
    there : (o : Option Connection) → find (is_open_named x) cs ≡ o → Shuts bytes (view all (named x) cs) (view all (named x) (changed_where (is_open_named x) failing cs))
    there None f =
        subst (λ (l : List Connection). Shuts bytes (view all (named x) cs) (view all (named x) l)) (sym (none_changes (is_open_named x) failing cs f))
        (shuts_dead bytes (view all (named x) cs) (λ c h. listed_closed x cs c f h))
    there (Some c) f =
        let passes = found_passes (is_open_named x) cs c f in
        shuts_on x (is_open_named x) failing cs c bytes one (λ d. refl) f (right_true (live c) (named x c) passes)
        (failing_shuts bytes c (left_true (live c) (named x c) passes))
fails_for x name bytes cs one false e = by (find (is_open_named name) cs) refl
  where
    flip : (c : Connection) → c.name ≡ name → (b : Bool) → named x c ≡ b → b ≡ false
    flip c is true f =
        let same : x ≡ name = sym (same_name c.name x f) ∙ is in
        sym (subst (λ (y : ConnectionName). same_connection x y ≡ true) same (same_itself x)) ∙ e
    flip c is false f = refl

    by : (o : Option Connection) → find (is_open_named name) cs ≡ o → Shuts [] (view all (named x) cs) (view all (named x) (changed_where (is_open_named name) failing cs))
    by None f = shuts_unchanged x (is_open_named name) failing cs f
    by (Some c) f =
        let is = same_name c.name name (right_true (live c) (named name c) (found_passes (is_open_named name) cs c f)) in
        shuts_others x (is_open_named name) failing cs c (λ d. refl) f (flip c is (named x c) refl)

fails_shuts : (x name : ConnectionName) (packet : Packet) (core : CoreState) → IsOrderly core
    → Shuts (bytes_for x (Out 0 (outputs.Send name packet) ∷ [])) (listed_named x core) (listed_named x (changes_named name failing core))
fails_shuts x name packet core o =
    named_shuts x name failing core (spelled (if same_connection x name then packet ∷ [] else []))
    (by (same_connection x name) (fails_for x name (spelling packet) core.connections (o.names x) (same_connection x name) refl))
  where
    after : Option Connection
    after = view all (named x) (changed_where (is_open_named name) failing core.connections)

    by : (b : Bool) → Shuts (if b then spelling packet else []) (listed_named x core) after → Shuts (spelled (if b then packet ∷ [] else [])) (listed_named x core) after
    by true h = subst (λ (l : List ℕ). Shuts l (listed_named x core) after) (sym (append-nil (spelling packet))) h
    by false h = h

serves_shuts : (x : ConnectionName) (output : Output) (core new : CoreState) → Performs output core new → IsOrderly core
    → Shuts (bytes_for x (Out 0 output ∷ [])) (listed_named x core) (listed_named x new)
serves_shuts x (outputs.Send name packet) core new (inl is) o =
    subst (λ (k : CoreState). Shuts (bytes_for x (Out 0 (outputs.Send name packet) ∷ [])) (listed_named x core) (listed_named x k)) (sym is)
    (handled_shuts x core (Out 0 (outputs.Send name packet)) o)
serves_shuts x (outputs.Send name packet) core new (inr is) o =
    subst (λ (k : CoreState). Shuts (bytes_for x (Out 0 (outputs.Send name packet) ∷ [])) (listed_named x core) (listed_named x k)) (sym is)
    (fails_shuts x name packet core o)
serves_shuts x (outputs.Close name) core new is o =
    subst (λ (k : CoreState). Shuts (bytes_for x (Out 0 (outputs.Close name) ∷ [])) (listed_named x core) (listed_named x k)) (sym is)
    (handled_shuts x core (Out 0 (outputs.Close name)) o)

pub delivers_shuts : (x : ConnectionName) (given : Given) (core new : CoreState) (messages : Given) → HandlesAll given core new messages → IsOrderly core
    → Shuts (bytes_for x given) (listed_named x core) (listed_named x new)
delivers_shuts x _ core _ _ nothing o = shuts_same (listed_named x core)
delivers_shuts x _ core new _ (does {place} {output} {core = k} {next = next} {given = given} served more) o =
    subst (λ (l : List ℕ). Shuts l (listed_named x core) (listed_named x new)) (sym (bytes_join x (Out place output) given))
    (shuts_joined (serves_shuts x output core next served o) (delivers_shuts x given next new _ more (stays_serves output core next served o).orderly))
delivers_shuts x _ core new _ (sends {receiver} {message} {given = given} more) o = delivers_shuts x given core new _ more o
delivers_shuts x _ core new _ (loses {receiver} {message} {given = given} more) o = delivers_shuts x given core new _ more o
