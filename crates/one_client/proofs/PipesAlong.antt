-- What holds for each connection of a client among others with its pipe, and that what happens keeps it.
use Rattle.std.proofs.Common.{◌≡◌, ℕ, zero, suc, Bool, List, [], ◌∷◌, ◌++◌, map, Some, set, refl, sym, ap, ◌∙◌, subst}
use Rattle.std.specs.Prelude.{slice_get}
use Rattle.lists.specs.Lists.{Each}
use Rattle.packet.specs.Spelling.{IsPacket}
use Rattle.packet.specs.declared.packet.Packet.{Packet}
use Rattle.cutter.specs.Stream.{Stream}
use Rattle.ballot_base.specs.declared.config.Config.{Config}
use Rattle.broker_spec.specs.Connection.{ConnectionName}
use Rattle.client_base.specs.Keeper.{Written}
use Rattle.client_base.specs.Written.{writes, writes_first}
use Rattle.exactly_once.specs.Sides.{ClientConnection}
use Rattle.exactly_once.specs.StoryCommands.{any_named}
use Rattle.headline.specs.node_moves.Puts.{spelled}
use Rattle.headline.specs.node_group.Group.{Group}
use Rattle.headline.specs.node_group.Steps.{GroupStep, GroupTrace}
use Rattle.headline.specs.node_group.Steps.GroupTrace.{then_went}
use Rattle.headline.specs.node_group.Streams.{goes_down, went_down}
use Rattle.headline.specs.byte_world.ClientSteps.{WritesCanBeSpelled}
use Rattle.headline.specs.byte_world.Transport.{IsFaithful}
use Rattle.headline.specs.byte_world.World.{Pipe, newly_written, packets_of, sent_up}
use Rattle.headline.proofs.of_byte_world.OnTheWay.{IsHandled, more_down, newly_is, packets_after, piece_down, written_up}
use Rattle.one_client.specs.Along.{TakesWritten, pipe_after}
use Rattle.one_client.specs.Names.{AreNamed, IsNameAt}
use Rattle.one_client.proofs.PortBytes.{IsUpTo, handed_so, named_before, up_after}

pub record PipeGoes {nodes : ℕ} {config : Config} {g : Group} (went : GroupTrace nodes config g) (κ : ClientConnection) (p : Pipe) : Type 0 where
  pub up : IsUpTo went κ.name (packets_of κ.written) p.node p.port p.up
  pub down : IsHandled κ.handled p.came p.down (went_down κ.name went)

-- of each connection with its pipe
abbrev pub PipesGo : {nodes : ℕ} {config : Config} {g : Group} → GroupTrace nodes config g → List ClientConnection → List Pipe → Type 0
PipesGo went (κ ∷ connections) (p ∷ pipes) = PipeGoes went κ p × PipesGo went connections pipes
PipesGo went [] [] = Unit {0}
PipesGo went _ _ = ⊥

pub pipe_at : {nodes : ℕ} {config : Config} {g : Group} (went : GroupTrace nodes config g) (connections : List ClientConnection) (pipes : List Pipe) (j : ℕ) (κ : ClientConnection) → PipesGo went connections pipes
    → slice_get connections j ≡ Some κ → (p : Pipe) × PipeGoes went κ p
pipe_at went [] pipes j κ go at = cc
pipe_at went (μ ∷ connections) [] j κ go at = absurd go
pipe_at went (μ ∷ connections) (p ∷ pipes) zero κ go at = let same : μ ≡ κ = cc in (p, subst (λ (z : ClientConnection). PipeGoes went z p) same go.0)
pipe_at went (μ ∷ connections) (p ∷ pipes) (suc j) κ go at = pipe_at went connections pipes j κ go.1 at

-- ---- the group does a step

module _ {nodes : ℕ} {config : Config} {g h : Group} (went : GroupTrace nodes config g) (step : GroupStep g h) where
  pub names_before : (connections : List ClientConnection) (pipes : List Pipe) → AreNamed (then_went went step) connections (map (pipe_after step) pipes) → AreNamed went connections pipes
  names_before [] pipes named = tt
  names_before (κ ∷ connections) [] named = tt
  names_before (κ ∷ connections) (p ∷ pipes) named = (named_before went step κ.name p.node p.port named.0, names_before connections pipes named.1)

  one_goes : IsFaithful step → (κ : ClientConnection) (p : Pipe) → IsNameAt went κ.name p.node p.port → TakesWritten went step p → PipeGoes went κ p → PipeGoes (then_went went step) κ (pipe_after step p)
  one_goes faithful κ p named takes go =
      record {
        up = up_after went step faithful κ.name p.node p.port named (packets_of κ.written) p.up takes.once takes.after takes.written go.up;
        down = subst (λ (l : List ℕ). IsHandled κ.handled p.came (p.down ++ l) (went_down κ.name went ++ goes_down κ.name step)) (handed_so went step κ.name p.node p.port faithful named)
            (more_down κ.handled p.came p.down (went_down κ.name went) (goes_down κ.name step) go.down);
      }

  pub pipes_step : IsFaithful step → (connections : List ClientConnection) (pipes : List Pipe) → AreNamed went connections pipes → Each (TakesWritten went step) pipes → PipesGo went connections pipes
      → PipesGo (then_went went step) connections (map (pipe_after step) pipes)
  pipes_step faithful [] [] named takes go = tt
  pipes_step faithful [] (p ∷ pipes) named takes go = go
  pipes_step faithful (κ ∷ connections) [] named takes go = go
  pipes_step faithful (κ ∷ connections) (p ∷ pipes) named takes go = (one_goes faithful κ p named.0 takes.0 go.0, pipes_step faithful connections pipes named.1 takes.1 go.1)

-- ---- the client does something

module _ {nodes : ℕ} {config : Config} {g : Group} (went : GroupTrace nodes config g) where
  -- it writes, and may have handled a packet
  pub written_goes : (κ μ : ClientConnection) (p : Pipe) (came : Stream) (new : List Written) → μ.name ≡ κ.name → μ.written ≡ κ.written ++ new → Each IsPacket (packets_of new)
      → IsHandled μ.handled came p.down (went_down κ.name went) → PipeGoes went κ p → PipeGoes went μ (record p { up = p.up ++ spelled (packets_of new); came = came })
  written_goes κ μ p came new name written whole down go =
      let u = go.up in
      let all : IsUpTo went κ.name (packets_of κ.written ++ packets_of new) p.node p.port (p.up ++ spelled (packets_of new)) = record {
        later = u.later ++ spelled (packets_of new);
        joined = written_up (packets_of κ.written) (packets_of new) _ u.later whole u.joined;
        early = λ none. ap (λ l. l ++ spelled (packets_of new)) (u.early none);
        still = λ core d at i same lives. ap (λ l. l ++ spelled (packets_of new)) (u.still core d at i same lives);
      } in
      record {
        up = subst (λ (x : ConnectionName). IsUpTo went x (packets_of μ.written) p.node p.port (p.up ++ spelled (packets_of new))) (sym name)
            (subst (λ (ps : List Packet). IsUpTo went κ.name ps p.node p.port (p.up ++ spelled (packets_of new))) (sym (packets_after κ μ new written)) all);
        down = subst (λ (x : ConnectionName). IsHandled μ.handled came p.down (went_down x went)) (sym name) down;
      }

  -- on its newest connection
  pub pipes_written : (connections later : List ClientConnection) (pipes : List Pipe) (new : List Written) → later ≡ writes_first new connections → WritesCanBeSpelled connections later
      → PipesGo went connections pipes → PipesGo went later (sent_up (newly_written connections later) pipes)
  pipes_written [] later [] new is whole go = subst (λ (l : List ClientConnection). PipesGo went l []) (sym is) tt
  pipes_written [] later (p ∷ pipes) new is whole go = absurd go
  pipes_written (κ ∷ connections) later [] new is whole go = absurd go
  pipes_written (κ ∷ connections) later (p ∷ pipes) new is whole go =
      let more : newly_written (κ ∷ connections) later ≡ packets_of new = ap (newly_written (κ ∷ connections)) is ∙ newly_is κ (writes new κ) connections connections new refl in
      subst (λ (l : List ClientConnection). PipesGo went l (sent_up (newly_written (κ ∷ connections) later) (p ∷ pipes))) (sym is)
      (subst (λ (ps : List Packet). PipesGo went (writes new κ ∷ connections) (sent_up ps (p ∷ pipes))) (sym more)
      (written_goes κ (writes new κ) p p.came new refl refl (subst (Each IsPacket) more whole) go.0.down go.0, go.1))

  pub names_written : (connections later : List ClientConnection) (pipes : List Pipe) (new : List Written) (ps : List Packet) → later ≡ writes_first new connections → AreNamed went later (sent_up ps pipes)
      → AreNamed went connections pipes
  names_written [] later pipes new ps is named = tt
  names_written (κ ∷ connections) later [] new ps is named = tt
  names_written (κ ∷ connections) later (p ∷ pipes) new ps is named =
      let z = subst (λ (l : List ClientConnection). AreNamed went l (sent_up ps (p ∷ pipes))) is named in (z.0, z.1)

  -- bytes come to it on one of its connections
  pub pipes_set : (connections : List ClientConnection) (pipes : List Pipe) (nth : ℕ) (p q : Pipe) → slice_get pipes nth ≡ Some p → ((κ : ClientConnection) → PipeGoes went κ p → PipeGoes went κ q)
      → PipesGo went connections pipes → PipesGo went connections (set pipes nth q)
  pipes_set connections [] nth p q at keeps go = cc
  pipes_set [] (r ∷ pipes) nth p q at keeps go = absurd go
  pipes_set (κ ∷ connections) (r ∷ pipes) zero p q at keeps go = let same : r ≡ p = cc in (keeps κ (subst (PipeGoes went κ) same go.0), go.1)
  pipes_set (κ ∷ connections) (r ∷ pipes) (suc nth) p q at keeps go = (go.0, pipes_set connections pipes nth p q at keeps go.1)

  pub names_set : (connections : List ClientConnection) (pipes : List Pipe) (nth : ℕ) (p q : Pipe) → slice_get pipes nth ≡ Some p → q.node ≡ p.node → q.port ≡ p.port
      → AreNamed went connections (set pipes nth q) → AreNamed went connections pipes
  names_set [] pipes nth p q at node port named = tt
  names_set (κ ∷ connections) [] nth p q at node port named = tt
  names_set (κ ∷ connections) (r ∷ pipes) zero p q at node port named =
      let same : r ≡ p = cc in (
        subst (λ (z : Pipe). IsNameAt went κ.name z.node z.port) (sym same)
            (subst (λ (n : ℕ). IsNameAt went κ.name n p.port) node (subst (IsNameAt went κ.name q.node) port named.0)),
        named.1,
      )
  names_set (κ ∷ connections) (r ∷ pipes) (suc nth) p q at node port named = (named.0, names_set connections pipes nth p q at node port named.1)

  pub piece_goes : (κ : ClientConnection) (p : Pipe) (piece rest : List ℕ) → p.down ≡ piece ++ rest → PipeGoes went κ p
      → PipeGoes went κ (record p { down = rest; came = record p.came { bytes = p.came.bytes ++ piece } })
  piece_goes κ p piece rest cut go = record { up = go.up; down = piece_down κ.handled p.came p.down piece rest (went_down κ.name went) cut go.down }

-- names are the same after writing
pub named_written : (test : ConnectionName → Bool) (new : List Written) (connections : List ClientConnection) → any_named test (writes_first new connections) ≡ any_named test connections
named_written test new [] = refl
named_written test new (κ ∷ connections) = refl
