-- What holds for the two ends of a connection, and that it is kept if more is written, read, sent,
-- taken or agreed.
use Rattle.std.proofs.Common.{◌≡◌, ◌≤◌, ◌<◌, ℕ, zero, suc, false, List, [], ◌∷◌, ◌++◌, length, filter, set, take, Some, refl, ap, ap₂, sym, ◌∙◌, subst, arith}
use Rattle.std.specs.Prelude.{slice_get}
use Rattle.std.proofs.lemmas.List.{take-append-le, length-append}
use Rattle.packet.specs.declared.packet.Packet.{Packet}
use Rattle.broker_spec.specs.Connection.{ConnectionName}
use Rattle.broker_spec.specs.Commands.{past_of, usual_limits}
use Rattle.broker_spec.specs.AnswersInOrder.{answers_of}
use Rattle.broker_spec.specs.declared.command.Command.{Command}
use Rattle.lists.specs.Lists.{IsPrefixOf}
use Rattle.lists.proofs.Prefixes.{prefix_take}
use Rattle.client_base.specs.Keeper.{Written}
use Rattle.client_base.specs.Written.{writes_first}
use Rattle.exactly_once.specs.Sends.{sends_to, put_to}
use Rattle.exactly_once.specs.Sides.{ClientConnection}
use Rattle.exactly_once.specs.StoryCommands.{command_of}
use Rattle.headline.specs.packet_world.World.{End}
use Rattle.headline.specs.packet_world.Steps.{shown}
use Rattle.headline.specs.packet_world.Exact.{commands_from, PipeInOrder, PipesInOrder}
use Rattle.headline.proofs.of_packet_world.Lists.{take_next, stands_within}
use Rattle.headline.proofs.of_packet_world.Answers.{of_name, put_front, put_push}

-- of one connection
pub record PipeHolds (agreed : List Command) (κ : ClientConnection) (e : End) : Type 0 where
  pub read : κ.taken ≤ e.read
  pub within : e.read ≤ length κ.written
  pub up : filter (of_name κ.name) agreed ≡ commands_from κ.name 0 (take κ.taken κ.written)
  pub seen : e.seen ≤ length agreed
  pub shown : e.put ≡ put_to usual_limits (past_of usual_limits (take e.seen agreed)) κ.name
  pub handled : κ.handled ≤ length e.put

-- of each
abbrev pub PipesHold : List Command → List ClientConnection → List End → Type 0
PipesHold agreed (κ ∷ connections) (e ∷ ends) = PipeHolds agreed κ e × PipesHold agreed connections ends
PipesHold agreed [] [] = Unit {0}
PipesHold agreed _ _ = ⊥

-- ---- what it says

front_from : (x : ConnectionName) (n k : ℕ) (ws : List Written) → IsPrefixOf (commands_from x n (take k ws)) (commands_from x n ws)
front_from x n zero ws = record { rest = commands_from x n ws; is = refl }
front_from x n (suc k) [] = record { rest = []; is = refl }
front_from x n (suc k) (w ∷ ws) = let ih = front_from x (suc n) k ws in record { rest = ih.rest; is = ap (λ l. command_of x n w.packet ∷ l) ih.is }

pipe_in_order : (agreed : List Command) (κ : ClientConnection) (e : End) → PipeHolds agreed κ e → PipeInOrder agreed κ e
pipe_in_order agreed κ e h =
    record {
      up = subst (λ (l : List Command). IsPrefixOf l (commands_from κ.name 0 κ.written)) (sym h.up) (front_from κ.name 0 κ.taken κ.written);
      down = subst (λ (l : List Packet). IsPrefixOf l (put_to usual_limits (past_of usual_limits agreed) κ.name)) (sym h.shown)
          (put_front usual_limits (take e.seen agreed) agreed κ.name (prefix_take e.seen agreed));
      handled = h.handled;
    }

pub pipes_in_order : (agreed : List Command) (connections : List ClientConnection) (ends : List End) → PipesHold agreed connections ends → PipesInOrder agreed connections ends
pipes_in_order agreed [] [] h = tt
pipes_in_order agreed [] (e ∷ ends) h = h
pipes_in_order agreed (κ ∷ connections) [] h = h
pipes_in_order agreed (κ ∷ connections) (e ∷ ends) h = (pipe_in_order agreed κ e h.0, pipes_in_order agreed connections ends h.1)

pub pipe_at : (agreed : List Command) (connections : List ClientConnection) (ends : List End) (j : ℕ) (κ : ClientConnection) (e : End) → PipesHold agreed connections ends
    → slice_get connections j ≡ Some κ → slice_get ends j ≡ Some e → PipeHolds agreed κ e
pipe_at agreed [] ends j κ e h a b = cc
pipe_at agreed (μ ∷ connections) [] j κ e h a b = absurd h
pipe_at agreed (μ ∷ connections) (f ∷ ends) zero κ e h a b =
    let same : μ ≡ κ = cc in
    let other : f ≡ e = cc in
    subst (λ (ν : ClientConnection). PipeHolds agreed ν e) same (subst (λ (g : End). PipeHolds agreed μ g) other h.0)
pipe_at agreed (μ ∷ connections) (f ∷ ends) (suc j) κ e h a b = pipe_at agreed connections ends j κ e h.1 a b

-- ---- the node's end

-- one becomes another
pub end_set : (agreed : List Command) (connections : List ClientConnection) (ends : List End) (j : ℕ) (κ : ClientConnection) (e : End) → PipesHold agreed connections ends
    → slice_get connections j ≡ Some κ → PipeHolds agreed κ e → PipesHold agreed connections (set ends j e)
end_set agreed [] ends j κ e h a b = cc
end_set agreed (μ ∷ connections) [] j κ e h a b = h
end_set agreed (μ ∷ connections) (f ∷ ends) zero κ e h a b = let same : μ ≡ κ = cc in (subst (λ (ν : ClientConnection). PipeHolds agreed ν e) (sym same) b, h.1)
end_set agreed (μ ∷ connections) (f ∷ ends) (suc j) κ e h a b = (h.0, end_set agreed connections ends j κ e h.1 a b)

pub more_read : (agreed : List Command) (κ : ClientConnection) (e : End) → PipeHolds agreed κ e → e.read < length κ.written → PipeHolds agreed κ (record e { read = suc e.read })
more_read agreed κ e h less =
    let r = h.read in
    record { read = omega (arith, r); within = omega (arith, less); up = h.up; seen = h.seen; shown = h.shown; handled = h.handled }

pub more_shown : (agreed : List Command) (κ : ClientConnection) (e : End) (command : Command) → PipeHolds agreed κ e → slice_get agreed e.seen ≡ Some command
    → PipeHolds agreed κ (shown agreed κ.name command e)
more_shown agreed κ e command h next =
    let front = take e.seen agreed in
    let more = sends_to κ.name (answers_of usual_limits (past_of usual_limits front) command) in
    let long = length-append e.put more in
    let few = h.handled in
    record {
      read = h.read;
      within = h.within;
      up = h.up;
      seen = stands_within agreed e.seen command next;
      shown = ap (λ l. l ++ more) h.shown ∙ sym (put_push usual_limits front command κ.name) ∙ ap (λ l. put_to usual_limits (past_of usual_limits l) κ.name) (sym (take_next agreed e.seen command next));
      handled = omega (arith, long, few);
    }

pub end_closed : (agreed : List Command) (κ : ClientConnection) (e : End) → PipeHolds agreed κ e → PipeHolds agreed κ (record e { is_open = false })
end_closed agreed κ e h = record { read = h.read; within = h.within; up = h.up; seen = h.seen; shown = h.shown; handled = h.handled }

-- ---- the client's end

-- with more written, and this many handled
pub more_written : (agreed : List Command) (κ after : ClientConnection) (e : End) (n : ℕ) (more : List Written) → after.name ≡ κ.name → after.taken ≡ κ.taken → after.handled ≡ n
    → after.written ≡ κ.written ++ more → n ≤ length e.put → PipeHolds agreed κ e → PipeHolds agreed after e
more_written agreed κ after e n more name taken handled written few h =
    let r = h.read in
    let w = h.within in
    let long = ap length written ∙ length-append κ.written more in
    let front : take after.taken after.written ≡ take κ.taken κ.written =
    ap₂ (λ k l. take k l) taken written ∙ take-append-le κ.taken κ.written more (omega (arith, r, w)) in
    record {
      read = omega (arith, r, taken);
      within = omega (arith, w, long);
      up = ap (λ x. filter (of_name x) agreed) name ∙ h.up ∙ ap₂ (λ x l. commands_from x 0 l) (sym name) (sym front);
      seen = h.seen;
      shown = h.shown ∙ ap (put_to usual_limits (past_of usual_limits (take e.seen agreed))) (sym name);
      handled = omega (arith, handled, few);
    }

pub first_written : (agreed : List Command) (connections : List ClientConnection) (ends : List End) (more : List Written) → PipesHold agreed connections ends
    → PipesHold agreed (writes_first more connections) ends
first_written agreed [] ends more h = h
first_written agreed (κ ∷ connections) [] more h = h
first_written agreed (κ ∷ connections) (e ∷ ends) more h = (more_written agreed κ _ e κ.handled more refl refl refl refl h.0.handled h.0, h.1)
