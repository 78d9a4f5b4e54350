-- The two ends of connections, if one more command is agreed.
use Rattle.std.proofs.Common.{◌≡◌, ◌≤◌, ◌<◌, ◌+◌, ℕ, zero, suc, true, false, if◌then◌else◌, List, [], ◌∷◌, ◌++◌, length, filter, take, Some, refl, ap, ap₂, sym, ◌∙◌, subst, arith}
use Rattle.std.specs.Prelude.{slice_get}
use Rattle.std.proofs.lemmas.List.{append-nil, take-append-le, length-append}
use Rattle.packet.specs.declared.packet.Packet.{Packet}
use Rattle.broker_spec.specs.Connection.{ConnectionName, same_connection}
use Rattle.broker_spec.specs.Commands.{past_of, usual_limits}
use Rattle.broker_spec.specs.declared.command.Command.{Command}
use Rattle.broker_spec.proofs.ConnectionNames.{same_itself}
use Rattle.lists.specs.Lists.{Each}
use Rattle.client_base.specs.Keeper.{Written}
use Rattle.exactly_once.specs.Sends.{put_to}
use Rattle.exactly_once.specs.Sides.{ClientConnection}
use Rattle.exactly_once.specs.StoryCommands.{any_named, is_packet_of, with_one_counted, command_of}
use Rattle.exactly_once.specs.Inside.Shape.{NamesApart}
use Rattle.exactly_once.proofs.publishing.Last.{none_named, each_there}
use Rattle.exactly_once.proofs.publishing.kept.KeepsCounts.{packet_of}
use Rattle.broker_base.proofs.ConnectionsOfSessions.{same_turned}
use Rattle.headline.specs.packet_world.World.{End}
use Rattle.headline.specs.packet_world.Exact.{commands_from}
use Rattle.headline.proofs.of_packet_world.Lists.{filter_push, take_next}
use Rattle.headline.proofs.of_packet_world.Answers.{of_name}
use Rattle.headline.proofs.of_packet_world.Ends.{PipeHolds, PipesHold}

-- ---- one more command is agreed

none_filtered : (x : ConnectionName) (agreed : List Command) (command : Command) → is_packet_of command x ≡ false → filter (of_name x) (agreed ++ command ∷ []) ≡ filter (of_name x) agreed
none_filtered x agreed command none =
    filter_push (of_name x) agreed command ∙ ap (λ b. filter (of_name x) agreed ++ (if b then command ∷ [] else [])) none ∙ append-nil (filter (of_name x) agreed)

-- of another connection
pub others_more : (agreed : List Command) (command : Command) (κ : ClientConnection) (e : End) → is_packet_of command κ.name ≡ false → PipeHolds agreed κ e → PipeHolds (agreed ++ command ∷ []) κ e
others_more agreed command κ e none h =
    let s = h.seen in
    let long = length-append agreed (command ∷ []) in
    record {
      read = h.read;
      within = h.within;
      up = none_filtered κ.name agreed command none ∙ h.up;
      seen = omega (arith, s, long);
      shown = h.shown ∙ ap (λ l. put_to usual_limits (past_of usual_limits l) κ.name) (sym (take-append-le e.seen agreed (command ∷ []) s));
      handled = h.handled;
    }

pub others_agreed : (agreed : List Command) (command : Command) (connections : List ClientConnection) (ends : List End) → Each (λ (κ : ClientConnection). is_packet_of command κ.name ≡ false) connections
    → PipesHold agreed connections ends → PipesHold (agreed ++ command ∷ []) connections ends
others_agreed agreed command [] [] none h = tt
others_agreed agreed command [] (e ∷ ends) none h = h
others_agreed agreed command (κ ∷ connections) [] none h = h
others_agreed agreed command (κ ∷ connections) (e ∷ ends) none h = (others_more agreed command κ e none.0 h.0, others_agreed agreed command connections ends none.1 h.1)

from_joined : (x : ConnectionName) (n : ℕ) (ws : List Written) (v : Written) → commands_from x n (ws ++ v ∷ []) ≡ commands_from x n ws ++ command_of x (n + length ws) v.packet ∷ []
from_joined x n [] v = let same : n ≡ n + 0 = omega arith in ap (λ k. command_of x k v.packet ∷ []) same
from_joined x n (w ∷ ws) v =
    let same : suc n + length ws ≡ n + suc (length ws) = omega arith in
    ap (λ l. command_of x n w.packet ∷ l) (from_joined x (suc n) ws v ∙ ap (λ k. commands_from x (suc n) ws ++ command_of x k v.packet ∷ []) same)

take_length : {X : Type 0} (n : ℕ) (xs : List X) → n ≤ length xs → length (take n xs) ≡ n
take_length zero xs h = refl
take_length (suc n) [] h = absurd (omega (arith, h))
take_length (suc n) (x ∷ xs) h = ap suc (take_length n xs (omega (arith, h)))

pub command_is_of : (x y : ConnectionName) (n : ℕ) (packet : Packet) → is_packet_of (command_of x n packet) y ≡ same_connection x y
command_is_of x y n packet = packet_of x y n packet

-- its next packet
next_agreed : (agreed : List Command) (κ : ClientConnection) (e : End) (v : Written) → PipeHolds agreed κ e → κ.taken < e.read → slice_get κ.written κ.taken ≡ Some v
    → PipeHolds (agreed ++ command_of κ.name κ.taken v.packet ∷ []) (record κ { taken = suc κ.taken }) e
next_agreed agreed κ e v h less next =
    let command = command_of κ.name κ.taken v.packet in
    let s = h.seen in
    let r = h.read in
    let w = h.within in
    let long = length-append agreed (command ∷ []) in
    let mine : is_packet_of command κ.name ≡ true = command_is_of κ.name κ.name κ.taken v.packet ∙ same_itself κ.name in
    let index : 0 + length (take κ.taken κ.written) ≡ κ.taken = (let t = take_length κ.taken κ.written (omega (arith, r, w)) in omega (arith, t)) in
    record {
      read = omega (arith, less);
      within = h.within;
      up = filter_push (of_name κ.name) agreed command
          ∙ ap₂ (λ l b. l ++ (if b then command ∷ [] else [])) h.up mine
          ∙ ap (λ k. commands_from κ.name 0 (take κ.taken κ.written) ++ command_of κ.name k v.packet ∷ []) (sym index)
          ∙ sym (ap (commands_from κ.name 0) (take_next κ.written κ.taken v next) ∙ from_joined κ.name 0 (take κ.taken κ.written) v);
      seen = omega (arith, s, long);
      shown = h.shown ∙ ap (λ l. put_to usual_limits (past_of usual_limits l) κ.name) (sym (take-append-le e.seen agreed (command ∷ []) s));
      handled = h.handled;
    }

-- of one of these connections
pub one_agreed : (agreed : List Command) (connections : List ClientConnection) (ends : List End) (j : ℕ) (κ : ClientConnection) (e : End) (v : Written) → NamesApart connections → PipesHold agreed connections ends
    → slice_get connections j ≡ Some κ → slice_get ends j ≡ Some e → κ.taken < e.read → slice_get κ.written κ.taken ≡ Some v
    → PipesHold (agreed ++ command_of κ.name κ.taken v.packet ∷ []) (with_one_counted j connections) ends
one_agreed agreed [] ends j κ e v apart h a b less next = cc
one_agreed agreed (μ ∷ connections) [] j κ e v apart h a b less next = absurd h
one_agreed agreed (μ ∷ connections) (f ∷ ends) zero κ e v apart h a b less next =
    let same : κ ≡ μ = cc in
    let other : e ≡ f = cc in
    let first : PipeHolds (agreed ++ command_of κ.name κ.taken v.packet ∷ []) (record κ { taken = suc κ.taken }) e =
    next_agreed agreed κ e v (subst (λ (ν : ClientConnection). PipeHolds agreed ν e) (sym same) (subst (λ (g : End). PipeHolds agreed μ g) (sym other) h.0)) less next in
    let command = command_of κ.name κ.taken v.packet in
    let names = each_named μ κ same connections apart.0 in (
      subst (λ (ν : ClientConnection). PipeHolds (agreed ++ command ∷ []) (record ν { taken = suc ν.taken }) f) same
          (subst (λ (g : End). PipeHolds (agreed ++ command ∷ []) (record κ { taken = suc κ.taken }) g) other first),
      others_agreed agreed command connections ends names h.1,
    )
  where
    each_named : (μ κ : ClientConnection) → κ ≡ μ → (cs : List ClientConnection) → any_named (same_connection μ.name) cs ≡ false
        → Each (λ (ν : ClientConnection). is_packet_of (command_of κ.name κ.taken v.packet) ν.name ≡ false) cs
    each_named μ κ same cs none = by cs (none_named (same_connection μ.name) cs none)
      where
        by : (ds : List ClientConnection) → Each (λ (ν : ClientConnection). same_connection μ.name ν.name ≡ false) ds → Each (λ (ν : ClientConnection). is_packet_of (command_of κ.name κ.taken v.packet) ν.name ≡ false) ds
        by [] n = tt
        by (ν ∷ ds) n = (command_is_of κ.name ν.name κ.taken v.packet ∙ ap (λ (ξ : ClientConnection). same_connection ξ.name ν.name) same ∙ n.0, by ds n.1)
one_agreed agreed (μ ∷ connections) (f ∷ ends) (suc j) κ e v apart h a b less next =
    let other = each_there (λ (ν : ClientConnection). same_connection μ.name ν.name ≡ false) j connections κ a (none_named (same_connection μ.name) connections apart.0) in (
      others_more agreed (command_of κ.name κ.taken v.packet) μ f (command_is_of κ.name μ.name κ.taken v.packet ∙ same_turned κ.name μ.name ∙ other) h.0,
      one_agreed agreed connections ends j κ e v apart.1 h.1 a b less next,
    )
