-- The next packet of a connection in a later list is the next that its client wrote.
use Rattle.std.proofs.Common.{◌≡◌, ◌≤◌, ◌<◌, ◌+◌, ℕ, zero, suc, Bool, true, false, if◌then◌else◌, List, [], ◌∷◌, ◌++◌, length, filter, take, Some, refl, ap, ap₂, sym, ◌∙◌, arith, append_assoc}
use Rattle.std.specs.Prelude.{slice_get}
use Rattle.broker_spec.specs.Connection.{ConnectionName}
use Rattle.broker_spec.specs.declared.command.Command.{Command}
use Rattle.client_base.specs.Keeper.{Written}
use Rattle.exactly_once.specs.Sides.{ClientConnection}
use Rattle.exactly_once.specs.StoryCommands.{is_packet_of, command_of}
use Rattle.headline.specs.packet_world.World.{End, ClientEnds, PacketWorld}
use Rattle.headline.specs.packet_world.Steps.{HasPipe}
use Rattle.headline.specs.packet_world.Exact.{commands_from}
use Rattle.headline.specs.packet_world.Served.{ServesWorld}
use Rattle.headline.proofs.of_packet_world.Lists.{each_get}
use Rattle.headline.proofs.of_packet_world.Answers.{of_name}
use Rattle.headline.proofs.of_packet_world.Ends.{PipeHolds, pipe_at}
use Rattle.headline.proofs.of_packet_world.Holds.{HasPipes, Holds}

-- ---- the next of a connection's packets

pub record IsNext (x : ConnectionName) (n taken read : ℕ) (ws : List Written) (y : Command) : Type 0 where
  pub written : Written
  pub stands : slice_get ws taken ≡ Some written
  pub less : taken < read
  pub is : y ≡ command_of x (n + taken) written.packet

pub no_cons : {X : Type 0} (y : X) (more : List X) → [] ≡ y ∷ more → ⊥
no_cons y more e = cc

next_there : (x : ConnectionName) (n taken read : ℕ) (ws : List Written) (y : Command) (more : List Command) → taken ≤ read → read ≤ length ws
    → commands_from x n (take read ws) ≡ commands_from x n (take taken ws) ++ y ∷ more → IsNext x n taken read ws y
next_there x n zero zero ws y more few within e = absurd (no_cons y more e)
next_there x n zero (suc read) [] y more few within e = absurd (no_cons y more e)
next_there x n zero (suc read) (w ∷ ws) y more few within e =
    let first : command_of x n w.packet ≡ y = cc in
    let same : n ≡ n + 0 = omega arith in
    record { written = w; stands = refl; less = omega arith; is = sym first ∙ ap (λ k. command_of x k w.packet) same }
next_there x n (suc taken) zero ws y more few within e = absurd (omega (arith, few))
next_there x n (suc taken) (suc read) [] y more few within e = absurd (omega (arith, within))
next_there x n (suc taken) (suc read) (w ∷ ws) y more few within e =
    let rest : commands_from x (suc n) (take read ws) ≡ commands_from x (suc n) (take taken ws) ++ y ∷ more = cc in
    let next = next_there x (suc n) taken read ws y more (omega (arith, few)) (omega (arith, within)) rest in
    let less = next.less in
    let same : suc n + taken ≡ n + suc taken = omega arith in
    record { written = next.written; stands = next.stands; less = omega (arith, less); is = next.is ∙ ap (λ k. command_of x k next.written.packet) same }

pub filter_joined : {X : Type 0} (test : X → Bool) (xs ys : List X) → filter test (xs ++ ys) ≡ filter test xs ++ filter test ys
filter_joined test [] ys = refl
filter_joined test (x ∷ xs) ys = by (test x) (filter_joined test xs ys)
  where
    by : (b : Bool) → filter test (xs ++ ys) ≡ filter test xs ++ filter test ys → (if b then x ∷ filter test (xs ++ ys) else filter test (xs ++ ys)) ≡ (if b then x ∷ filter test xs else filter test xs) ++ filter test ys
    by true ih = ap (λ l. x ∷ l) ih
    by false ih = ih

pub next_of : (w : PacketWorld) (later rest : List Command) (y : Command) (i j : ℕ) (c : ClientEnds) (κ : ClientConnection) (e : End) → Holds w → ServesWorld w later → later ≡ w.agreed ++ y ∷ rest
    → HasPipe w i c j κ e → is_packet_of y κ.name ≡ true → IsNext κ.name 0 κ.taken e.read κ.written y
next_of w later rest y i j c κ e h served is pipe mine =
    let holds : PipeHolds w.agreed κ e = pipe_at w.agreed c.connections c.ends j κ e (each_get (HasPipes w.agreed) w.clients i c h.pipes pipe.client) pipe.connection pipe.end in
    let order = served.order i j c κ e pipe in
    let test = of_name κ.name in
    let cut : filter test later ≡ commands_from κ.name 0 (take κ.taken κ.written) ++ y ∷ filter test rest =
    ap (filter test) is ∙ filter_joined test w.agreed (y ∷ rest) ∙ ap₂ (λ l b. l ++ (if b then y ∷ filter test rest else filter test rest)) holds.up mine in
    next_there κ.name 0 κ.taken e.read κ.written y (filter test rest ++ order.rest) holds.read holds.within
    (order.is ∙ ap (λ l. l ++ order.rest) cut ∙ append_assoc (commands_from κ.name 0 (take κ.taken κ.written)) (y ∷ filter test rest) order.rest)
