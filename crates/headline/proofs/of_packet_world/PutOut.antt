-- An open end comes to have what its node gives at the next places of the agreed list.
use Rattle.std.proofs.Common.{◌≡◌, ◌≤◌, ◌+◌, ℕ, zero, suc, List, [], ◌∷◌, ◌++◌, length, map, set, take, drop, Some, refl, ap, sym, ◌∙◌, subst, append_assoc, arith}
use Rattle.std.specs.Prelude.{slice_get}
use Rattle.std.proofs.lemmas.List.{append-nil, map-append}
use Rattle.machine.specs.Machine.{replay}
use Rattle.agreement.specs.whole_logs.Application.{outputs_from, outputs_between}
use Rattle.agreement.specs.whole_logs.Messages.{Effect}
use Rattle.agreement.specs.whole_logs.Messages.Effect.{Out}
use Rattle.agreement.specs.World.{outputs}
use Rattle.agreement.proofs.Given.Places.{between_joins, none_between}
use Rattle.broker_spec.specs.Connection.{ConnectionName}
use Rattle.broker_spec.specs.Commands.{past_of, usual_limits}
use Rattle.broker_spec.specs.AnswersInOrder.{answers_of}
use Rattle.broker_spec.specs.declared.command.Command.{Command}
use Rattle.broker_spec.specs.declared.command.Output.{Output}
use Rattle.broker_base.specs.Step.{step}
use Rattle.lists.proofs.Places.{get_set}
use Rattle.exactly_once.specs.Sends.{sends_to}
use Rattle.exactly_once.proofs.Deliveries.{sends_append}
use Rattle.headline.specs.packet_world.World.{End, ClientEnds, PacketWorld, with_client}
use Rattle.headline.specs.packet_world.Steps.{Reached, shown}
use Rattle.headline.specs.packet_world.Steps.PacketWorldStep.{answers}
use Rattle.headline.specs.packet_world.Steps.Reached.{goes_on}
use Rattle.broker_base.specs.form.BrokerRules.{broker_rules}
use Rattle.headline.specs.packet_world.PutOut.{GivenIsPutOut, outputs_alone, end_given}
use Rattle.headline.proofs.of_packet_world.BrokerRules.{gives_answers}

-- ---- lists

set_same : {X : Type 0} (xs : List X) (n : ℕ) (x : X) → slice_get xs n ≡ Some x → set xs n x ≡ xs
set_same [] n x e = refl
set_same (y ∷ xs) zero x e = let h : x ≡ y = cc in ap (λ z. z ∷ xs) h
set_same (y ∷ xs) (suc n) x e = ap (λ zs. y ∷ zs) (set_same xs n x e)

set_twice : {X : Type 0} (xs : List X) (n : ℕ) (x y : X) → set (set xs n x) n y ≡ set xs n y
set_twice [] n x y = refl
set_twice (z ∷ xs) zero x y = refl
set_twice (z ∷ xs) (suc n) x y = ap (λ zs. z ∷ zs) (set_twice xs n x y)

there_is : {X : Type 0} (xs : List X) (n : ℕ) → suc n ≤ length xs → (x : X) × (slice_get xs n ≡ Some x)
there_is [] n low = absurd (omega (arith, low))
there_is (x ∷ xs) zero low = (x, refl)
there_is (x ∷ xs) (suc n) low = there_is xs n (omega (arith, low))

one_place : {X : Type 0} (xs : List X) (n : ℕ) (x : X) → slice_get xs n ≡ Some x → drop n (take (suc n) xs) ≡ x ∷ []
one_place [] n x e = cc
one_place (y ∷ xs) zero x e = let same : y ≡ x = cc in ap (λ z. z ∷ []) same
one_place (y ∷ xs) (suc n) x e = one_place xs n x e

-- ---- what is given

-- what the machine gives at the places of the list from one up to another
abbrev pub between : List Command → ℕ → ℕ → List (ℕ × Output)
between agreed first past = outputs (outputs_between broker_rules agreed first past)

outs_of : (place : ℕ) (os : List Output) → outputs_alone (outputs {C = Command} (map (Out place) os)) ≡ os
outs_of place [] = refl
outs_of place (o ∷ os) = ap (λ rest. o ∷ rest) (outs_of place os)

-- at one place
place_gives : (agreed : List Command) (place : ℕ) (command : Command) → slice_get agreed place ≡ Some command
    → outputs_alone (between agreed place (suc place)) ≡ answers_of usual_limits (past_of usual_limits (take place agreed)) command
place_gives agreed place command e =
    let state = replay broker_rules (take place agreed) in
    let os = (step usual_limits 64 state command).1 in
    ap (λ (us : List Command). outputs_alone (outputs (outputs_from broker_rules state place us))) (one_place agreed place command e)
    ∙ ap (λ (es : List (Effect Command Output)). outputs_alone (outputs es)) (append-nil (map (Out place) os))
    ∙ outs_of place os
    ∙ gives_answers (take place agreed) command

pub given_more : (agreed : List Command) (first place : ℕ) (command : Command) → first ≤ place → place ≤ length agreed → slice_get agreed place ≡ Some command
    → outputs_alone (between agreed first (suc place)) ≡ outputs_alone (between agreed first place) ++ answers_of usual_limits (past_of usual_limits (take place agreed)) command
given_more agreed first place command low within e =
    ap outputs_alone (sym (between_joins broker_rules agreed first place (suc place) low (omega arith) within))
    ∙ map-append (λ (row : ℕ × Output). row.1) (between agreed first place) (between agreed place (suc place))
    ∙ ap (λ us. outputs_alone (between agreed first place) ++ us) (place_gives agreed place command e)

-- the end continues by a place
end_more : (agreed : List Command) (x : ConnectionName) (place : ℕ) (command : Command) (e : End) → e.seen ≤ place → place ≤ length agreed
    → slice_get agreed place ≡ Some command → shown agreed x command (end_given x place (between agreed e.seen place) e) ≡ end_given x (suc place) (between agreed e.seen (suc place)) e
end_more agreed x place command e low within at =
    let now = answers_of usual_limits (past_of usual_limits (take place agreed)) command in
    ap (λ (l : List _). let z : End = record e { seen = suc place; put = l } in z)
    (append_assoc e.put (sends_to x (outputs_alone (between agreed e.seen place))) (sends_to x now)
    ∙ ap (λ us. e.put ++ us) (sym (sends_append x (outputs_alone (between agreed e.seen place)) now)
    ∙ ap (sends_to x) (sym (given_more agreed e.seen place command low within at))))

-- ---- the law

pub given_is_put_out : GivenIsPutOut
given_is_put_out cs w i j c κ e past reached pipe is_open low within = goes (past_less past e.seen low).0 past (past_less past e.seen low).1 within
  where
    past_less : (a b : ℕ) → b ≤ a → (k : ℕ) × (a ≡ b + k)
    past_less a zero low = (a, omega arith)
    past_less zero (suc b) low = absurd (omega (arith, low))
    past_less (suc a) (suc b) low = let z = past_less a b (omega (arith, low)) in let f = z.1 in (z.0, omega (arith, f))

    client_at : ℕ → ClientEnds
    client_at p = record c { ends = set c.ends j (end_given κ.name p (between w.agreed e.seen p) e) }

    still : (p : ℕ) → p ≡ e.seen → with_client i (client_at p) w ≡ w
    still p same =
        ap (λ (z : End). with_client i (record c { ends = set c.ends j z }) w)
        (ap (λ n. end_given κ.name n (between w.agreed e.seen n) e) same
        ∙ ap (λ us. end_given κ.name e.seen us e) (none_between broker_rules w.agreed e.seen)
        ∙ ap (λ l. let z : End = record e { put = l } in z) (append-nil e.put))
        ∙ ap (λ l. with_client i (record c { ends = l }) w) (set_same c.ends j e pipe.end)
        ∙ ap (λ l. let z : PacketWorld = record w { clients = l } in z) (set_same w.clients i c pipe.client)

    next : (p : ℕ) (command : Command) → e.seen ≤ p → p ≤ length w.agreed → slice_get w.agreed p ≡ Some command → Reached cs (with_client i (client_at p) w)
        → Reached cs (with_client i (client_at (suc p)) w)
    next p command above below at before =
        let end = end_given κ.name p (between w.agreed e.seen p) e in
        subst (λ (v : PacketWorld). Reached cs v)
        (ap (λ l. let z : PacketWorld = record w { clients = l } in z) (set_twice w.clients i (client_at p) (record c { ends = set (set c.ends j end) j (shown w.agreed κ.name command end) }))
        ∙ ap (λ l. with_client i (record c { ends = l }) w)
        (set_twice c.ends j end (shown w.agreed κ.name command end) ∙ ap (set c.ends j) (end_more w.agreed κ.name p command e above below at)))
        (goes_on before
        (answers i j (client_at p) κ end command
        (record {
          client = get_set w.clients i c (client_at p) pipe.client;
          connection = pipe.connection;
          end = get_set c.ends j e end pipe.end;
        }) is_open at))

    goes : (k p : ℕ) → p ≡ e.seen + k → p ≤ length w.agreed → Reached cs (with_client i (client_at p) w)
    goes zero p same below = subst (λ (v : PacketWorld). Reached cs v) (sym (still p (omega (arith, same)))) reached
    goes (suc k) zero same below = absurd (omega (arith, same))
    goes (suc k) (suc p) same below =
        let z = there_is w.agreed p below in
        next p z.0 (omega (arith, same)) (omega (arith, below)) z.1 (goes k p (omega (arith, same)) (omega (arith, below)))
