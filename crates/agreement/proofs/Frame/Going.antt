-- Going.antt: going on is nothing, or one step after another.
use Rattle.std.proofs.Common.{◌≡◌, ℕ, ◌+◌, ◌≤◌, ◌⊎◌, inl, inr, Some, refl, ◌∙◌, arith}
use Rattle.std.specs.Prelude.{slice_get}
use Rattle.machine.specs.Machine.{Rules}
use Rattle.agreement.specs.whole_logs.Replica.{ReplicaState}
use Rattle.agreement.specs.World.{GroupWorld}
use Rattle.agreement.specs.Inside.Ballots.{History, Acknowledged}
use Rattle.agreement.specs.Inside.Extension.{Extends}
use Rattle.agreement.specs.Inside.Keeps.{HistoryGoesOn}
use Rattle.agreement.specs.Inside.Sound.{IsSoundWorld}
use Rattle.lists.proofs.Prefixes.{prefix_same, prefix_then}

-- nothing happened
abbrev pub goes_same : {S C O : Type 0} (rules : Rules S C O) (w : GroupWorld S C O) (h : History C) → IsSoundWorld rules w h → HistoryGoesOn rules w h w
goes_same rules w h s =
    record {
      history = h;
      extends = record {
        sent = λ x i. i;
        nodes = λ n r e. (r, e, omega arith);
        given = λ b g e. e;
        lines = λ b l e. (l, e, refl, prefix_same l.list);
        told = λ n b k r e t. inl t;
      };
      active = λ b i. i;
      sound = s;
    }

-- a later world of a later world
pub extends_then : {S C O : Type 0} (u w v : GroupWorld S C O) (g h i : History C) → Extends u g w h → Extends w h v i → Extends u g v i
extends_then {S = S} {C = C} u w v g h i x y =
    record {
      sent = λ m j. y.sent m (x.sent m j);
      nodes = λ n r e. let a = x.nodes n r e in let b = y.nodes n a.0 a.1 in
          (b.0, b.1, (let c = a.2 in let d = b.2 in omega (arith, c, d)));
      given = λ b o e. y.given b o (x.given b o e);
      lines = λ b l e. let a = x.lines b l e in let c = y.lines b a.0 a.1 in (c.0, c.1, c.2 ∙ a.2, prefix_then a.3 c.3);
      told = λ n b k r e t. let a = x.nodes n r e in by_second n b k r e a.0 a.2 (y.told n b k a.0 a.1 t);
    }
  where
    by_second : (n b k : ℕ) (r : ReplicaState S C) → slice_get u.nodes n ≡ Some r → (q : ReplicaState S C) → r.joined ≤ q.joined →
        Acknowledged w h (n + 1) b k ⊎ (q.joined ≤ b) → Acknowledged u g (n + 1) b k ⊎ (r.joined ≤ b)
    by_second n b k r e q up (inl t) = x.told n b k r e t
    by_second n b k r e q up (inr low) = inr (omega (arith, up, low))

abbrev pub goes_then : {S C O : Type 0} (rules : Rules S C O) (u w v : GroupWorld S C O) (g : History C) → (a : HistoryGoesOn rules u g w) →
    HistoryGoesOn rules w a.history v → HistoryGoesOn rules u g v
goes_then rules u w v g a b =
    record {
      history = b.history;
      extends = extends_then u w v g a.history b.history a.extends b.extends;
      active = λ c i. b.active c (a.active c i);
      sound = b.sound;
    }
