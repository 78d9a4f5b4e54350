-- Adding.antt: a step that adds no more than it may adds no more than what is asked less strictly.
use Rattle.std.proofs.Common.{ℕ}
use Rattle.machine.specs.Machine.{Rules}
use Rattle.agreement.specs.whole_logs.StepOutcome.{Outcome}
use Rattle.agreement.specs.World.{GroupWorld}
use Rattle.agreement.specs.Inside.Ballots.{Line, History}
use Rattle.agreement.specs.Inside.Keeps.{KeepsAdding, LineAdds}
use Rattle.agreement.specs.Inside.Keeps.LineAdds.{as_it_was, begins_after, adds_one}

-- what may be added to a list
line_less : {C : Type 0} (adds more : ℕ → C → Type 0) (h : History C) (b : ℕ) (k : Line C) → ((x : ℕ) (c : C) → adds x c → more x c) →
    LineAdds adds h b k → LineAdds more h b k
line_less adds more h b k f (as_it_was e) = as_it_was e
line_less adds more h b k f (begins_after g p e none before front) = begins_after g p e none before front
line_less adds more h b k f (adds_one l c e same a) = adds_one l c e same (f b c a)

pub adds_less : {S C O : Type 0} (rules : Rules S C O) (w : GroupWorld S C O) (h : History C) (n : ℕ) (adds more : ℕ → C → Type 0)
    (o : Outcome S C O) → ((x : ℕ) (c : C) → adds x c → more x c) → KeepsAdding rules w h n adds o → KeepsAdding rules w h n more o
adds_less rules w h n adds more o f keeps given thinned =
    let g = keeps given thinned in
    record {
      history = g.history;
      extends = g.extends;
      active = g.active;
      sound = g.sound;
      ballots = g.ballots;
      added = λ b k e. line_less adds more h b k f (g.added b k e);
      tells = g.tells;
    }
