-- The lines of a transcript, as bytes; 32 is a space, and 10 ends a line.
use Rattle.std.specs.Prelude.{ℕ, List, [], ◌∷◌, ◌++◌, codes}
use Rattle.std.specs.Fmt.{decimal}
use Rattle.client_base.specs.declared.accepted.Accepted.{Accepted}
use Rattle.client_base.specs.printed.Lines.{printed_line, printed}

-- the line of an idle event, as `7 idle`
abbrev pub idle_line : ℕ → List ℕ
idle_line index = decimal index ++ (codes " idle" ++ 10 ∷ [])

-- the line of an event that was done, as `7 ok msgs=3 agreed=1`
abbrev pub done_line : ℕ → ℕ → ℕ → List ℕ
done_line index messages agreed = decimal index
    ++ (codes " ok msgs=" ++ (decimal messages
    ++ (codes " agreed=" ++ (decimal agreed ++ 10 ∷ []))))

-- `accepted b 1 2 0 t/1 x`
abbrev pub accepted_line : List ℕ → Accepted → List ℕ
accepted_line client accepted = codes "accepted "
    ++ (printed client ++ (32 ∷ (decimal accepted.session ++ 32 ∷ printed_line accepted)))

-- `end agreed=8 active=2`
abbrev pub end_line : ℕ → ℕ → List ℕ
end_line agreed active =
    codes "end agreed=" ++ (decimal agreed ++ (codes " active=" ++ (decimal active ++ 10 ∷ [])))
