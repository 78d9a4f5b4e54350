-- WordsOfWays.antt: the two words of a way out, by what was read of them.
use Rattle.std.proofs.Common.{Bor, ◌≡◌, ◌∙◌, ℕ, List, Option, Some, None, option_map, refl, sym, ap}
use Rattle.clap.specs.declared.parser.matches.Found.{Found}
use Rattle.clap.specs.Words.{Text, first_of, first_value, rows_of}
use Rattle.clap.proofs.WalkLemmas.{first_value-rows}
use Rattle.command_line.specs.declared.job.Escape.{Escape}
use Rattle.command_line.specs.Jobs.{IsEscapeOf}

-- what was read of an argument is its first value
pub word_read : (found : Found) (id : Text) (read is : Option (Bor (List ℕ))) → option_map (λ (s : Bor (List ℕ)). s.now) read ≡ first_value found id
    → read ≡ is → first_of id (rows_of found) ≡ option_map (λ (s : Bor (List ℕ)). s.now) is
word_read found id read is value same =
    sym (first_value-rows found id) ∙ sym value ∙ ap (option_map (λ (s : Bor (List ℕ)). s.now)) same

-- a job with two words is one with the same words
pub same_words : (escape client x y : Option Text) (job : Option Escape) → escape ≡ x → client ≡ y → IsEscapeOf x y job → IsEscapeOf escape client job
same_words escape client x y job first second is = rw (first, second) is

-- a client without members has no job
pub client_alone : (escape client : Option Text) (b : Text) (job : Option Escape) → escape ≡ None → client ≡ Some b → IsEscapeOf escape client job → ⊥
client_alone escape client b job first second is = none job (same_words _ _ _ _ job (sym first) (sym second) is)
  where
    none : (job : Option Escape) → IsEscapeOf None (Some b) job → ⊥
    none None is = is
    none (Some j) is = is

-- nor have members without a client
pub members_alone : (escape client : Option Text) (a : Text) (job : Option Escape) → escape ≡ Some a → client ≡ None → IsEscapeOf escape client job → ⊥
members_alone escape client a job first second is = none job (same_words _ _ _ _ job (sym first) (sym second) is)
  where
    none : (job : Option Escape) → IsEscapeOf (Some a) None job → ⊥
    none None is = is
    none (Some j) is = is
