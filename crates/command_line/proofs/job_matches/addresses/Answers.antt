use Rattle.std.proofs.Common.{Bor, codes, List, ℕ, Some, map, option_map, ap, sym, ◌∙◌}
use Rattle.clap.specs.Walk.{texts}
use Rattle.clap.specs.Words.{found_of}
use Rattle.clap.proofs.WalkLemmas.{raw_values-rows}
use Rattle.command_line.proofs.job_matches.addresses.Goals as goal

pub returns-in_ok-from_slice-in-Some-clause-value : goal.returns-in_ok-from_slice-in-Some-clause-value
returns-in_ok-from_slice-in-Some-clause-value c =
    sym (raw_values-rows (found_of c.args.found.now) (codes "address")) ∙ sym c.get_strs.ensures
    ∙ ap (option_map (λ (s : Bor (List (Bor (List ℕ)))). map (λ (v : Bor (List ℕ)). v.now) s.now)) c.in-Some.is
    ∙ ap (λ all. Some (texts all)) (sym c.in_ok-from_slice-in-Some.ensures.items)

pub returns-in-None-clause-missing : goal.returns-in-None-clause-missing
returns-in-None-clause-missing c _ =
    sym (raw_values-rows (found_of c.args.found.now) (codes "address")) ∙ sym c.get_strs.ensures
    ∙ ap (option_map (λ (s : Bor (List (Bor (List ℕ)))). map (λ (v : Bor (List ℕ)). v.now) s.now)) c.in-None.is
