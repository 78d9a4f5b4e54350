use Rattle.std.proofs.Common.{None, Some, codes, refl}
use Rattle.clap.specs.Words.{found_of}
use Rattle.command_line.specs.declared.job.Escape.{Escape}
use Rattle.command_line.proofs.WordsOfWays.{client_alone, members_alone, same_words, word_read}
use Rattle.command_line.proofs.job_matches.escape.Goals.{in_default-via-in-None+in_default, in_default-via-in-Some+in_default}
use Rattle.command_line.proofs.job_matches.escape.Goals as goal

pub returns-in-None-None-clause-job : goal.returns-in-None-None-clause-job
returns-in-None-None-clause-job c =
    let first = word_read (found_of c.args.found.now) (codes "escape") _ _ c.get_str.ensures c.in-None-None.is-0 in
    let second = word_read (found_of c.args.found.now) (codes "client") _ _ c.get_str-2.ensures c.in-None-None.is-1 in
    same_words _ _ None None None first second tt

pub returns-in-Some-Some-clause-job : goal.returns-in-Some-Some-clause-job
returns-in-Some-Some-clause-job c =
    let first = word_read (found_of c.args.found.now) (codes "escape") _ _ c.get_str.ensures c.in-Some-Some.is-0 in
    let second = word_read (found_of c.args.found.now) (codes "client") _ _ c.get_str-2.ensures c.in-Some-Some.is-1 in
    let job : Escape = record { members = c.in-Some-Some.members; client = c.in-Some-Some.client } in
    same_words _ _ (Some c.in-Some-Some.members.now) (Some c.in-Some-Some.client.now) (Some job) first second (refl, refl)

pub returns-in_default-clause-missing : goal.returns-in_default-clause-missing
returns-in_default-clause-missing c _ = elim c.in_default.branch [
  | in_default-via-in-None+in_default w ↦ λ job.
      let first = word_read (found_of c.args.found.now) (codes "escape") _ _ c.get_str.ensures w.in_default.is-0 in
      let second = word_read (found_of c.args.found.now) (codes "client") _ _ c.get_str-2.ensures w.in_default.is-1 in
      client_alone _ _ _ job first second
  | in_default-via-in-Some+in_default w ↦ λ job.
      let first = word_read (found_of c.args.found.now) (codes "escape") _ _ c.get_str.ensures w.in_default.is-0 in
      let second = word_read (found_of c.args.found.now) (codes "client") _ _ c.get_str-2.ensures w.in_default.is-1 in
      members_alone _ _ _ job first second
]
