use Rattle.std.proofs.Common.{◌≡◌, ◌≤◌, ◌++◌, length, take}
use Rattle.std.specs.Prelude.{filter, option_map}
use Rattle.std.specs.List.{flat_map}
use Rattle.admin.specs.Json.{session_tokens}
use Rattle.admin.specs.Sessions.{comes_after}
use Rattle.admin.specs.declared.sessions_page.TheConstants.{MAX_LISTED}
use Rattle.admin.proofs.sessions_page.put_listed.Given as goal

abbrev pub invariant-loop-session : goal.invariant-loop-session
invariant-loop-session l = record {
  before : l.writer.before ≡ l.initial.writer.before;
  tokens : l.writer.tokens ≡ l.initial.writer.tokens
      ++ flat_map session_tokens (filter (comes_after (option_map (λ client. client.now) l.after)) (take l.session-index l.sessions));
  count : l.listed ≡ length (filter (comes_after (option_map (λ client. client.now) l.after)) (take l.session-index l.sessions));
  within : l.listed ≤ MAX_LISTED;
}
