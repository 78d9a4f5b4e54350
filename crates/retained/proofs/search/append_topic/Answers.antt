-- What is kept of the topic is all that its filter matches.
use Rattle.std.proofs.Common.{◌≡◌, [], ◌∷◌, ◌++◌, ◌∙◌, Some, ap, refl, sym}
use Rattle.retained.specs.Retained.{RetainedTopics, matching_entries}
use Rattle.retained.specs.Inside.{entry_of}
use Rattle.retained.proofs.OneTopic.{one_topic, never_none, none_more}
use Rattle.retained.proofs.search.append_topic.Goals as goal

pub returns-in_ok-push-clause-ok : goal.returns-in_ok-push-clause-ok
returns-in_ok-push-clause-ok c =
    let copied : (c.topic.inside.text, c.in_ok-clone.field-0) ∷ [] ≡ entry_of c.args.topic (Some c.in-Some.kept.now) =
    rw (c.topic.view_is, c.in_ok-clone.ensures.cases) refl in
    c.in_ok-push.ensures.items
    ∙ ap (λ (found : RetainedTopics). c.args.entries.now.items ++ found)
    (copied ∙ ap (entry_of c.args.topic) c.in-Some.ensures.value
    ∙ sym (one_topic c.args.topic c.args.topics.now.entries c.requires c.len-len.ensures.ordered))

pub returns-in_default-clause-ok : goal.returns-in_default-clause-ok
returns-in_default-clause-ok c =
    none_more c.args.entries.now.items _
    (one_topic c.args.topic c.args.topics.now.entries c.requires c.len-len.ensures.ordered
    ∙ sym (ap (entry_of c.args.topic) c.in_default.ensures.value))

pub returns-in_err-clone-clause-nothing : goal.returns-in_err-clone-clause-nothing
returns-in_err-clone-clause-nothing c none =
    absurd (never_none c.args.topic (matching_entries c.args.topics.now.entries c.args.topic) c.in-Some.kept.now
    (one_topic c.args.topic c.args.topics.now.entries c.requires c.len-len.ensures.ordered
    ∙ sym (ap (entry_of c.args.topic) c.in-Some.ensures.value)) none)

pub returns-in_err-push-clause-nothing : goal.returns-in_err-push-clause-nothing
returns-in_err-push-clause-nothing c none =
    absurd (never_none c.args.topic (matching_entries c.args.topics.now.entries c.args.topic) c.in-Some.kept.now
    (one_topic c.args.topic c.args.topics.now.entries c.requires c.len-len.ensures.ordered
    ∙ sym (ap (entry_of c.args.topic) c.in-Some.ensures.value)) none)
