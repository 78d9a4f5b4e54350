-- How orders are answered: the line of each answer, and the word for what a node does.
use Rattle.std.specs.Prelude.{◌==◌, ◌++◌, ℕ, codes, decimal, if◌then◌else◌}
use Rattle.ballot_base.specs.declared.status.Role.{Role}
use Rattle.ballot_base.specs.declared.status.Role.TheVariants as roles
use Rattle.ballot_base.specs.declared.status.Status.{Status}
use Rattle.script.specs.Fields.{Text}
use Rattle.script.specs.declared.orders.answers.Answer.{Answer}
use Rattle.script.specs.declared.orders.answers.Answer.TheVariants as answers
use Rattle.script.specs.declared.orders.answers.StatusLine.{StatusLine}

-- the line of an answer
abbrev pub answer_text : Answer → Text
answer_text (answers.Ballot ballot) = codes "ballot " ++ decimal ballot
answer_text (answers.Crashed number) = codes "crashed " ++ decimal number
answer_text (answers.Expelled client) = codes "expel " ++ client.now
answer_text (answers.Refused number) = codes "refused " ++ decimal number

-- how many commands a node holds, and of how many it knows that all members hold them
abbrev pub counts_text : ℕ → ℕ → Text
counts_text held committed =
    codes "held " ++ decimal held ++ codes " committed " ++ decimal committed

-- the line for a node: its number, its ballot, what it does, and these counts
abbrev pub node_text : ℕ → ℕ → Text → ℕ → ℕ → Text
node_text number ballot role held committed =
    codes "node " ++ decimal number ++ codes " ballot " ++ decimal ballot ++ codes " " ++ role
    ++ codes " " ++ counts_text held committed

-- the text of a line
abbrev pub line_text : StatusLine → Text
line_text line = node_text line.number line.ballot line.role.now line.held line.committed

-- the word for a role in a ballot
abbrev pub word_of : Role → Text
word_of roles.Backup = codes "backup"
word_of roles.Fetching = codes "fetching"
word_of roles.Installing = codes "installing"
word_of roles.Active = codes "primary"

-- the word for what a node does: it crashed, joined no ballot yet, or has a role in one
abbrev pub role_of : Status → Text
role_of shown =
    if shown.stopped then codes "crashed" else
    if shown.ballot == 0 then codes "none" else word_of shown.role

-- the line for a node that showed a status
abbrev pub text_of_status : ℕ → Status → Text
text_of_status number shown =
    node_text number shown.ballot (role_of shown) shown.held shown.committed
