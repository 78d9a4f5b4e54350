-- BrokerAnswers.antt: steps of a broker: what each gives, and by its word.
use Rattle.std.proofs.Common.{◌≡◌, ◌++◌, ℕ, Bool, true, List, [], ◌∷◌, map, drop, Some, None, Ok, codes, bytes_eq, refl, sym, ap, ap₂, subst, ◌∙◌}
use Rattle.rows.specs.Fields.{Text, number_of}
use Rattle.rows.specs.Playing.{Answers}
use Rattle.rows.specs.Answers.{word as word_answer}
use Rattle.packet.specs.declared.packet.Packet.{Packet}
use Rattle.packet.specs.Verdict.{verdict}
use Rattle.broker_spec.specs.Connection.{ConnectionName}
use Rattle.broker_spec.specs.declared.command.Command.{Command}
use Rattle.broker_spec.specs.declared.command.Command.TheVariants as commands
use Rattle.broker_base.specs.State.{State}
use Rattle.broker_base.specs.form.BrokerRules.{broker_rules}
use Rattle.broker_rows.specs.BrokerSteps.{BrokerStep, CommandOf, IsNamed, IsRead, connection_of, flag_text, output_fields}
use Rattle.broker_rows.proofs.Words.{same_one, with_word}

of_word : (old new : State) (word other : Text) (fields : List Text) (answers : Answers) → bytes_eq word other ≡ true
    → BrokerStep old (other ∷ fields) answers new → BrokerStep old (word ∷ fields) answers new
of_word old new word other fields answers is step =
    subst (λ (s : List Text). BrokerStep old s answers new) (sym (with_word word other fields is)) step

-- the only answer
alone : (answer wanted : List Text) (answers : Answers) → answer ≡ wanted → answers ≡ answer ∷ [] → answers ≡ wanted ∷ []
alone answer wanted answers is only = only ∙ ap (λ (a : List Text). a ∷ []) is

pub is_named : (digits : Text) (number : ℕ) (connection : ConnectionName) → number_of digits ≡ Some number
    → connection ≡ connection_of number → IsNamed digits connection
is_named digits number connection read name = (number, read, name)

pub is_read : (bytes rest : List ℕ) (packet sized : Packet) → verdict bytes ≡ Ok (packet, rest) → sized ≡ packet
    → IsRead bytes sized
is_read bytes rest packet sized whole same = (rest, whole ∙ ap (λ (p : Packet). Ok (p, rest)) (sym same))

pub connect_gives : (old new : State) (one two three client : Text) (connection : ConnectionName) (clean : Bool) (answers : Answers)
    → IsNamed one connection → client ≡ two → three ≡ flag_text clean
    → answers ≡ map output_fields (broker_rules.gives old (commands.Connect connection client clean))
    → new ≡ broker_rules.after old (commands.Connect connection client clean)
    → BrokerStep old (codes "connect" ∷ one ∷ two ∷ three ∷ []) answers new
connect_gives old new one two three client connection clean answers named is_two is_three gives state =
    let (number, read, name) = named in
    let step : codes "connect" ∷ one ∷ two ∷ three ∷ [] ≡ codes "connect" ∷ one ∷ client ∷ flag_text clean ∷ [] =
    ap₂ (λ (f g : Text). codes "connect" ∷ one ∷ f ∷ g ∷ []) (sym is_two) is_three in
    BrokerStep.command (commands.Connect connection client clean)
    (CommandOf.connect one client number clean step read (ap (λ (c : ConnectionName). commands.Connect c client clean) name))
    gives state

pub receive_gives : (old new : State) (one two bytes : Text) (connection : ConnectionName) (packet : Packet) (answers : Answers)
    → IsNamed one connection → bytes ≡ two → IsRead bytes packet
    → answers ≡ map output_fields (broker_rules.gives old (commands.Packet connection packet))
    → new ≡ broker_rules.after old (commands.Packet connection packet)
    → BrokerStep old (codes "receive" ∷ one ∷ two ∷ []) answers new
receive_gives old new one two bytes connection packet answers named same decoded gives state =
    let (number, read, name) = named in
    let (rest, whole) = decoded in
    BrokerStep.command (commands.Packet connection packet)
    (CommandOf.receive one two number packet rest refl read (subst (λ (b : List ℕ). verdict b ≡ Ok (packet, rest)) same whole)
    (ap (λ (c : ConnectionName). commands.Packet c packet) name))
    gives state

pub lost_gives : (old new : State) (one : Text) (connection : ConnectionName) (answers : Answers) → IsNamed one connection
    → answers ≡ map output_fields (broker_rules.gives old (commands.Lost connection))
    → new ≡ broker_rules.after old (commands.Lost connection) → BrokerStep old (codes "lost" ∷ one ∷ []) answers new
lost_gives old new one connection answers named gives state =
    let (number, read, name) = named in
    BrokerStep.command (commands.Lost connection) (CommandOf.lost one number refl read (ap commands.Lost name)) gives state

pub restart_gives : (old new : State) (one : Text) (ballot : ℕ) (answers : Answers) → number_of one ≡ Some ballot
    → answers ≡ map output_fields (broker_rules.gives old (commands.Start ballot))
    → new ≡ broker_rules.after old (commands.Start ballot) → BrokerStep old (codes "restart" ∷ one ∷ []) answers new
restart_gives old new one ballot answers read gives state =
    BrokerStep.command (commands.Start ballot) (CommandOf.restart one ballot refl read refl) gives state

pub expel_gives : (old new : State) (one client : Text) (answers : Answers) → client ≡ one
    → answers ≡ map output_fields (broker_rules.gives old (commands.Expel client))
    → new ≡ broker_rules.after old (commands.Expel client) → BrokerStep old (codes "expel" ∷ one ∷ []) answers new
expel_gives old new one client answers is_one gives state =
    BrokerStep.command (commands.Expel client) (CommandOf.expel client (same_one (codes "expel") one is_one) refl) gives state

pub freeze_gives : (old new : State) (bytes : List ℕ) (answer : List Text) (answers : Answers)
    → bytes ≡ broker_rules.frozen old → answer ≡ word_answer bytes → answers ≡ answer ∷ [] → new ≡ old
    → BrokerStep old (codes "freeze" ∷ []) answers new
freeze_gives old new bytes answer answers frozen is only same =
    BrokerStep.freeze refl (alone answer _ answers (is ∙ ap word_answer frozen) only) same

pub thaw_gives : (old new : State) (bytes before : List ℕ) (answer : List Text) (answers : Answers) → before ≡ bytes
    → broker_rules.thawed before ≡ Some new → answer ≡ word_answer (codes "thawed") → answers ≡ answer ∷ []
    → BrokerStep old (codes "thaw" ∷ bytes ∷ []) answers new
thaw_gives old new bytes before answer answers same thawed is only =
    BrokerStep.thaw bytes refl (subst (λ (b : List ℕ). broker_rules.thawed b ≡ Some new) same thawed)
    (alone answer _ answers is only)

pub no_thaw_gives : (old new : State) (bytes before : List ℕ) (answer : List Text) (answers : Answers) → before ≡ bytes
    → broker_rules.thawed before ≡ None → answer ≡ word_answer (codes "refused") → answers ≡ answer ∷ [] → new ≡ old
    → BrokerStep old (codes "thaw" ∷ bytes ∷ []) answers new
no_thaw_gives old new bytes before answer answers same thawed is only stays =
    BrokerStep.no_thaw bytes refl (subst (λ (b : List ℕ). broker_rules.thawed b ≡ None) same thawed)
    (alone answer _ answers is only) stays

-- by its word
pub freeze_step : (old new : State) (word : Text) (answers : Answers) → bytes_eq word (codes "freeze") ≡ true
    → BrokerStep old (codes "freeze" ∷ []) answers new → BrokerStep old (word ∷ []) answers new
freeze_step old new word answers is step = of_word old new word (codes "freeze") ([]) answers is step

pub thaw_step : (old new : State) (word bytes : Text) (answers : Answers) → bytes_eq word (codes "thaw") ≡ true
    → BrokerStep old (codes "thaw" ∷ bytes ∷ []) answers new → BrokerStep old (word ∷ bytes ∷ []) answers new
thaw_step old new word bytes answers is step = of_word old new word (codes "thaw") (bytes ∷ []) answers is step

pub lost_step : (old new : State) (word connection : Text) (answers : Answers) → bytes_eq word (codes "lost") ≡ true
    → BrokerStep old (codes "lost" ∷ connection ∷ []) answers new → BrokerStep old (word ∷ connection ∷ []) answers new
lost_step old new word connection answers is step = of_word old new word (codes "lost") (connection ∷ []) answers is step

pub restart_step : (old new : State) (word ballot : Text) (answers : Answers) → bytes_eq word (codes "restart") ≡ true
    → BrokerStep old (codes "restart" ∷ ballot ∷ []) answers new → BrokerStep old (word ∷ ballot ∷ []) answers new
restart_step old new word ballot answers is step = of_word old new word (codes "restart") (ballot ∷ []) answers is step

pub expel_step : (old new : State) (word client : Text) (answers : Answers) → bytes_eq word (codes "expel") ≡ true
    → BrokerStep old (codes "expel" ∷ client ∷ []) answers new → BrokerStep old (word ∷ client ∷ []) answers new
expel_step old new word client answers is step = of_word old new word (codes "expel") (client ∷ []) answers is step

pub receive_step : (old new : State) (word connection bytes : Text) (answers : Answers) → bytes_eq word (codes "receive") ≡ true
    → BrokerStep old (codes "receive" ∷ connection ∷ bytes ∷ []) answers new → BrokerStep old (word ∷ connection ∷ bytes ∷ []) answers new
receive_step old new word connection bytes answers is step = of_word old new word (codes "receive") (connection ∷ bytes ∷ []) answers is step

pub connect_step : (old new : State) (word connection client clean : Text) (answers : Answers) → bytes_eq word (codes "connect") ≡ true
    → BrokerStep old (codes "connect" ∷ connection ∷ client ∷ clean ∷ []) answers new → BrokerStep old (word ∷ connection ∷ client ∷ clean ∷ []) answers new
connect_step old new word connection client clean answers is step = of_word old new word (codes "connect") (connection ∷ client ∷ clean ∷ []) answers is step
