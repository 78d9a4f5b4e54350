use Rattle.std.proofs.Common.{◌≡◌, ◌++◌, List, OnOk, ap, sym, ◌∙◌, subst, arith}
use Rattle.std.proofs.lemmas.List.{take_at}
use Rattle.play.specs.declared.played_world.Recipient.{Recipient}
use Rattle.play.specs.Inside.{AreWritten, lines_unwritten, names_of}
use Rattle.play.proofs.LinesAppended.{appends, named_after, written_after}
use Rattle.play.proofs.played_world.PlayedWorld.play.Goals as goal

pub returns-clause-lines : goal.returns-clause-lines
returns-clause-lines c =
    let ls = c.do_line.new.self.recipients.items in
    appends c.write_all_new.result (names_of c.args.self.now.recipients.items) c.args.index c.args.line.now c.in_ok-came.came c.args.self.now.world c.do_line.new.self.world ls
    c.args.transcript.now.items c.write_line.new.transcript.items c.write_all_new.new.transcript.items c.in_ok-came.ensures.comes c.in_ok-write_line.ensures.line
    (ap names_of c.in_ok-came.ensures.recipients)
    (subst (λ (l : List Recipient). AreWritten l c.args.self.now.world) (sym c.in_ok-came.ensures.recipients) c.requires.written)
    (subst (λ (l : List Recipient). OnOk c.write_all_new.result (c.write_all_new.new.transcript.items ≡ c.write_line.new.transcript.items ++ lines_unwritten l c.do_line.new.self.world))
    c.as_mut_slice.ensures.value c.write_all_new.ensures.lines)

pub returns-clause-written : goal.returns-clause-written
returns-clause-written c =
    subst (λ (l : List Recipient). OnOk c.write_all_new.result (AreWritten l c.do_line.new.self.world))
    (sym (take_at c.write_all_new.new.recipients _ c.do_line.new.self.recipients.len (omega (arith, c.as_mut_slice.ensures.len))))
    (written_after c.write_all_new.result c.do_line.new.self.world c.as_mut_slice.result.now c.write_all_new.new.recipients c.write_all_new.ensures.recipients)

pub returns-clause-named : goal.returns-clause-named
returns-clause-named c =
    subst (λ (l : List Recipient). OnOk c.write_all_new.result (names_of l ≡ names_of c.args.self.now.recipients.items))
    (sym (take_at c.write_all_new.new.recipients _ c.do_line.new.self.recipients.len (omega (arith, c.as_mut_slice.ensures.len))))
    (named_after c.write_all_new.result c.do_line.new.self.world c.args.self.now.recipients.items c.as_mut_slice.result.now c.write_all_new.new.recipients
    (c.as_mut_slice.ensures.value ∙ c.in_ok-came.ensures.recipients) c.write_all_new.ensures.recipients)
