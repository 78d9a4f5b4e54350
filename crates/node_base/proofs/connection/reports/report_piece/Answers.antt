use Rattle.std.specs.Prelude.{take, refl}
use Rattle.std.proofs.Common.{◌≡◌, ◌∷◌, ◌++◌, [], ◌∙◌, ap, arith}
use Rattle.std.proofs.lemmas.List.{append-nil, length-take-le}
use Rattle.world_base.specs.declared.node_core.item.Item.TheVariants.{Bytes}
use Rattle.node_base.proofs.connection.reports.report_piece.Goals as goal

pub returns-clause-hears : goal.returns-clause-hears
returns-clause-hears g c =
    let piece = take c.in-Bytes.count c.read_piece.new.buffer in
    let is : c.in-Ok.piece ≡ piece = c.in-Ok.ensures in
    let reported = c.report.ensures ∙ ap (λ p. g.H.ReportSink.heard c.args.sink.now ++ Bytes c.args.port p c.max-now.result ∷ []) is in (
      omega arith,
      (piece, record { reported = reported; gave = rw (append-nil (piece ++ []), append-nil piece) c.in-Bytes.ensures.piece.2 }),
    )

pub returns-in_default-clause-hears : goal.returns-in_default-clause-hears
returns-in_default-clause-hears g c =
    let bound = c.in-Bytes.ensures.piece.1 in
    let size = length-take-le c.in-Bytes.count c.read_piece.new.buffer bound in (
      refl,
      (take c.in-Bytes.count c.read_piece.new.buffer, c.in-Bytes.ensures.piece.2, λ _. omega (arith, bound, c.read_piece.auto.buffer)),
    )
