use Rattle.std.proofs.Common.{◌++◌, codes, decimal}
use Rattle.std.specs.Option.{unwrap_or}
use Rattle.http.specs.StatusCode.{reason_phrase}
use Rattle.admin.specs.Answers.{allow_of, kind_of}
use Rattle.admin.proofs.BytesKept.{head_joined}
use Rattle.admin.proofs.answers.head_of.Goals as goal

pub returns : goal.returns
returns c =
    rw (c.in_ok-write.ensures.bytes, c.in_ok-head.ensures.ok, c.kind_of-kind.ensures, c.allow_of-allow.ensures)
    (head_joined (codes "HTTP/1.1 ") (decimal c.args.status) (codes " ")
    (unwrap_or (reason_phrase c.args.status) (codes "<unknown status code>")) (codes "\r\n")
    (allow_of c.args.wanted.now) (codes "Content-Type: ") (kind_of c.args.view.now c.args.wanted.now)
    (codes "Content-Length: " ++ decimal c.args.length ++ codes "\r\nConnection: close\r\n\r\n"))
