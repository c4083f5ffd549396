use Rattle.log_lines.proofs.LineTexts.{header_refused}
use Rattle.log_lines.proofs.read.header.Goals as goal

pub returns-else-is_version : goal.returns-else-is_version
returns-else-is_version c = header_refused c.in-Some.version c.args.rest.now c.in-Some.ensures (λ known. let yes = c.if-is_version.ensures.1 known in cc)
