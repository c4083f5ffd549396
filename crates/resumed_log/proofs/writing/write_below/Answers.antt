-- A node is written, or the proof of its box.
use Rattle.std.proofs.Common.{◌∙◌}
use Rattle.log_nodes.proofs.Frames.{writes-then}
use Rattle.log_nodes.proofs.Walking.{below-same}
use Rattle.resumed_log.proofs.Readers.{may-write-on}
use Rattle.resumed_log.proofs.writing.write_below.Goals as goal

pub search_end-requires-clause-may_write : goal.search_end-requires-clause-may_write
search_end-requires-clause-may_write g c =
    let head = c.in_ok-put_head.ensures in
    may-write-on head.frame (c.is_searched.ensures.named ∙ head.named) c.requires.may_write

pub returns-then-is_searched-clause-passed : goal.returns-then-is_searched-clause-passed
returns-then-is_searched-clause-passed g c = below-same c.in_ok-search_end.ensures.as_before c.requires.fits

pub returns-then-is_searched-clause-frame : goal.returns-then-is_searched-clause-frame
returns-then-is_searched-clause-frame g c =
    let head = c.in_ok-put_head.ensures in
    writes-then (c.is_searched.ensures.named ∙ head.named) head.frame c.in_ok-search_end.ensures.frame

pub returns-in_err-search_end-clause-frame : goal.returns-in_err-search_end-clause-frame
returns-in_err-search_end-clause-frame g c =
    let head = c.in_ok-put_head.ensures in
    writes-then (c.is_searched.ensures.named ∙ head.named) head.frame c.in_err-search_end.ensures.frame

pub put_found-requires : goal.put_found-requires
put_found-requires g c =
    let head = c.in_ok-put_head.ensures in
    record { allowed = may-write-on head.frame (c.is_searched.ensures.named ∙ head.named) c.requires.may_write }

pub returns-in_err-put_found-clause-frame : goal.returns-in_err-put_found-clause-frame
returns-in_err-put_found-clause-frame g c =
    let head = c.in_ok-put_head.ensures in
    writes-then (c.is_searched.ensures.named ∙ head.named) head.frame c.in_err-put_found.ensures.frame

pub write_end-requires-clause-may_write : goal.write_end-requires-clause-may_write
write_end-requires-clause-may_write g c =
    let head = c.in_ok-put_head.ensures in
    let found = c.in_ok-put_found.ensures in
    may-write-on found.frame found.named (may-write-on head.frame (c.is_searched.ensures.named ∙ head.named) c.requires.may_write)

pub returns-clause-frame : goal.returns-clause-frame
returns-clause-frame g c =
    let head = c.in_ok-put_head.ensures in
    let found = c.in_ok-put_found.ensures in
    let mid = c.is_searched.ensures.named ∙ head.named in
    writes-then (found.named ∙ mid) (writes-then mid head.frame found.frame) c.write_end.ensures.frame
