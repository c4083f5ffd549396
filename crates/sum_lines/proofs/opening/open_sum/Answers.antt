use Rattle.std.proofs.Common.{◌≡◌, refl, sym, subst, ◌∙◌, ap, arith}
use Rattle.sum_lines.specs.declared.line.HeadLine.TheVariants as line
use Rattle.sum_lines.specs.declared.walk.Seen.TheVariants as seen
use Rattle.sum_lines.specs.laws.Walk.{MayBeSeen}
use Rattle.sum_lines.proofs.Openings.{offset_same, opened_sum, sound_is, there_wide}
use Rattle.sum_lines.proofs.opening.open_sum.Goals as goal

pub narrow-requires : goal.narrow-requires
narrow-requires c =
    let r = c.in-Line-Sum in let l = c.args.limits.now in
    there_wide l.rows 400000 r.low (omega arith) (sound_is c.args.version l c.args.before r.width r.offset r.low r.high r.count (sym (c.in-None.ensures r.width r.offset r.count))).0

pub narrow-requires-in-None : goal.narrow-requires-in-None
narrow-requires-in-None c =
    let r = c.in-Line-Sum in let l = c.args.limits.now in
    there_wide l.rows 400000 r.high (omega arith) (sound_is c.args.version l c.args.before r.width r.offset r.low r.high r.count (sym (c.in-None.ensures r.width r.offset r.count))).1

pub returns-in-Some : goal.returns-in-Some
returns-in-Some c =
    let r = c.in-Line-Sum in let l = c.args.limits.now in
    let is : c.args.seen ≡ seen.Line (line.Sum r.width r.offset r.low r.high r.count) = r.is ∙ ap seen.Line (rw r.is at r.field-0-is) in
    (line.Sum r.width r.offset r.low r.high r.count, is, (subst MayBeSeen is c.requires.may_be, omega arith), sym (c.in-Some.ensures r.width r.offset r.count))

pub returns-in-None : goal.returns-in-None
returns-in-None c =
    let r = c.in-Line-Sum in let l = c.args.limits.now in
    let is : c.args.seen ≡ seen.Line (line.Sum r.width r.offset r.low r.high r.count) = r.is ∙ ap seen.Line (rw r.is at r.field-0-is) in
    let may = subst MayBeSeen is c.requires.may_be in
    opened_sum c.args.version l c.args.before c.args.seen _ r.width r.offset r.low r.high r.count is (may, omega arith) (sym (c.in-None.ensures r.width r.offset r.count)) refl (offset_same r.offset may.1) c.narrow.ensures c.narrow-in-None.ensures c.new.ensures
