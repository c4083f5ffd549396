-- Both logs are read from their heads to their ends.
use Rattle.std.proofs.Common.{◌∙◌, List, [], Option, rules, sym, subst}
use Rattle.stn_edge.specs.Files.{FileMap}
use Rattle.row_kit.specs.declared.domain.Domain.{Domain}
use Rattle.log_nodes.specs.Reading.{EndsClean, IsReading, ReadsOn}
use Rattle.log_growth.specs.declared.way.Readers.{Readers}
use Rattle.log_growth.specs.laws.Grown.{CanGrow, HasGrown}
use Rattle.log_nodes.specs.laws.Seen.{seen}
use Rattle.log_growth.proofs.Ended.{are-grown}
use Rattle.open_splits.proofs.Standing.{at-some}
use Rattle.log_growth.proofs.whole.growth.Goals as goal

pub grown-requires : goal.grown-requires
grown-requires g c =
    let readers : Readers = record { alloc = c.args.alloc; log = c.in_ok-begin_behind.field-0; out = c.in_ok-begin_behind-2.field-0 } in
    let can : CanGrow g.F.Shelf c.args.files.now c.args.pair.log.now c.args.pair.out.now readers c.args.pair.rows.now (seen c.in_ok-area.area) = record {
      log_allowed = c.requires.log_allowed;
      out_allowed = c.requires.out_allowed;
      log_reading = (c.args.log.version, (c.args.log.head, (c.args.log.limits, ([], c.in_ok-begin_behind.ensures (g.F.Shelf.files c.args.files.now) c.args.pair.log.now))));
      out_reading = (c.args.out.version, (c.args.out.head, (c.args.out.limits, ([], c.in_ok-begin_behind-2.ensures (g.F.Shelf.files c.args.files.now) c.args.pair.out.now))));
      fits = c.in_ok-area.ensures.fits;
    } in
    search rules

pub read_end-requires-clause-reading : goal.read_end-requires-clause-reading
read_end-requires-clause-reading g c =
    let log = c.args.pair.log.now in
    let reading = (at-some _ c.in-Some.is c.in_ok-growth.ensures.grown).log_reading in
    subst (λ (told : Option FileMap). IsReading told log c.grown.new.readers.log) (sym c.in_ok-growth.ensures.frame.same) reading

pub read_end-requires-2-clause-reading : goal.read_end-requires-2-clause-reading
read_end-requires-2-clause-reading g c =
    let out = c.args.pair.out.now in
    let reading = (at-some _ c.in-Some.is c.in_ok-growth.ensures.grown).out_reading in
    subst (λ (told : Option FileMap). IsReading told out c.grown.new.readers.out) (sym (c.in_ok-ends.ensures.same ∙ c.in_ok-growth.ensures.frame.same)) reading

pub returns-then-out_ends-clause-grown : goal.returns-then-out_ends-clause-grown
returns-then-out_ends-clause-grown g c =
    let told = g.F.Shelf.files c.args.files.now in
    let log = c.args.pair.log.now in
    let out = c.args.pair.out.now in
    let rows = c.args.pair.rows.now in
    let readers = c.grown.new.readers in
    let same = c.in_ok-growth.ensures.frame.same in
    let has = (at-some _ c.in-Some.is c.in_ok-growth.ensures.grown).is_so in
    let root = subst (λ (area : List (List Domain)). HasGrown c.args.pair.most rows c.args.pair.profit c.args.pair.share 0 0 (seen area) (λ items. ReadsOn told log c.in_ok-begin_behind.field-0 items readers.log) (λ items. ReadsOn told out c.in_ok-begin_behind-2.field-0 items readers.out) c.in-Some.growth) c.in_ok-area.ensures.root has in
    let end = subst (λ (files : Option FileMap). EndsClean files log readers.log) same (c.in_ok-ends.ensures.end c.if-ends.true) in
    let end_out = subst (λ (files : Option FileMap). EndsClean files out readers.out) (c.in_ok-ends.ensures.same ∙ same) (c.in_ok-out_ends.ensures.end c.if-out_ends.true) in
    are-grown told log out c.args.pair.most rows c.args.pair.profit c.args.pair.share c.args.log c.args.out c.in-Some.growth c.in_ok-begin_behind.field-0 readers.log c.in_ok-begin_behind-2.field-0 readers.out (c.in_ok-begin_behind.ensures told log) (c.in_ok-begin_behind-2.ensures told out) root end end_out
