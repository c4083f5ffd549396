use Rattle.std.proofs.Common.{arith, length-set}
use Rattle.log_lines.proofs.FileParts.{next_place, part_grows, no_feed_grows, read_more, part_long}
use Rattle.log_lines.proofs.part.read_part.Goals as goal

pub bytes-preserved : goal.bytes-preserved
bytes-preserved g c = record {
  same = cc;
  readable = cc;
  writable = cc;
  no_write = cc;
  later = omega arith;
  room = omega (arith, length-set c.bytes.part c.bytes.count c.in-Some.byte);
  within = omega arith;
  place =
      let next = next_place c.in_ok-next_byte.field-0 c.in-Some.byte c.bytes.ahead.place c.next_byte.new.self.place c.in-Some.is c.in_ok-next_byte.ensures.place in
      omega (arith, next);
  plain = no_feed_grows c.bytes.part c.bytes.count c.in-Some.byte (omega arith) c.bytes.invariant.plain (omega arith);
  told =
      read_more _ (g.F.Shelf.files c.bytes.files) _ _ _ _ c.in-Some.byte c.bytes.ahead c.next_byte.new.self c.in_ok-next_byte.field-0 c.bytes.invariant.told c.bytes.invariant.same c.in_ok-next_byte.ensures.told c.in-Some.is
      (part_grows c.bytes.part c.bytes.count c.in-Some.byte (omega arith));
}

pub returns-then-count-eq-MOST_BYTES-clause-told : goal.returns-then-count-eq-MOST_BYTES-clause-told
returns-then-count-eq-MOST_BYTES-clause-told g c =
    part_long _ (g.F.Shelf.files c.bytes.files) _ c.bytes.part _ c.in-Some.byte c.bytes.count c.bytes.ahead c.next_byte.new.self c.in_ok-next_byte.field-0 c.bytes.invariant.told c.bytes.invariant.same c.in_ok-next_byte.ensures.told c.in-Some.is
    c.bytes.invariant.plain (omega arith) c.bytes.invariant.room (omega arith)
