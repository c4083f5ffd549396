use Rattle.std.proofs.Common.{arith}
use Rattle.stn_edge.proofs.FrontLemmas.{front-next}
use Rattle.stn_edge.proofs.reading.read_all.Goals as goal

pub pieces-preserved : goal.pieces-preserved
pieces-preserved g c = record {
  same = cc;
  readable = cc;
  writable = cc;
  no_write = cc;
  later = omega arith;
  room = cc;
  within = omega (arith, c.in_ok-extend.ensures.len);
  front =
      front-next _ (g.F.Shelf.files c.pieces.files) _ _ c.read_at.new.into _ _ c.in_ok-count.count _
      c.pieces.invariant.front c.pieces.invariant.same (rw (← c.len.ensures) c.in_ok-count.ensures.piece) c.in_ok-extend.ensures.items c.in_ok-extend.ensures.len;
}
