-- The search of a box, from where it stands.
use Rattle.std.proofs.Common.{Some}
use Rattle.branch_tree.specs.laws.Grounds.{seen}
use Rattle.branch_tree.proofs.GoingOns.{going-stands}
use Rattle.branch_tree.proofs.going_on.GoingOn.search.Goals as goal

pub search_box-requires-clause-stands : goal.search_box-requires-clause-stands
search_box-requires-clause-stands g c =
    going-stands c.requires.can.0 c.requires.can.1.0 c.args.self.now (seen c.args.area.now) c.args.place.depth (Some c.args.place.held) c.requires.can.1.1 c.requires.fits c.requires.deep
