-- The cuts that were made lead to the view that the area shows.
use Rattle.std.proofs.Common.{map}
use Rattle.std.proofs.lemmas.List.Elements.{All-cons}
use Rattle.proof_tree.specs.declared.item.Item.TheVariants.{Node as NodeItem, Cut as CutItem}
use Rattle.row_relax.proofs.Marks.{fits_slots}
use Rattle.branch_tree.specs.Searched.{IsFitItem}
use Rattle.branch_tree.specs.laws.Grounds.{program_of, rows_of}
use Rattle.branch_tree.proofs.CutsMade.{has_cut-leads, room_shown}
use Rattle.branch_tree.proofs.cutting.cut_box.Goals as goal

pub cut_changed-requires-clause-slots : goal.cut_changed-requires-clause-slots
cut_changed-requires-clause-slots c = fits_slots (program_of c.args.ground.now) c.args.area.now c.requires.fits

pub cut_changed-requires-clause-room : goal.cut_changed-requires-clause-room
cut_changed-requires-clause-room c = room_shown (program_of c.args.ground.now) c.args.area.now c.args.changed c.requires.room

pub returns-clause-fits : goal.returns-clause-fits
returns-clause-fits c = (has_cut-leads (rows_of c.args.ground.now) c.args.area.now c.cut_changed.new.area _ _ c.requires.fits c.new-cuts.ensures.items c.in_ok-cut_changed.ensures.cut).fits

pub returns-clause-keeps : goal.returns-clause-keeps
returns-clause-keeps c = (has_cut-leads (rows_of c.args.ground.now) c.args.area.now c.cut_changed.new.area _ _ c.requires.fits c.new-cuts.ensures.items c.in_ok-cut_changed.ensures.cut).keeps

pub returns-clause-moved : goal.returns-clause-moved
returns-clause-moved c = (has_cut-leads (rows_of c.args.ground.now) c.args.area.now c.cut_changed.new.area _ _ c.requires.fits c.new-cuts.ensures.items c.in_ok-cut_changed.ensures.cut).moved

pub returns-clause-fit : goal.returns-clause-fit
returns-clause-fit c =
    let lead = has_cut-leads (rows_of c.args.ground.now) c.args.area.now c.cut_changed.new.area _ _ c.requires.fits c.new-cuts.ensures.items c.in_ok-cut_changed.ensures.cut in
    All-cons (IsFitItem (rows_of c.args.ground.now) c.args.ground.now.floors) NodeItem (map CutItem c.cut_changed.new.cuts.items) tt (lead.fit c.args.ground.now.floors)
