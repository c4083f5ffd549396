-- What the walk keeps from one step to the next.
use Rattle.std.proofs.Common.{◌≡◌, ℕ, ◌+◌, List, Option, None, Some, ap, refl, subst}
use Rattle.stn_edge.specs.Files.{FileMap}
use Rattle.stn_edge.specs.declared.shelf.Shelf.{Ghosts}
use Rattle.proof_tree.specs.Tree.{after_cuts}
use Rattle.proof_tree.specs.Views.{View, present}
use Rattle.dual_bound.specs.declared.cert.Cert.{Cert}
use Rattle.row_relax.specs.RowProofs.{RowItem}
use Rattle.row_relax.specs.Steps.{row_steps}
use Rattle.row_relax.specs.View.{Fits}
use Rattle.log_nodes.specs.declared.node.Node.{Node}
use Rattle.log_nodes.specs.declared.node.Ending.TheVariants.{Split}
use Rattle.log_nodes.specs.declared.pair.Pair.{Pair}
use Rattle.log_nodes.specs.Reading.{IsReading, ReadsOn}
use Rattle.log_nodes.proofs.Frames.{reads-then as reads-after}
use Rattle.log_nodes.proofs.Readings.{reads-then}
use Rattle.store_frames.specs.Frames.{OnlyReads}
use Rattle.open_splits.specs.declared.splits.OpenSplit.{OpenSplit}
use Rattle.open_splits.specs.declared.way.Met.{Met}
use Rattle.open_splits.specs.declared.way.Way.{Way}
use Rattle.open_splits.specs.declared.way.Way.TheVariants.{Down, Up}
use Rattle.open_splits.specs.laws.Behind.{Follows, HasMet, Leads}
use Rattle.open_splits.specs.laws.Opened.{HasOpened}
use Rattle.open_splits.proofs.Steps.{Enters, IsAt, met-on}
use Rattle.log_growth.specs.declared.counts.Growth.{Growth}
use Rattle.log_growth.specs.declared.way.Kept.{Kept}
use Rattle.log_growth.specs.declared.way.Place.{Place}
use Rattle.log_growth.specs.declared.way.Readers.{Readers}
use Rattle.log_growth.specs.laws.Counts.{IsSplitCount}
use Rattle.log_growth.specs.laws.Grown.{CanGrow, HasGrown, HasGrownParts}
use Rattle.log_growth.specs.laws.Opened.{Grows, GrowsNode, floors_of, growing, part_of}
use Rattle.log_growth.proofs.Grows.{both-parts, floor_above, same-split}
use Rattle.log_growth.proofs.ReadOn.{can-still}

-- how many splits a place stands below
abbrev pub depth_of : Place → ℕ
depth_of place = place.depth

-- both parts of a split stand below it
pub part-below : (split : OpenSplit Kept Growth) (left : Option Growth) → depth_of (part_of split left) ≡ split.below
part-below split None = refl
part-below split (Some left) = refl

-- the place of a node that is to be read; behind one, that of the root
abbrev pub place_of : Way Place Growth → Place
place_of (Down place) = place
place_of (Up growth) = record { depth = 0; number = 0 }

-- where a walk began
pub record Begun : Type 0 where
  pub pair : Pair
  pub told : Option FileMap
  pub place : Place
  pub views : List View
  pub here : Readers

-- the walk stands where what is left to do reads both proofs, and both logs can be read on
pub record IsGrowing {F : Type 0} (S : Ghosts F) (b : Begun) (old now : F) (views : List View) (readers : Readers) (splits : List (OpenSplit Kept Growth)) (way : Way Place Growth) : Type 0 where
  pub can : CanGrow S now b.pair.log.now b.pair.out.now readers b.pair.rows.now (present views)
  pub frame : OnlyReads S old now
  pub at : IsAt b.pair.rows.now.program (growing b.pair b.told) b.views (Grows b.pair b.told b.place (present b.views) b.here) splits views readers way

-- a split that is the same in both proofs was opened: once both its parts are read, one behind the other, its node is
pub split-opens : (pair : Pair) (told : Option FileMap) (place : Place) (old divided new : List View) (cut : View) (node other : Node) (cert : Cert) (here : Readers) (split : OpenSplit Kept Growth) → HasOpened pair.rows.now.program place.depth divided new split → split.kept.number ≡ place.number
    → after_cuts (row_steps pair.rows.now.program) (present old) node.cuts ≡ Some cut → present divided ≡ (row_steps pair.rows.now.program).trim cut split.pick cert → node.end ≡ Split split.pick cert → node ≡ other → floors_of split.kept ≡ floor_above pair.rows.now pair.profit cut split.pick cert
    → Leads (growing pair told) (part_of split None) (present new) here (Follows pair.rows.now.program (growing pair told) split None (present divided) (GrowsNode pair told place (present old) node other here))
split-opens pair told place old divided new cut node other cert here split opened number there trimmed splits same floor = λ left first one right right_is last second two all sums.
    let rows = pair.rows.now in
    let reads : List RowItem → Type 0 = λ items. ReadsOn told pair.log.now here.log items last.log in
    let reads_out : List RowItem → Type 0 = λ items. ReadsOn told pair.out.now here.out items last.out in
    let one_reads : List RowItem → Type 0 = λ items. ReadsOn told pair.log.now here.log items left.log in
    let one_out : List RowItem → Type 0 = λ items. ReadsOn told pair.out.now here.out items left.out in
    let two_reads : List RowItem → Type 0 = λ items. ReadsOn told pair.log.now left.log items last.log in
    let two_out : List RowItem → Type 0 = λ items. ReadsOn told pair.out.now left.out items last.out in
    let next = split.kept.number + first.ends in
    let one_is : HasGrown pair.most rows pair.profit pair.share (place.depth + 1) place.number (present new) one_reads one_out first =
    subst (λ (n : ℕ). HasGrown pair.most rows pair.profit pair.share (place.depth + 1) n (present new) one_reads one_out first) number (subst (λ (n : ℕ). HasGrown pair.most rows pair.profit pair.share n split.kept.number (present new) one_reads one_out first) opened.below one) in
    let two_is : HasGrown pair.most rows pair.profit pair.share (place.depth + 1) next right two_reads two_out second = subst (λ (n : ℕ). HasGrown pair.most rows pair.profit pair.share n next right two_reads two_out second) opened.below two in
    let parts : HasGrownParts pair.most rows pair.profit pair.share place.depth place.number (present divided) split.pick reads reads_out sums.parts =
    both-parts pair.most rows pair.profit pair.share place.depth place.number next (present divided) (present new) right split.pick one_reads one_out two_reads two_out reads reads_out first second sums.parts opened.left right_is one_is two_is (ap (λ (n : ℕ). n + first.ends) number)
    (λ x y. reads-then told pair.log.now here.log left.log last.log x y) (λ x y. reads-then told pair.out.now here.out left.out last.out x y) sums.sum in
    record {
      cut = cut;
      there = there;
      below = same-split pair.most rows pair.profit pair.share place.depth place.number cut node other split.pick cert reads reads_out sums.parts all splits same
          (subst (λ (v : View). HasGrownParts pair.most rows pair.profit pair.share place.depth place.number v split.pick reads reads_out sums.parts) trimmed parts) (subst (λ (n : ℕ). IsSplitCount n sums.parts all) floor sums.counts);
    }

-- a node was read in both logs
pub node-read : {F : Type 0} {S : Ghosts F} {b : Begun} {old now new : F} {views wide : List View} {before after : Readers} {splits further : List (OpenSplit Kept Growth)} {way next : Way Place Growth} (place : Place) (met : Met Kept Growth) → S.files now ≡ b.told → IsGrowing S b old now views before splits way → way ≡ Down place → OnlyReads S now new
    → IsReading (S.files now) b.pair.log.now after.log → IsReading (S.files now) b.pair.out.now after.out → Fits b.pair.rows.now.program (present wide) → HasMet b.pair.rows.now.program (growing b.pair (S.files now)) b.pair.most place.depth place views wide before after met → Enters (growing b.pair b.told) met splits further next
    → IsGrowing S b old new wide after further next
node-read {F} {S} {b} {old} {now} {new} {views} {wide} {before} {after} {splits} {further} {way} {next} place met same is at frame log_reading out_reading fits has enters = record {
  can = can-still is.can frame log_reading out_reading fits;
  frame = reads-after is.frame frame;
  at = met-on b.pair.rows.now.program (growing b.pair b.told) b.views (Grows b.pair b.told b.place (present b.views) b.here) b.pair.most place.depth place splits further views wide before after met way next is.at at
      (subst (λ (told : Option FileMap). HasMet b.pair.rows.now.program (growing b.pair told) b.pair.most place.depth place views wide before after met) same has) enters;
}

-- nothing was read, only the area changed
pub turns-on : {F : Type 0} {S : Ghosts F} {b : Begun} {old now : F} {views wide : List View} {readers : Readers} {splits further : List (OpenSplit Kept Growth)} {way next : Way Place Growth} → IsGrowing S b old now views readers splits way → Fits b.pair.rows.now.program (present wide)
    → IsAt b.pair.rows.now.program (growing b.pair b.told) b.views (Grows b.pair b.told b.place (present b.views) b.here) further wide readers next → IsGrowing S b old now wide readers further next
turns-on growing_so fits at = record {
  can = record { log_allowed = growing_so.can.log_allowed; out_allowed = growing_so.can.out_allowed; log_reading = growing_so.can.log_reading; out_reading = growing_so.can.out_reading; fits = fits };
  frame = growing_so.frame;
  at = at;
}
