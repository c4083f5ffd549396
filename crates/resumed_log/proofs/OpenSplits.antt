-- Splits whose right parts are left to write, and the walk between them.
use Rattle.std.proofs.Common.{◌≡◌, ◌∙◌, ℕ, ◌+◌, ◌-◌, ◌<◌, Bool, List, [], ◌∷◌, ◌++◌, take, Option, None, Some, refl, sym, ap, subst, arith}
use Rattle.std.specs.Prelude.{⊤, IsTrue, option_to_list}
use Rattle.stn_edge.specs.declared.shelf.Shelf.{Ghosts}
use Rattle.proof_tree.specs.Views.{KeepsViews, View, present}
use Rattle.proof_log.specs.declared.log_reader.LogReader.{LogReader}
use Rattle.row_relax.specs.View.{Fits}
use Rattle.branch_tree.specs.declared.going_on.GoingOn.{GoingOn}
use Rattle.log_nodes.specs.declared.pair.Pair.{Pair}
use Rattle.log_nodes.proofs.Frames.{both-then, reads-then}
use Rattle.log_nodes.proofs.Walking.{below-then, keeps-on}
use Rattle.open_splits.specs.declared.splits.OpenSplit.{OpenSplit}
use Rattle.open_splits.specs.laws.Opened.{StandsIn}
use Rattle.open_splits.proofs.Remaining.{node-more, node_steps, steps-some}
use Rattle.open_splits.proofs.Standing.{opened-stands, right-stands, stands-further}
use Rattle.store_frames.specs.Frames.{OnlyReads, ReadsAndWritesOne}
use Rattle.resumed_log.specs.declared.new_log.Out.{Out}
use Rattle.resumed_log.specs.laws.Beside.{out_name}
use Rattle.resumed_log.specs.laws.Walks.{CanRewrite, CanWalk, GoesOnWalking, HasNext, HasPassed}
use Rattle.resumed_log.proofs.Readers.{still-beside}

-- what was passed over views that keep others was passed over these
pub passed-below : (pair : Pair) (depth : ℕ) (old mid new : List View) → KeepsViews old mid → (split : Option (OpenSplit ⊤ ⊤)) → HasPassed pair depth mid new split → HasPassed pair depth old new split
passed-below pair depth old mid new keeps None below = below-then keeps below
passed-below pair depth old mid new keeps (Some split) passed = (record { divided = passed.0.divided; keeps = keeps-on old mid passed.0.divided keeps passed.0.keeps; opened = passed.0.opened; few = passed.0.few }, passed.1)

-- the area fits the rows behind what was passed
pub passed-fits : (pair : Pair) (depth : ℕ) (old new : List View) (split : Option (OpenSplit ⊤ ⊤)) → HasPassed pair depth old new split → Fits pair.rows.now.program (present new)
passed-fits pair depth old new None below = below.fits
passed-fits pair depth old new (Some split) passed = passed.1

-- and stands in the open splits
pub passed-stands : (pair : Pair) (depth : ℕ) (begun : List View) (splits : List (OpenSplit ⊤ ⊤)) (views wide : List View) (split : Option (OpenSplit ⊤ ⊤)) → HasPassed pair depth views wide split → StandsIn begun splits views → StandsIn begun (option_to_list split ++ splits) wide
passed-stands pair depth begun splits views wide None below stands = stands-further begun splits views wide below.keeps stands
passed-stands pair depth begun splits views wide (Some split) passed stands = opened-stands begun splits views passed.0.divided wide split passed.0.keeps passed.0.opened stands

-- wherever the walk began
pub stands-anywhere : (begun : List View) (splits : List (OpenSplit ⊤ ⊤)) (views : List View) → StandsIn begun splits views → StandsIn [] splits views
stands-anywhere begun [] views stands = refl
stands-anywhere begun (split ∷ splits) views stands = (stands.0, stands-anywhere begun splits (take (split.mark + 1) views) stands.1)

-- so it does where the walk goes on
pub next-stands : (begun : List View) (split : Option (OpenSplit ⊤ ⊤)) (before after : List (OpenSplit ⊤ ⊤)) (views wide : List View) (below : ℕ) → StandsIn begun (option_to_list split ++ before) views → HasNext split before after views wide (Some below) → StandsIn begun after wide
next-stands begun (Some split) before after views wide below stands next = subst (λ (all : List View). StandsIn begun after all) (sym next.1.1) (subst (λ (splits : List (OpenSplit ⊤ ⊤)). StandsIn begun splits views) (sym next.1.0) stands)
next-stands begun None before after views wide below stands next =
    right-stands begun next.0 after views wide next.1.1.1 (subst (λ (splits : List (OpenSplit ⊤ ⊤)). StandsIn begun splits views) next.1.1.0 stands)

-- and at the end it stands below where the walk began
pub end-stands : (begun : List View) (split : Option (OpenSplit ⊤ ⊤)) (before after : List (OpenSplit ⊤ ⊤)) (views wide : List View) → StandsIn begun (option_to_list split ++ before) views → HasNext split before after views wide None → KeepsViews begun wide
end-stands begun (Some split) before after views wide stands next = absurd next
end-stands begun None before after views wide stands next = subst (KeepsViews begun) (sym next.1) (subst (λ (splits : List (OpenSplit ⊤ ⊤)). StandsIn begun splits views) next.0 stands)

-- ---- how many nodes are left

-- in the right parts of open splits
pub splits_left : ℕ → List (OpenSplit ⊤ ⊤) → ℕ
splits_left most [] = 0
splits_left most (split ∷ splits) = node_steps most split.below + splits_left most splits

-- at a node below so many splits, and in the right parts of open splits
abbrev pub nodes_from : ℕ → ℕ → List (OpenSplit ⊤ ⊤) → ℕ
nodes_from most depth splits = node_steps most depth + splits_left most splits

top-left : (most : ℕ) (split : OpenSplit ⊤ ⊤) (rest before : List (OpenSplit ⊤ ⊤)) → before ≡ split ∷ rest → splits_left most before ≡ node_steps most split.below + splits_left most rest
unfolding splits_left
top-left most split rest before is = ap (splits_left most) is

-- where the walk goes on there are fewer
pub next-fewer : (pair : Pair) (depth below : ℕ) (split : Option (OpenSplit ⊤ ⊤)) (before after : List (OpenSplit ⊤ ⊤)) (old views wide : List View) → HasPassed pair depth old views split → HasNext split before after views wide (Some below) → nodes_from pair.most below after < nodes_from pair.most depth before
next-fewer pair depth below (Some split) before after old views wide passed next =
    let there : node_steps pair.most split.below ≡ node_steps pair.most (depth + 1) = ap (node_steps pair.most) passed.0.opened.below in
    omega (arith, there, ap (node_steps pair.most) next.0, top-left pair.most split before after next.1.0, node-more pair.most depth passed.0.few)
next-fewer pair depth below None before after old views wide passed next = omega (arith, ap (node_steps pair.most) next.1.0, top-left pair.most next.0 after before next.1.1.0, steps-some (pair.most - depth))

-- ---- what the walks keep

-- the old log can be walked on and the new one written, and the area stands in the open splits
pub record IsWriting {F : Type 0} (S : Ghosts F) (pair : Pair) (old : F) (begun : List View) (name : List ℕ) (now : F) (reader : LogReader) (going : GoingOn) (out : Out) (views : List View) (splits : List (OpenSplit ⊤ ⊤)) : Type 0 where
  pub can : CanRewrite S now pair reader going out (present views)
  pub named : out_name out ≡ name
  pub frame : ReadsAndWritesOne S name old now
  pub stands : StandsIn begun splits views

-- a node was written: what may be read and written is as before
pub writes-on : {F : Type 0} {S : Ghosts F} {pair : Pair} {old now new : F} {begun views wide : List View} {name : List ℕ} {reader reader2 : LogReader} {going going2 : GoingOn} {out out2 : Out} {splits further : List (OpenSplit ⊤ ⊤)} → IsWriting S pair old begun name now reader going out views splits
    → GoesOnWalking (S.files new) pair.log.now reader2 pair.most pair.rows.now going2 → out_name out2 ≡ out_name out → ReadsAndWritesOne S (out_name out) now new → Fits pair.rows.now.program (present wide) → StandsIn begun further wide → IsWriting S pair old begun name new reader2 going2 out2 wide further
writes-on writing walking named frame fits stands = record {
  can = record { beside = still-beside frame.readable frame.writable named writing.can.beside; walking = walking; fits = fits };
  named = named ∙ writing.named;
  frame = both-then writing.named writing.frame frame;
  stands = stands;
}

-- the log can be walked on, files are only read, and the area stands in the open splits
pub record IsGathering {F : Type 0} (S : Ghosts F) (pair : Pair) (old : F) (begun : List View) (now : F) (reader : LogReader) (going : GoingOn) (views : List View) (splits : List (OpenSplit ⊤ ⊤)) : Type 0 where
  pub can : CanWalk S now pair reader going (present views)
  pub frame : OnlyReads S old now
  pub stands : StandsIn begun splits views

-- a node was read: what may be read is as before
pub gathers-on : {F : Type 0} {S : Ghosts F} {pair : Pair} {old now new : F} {begun views wide : List View} {reader reader2 : LogReader} {going going2 : GoingOn} {splits further : List (OpenSplit ⊤ ⊤)} → IsGathering S pair old begun now reader going views splits
    → GoesOnWalking (S.files new) pair.log.now reader2 pair.most pair.rows.now going2 → OnlyReads S now new → Fits pair.rows.now.program (present wide) → StandsIn begun further wide → IsGathering S pair old begun new reader2 going2 wide further
gathers-on {F} {S} {pair} {old} {now} {new} gathering walking frame fits stands = record {
  can = record {
    allowed = subst (λ (may : List ℕ → Bool). IsTrue (may pair.log.now)) (sym frame.readable) gathering.can.allowed;
    walking = walking;
    fits = fits;
  };
  frame = reads-then gathering.frame frame;
  stands = stands;
}
