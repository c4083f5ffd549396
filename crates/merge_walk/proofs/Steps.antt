-- What the walk keeps from one step to the next.
use Rattle.std.proofs.Common.{◌≡◌, ◌∙◌, ℕ, ℤ, ◌+◌, IsTrue, Bool, List, ◌∷◌, Option, None, Some, refl, sym, ap, subst}
use Rattle.stn_edge.specs.Files.{FileMap, OthersStay}
use Rattle.stn_edge.specs.declared.shelf.Shelf.{Ghosts}
use Rattle.dual_bound.specs.declared.cert.Cert.{Cert}
use Rattle.proof_log.specs.declared.writer.LogWriter.{LogWriter}
use Rattle.proof_tree.specs.declared.capped.Capped.{Capped}
use Rattle.proof_tree.specs.Cap.{floor_cap, greater}
use Rattle.proof_tree.specs.Tree.{after_cuts}
use Rattle.proof_tree.specs.Views.{View, present}
use Rattle.row_relax.specs.declared.rows.Rows.{Rows}
use Rattle.row_relax.specs.Choices.{steps_of}
use Rattle.row_relax.specs.View.{Fits}
use Rattle.log_nodes.specs.declared.node.Node.{Node}
use Rattle.log_nodes.specs.declared.node.Ending.TheVariants.{Split}
use Rattle.log_nodes.specs.laws.Nodes.{node_items}
use Rattle.open_splits.specs.declared.splits.OpenSplit.{OpenSplit}
use Rattle.open_splits.specs.declared.way.Met.{Met}
use Rattle.open_splits.specs.declared.way.Way.{Way}
use Rattle.open_splits.specs.declared.way.Way.TheVariants.{Down, Up}
use Rattle.open_splits.specs.laws.Behind.{Course, Follows, HasGoneOn, HasMet, Leads, Reaches}
use Rattle.open_splits.specs.laws.Opened.{HasOpened}
use Rattle.open_splits.proofs.Steps.{Enters, IsAt, gone-on, met-on}
use Rattle.log_parts.specs.laws.Copying.{name_of}
use Rattle.store_frames.specs.Frames.{ReadsAndWritesOne}
use Rattle.merged_nodes.specs.declared.sources.Source.{Source}
use Rattle.merged_nodes.specs.laws.Looked.{AreApart, AreReading, MayReadAll}
use Rattle.merged_nodes.specs.laws.Puts.{PutsItems}
use Rattle.log_parts.proofs.Frames.{both-then}
use Rattle.merge_walk.specs.laws.Opened.{AreSame, HasWritten, Merges, Reached, merging_walk}
use Rattle.merge_walk.specs.laws.Walked.{HasMerged, HasMergedSplit}
use Rattle.merge_walk.proofs.KeptLogs.{same-apart, same-may-read, same-trees}
use Rattle.merge_walk.proofs.MergedNodes.{node-merged, parts-merged}

-- where a walk began
pub record Begun : Type 0 where
  pub rows : Rows
  pub best : Option ℤ
  pub stem : List ℕ
  pub depth : ℕ
  pub views : List View
  pub here : Reached

-- the walk that began there
abbrev pub walk_of : Begun → Course ℕ Reached (Option ℤ) Capped
walk_of b = merging_walk b.rows b.best b.stem (name_of b.here.writer)

-- and what is to hold once it is over
abbrev pub whole_of : Begun → Reaches Reached Capped
whole_of b = Merges b.rows b.best b.stem (name_of b.here.writer) b.depth (present b.views) b.here

-- the walk stands where what is left to do writes the whole proof; all logs may be read on, and the new one written
pub record IsWalking {F : Type 0} (S : Ghosts F) (b : Begun) (old now : F) (views : List View) (sources : List Source) (writer : LogWriter) (splits : List (OpenSplit (Option ℤ) Capped)) (way : Way ℕ Capped) : Type 0 where
  pub may_read : MayReadAll (S.may_read now) b.stem sources
  pub may_write : IsTrue (S.may_write now (name_of writer))
  pub apart : AreApart (name_of writer) b.stem sources
  pub reading : AreReading (S.files now) b.stem sources
  pub fits : Fits b.rows.program (present views)
  pub named : name_of writer ≡ name_of b.here.writer
  pub frame : ReadsAndWritesOne S (name_of b.here.writer) old now
  pub at : IsAt b.rows.program (walk_of b) b.views (whole_of b) splits views (record { told = S.files now; sources = sources; writer = writer }) way

-- a node was written below this one: what may be read and written is as before
pub node-written : {F : Type 0} {S : Ghosts F} {b : Begun} {old now new : F} {views wide : List View} {before after : List Source} {writer later : LogWriter} {splits further : List (OpenSplit (Option ℤ) Capped)} {way next : Way ℕ Capped} (depth : ℕ) (met : Met (Option ℤ) Capped) → IsWalking S b old now views before writer splits way
    → way ≡ Down depth → AreSame before after → ReadsAndWritesOne S (name_of writer) now new → name_of later ≡ name_of writer → AreReading (S.files new) b.stem after → Fits b.rows.program (present wide) → HasWritten b.rows b.best views wide (S.files now) (S.files new) b.stem depth before after writer later met → Enters (walk_of b) met splits further next
    → IsWalking S b old new wide after later further next
node-written {F} {S} {b} {old} {now} {new} {views} {wide} {before} {after} {writer} {later} {splits} {further} {way} {next} depth met walking is same frame named reading fits written enters =
    let here : Reached = record { told = S.files now; sources = before; writer = writer } in
    let there : Reached = record { told = S.files new; sources = after; writer = later } in
    record {
      may_read = same-may-read (S.may_read now) (S.may_read new) b.stem before after frame.readable same walking.may_read;
      may_write = subst (λ (may : List ℕ → Bool). IsTrue (may (name_of later))) (sym frame.writable) (subst (λ (name : List ℕ). IsTrue (S.may_write now name)) (sym named) walking.may_write);
      apart = same-apart (name_of writer) (name_of later) b.stem before after named same walking.apart;
      reading = reading;
      fits = fits;
      named = named ∙ walking.named;
      frame = both-then S (name_of b.here.writer) (name_of writer) old now new walking.named walking.frame frame;
      at = met-on b.rows.program (walk_of b) b.views (whole_of b) 36865 depth depth splits further views wide here there met way next walking.at is
          (subst (λ (name : List ℕ). HasMet b.rows.program (merging_walk b.rows b.best b.stem name) 36865 depth depth views wide here there met) walking.named written) enters;
    }

-- where the walk is at once a part is written that the innermost open split stands above, or none
pub walk-up : {F : Type 0} {S : Ghosts F} {b : Begun} {old now : F} {views : List View} {sources : List Source} {writer : LogWriter} {splits : List (OpenSplit (Option ℤ) Capped)} {way : Way ℕ Capped} (cap : Capped) (left : List (OpenSplit (Option ℤ) Capped)) → IsWalking S b old now views sources writer splits way → way ≡ Up cap → splits ≡ left
    → IsAt b.rows.program (walk_of b) b.views (whole_of b) left views (record { told = S.files now; sources = sources; writer = writer }) (Up cap)
walk-up {F} {S} {b} {old} {now} {views} {sources} {writer} {splits} cap left walking is top =
    let here : Reached = record { told = S.files now; sources = sources; writer = writer } in
    subst (λ (all : List (OpenSplit (Option ℤ) Capped)). IsAt b.rows.program (walk_of b) b.views (whole_of b) all views here (Up cap)) top (subst (IsAt b.rows.program (walk_of b) b.views (whole_of b) splits views here) is walking.at)

-- the innermost open split is closed, or its right part is next: nothing was read or written, only the area changed
pub gone-further : {F : Type 0} {S : Ghosts F} {b : Begun} {old now : F} {views wide : List View} {sources : List Source} {writer : LogWriter} {splits : List (OpenSplit (Option ℤ) Capped)} {way : Way ℕ Capped} (split : OpenSplit (Option ℤ) Capped) (rest further : List (OpenSplit (Option ℤ) Capped)) (cap : Capped) (next : Way ℕ Capped)
    → IsWalking S b old now views sources writer splits way → way ≡ Up cap → splits ≡ split ∷ rest → Fits b.rows.program (present wide) → HasGoneOn b.rows.program (walk_of b) split cap rest further views wide next → IsWalking S b old now wide sources writer further next
gone-further {F} {S} {b} {old} {now} {views} {wide} {sources} {writer} split rest further cap next walking is top fits gone = record {
  may_read = walking.may_read;
  may_write = walking.may_write;
  apart = walking.apart;
  reading = walking.reading;
  fits = fits;
  named = walking.named;
  frame = walking.frame;
  at = gone-on b.rows.program (walk_of b) b.views (whole_of b) split rest further views wide (record { told = S.files now; sources = sources; writer = writer }) cap next (walk-up cap (split ∷ rest) walking is top) gone;
}

-- other files stay over three stretches of a walk
others-on : (name : List ℕ) (a m n z : Option FileMap) → OthersStay name a m → OthersStay name m n → OthersStay name n z → OthersStay name a z
others-on name a m n z first second third = λ other apart. third other apart ∙ second other apart ∙ first other apart

-- a split of a node was written: once what is merged of both its parts is, one behind the other, what is merged of its own is
pub split-leads : (rows : Rows) (best : Option ℤ) (stem name : List ℕ) (depth : ℕ) (view w : View) (divided new : List View) (node : Node) (cert : Cert) (told now : Option FileMap) (sources : List Source) (writer later : LogWriter) (split : OpenSplit (Option ℤ) Capped) → HasOpened rows.program depth divided new split
    → node.end ≡ Split split.pick cert → after_cuts (steps_of rows) view node.cuts ≡ Some w → present divided ≡ (steps_of rows).trim w split.pick cert → split.kept ≡ (steps_of rows).floor w split.pick cert → PutsItems writer told later now (node_items node) → OthersStay name told now → AreApart name stem sources
    → Leads (merging_walk rows best stem name) split.below (present new) (record { told = now; sources = sources; writer = later })
    (Follows rows.program (merging_walk rows best stem name) split None (present divided) (λ last cap. OthersStay name told last.told × HasMergedSplit rows best view node told last.told stem depth sources last.sources writer last.writer cap))
split-leads rows best stem name depth view w divided new node cert told now sources writer later split opened is cut trimmed floor put others apart = λ left first one right right_is last second two all sums.
    let one_is : HasMerged rows best (present new) now left.told stem (depth + 1) sources left.sources later left.writer first = subst (λ (n : ℕ). HasMerged rows best (present new) now left.told stem n sources left.sources later left.writer first) opened.below one.1 in
    let two_is : HasMerged rows best right left.told last.told stem (depth + 1) left.sources last.sources left.writer last.writer second =
    subst (λ (n : ℕ). HasMerged rows best right left.told last.told stem n left.sources last.sources left.writer last.writer second) opened.below two.1 in
    let same = same-trees now stem (depth + 1) sources left.sources one_is.here one_is.read in
    let parts = parts-merged rows best (present divided) (present new) right split.pick now left.told last.told stem name depth sources left.sources last.sources later left.writer last.writer first second opened.left right_is one.0 (same-apart name name stem sources left.sources refl same apart) one_is two_is in
    let whole = node-merged rows best view w (present divided) node split.pick cert told now last.told stem name depth sources last.sources writer later last.writer (greater first second) is cut trimmed put others apart parts in
    let cap : greater (floor_cap ((steps_of rows).floor w split.pick cert)) (greater first second) ≡ all = ap (λ (own : Option ℤ). greater (floor_cap own) (greater first second)) (sym floor) ∙ sym sums in
    (others-on name told now left.told last.told others one.0 two.0, subst (HasMergedSplit rows best view node told last.told stem depth sources last.sources writer last.writer) cap whole)
