-- Logs that are read while another file is written: they stay the same logs, and their reading goes on.
use Rattle.std.proofs.Common.{◌≡◌, ◌≢◌, ◌∙◌, inl, inr, ℕ, ◌<◌, Bool, List, ◌++◌, length, get_or, Option, None, Some, refl, sym, ap, subst, arith}
use Rattle.std.specs.Prelude.{IsTrue, slice_get, slice_index_or}
use Rattle.std.proofs.lemmas.Option.{get_or_from_slice_get, slice_get-get_or, slice_get_within}
use Rattle.stn_edge.specs.Files.{FileMap, OthersStay}
use Rattle.proof_log.specs.declared.log_reader.LogReader.{LogReader}
use Rattle.proof_log.specs.LogNames.{log_name}
use Rattle.proof_tree.specs.Items.{tree_items}
use Rattle.row_relax.specs.RowProofs.{RowItem, RowTree}
use Rattle.log_nodes.specs.declared.node.Ending.{Ending}
use Rattle.log_nodes.specs.Reading.{IsReading, ReadsOn}
use Rattle.log_nodes.proofs.Stays.{read_stays, same_file}
use Rattle.merged_nodes.specs.declared.sources.Source.{Source}
use Rattle.merged_nodes.specs.laws.Looked.{AreApart, AreReading, Away, Down, Ends, HasPassed, HasStood, HavePassed, HaveStood, MayReadAll, Other, Stand}
use Rattle.merge_walk.specs.laws.Opened.{AreSame}
use Rattle.merge_walk.specs.laws.Walked.{HasReadParts, HasReadTree, HaveReadParts, HaveReadTrees}

-- ---- reading goes on

-- a reader reads a file on where another one changes
pub reading-stays : (name out : List ℕ) (r : LogReader) (old new : Option FileMap) → OthersStay out old new → out ≢ name → IsReading old name r → IsReading new name r
reading-stays name out r old new others apart is =
    (is.0, (is.1.0, (is.1.1.0, (is.1.1.1.0, read_stays is.0 is.1.0 name is.1.1.0 is.1.1.1.0 None r old new (same_file name old new (others name (λ own. apart (sym own)))) is.1.1.1.1))))

-- what was read where another file had changed is what stood there before
pub reads-back : (name out : List ℕ) (a b : LogReader) (added : List RowItem) (old new : Option FileMap) → OthersStay out old new → out ≢ name → ReadsOn new name a added b → ReadsOn old name a added b
reads-back name out a b added old new others apart on = λ version head limits items read.
    let same = same_file name old new (others name (λ own. apart (sym own))) in
    read_stays version head name limits (items ++ added) None b new old (sym same) (on version head limits items (read_stays version head name limits items None a old new same read))

-- all logs are read on
pub readings-stay : (out stem : List ℕ) (sources : List Source) (old new : Option FileMap) → OthersStay out old new → AreApart out stem sources → AreReading old stem sources → AreReading new stem sources
readings-stay out stem sources old new others apart reading = λ place d lt.
    reading-stays (log_name stem (get_or sources place d).number) out (get_or sources place d).reader old new others (apart place d lt) (reading place d lt)

-- a file that is none of the logs is none of them at a place
apart-at : (out stem : List ℕ) (sources : List Source) (place : ℕ) (one : Source) → AreApart out stem sources → slice_get sources place ≡ Some one → out ≢ log_name stem one.number
apart-at out stem sources place one apart is =
    subst (λ (s : Source). out ≢ log_name stem s.number) (get_or_from_slice_get sources place one one is) (apart place one (slice_get_within sources place one is))

-- a proof that was read stood there before
tree-back : (out stem : List ℕ) (old new : Option FileMap) (depth : ℕ) (before after : Source) (tree : Option RowTree) → OthersStay out old new → out ≢ log_name stem before.number → HasReadTree new stem depth before after tree → HasReadTree old stem depth before after tree
tree-back out stem old new depth before after None others apart has = has
tree-back out stem old new depth before after (Some tree) others apart has =
    (has.0, has.1, has.2, reads-back (log_name stem before.number) out before.reader after.reader (tree_items tree) old new others apart has.3)

pub trees-back : (out stem : List ℕ) (old new : Option FileMap) (depth : ℕ) (before after : List Source) (here : List (Option RowTree)) → OthersStay out old new → AreApart out stem before → HaveReadTrees new stem depth before after here → HaveReadTrees old stem depth before after here
trees-back out stem old new depth before after here others apart have = record {
  as_many = have.as_many;
  all = have.all;
  each = λ place one later is_one is_later.
      tree-back out stem old new depth one later (slice_index_or here place None) others (apart-at out stem before place one apart is_one) (have.each place one later is_one is_later);
}

-- so of both parts of a split
part-back : (out stem : List ℕ) (old new : Option FileMap) (depth : ℕ) (before after : Source) (first second : Option RowTree) → OthersStay out old new → out ≢ log_name stem before.number → HasReadParts new stem depth before after first second → HasReadParts old stem depth before after first second
part-back out stem old new depth before after None second others apart has = has
part-back out stem old new depth before after (Some first) None others apart has = has
part-back out stem old new depth before after (Some first) (Some second) others apart has =
    (has.0, has.1, has.2, reads-back (log_name stem before.number) out before.reader after.reader (tree_items first ++ tree_items second) old new others apart has.3)

pub parts-back : (out stem : List ℕ) (old new : Option FileMap) (depth : ℕ) (before after : List Source) (firsts seconds : List (Option RowTree)) → OthersStay out old new → AreApart out stem before → HaveReadParts new stem depth before after firsts seconds
    → HaveReadParts old stem depth before after firsts seconds
parts-back out stem old new depth before after firsts seconds others apart have = record {
  as_many = have.as_many;
  all = have.all;
  all_seconds = have.all_seconds;
  each = λ place one later is_one is_later.
      part-back out stem old new depth one later (slice_index_or firsts place None) (slice_index_or seconds place None) others (apart-at out stem before place one apart is_one) (have.each place one later is_one is_later);
}

-- ---- the same logs

-- logs of which nothing was read
pub same-none : (sources : List Source) → AreSame sources sources
same-none sources = record { as_many = refl; each = λ place d lt. refl }

-- one reading after another
pub same-then : (before middle after : List Source) → AreSame before middle → AreSame middle after → AreSame before after
same-then before middle after first second = record {
  as_many = second.as_many ∙ first.as_many;
  each = λ place d lt. second.each place d (omega (arith, lt, first.as_many)) ∙ first.each place d lt;
}

-- so where each has its number still
same-from : (before after : List Source) → length after ≡ length before
    → ((place : ℕ) (one later : Source) → slice_get before place ≡ Some one → slice_get after place ≡ Some later → later.number ≡ one.number) → AreSame before after
same-from before after as_many each = record {
  as_many = as_many;
  each = λ place d lt.
      let within : place < length after = omega (arith, lt, as_many) in
      each place (get_or before place d) (get_or after place d) (slice_get-get_or before place d lt) (slice_get-get_or after place d within);
}

-- the same logs may be read
pub same-may-read : (may_read may_later : List ℕ → Bool) (stem : List ℕ) (before after : List Source) → may_later ≡ may_read → AreSame before after → MayReadAll may_read stem before → MayReadAll may_later stem after
same-may-read may_read may_later stem before after may same all = λ place d lt.
    let within : place < length before = omega (arith, lt, same.as_many) in
    let here = subst (λ (number : ℕ). IsTrue (may_read (log_name stem number))) (sym (same.each place d within)) (all place d within) in
    subst (λ (own : List ℕ → Bool). IsTrue (own (log_name stem (get_or after place d).number))) (sym may) here

-- a file is none of the same logs
pub same-apart : (out later stem : List ℕ) (before after : List Source) → later ≡ out → AreSame before after → AreApart out stem before → AreApart later stem after
same-apart out later stem before after named same apart = λ place d lt.
    let within : place < length before = omega (arith, lt, same.as_many) in
    λ is. apart place d within (sym named ∙ is ∙ ap (log_name stem) (same.each place d within))

-- logs that were looked at
stood-number : (told : Option FileMap) (stem : List ℕ) (depth : ℕ) (before after : Source) (stand : Stand) → HasStood told stem depth before after stand → after.number ≡ before.number
stood-number told stem depth before after Away has = ap (λ (s : Source). s.number) has.1
stood-number told stem depth before after (Ends node) has = has.2.number
stood-number told stem depth before after (Down node) has = has.2.number
stood-number told stem depth before after (Other node first second) has = has.2.number

pub same-stood : (told : Option FileMap) (stem : List ℕ) (depth : ℕ) (before after : List Source) (stands : List Stand) → HaveStood told stem depth before after stands → AreSame before after
same-stood told stem depth before after stands have = same-from before after have.as_many (λ place one later is_one is_later.
    let lt : place < length before = slice_get_within before place one is_one in
    let within : place < length stands = omega (arith, lt, have.all) in
    stood-number told stem depth one later (get_or stands place Away) (have.each place one later (get_or stands place Away) is_one is_later (slice_get-get_or stands place Away within)))

-- logs of which more was passed
passed-number : (told : Option FileMap) (stem : List ℕ) (end : Ending) (depth : ℕ) (before after : Source) → HasPassed told stem end depth before after → after.number ≡ before.number
passed-number told stem end depth before after has =
    elim has [
      | inl none ↦ ap (λ (s : Source). s.number) none.1
      | inr read ↦ read.1.1.number
    ]

pub same-passed : (told : Option FileMap) (stem : List ℕ) (end : Ending) (depth : ℕ) (before after : List Source) → HavePassed told stem end depth before after → AreSame before after
same-passed told stem end depth before after have = same-from before after have.as_many (λ place one later is_one is_later.
    passed-number told stem end depth one later (have.each place one later is_one is_later))

-- logs of which a proof was read
tree-number : (told : Option FileMap) (stem : List ℕ) (depth : ℕ) (before after : Source) (tree : Option RowTree) → HasReadTree told stem depth before after tree → after.number ≡ before.number
tree-number told stem depth before after None has = ap (λ (s : Source). s.number) has.1
tree-number told stem depth before after (Some tree) has = has.2

pub same-trees : (told : Option FileMap) (stem : List ℕ) (depth : ℕ) (before after : List Source) (here : List (Option RowTree)) → HaveReadTrees told stem depth before after here → AreSame before after
same-trees told stem depth before after here have = same-from before after have.as_many (λ place one later is_one is_later.
    tree-number told stem depth one later (slice_index_or here place None) (have.each place one later is_one is_later))
