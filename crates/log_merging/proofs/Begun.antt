-- Logs that begin their proofs, and what was written where they were read to their ends.
use Rattle.std.proofs.Common.{◌≡◌, ◌≢◌, ◌∙◌, ℕ, ℤ, zero, suc, ◌<◌, Bool, List, [], ◌∷◌, length, get_or, map, Option, None, Some, refl, sym, ap, subst, arith}
use Rattle.std.specs.Prelude.{All, Err, IfOk, IfSome, IsTrue, Ok, Result, slice_get, slice_index_or, unwrap_or}
use Rattle.std.specs.Option.{option_map}
use Rattle.std.proofs.lemmas.List.{get_or-map, length-map}
use Rattle.std.proofs.lemmas.Option.{get_or_from_slice_get, slice_get-get_or}
use Rattle.stn_edge.specs.Files.{FileMap, OthersStay, file_of}
use Rattle.proof_log.specs.declared.claim.Claim.{Claim}
use Rattle.proof_log.specs.declared.log_reader.LogReader.{LogReader}
use Rattle.proof_log.specs.declared.writer.LogWriter.{LogWriter}
use Rattle.proof_log.specs.Behind.{behind}
use Rattle.proof_log.specs.LogNames.{log_name}
use Rattle.proof_log.specs.LogReading.{HasRead, IsClean}
use Rattle.proof_tree.specs.declared.capped.Capped.{Capped}
use Rattle.proof_tree.specs.Items.{tree_items}
use Rattle.row_relax.specs.Choices.{steps_of}
use Rattle.row_relax.specs.RowProofs.{RowItem, RowTree}
use Rattle.row_relax.specs.View.{view_of}
use Rattle.valid_log.specs.SumTexts.{larger_claim}
use Rattle.log_nodes.specs.declared.front.Front.{Front}
use Rattle.log_nodes.specs.Texts.{IsTextBehind}
use Rattle.log_nodes.specs.Reading.{EndsClean, ReadsOn}
use Rattle.log_parts.specs.Heads.{front_text, joined_version}
use Rattle.log_parts.specs.Joining.{plan_of}
use Rattle.log_parts.specs.PartLogs.{logs_of, no_tree}
use Rattle.log_parts.specs.laws.Copying.{HasItems, IsFinished, name_of, whole_text}
use Rattle.log_nodes.proofs.Stays.{read_stays, same_file}
use Rattle.opened_logs.specs.Claims.{profit_of}
use Rattle.merged_nodes.specs.declared.sources.Source.{Source}
use Rattle.merge_ends.specs.declared.readers.Work.{Work}
use Rattle.merged_nodes.specs.Merged.{IsMerged}
use Rattle.merge_ends.specs.MergedClaims.{IsClaimWith}
use Rattle.merged_nodes.specs.laws.Looked.{AreApart, AreReading, MayReadAll}
use Rattle.merge_ends.specs.laws.Begun.{AreBegun, HaveEnded, IsSourceBegun}
use Rattle.log_merging.specs.laws.Written.{HasMergedWhole, HasWritten}
use Rattle.merge_walk.specs.laws.Walked.{HasReadTree}

-- ---- logs that begin

-- what holds of an item of a list that is there
some-there : {X : Type 0} (xs : List X) (n : ℕ) (P : X → Type 0) → n < length xs → IfSome (slice_get xs n) P → (x : X) × ((slice_get xs n ≡ Some x) × P x)
some-there [] n P lt is = absurd (omega (arith, lt))
some-there (x ∷ xs) zero P lt is = (x, (refl, is))
some-there (x ∷ xs) (suc n) P lt is = some-there xs n P (omega (arith, lt)) is

-- an item of a list
item-at : {X : Type 0} (xs : List X) (n : ℕ) → n < length xs → (x : X) × (slice_get xs n ≡ Some x)
item-at [] n lt = absurd (omega (arith, lt))
item-at (x ∷ xs) zero lt = (x, refl)
item-at (x ∷ xs) (suc n) lt = item-at xs n (omega (arith, lt))

-- a log that begins at a place
begun-at : (fronts : List Front) (order : List ℕ) (sources : List Source) (place : ℕ) (d : Source) → AreBegun fronts order sources → place < length sources → IsSourceBegun fronts (get_or order place 0) (get_or sources place d)
begun-at fronts order sources place d are lt = are.each place (get_or sources place d) (slice_get-get_or sources place d lt)

-- its number is that of a front
number-within : (fronts : List Front) (order : List ℕ) (sources : List Source) (place : ℕ) (d : Source) → AreBegun fronts order sources → All (λ number. number < length fronts) order → place < length sources → (get_or sources place d).number < length fronts
number-within fronts order sources place d are all lt =
    let within : place < length order = omega (arith, lt, are.as_many) in
    subst (λ (n : ℕ). n < length fronts) (sym (begun-at fronts order sources place d are lt).number_is) (all place 0 within)

-- logs that begin read items
pub begun-reading : (told : Option FileMap) (stem : List ℕ) (fronts : List Front) (order : List ℕ) (sources : List Source) → AreBegun fronts order sources → All (λ number. number < length fronts) order → AreReading told stem sources
begun-reading told stem fronts order sources are all = λ place d lt.
    let within : place < length order = omega (arith, lt, are.as_many) in
    let source = get_or sources place d in
    let begun = begun-at fronts order sources place d are lt in
    let there = some-there fronts (get_or order place 0) (λ front. (files : Option FileMap) (name : List ℕ) → HasRead files name front.version front.head front.limits [] None source.reader) (all place 0 within) begun.begun in
    (there.0.version, (there.0.head, (there.0.limits, ([], there.1.1 told (log_name stem source.number)))))

-- and may be read
pub begun-may-read : (may_read : List ℕ → Bool) (stem : List ℕ) (fronts : List Front) (order : List ℕ) (sources : List Source) → AreBegun fronts order sources → All (λ number. number < length fronts) order
    → ((number : ℕ) → number < length fronts → IsTrue (may_read (log_name stem number))) → MayReadAll may_read stem sources
begun-may-read may_read stem fronts order sources are all may = λ place d lt. may (get_or sources place d).number (number-within fronts order sources place d are all lt)

-- and are apart from another file
pub begun-apart : (out name stem : List ℕ) (fronts : List Front) (order : List ℕ) (sources : List Source) → AreBegun fronts order sources → All (λ number. number < length fronts) order → name ≡ out
    → ((number : ℕ) → number < length fronts → out ≢ log_name stem number) → AreApart name stem sources
begun-apart out name stem fronts order sources are all named apart = λ place d lt. λ is.
    apart (get_or sources place d).number (number-within fronts order sources place d are all lt) (sym named ∙ is)

-- ---- what was read

-- the proof that a log has read which came down nowhere yet
tree-there : (told : Option FileMap) (stem : List ℕ) (one later : Source) (here : Option RowTree) → one.depth ≡ 0 → HasReadTree told stem 0 one later here
    → (tree : RowTree) × ((here ≡ Some tree) × ((later.number ≡ one.number) × ReadsOn told (log_name stem one.number) one.reader (tree_items tree) later.reader))
tree-there told stem one later None above has = absurd (let below = has.0 in omega (arith, below, above))
tree-there told stem one later (Some tree) above has = (tree, (refl, (has.2, has.3)))

-- what is said of a file that stays
said-back : (told : Option FileMap) (name bytes : List ℕ) (P : List ℕ → Type 0) → option_map (λ (m : FileMap). file_of m name) told ≡ Some bytes → IfSome told (λ m. P (file_of m name)) → P bytes
said-back None name bytes P same is = absurd cc
said-back (Some m) name bytes P same is =
    let here : file_of m name ≡ bytes = cc in subst P here is

-- a log that was read to its end is the text of the proof that was read
log-read : (begun new : Option FileMap) (name bytes : List ℕ) (front : Front) (a b : LogReader) (tree : RowTree) → option_map (λ (m : FileMap). file_of m name) new ≡ option_map (λ (m : FileMap). file_of m name) begun → option_map (λ (m : FileMap). file_of m name) new ≡ Some bytes
    → HasRead begun name front.version front.head front.limits [] None a → ReadsOn begun name a (tree_items tree) b → EndsClean new name b → IsTextBehind front bytes tree
log-read begun new name bytes front a b tree same told read on end =
    let all : HasRead begun name front.version front.head front.limits (tree_items tree) None b = on front.version front.head front.limits [] read in
    let later = read_stays front.version front.head name front.limits (tree_items tree) None b begun new same all in
    let clean = said-back new name bytes (λ own. (version : ℕ) × ((claim : Claim) × IsClean front.limits (behind front.version front.head own) version (tree_items tree) claim)) told (end front.version front.head front.limits (tree_items tree) later) in
    record { version = clean.0; claim = clean.1.0; clean = clean.1.1 }

-- proofs, all of which are there
trees_in : List (Option RowTree) → List RowTree
trees_in here = map (λ (o : Option RowTree). unwrap_or o no_tree) here

all-there : (here : List (Option RowTree)) → ((place : ℕ) → place < length here → (tree : RowTree) × (get_or here place None ≡ Some tree)) → map Some (trees_in here) ≡ here
unfolding trees_in
all-there [] there = refl
all-there (None ∷ here) there =
    let first = there 0 (omega arith) in
    let wrong = first.1 in absurd cc
all-there (Some tree ∷ here) there = ap (λ (rest : List (Option RowTree)). Some tree ∷ rest) (all-there here (λ place lt. there (suc place) (omega (arith, lt))))

counted-in : (here : List (Option RowTree)) → length (trees_in here) ≡ length here
unfolding trees_in
counted-in here = length-map here (λ (o : Option RowTree). unwrap_or o no_tree)

tree-in : (here : List (Option RowTree)) (place : ℕ) (tree : RowTree) → place < length here → get_or here place None ≡ Some tree → get_or (trees_in here) place no_tree ≡ tree
unfolding trees_in
tree-in here place tree lt is = get_or-map (λ (o : Option RowTree). unwrap_or o no_tree) here place None no_tree lt ∙ ap (λ (o : Option RowTree). unwrap_or o no_tree) is

-- ---- what was written

-- the other file is there still
file-told : (name out : List ℕ) (m : FileMap) (a b c : Option FileMap) → out ≢ name → a ≡ Some m → OthersStay out a b → OthersStay out b c → option_map (λ (n : FileMap). file_of n name) c ≡ Some (file_of m name)
file-told name out m a b c apart is first second =
    same_file name b c (second name (λ own. apart (sym own))) ∙ same_file name a b (first name (λ own. apart (sym own))) ∙ ap (λ (o : Option FileMap). option_map (λ (n : FileMap). file_of n name) o) is

module _ (work : Work) (stem out : List ℕ) (m : FileMap) (begun new : Option FileMap) (before after : List Source) (here : List (Option RowTree))
    (all : All (λ number. number < length work.fronts.now) work.order.now) (apart : (number : ℕ) → number < length work.fronts.now → out ≢ log_name stem number) (first : OthersStay out (Some m) begun) (second : OthersStay out begun new)
    (are : AreBegun work.fronts.now work.order.now before) (as_many : length after ≡ length before) (all_here : length here ≡ length before)
    (each : (place : ℕ) (one later : Source) → slice_get before place ≡ Some one → slice_get after place ≡ Some later → HasReadTree begun stem 0 one later (slice_index_or here place None)) (ended : HaveEnded new stem after) where
  -- the tree at a place, and the text of its log
  read-at : (place : ℕ) → place < length before
      → (tree : RowTree) × ((get_or here place None ≡ Some tree) × IfSome (slice_get work.fronts.now (get_or work.order.now place 0)) (λ front. IsTextBehind front (logs_of m stem (get_or work.order.now place 0)) tree))
  read-at place lt =
      let within : place < length work.order.now = omega (arith, lt, are.as_many) in
      let later_lt : place < length after = omega (arith, lt, as_many) in
      let one = item-at before place lt in
      let later = item-at after place later_lt in
      let number = get_or work.order.now place 0 in
      let own = are.each place one.0 one.1 in
      let number_lt : number < length work.fronts.now = all place 0 within in
      let name = log_name stem number in
      let front = some-there work.fronts.now number (λ f. (files : Option FileMap) (file : List ℕ) → HasRead files file f.version f.head f.limits [] None one.0.reader) number_lt own.begun in
      let found = tree-there begun stem one.0 later.0 (get_or here place None) own.above (each place one.0 later.0 one.1 later.1) in
      let on = subst (λ (n : ℕ). ReadsOn begun (log_name stem n) one.0.reader (tree_items found.0) later.0.reader) own.number_is found.1.1.1 in
      let end_here = subst (λ (s : Source). EndsClean new (log_name stem s.number) s.reader) (get_or_from_slice_get after place later.0 later.0 later.1) (ended place later.0 later_lt) in
      let end = subst (λ (n : ℕ). EndsClean new (log_name stem n) later.0.reader) (found.1.1.0 ∙ own.number_is) end_here in
      let same = same_file name begun new (second name (λ is. apart number number_lt (sym is))) in
      let told = file-told name out m (Some m) begun new (apart number number_lt) refl first second in
      let text = log-read begun new name (file_of m name) front.0 one.0.reader later.0.reader found.0 same told (front.1.1 begun name) on end in
      (found.0, (found.1.0, subst (λ (o : Option Front). IfSome o (λ f. IsTextBehind f (logs_of m stem number) found.0)) (sym front.1.0) text))

  -- all trees, one after another
  all-read : map Some (trees_in here) ≡ here
  all-read = all-there here (λ place lt. let read = read-at place (omega (arith, lt, all_here)) in (read.0, read.1.0))

  counted-read : length (trees_in here) ≡ length work.order.now
  counted-read = counted-in here ∙ all_here ∙ are.as_many

  texts-read : (place : ℕ) → place < length work.order.now → IfSome (slice_get work.fronts.now (slice_index_or work.order.now place 0)) (λ front. IsTextBehind front (logs_of m stem (slice_index_or work.order.now place 0)) (slice_index_or (trees_in here) place no_tree))
  texts-read place lt =
      let within : place < length before = omega (arith, lt, are.as_many) in
      let read = read-at place within in
      let is = tree-in here place read.0 (omega (arith, within, all_here)) read.1.0 in
      subst (λ (tree : RowTree). IfSome (slice_get work.fronts.now (get_or work.order.now place 0)) (λ front. IsTextBehind front (logs_of m stem (get_or work.order.now place 0)) tree)) (sym is) read.1.1

-- the whole log was written
pub has-written : (work : Work) (best claim : Claim) (profit : Option ℤ) (stem out : List ℕ) (old begun new last : Option FileMap) (before : List Source) (writer later : LogWriter) (cap : Capped) (larger : Claim) (version : ℕ) → All (λ number. number < length work.fronts.now) work.order.now
    → ((number : ℕ) → number < length work.fronts.now → out ≢ log_name stem number) → OthersStay out old begun → OthersStay out begun new → AreBegun work.fronts.now work.order.now before → name_of later ≡ out → profit ≡ profit_of best
    → version ≡ joined_version work.newest work.first.now.head.declared.sums → HasItems (front_text version work.first.now.head.declared) writer begun [] → HasMergedWhole work.first.now.rows profit begun new stem before writer later cap → IsClaimWith (plan_of best) cap claim
    → larger ≡ larger_claim work.first.now.head.declared.sums claim → ((front : List ℕ) (items : List RowItem) → HasItems front later new items → IsFinished front (name_of later) items larger last) → HasWritten work best stem out old last claim
has-written work best claim profit stem out None begun new last before writer later cap larger version all apart first second are named profit_is version_is has whole is_claim larger_is finish = tt
has-written work best claim profit stem out (Some m) begun new None before writer later cap larger version all apart first second are named profit_is version_is has whole is_claim larger_is finish = tt
has-written work best claim profit stem out (Some m) begun new (Some n) before writer later cap larger version all apart first second are named profit_is version_is has whole is_claim larger_is finish =
    let merged = whole.merged in
    let read = merged.read in
    let here = merged.here in
    let rows = work.first.now.rows in
    let declared = work.first.now.head.declared in
    let view = view_of rows.program.root in
    let every = all-read work stem out m begun new before whole.after here all apart first second are read.as_many read.all read.each whole.ended in
    let finished = finish (front_text version declared) (tree_items merged.tree) (merged.put (front_text version declared) [] has) in
    let text = subst (λ (name : List ℕ). file_of n name ≡ whole_text (front_text version declared) (tree_items merged.tree) larger) named finished in
    let own = subst (λ (c : Claim). file_of n out ≡ whole_text (front_text version declared) (tree_items merged.tree) c) larger_is text in
    record {
      trees = trees_in here;
      all_trees = counted-read work stem out m begun new before whole.after here all apart first second are read.as_many read.all read.each whole.ended;
      texts = texts-read work stem out m begun new before whole.after here all apart first second are read.as_many read.all read.each whole.ended;
      tree = merged.tree;
      merged = subst (λ (trees : List (Option RowTree)). IsMerged (steps_of rows) (profit_of best) view trees merged.tree) (sym every) (subst (λ (p : Option ℤ). IsMerged (steps_of rows) p view here merged.tree) profit_is merged.merged);
      is_claim = subst (λ (c : Capped). IsClaimWith (plan_of best) c claim) merged.cap_is is_claim;
      text = subst (λ (v : ℕ). file_of n out ≡ whole_text (front_text v declared) (tree_items merged.tree) (larger_claim declared.sums claim)) version_is own;
    }

-- ---- lists by place

-- what is said of an answer that is there follows from what is said of it
pub answer-then : {X E : Type 0} (result : Result (Option X) E) (P Q : X → Type 0) → ((x : X) → P x → Q x) → IfOk result (λ o. IfSome o P) → IfOk result (λ o. IfSome o Q)
answer-then (Ok (Some x)) P Q then_ is = then_ x is
answer-then (Ok None) P Q then_ is = tt
answer-then (Err e) P Q then_ is = tt
