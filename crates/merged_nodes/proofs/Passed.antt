-- One more log that was read past a split, behind others.
use Rattle.std.proofs.Common.{◌≡◌, ◌∙◌, ◌⊎◌, ℕ, ◌+◌, ◌<◌, List, [], ◌∷◌, ◌++◌, length, get_or, take, drop, set, true, Option, None, Some, refl, sym, ap, subst, inl, inr, arith}
use Rattle.std.specs.List.{slice_get}
use Rattle.std.specs.Prelude.{IfSome, is_some}
use Rattle.std.proofs.lemmas.Bool.{cases_order, false≢true}
use Rattle.std.proofs.lemmas.List.{length_push, take_more_set}
use Rattle.std.proofs.lemmas.Option.{none-some}
use Rattle.stn_edge.specs.Files.{FileMap}
use Rattle.proof_log.specs.declared.log_reader.LogReader.{LogReader}
use Rattle.proof_log.specs.LogNames.{log_name}
use Rattle.row_relax.specs.RowProofs.{RowItem}
use Rattle.log_nodes.specs.declared.node.Ending.{Ending}
use Rattle.log_nodes.specs.Reading.{IsReading, ReadsOn}
use Rattle.log_nodes.specs.laws.Nodes.{HasBelow, below_items}
use Rattle.merged_nodes.specs.declared.sources.Source.{Source}
use Rattle.merged_nodes.specs.laws.Looked.{HasPassed, HavePassed, IsSourceReading}
use Rattle.merged_nodes.proofs.Places.{at-front, at-last, at-past, same-there, take-there}
use Rattle.merged_nodes.proofs.Stands.{same-one}

-- none was read yet
pub passed-none : (told : Option FileMap) (stem : List ℕ) (end : Ending) (depth : ℕ) → HavePassed told stem end depth [] []
passed-none told stem end depth = record { as_many = refl; each = λ place one later here there. absurd (none-some one here) }

pub passed-more : (told : Option FileMap) (stem : List ℕ) (end : Ending) (depth : ℕ) (before after : List Source) (one later : Source) → HavePassed told stem end depth before after → HasPassed told stem end depth one later
    → HavePassed told stem end depth (before ++ one ∷ []) (after ++ later ∷ [])
passed-more told stem end depth before after one later have has =
    record {
      as_many = length_push after later ∙ (ap (λ (n : ℕ). n + 1) have.as_many ∙ sym (length_push before one));
      each = λ place a b here there. at place a b here there (cases_order place (length before));
    }
  where
    at : (place : ℕ) (a b : Source) → slice_get (before ++ one ∷ []) place ≡ Some a → slice_get (after ++ later ∷ []) place ≡ Some b
        → (place ≡ length before) ⊎ ((place < length before) ⊎ (length before < place)) → HasPassed told stem end depth a b
    at place a b here there (inl is) =
        let first : slice_get (before ++ one ∷ []) place ≡ Some one = ap (slice_get (before ++ one ∷ [])) is ∙ at-last before one in
        let second : slice_get (after ++ later ∷ []) place ≡ Some later = ap (slice_get (after ++ later ∷ [])) (is ∙ sym have.as_many) ∙ at-last after later in
        same-one (λ (x : Source). HasPassed told stem end depth x b) one a (slice_get (before ++ one ∷ []) place) first here
        (same-one (λ (y : Source). HasPassed told stem end depth one y) later b (slice_get (after ++ later ∷ []) place) second there has)
    at place a b here there (inr (inl within)) =
        have.each place a b (sym (at-front before one place within) ∙ here) (sym (at-front after later place (omega (arith, have.as_many))) ∙ there)
    at place a b here there (inr (inr behind)) = absurd (none-some a (sym (at-past before one place behind) ∙ here))

-- the log at a place was read past, where those before it were
pub passed-there : (told : Option FileMap) (stem : List ℕ) (end : Ending) (depth : ℕ) (first sources : List Source) (place : ℕ) (one later : Source) → place < length sources → length sources ≡ length first
    → drop place sources ≡ drop place first → one ≡ get_or sources place one → HavePassed told stem end depth (take place first) (take place sources) → HasPassed told stem end depth one later
    → HavePassed told stem end depth (take (place + 1) first) (take (place + 1) (set sources place later))
passed-there told stem end depth first sources place one later within as_many rest is have has =
    let own : take (place + 1) first ≡ take place first ++ one ∷ [] = take-there first place one (omega (arith, as_many, within)) (is ∙ same-there sources first place one rest) in
    let now : take (place + 1) (set sources place later) ≡ take place sources ++ later ∷ [] = take_more_set sources place later within in
    subst (λ (b : List Source). HavePassed told stem end depth b (take (place + 1) (set sources place later))) (sym own)
    (subst (λ (a : List Source). HavePassed told stem end depth (take place first ++ one ∷ []) a) (sym now) (passed-more told stem end depth (take place first) (take place sources) one later have has))

-- what was read below an end was read of the log of this name
pub passed-below : (told now : Option FileMap) (name stem : List ℕ) (end : Ending) (depth : ℕ) (one : Source) (later : LogReader) (boxes : ℕ) → now ≡ told → name ≡ log_name stem one.number → depth < one.depth
    → HasBelow (λ items. ReadsOn now name one.reader items later) end boxes → HasPassed told stem end depth one (record { number = one.number; reader = later; depth = depth })
passed-below told now name stem end depth one later boxes same named above has =
    let items : List RowItem = below_items end has.below in
    let there : ReadsOn told name one.reader items later = subst (λ (files : Option FileMap). ReadsOn files name one.reader items later) same has.read in
    inr (above, (has.below, record { number = refl; stands = refl; read = subst (λ (n : List ℕ). ReadsOn told n one.reader items later) named there }))

-- a reader of the file of this name reads the log
pub source-reading : (told now : Option FileMap) (name stem : List ℕ) (number depth : ℕ) (reader : LogReader) → now ≡ told → name ≡ log_name stem number → IsReading now name reader
    → IsSourceReading told stem (record { number = number; reader = reader; depth = depth })
source-reading told now name stem number depth reader same named reading =
    subst (λ (n : List ℕ). IsReading told n reader) named (subst (λ (files : Option FileMap). IsReading files name reader) same reading)

-- what stands below an end was counted
pub below-some : (reads : List RowItem → Type 0) (end : Ending) (count : Option ℕ) → is_some count ≡ true → IfSome count (HasBelow reads end) → (boxes : ℕ) × HasBelow reads end boxes
below-some reads end (Some boxes) is has = (boxes, has)
below-some reads end None is has = absurd (false≢true is)

pub reading-some : (reading : Type 0) (count : Option ℕ) → is_some count ≡ true → IfSome count (λ _. reading) → reading
reading-some reading (Some boxes) is has = has
reading-some reading None is has = absurd (false≢true is)
