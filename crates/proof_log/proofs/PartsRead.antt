-- After a line a reader of a log has read more of it, or to a part of it.
use Rattle.std.proofs.Common.{◌≡◌, ℕ, ◌+◌, List, [], ◌∷◌, ◌++◌, length, Option, Some, None, IfSome, MatchOption, refl, ap, sym, ◌∙◌, subst, arith}
use Rattle.std.specs.List.{All}
use Rattle.std.proofs.lemmas.Grind.{common_steps}
use Rattle.stn_edge.specs.Files.{FileMap, file_of}
use Rattle.proof_tree.specs.Form.{any_steps, form_of, AreWhole}
use Rattle.proof_tree.specs.Walk.{Outcome, going, ended, undefined, misplaced}
use Rattle.proof_tree.proofs.Forms.{Alike, alike}
use Rattle.row_relax.specs.declared.pick.RowPick.{RowPick}
use Rattle.log_lines.specs.declared.grammar.Limits.{Limits}
use Rattle.log_lines.specs.declared.grammar.Place.{Place}
use Rattle.log_lines.specs.declared.grammar.Place.TheVariants.{Done}
use Rattle.log_lines.specs.declared.line.Line.{Line}
use Rattle.log_lines.specs.declared.reader.LineEnd.{LineEnd}
use Rattle.log_lines.specs.declared.reader.LineEnd.TheVariants.{Whole}
use Rattle.log_lines.specs.Grammar.{Standing, new_standing}
use Rattle.log_lines.specs.Line.{IsLine, line_text}
use Rattle.log_lines.specs.Reader.{Reading, IsEnd, IsAhead, new_reading}
use Rattle.log_lines.specs.TextDefect.{log_text_defect}
use Rattle.proof_log.specs.declared.claim.Claim.{Claim}
use Rattle.proof_log.specs.declared.group.Group.{Group}
use Rattle.proof_log.specs.declared.gatherer.Gatherer.{Gatherer}
use Rattle.proof_log.specs.declared.log_reader.LogReader.{LogReader}
use Rattle.proof_log.specs.declared.log_reader.LogPart.{LogPart}
use Rattle.proof_log.specs.declared.log_reader.LogPart.TheVariants.{Item as ItemPart, Claim as ClaimPart, End as EndPart, Bad as BadPart}
use Rattle.proof_log.specs.Behind.{behind}
use Rattle.proof_log.specs.Agree.{ClaimAgrees, FormAgrees, PlaceExpects}
use Rattle.proof_log.specs.Gathered.{HasGathered, IsThere, lines_at}
use Rattle.row_relax.specs.RowProofs.{RowItem}
use Rattle.proof_log.specs.Log.{lines_text, log_lines, log_text}
use Rattle.proof_log.specs.LogReading.{HasRead, IsReadTo, IsDefectOfRest, IsClean, IsPartAfter}
use Rattle.proof_log.specs.OneText.{IsOver, IsClaimOver}
use Rattle.proof_log.specs.Step.{IsStepped, HasStepped}
use Rattle.proof_log.specs.Text.{EndsAs, rest_defect}
use Rattle.proof_log.proofs.Reading.{ToldEnd, read_begun, left_begun, ahead_begun, read_more, left_more, ahead_more, left_bad, read_over}

-- a reader at the first byte of a file has read no item
pub begun : (told : Option FileMap) (name : List ℕ) (version : ℕ) (limits : Limits) (r : LogReader) → r.lines ≡ new_reading → r.gatherer.grammar ≡ new_standing → r.gatherer.limits ≡ limits → HasGathered [] [] None r.gatherer → HasRead told name version 0 limits [] None r
begun told name version limits r lines grammar limited gathered = record {
  lines = [];
  gathered = gathered;
  limited = limited;
  read = subst (λ (o : Reading). IsReadTo told name version 0 [] o.place) (sym lines) (read_begun told name version);
  left = subst (λ (o : Reading). IsDefectOfRest told name version 0 limits r.gatherer.grammar 1 o.place) (sym lines) (subst (λ (o : Standing). IsDefectOfRest told name version 0 limits o 1 0) (sym grammar) (left_begun told name version limits));
  ahead = subst (λ (o : Reading). IfSome told (λ m. IsAhead (file_of m name) o.place o.ahead)) (sym lines) (ahead_begun told name);
  going = ap (λ (o : Reading). o.ended) lines;
}

-- a claim has been made where the log has ended
pub claim_there : (place : Place) (claim : Option Claim) → place ≡ Done → ClaimAgrees place claim → (made : Claim) × (claim ≡ Some made)
claim_there place None is agrees = absurd (subst (λ p. ClaimAgrees p None) is agrees)
claim_there place (Some made) is agrees = (made, refl)

-- the items are whole where the log has ended
pub items_whole : (standing : Standing) (items : List RowItem) → standing.place ≡ Done → FormAgrees standing (form_of items) → AreWhole items
items_whole standing items is agrees = by (form_of items) refl agrees
  where
    by : (form : Outcome RowPick) → form_of items ≡ form → FormAgrees standing form → AreWhole items
    by (going stage) e agree = absurd (subst (λ p. PlaceExpects p stage.expected) is agree.expects)
    by (ended part_cap) e agree = subst (λ o. Alike o (form_of items)) e (alike any_steps [] items)
    by undefined e agree = absurd agree
    by misplaced e agree = absurd agree

-- and the lines are those of the log
pub lines_whole : (version : ℕ) (place : Place) (items : List RowItem) (group : Group) (claim : Option Claim) (made : Claim) → place ≡ Done → claim ≡ Some made → lines_at version place items group claim ≡ log_lines version items made
unfolding log_lines
lines_whole version place items group claim made is some = rw (is, some) refl

-- the text of the log, where it has ended and the file with it
pub clean : (limits : Limits) (bytes : List ℕ) (lines : List Line) (items : List RowItem) (made : Claim) (g : Gatherer) → HasGathered lines items (Some made) g → g.limits ≡ limits → g.grammar.place ≡ Done → bytes ≡ lines_text lines → log_text_defect limits bytes ≡ None → IsClean limits bytes g.grammar.version items made
unfolding log_text
clean limits bytes lines items made g is limited done text none =
    let whole : lines ≡ log_lines g.grammar.version items made = is.listed ∙ lines_whole g.grammar.version g.grammar.place items g.group (Some made) made done refl in
    record {
      text = text ∙ ap lines_text whole;
      over = subst (λ (l : Limits). All (IsOver l.points) items) limited is.over;
      claim_over = subst (λ (l : Limits). IsClaimOver l.points made) limited is.claim_over;
      lines = subst (λ ls. All IsLine ls) whole is.written;
      clean = none;
    }

module _ (told : Option FileMap) (name : List ℕ) (version head : ℕ) (limits : Limits) (items : List RowItem) (claim : Option Claim) (old new : LogReader) (end : LineEnd) (is : HasRead told name version head limits items claim old) (ends : ToldEnd told name old.lines new.lines end) (ended_so : IsEnd old.lines new.lines end) (limited : new.gatherer.limits ≡ old.gatherer.limits) where
  -- after a whole line that makes other items and another claim of the lines
  more : (later : List RowItem) (later_claim : Option Claim) (line : Line) → end ≡ Whole → line_text line ≡ new.lines.line → HasGathered (is.lines ++ line ∷ []) later later_claim new.gatherer
      → ((rest after : List ℕ) → EndsAs rest new.lines.line end after → rest_defect limits old.gatherer.grammar (1 + length is.lines) rest ≡ rest_defect limits new.gatherer.grammar (1 + length is.lines + 1) after)
      → HasRead told name version head limits later later_claim new
  more later later_claim line whole said gathered goes =
      let told_whole = subst (ToldEnd told name old.lines new.lines) whole ends in
      let long : 1 + length is.lines + 1 ≡ 1 + length (is.lines ++ line ∷ []) = grind (arith, common_steps) in
      record {
        lines = is.lines ++ line ∷ [];
        gathered = gathered;
        limited = limited ∙ is.limited;
        read = read_more told name version head is.lines line old.lines new.lines is.read told_whole said;
        left = subst (λ n. IsDefectOfRest told name version head limits new.gatherer.grammar n new.lines.place) long (left_more told name version head limits old.gatherer.grammar new.gatherer.grammar (1 + length is.lines) old.lines new.lines end is.left ends goes);
        ahead = ahead_more told name old.lines new.lines told_whole;
        going = (subst (IsEnd old.lines new.lines) whole ended_so).0;
      }

  over : (own : ℕ) → new.gatherer ≡ old.gatherer → old.gatherer.grammar.place ≡ Done → own ≡ old.gatherer.grammar.version
      → ((rest after : List ℕ) → EndsAs rest new.lines.line end after → (rest_defect limits old.gatherer.grammar (1 + length is.lines) rest ≡ None) × (rest ≡ []))
      → AreWhole items × ((made : Claim) × (claim ≡ Some made) × IfSome told (λ m. IsClean limits (behind version head (file_of m name)) own items made))
  over own same done is_own none =
      let g = old.gatherer in
      let made = claim_there g.grammar.place claim done is.gathered.claimed in
      let gathered : HasGathered is.lines items (Some made.0) g = subst (λ c. HasGathered is.lines items c g) made.1 is.gathered in
      (items_whole g.grammar items done is.gathered.form, (made.0, made.1, told_clean told made.0 gathered (read_over told name version head limits is.lines g.grammar (1 + length is.lines) old.lines new.lines end is.read is.left ends none)))
    where
      told_clean : (told : Option FileMap) (made : Claim) → HasGathered is.lines items (Some made) old.gatherer → IfSome told (λ m. (behind version head (file_of m name) ≡ lines_text is.lines) × (log_text_defect limits (behind version head (file_of m name)) ≡ None)) → IfSome told (λ m. IsClean limits (behind version head (file_of m name)) own items made)
      told_clean None made gathered both = tt
      told_clean (Some m) made gathered both = subst (λ v. IsClean limits (behind version head (file_of m name)) v items made) (sym is_own) (clean limits (behind version head (file_of m name)) is.lines items made old.gatherer gathered is.limited done both.0 both.1)

  -- what a line has made whole is the next part of the log
  by_step : (step : Option LogPart) → IsStepped limits old.gatherer.grammar (1 + length is.lines) new.lines.line end new.gatherer.grammar step → HasStepped new.lines.line end old.gatherer new.gatherer step → MatchOption step (HasRead told name version head limits items claim new) (IsPartAfter told name version head limits items claim new)
  by_step None text (whole, (line, said, makes)) = more items claim line whole said (makes is.lines items claim is.gathered) text
  by_step (Some (ItemPart line item)) text (whole, (first, said, makes)) =
      let made = makes is.lines items claim is.gathered in
      (made.0, made.1, made.2, subst (λ l. IsThere l item) (limited ∙ is.limited) made.3, more (items ++ item ∷ []) None first whole said made.4 text)
  by_step (Some (ClaimPart line claim2)) text (whole, (first, said, makes)) =
      let made = makes is.lines items claim is.gathered in
      (made.0, made.1, made.2, more items (Some claim2) first whole said made.3 text)
  by_step (Some (EndPart own)) text (same, done, is_own) = over own same done is_own text
  by_step (Some (BadPart defect)) text made = left_bad told name version head limits old.gatherer.grammar (1 + length is.lines) (defect.line, defect.kind) old.lines new.lines end is.left ends text

  -- the same, as the line was numbered
  pub part_read : (step : Option LogPart) → IsStepped old.gatherer.limits old.gatherer.grammar (old.gatherer.number + 1) new.lines.line end new.gatherer.grammar step → HasStepped new.lines.line end old.gatherer new.gatherer step → MatchOption step (HasRead told name version head limits items claim new) (IsPartAfter told name version head limits items claim new)
  part_read step text made =
      let number : old.gatherer.number + 1 ≡ 1 + length is.lines = omega (arith, is.gathered.number) in
      by_step step (subst (λ n. IsStepped limits old.gatherer.grammar n new.lines.line end new.gatherer.grammar step) number (subst (λ l. IsStepped l old.gatherer.grammar (old.gatherer.number + 1) new.lines.line end new.gatherer.grammar step) is.limited text)) made
