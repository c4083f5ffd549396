-- A text without a defect is that of a log: what its lines are is gathered one by one.
use Rattle.std.proofs.Common.{◌≡◌, ℕ, ◌+◌, ◌<◌, ◌^◌, Bool, true, false, ◌&&◌, eqb, List, [], ◌∷◌, ◌++◌, length, Option, Some, None, ◌⊎◌, inl, inr, ⊎_elim, refl, sym, ap, ◌∙◌, subst, append_assoc, nat_lt, arith}
use Rattle.std.specs.Prelude.{if◌then◌else◌, IsSomeAnd}
use Rattle.std.specs.List.{slice_split, join_with_byte}
use Rattle.std.specs.Option.{option_map_or}
use Rattle.std.proofs.lemmas.Bool.Decides.{nat_tests}
use Rattle.std.proofs.lemmas.List.{append-nil}
use Rattle.std.proofs.lemmas.List.Elements.{All-nil}
use Rattle.std.proofs.lemmas.List.Splits.{join_with_byte-slice_split, length-slice_split}
use Rattle.proof_tree.proofs.Forms.{whole_tree}
use Rattle.proof_tree.specs.Items.{tree_items}
use Rattle.log_lines.specs.declared.grammar.Limits.{Limits}
use Rattle.log_lines.specs.declared.grammar.Place.{Place}
use Rattle.log_lines.specs.declared.grammar.Place.TheVariants.{Header as AtHeader, Node as AtNode, Inside, Ending, Floored, Values as AtValues, Mults as AtMults, Claim as AtClaim, End as AtEnd, Done}
use Rattle.log_lines.specs.declared.line.Line.{Line}
use Rattle.log_lines.specs.declared.line.Line.TheVariants.{Header, End}
use Rattle.log_lines.specs.Grammar.{Standing, new_standing, next, over, line_defect}
use Rattle.log_lines.specs.Line.{IsLine, line_text}
use Rattle.log_lines.specs.Said.{line_said}
use Rattle.log_lines.specs.TextDefect.{is_done, text_defect, log_text_defect}
use Rattle.log_lines.proofs.SaidLines.{line_said-is}
use Rattle.proof_log.specs.declared.claim.Claim.{Claim}
use Rattle.proof_log.specs.declared.gatherer.Gatherer.{Gatherer}
use Rattle.proof_log.specs.declared.group.Group.TheVariants.{Nothing}
use Rattle.proof_log.specs.declared.group.Grown.{Grown}
use Rattle.proof_log.specs.declared.group.Grown.TheVariants.{More, Whole}
use Rattle.proof_log.specs.declared.group.Piece.TheVariants.{Item, Claim as ClaimPiece}
use Rattle.proof_log.specs.Accepted.{leads}
use Rattle.proof_log.specs.Agree.{IsBody}
use Rattle.proof_log.specs.CleanTexts.{IsTextOfLog, CleanTextsAreLogs}
use Rattle.proof_log.specs.Gathered.{HasGathered, LineComes}
use Rattle.proof_log.specs.Gathering.{followed}
use Rattle.row_relax.specs.RowProofs.{RowItem, RowTree}
use Rattle.proof_log.specs.Log.{lines_text, log_lines}
use Rattle.proof_log.specs.LogReading.{IsClean}
use Rattle.proof_log.specs.OneText.{IsOver}
use Rattle.proof_log.proofs.Gathers.{BodyComes, made_more, made_item, made_claim, made_edge}
use Rattle.proof_log.proofs.Lines.{lines_text-cons, lines_text-none}
use Rattle.proof_log.proofs.PartsRead.{claim_there, items_whole, lines_whole, clean}

-- ---- one line more

-- what has been gathered after one more line, which leads to a standing
record Stepped (lines : List Line) (line : Line) (limits : Limits) (later : Standing) : Type 0 where
  items : List RowItem
  claim : Option Claim
  g : Gatherer
  gathered : HasGathered (lines ++ line ∷ []) items claim g
  limited : g.limits ≡ limits
  at : g.grammar ≡ later

body_or_edge : (line : Line) → IsBody line ⊎ (¬ IsBody line)
body_or_edge (Header version) = inr (λ body. body)
body_or_edge End = inr (λ body. body)
body_or_edge _ = inl tt

-- a line of an item or of the claim
body_step : (before : Standing) (lines : List Line) (items : List RowItem) (claim : Option Claim) (line : Line) (g : Gatherer) → BodyComes before lines items claim line g → Stepped lines line g.limits g.grammar
body_step before lines items claim line g comes = at (followed g.limits.points g.group line) refl
  where
    at : (grown : Grown) → grown ≡ followed g.limits.points g.group line → Stepped lines line g.limits g.grammar
    at (More group) is = record { items = items; claim = claim; g = record g { group = group }; gathered = made_more before lines items claim line g group comes is; limited = refl; at = refl }
    at (Whole (Item item)) is =
        let made = made_item before lines items claim line g item (g.number + 1) comes is refl in
        record { items = items ++ item ∷ []; claim = None; g = record g { group = Nothing; began = g.number + 1 }; gathered = made.4; limited = refl; at = refl }
    at (Whole (ClaimPiece own)) is =
        let made = made_claim before lines items claim line g own comes is in
        record { items = items; claim = Some own; g = record g { group = Nothing }; gathered = made.3; limited = refl; at = refl }

-- a line that may come
step : (lines : List Line) (items : List RowItem) (claim : Option Claim) (g : Gatherer) (line : Line) (later : Standing) → g.limits.rows < 2 ^ 32 → g.limits.slots < 2 ^ 32 → HasGathered lines items claim g → IsLine line
    → over g.limits g.grammar line ≡ None → next g.grammar line ≡ Some later → Stepped lines line g.limits later
step lines items claim g line later rows slots is written fine moves =
    let new : Gatherer = record g { grammar = later; number = length lines + 1 } in
    let had : HasGathered lines items claim (record g { number = length lines }) = subst (λ n. HasGathered lines items claim (record g { number = n })) is.number is in
    let comes : LineComes g.grammar lines items claim line new = record { gathered = had; written = written; number = refl; moves = moves; fine = fine } in
    ⊎_elim
    (λ (body : IsBody line). body_step g.grammar lines items claim line new (record { comes = comes; body = body; few_rows = rows; few_slots = slots }))
    (λ (edge : ¬ IsBody line). record { items = items; claim = claim; g = new; gathered = made_edge lines items claim new g.grammar.version g.grammar.place g.grammar.sides line edge comes; limited = refl; at = refl })
    (body_or_edge line)

-- ---- the parts of a text

-- nothing is left after the last line
record IsAtEnd (standing : Standing) (part : List ℕ) (parts : List (List ℕ)) : Type 0 where
  done : is_done standing.place ≡ true
  part_none : part ≡ []
  parts_none : parts ≡ []

-- a part is a line that leads on
record LeadsOn (limits : Limits) (standing : Standing) (number : ℕ) (part : List ℕ) (parts : List (List ℕ)) : Type 0 where
  line : Line
  later : Standing
  said : line_said part ≡ Some line
  fine : line_defect limits standing line ≡ None
  to : next standing line ≡ Some later
  more : eqb (length parts) 0 ≡ false
  left : text_defect limits later (number + 1) parts ≡ None

not_some : (b : Bool) (defect : ℕ × ℕ) (other : Option (ℕ × ℕ)) → (if b then Some defect else other) ≡ None → (b ≡ false) × (other ≡ None)
not_some true defect other is = cc
not_some false defect other is = (refl, is)

both_true : (a b : Bool) (defect : ℕ × ℕ) → (if a && b then None else Some defect) ≡ None → (a ≡ true) × (b ≡ true)
both_true true true defect is = (refl, refl)
both_true true false defect is = cc
both_true false b defect is = cc

is_empty : {A : Type 0} (xs : List A) → eqb (length xs) 0 ≡ true → xs ≡ []
is_empty [] is = refl
is_empty (x ∷ xs) is = absurd (let none : eqb (length (x ∷ xs)) 0 ≡ false = grind (arith, nat_tests) in let e : true ≡ false = sym is ∙ none in cc)

module _ (limits : Limits) (standing : Standing) (number : ℕ) (part : List ℕ) (parts : List (List ℕ)) where
  on_line : (line : Line) → line_said part ≡ Some line → eqb (length parts) 0 ≡ false → (defect : Option ℕ) → line_defect limits standing line ≡ defect → (to : Option Standing) → next standing line ≡ to
      → option_map_or (λ kind. Some (number, kind)) defect (option_map_or (λ later. text_defect limits later (number + 1) parts) to None) ≡ None → LeadsOn limits standing number part parts
  on_line line said more (Some kind) bad to goes none = cc
  on_line line said more None fine (Some later) goes none = record { line = line; later = later; said = said; fine = fine; to = goes; more = more; left = none }
  on_line line said more None fine None goes none =
      let bad : ◌≡◌ {A = Option ℕ} (Some 1) None = sym (ap (λ (o : Option Standing). option_map_or (λ _. over limits standing line) o (Some 1)) goes) ∙ fine in cc

  on_said : (said : Option Line) → line_said part ≡ said → eqb (length parts) 0 ≡ false
      → option_map_or (λ kind. Some (number, kind)) (option_map_or (line_defect limits standing) said (Some 1)) (option_map_or (λ later. text_defect limits later (number + 1) parts) (option_map_or (next standing) said None) None) ≡ None
      → LeadsOn limits standing number part parts
  on_said None is more none = cc
  on_said (Some line) is more none = on_line line is more (line_defect limits standing line) refl (next standing line) refl none

  -- the first part of a text without a defect
  turn : text_defect limits standing number (part ∷ parts) ≡ None → IsAtEnd standing part parts ⊎ LeadsOn limits standing number part parts
  unfolding text_defect
  turn none = by (is_done standing.place) refl none
    where
      by : (done : Bool) → is_done standing.place ≡ done → (if done then (if eqb (length part) 0 && eqb (length parts) 0 then None else Some (number, 3))
          else (if nat_lt 200 (length part) then Some (number, 1)
          else (if eqb (length parts) 0 then Some (number, 2)
          else option_map_or (λ kind. Some (number, kind)) (option_map_or (line_defect limits standing) (line_said part) (Some 1))
          (option_map_or (λ later. text_defect limits later (number + 1) parts) (option_map_or (next standing) (line_said part) None) None)))) ≡ None → IsAtEnd standing part parts ⊎ LeadsOn limits standing number part parts
      by true done is = let both = both_true (eqb (length part) 0) (eqb (length parts) 0) (number, 3) is in inl (record { done = done; part_none = is_empty part both.0; parts_none = is_empty parts both.1 })
      by false done is =
          let short = not_some (nat_lt 200 (length part)) (number, 1) _ is in
          let more = not_some (eqb (length parts) 0) (number, 2) _ short.1 in
          inr (on_said (line_said part) refl more.0 more.1)

-- ---- the walk to the end

-- where the rest of a text leads
record Ended (limits : Limits) (standing : Standing) (lines : List Line) (text : List ℕ) : Type 0 where
  rest : List Line
  items : List RowItem
  claim : Option Claim
  g : Gatherer
  gathered : HasGathered (lines ++ rest) items claim g
  limited : g.limits ≡ limits
  done : is_done g.grammar.place ≡ true
  led : leads limits standing rest ≡ Some g.grammar
  same : text ≡ lines_text rest

leads_more : (limits : Limits) (standing later last : Standing) (line : Line) (rest : List Line) → line_defect limits standing line ≡ None → next standing line ≡ Some later → leads limits later rest ≡ Some last → leads limits standing (line ∷ rest) ≡ Some last
leads_more limits standing later last line rest fine to led = rw (fine, to) led

text_more : (part : List ℕ) (line : Line) (rest : List Line) (after : List ℕ) → line_text line ≡ part → after ≡ lines_text rest → part ++ 10 ∷ after ≡ lines_text (line ∷ rest)
text_more part line rest after said same =
    ap (λ t. t ++ 10 ∷ after) (sym said) ∙ ap (λ t. line_text line ++ 10 ∷ t) same
    ∙ sym (append_assoc (line_text line) (10 ∷ []) (lines_text rest)) ∙ sym (lines_text-cons line rest)

-- after one more line, the rest leads where it leads
ended_more : (number : ℕ) (part : List ℕ) (parts : List (List ℕ)) (lines : List Line) (g : Gatherer) (on : LeadsOn g.limits g.grammar number part parts) (one : Stepped lines on.line g.limits on.later) (text : List ℕ)
    → line_text on.line ≡ part → Ended one.g.limits one.g.grammar (lines ++ on.line ∷ []) text → Ended g.limits g.grammar lines (part ++ 10 ∷ text)
ended_more number part parts lines g on one text said later =
    let led : leads g.limits on.later later.rest ≡ Some later.g.grammar = subst (λ (l : Limits). leads l on.later later.rest ≡ Some later.g.grammar) one.limited (subst (λ (s : Standing). leads one.g.limits s later.rest ≡ Some later.g.grammar) one.at later.led) in
    record {
      rest = on.line ∷ later.rest;
      items = later.items;
      claim = later.claim;
      g = later.g;
      gathered = subst (λ ls. HasGathered ls later.items later.claim later.g) (append_assoc lines (on.line ∷ []) later.rest) later.gathered;
      limited = later.limited ∙ one.limited;
      done = later.done;
      led = leads_more g.limits g.grammar on.later later.g.grammar on.line later.rest on.fine on.to led;
      same = text_more part on.line later.rest text said later.same;
    }

walk : (number : ℕ) (parts : List (List ℕ)) (lines : List Line) (items : List RowItem) (claim : Option Claim) (g : Gatherer) → g.limits.rows < 2 ^ 32 → g.limits.slots < 2 ^ 32 → HasGathered lines items claim g → 0 < length parts
    → text_defect g.limits g.grammar number parts ≡ None → Ended g.limits g.grammar lines (join_with_byte 10 parts)
walk number [] lines items claim g rows slots is some none = absurd (omega arith)
walk number (part ∷ []) lines items claim g rows slots is some none =
    ⊎_elim
    (λ (end : IsAtEnd g.grammar part []). record {
      rest = [];
      items = items;
      claim = claim;
      g = g;
      gathered = subst (λ ls. HasGathered ls items claim g) (sym (append-nil lines)) is;
      limited = refl;
      done = end.done;
      led = refl;
      same = end.part_none ∙ sym lines_text-none;
    })
    (λ (on : LeadsOn g.limits g.grammar number part []). let none_left = on.more in cc)
    (turn g.limits g.grammar number part [] none)
walk number (part ∷ second ∷ parts) lines items claim g rows slots is some none =
    ⊎_elim
    (λ (end : IsAtEnd g.grammar part (second ∷ parts)). let none_left = end.parts_none in cc)
    (λ (on : LeadsOn g.limits g.grammar number part (second ∷ parts)).
    let tells = line_said-is part on.line on.said in
    let fine : over g.limits g.grammar on.line ≡ None = sym (ap (λ (o : Option Standing). option_map_or (λ _. over g.limits g.grammar on.line) o (Some 1)) on.to) ∙ on.fine in
    let one = step lines items claim g on.line on.later rows slots is tells.0 fine on.to in
    let left : text_defect one.g.limits one.g.grammar (number + 1) (second ∷ parts) ≡ None = rw (one.limited, one.at) on.left in
    let few_rows : one.g.limits.rows < 2 ^ 32 = subst (λ (l : Limits). l.rows < 2 ^ 32) (sym one.limited) rows in
    let few_slots : one.g.limits.slots < 2 ^ 32 = subst (λ (l : Limits). l.slots < 2 ^ 32) (sym one.limited) slots in
    ended_more number part (second ∷ parts) lines g on one (join_with_byte 10 (second ∷ parts)) tells.1
    (walk (number + 1) (second ∷ parts) (lines ++ on.line ∷ []) one.items one.claim one.g few_rows few_slots one.gathered (omega arith) left))
    (turn g.limits g.grammar number part (second ∷ parts) none)

-- nothing comes next only at the end
done_is : (place : Place) → is_done place ≡ true → place ≡ Done
done_is AtHeader is = cc
done_is AtNode is = cc
done_is Inside is = cc
done_is Ending is = cc
done_is Floored is = cc
done_is (AtValues left above of_claim) is = cc
done_is (AtMults left above splits) is = cc
done_is AtClaim is = cc
done_is AtEnd is = cc
done_is Done is = refl

some_last : (all : Option Standing) (last : Standing) → all ≡ Some last → last.place ≡ Done → IsSomeAnd all (λ end. end.place ≡ Done)
some_last all last is done = rw is done

-- a clean text of whole items is that of the tree whose items they are
log_of : (limits : Limits) (bytes : List ℕ) (version : ℕ) (items : List RowItem) (claim : Claim) (tree : RowTree) → items ≡ tree_items tree → IsClean limits bytes version items claim
    → IsSomeAnd (leads limits new_standing (log_lines version items claim)) (λ last. last.place ≡ Done) → IsTextOfLog limits bytes
log_of limits bytes version items claim tree same own accepted =
    let of_tree : IsClean limits bytes version (tree_items tree) claim = subst (λ xs. IsClean limits bytes version xs claim) same own in
    record {
      version = version;
      tree = tree;
      claim = claim;
      text = of_tree.text;
      over = record { items = of_tree.over; claim_over = of_tree.claim_over; lines = of_tree.lines };
      accepted = subst (λ xs. IsSomeAnd (leads limits new_standing (log_lines version xs claim)) (λ last. last.place ≡ Done)) same accepted;
    }

-- where a text leads to its end, it is that of a log
of_end : (limits : Limits) (bytes : List ℕ) → log_text_defect limits bytes ≡ None → Ended limits new_standing [] bytes → IsTextOfLog limits bytes
of_end limits bytes none end =
    let version = end.g.grammar.version in
    let done : end.g.grammar.place ≡ Done = done_is end.g.grammar.place end.done in
    let made = claim_there end.g.grammar.place end.claim done end.gathered.claimed in
    let gathered : HasGathered end.rest end.items (Some made.0) end.g = subst (λ c. HasGathered end.rest end.items c end.g) made.1 end.gathered in
    let own = clean limits bytes end.rest end.items made.0 end.g gathered end.limited done end.same none in
    let tree = whole_tree end.items (items_whole end.g.grammar end.items done end.gathered.form) in
    let lines : end.rest ≡ log_lines version end.items made.0 = gathered.listed ∙ lines_whole version end.g.grammar.place end.items end.g.group (Some made.0) made.0 done refl in
    let accepted = subst (λ ls. IsSomeAnd (leads limits new_standing ls) (λ last. last.place ≡ Done)) lines (some_last (leads limits new_standing end.rest) end.g.grammar end.led done) in
    log_of limits bytes version end.items made.0 tree.0 tree.1 own accepted

-- nothing has been gathered at first
at_first : (limits : Limits) → HasGathered [] [] None (record { limits = limits; grammar = new_standing; group = Nothing; number = 0; began = 2 })
at_first limits = record {
  listed = refl;
  written = All-nil IsLine;
  number = refl;
  over = All-nil (IsOver limits.points);
  claim_over = tt;
  fresh = refl;
  began = refl;
  group = tt;
  claimed = tt;
  form = record { expects = refl; splits = refl };
}

-- bytes without a text defect are the text of a log
pub clean_texts : CleanTextsAreLogs
clean_texts limits bytes rows slots none =
    let parts : List (List ℕ) = slice_split (λ byte. eqb byte 10) bytes in
    let some : 0 < length parts = (let long = length-slice_split (λ byte. eqb byte 10) bytes in omega arith) in
    of_end limits bytes none
    (subst (Ended limits new_standing []) (join_with_byte-slice_split 10 bytes)
    (walk 1 parts [] [] None (record { limits = limits; grammar = new_standing; group = Nothing; number = 0; began = 2 }) rows slots (at_first limits) some none))
