-- What the text of a log of version 4 is read as.
use Rattle.std.proofs.Common.{◌≡◌, ◌≢◌, inr, ℕ, ◌+◌, ◌<◌, ◌^◌, List, [], ◌∷◌, ◌++◌, length, length-append, flat_map, get_or, None, refl, sym, ap, ◌∙◌, subst, arith, append_assoc}
use Rattle.std.specs.Prelude.{codes}
use Rattle.std.proofs.Math.Seq.{drop-append_seam}
use Rattle.stn_model.specs.declared.plant.Plant.{Plant}
use Rattle.row_kit.specs.declared.domain.Domain.{Domain}
use Rattle.row_kit.specs.declared.program.Program.{Program}
use Rattle.proof_tree.specs.Items.{tree_items}
use Rattle.row_relax.specs.declared.rows.Rows.{Rows}
use Rattle.row_relax.specs.Choices.{plain}
use Rattle.row_relax.specs.RowProofs.{RowTree}
use Rattle.log_lines.specs.declared.grammar.Limits.{Limits}
use Rattle.log_lines.specs.declared.line.Line.TheVariants.{End}
use Rattle.proof_log.specs.declared.claim.Claim.{Claim}
use Rattle.proof_log.specs.Behind.{behind}
use Rattle.proof_log.specs.Log.{claim_lines, item_lines, lines_text, log_text}
use Rattle.proof_log.proofs.Headed.{behind-head}
use Rattle.sum_slots.specs.declared.sum.Sum.{Sum}
use Rattle.sum_lines.specs.declared.head.Front.TheVariants.{Headed}
use Rattle.sum_lines.specs.declared.line.HeadLine.TheVariants as sum_line
use Rattle.sum_lines.specs.Front.{IsFront, MayOpen, NoneFirst}
use Rattle.sum_lines.specs.Head.{AreKept, head_of, head_text}
use Rattle.sum_lines.specs.Line.{head_line_text}
use Rattle.sum_lines.proofs.SumLines.{head_of_kept}
use Rattle.setup_lines.specs.declared.setups.SetupFront.TheVariants as setting
use Rattle.setup_lines.specs.declared.setups.SetupSize.{SetupSize}
use Rattle.setup_lines.specs.Front.{IsSetupFront}
use Rattle.setup_lines.specs.Line.{setup_line, setups_text}
use Rattle.setup_lines.specs.Setups.{AreSetupsKept, has_setup_room, last_unit, limits_set_up, setups_of}
use Rattle.setup_lines.proofs.Fronts.{setups_read}
use Rattle.setup_lines.proofs.Lines.{text-cons, text-nil}
use Rattle.derivations.specs.declared.derivation.Derivation.{Derivation}
use Rattle.derivations.specs.declared.derivation.Derivation.TheVariants as derivation
use Rattle.derivation_lines.specs.declared.tail.TailFront.TheVariants.{Whole}
use Rattle.derivation_lines.specs.Front.{IsTailFront}
use Rattle.derivation_lines.specs.Line.{tail_line_text}
use Rattle.derivation_lines.specs.Tail.{AreDerivationsKept, lines_text as tail_lines_text, tail_of, tail_text}
use Rattle.derivation_lines.proofs.TailsRead.{derivations_read}
use Rattle.valid_log.specs.declared.verdict.LogVerdict.TheVariants.{Yes}
use Rattle.valid_log.specs.Verdict.{IsVerdict, limits_of}
use Rattle.valid_log.specs.Heads.{AreSetups, limits_with, setup_sizes}
use Rattle.valid_log.specs.AnyVersion.{IsAnyVerdict, IsSetUpVerdict, IsShownVerdict, given_claim}
use Rattle.valid_log.proofs.Deeper.{derivations-deeper, set-deeper}
use Rattle.valid_log.proofs.LogFronts.{after_node, limits_same, no_setup-first}
use Rattle.plan_told.specs.Heads.{CanHead, headed_text, whole_head}

-- bytes do not begin as the line of a sum does, with `su`
abbrev IsNoSumText : List ℕ → Type 0
IsNoSumText bytes = get_or bytes 0 0 ≡ 115 → get_or bytes 1 0 ≢ 117

-- so no line that may open a sum stands first in them
no_sum : (slots : ℕ) (bytes : List ℕ) → IsNoSumText bytes → NoneFirst (MayOpen slots) bytes
unfolding head_line_text
no_sum slots bytes other (sum_line.Sum w o l h c) may first = other (ap (λ (b : List ℕ). get_or b 0 0) first.is) (ap (λ (b : List ℕ). get_or b 1 0) first.is)
no_sum slots bytes other (sum_line.Term s f p) may first = absurd may

-- the text of derivations and of a line `node` begins with no `s`
tail_begins : (derivations : List Derivation) (rest : List ℕ) → get_or (tail_text derivations ++ (codes "node" ++ 10 ∷ rest)) 0 0 ≢ 115
unfolding tail_line_text tail_lines_text
tail_begins [] rest is = omega (arith, is)
tail_begins (derivation.Cut cut ∷ later) rest is = omega (arith, is)
tail_begins (derivation.Row derived ∷ later) rest is = omega (arith, is)

-- nor does that of setups before them begin as a sum does
behind_begins : (units : List ℕ) (derivations : List Derivation) (rest : List ℕ) → IsNoSumText (setups_text units ++ (tail_text derivations ++ (codes "node" ++ 10 ∷ rest)))
unfolding setup_line
behind_begins [] derivations rest = subst (λ (text : List ℕ). IsNoSumText (text ++ (tail_text derivations ++ (codes "node" ++ 10 ∷ rest)))) (sym text-nil) (λ one two. tail_begins derivations rest one)
behind_begins (unit ∷ units) derivations rest =
    let later = tail_text derivations ++ (codes "node" ++ 10 ∷ rest) in
    let second : get_or (setups_text (unit ∷ units) ++ later) 1 0 ≡ 101 = ap (λ (text : List ℕ). get_or (text ++ later) 1 0) (text-cons unit units) in
    λ one two. omega (arith, two, second)

-- the front of the text of a head's sums, and of what does not begin as a sum does, is that head
head_stands : (limits : Limits) (sums : List Sum) (later : List ℕ) → AreKept 4 limits sums → length (head_text 4 sums) < 2 ^ 64 → IsNoSumText later → IsFront limits (head_text 4 sums ++ later) (Headed (head_of 4 sums))
head_stands limits sums later kept small none =
    let seam = drop-append_seam (head_text 4 sums) later in
    record {
      kept = head_of_kept 4 limits sums (inr refl) kept small;
      is = ap (λ (w : List ℕ). head_text 4 sums ++ w) (sym seam);
      ends = subst (NoneFirst (MayOpen limits.slots)) (sym seam) (no_sum limits.slots later none);
    }

-- what units keep does not depend on how many splits may be open
units_deeper : (limits : Limits) (more : ℕ) (sizes : List SetupSize) (units : List ℕ) → AreSetupsKept limits sizes units → AreSetupsKept (record limits { depth = more }) sizes units
units_deeper limits more sizes units kept = record {
  short = kept.short;
  ascending = kept.ascending;
  there = kept.there;
  room = λ some. ap has_setup_room (set-deeper limits more sizes units) ∙ kept.room some;
}

-- a head is not empty
some_head : (sums : List Sum) (units : List ℕ) (derivations : List Derivation) → whole_head sums units derivations ≢ []
some_head sums units derivations none = cc

-- a valid log over the rows with what a head declares is, behind the head, a valid log of the program, of the claim cut back
pub headed-valid : (plant : Plant) (program : Program) (rows : Rows) (ranges judged : List Domain) (sums : List Sum) (units : List ℕ) (derivations : List Derivation) (depth : ℕ) (tree : RowTree) (own claim : Claim)
    → CanHead plant program judged sums units derivations rows → IsVerdict rows depth (log_text 4 (tree_items tree) own) (Yes own) → claim ≡ given_claim (length program.root) own
    → IsAnyVerdict plant program ranges judged depth (headed_text sums units derivations tree own) (Yes claim)
headed-valid plant program rows ranges judged sums units derivations depth tree own claim can valid is =
    let head = head_of 4 sums in
    let first = head_text 4 sums in
    let second = setups_text units in
    let third = tail_text derivations in
    let bytes = headed_text sums units derivations tree own in
    let node = after_node tree (claim_lines own ++ End ∷ []) in
    let lines = lines_text (flat_map item_lines (tree_items tree) ++ (claim_lines own ++ End ∷ [])) in
    let later = third ++ (codes "node" ++ 10 ∷ node.0) in
    let none = limits_with program 0 (length sums) in
    let summed = limits_with program depth (length sums) in
    let sizes = setup_sizes plant in
    let setups = setups_of summed sizes head units in
    let tail = tail_of setups.head derivations in
    let text_is : bytes ≡ first ++ (second ++ later) =
    append_assoc first (second ++ third) lines ∙ ap (λ (w : List ℕ). first ++ w) (append_assoc second third lines) ∙ ap (λ (w : List ℕ). first ++ (second ++ (third ++ w))) node.1 in
    let all : length (whole_head sums units derivations) ≡ tail.bytes = omega (arith, length-append first (second ++ third), length-append second third) in
    let few : length first < 2 ^ 64 = omega (arith, length-append first (second ++ third), can.few_bytes) in
    let few_set : head.bytes + length second < 2 ^ 64 = omega (arith, length-append first (second ++ third), length-append second third, can.few_bytes) in
    let small : setups.head.bytes + length third < 2 ^ 64 = omega (arith, all, can.few_bytes) in
    let kept : AreKept 4 (limits_of (plain program) depth) sums = record { declared = can.sums_kept.declared; rows_there = can.sums_kept.rows_there; slots = can.sums_kept.slots; rows = can.sums_kept.rows } in
    let stands = subst (λ (l : Limits). IsFront l bytes (Headed head)) (limits_same program depth)
    (subst (λ (b : List ℕ). IsFront (limits_of (plain program) depth) b (Headed head)) (sym text_is) (head_stands (limits_of (plain program) depth) sums (second ++ later) kept few (behind_begins units derivations node.0))) in
    let read = setups_read summed sizes head first later units refl (units_deeper none depth sizes units can.units_kept) (no_setup-first (last_unit None units) derivations node.0) few_set in
    let set_up : AreSetups summed sizes head bytes (setting.Whole setups) = inr (refl, subst (λ (b : List ℕ). IsSetupFront summed sizes head b (setting.Whole setups)) (sym text_is) read) in
    let behind_is : behind 4 tail.bytes bytes ≡ log_text 4 (tree_items tree) own =
    ap (λ (n : ℕ). behind 4 n bytes) (sym all) ∙ behind-head 4 (whole_head sums units derivations) (tree_items tree) own (some_head sums units derivations) in
    let shown : IsShownVerdict plant program judged depth bytes setups tail (Yes claim) = record {
      rows = rows;
      enlarged = can.enlarged;
      own = Yes own;
      right = subst (λ (b : List ℕ). IsVerdict rows depth b (Yes own)) (sym behind_is) valid;
      is = ap Yes is;
    } in
    let deeper = derivations-deeper (limits_set_up none sizes units) depth 0 derivations can.derivations_kept in
    let derived : AreDerivationsKept (limits_set_up summed sizes units) derivations = subst (λ (l : Limits). AreDerivationsKept l derivations) (sym (set-deeper none depth sizes units)) deeper in
    let seen = derivations_read setups.limits setups.head (first ++ second) node.0 derivations (length-append first second) derived small in
    let right : IsSetUpVerdict plant program judged depth bytes setups (Yes claim) = record {
      tail = Whole tail;
      follows = inr (refl, subst (λ (b : List ℕ). IsTailFront setups.limits setups.head b (Whole tail)) (append_assoc first second later ∙ sym text_is) seen);
      right = inr shown;
    } in
    record { front = Headed head; stands = stands; right = record { setups = setting.Whole setups; set_up = set_up; right = right } }
