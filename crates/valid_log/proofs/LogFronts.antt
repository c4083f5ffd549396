-- The fronts of the texts of logs.
use Rattle.std.proofs.Common.{◌≡◌, ℕ, ◌+◌, ◌*◌, List, [], ◌∷◌, ◌++◌, length, flat_map, get_or, sym, ap, ap₂, ◌∙◌, refl, arith}
use Rattle.std.specs.Prelude.{Option, codes}
use Rattle.std.proofs.lemmas.Fmt.{decimal_digit}
use Rattle.stn_model.specs.declared.plant.Plant.{Plant}
use Rattle.row_kit.specs.declared.domain.Domain.{Domain}
use Rattle.row_kit.specs.declared.program.Program.{Program}
use Rattle.row_relax.specs.Choices.{plain}
use Rattle.row_relax.specs.RowProofs.{RowItem, RowTree}
use Rattle.proof_tree.specs.Items.{tree_items}
use Rattle.proof_tree.specs.Tree.{leaf, split}
use Rattle.proof_tree.specs.declared.item.Item.TheVariants.{Node}
use Rattle.log_lines.specs.declared.grammar.Limits.{Limits}
use Rattle.log_lines.specs.declared.line.Line.{Line}
use Rattle.log_lines.specs.declared.line.Line.TheVariants.{End}
use Rattle.log_lines.specs.Line.{line_text, number_text}
use Rattle.proof_log.specs.declared.claim.Claim.{Claim}
use Rattle.proof_log.specs.Log.{claim_lines, item_lines, lines_text, log_lines, log_text}
use Rattle.sum_lines.specs.declared.head.Front.TheVariants.{Plain}
use Rattle.sum_lines.specs.Front.{BeginsWith}
use Rattle.sum_lines.specs.Head.{first_line}
use Rattle.setup_lines.specs.Front.{NoneFirst}
use Rattle.setup_lines.specs.Line.{setup_line}
use Rattle.setup_lines.specs.Setups.{MaySetUp}
use Rattle.derivations.specs.declared.derivation.Derivation.{Derivation}
use Rattle.derivations.specs.declared.derivation.Derivation.TheVariants.{Cut, Row}
use Rattle.derivation_lines.specs.Line.{tail_line_text}
use Rattle.derivation_lines.specs.Tail.{lines_text as derivations_text, tail_text}
use Rattle.valid_log.specs.declared.verdict.LogVerdict.{LogVerdict}
use Rattle.valid_log.specs.Verdict.{IsVerdict, limits_of}
use Rattle.valid_log.specs.Heads.{limits_with}
use Rattle.valid_log.specs.AnyVersion.{IsAnyVerdict}

-- the text of lines that begin with that of a node
node_text : (items : List RowItem) (later : List Line) → lines_text (flat_map item_lines (Node ∷ items) ++ later) ≡ codes "node" ++ 10 ∷ lines_text (flat_map item_lines items ++ later)
unfolding item_lines lines_text line_text number_text
node_text items later = refl

-- the lines of a proof begin with that of a node, whatever lines come later
pub after_node : (tree : RowTree) (later : List Line) → (rest : List ℕ) × (lines_text (flat_map item_lines (tree_items tree) ++ later) ≡ codes "node" ++ 10 ∷ rest)
after_node (leaf cuts found end) later = (_, node_text _ later)
after_node (split cuts found pick cert a b) later = (_, node_text _ later)

-- the first byte of the line of a setup is an s
setup_first : (unit : ℕ) (bytes : List ℕ) → BeginsWith (setup_line unit) bytes → get_or bytes 0 0 ≡ 115
unfolding setup_line
setup_first unit bytes begins = ap (λ (xs : List ℕ). get_or xs 0 0) begins.is

-- that of derivations with a node behind them is a c, an r or an n
other_first : (derivations : List Derivation) (rest : List ℕ) → (get_or (tail_text derivations ++ (codes "node" ++ 10 ∷ rest)) 0 0 ≡ 115) → ⊥
unfolding derivations_text tail_line_text
other_first [] rest is = let apart : 110 ≡ 115 = is in omega (arith, apart)
other_first (Cut cut ∷ derivations) rest is = let apart : 99 ≡ 115 = is in omega (arith, apart)
other_first (Row derived ∷ derivations) rest is = let apart : 114 ≡ 115 = is in omega (arith, apart)

-- so no line of a setup stands first there
pub no_setup-first : (above : Option ℕ) (derivations : List Derivation) (rest : List ℕ) → NoneFirst (MaySetUp above) (tail_text derivations ++ (codes "node" ++ 10 ∷ rest))
no_setup-first above derivations rest unit may begins = other_first derivations rest (setup_first unit (tail_text derivations ++ (codes "node" ++ 10 ∷ rest)) begins)

-- limits by their numbers
abbrev limits_at : ℕ → ℕ → ℕ → Limits
limits_at depth rows slots = record { rows = rows; slots = slots; points = slots; depth = depth }

-- the limits of a program's logs are those with no sum
pub limits_same : (program : Program) (depth : ℕ) → limits_of (plain program) depth ≡ limits_with program depth 0
limits_same program depth =
    let rows : length program.rows ≡ length program.rows + 2 * 0 = omega arith in
    let slots : length program.root ≡ length program.root + 0 = omega arith in
    ap₂ (λ r s. limits_at depth r s) rows slots

-- the text of a log of version 2 begins with its header
header_text : (items : List RowItem) (claim : Claim) → log_text 2 items claim ≡ codes "stn-log 2" ++ 10 ∷ lines_text (flat_map item_lines items ++ (claim_lines claim ++ End ∷ []))
unfolding log_text log_lines lines_text line_text number_text
header_text items claim = let e = decimal_digit 2 (omega arith) in rw e refl

-- so it does not begin as a head does
plain_front : (items : List RowItem) (claim : Claim) → (¬ BeginsWith (first_line 3) (log_text 2 items claim)) × (¬ BeginsWith (first_line 4) (log_text 2 items claim))
plain_front items claim = (
  λ begins. let apart : 50 ≡ 51 = ap (λ (bytes : List ℕ). get_or bytes 8 0) (sym (header_text items claim) ∙ begins.is) in omega (arith, apart),
  λ begins. let apart : 50 ≡ 52 = ap (λ (bytes : List ℕ). get_or bytes 8 0) (sym (header_text items claim) ∙ begins.is) in omega (arith, apart),
)

-- so the answer on it is that on a log of any version
pub plain-verdict : (plant : Plant) (program : Program) (ranges root : List Domain) (depth : ℕ) (items : List RowItem) (claim : Claim) (verdict : LogVerdict) → IsVerdict (plain program) depth (log_text 2 items claim) verdict
    → IsAnyVerdict plant program ranges root depth (log_text 2 items claim) verdict
plain-verdict plant program ranges root depth items claim verdict right = record { front = Plain; stands = plain_front items claim; right = right }
