-- What the text of a head with setups and derivations is read as.
use Rattle.std.proofs.Common.{◌≡◌, ◌≢◌, inl, inr, ℕ, ◌+◌, ◌<◌, ◌^◌, suc, None, List, [], ◌∷◌, ◌++◌, length, length-append, drop, flat_map, get_or, refl, sym, ap, ap₂, ◌∙◌, subst, arith, append_assoc}
use Rattle.std.specs.Prelude.{codes}
use Rattle.std.proofs.Math.Seq.{drop-append_seam}
use Rattle.std.proofs.lemmas.Bool.{cond-false, ne_eqb}
use Rattle.stn_model.specs.declared.plant.Plant.{Plant}
use Rattle.row_relax.specs.declared.rows.Rows.{Rows}
use Rattle.row_relax.specs.Choices.{plain}
use Rattle.row_relax.specs.RowProofs.{RowTree}
use Rattle.proof_tree.specs.Items.{tree_items}
use Rattle.log_lines.specs.declared.grammar.Limits.{Limits}
use Rattle.log_lines.specs.declared.line.Line.TheVariants.{Header, End}
use Rattle.proof_log.specs.declared.claim.Claim.{Claim}
use Rattle.proof_log.specs.Behind.{behind, version_behind}
use Rattle.proof_log.specs.Log.{claim_lines, item_lines, lines_text, log_lines, log_text}
use Rattle.proof_log.proofs.Headed.{behind-head}
use Rattle.proof_log.proofs.Lines.{lines_text-append}
use Rattle.sum_slots.specs.declared.sum.Sum.{Sum}
use Rattle.sum_lines.specs.declared.head.Front.TheVariants.{Headed}
use Rattle.sum_lines.specs.declared.head.Head.{Head}
use Rattle.sum_lines.specs.declared.line.HeadLine.TheVariants as sum_line
use Rattle.sum_lines.specs.Front.{IsFront, MayOpen, NoneFirst}
use Rattle.sum_lines.specs.Head.{AreKept, IsHeadVersion, first_line, head_of, head_text, lines_of as sum_lines_of, lines_text as sum_lines_text}
use Rattle.sum_lines.specs.Line.{head_line_text}
use Rattle.sum_lines.proofs.SumLines.{head_of_kept}
use Rattle.setup_lines.specs.declared.setups.SetupFront.TheVariants as setting
use Rattle.setup_lines.specs.declared.setups.SetupSize.{SetupSize}
use Rattle.setup_lines.specs.declared.setups.Setups.{Setups}
use Rattle.setup_lines.specs.Line.{setup_line, setups_text}
use Rattle.setup_lines.specs.Setups.{AreSetupsKept, has_setup_room, last_unit, setups_of}
use Rattle.setup_lines.proofs.Fronts.{setups_read}
use Rattle.setup_lines.proofs.Lines.{text-cons, text-nil}
use Rattle.derivations.specs.declared.derivation.Derivation.{Derivation}
use Rattle.derivations.specs.declared.derivation.Derivation.TheVariants as derivation
use Rattle.derivation_lines.specs.declared.line.TailLine.TheVariants as tail_line
use Rattle.derivation_lines.specs.declared.tail.TailFront.TheVariants.{Whole}
use Rattle.derivation_lines.specs.Front.{IsTailFront, MayBegin, NoneFirst as NoneFirstOf}
use Rattle.derivation_lines.specs.Line.{tail_line_text}
use Rattle.derivation_lines.specs.Tail.{AreDerivationsKept, begins_on, derivation_lines, lines_text as tail_lines_text, tail_of, tail_text}
use Rattle.row_kit.specs.declared.domain.Domain.{Domain}
use Rattle.row_kit.specs.declared.program.Program.{Program}
use Rattle.valid_log.specs.declared.verdict.LogVerdict.TheVariants.{Yes}
use Rattle.valid_log.specs.Verdict.{IsVerdict, limits_of}
use Rattle.valid_log.specs.Heads.{AreSetups, IsTail, IsWithHead, no_setups, setup_sizes}
use Rattle.valid_log.specs.AnyVersion.{IsAnyVerdict, IsHeadVerdict, IsShownVerdict, given_claim}
use Rattle.valid_log.proofs.Deeper.{derivations-deeper, set-deeper}
use Rattle.valid_log.proofs.LogFronts.{after_node, limits_same, no_setup-first}
use Rattle.log_parts.proofs.Limits.{judged_same}
use Rattle.log_parts.specs.declared.heads.Declared.{Declared}
use Rattle.log_parts.specs.Heads.{behind_text, declared_text, front_text}
use Rattle.log_parts.specs.laws.Checked.{MayDeclare, limits_more, limits_set}

-- bytes begin with this one
abbrev BeginsAt : ℕ → List ℕ → Type 0
BeginsAt byte bytes = get_or bytes 0 0 ≡ byte

-- bytes do not begin as the line of a sum does, with `su`
abbrev IsNoSumText : List ℕ → Type 0
IsNoSumText bytes = BeginsAt 115 bytes → get_or bytes 1 0 ≢ 117

-- so no line that may open a sum stands first in them
no_sum : (slots : ℕ) (bytes : List ℕ) → IsNoSumText bytes → NoneFirst (MayOpen slots) bytes
unfolding head_line_text
no_sum slots bytes other (sum_line.Sum w o l h c) may first = other (ap (λ (b : List ℕ). get_or b 0 0) first.is) (ap (λ (b : List ℕ). get_or b 1 0) first.is)
no_sum slots bytes other (sum_line.Term s f p) may first = absurd may

-- nor one that may begin a derivation in bytes that begin with an `n`
no_tail : (slots : ℕ) (bytes : List ℕ) → BeginsAt 110 bytes → NoneFirstOf (MayBegin slots) bytes
unfolding tail_line_text
no_tail slots bytes node (tail_line.Cut row slot) may first = omega (arith, node, ap (λ (b : List ℕ). get_or b 0 0) first.is)
no_tail slots bytes node (tail_line.Row _ _ _ _ _ _ _) may first = omega (arith, node, ap (λ (b : List ℕ). get_or b 0 0) first.is)
no_tail slots bytes node (tail_line.By _ _) may first = absurd may
no_tail slots bytes node (tail_line.Shift _ _) may first = absurd may
no_tail slots bytes node (tail_line.Lift _ _) may first = absurd may
no_tail slots bytes node (tail_line.Entry _ _ _) may first = absurd may

-- the text of derivations and of a line `node` begins with no `s`
tail_begins : (derivations : List Derivation) (rest : List ℕ) → get_or (tail_text derivations ++ (codes "node" ++ 10 ∷ rest)) 0 0 ≢ 115
unfolding tail_line_text tail_lines_text
tail_begins [] rest is = omega (arith, is)
tail_begins (derivation.Cut cut ∷ later) rest is = omega (arith, is)
tail_begins (derivation.Row derived ∷ later) rest is = omega (arith, is)

-- nor that of setups before them
behind_begins : (units : List ℕ) (derivations : List Derivation) (rest : List ℕ) → IsNoSumText (setups_text units ++ (tail_text derivations ++ (codes "node" ++ 10 ∷ rest)))
unfolding setup_line
behind_begins [] derivations rest = subst (λ (text : List ℕ). IsNoSumText (text ++ (tail_text derivations ++ (codes "node" ++ 10 ∷ rest)))) (sym text-nil) (λ one two. tail_begins derivations rest one)
behind_begins (unit ∷ units) derivations rest =
    let later = tail_text derivations ++ (codes "node" ++ 10 ∷ rest) in
    let second : get_or (setups_text (unit ∷ units) ++ later) 1 0 ≡ 101 = ap (λ (text : List ℕ). get_or (text ++ later) 1 0) (text-cons unit units) in
    λ one two. omega (arith, two, second)

-- the front of the text of a head, and of what does not begin as a sum does, is that head
pub head_stands : (version : ℕ) (limits : Limits) (sums : List Sum) (later : List ℕ) → IsHeadVersion version → AreKept version limits sums → length (head_text version sums) < 2 ^ 64 → IsNoSumText later
    → IsFront limits (head_text version sums ++ later) (Headed (head_of version sums))
head_stands version limits sums later known kept small none =
    let seam = drop-append_seam (head_text version sums) later in
    record {
      kept = head_of_kept version limits sums known kept small;
      is = ap (λ (w : List ℕ). head_text version sums ++ w) (sym seam);
      ends = subst (NoneFirst (MayOpen limits.slots)) (sym seam) (no_sum limits.slots later none);
    }

-- behind a head of version 3 stand no setups
setups-none : (limits : Limits) (sizes : List SetupSize) (head : Head) (units : List ℕ) → units ≡ [] → setups_of limits sizes head units ≡ no_setups limits head
setups-none limits sizes head units none =
    let made : ℕ → ℕ → Setups = λ count bytes. record { units = []; head = record head { count = count; bytes = bytes }; limits = limits } in
    let count : head.count + 0 ≡ head.count = omega arith in
    let bytes : head.bytes + length (setups_text []) ≡ head.bytes = omega (arith, ap length text-nil) in
    ap (setups_of limits sizes head) none ∙ ap₂ made count bytes

-- what stands behind the sums of a head in the text of one with setups and derivations
pub setups_stand : (limits : Limits) (sizes : List SetupSize) (head : Head) (front rest units : List ℕ) (derivations : List Derivation) → IsHeadVersion head.version → (head.version ≢ 4 → units ≡ []) → length front ≡ head.bytes → AreSetupsKept limits sizes units
    → head.bytes + length (setups_text units) < 2 ^ 64 → AreSetups limits sizes head (front ++ (setups_text units ++ (tail_text derivations ++ (codes "node" ++ 10 ∷ rest)))) (setting.Whole (setups_of limits sizes head units))
setups_stand limits sizes head front rest units derivations (inl three) few long kept small =
    inl (three, ap setting.Whole (setups-none limits sizes head units (few (λ four. omega (arith, three, four)))))
setups_stand limits sizes head front rest units derivations (inr four) few long kept small =
    inr (four, setups_read limits sizes head front (tail_text derivations ++ (codes "node" ++ 10 ∷ rest)) units long kept (no_setup-first (last_unit None units) derivations rest) small)

-- one line for each derivation
begins_long : (first : ℕ) (derivations : List Derivation) → length (begins_on first derivations) ≡ length derivations
begins_long first [] = refl
begins_long first (d ∷ later) = ap suc (begins_long (first + length (derivation_lines d)) later)

-- and behind it stand the derivations
tail_stands : (limits : Limits) (head : Head) (front rest : List ℕ) (derivations : List Derivation) → length front ≡ head.bytes → AreDerivationsKept limits derivations → head.bytes + length (tail_text derivations) < 2 ^ 64
    → IsTailFront limits head (front ++ (tail_text derivations ++ (codes "node" ++ 10 ∷ rest))) (Whole (tail_of head derivations))
tail_stands limits head front rest derivations long kept small =
    let node = codes "node" ++ 10 ∷ rest in
    let text = tail_text derivations in
    let bytes = front ++ (text ++ node) in
    let first : drop head.bytes bytes ≡ text ++ node = ap (λ (n : ℕ). drop n bytes) (sym long) ∙ drop-append_seam front (text ++ node) in
    let all : length (front ++ text) ≡ head.bytes + length text = length-append front text ∙ ap (λ (n : ℕ). n + length text) long in
    let second : drop (head.bytes + length text) bytes ≡ node =
    ap (λ (n : ℕ). drop n bytes) (sym all) ∙ ap (drop (length (front ++ text))) (sym (append_assoc front text node)) ∙ drop-append_seam (front ++ text) node in
    record {
      kept = record {
        is = refl;
        derivations = kept;
        lines = begins_long (1 + head.count) derivations;
        count = omega arith;
        bytes_least = omega arith;
        bytes_most = small;
      };
      is = first ∙ ap (λ (w : List ℕ). text ++ w) (sym second);
      ends = subst (NoneFirstOf (MayBegin limits.slots)) (sym second) (no_tail limits.slots node refl);
    }

-- the front of a log with a head
pub front_headed : (version : ℕ) (declared : Declared) → IsHeadVersion version → front_text version declared ≡ head_text version declared.sums ++ behind_text declared
front_headed version declared (inl three) = cond-false _ _ _ (ne_eqb version 2 (λ two. omega (arith, two, three)))
front_headed version declared (inr four) = cond-false _ _ _ (ne_eqb version 2 (λ two. omega (arith, two, four)))

-- how long it is
pub front_long : (version : ℕ) (declared : Declared) → IsHeadVersion version
    → length (front_text version declared) ≡ length (head_text version declared.sums) + length (setups_text declared.units) + length (tail_text declared.derivations)
front_long version declared known =
    let all = ap length (front_headed version declared known) ∙ length-append (head_text version declared.sums) (behind_text declared) in
    omega (arith, all, length-append (setups_text declared.units) (tail_text declared.derivations))

-- a head with the setups that are declared behind it
abbrev pub setups_declared : Plant → Limits → ℕ → Declared → Setups
setups_declared plant limits version declared = setups_of (limits_more limits (length declared.sums)) (setup_sizes plant) (head_of version declared.sums) declared.units

-- what stands behind its setups in that text
pub declared_stands : (plant : Plant) (limits : Limits) (version : ℕ) (declared : Declared) (rest : List ℕ) → IsHeadVersion version → MayDeclare plant limits version declared
    → IsTail (limits_set plant limits declared) (setups_declared plant limits version declared).head
    (head_text version declared.sums ++ (setups_text declared.units ++ (tail_text declared.derivations ++ (codes "node" ++ 10 ∷ rest))))
    (Whole (tail_of (setups_declared plant limits version declared).head declared.derivations))
declared_stands plant limits version declared rest (inl three) may =
    inl (three, ap (λ (ds : List Derivation). Whole (tail_of (setups_declared plant limits version declared).head ds)) (may.few (λ four. omega (arith, three, four))))
declared_stands plant limits version declared rest (inr four) may =
    let head = (setups_declared plant limits version declared).head in
    let first = head_text version declared.sums in
    let second = setups_text declared.units in
    let node = codes "node" ++ 10 ∷ rest in
    let few : head.bytes + length (tail_text declared.derivations) < 2 ^ 64 = omega (arith, front_long version declared (inr four), may.few_bytes) in
    inr (
      four,
      subst (λ (bytes : List ℕ). IsTailFront (limits_set plant limits declared) head bytes (Whole (tail_of head declared.derivations))) (append_assoc first second (tail_text declared.derivations ++ node))
          (tail_stands (limits_set plant limits declared) head (first ++ second) rest declared.derivations (length-append first second) may.derivations few),
    )

-- ---- valid logs with a head

-- the front of a log is not empty
some_front : (version : ℕ) (declared : Declared) → IsHeadVersion version → front_text version declared ≢ []
some_front version declared known none =
    let head = length-append (first_line version) (10 ∷ sum_lines_text (sum_lines_of declared.sums)) in
    omega (arith, ap length none, front_long version declared known, head)

-- the text of a log with a head, up to its first node
text_split : (version : ℕ) (declared : Declared) (tree : RowTree) (claim : Claim) (rest : List ℕ) → IsHeadVersion version
    → lines_text (flat_map item_lines (tree_items tree) ++ (claim_lines claim ++ End ∷ [])) ≡ codes "node" ++ 10 ∷ rest
    → declared_text version declared tree claim ≡ head_text version declared.sums ++ (setups_text declared.units ++ (tail_text declared.derivations ++ (codes "node" ++ 10 ∷ rest)))
text_split version declared tree claim rest known node =
    let first = head_text version declared.sums in
    let second = setups_text declared.units in
    let third = tail_text declared.derivations in
    let lines = lines_text (flat_map item_lines (tree_items tree) ++ (claim_lines claim ++ End ∷ [])) in
    ap (λ (w : List ℕ). w ++ lines) (front_headed version declared known) ∙ append_assoc first (behind_text declared) lines ∙ ap (λ (w : List ℕ). first ++ w) (append_assoc second third lines)
    ∙ ap (λ (w : List ℕ). first ++ (second ++ (third ++ w))) node

-- a valid log over the rows with what a head declares is, behind the head, a valid log of the program, of the claim cut back
pub headed_any : (plant : Plant) (program : Program) (rows : Rows) (judged : List Domain) (version depth : ℕ) (declared : Declared) (tree : RowTree) (own claim : Claim) → IsHeadVersion version → MayDeclare plant (limits_of (plain program) depth) version declared
    → IsWithHead plant version program judged declared.sums declared.units declared.derivations rows → IsVerdict rows depth (log_text (version_behind version) (tree_items tree) own) (Yes own) → claim ≡ given_claim (length program.root) own
    → IsAnyVerdict plant program judged judged depth (declared_text version declared tree own) (Yes claim)
headed_any plant program rows judged version depth declared tree own claim known may enlarged valid is =
    let limits = limits_of (plain program) depth in
    let head = head_of version declared.sums in
    let setups = setups_declared plant limits version declared in
    let tail = tail_of setups.head declared.derivations in
    let bytes = declared_text version declared tree own in
    let node = after_node tree (claim_lines own ++ End ∷ []) in
    let text_is = text_split version declared tree own node.0 known node.1 in
    let all : tail.bytes ≡ length (front_text version declared) = sym (front_long version declared known) in
    let few : length (head_text version declared.sums) < 2 ^ 64 = omega (arith, all, may.few_bytes) in
    let few_setups : head.bytes + length (setups_text declared.units) < 2 ^ 64 = omega (arith, all, may.few_bytes) in
    let stands = subst (λ (l : Limits). IsFront l bytes (Headed head)) (limits_same program depth)
    (subst (λ (b : List ℕ). IsFront limits b (Headed head)) (sym text_is) (head_stands version limits declared.sums _ known may.sums few (behind_begins declared.units declared.derivations node.0))) in
    let set_up = subst (λ (b : List ℕ). AreSetups (limits_more limits (length declared.sums)) (setup_sizes plant) head b (setting.Whole setups)) (sym text_is)
    (setups_stand (limits_more limits (length declared.sums)) (setup_sizes plant) head (head_text version declared.sums) node.0 declared.units declared.derivations known may.few_units refl may.units few_setups) in
    let behind_is : behind version tail.bytes bytes ≡ log_text (version_behind version) (tree_items tree) own =
    ap (λ (n : ℕ). behind version n bytes) all ∙ behind-head version (front_text version declared) (tree_items tree) own (some_front version declared known) in
    let shown : IsShownVerdict plant program judged depth bytes setups tail (Yes claim) = record {
      rows = rows;
      enlarged = enlarged;
      own = Yes own;
      right = subst (λ (b : List ℕ). IsVerdict rows depth b (Yes own)) (sym behind_is) valid;
      is = ap Yes is;
    } in
    let right : IsHeadVerdict plant program judged depth bytes head (Yes claim) = record {
      setups = setting.Whole setups;
      set_up = set_up;
      right = record {
        tail = Whole tail;
        follows = subst (λ (b : List ℕ). IsTail (limits_set plant limits declared) setups.head b (Whole tail)) (sym text_is) (declared_stands plant limits version declared node.0 known may);
        right = inr shown;
      };
    } in
    record { front = Headed head; stands = stands; right = subst (λ (ds : List Domain). IsHeadVerdict plant program ds depth bytes head (Yes claim)) (sym (judged_same judged version)) right }

-- the text of version 2 is that of a log without a head
pub text_plain : (declared : Declared) (tree : RowTree) (claim : Claim) → declared_text 2 declared tree claim ≡ log_text 2 (tree_items tree) claim
unfolding log_lines log_text
text_plain declared tree claim = sym (lines_text-append (Header 2 ∷ []) (flat_map item_lines (tree_items tree) ++ (claim_lines claim ++ End ∷ [])))

-- what can be declared does not depend on how many splits may be open
pub may_deeper : (plant : Plant) (limits : Limits) (more version : ℕ) (declared : Declared) → MayDeclare plant limits version declared → MayDeclare plant (record limits { depth = more }) version declared
may_deeper plant limits more version declared may =
    let summed = limits_more limits (length declared.sums) in
    let deeper = set-deeper summed more (setup_sizes plant) declared.units in
    record {
      known = may.known;
      plain = may.plain;
      few_units = may.few_units;
      few = may.few;
      sums = record { declared = may.sums.declared; rows_there = may.sums.rows_there; slots = may.sums.slots; rows = may.sums.rows };
      units = record { short = may.units.short; ascending = may.units.ascending; there = may.units.there; room = λ some. ap has_setup_room deeper ∙ may.units.room some };
      derivations = subst (λ (l : Limits). AreDerivationsKept l declared.derivations) (sym deeper) (derivations-deeper (limits_set plant limits declared) more 0 declared.derivations may.derivations);
      few_bytes = may.few_bytes;
    }
