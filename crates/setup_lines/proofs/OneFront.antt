-- What stands behind a head is one thing.
use Rattle.std.proofs.Common.{◌≡◌, ℕ, ◌+◌, List, [], ◌∷◌, ◌++◌, length, drop, Option, Some, None, subst, sym, ap, ◌∙◌, refl, arith, append_assoc}
use Rattle.std.proofs.Math.Seq.{drop-append_seam}
use Rattle.log_lines.specs.declared.grammar.Limits.{Limits}
use Rattle.log_lines.specs.declared.defect.Defect.{Defect}
use Rattle.sum_lines.specs.declared.head.Head.{Head}
use Rattle.sum_lines.specs.Front.{BeginsWith}
use Rattle.sum_lines.proofs.Feeds.{feed_unique}
use Rattle.setup_lines.specs.declared.setups.SetupFront.{SetupFront}
use Rattle.setup_lines.specs.declared.setups.SetupFront.TheVariants.{Whole, Bad}
use Rattle.setup_lines.specs.declared.setups.SetupSize.{SetupSize}
use Rattle.setup_lines.specs.declared.setups.Setups.{Setups}
use Rattle.setup_lines.specs.Front.{IsBadNext, IsBadSetup, IsSetUp, IsSetupFront, NoneFirst, setup_defect}
use Rattle.setup_lines.specs.Line.{setup_line, setups_text}
use Rattle.setup_lines.specs.Setups.{AreSetupsKept, MaySetUp, last_unit, limits_set_up, setups_of, size_of, with_setup}
use Rattle.setup_lines.specs.laws.Walk.{IsSetupKept}
use Rattle.setup_lines.proofs.Fronts.{first_same}
use Rattle.setup_lines.proofs.Kept.{AreKeptAfter, MayFirst, kept_each}
use Rattle.setup_lines.proofs.Lines.{line_fits, line_unique, text-cons, text-nil}

-- what may stand behind units that keep the limits: no line of a later unit, or that of one with a defect
abbrev Ends : Limits → List SetupSize → Option ℕ → List ℕ → Option ℕ → Type 0
Ends limits sizes above rest None = NoneFirst (MaySetUp above) rest
Ends limits sizes above rest (Some kind) = IsBadNext limits sizes above rest kind

-- behind units no unit that keeps the limits is declared
no_more : (limits : Limits) (sizes : List SetupSize) (above : Option ℕ) (unit : ℕ) (bytes after : List ℕ) (end : Option ℕ) → IsSetupKept limits sizes above unit → bytes ≡ setup_line unit ++ 10 ∷ after → Ends limits sizes above bytes end → ⊥
no_more limits sizes above unit bytes after None kept is none = none unit kept.0 (record { after = after; is = is })
no_more limits sizes above unit bytes after (Some kind) kept is bad =
    let same = first_same bad.unit unit bytes after bad.may.0 kept.0.0 is bad.first in
    let none : Some kind ≡ None = sym bad.defect ∙ ap (setup_defect limits sizes) same ∙ kept.1 in absurd cc

-- behind units one thing stands
same_end : (limits : Limits) (sizes : List SetupSize) (above : Option ℕ) (bytes : List ℕ) (a b : Option ℕ) → Ends limits sizes above bytes a → Ends limits sizes above bytes b → a ≡ b
same_end limits sizes above bytes None None none none2 = refl
same_end limits sizes above bytes None (Some kind) none bad = absurd (none bad.unit bad.may bad.first)
same_end limits sizes above bytes (Some kind) None bad none = absurd (none bad.unit bad.may bad.first)
same_end limits sizes above bytes (Some kind) (Some other) bad bad2 =
    sym bad.defect ∙ ap (setup_defect limits sizes) (first_same bad.unit bad2.unit bytes bad2.first.after bad.may.0 bad2.may.0 bad2.first.is bad.first) ∙ bad2.defect

-- what follows a line
after_line : (a b : ℕ) (x y : List ℕ) → a ≡ b → setup_line a ++ 10 ∷ x ≡ setup_line b ++ 10 ∷ y → x ≡ y
after_line a b x y same is =
    let line = setup_line a ++ 10 ∷ [] in
    let joined : (z : List ℕ) → setup_line a ++ 10 ∷ z ≡ line ++ z = λ z. sym (append_assoc (setup_line a) (10 ∷ []) z) in
    let both : line ++ x ≡ line ++ y = sym (joined x) ∙ is ∙ ap (λ u. setup_line u ++ 10 ∷ y) (sym same) ∙ joined y in
    sym (drop-append_seam line x) ∙ ap (drop (length line)) both ∙ drop-append_seam line y

-- the text of a unit and others, and what follows
text_first : (unit : ℕ) (units rest : List ℕ) → setups_text (unit ∷ units) ++ rest ≡ setup_line unit ++ 10 ∷ (setups_text units ++ rest)
text_first unit units rest = ap (λ w. w ++ rest) (text-cons unit units) ∙ append_assoc (setup_line unit) (10 ∷ setups_text units) rest

-- the text of no units, and what follows
text_none : (rest : List ℕ) → setups_text [] ++ rest ≡ rest
text_none rest = ap (λ w. w ++ rest) text-nil

-- units that keep the limits, and what stands behind them, are the same in one text
all_same : (limits : Limits) (sizes : List SetupSize) (above : Option ℕ) (xs ys x y : List ℕ) (a b : Option ℕ) → AreKeptAfter limits sizes above xs → AreKeptAfter limits sizes above ys → setups_text xs ++ x ≡ setups_text ys ++ y
    → Ends (limits_set_up limits sizes xs) sizes (last_unit above xs) x a → Ends (limits_set_up limits sizes ys) sizes (last_unit above ys) y b → (xs ≡ ys) × (a ≡ b)
all_same limits sizes above [] [] x y a b kept kept2 same end end2 =
    let is : y ≡ x = sym (text_none y) ∙ sym same ∙ text_none x in
    (refl, same_end limits sizes above x a b end (subst (λ w. Ends limits sizes above w b) is end2))
all_same limits sizes above [] (v ∷ ys) x y a b kept kept2 same end end2 =
    absurd (no_more limits sizes above v x (setups_text ys ++ y) a kept2.0 (sym (text_none x) ∙ same ∙ text_first v ys y) end)
all_same limits sizes above (u ∷ xs) [] x y a b kept kept2 same end end2 =
    absurd (no_more limits sizes above u y (setups_text xs ++ x) b kept.0 (sym (text_none y) ∙ sym same ∙ text_first u xs x) end2)
all_same limits sizes above (u ∷ xs) (v ∷ ys) x y a b kept kept2 same end end2 =
    let lines : setup_line u ++ 10 ∷ (setups_text xs ++ x) ≡ setup_line v ++ 10 ∷ (setups_text ys ++ y) = sym (text_first u xs x) ∙ same ∙ text_first v ys y in
    let first : u ≡ v = line_unique u v kept.0.0.0 kept2.0.0.0 (feed_unique (setup_line u) (setup_line v) (setups_text xs ++ x) (setups_text ys ++ y) (line_fits u kept.0.0.0).0 (line_fits v kept2.0.0.0).0 lines) in
    let later : ℕ → Limits = λ w. with_setup limits (size_of sizes w) in
    let others = all_same (later u) sizes (Some u) xs ys x y a b kept.1 (subst (λ w. AreKeptAfter (later w) sizes (Some w) ys) (sym first) kept2.1) (after_line u v (setups_text xs ++ x) (setups_text ys ++ y) first lines) end
    (subst (λ w. Ends (limits_set_up (later w) sizes ys) sizes (last_unit (Some w) ys) y b) (sym first) end2) in
    (ap (λ w. w ∷ xs) first ∙ ap (λ ws. v ∷ ws) others.0, others.1)

-- ---- fronts

-- what stands in bytes behind a head: units that keep the limits, and perhaps a defect after them
record Parts (limits : Limits) (sizes : List SetupSize) (head : Head) (bytes : List ℕ) (end : Option ℕ) : Type 0 where
  units : List ℕ
  rest : List ℕ
  kept : AreKeptAfter limits sizes None units
  is : drop head.bytes bytes ≡ setups_text units ++ rest
  ends : Ends (limits_set_up limits sizes units) sizes (last_unit None units) rest end

-- any units may come first
may_first : (units : List ℕ) → MayFirst None units
may_first [] = tt
may_first (a ∷ units) = refl

abbrev whole_parts : (limits : Limits) (sizes : List SetupSize) (head : Head) (bytes : List ℕ) (setups : Setups) → IsSetUp limits sizes head bytes setups → Parts limits sizes head bytes None
whole_parts limits sizes head bytes setups is =
    record { units = setups.units; rest = drop setups.head.bytes bytes; kept = kept_each limits sizes None setups.units (may_first setups.units) is.kept.units; is = is.is; ends = is.ends }

abbrev bad_parts : (limits : Limits) (sizes : List SetupSize) (head : Head) (bytes : List ℕ) (defect : Defect) → IsBadSetup limits sizes head bytes defect → Parts limits sizes head bytes (Some defect.kind)
bad_parts limits sizes head bytes defect bad =
    record { units = bad.units; rest = bad.bad.rest; kept = kept_each limits sizes None bad.units (may_first bad.units) bad.kept; is = bad.bad.is; ends = bad.bad.bad }

same_parts : (limits : Limits) (sizes : List SetupSize) (head : Head) (bytes : List ℕ) (a b : Option ℕ) (p : Parts limits sizes head bytes a) (q : Parts limits sizes head bytes b) → (p.units ≡ q.units) × (a ≡ b)
same_parts limits sizes head bytes a b p q = all_same limits sizes None p.units q.units p.rest q.rest a b p.kept q.kept (sym p.is ∙ q.is) p.ends q.ends

-- what stands behind a head is one thing
pub fronts_same : (limits : Limits) (sizes : List SetupSize) (head : Head) (bytes : List ℕ) (a b : SetupFront) → IsSetupFront limits sizes head bytes a → IsSetupFront limits sizes head bytes b → a ≡ b
fronts_same limits sizes head bytes (Whole s) (Whole t) is is2 =
    let same = same_parts limits sizes head bytes None None (whole_parts limits sizes head bytes s is) (whole_parts limits sizes head bytes t is2) in
    ap Whole (is.kept.is ∙ ap (setups_of limits sizes head) same.0 ∙ sym is2.kept.is)
fronts_same limits sizes head bytes (Whole s) (Bad d) is bad =
    let same : None ≡ Some d.kind = (same_parts limits sizes head bytes None (Some d.kind) (whole_parts limits sizes head bytes s is) (bad_parts limits sizes head bytes d bad)).1 in absurd cc
fronts_same limits sizes head bytes (Bad d) (Whole t) bad is =
    let same : Some d.kind ≡ None = (same_parts limits sizes head bytes (Some d.kind) None (bad_parts limits sizes head bytes d bad) (whole_parts limits sizes head bytes t is)).1 in absurd cc
fronts_same limits sizes head bytes (Bad d) (Bad e) bad bad2 =
    let same = same_parts limits sizes head bytes (Some d.kind) (Some e.kind) (bad_parts limits sizes head bytes d bad) (bad_parts limits sizes head bytes e bad2) in
    let kinds : d.kind ≡ e.kind = cc in
    let lines : d.line ≡ e.line = bad.bad.line ∙ ap (λ us. 1 + head.count + length us) same.0 ∙ sym bad2.bad.line in
    let made : ℕ → ℕ → Defect = λ l k. record { line = l; kind = k } in
    ap Bad (ap (λ l. made l d.kind) lines ∙ ap (λ k. made e.line k) kinds)
