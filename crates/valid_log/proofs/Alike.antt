-- Rows with the sums, setups and derivations of one head answer alike.
use Rattle.std.proofs.Common.{◌≡◌, ℕ, ◌≤◌, Bool, true, false, ◌&&◌, nat_lt, List, [], ◌∷◌, ◌++◌, length, map, take, drop, None, ◌⊎◌, inl, inr, refl, sym, ap, ap₂, ◌∙◌, subst, arith, ℤ, pos, ◌+ℤ◌, ◌-ℤ◌, ◌*ℤ◌}
use Rattle.std.specs.Prelude.{int_le, Option, Some, unwrap_or, if◌then◌else◌}
use Rattle.std.specs.List.{All, list_all}
use Rattle.std.proofs.lemmas.List.{length-append, length-take-le, take-append-drop}
use Rattle.stn_model.specs.declared.plant.Plant.{Plant}
use Rattle.row_kit.specs.declared.domain.Domain.{Domain}
use Rattle.row_kit.specs.declared.program.Program.{Program}
use Rattle.row_kit.specs.declared.row.Entry.{Entry}
use Rattle.row_kit.specs.declared.row.Row.{Row}
use Rattle.row_kit.specs.Change.{changeovers}
use Rattle.row_kit.specs.Domain.{count_of, domain_at, values_of}
use Rattle.row_kit.specs.Point.{IsLawful, LiesIn, worth_of}
use Rattle.row_kit.specs.Row.{IsKept, entries_sum, entry_at, row_at}
use Rattle.range_prop.specs.Cut.{cut_domains}
use Rattle.dual_bound.specs.declared.cert.Cert.{Cert}
use Rattle.dual_bound.specs.Cap.{cert_cap, scaled_cap}
use Rattle.dual_bound.specs.Total.{greatest, is_fit, limits_sum, rows_at, slots_total}
use Rattle.dual_bound.specs.Trimmed.{each_passing, trimmed}
use Rattle.proof_tree.specs.declared.capped.Capped.{Capped}
use Rattle.proof_tree.specs.declared.capped.Capped.TheVariants.{AtMost, NoPoint, Bad}
use Rattle.proof_tree.specs.declared.item.Item.TheVariants.{Node, Cut, Found, Empty, Dual, Point, Pending, Split}
use Rattle.proof_tree.specs.Items.{tree_items}
use Rattle.proof_tree.specs.Views.{View}
use Rattle.proof_tree.specs.Walk.{Outcome, going, ended, undefined, misplaced, after, start, walked}
use Rattle.row_relax.specs.declared.pick.RowPick.{RowPick}
use Rattle.row_relax.specs.RowProofs.{RowItem, RowTree}
use Rattle.row_relax.specs.declared.rows.Rows.{Rows}
use Rattle.row_relax.specs.Choices.{choices_of, settled_in, settled_with, steps_of}
use Rattle.row_relax.specs.Settle.{are_held, are_single, is_lawful, only_point, settled}
use Rattle.row_relax.specs.Steps.{floor_by, row_steps, shown_if, view_by}
use Rattle.row_relax.specs.View.{domains_of, view_of}
use Rattle.row_relax.specs.laws.Lawful.{true_lawful}
use Rattle.log_lines.specs.declared.grammar.Limits.{Limits}
use Rattle.log_lines.specs.TextDefect.{log_text_defect}
use Rattle.proof_log.specs.declared.claim.Claim.{Claim}
use Rattle.proof_log.specs.declared.claim.Claim.TheVariants.{Optimal, Infeasible, Between, Below}
use Rattle.proof_log.specs.OneText.{IsLogOver}
use Rattle.valid_log.specs.Meaning.{CappedDefect, ClaimDefect, HasDefect, HaveNone, IsProved, ItemDefect, PointDefect, RowSteps}
use Rattle.valid_log.specs.Verdict.{IsLog, IsSoundLog, IsValidLog, limits_of}
use Rattle.sum_slots.specs.declared.sum.Sum.{Sum}
use Rattle.sum_slots.specs.Larger.{IsWithSums, sum_domain, sum_tag}
use Rattle.sum_slots.proofs.Lanes.{changeovers-with_lane}
use Rattle.derivations.specs.declared.derivation.Derivation.{Derivation}
use Rattle.derivations.specs.Growth.{Growth, after_all}
use Rattle.derivations.specs.Larger.{IsWithDerivations, grown_by, met}
use Rattle.setup_slots.specs.Larger.{IsWithSetups, setup_domain}
use Rattle.setup_slots.specs.Rows.{profit_entries, setup_row, setup_rows}
use Rattle.setup_slots.specs.Several.{AreSetUp}
use Rattle.setup_slots.specs.Slots.{setup_slots}
use Rattle.valid_log.specs.Heads.{IsWithHead, head_domains, wide_domains}

-- programs have the same rows, root and profit
pub record AreOneShape (a b : Program) : Type 0 where
  pub rows : a.rows ≡ b.rows
  pub root : a.root ≡ b.root
  pub profit : a.profit ≡ b.profit
  pub base : a.base ≡ b.base

-- besides, lawful points are worth the same over them
pub record IsAlike (a b : Program) : Type 0 where
  pub shape : AreOneShape a b
  pub worth : (point : List ℕ) → IsLawful a point → worth_of a point ≡ worth_of b point

-- rows have the same shape, and points are judged alike
pub record AreAlike (a b : Rows) : Type 0 where
  pub shape : AreOneShape a.program b.program
  pub choices : IsAlike (choices_of a) (choices_of b)
  pub settled : (domains : List Domain) → settled_in a domains ≡ settled_in b domains

-- ---- programs with the same sums

-- a program with sums charges a point as the one without them charges its first values
same_costs : (program larger : Program) (ranges : List Domain) (sums : List Sum) (point : List ℕ) → IsWithSums program ranges sums larger → length program.root ≤ length point
    → changeovers larger.changes larger.tags point ≡ changeovers program.changes program.tags (take (length program.root) point)
same_costs program larger ranges sums point w long =
    let n = length program.root in
    let tags = program.tags ++ map (λ (s : Sum). sum_tag w.lane) sums in
    ap (λ cs. changeovers cs larger.tags point) w.changes ∙ ap (λ ts. changeovers program.changes ts point) w.tags
    ∙ ap (changeovers program.changes tags) (sym (take-append-drop n point))
    ∙ changeovers-with_lane program.changes program.tags w.lane sums (take n point) (drop n point) w.free (length-take-le n point long ∙ sym program.one_tag)

-- points that are long enough are worth the same over two programs with the same sums
same_worths : (program a b : Program) (ranges : List Domain) (sums : List Sum) → IsWithSums program ranges sums a → IsWithSums program ranges sums b → (point : List ℕ) → length program.root ≤ length point → worth_of a point ≡ worth_of b point
same_worths program a b ranges sums w w2 point long =
    let profit : a.profit ≡ b.profit = w.profit ∙ sym w2.profit in
    let base : a.base ≡ b.base = w.base ∙ sym w2.base in
    let costs = same_costs program a ranges sums point w long ∙ sym (same_costs program b ranges sums point w2 long) in
    λ i. (base i +ℤ entries_sum (profit i) point) -ℤ pos (costs i)

-- a point is worth the same over a program with derivations as over the one without them
derived_worth : (given larger : Program) (domains : List Domain) (derivations : List Derivation) → IsWithDerivations given domains derivations larger → (point : List ℕ) → worth_of larger point ≡ worth_of given point
derived_worth given larger domains derivations w point = λ i. (w.base i +ℤ entries_sum (w.profit i) point) -ℤ pos (changeovers (w.changes i) (w.tags i) point)

-- a lawful point has a value for each slot of the program without sums
long_enough : (program larger : Program) (judged : List Domain) (sums : List Sum) (point : List ℕ) → IsWithSums program judged sums larger → IsLawful larger point → length program.root ≤ length point
long_enough program larger judged sums point w lawful = omega (arith, lawful.lies.same_length, ap length w.root, length-append program.root (map (sum_domain program judged) sums))

-- so has one of a program with derivations besides
long_derived : (program between larger : Program) (judged domains : List Domain) (sums : List Sum) (derivations : List Derivation) (point : List ℕ) → IsWithSums program judged sums between → IsWithDerivations between domains derivations larger → IsLawful larger point
    → length program.root ≤ length point
long_derived program between larger judged domains sums derivations point w d lawful =
    omega (arith, lawful.lies.same_length, larger.one_tag, ap length d.tags, between.one_tag, ap length w.root, length-append program.root (map (sum_domain program judged) sums))

-- two programs with the same sums are alike
pub sums_alike : (program a b : Program) (judged : List Domain) (sums : List Sum) → IsWithSums program judged sums a → IsWithSums program judged sums b → IsAlike a b
sums_alike program a b judged sums w w2 = record {
  shape = record { rows = w.rows ∙ sym w2.rows; root = w.root ∙ sym w2.root; profit = w.profit ∙ sym w2.profit; base = w.base ∙ sym w2.base };
  worth = λ point lawful. same_worths program a b judged sums w w2 point (long_enough program a judged sums point w lawful);
}

-- programs of one shape have it with the same derivations
derived_shape : (one other a b : Program) (domains : List Domain) (derivations : List Derivation) → AreOneShape one other → IsWithDerivations one domains derivations a → IsWithDerivations other domains derivations b → AreOneShape a b
derived_shape one other a b domains derivations same d d2 =
    let grown : grown_by one domains derivations ≡ grown_by other domains derivations = ap (λ (rs : List Row). after_all (record { rows = rs; domains = domains }) derivations) same.rows in
    record {
      rows = d.rows ∙ ap (λ (g : Growth). g.rows) grown ∙ sym d2.rows;
      root = d.root ∙ ap₂ met same.root (ap (λ (g : Growth). g.domains) grown) ∙ sym d2.root;
      profit = d.profit ∙ same.profit ∙ sym d2.profit;
      base = d.base ∙ same.base ∙ sym d2.base;
    }

-- so have they with the setup of a unit
setup_shape : (plant : Plant) (unit : ℕ) (one other a b : Program) → AreOneShape one other → IsWithSetups plant unit one a → IsWithSetups plant unit other b → AreOneShape a b
setup_shape plant unit one other a b same w w2 =
    let count : length one.root ≡ length other.root = ap length same.root in
    record {
      rows = w.rows ∙ ap₂ (λ (rs : List Row) (n : ℕ). rs ++ map (setup_row plant unit n) (setup_rows plant unit)) same.rows count ∙ sym w2.rows;
      root = w.root ∙ ap (λ (ds : List Domain). ds ++ map (λ slot. setup_domain) (setup_slots plant unit)) same.root ∙ sym w2.root;
      profit = w.profit ∙ ap₂ (λ (es : List Entry) (n : ℕ). es ++ profit_entries plant unit n) same.profit count ∙ sym w2.profit;
      base = w.base ∙ same.base ∙ sym w2.base;
    }

-- and with those of units
pub setups_shape : (plant : Plant) (units : List ℕ) (one other a b : Program) → AreOneShape one other → AreSetUp plant units one a → AreSetUp plant units other b → AreOneShape a b
setups_shape plant [] one other a b same w w2 = record {
  rows = ap (λ (p : Program). p.rows) w ∙ same.rows ∙ sym (ap (λ (p : Program). p.rows) w2);
  root = ap (λ (p : Program). p.root) w ∙ same.root ∙ sym (ap (λ (p : Program). p.root) w2);
  profit = ap (λ (p : Program). p.profit) w ∙ same.profit ∙ sym (ap (λ (p : Program). p.profit) w2);
  base = ap (λ (p : Program). p.base) w ∙ same.base ∙ sym (ap (λ (p : Program). p.base) w2);
}
setups_shape plant (unit ∷ units) one other a b same w w2 = setups_shape plant units w.0 w2.0 a b (setup_shape plant unit one other w.0 w2.0 same w.1.0 w2.1.0) w.1.1 w2.1.1

-- two programs with the same sums and derivations are alike
derived_alike : (program one other a b : Program) (judged domains : List Domain) (sums : List Sum) (derivations : List Derivation) → IsWithSums program judged sums one → IsWithSums program judged sums other
    → IsWithDerivations one domains derivations a → IsWithDerivations other domains derivations b → IsAlike a b
derived_alike program one other a b judged domains sums derivations w w2 d d2 = record {
  shape = derived_shape one other a b domains derivations (sums_alike program one other judged sums w w2).shape d d2;
  worth = λ point lawful.
      derived_worth one a domains derivations d point
      ∙ same_worths program one other judged sums w w2 point (long_derived program one a judged domains sums derivations point w d lawful)
      ∙ sym (derived_worth other b domains derivations d2 point);
}

-- what a program grows to in a version: itself in version 3, and in version 4 itself with derivations
abbrev pub IsGrownIn : ℕ → Program → List Domain → List Derivation → Program → Type 0
IsGrownIn version given domains derivations larger = ((version ≡ 3) × (larger ≡ given)) ⊎ ((version ≡ 4) × IsWithDerivations given domains derivations larger)

-- a head's rows, where it has setups or not
pub grown_in : (plant : Plant) (version : ℕ) (program : Program) (judged : List Domain) (sums : List Sum) (units : List ℕ) (derivations : List Derivation) (rows : Rows) (is : IsWithHead plant version program judged sums units derivations rows)
    → IsGrownIn version is.wide (wide_domains plant program judged sums units) derivations rows.program
grown_in plant version program judged sums units derivations rows is = by is.grown
  where
    by : ((version ≡ 3) × (units ≡ []) × (rows.program ≡ is.wide)) ⊎ ((version ≡ 4) × IsWithDerivations is.wide (wide_domains plant program judged sums units) derivations rows.program)
        → IsGrownIn version is.wide (wide_domains plant program judged sums units) derivations rows.program
    by (inl three) = inl (three.0, three.2)
    by (inr four) = inr four

-- the shapes that two programs grow to
grown_shape : (version : ℕ) (one other a b : Program) (domains : List Domain) (derivations : List Derivation) → AreOneShape one other → IsGrownIn version one domains derivations a → IsGrownIn version other domains derivations b → AreOneShape a b
grown_shape version one other a b domains derivations same (inl three) (inl also) = subst (λ (p : Program). AreOneShape p b) (sym three.1) (subst (AreOneShape one) (sym also.1) same)
grown_shape version one other a b domains derivations same (inl three) (inr also) = absurd (omega (arith, three.0, also.0))
grown_shape version one other a b domains derivations same (inr four) (inl also) = absurd (omega (arith, four.0, also.0))
grown_shape version one other a b domains derivations same (inr four) (inr also) = derived_shape one other a b domains derivations same four.1 also.1

-- two programs that grow from those with the same sums are alike
grown_alike : (version : ℕ) (program one other a b : Program) (judged domains : List Domain) (sums : List Sum) (derivations : List Derivation) → IsWithSums program judged sums one → IsWithSums program judged sums other
    → IsGrownIn version one domains derivations a → IsGrownIn version other domains derivations b → IsAlike a b
grown_alike version program one other a b judged domains sums derivations w w2 (inl three) (inl also) = subst (λ (p : Program). IsAlike p b) (sym three.1) (subst (IsAlike one) (sym also.1) (sums_alike program one other judged sums w w2))
grown_alike version program one other a b judged domains sums derivations w w2 (inl three) (inr also) = absurd (omega (arith, three.0, also.0))
grown_alike version program one other a b judged domains sums derivations w w2 (inr four) (inl also) = absurd (omega (arith, four.0, also.0))
grown_alike version program one other a b judged domains sums derivations w w2 (inr four) (inr also) = derived_alike program one other a b judged domains sums derivations w w2 four.1 also.1

-- ---- the same steps

-- a point is lawful over the one where it is over the other
lawful_alike : (a b : Program) (point : List ℕ) → IsAlike a b → IsLawful a point → IsLawful b point
lawful_alike a b point same lawful = record {
  lies = subst (λ (ds : List Domain). LiesIn ds point) same.shape.root lawful.lies;
  keeps = subst (λ (rows : List Row). All (IsKept point) rows) same.shape.rows lawful.keeps;
}

-- the same, the other way round
turned_shape : (a b : Program) → AreOneShape a b → AreOneShape b a
turned_shape a b same = record { rows = sym same.rows; root = sym same.root; profit = sym same.profit; base = sym same.base }

turned : (a b : Program) → IsAlike a b → IsAlike b a
turned a b same =
    let back : (point : List ℕ) → IsLawful b point → IsLawful a point = λ point lawful. record {
      lies = subst (λ (ds : List Domain). LiesIn ds point) (sym same.shape.root) lawful.lies;
      keeps = subst (λ (rows : List Row). All (IsKept point) rows) (sym same.shape.rows) lawful.keeps;
    } in
    record { shape = turned_shape a b same.shape; worth = λ point lawful. sym (same.worth point (back point lawful)) }

-- certificates have the same caps
same_cap : (a b : Program) (domains : List Domain) (cert : Cert) → AreOneShape a b → cert_cap a domains cert ≡ cert_cap b domains cert
same_cap a b domains cert same = λ i.
    scaled_cap cert.scale
    (if is_fit (length (same.rows i)) cert && list_all (λ (domain : Domain). nat_lt 0 (count_of domain)) domains
    then Some (((pos cert.scale *ℤ same.base i) +ℤ limits_sum (same.rows i) cert.mults) +ℤ slots_total (λ slot value. (pos cert.scale *ℤ entry_at (same.profit i) slot value) -ℤ rows_at (same.rows i) cert.mults slot value) 0 domains)
    else None)

-- floors count alike, and leave the same
same_floor : (a b : Program) (domains : List Domain) (cert : Cert) (floor : Option ℤ) → AreOneShape a b → floor_by a domains cert floor ≡ floor_by b domains cert floor
same_floor a b domains cert None same = refl
same_floor a b domains cert (Some floor) same = λ i. if is_fit (length (same.rows i)) cert && list_all (λ (domain : Domain). nat_lt 0 (count_of domain)) domains then Some floor else None

same_trimmed : (a b : Program) (domains : List Domain) (cert : Cert) (floor : ℤ) → AreOneShape a b → trimmed a domains cert floor ≡ trimmed b domains cert floor
unfolding trimmed
same_trimmed a b domains cert floor same = λ i.
    let gained : ℕ → ℕ → ℤ = λ slot value. (pos cert.scale *ℤ entry_at (same.profit i) slot value) -ℤ rows_at (same.rows i) cert.mults slot value in
    let total = ((pos cert.scale *ℤ same.base i) +ℤ limits_sum (same.rows i) cert.mults) +ℤ slots_total gained 0 domains in
    if is_fit (length (same.rows i)) cert && list_all (λ (domain : Domain). nat_lt 0 (count_of domain)) domains
    then each_passing (λ slot value. int_le (pos cert.scale *ℤ (floor +ℤ pos 1)) ((total -ℤ greatest (gained slot) (values_of (domain_at domains slot))) +ℤ gained slot value)) 0 domains
    else domains

same_left : (a b : Program) (view : View) (cert : Cert) (floor : Option ℤ) → AreOneShape a b → view_by a view cert floor ≡ view_by b view cert floor
same_left a b view cert None same = refl
same_left a b view cert (Some floor) same = ap view_of (same_trimmed a b (domains_of view) cert floor same)

-- a choice whose number is only compared where both tests hold
same_choice : (s t : Bool) (x y : ℤ) → (t ≡ true → x ≡ y) → (if s then (if t then AtMost x else NoPoint) else Bad) ≡ (if s then (if t then AtMost y else NoPoint) else Bad)
same_choice false t x y is = refl
same_choice true false x y is = refl
same_choice true true x y is = ap AtMost (is refl)

-- domains with one point have the same cap
same_settled : (a b : Program) (domains : List Domain) → IsAlike a b → settled a domains ≡ settled b domains
unfolding settled
same_settled a b domains same =
    let p = only_point domains in
    same_choice (are_single domains) (is_lawful a p) (worth_of a p) (worth_of b p) (λ is. same.worth p (true_lawful a p is))
    ∙ (λ i. if are_single domains then (if are_held (same.shape.root i) p && list_all (λ (row : Row). int_le (entries_sum row.entries p) row.limit) (same.shape.rows i) then AtMost (worth_of b p) else NoPoint) else Bad)

-- rows of a head with setups, and without
settled_apart : (a b program other : Program) (domains : List Domain) → IsAlike program other → settled_with a (Some program) domains ≡ settled_with b (Some other) domains
settled_apart a b program other domains same = ap (λ (n : ℕ). settled program (take n domains)) (ap length same.shape.root) ∙ same_settled program other (take (length other.root) domains) same

-- rows with the sums, setups and derivations of one head are alike
pub alike : (plant : Plant) (version : ℕ) (program : Program) (judged : List Domain) (sums : List Sum) (units : List ℕ) (derivations : List Derivation) (a b : Rows) → IsWithHead plant version program judged sums units derivations a
    → IsWithHead plant version program judged sums units derivations b → AreAlike a b
alike plant version program judged sums [] derivations a b w w2 =
    let domains = head_domains program judged sums in
    let first = subst (λ (p : Program). IsGrownIn version p domains derivations a.program) w.with_setups (grown_in plant version program judged sums [] derivations a w) in
    let second = subst (λ (p : Program). IsGrownIn version p domains derivations b.program) w2.with_setups (grown_in plant version program judged sums [] derivations b w2) in
    let same = grown_alike version program w.between w2.between a.program b.program judged domains sums derivations w.with_sums w2.with_sums first second in
    record {
      shape = same.shape;
      choices =
          subst (λ (c : Option Program). IsAlike (unwrap_or c a.program) (choices_of b)) (sym w.choices)
          (subst (λ (c : Option Program). IsAlike a.program (unwrap_or c b.program)) (sym w2.choices) same);
      settled = λ ds.
          ap (λ (c : Option Program). settled_with a.program c ds) w.choices ∙ same_settled a.program b.program ds same ∙ sym (ap (λ (c : Option Program). settled_with b.program c ds) w2.choices);
    }
alike plant version program judged sums (unit ∷ units) derivations a b w w2 =
    let same = sums_alike program w.between w2.between judged sums w.with_sums w2.with_sums in
    let wide = setups_shape plant (unit ∷ units) w.between w2.between w.wide w2.wide same.shape w.with_setups w2.with_setups in
    record {
      shape =
          grown_shape version w.wide w2.wide a.program b.program (wide_domains plant program judged sums (unit ∷ units)) derivations wide
          (grown_in plant version program judged sums (unit ∷ units) derivations a w) (grown_in plant version program judged sums (unit ∷ units) derivations b w2);
      choices =
          subst (λ (c : Option Program). IsAlike (unwrap_or c a.program) (choices_of b)) (sym w.choices)
          (subst (λ (c : Option Program). IsAlike w.between (unwrap_or c b.program)) (sym w2.choices) same);
      settled = λ ds.
          ap (λ (c : Option Program). settled_with a.program c ds) w.choices ∙ settled_apart a.program b.program w.between w2.between ds same
          ∙ sym (ap (λ (c : Option Program). settled_with b.program c ds) w2.choices);
    }

-- the steps are the same
same_steps : (a b : Rows) → AreAlike a b → steps_of a ≡ steps_of b
unfolding row_steps
same_steps a b same = λ i. record {
  cut = λ view cut. shown_if (nat_lt cut.row (length (same.shape.rows i)) && nat_lt cut.slot (length (domains_of view))) (cut_domains (row_at (same.shape.rows i) cut.row) cut.slot (domains_of view));
  left = (steps_of a).left;
  right = (steps_of a).right;
  empty = (steps_of a).empty;
  cap = λ view cert. same_cap a.program b.program (domains_of view) cert same.shape i;
  settle = λ view. same.settled (domains_of view) i;
  floor = λ view pick cert. same_floor a.program b.program (domains_of view) cert pick.floor same.shape i;
  trim = λ view pick cert. same_left a.program b.program view cert pick.floor same.shape i;
}

-- ---- the same logs

-- a point has a defect over the one where it has it over the other
point_defect : (a b : Program) (value : ℤ) (point : List ℕ) (kind : ℕ) → IsAlike a b → PointDefect a value point kind → PointDefect b value point kind
point_defect a b value point kind same (inl none) = inl (none.0, λ lawful. none.1 (lawful_alike b a point (turned a b same) lawful))
point_defect a b value point kind same (inr other) = inr (other.0, lawful_alike a b point same other.1, λ is. other.2 (same.worth point other.1 ∙ is))

-- so has a claim
capped_defect : (a b : Program) (proof_cap : Capped) (value most : ℤ) (point : List ℕ) (kind : ℕ) → IsAlike a b → CappedDefect a proof_cap value most point kind → CappedDefect b proof_cap value most point kind
capped_defect a b proof_cap value most point kind same (inl has) = inl (point_defect a b value point kind same has)
capped_defect a b proof_cap value most point kind same (inr above) = inr (above.0, (lawful_alike a b point same above.1.0, sym (same.worth point above.1.0) ∙ above.1.1), above.2)

claim_defect : (a b : Program) (proof_cap : Capped) (claim : Claim) (kind : ℕ) → IsAlike a b → ClaimDefect a proof_cap claim kind → ClaimDefect b proof_cap claim kind
claim_defect a b proof_cap (Optimal profit point) kind same has = capped_defect a b proof_cap profit profit point kind same has
claim_defect a b proof_cap Infeasible kind same has = has
claim_defect a b proof_cap (Between profit most point) kind same has = capped_defect a b proof_cap profit most point kind same has
claim_defect a b proof_cap (Below most) kind same has = has

-- so has an item
item_defect : (s : RowSteps) (a b : Program) (v : View) (item : RowItem) (kind : ℕ) → IsAlike a b → ItemDefect s a v item kind → ItemDefect s b v item kind
item_defect s a b v Node kind same has = has
item_defect s a b v (Cut cut) kind same has = has
item_defect s a b v (Found found) kind same has = point_defect a b found.value found.point kind same has
item_defect s a b v Empty kind same has = has
item_defect s a b v (Dual cert) kind same has = has
item_defect s a b v Point kind same has = has
item_defect s a b v (Pending cert) kind same has = has
item_defect s a b v (Split pick cert) kind same has = has

has_defect : (s : RowSteps) (a b : Program) (outcome : Outcome RowPick) (item : RowItem) (kind : ℕ) → IsAlike a b → HasDefect s a outcome item kind → HasDefect s b outcome item kind
has_defect s a b (going stage) item kind same has = item_defect s a b stage.view item kind same has
has_defect s a b (ended proof_cap) item kind same has = has
has_defect s a b undefined item kind same has = has
has_defect s a b misplaced item kind same has = has

have_none : (s : RowSteps) (a b : Program) (outcome : Outcome RowPick) (items : List RowItem) → IsAlike a b → HaveNone s a outcome items → HaveNone s b outcome items
have_none s a b outcome [] same none = tt
have_none s a b outcome (item ∷ items) same none = (λ kind has. none.0 kind (has_defect s b a outcome item kind (turned a b same) has), have_none s a b (after s outcome item) items same none.1)

-- the items of a proof lead to the same cap
pub proved_alike : (a b : Rows) (items : List RowItem) (proof_cap : Capped) → AreAlike a b → IsProved (steps_of a) (choices_of a) (view_of a.program.root) items proof_cap → IsProved (steps_of b) (choices_of b) (view_of b.program.root) items proof_cap
proved_alike a b items proof_cap same proved =
    let steps = same_steps a b same in
    let c = choices_of a in
    let sound : HaveNone (steps_of b) c (start (view_of b.program.root)) items =
    subst (λ (s : RowSteps). HaveNone s c (start (view_of b.program.root)) items) steps (subst (λ (ds : List Domain). HaveNone (steps_of a) c (start (view_of ds)) items) same.shape.root proved.sound) in
    let led : walked (steps_of b) (start (view_of b.program.root)) items ≡ ended proof_cap =
    subst (λ (s : RowSteps). walked s (start (view_of b.program.root)) items ≡ ended proof_cap) steps
    (subst (λ (ds : List Domain). walked (steps_of a) (start (view_of ds)) items ≡ ended proof_cap) same.shape.root proved.led) in
    record { sound = have_none (steps_of b) c (choices_of b) (start (view_of b.program.root)) items same.choices sound; led = led }

-- a proof and a claim without a defect have none
sound_alike : (a b : Rows) (tree : RowTree) (claim : Claim) → AreAlike a b → IsSoundLog a tree claim → IsSoundLog b tree claim
sound_alike a b tree claim same sound = record {
  proof_cap = sound.proof_cap;
  proved = proved_alike a b (tree_items tree) sound.proof_cap same sound.proved;
  sound = λ kind has. sound.sound kind (claim_defect (choices_of b) (choices_of a) sound.proof_cap claim kind (turned (choices_of a) (choices_of b) same.choices) has);
}

-- a text is that of the same log
pub log_alike : (a b : Rows) (bytes : List ℕ) (tree : RowTree) (claim : Claim) → AreAlike a b → IsLog a bytes tree claim → IsLog b bytes tree claim
log_alike a b bytes tree claim same is = record { version = is.version; text = is.text; over = subst (λ (ds : List Domain). IsLogOver (length ds) is.version tree claim) same.choices.shape.root is.over }

-- a valid log over the one is a valid log over the other
pub valid_alike : (a b : Rows) (depth : ℕ) (bytes : List ℕ) (claim : Claim) → AreAlike a b → IsValidLog a depth bytes claim → IsValidLog b depth bytes claim
valid_alike a b depth bytes claim same valid =
    let limits : limits_of a depth ≡ limits_of b depth = λ i. record { rows = length (same.shape.rows i); slots = length (same.shape.root i); points = length (same.choices.shape.root i); depth = depth } in
    record {
      clean = subst (λ (l : Limits). log_text_defect l bytes ≡ None) limits valid.clean;
      valid = record {
        tree = valid.valid.tree;
        is_log = log_alike a b bytes valid.valid.tree claim same valid.valid.is_log;
        sound_log = sound_alike a b valid.valid.tree claim same valid.valid.sound_log;
      };
    }
