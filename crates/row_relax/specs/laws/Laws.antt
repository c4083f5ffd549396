-- Stands in specs/ since the relaxation that `Rows` is names it as its law; it is a proof, and no definition.
-- The rows of a program keep the laws of a relaxation.
use Rattle.std.proofs.Common.{◌≡◌, ℕ, min, take, ◌<◌, ◌≤◌, Bool, true, false, ◌&&◌, cond, ltb, List, length, get_or, set, refl, sym, ap, ◌∙◌, subst, inl, inr, ◌⊎◌, ⊎_elim, arith, Option, Some, None, ℤ, pos, ◌-ℤ◌, ◌≤ℤ◌}
use Rattle.std.specs.Int.{int_min}
use Rattle.std.specs.Int.Signed.{≤ℤ_refl}
use Rattle.std.specs.List.{All}
use Rattle.std.proofs.lemmas.Bool.{and_parts, cases_lt, eqb-true, ltb-true}
use Rattle.std.proofs.lemmas.Int.{int_min_is, ints}
use Rattle.std.proofs.lemmas.List.{length-set, length-take, get_or_default, get_or-take}
use Rattle.std.proofs.lemmas.List.Elements.{All-set}
use Rattle.std.proofs.lemmas.List.Folds.{Any-from_list_any}
use Rattle.row_kit.specs.Row.{no_row, row_at}
use Rattle.row_kit.specs.declared.domain.Domain.{Domain}
use Rattle.row_kit.specs.declared.program.Program.{Program}
use Rattle.row_kit.specs.Change.{changeovers}
use Rattle.row_kit.specs.Domain.{Holds, IsNormal, count_of, domain_at, no_values, over, shared, up_to}
use Rattle.row_kit.specs.Point.{IsLawful, LiesIn, value_of, worth_of}
use Rattle.row_kit.proofs.Marks.{LiesIn-set}
use Rattle.range_prop.specs.Cut.{cut_domain, cut_domains, is_bare}
use Rattle.range_prop.proofs.CutLaws.{cut_keeps, cut_normal}
use Rattle.range_prop.proofs.Least.{held_open}
use Rattle.dual_bound.specs.Cap.{CapHolds, cert_cap}
use Rattle.proof_tree.specs.declared.capped.Capped.{Capped}
use Rattle.proof_tree.specs.declared.capped.Capped.TheVariants.{AtMost, NoPoint, Bad}
use Rattle.proof_tree.specs.Cap.{Bounds, IsWithinFloor}
use Rattle.proof_tree.specs.Relaxation.{IsSound}
use Rattle.proof_tree.specs.Views.{View, Point}
use Rattle.row_relax.specs.declared.rows.Rows.{Rows}
use Rattle.row_relax.specs.Choices.{IsLawfulIn, IsLawfulWith, settled_by, settled_with, steps_of, worth_in, worth_with}
use Rattle.row_relax.specs.Settle.{are_single, is_lawful, only_point, settled}
use Rattle.row_kit.specs.Points.{kept_at}
use Rattle.row_relax.specs.Steps.{floor_by, row_steps, shown_if, view_by}
use Rattle.row_relax.specs.View.{Fits, IsIn, domains_of, view_of}
use Rattle.row_relax.specs.laws.Lawful.{lawful_true, true_lawful}
use Rattle.row_kit.proofs.Parts.{held_byte, over_holds, shared_holds, shared_normal, up_to_holds}
use Rattle.dual_bound.specs.declared.cert.Cert.{Cert}
use Rattle.dual_bound.specs.Total.{has_total}
use Rattle.dual_bound.specs.Trimmed.{trimmed}
use Rattle.dual_bound.proofs.Floors.{trimmed_keeps, trimmed_length, trimmed_normal, trimmed_without}
use Rattle.dual_bound.proofs.Quotients.{cert_cap-holds}
use Rattle.row_relax.specs.laws.Shown.{domains_of-view_of, domains_there, fits_of, shown_there}
use Rattle.row_relax.specs.laws.Singles.{single_point}

-- a step that gives one slot a normal domain leads to a view that fits
one_fits : (program : Program) (v w : View) (there : Bool) (slot : ℕ) (d : Domain) → Fits program v → IsNormal d → shown_if there (set (domains_of v) slot d) ≡ Some w → Fits program w
one_fits program v w there slot d fit normal' is =
    let ds = domains_of v in
    subst (Fits program) (shown_there there (set ds slot d) w is).1 (fits_of program (set ds slot d) (length-set ds slot d ∙ fit.slots) (All-set IsNormal ds slot d normal' fit.normal))

in_part : (v w : View) (there : Bool) (slot : ℕ) (d : Domain) (p : Point) → slot < length (domains_of v) → IsIn v p → Holds d (get_or p slot 0) → shown_if there (set (domains_of v) slot d) ≡ Some w → IsIn w p
in_part v w there slot d p lt lies held is = subst (λ (ds : List Domain). LiesIn ds p) (sym (domains_there there (set (domains_of v) slot d) w is)) (LiesIn-set (domains_of v) p slot d lt lies held)

some_not_none : (there : Bool) (a b : List Domain) (w : View) → shown_if there a ≡ Some w → shown_if there b ≡ None → ⊥
some_not_none true a b w e h = absurd (cc)
some_not_none false a b w e h = absurd (cc)

within : (a b c : ℤ) → a ≤ℤ b → b ≤ℤ c → a ≤ℤ c
within a b c low high = omega (arith, ints)

-- what a point is worth is at most its value
worth_below : (program : Program) (p : Point) → worth_of program p ≤ℤ value_of program p
worth_below program p = less (value_of program p) (changeovers program.changes program.tags p)
  where
    less : (value : ℤ) (n : ℕ) → (value -ℤ pos n) ≤ℤ value
    less value n = omega (arith, ints)

-- what domains settle to bounds the worth of every lawful point
settled-bounds : (program : Program) (ds : List Domain) → All IsNormal ds → Bounds (LiesIn ds) (IsLawful program) (worth_of program) (settled program ds)
unfolding settled
settled-bounds program ds normal' = by_single (are_single ds) refl
  where
    clash : false ≡ true → ⊥
    clash h = cc

    by_lawful : (l : Bool) → is_lawful program (only_point ds) ≡ l → are_single ds ≡ true → Bounds (LiesIn ds) (IsLawful program) (worth_of program) (cond l (AtMost (worth_of program (only_point ds))) NoPoint)
    by_lawful true e single = λ p lies lawful. subst (λ (q : Point). worth_of program p ≤ℤ worth_of program q) ((single_point ds normal' single).1 p lies) (≤ℤ_refl (worth_of program p))
    by_lawful false e single = λ p lies lawful. clash (sym e ∙ lawful_true program (only_point ds) (subst (IsLawful program) ((single_point ds normal' single).1 p lies) lawful))

    by_single : (s : Bool) → are_single ds ≡ s → Bounds (LiesIn ds) (IsLawful program) (worth_of program) (cond s (cond (is_lawful program (only_point ds)) (AtMost (worth_of program (only_point ds))) NoPoint) Bad)
    by_single true e = by_lawful (is_lawful program (only_point ds)) refl e
    by_single false e = tt

-- the first of some domains hold the first values of a point
pub lies-take : (n : ℕ) (ds : List Domain) (p : Point) → LiesIn ds p → LiesIn (take n ds) (take n p)
lies-take n ds p lies = record {
  same_length = length-take n p ∙ ap (min n) lies.same_length ∙ sym (length-take n ds);
  held = λ k lt.
      let few : k < min n (length ds) = subst (λ (m : ℕ). k < m) (length-take n ds) lt in
      let first : k < n = omega (arith, few) in
      let there : k < length ds = omega (arith, few) in
      subst (λ (d : Domain). Holds d (get_or (take n p) k 0)) (sym (get_or-take n ds k no_values first)) (subst (Holds (domain_at ds k)) (sym (get_or-take n p k 0 first)) (lies.held k there));
}

-- what the first of some domains settle to bounds the worth of the first values of every point
pub first-bounds : (choices : Program) (ds : List Domain) → All IsNormal ds
    → Bounds (LiesIn ds) (λ p. IsLawful choices (take (length choices.root) p)) (λ p. worth_of choices (take (length choices.root) p)) (settled choices (take (length choices.root) ds))
first-bounds choices ds normal' = along (settled choices (take (length choices.root) ds)) (settled-bounds choices (take (length choices.root) ds) first)
  where
    first : All IsNormal (take (length choices.root) ds)
    first k d lt =
        let few : k < min (length choices.root) (length ds) = subst (λ (m : ℕ). k < m) (length-take (length choices.root) ds) lt in
        subst IsNormal (sym (get_or-take (length choices.root) ds k d (omega (arith, few)))) (normal' k d (omega (arith, few)))

    along : (cap : Capped) → Bounds (LiesIn (take (length choices.root) ds)) (IsLawful choices) (worth_of choices) cap
        → Bounds (LiesIn ds) (λ p. IsLawful choices (take (length choices.root) p)) (λ p. worth_of choices (take (length choices.root) p)) cap
    along (AtMost most) bound = λ p lies lawful. bound (take (length choices.root) p) (lies-take (length choices.root) ds p lies) lawful
    along NoPoint bound = λ p lies lawful. bound (take (length choices.root) p) (lies-take (length choices.root) ds p lies) lawful
    along Bad bound = tt

-- what a floor leaves fits
left_fits_by : (program : Program) (v : View) (cert : Cert) (floor : Option ℤ) → Fits program v → Fits program (view_by program v cert floor)
left_fits_by program v cert None fit = fit
left_fits_by program v cert (Some floor) fit =
    let ds = domains_of v in
    fits_of program (trimmed program ds cert floor) (trimmed_length program ds cert floor ∙ fit.slots) (trimmed_normal program ds cert floor fit.normal)

-- a lawful point is left, or its value is at most the floor that counts
left_keeps_by : (program : Program) (v : View) (cert : Cert) (floor : Option ℤ) (p : Point) → IsIn v p → IsLawful program p → IsIn (view_by program v cert floor) p ⊎ IsWithinFloor (floor_by program (domains_of v) cert floor) (value_of program p)
left_keeps_by program v cert None p lies lawful = inl lies
left_keeps_by program v cert (Some floor) p lies lawful = by_total (has_total program (domains_of v) cert) refl
  where
    shown : LiesIn (trimmed program (domains_of v) cert floor) p → IsIn (view_of (trimmed program (domains_of v) cert floor)) p
    shown = subst (λ (xs : List Domain). LiesIn xs p) (sym (domains_of-view_of (trimmed program (domains_of v) cert floor)))

    by_total : (b : Bool) → has_total program (domains_of v) cert ≡ b → IsIn (view_of (trimmed program (domains_of v) cert floor)) p ⊎ IsWithinFloor (cond b (Some floor) None) (value_of program p)
    by_total true e =
        ⊎_elim
        (λ (left : LiesIn (trimmed program (domains_of v) cert floor) p). inl (shown left))
        (λ (most : value_of program p ≤ℤ floor). inr most)
        (trimmed_keeps program (domains_of v) cert floor p e lies lawful.keeps)
    by_total false e = inl (shown (subst (λ (xs : List Domain). LiesIn xs p) (sym (trimmed_without program (domains_of v) cert floor e)) lies))

-- where every lawful point is so in the program, and is worth at most its value, rows keep the laws with any way to settle that bounds it
module _ (program : Program) (Lawful : Point → Type 0) (worth : Point → ℤ) (lawful_there : (p : Point) → Lawful p → IsLawful program p) (below : (p : Point) → worth p ≤ℤ value_of program p) where
  -- a cap of values is a cap of worths
  caps_worth : (ds : List Domain) (cap : Capped) → CapHolds program ds cap → Bounds (LiesIn ds) Lawful worth cap
  caps_worth ds (AtMost n) holds = λ p lies lawful. within (worth p) (value_of program p) n (below p) (holds p lies (lawful_there p lawful).keeps)
  caps_worth ds NoPoint holds = λ p lies lawful. holds p lies (lawful_there p lawful).keeps
  caps_worth ds Bad holds = tt

  within_floor : (floor : Option ℤ) (p : Point) → IsWithinFloor floor (value_of program p) → IsWithinFloor floor (worth p)
  within_floor None p is = is
  within_floor (Some floor) p is = within (worth p) (value_of program p) floor (below p) is

  pub settled_sound : (settle : View → Capped) → ((v : View) → Fits program v → Bounds (IsIn v) Lawful worth (settle v)) → IsSound (settled_by program settle) (Fits program) IsIn Lawful worth
  unfolding row_steps
  settled_sound settle bounding = record {
    cut_fits = λ v w u fit is.
        let ds = domains_of v in
        let row = row_at program.rows u.row in
        let there = ltb u.row (length program.rows) && ltb u.slot (length ds) in
        let lt = ltb-true u.slot (length ds) (and_parts (ltb u.row (length program.rows)) (ltb u.slot (length ds)) (shown_there there (cut_domains row u.slot ds) w is).0).1 in
        one_fits program v w there u.slot (cut_domain row u.slot ds) fit (cut_normal row u.slot ds (fit.normal u.slot no_values lt)) is;
    left_fits = λ v w k fit is.
        let ds = domains_of v in
        let there = ltb k.slot (length ds) in
        let lt = ltb-true k.slot (length ds) (shown_there there (kept_at ds k.slot (up_to k.max)) w is).0 in
        one_fits program v w there k.slot (shared (domain_at ds k.slot) (up_to k.max)) fit (shared_normal (domain_at ds k.slot) (up_to k.max) (fit.normal k.slot no_values lt)) is;
    right_fits = λ v w k fit is.
        let ds = domains_of v in
        let there = ltb k.slot (length ds) in
        let lt = ltb-true k.slot (length ds) (shown_there there (kept_at ds k.slot (over k.max)) w is).0 in
        one_fits program v w there k.slot (shared (domain_at ds k.slot) (over k.max)) fit (shared_normal (domain_at ds k.slot) (over k.max) (fit.normal k.slot no_values lt)) is;
    parts_alike = λ v w k fit is none. some_not_none (ltb k.slot (length (domains_of v))) (kept_at (domains_of v) k.slot (up_to k.max)) (kept_at (domains_of v) k.slot (over k.max)) w is none;
    cut_keeps = λ v w u fit is p lies lawful.
        let ds = domains_of v in
        let row = row_at program.rows u.row in
        let there = ltb u.row (length program.rows) && ltb u.slot (length ds) in
        let parts = and_parts (ltb u.row (length program.rows)) (ltb u.slot (length ds)) (shown_there there (cut_domains row u.slot ds) w is).0 in
        let in_rows = ltb-true u.row (length program.rows) parts.0 in
        let lt = ltb-true u.slot (length ds) parts.1 in
        let named = subst (λ (n : ℕ). All (λ e. e.slot < n) row.entries) (sym fit.slots) (program.rows_bounded u.row no_row in_rows).entries.named in
        subst (λ (xs : List Domain). LiesIn xs p) (sym (domains_there there (cut_domains row u.slot ds) w is))
        (cut_keeps row u.slot ds p lt (fit.normal u.slot no_values lt) named lies ((lawful_there p lawful).keeps u.row no_row in_rows));
    parts_cover = λ v w x k fit left right p lies.
        let ds = domains_of v in
        let there = ltb k.slot (length ds) in
        let lt = ltb-true k.slot (length ds) (shown_there there (kept_at ds k.slot (up_to k.max)) w left).0 in
        let d = domain_at ds k.slot in
        let value = get_or p k.slot 0 in
        let held = lies.held k.slot lt in
        ⊎_elim
        (λ (above : k.max < value). inr (in_part v x there k.slot (shared d (over k.max)) p lt lies (shared_holds d (over k.max) value held (over_holds k.max value above (held_byte d value (fit.normal k.slot no_values lt) held))) right))
        (λ (at_most : value ≤ k.max). inl (in_part v w there k.slot (shared d (up_to k.max)) p lt lies (shared_holds d (up_to k.max) value held (up_to_holds k.max value at_most)) left))
        (cases_lt k.max value);
    empty_holds = λ v fit is p lies.
        let ds = domains_of v in
        let bare = Any-from_list_any is_bare ds is in
        let none = eqb-true (count_of bare.1) 0 bare.4 in
        let at = get_or_default ds bare.0 bare.1 no_values bare.2 in
        omega (arith, held_open (domain_at ds bare.0) (get_or p bare.0 0) (lies.held bare.0 bare.2), none, ap count_of (sym at ∙ bare.3));
    cap_bounds = λ v c fit. caps_worth (domains_of v) (cert_cap program (domains_of v) c) (cert_cap-holds program (domains_of v) c);
    settles = bounding;
    trim_fits = λ v k c fit. left_fits_by program v c k.floor fit;
    trim_keeps = λ v k c fit p lies lawful.
        ⊎_elim
        (λ (stays : IsIn (view_by program v c k.floor) p). inl stays)
        (λ (most : IsWithinFloor (floor_by program (domains_of v) c k.floor) (value_of program p)). inr (within_floor (floor_by program (domains_of v) c k.floor) p most))
        (left_keeps_by program v c k.floor p lies (lawful_there p lawful));
  }

-- the laws hold of the rows of a program
pub rows_sound : (program : Program) → IsSound (row_steps program) (Fits program) IsIn (IsLawful program) (worth_of program)
unfolding row_steps
rows_sound program = settled_sound program (IsLawful program) (worth_of program) (λ p lawful. lawful) (worth_below program) (λ v. settled program (domains_of v)) (λ v fit. settled-bounds program (domains_of v) fit.normal)

-- the lesser of two numbers is at most each of them
lesser_first : (a b : ℤ) → int_min a b ≤ℤ a
lesser_first a b = omega (arith, ints, int_min_is a b)

lesser_second : (a b : ℤ) → int_min a b ≤ℤ b
lesser_second a b = omega (arith, ints, int_min_is a b)

-- what bounds the worth of first values bounds the lesser of it and another number
lesser-bounds : (P L : Point → Type 0) (value worth : Point → ℤ) (cap : Capped) → Bounds P L worth cap → Bounds P L (λ p. int_min (value p) (worth p)) cap
lesser-bounds P L value worth (AtMost n) bound = λ p lies lawful. within (int_min (value p) (worth p)) (worth p) n (lesser_second (value p) (worth p)) (bound p lies lawful)
lesser-bounds P L value worth NoPoint bound = bound
lesser-bounds P L value worth Bad bound = tt

-- what bounds lawful points bounds fewer of them
fewer-bounds : (P L M : Point → Type 0) (worth : Point → ℤ) (cap : Capped) → ((p : Point) → M p → L p) → Bounds P L worth cap → Bounds P M worth cap
fewer-bounds P L M worth (AtMost n) fewer bound = λ p lies lawful. bound p lies (fewer p lawful)
fewer-bounds P L M worth NoPoint fewer bound = λ p lies lawful. bound p lies (fewer p lawful)
fewer-bounds P L M worth Bad fewer bound = tt

-- the laws hold of rows, whatever their points are judged by
sound_with : (program : Program) (choices : Option Program) → IsSound (settled_by program (λ v. settled_with program choices (domains_of v))) (Fits program) IsIn (IsLawfulWith program choices) (worth_with program choices)
sound_with program None =
    settled_sound program (IsLawful program) (worth_of program) (λ p lawful. lawful) (worth_below program) (λ v. settled program (domains_of v)) (λ v fit. settled-bounds program (domains_of v) fit.normal)
sound_with program (Some choices) =
    let n = length choices.root in
    let First : Point → Type 0 = λ p. IsLawful choices (take n p) in
    let worth : Point → ℤ = λ p. worth_of choices (take n p) in
    settled_sound program (IsLawfulWith program (Some choices)) (worth_with program (Some choices)) (λ p lawful. lawful.0) (λ p. lesser_first (value_of program p) (worth p)) (λ v. settled choices (take n (domains_of v)))
    (λ v fit.
    let cap = settled choices (take n (domains_of v)) in
    fewer-bounds (IsIn v) First (IsLawfulWith program (Some choices)) (worth_with program (Some choices)) cap (λ p lawful. lawful.1)
    (lesser-bounds (IsIn v) First (value_of program) worth cap (first-bounds choices (domains_of v) fit.normal)))

pub steps_sound : (rows : Rows) → IsSound (steps_of rows) (Fits rows.program) IsIn (IsLawfulIn rows) (worth_in rows)
steps_sound rows = sound_with rows.program rows.choices
