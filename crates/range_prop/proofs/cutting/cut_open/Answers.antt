-- The slot's own entry and the room tell what the cut leaves.
use Rattle.std.proofs.Common.{Bool, ◌≡◌, ◌∙◌, ℕ, ℤ, not, List, length, sym, ap, arith, ◌-ℤ◌, to_z, of_z}
use Rattle.std.specs.Prelude.{int_le}
use Rattle.std.proofs.lemmas.Int.{ints}
use Rattle.row_kit.specs.declared.domain.Domain.{Domain}
use Rattle.row_kit.specs.declared.row.Entry.{Entry}
use Rattle.row_kit.specs.Area.{is_same, present, with_domain}
use Rattle.row_kit.specs.Domain.{domain_at}
use Rattle.row_kit.specs.Row.{counted, entry_at}
use Rattle.row_kit.proofs.Ascending.{few_entries}
use Rattle.range_prop.specs.Cut.{cut_domain, kept_of, least_others}
use Rattle.range_prop.proofs.CutLaws.{cut_is, moved, moved_back}
use Rattle.range_prop.proofs.cutting.cut_open.Goals as goal
use mir.Syntax.{w128}

pub least_others-requires-clause-few : goal.least_others-requires-clause-few
least_others-requires-clause-few c =
    omega (arith, ap length c.as_slice-entries.ensures, few_entries (length (present c.args.area.now)) 10000000 c.args.row.now.entries c.requires.bounded.entries, c.requires.few)

-- what the slot's own entry counts, and the room
own_is : (c : goal.After-keep_allowed) → (v : ℕ) → entry_at c.args.row.now.entries c.args.slot v ≡ counted c.own_entry-own.result v
own_is c v = ap (λ (es : List Entry). entry_at es c.args.slot v) (sym c.as_slice-entries.ensures) ∙ c.own_entry-own.ensures.value v

abbrev room : goal.After-keep_allowed → ℤ
room c = to_z w128 (of_z w128 (to_z w128 (of_z w128 c.args.row.now.limit) -ℤ to_z w128 (of_z w128 c.least_others.result)))

room_is : (c : goal.After-keep_allowed) → room c ≡ c.args.row.now.limit -ℤ least_others c.args.row.now.entries c.args.slot (present c.args.area.now)
room_is c =
    let exact : room c ≡ c.args.row.now.limit -ℤ c.least_others.result = omega (arith, ints, c.least_others.ensures.small, c.requires.bounded.limit) in
    exact ∙ ap (λ (x : ℤ). c.args.row.now.limit -ℤ x) (c.least_others.ensures.value ∙ ap (λ (es : List Entry). least_others es c.args.slot (present c.args.area.now)) c.as_slice-entries.ensures)

left : (c : goal.After-keep_allowed) → cut_domain c.args.row.now c.args.slot (present c.args.area.now) ≡ kept_of (λ v. int_le (counted c.own_entry-own.result v) (room c)) (domain_at (present c.args.area.now) c.args.slot)
left c = cut_is c.args.row.now c.args.slot (present c.args.area.now) c.own_entry-own.result (room c) c.requires.open_ (own_is c) (room_is c)

along : (a b c : List (List Domain)) → a ≡ b → b ≡ c → a ≡ c
along a b c e f = e ∙ f

pub returns-clause-marks : goal.returns-clause-marks
returns-clause-marks c =
    let kept = kept_of (λ (v : ℕ). int_le (counted c.own_entry-own.result v) (room c)) (domain_at (present c.args.area.now) c.args.slot) in
    along c.keep_allowed.new.area (with_domain c.args.area.now c.args.slot kept) (with_domain c.args.area.now c.args.slot (cut_domain c.args.row.now c.args.slot (present c.args.area.now)))
    (rw c.own_entry-own.ensures.slot at c.keep_allowed.ensures.marks) (ap (with_domain c.args.area.now c.args.slot) (sym (left c)))

pub returns-clause-values : goal.returns-clause-values
returns-clause-values c = λ v.
    let values = rw c.own_entry-own.ensures.slot at c.keep_allowed.ensures.values v in
    let own = entry_at c.args.row.now.entries c.args.slot v in
    let others = least_others c.args.row.now.entries c.args.slot (present c.args.area.now) in (
      λ h. ((values.0 h).0, moved_back own (counted c.own_entry-own.result v) others c.args.row.now.limit (room c) (own_is c v) (room_is c) (values.0 h).1),
      λ h. values.1 (h.0, moved own (counted c.own_entry-own.result v) others c.args.row.now.limit (room c) (own_is c v) (room_is c) h.1),
    )

told : (r a b : Bool) → r ≡ not a → a ≡ b → r ≡ not b
told r a b e f = e ∙ ap not f

pub returns-clause-shrank : goal.returns-clause-shrank
returns-clause-shrank c =
    let kept = kept_of (λ (v : ℕ). int_le (counted c.own_entry-own.result v) (room c)) (domain_at (present c.args.area.now) c.args.slot) in
    told c.keep_allowed.result (is_same (domain_at (present c.args.area.now) c.args.slot) kept) (is_same (domain_at (present c.args.area.now) c.args.slot) (cut_domain c.args.row.now c.args.slot (present c.args.area.now)))
    (rw c.own_entry-own.ensures.slot at c.keep_allowed.ensures.shrank) (ap (is_same (domain_at (present c.args.area.now) c.args.slot)) (sym (left c)))
