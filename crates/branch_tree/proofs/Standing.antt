-- Where a search stands after cuts, and in the parts of a split.
use Rattle.std.proofs.Common.{◌≡◌, ◌≢◌, ℕ, ◌+◌, ◌<◌, ◌≤◌, Bool, true, false, ◌&&◌, cond, eqb, ltb, List, [], ◌∷◌, ◌++◌, length, map, take, get_or, Option, Some, None, option_to_list, refl, sym, ap, ◌∙◌, subst, arith, inl, inr}
use Rattle.std.specs.Prelude.{ℤ, pos, int_lt, ◌≤ℤ◌, IfSome}
use Rattle.std.specs.Int.{int_div_euclid}
use Rattle.std.proofs.lemmas.Bool.Decides.{nat_tests}
use Rattle.std.specs.List.{All, Any, list_all, list_any}
use Rattle.std.proofs.lemmas.Bool.{lt-ltb}
use Rattle.std.proofs.lemmas.Int.{ints}
use Rattle.std.proofs.lemmas.List.{get_or_default, length-take}
use Rattle.std.proofs.lemmas.List.Elements.{All-head}
use Rattle.std.proofs.lemmas.List.Sums.{list_all-from_AllPass}
use Rattle.row_kit.specs.declared.domain.Domain.{Domain}
use Rattle.row_kit.specs.declared.found.Found.{Found}
use Rattle.row_kit.specs.declared.program.Program.{Program}
use Rattle.row_kit.specs.declared.row.Row.{Row}
use Rattle.row_kit.specs.Area.{present}
use Rattle.row_kit.specs.Domain.{IsBare, IsOpen, count_of, no_values, over, up_to}
use Rattle.row_kit.specs.Points.{points_of}
use Rattle.row_kit.proofs.PointCounts.{points-bare, points-open, points-kept_le}
use Rattle.range_prop.specs.Cut.{is_bare}
use Rattle.range_prop.specs.Cuts.{HasRoom, HaveRoom, HaveRoomBut}
use Rattle.range_prop.proofs.Looks.{open_none}
use Rattle.range_prop.proofs.Rooms.{HaveRoomBut-kept_at}
use Rattle.dual_bound.specs.declared.cert.Cert.{Cert}
use Rattle.dual_bound.specs.Cap.{cert_cap, scaled_cap}
use Rattle.dual_bound.specs.Total.{has_total, is_fit, total_of}
use Rattle.proof_tree.specs.declared.capped.Capped.TheVariants.{AtMost, NoPoint, Bad}
use Rattle.proof_tree.specs.Views.{KeepsViews, MovesTo, View, present as last_view}
use Rattle.row_relax.specs.declared.pick.RowPick.{RowPick}
use Rattle.row_relax.specs.Steps.{kept_at, row_steps, shown_if}
use Rattle.row_relax.specs.View.{Fits, domains_of, points_in, view_of}
use Rattle.row_relax.specs.laws.Laws.{rows_sound}
use Rattle.row_relax.specs.laws.Shown.{domains_there}
use Rattle.row_relax.proofs.Marks.{domains-views}
use Rattle.row_relax.proofs.PointCounts.{points-both}
use Rattle.row_relax.specs.Choices.{choices_of, steps_of}
use Rattle.branch_tree.specs.declared.reached.Ground.{Ground}
use Rattle.branch_tree.specs.declared.reached.Reached.{Reached}
use Rattle.branch_tree.specs.Justified.{IsGroup, IsParted}
use Rattle.branch_tree.specs.Searched.{IsBest}
use Rattle.branch_tree.specs.laws.Ends.{view_splits}
use Rattle.branch_tree.specs.laws.Grounds.{IsOwnBest, IsSplitPart, IsSplitAt, StandsIn, program_of, seen, slot_alone, rows_of, choices_at, IsAmong}
use Rattle.branch_tree.proofs.Depths.{CutsLeave, splits-left, splits-right}
use Rattle.branch_tree.proofs.Opened.{none_bare-open}

-- after its cuts a search stands in the view that they leave
pub stands_after : (ground : Ground) (v w : View) (old new : Reached) → StandsIn ground v old → CutsLeave (program_of ground) v w
    → length new.point.items ≡ length old.point.items → new.changed ≡ None → new.own ≡ old.own → new.depth ≡ old.depth → StandsIn ground w new
stands_after ground v w old new stands leave places changed own depth = record {
  indexed = stands.indexed;
  fits = leave.fits;
  places = places ∙ stands.places;
  deep = omega (arith, stands.deep, leave.splits, depth);
  room = subst (λ o. IfSome o (λ slot. (slot < length (program_of ground).root) × HaveRoomBut (program_of ground).rows (slot ∷ []) (domains_of w))) (sym changed) tt;
  own = subst (λ o. IfSome o (λ found. IsGroup (choices_at ground) found × IsAmong (rows_of ground) w found.point)) (sym own) (kept old.own stands.own);
}
  where
    kept : (o : Option Found) → IfSome o (λ found. IsGroup (choices_at ground) found × IsAmong (rows_of ground) v found.point) → IfSome o (λ found. IsGroup (choices_at ground) found × IsAmong (rows_of ground) w found.point)
    kept None is = tt
    kept (Some f) is = (is.0, (is.1.0, is.1.1, leave.keeps is.1.0 is.1.2 is.1.1.lawful))

-- and in a view with no more splits, where it has no point of its own to offer
pub stands_on : (ground : Ground) (v w : View) (old new : Reached) → StandsIn ground v old → Fits (program_of ground) w → view_splits w ≤ view_splits v
    → length new.point.items ≡ length old.point.items → new.changed ≡ None → new.own ≡ None → new.depth ≡ old.depth → StandsIn ground w new
stands_on ground v w old new stands fits splits places changed own depth = record {
  indexed = stands.indexed;
  fits = fits;
  places = places ∙ stands.places;
  deep = omega (arith, stands.deep, splits, depth);
  room = subst (λ o. IfSome o (λ slot. (slot < length (program_of ground).root) × HaveRoomBut (program_of ground).rows (slot ∷ []) (domains_of w))) (sym changed) tt;
  own = subst (λ o. IfSome o (λ found. IsGroup (choices_at ground) found × IsAmong (rows_of ground) w found.point)) (sym own) tt;
}

-- what is best later is worth as much as one's own too
pub own_later : (own mid new : Option Found) (later : List Found) → IsOwnBest own mid → IsBest new (option_to_list mid ++ later) → IsOwnBest own new
own_later None mid new later first last = tt
own_later (Some f) None new later first last = absurd first
own_later (Some f) (Some m) None later first last = absurd (some_left m later last)
  where
    some_left : (x : Found) (xs : List Found) → x ∷ xs ≡ [] → ⊥
    some_left x xs same = cc
own_later (Some f) (Some m) (Some n) later first last =
    let low : m.value ≤ℤ n.value = All-head (λ g. g.value ≤ℤ n.value) m later last.1 in
    omega (arith, ints, first, low)

-- a call that leads somewhere
pub moved_to : (next : Option View) (old new : List View) (answer : Bool) (x : View) → next ≡ Some x → MovesTo next old new answer → (next ≡ Some (last_view new)) × KeepsViews old new
moved_to next old new true x there moves = moves
moved_to next old new false x there moves = absurd (some_none next x there moves.0)
  where
    some_none : (o : Option View) (y : View) → o ≡ Some y → o ≡ None → ⊥
    some_none o y some none = cc

-- views that keep others are no fewer
pub kept_length : (old new : List View) → KeepsViews old new → length old ≤ length new
kept_length old new keeps = omega (arith, length-take (length old) new, ap length keeps)

-- the parts of a split are there
pub left_there : {given : ℕ} (program : Program) (v : View) (pick : RowPick) → IsParted given (domains_of v) pick → (x : View) × ((row_steps program).left v pick ≡ Some x)
unfolding row_steps
left_there program v pick parts = (_, ap (λ there. shown_if there (kept_at (domains_of v) pick.slot (up_to pick.max))) (lt-ltb pick.slot (length (domains_of v)) parts.slot))

pub right_there : {given : ℕ} (program : Program) (v : View) (pick : RowPick) → IsParted given (domains_of v) pick → (x : View) × ((row_steps program).right v pick ≡ Some x)
unfolding row_steps
right_there program v pick parts = (_, ap (λ there. shown_if there (kept_at (domains_of v) pick.slot (over pick.max))) (lt-ltb pick.slot (length (domains_of v)) parts.slot))

-- a call led to what the second area shows, and the views of the first stay
abbrev pub LedTo : Option View → List (List Domain) → List (List Domain) → Type 0
LedTo next old new = (next ≡ Some (seen new)) × KeepsViews (map view_of old) (map view_of new)

-- going back to a mark gives the views that stood there
pub back_at : (old first later back : List View) (mark : ℕ) → mark + 1 ≡ length old → KeepsViews old first → later ≡ first → back ≡ take (mark + 1) later → back ≡ old
back_at old first later back mark at keeps same is = is ∙ ap (take (mark + 1)) same ∙ ap (λ n. take n first) at ∙ keeps

-- the left part of a split was taken
pub left_moved : {given : ℕ} (program : Program) (area first : List (List Domain)) (pick : RowPick) (answer : Bool) → IsParted given (domains_of (seen area)) pick → MovesTo ((row_steps program).left (seen area) pick) (map view_of area) (map view_of first) answer
    → LedTo ((row_steps program).left (seen area) pick) area first
left_moved program area first pick answer parts moves =
    let there = left_there program (seen area) pick parts in
    moved_to ((row_steps program).left (seen area) pick) (map view_of area) (map view_of first) answer there.0 there.1 moves

-- the left part of a split was taken, and after a search in it the right one
pub record PartsMoved (program : Program) (area first second : List (List Domain)) (pick : RowPick) : Type 0 where
  pub left : LedTo ((row_steps program).left (seen area) pick) area first
  pub right : LedTo ((row_steps program).right (seen area) pick) area second

pub parts_moved : {given : ℕ} (program : Program) (area first later back second : List (List Domain)) (pick : RowPick) (answer answer2 : Bool) (mark : ℕ) → IsParted given (domains_of (seen area)) pick
    → MovesTo ((row_steps program).left (seen area) pick) (map view_of area) (map view_of first) answer → mark + 1 ≡ length (map view_of area) → map view_of later ≡ map view_of first → map view_of back ≡ take (mark + 1) (map view_of later)
    → MovesTo ((row_steps program).right (seen back) pick) (map view_of back) (map view_of second) answer2 → PartsMoved program area first second pick
parts_moved program area first later back second pick answer answer2 mark parts moves at same is moves2 =
    let left = left_moved program area first pick answer parts moves in
    let there = right_there program (seen area) pick parts in
    let again : map view_of back ≡ map view_of area = back_at (map view_of area) (map view_of first) (map view_of later) (map view_of back) mark at left.1 same is in
    record {
      left = left;
      right = moved_to ((row_steps program).right (seen area) pick) (map view_of area) (map view_of second) answer2 there.0 there.1
          (subst (λ views. MovesTo ((row_steps program).right (last_view views) pick) views (map view_of second) answer2) again moves2);
    }

-- the domains of the parts of a split
left_domains : (program : Program) (v x : View) (pick : RowPick) → (row_steps program).left v pick ≡ Some x → domains_of x ≡ kept_at (domains_of v) pick.slot (up_to pick.max)
unfolding row_steps
left_domains program v x pick is = domains_there (ltb pick.slot (length (domains_of v))) (kept_at (domains_of v) pick.slot (up_to pick.max)) x is

right_domains : (program : Program) (v x : View) (pick : RowPick) → (row_steps program).right v pick ≡ Some x → domains_of x ≡ kept_at (domains_of v) pick.slot (over pick.max)
unfolding row_steps
right_domains program v x pick is = domains_there (ltb pick.slot (length (domains_of v))) (kept_at (domains_of v) pick.slot (over pick.max)) x is

-- where a part of a domain's slot is open, no domain is empty
part_open : (ds : List Domain) (slot : ℕ) (d : Domain) → All IsOpen (kept_at ds slot d) → Any IsBare ds → ⊥
part_open ds slot d each bare =
    let some = points-open (kept_at ds slot d) each in
    let fewer = points-kept_le ds slot d in
    let none = points-bare ds bare.0 bare.2 (ap count_of (get_or_default ds bare.0 no_values bare.1 bare.2 ∙ bare.3) ∙ bare.4) in
    omega (arith, some, fewer, none)

-- so each row has room
rooms_of : (rows : List Row) (ds : List Domain) (slot : ℕ) (d : Domain) → All IsOpen (kept_at ds slot d) → HaveRoom rows ds → All (HasRoom ds) rows
rooms_of rows ds slot d each room = elim room [ inl bare ↦ absurd (part_open ds slot d each bare) | inr rooms ↦ rooms ]

-- a fit certificate of scale 1 or more has a cap where no domain is empty
capped_open : (program : Program) (ds : List Domain) (cert : Cert) → is_fit (length program.rows) cert ≡ true → 1 ≤ cert.scale → All IsOpen ds → cert_cap program ds cert ≢ Bad
capped_open program ds cert fit scale each = at (has_total program ds cert) (both (is_fit (length program.rows) cert) (list_all (λ (d : Domain). ltb 0 (count_of d)) ds) fit (list_all-from_AllPass (λ (d : Domain). ltb 0 (count_of d)) ds (λ k d lt. lt-ltb 0 (count_of (get_or ds k d)) (each k d lt))))
  where
    both : (a b : Bool) → a ≡ true → b ≡ true → (a && b) ≡ true
    both a b e h = cc

    apart : false ≡ true → ⊥
    apart same = cc

    never_bad : (n : ℤ) → AtMost n ≡ Bad → ⊥
    never_bad n same = cc

    by_scale : (z : Bool) → eqb cert.scale 0 ≡ z → cond z (cond (int_lt (total_of program ds cert) (pos 0)) NoPoint Bad) (AtMost (int_div_euclid (total_of program ds cert) (pos cert.scale))) ≡ Bad → ⊥
    by_scale true e = absurd (grind (arith, nat_tests))
    by_scale false e = never_bad (int_div_euclid (total_of program ds cert) (pos cert.scale))

    at : (b : Bool) → b ≡ true → scaled_cap cert.scale (cond b (Some (total_of program ds cert)) None) ≢ Bad
    at false is = λ same. apart is
    at true is = by_scale (eqb cert.scale 0) refl

-- what follows for the slot of a split, where it has no floor
alone : (floor : Option ℤ) (slot : ℕ) (P : Type 0) (Q : ℕ → Type 0) → (P → Q slot) → IfSome (slot_alone floor slot) (λ s. P) → IfSome (slot_alone floor slot) Q
alone None slot P Q follows p = follows p
alone (Some n) slot P Q follows p = tt

-- the left part of a split
pub left_stands : (ground : Ground) (v x : View) (pick : RowPick) (cert : Cert) (old new : Reached) → StandsIn ground v old → IfSome (slot_alone pick.floor pick.slot) (λ slot. HaveRoom (program_of ground).rows (domains_of v)) → IsSplitAt (program_of ground) ground.given v pick cert
    → (steps_of (rows_of ground)).left v pick ≡ Some x → length new.point.items ≡ length old.point.items → new.changed ≡ slot_alone pick.floor pick.slot → new.own ≡ None → new.depth ≡ old.depth + 1 → StandsIn ground x new
left_stands ground v x pick cert old new stands room cause moved places changed own depth =
    let rows = rows_of ground in
    let ds = domains_of v in
    let rooms = λ (all : HaveRoom rows.program.rows ds). HaveRoomBut-kept_at rows.program.rows ds pick.slot (up_to pick.max) cause.parted.slot (rooms_of rows.program.rows ds pick.slot (up_to pick.max) cause.parted.left all) in
    record {
      indexed = stands.indexed;
      fits = (rows_sound rows.program).left_fits v x pick stands.fits moved;
      places = places ∙ stands.places;
      deep = omega (arith, stands.deep, splits-left rows.program v x pick cause.parted moved, depth);
      room = subst (λ o. IfSome o (λ slot. (slot < length rows.program.root) × HaveRoomBut rows.program.rows (slot ∷ []) (domains_of x))) (sym changed)
          (alone pick.floor pick.slot (HaveRoom rows.program.rows ds) (λ slot. (slot < length rows.program.root) × HaveRoomBut rows.program.rows (slot ∷ []) (domains_of x))
          (λ all. (subst (λ n. pick.slot < n) stands.fits.slots cause.parted.slot, subst (λ (xs : List Domain). HaveRoomBut rows.program.rows (pick.slot ∷ []) xs) (sym (left_domains rows.program v x pick moved)) (rooms all)))
          room);
      own = subst (λ o. IfSome o (λ found. IsGroup (choices_of rows) found × IsAmong rows x found.point)) (sym own) tt;
    }

pub right_stands : (ground : Ground) (v x : View) (pick : RowPick) (cert : Cert) (old new : Reached) → StandsIn ground v old → IfSome (slot_alone pick.floor pick.slot) (λ slot. HaveRoom (program_of ground).rows (domains_of v)) → IsSplitAt (program_of ground) ground.given v pick cert
    → (steps_of (rows_of ground)).right v pick ≡ Some x → length new.point.items ≡ length old.point.items → new.changed ≡ slot_alone pick.floor pick.slot → new.own ≡ None → new.depth ≡ old.depth + 1 → StandsIn ground x new
right_stands ground v x pick cert old new stands room cause moved places changed own depth =
    let rows = rows_of ground in
    let ds = domains_of v in
    let rooms = λ (all : HaveRoom rows.program.rows ds). HaveRoomBut-kept_at rows.program.rows ds pick.slot (over pick.max) cause.parted.slot (rooms_of rows.program.rows ds pick.slot (over pick.max) cause.parted.right all) in
    record {
      indexed = stands.indexed;
      fits = (rows_sound rows.program).right_fits v x pick stands.fits moved;
      places = places ∙ stands.places;
      deep = omega (arith, stands.deep, splits-right rows.program v x pick cause.parted moved, depth);
      room = subst (λ o. IfSome o (λ slot. (slot < length rows.program.root) × HaveRoomBut rows.program.rows (slot ∷ []) (domains_of x))) (sym changed)
          (alone pick.floor pick.slot (HaveRoom rows.program.rows ds) (λ slot. (slot < length rows.program.root) × HaveRoomBut rows.program.rows (slot ∷ []) (domains_of x))
          (λ all. (subst (λ n. pick.slot < n) stands.fits.slots cause.parted.slot, subst (λ (xs : List Domain). HaveRoomBut rows.program.rows (pick.slot ∷ []) xs) (sym (right_domains rows.program v x pick moved)) (rooms all)))
          room);
      own = subst (λ o. IfSome o (λ found. IsGroup (choices_of rows) found × IsAmong rows x found.point)) (sym own) tt;
    }

-- a part whose domains are open is a part of the split
part_is : {given : ℕ} (program : Program) (v x : View) (ds : List Domain) (pick : RowPick) (cert : Cert) → IsSplitAt program given v pick cert → domains_of x ≡ ds → All IsOpen ds → IsSplitPart program x cert
unfolding row_steps
part_is program v x ds pick cert cause same each =
    record {
      some = subst (λ (xs : List Domain). list_any is_bare xs ≡ false) (sym same) (open_none ds each);
      capped = subst (λ (xs : List Domain). cert_cap program xs cert ≢ Bad) (sym same) (capped_open program ds cert cause.fit cause.scale each);
    }

pub left_is : {given : ℕ} (program : Program) (v x : View) (pick : RowPick) (cert : Cert) → IsSplitAt program given v pick cert → (row_steps program).left v pick ≡ Some x → IsSplitPart program x cert
left_is program v x pick cert cause moved = part_is program v x (kept_at (domains_of v) pick.slot (up_to pick.max)) pick cert cause (left_domains program v x pick moved) cause.parted.left

pub right_is : {given : ℕ} (program : Program) (v x : View) (pick : RowPick) (cert : Cert) → IsSplitAt program given v pick cert → (row_steps program).right v pick ≡ Some x → IsSplitPart program x cert
right_is program v x pick cert cause moved = part_is program v x (kept_at (domains_of v) pick.slot (over pick.max)) pick cert cause (right_domains program v x pick moved) cause.parted.right

-- each part has fewer points
pub parts_fewer : {given : ℕ} (program : Program) (v x y : View) (pick : RowPick) → Fits program v → IsParted given (domains_of v) pick → (row_steps program).left v pick ≡ Some x → (row_steps program).right v pick ≡ Some y → (points_in x < points_in v) × (points_in y < points_in v)
parts_fewer program v x y pick fit parts left right =
    let both : points_in x + points_in y ≡ points_in v = points-both program v x y pick fit left right in
    let some_x : 0 < points_in x = subst (λ (ds : List Domain). 0 < points_of ds) (sym (left_domains program v x pick left)) (points-open (kept_at (domains_of v) pick.slot (up_to pick.max)) parts.left) in
    let some_y : 0 < points_in y = subst (λ (ds : List Domain). 0 < points_of ds) (sym (right_domains program v y pick right)) (points-open (kept_at (domains_of v) pick.slot (over pick.max)) parts.right) in
    (omega arith, omega arith)

-- a part that has points has no empty domain
pub part_each_open : (program : Program) (marks : List (List Domain)) → (row_steps program).empty (seen marks) ≡ false → All IsOpen (present marks)
unfolding row_steps
part_each_open program marks some = none_bare-open (present marks) (subst (λ (ds : List Domain). list_any is_bare ds ≡ false) (domains-views marks) some)
